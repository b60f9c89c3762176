-- Whatever was read, some tokens end it.
use Rattle.std.proofs.Common.{Bool, ◌≡◌, ◌∙◌, refl, ℕ, pos, true, false, List, [], ◌∷◌, ◌++◌, Option, Some, None, codes}
use Rattle.pf_base.specs.NumberTexts as front
use Rattle.pf_model.specs.Clauses.{Grouped}
use Rattle.pf_model.specs.declared.functions.AggOp.{AggOp}
use Rattle.pf_model.specs.declared.expr.MatchSign.TheVariants as match
use Rattle.pf_model.specs.Grammar.{Terminal}
use Rattle.pf_model.specs.Grammar as grammar
use Rattle.pf_model.specs.Tokens.{Sort, number, duration, string, sign}
use Rattle.pf_model.specs.Trees.{Tree}
use Rattle.pf_model.specs.Trees as tree
use Rattle.pf_parse.specs.Held.{Held, Target, selector, Read, nothing_read, held_target, held_unary, held_binary, held_aggregate, with_argument, over, over_by}
use Rattle.pf_parse.specs.Reading.{Mode, Frame, State, signed, left, bracket, calling, function, aggregation, Purpose, groups_next, groups, matches, includes, Base, matchers, operand, metric, by_none, labels_read}
use Rattle.pf_parse.specs.Reading as mode
use Rattle.pf_parse.proofs.Behind.{Tail, nothing, closing, terminals, May, signed_alike, left_alike, modified_alike, aggregated_alike, named_alike}
use Rattle.pf_parse.proofs.Goes.{Fit, value, lexemes, on}

pub record Reads (s : State) (us : List Sort) : Type 0 where
  pub held : Held
  pub is : value s (lexemes us) ≡ Some held

reads_as : (s t : State) (us : List Sort) → value s (lexemes us) ≡ value t (lexemes us) → Reads t us → Reads s us
reads_as s t us e r = record { held = r.held; is = e ∙ r.is }

-- the brackets that are open are closed
abbrev closers : List Frame → List Sort
closers [] = []
closers (signed minus ∷ k) = closers k
closers (left op m a ∷ k) = closers k
closers (bracket ∷ k) = sign (codes ")") ∷ closers k
closers (calling c args ∷ k) = sign (codes ")") ∷ closers k

abbrev closing_tail : List Frame → Tail
closing_tail [] = nothing
closing_tail (signed minus ∷ k) = closing_tail k
closing_tail (left op m a ∷ k) = closing_tail k
closing_tail (bracket ∷ k) = closing (terminals (closing_tail k))
closing_tail (calling c args ∷ k) = closing (terminals (closing_tail k))

fit_onto : (zs : List Terminal) (us : List Sort) → Fit zs us → Fit (grammar.sign (codes ")") ∷ zs) (sign (codes ")") ∷ us)
fit_onto zs us f = record { all = (refl, f.all) }

closers_fit : (k : List Frame) → Fit (terminals (closing_tail k)) (closers k)
closers_fit [] = record { all = tt }
closers_fit (signed minus ∷ k) = closers_fit k
closers_fit (left op m a ∷ k) = closers_fit k
closers_fit (bracket ∷ k) = fit_onto _ _ (closers_fit k)
closers_fit (calling c args ∷ k) = fit_onto _ _ (closers_fit k)

closers_may : (l : ℕ) (k : List Frame) → May l (closing_tail k)
closers_may l [] = tt
closers_may l (signed minus ∷ k) = closers_may l k
closers_may l (left op m a ∷ k) = closers_may l k
closers_may l (bracket ∷ k) = tt
closers_may l (calling c args ∷ k) = tt

aggregated_whole : (op : AggOp) (args : Option (List Tree)) (k : List Frame)
    → Reads (on (mode.whole (held_aggregate op by_none args)) k) (closers k) → Reads (on (mode.aggregated op args) k) (closers k)
aggregated_whole op args k r =
    reads_as _ (on (mode.whole (held_aggregate op by_none args)) k) (closers k)
    (aggregated_alike op args k (closing_tail k) (closers k) (closers_may 0 k) (closers_fit k)) r

whole_closed : (e : Held) (k : List Frame) → Reads (on (mode.whole e) k) (closers k)
whole_closed e [] = record { held = e; is = refl }
whole_closed e (signed minus ∷ k) =
    reads_as _ (on (mode.whole (held_unary minus e)) k) (closers k)
    (signed_alike minus e k (closing_tail k) (closers k) (closers_may 1 k) (closers_fit k)) (whole_closed (held_unary minus e) k)
whole_closed e (left op m a ∷ k) =
    reads_as _ (on (mode.whole (held_binary op m a e)) k) (closers k)
    (left_alike op m a e k (closing_tail k) (closers k) (closers_may _ k) (closers_fit k)) (whole_closed (held_binary op m a e) k)
whole_closed e (bracket ∷ k) = reads_as _ (on (mode.whole e) (bracket ∷ k)) _ refl (closed e k (whole_closed e k))
  where
    closed : (e : Held) (k : List Frame) → Reads (on (mode.whole e) k) (closers k)
        → Reads (on (mode.whole e) (bracket ∷ k)) (sign (codes ")") ∷ closers k)
    closed e k r = record { held = r.held; is = r.is }
whole_closed e (calling (function f) args ∷ k) =
    let r = whole_closed (Rattle.pf_parse.specs.Held.held_call f (with_argument args e)) k in record { held = r.held; is = r.is }
whole_closed e (calling (aggregation op (Some g)) args ∷ k) =
    let r = whole_closed (held_aggregate op g (with_argument args e)) k in record { held = r.held; is = r.is }
whole_closed e (calling (aggregation op None) args ∷ k) =
    let r = aggregated_whole op (with_argument args e) k (whole_closed (held_aggregate op by_none (with_argument args e)) k) in
    record { held = r.held; is = r.is }

modified_closed : (t : Option Target) (r : Read) (k : List Frame) → Reads (on (mode.modified t r) k) (closers k)
modified_closed t r k =
    reads_as _ (on (mode.whole (held_target t r)) k) (closers k)
    (modified_alike t r k (closing_tail k) (closers k) (closers_may 0 k) (closers_fit k)) (whole_closed (held_target t r) k)

named_closed : (w : List ℕ) (k : List Frame) → Reads (on (mode.named w) k) (closers k)
named_closed w k =
    reads_as _ (on (mode.modified (Some (selector (metric w ∷ []) None)) nothing_read) k) (closers k)
    (named_alike w k None (record { offset = None; at = None; at_first = false }) (closing_tail k) (closers k) (closers_may 0 k)
    (closers_fit k))
    (modified_closed (Some (selector (metric w ∷ []) None)) nothing_read k)

abbrev nought : Sort
nought = number (pos 0)

abbrev brace : Sort
brace = sign (codes "}")

abbrev square : Sort
square = sign (codes "]")

abbrev operand_and : List Frame → List Sort
operand_and k = nought ∷ closers k

abbrev argument_and : List Frame → List Sort
argument_and k = sign (codes "(") ∷ nought ∷ sign (codes ")") ∷ closers k

abbrev behind_labels : Purpose → List Frame → List Sort
behind_labels (groups_next op without) k = argument_and k
behind_labels (groups op args without) k = closers k
behind_labels (matches op a on) k = operand_and k
behind_labels (includes op m a) k = operand_and k

-- tokens that end what was read
abbrev pub finish : Mode → List Frame → List Sort
finish mode.due k = operand_and k
finish (mode.first_due f) k = sign (codes ")") ∷ closers k
finish (mode.named w) k = closers k
finish (mode.label_due n ms) k = brace ∷ closers k
finish (mode.sign_due n ms l) k = sign (codes "=") ∷ string [] ∷ brace ∷ closers k
finish (mode.text_due n ms l s) k = string [] ∷ brace ∷ closers k
finish (mode.matched n ms) k = brace ∷ closers k
finish (mode.modified t r) k = closers k
finish (mode.offset_due t r) k = duration 1 ∷ closers k
finish (mode.minus_offset_due t r) k = duration 1 ∷ closers k
finish (mode.time_due t r) k = nought ∷ closers k
finish (mode.signed_time_due t r s) k = nought ∷ closers k
finish (mode.end_open_due t r a) k = sign (codes "(") ∷ sign (codes ")") ∷ closers k
finish (mode.end_close_due t r a) k = sign (codes ")") ∷ closers k
finish (mode.range_due b) k = duration 1 ∷ sign (codes ":") ∷ square ∷ closers k
finish (mode.range b d) k = sign (codes ":") ∷ square ∷ closers k
finish (mode.resolution_due e d) k = square ∷ closers k
finish (mode.resolution e d r) k = square ∷ closers k
finish (mode.whole e) k = closers k
finish (mode.operated op a) k = operand_and k
finish (mode.keyed op m a) k = operand_and k
finish (mode.grouped op m a) k = operand_and k
finish (mode.clause_due op) k = argument_and k
finish (mode.arguments_due op g) k = argument_and k
finish (mode.aggregated op args) k = closers k
finish (mode.labels_due p) k = sign (codes "(") ∷ sign (codes ")") ∷ behind_labels p k
finish (mode.labels p ls) k = sign (codes ")") ∷ behind_labels p k
finish (mode.labelled p ls) k = sign (codes ")") ∷ behind_labels p k

abbrev zero_tree : Held
zero_tree = Some (tree.number (pos 0))

with_operand : (k : List Frame) → Reads (on mode.due k) (operand_and k)
with_operand k = let r = whole_closed zero_tree k in record { held = r.held; is = r.is }

with_arguments : (op : AggOp) (g : Grouped) (k : List Frame) → Reads (on (mode.arguments_due op g) k) (argument_and k)
with_arguments op g k = let r = whole_closed (held_aggregate op g (with_argument (Some []) zero_tree)) k in record { held = r.held; is = r.is }

labels_closed : (p : Purpose) (ls : List (List ℕ)) (k : List Frame) → Reads (labels_read p ls k) (behind_labels p k)
labels_closed (groups_next op without) ls k = with_arguments op (record { without = without; labels = ls }) k
labels_closed (groups op args without) ls k = whole_closed (held_aggregate op (record { without = without; labels = ls }) args) k
labels_closed (matches op a is_on) ls k =
    let r = with_operand (left op (record { on = is_on; labels = ls; side = Rattle.pf_model.specs.Grammar.side_of None; include = [] }) a ∷ k) in
    record { held = r.held; is = r.is }
labels_closed (includes op m a) ls k =
    let r = with_operand (left op (record { on = m.on; labels = m.labels; side = m.side; include = ls }) a ∷ k) in
    record { held = r.held; is = r.is }

ranged_closed : (b : Base) (d : Option ℕ) (k : List Frame) → Reads (on (mode.range b d) k) (sign (codes ":") ∷ square ∷ closers k)
ranged_closed (matchers ms) d k = let r = modified_closed (over (mode.base_held (matchers ms)) d) nothing_read k in record { held = r.held; is = r.is }
ranged_closed (operand e) d k = let r = modified_closed (over e d) nothing_read k in record { held = r.held; is = r.is }

timed_closed : (s : Bool) (t : Option Target) (r : Read) (k : List Frame)
    → Reads (on (mode.signed_time_due t r s) k) (nought ∷ closers k)
timed_closed true t r k = let q = modified_closed t (mode.with_at r (mode.time_at front.minus (pos 0))) k in record { held = q.held; is = q.is }
timed_closed false t r k = let q = modified_closed t (mode.with_at r (mode.time_at front.plus (pos 0))) k in record { held = q.held; is = q.is }

-- every state is ended so
pub completed : (m : Mode) (k : List Frame) → Reads (on m k) (finish m k)
completed mode.due k = with_operand k
completed (mode.first_due f) k = let r = whole_closed (Rattle.pf_parse.specs.Held.held_call f (Some [])) k in record { held = r.held; is = r.is }
completed (mode.named w) k = named_closed w k
completed (mode.label_due n ms) k = let r = modified_closed (Some (selector ms None)) nothing_read k in record { held = r.held; is = r.is }
completed (mode.sign_due n ms l) k =
    let r = modified_closed (Some (selector (ms ++ (record { label = l; sign = match.Equal; text = [] } ∷ [])) None)) nothing_read k in
    record { held = r.held; is = r.is }
completed (mode.text_due n ms l s) k =
    let r = modified_closed (Some (selector (ms ++ (record { label = l; sign = s; text = [] } ∷ [])) None)) nothing_read k in
    record { held = r.held; is = r.is }
completed (mode.matched n ms) k = let r = modified_closed (Some (selector ms None)) nothing_read k in record { held = r.held; is = r.is }
completed (mode.modified t r) k = modified_closed t r k
completed (mode.offset_due t r) k =
    let q = modified_closed t (mode.with_offset r (Some (pos 1))) k in record { held = q.held; is = q.is }
completed (mode.minus_offset_due t r) k =
    let q = modified_closed t (mode.with_offset r (Rattle.pf_parse.specs.Held.offset_of true (Some 1))) k in record { held = q.held; is = q.is }
completed (mode.time_due t r) k =
    let q = modified_closed t (mode.with_at r (mode.time_at front.bare (pos 0))) k in record { held = q.held; is = q.is }
completed (mode.signed_time_due t r s) k = timed_closed s t r k
completed (mode.end_open_due t r a) k = let q = modified_closed t (mode.with_at r (Some a)) k in record { held = q.held; is = q.is }
completed (mode.end_close_due t r a) k = let q = modified_closed t (mode.with_at r (Some a)) k in record { held = q.held; is = q.is }
completed (mode.range_due b) k = let q = ranged_closed b (Some 1) k in record { held = q.held; is = q.is }
completed (mode.range b d) k = ranged_closed b d k
completed (mode.resolution_due e d) k = let q = modified_closed (over e d) nothing_read k in record { held = q.held; is = q.is }
completed (mode.resolution e d r) k = let q = modified_closed (over_by e d r) nothing_read k in record { held = q.held; is = q.is }
completed (mode.whole e) k = whole_closed e k
completed (mode.operated op a) k = let r = with_operand (left op mode.no_keys a ∷ k) in record { held = r.held; is = r.is }
completed (mode.keyed op m a) k = let r = with_operand (left op m a ∷ k) in record { held = r.held; is = r.is }
completed (mode.grouped op m a) k = let r = with_operand (left op m a ∷ k) in record { held = r.held; is = r.is }
completed (mode.clause_due op) k =
    let r = aggregated_whole op (with_argument (Some []) zero_tree) k (whole_closed (held_aggregate op by_none (with_argument (Some []) zero_tree)) k) in
    record { held = r.held; is = r.is }
completed (mode.arguments_due op g) k = with_arguments op g k
completed (mode.aggregated op args) k = aggregated_whole op args k (whole_closed (held_aggregate op by_none args) k)
completed (mode.labels_due p) k = let r = labels_closed p [] k in record { held = r.held; is = r.is }
completed (mode.labels p ls) k = let r = labels_closed p ls k in record { held = r.held; is = r.is }
completed (mode.labelled p ls) k = let r = labels_closed p ls k in record { held = r.held; is = r.is }
