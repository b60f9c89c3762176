-- A query that is derived is read, and what is held of it is its own.
use Rattle.std.proofs.Common.{◌≡◌, ◌∙◌, sym, refl, ap, subst, ℕ, ◌≤◌, ◌<◌, Bool, true, false, not, cond, ◌&&◌, List, [], ◌∷◌, ◌++◌, Option, Some, None, IfSome, codes, arith}
use Rattle.std.proofs.lemmas.Bool.{lt-leb}
use Rattle.std.proofs.lemmas.List.{append_assoc, append-nil}
use Rattle.std.specs.Option.{option_map_or, is_none}
use Rattle.pf_lex.specs.declared.token.Mark.TheVariants as mark
use Rattle.pf_model.proofs.Levels.{level_positive}
use Rattle.pf_model.specs.Clauses.{Grouped, Matched}
use Rattle.pf_model.specs.declared.expr.BinaryOp.{BinaryOp}
use Rattle.pf_model.specs.declared.expr.Matcher.{Matcher}
use Rattle.pf_model.specs.declared.functions.AggOp.{AggOp}
use Rattle.pf_model.specs.declared.functions.Sign.{Sign}
use Rattle.pf_model.specs.Grammar.{Terminal, FitAll, Written, Arguments, number, text, brackets, call, aggregate, unary, binary, select, subquery, none, more, absent, before, behind, terminals_of, all_terminals, more_terminals, these, Keys, keys_terminals, Group, group_terminals, bool_terminals, Labels, labels_terminals, without_terminals, before_terminals, behind_terminals, Clause, operator_terminal, level, IsLawful, AreLawful, IsClause, AreKeys, AreLabels, ends_with_group, begins_with_bracket, matched_of, grouped_of, side_of, include_of, labels_of, Modifiers, modifiers_terminals, AreModifiers, selected_terminals, AreSelected, Braces, range_terminals, IsPositive}
use Rattle.pf_model.specs.Grammar as grammar
use Rattle.pf_model.specs.Tokens as token
use Rattle.pf_model.specs.Trees.{Tree}
use Rattle.pf_model.specs.Trees as tree
use Rattle.pf_model.specs.Words.{function_of, level_of, is_comparison, aggregation_word}
use Rattle.pf_parse.specs.declared.keyword.Keyword.TheVariants as keyword
use Rattle.pf_parse.specs.Held.{Held, held_binary, held_call, held_aggregate, with_argument, held_target, Target, selector, nothing_read, ranged, over, over_by}
use Rattle.pf_parse.specs.Lexemes.{word, within_limit, lexeme_of, operates}
use Rattle.pf_parse.specs.Reading.{Frame, State, signed, left, bracket, calling, Callee, function, aggregation, step, due, first_due, named, label_due, whole, modified, operated, keyed, grouped, range_due, range, resolution_due, resolution, clause_due, arguments_due, aggregated, labels_due, labels, groups_next, groups, matches, includes, called, settle, no_keys, labels_read, Purpose, with_side, metric, to_if, operand, matchers, start}
use Rattle.pf_parse.proofs.Behind.{Tail, nothing, closing, separating, operating, squared, terminals, May, may_lower, operator_passes, signed_alike, left_alike, modified_alike, aggregated_alike, named_alike, by_follow, positive}
use Rattle.pf_parse.proofs.Fronts.{fronts_alike, unopened_alike, aggregation_found}
use Rattle.pf_parse.proofs.Goes.{Goes, Fit, value, lexemes, on, one, stays, then, by_mark, by_key, refit}
use Rattle.pf_parse.proofs.Labels.{labels_onto, all_labels}
use Rattle.pf_parse.proofs.ReadOf.{read_of, arguments_of, selected_matchers, selected_target, subquery_target}
use Rattle.pf_parse.proofs.Seen.{at_number, at_string, at_name}
use Rattle.pf_parse.proofs.Selecting.{braces_onto, all_matchers, all_modifiers, read_modifiers, by_millis}

-- what is open leaves room for an operand of a level
abbrev Room : ℕ → List Frame → Type 0
Room l [] = Unit {0}
Room l (signed minus ∷ k) = l ≤ 1
Room l (left op m a ∷ k) = l < level_of op.sign
Room l (bracket ∷ k) = Unit {0}
Room l (calling c args ∷ k) = Unit {0}

room_lower : (l m : ℕ) (k : List Frame) → l ≤ m → Room m k → Room l k
room_lower l m [] h r = tt
room_lower l m (signed minus ∷ k) h r = omega (arith, h, r)
room_lower l m (left op n a ∷ k) h r = omega (arith, h, r)
room_lower l m (bracket ∷ k) h r = tt
room_lower l m (calling c args ∷ k) h r = tt

-- an operator takes nothing that is open where there is room for its operation
stays_open : (s : Sign) (e : Held) (k : List Frame) → Room (level_of s) k → settle (level_of s) e k ≡ record { held = e; stack = k }
stays_open s e [] r = refl
stays_open s e (signed minus ∷ k) r = absurd (omega (arith, r, level_positive s))
stays_open s e (left op m a ∷ k) r =
    ap (λ b. cond b (settle (level_of s) (held_binary op m a e) k) (record { held = e; stack = left op m a ∷ k })) (lt-leb _ _ r)
stays_open s e (bracket ∷ k) r = refl
stays_open s e (calling c args ∷ k) r = refl

operator_goes : (s : Sign) (e : Held) (k : List Frame) (zs : List Terminal) (us : List token.Sort) → Room (level_of s) k
    → Fit (operator_terminal (record { sign = s; with_bool = false }) ∷ zs) us
    → Goes (on (whole e) k) (on (operated (record { sign = s; with_bool = false }) e) k) zs us
operator_goes s e k zs us r h =
    one (on (whole e) k) (on (operated (record { sign = s; with_bool = false }) e) k) _ zs us
    (λ u f. by_follow (operates s) e k (lexeme_of u) (operator_passes s u f).follow
    ∙ ap (λ t. Some (on (operated (record { sign = s; with_bool = false }) t.held) t.stack)) (stays_open s e k r)) h

-- `bool` stands behind comparisons alone
compares : (b c : Bool) → (b && not c) ≡ false → b ≡ true → c ≡ true
compares true true h e = refl
compares true false h e = absurd (grind arith)
compares false c h e = absurd (grind arith)

bool_goes : (s : Sign) (b : Bool) (e : Held) (k : List Frame) (zs : List Terminal) (us : List token.Sort)
    → (b && not (is_comparison s)) ≡ false → Fit (bool_terminals b ++ zs) us
    → Goes (on (operated (record { sign = s; with_bool = false }) e) k) (on (operated (record { sign = s; with_bool = b }) e) k) zs us
bool_goes s false e k zs us c h = stays _ zs us h
bool_goes s true e k zs us c h =
    by_key keyword.Bool (on (operated (record { sign = s; with_bool = false }) e) k)
    (on (operated (record { sign = s; with_bool = true }) e) k) zs us refl
    (λ w. ap (λ b. to_if (b && true) (operated (record { sign = s; with_bool = true }) e) k) (compares true (is_comparison s) c refl)) h

-- ---- keys

abbrev right : BinaryOp → Matched → Held → List Frame → State
right op m a k = on due (left op m a ∷ k)

same_value : {s t r : State} {zs : List Terminal} {us : List token.Sort} → Goes s t zs us
    → ((vs : List token.Sort) → Fit zs vs → value t (lexemes vs) ≡ value r (lexemes vs)) → Goes s r zs us
same_value g f = record { behind = g.behind; fits = g.fits; is = g.is ∙ f g.behind g.fits }

key_labels : (op : BinaryOp) (a : Held) (is_on : Bool) (l : Labels) (k : List Frame) (zs : List Terminal) (us : List token.Sort)
    → AreLabels l → Fit (grammar.key (cond is_on (codes "on") (codes "ignoring")) ∷ (labels_terminals l ++ zs)) us
    → Goes (on (operated op a) k)
    (on (keyed op (record { on = is_on; labels = l.labels; side = side_of None; include = [] }) a) k) zs us
key_labels op a true l k zs us p h =
    then (by_key (keyword.Keys true) (on (operated op a) k) (on (labels_due (matches op a true)) k) _ us refl (λ w. refl) h)
    (λ vs f. then (by_mark mark.Open (on (labels_due (matches op a true)) k) (on (labels (matches op a true) []) k) _ vs refl
    (refit vs (labels_onto l zs) f))
    (λ ws g. all_labels (matches op a true) k l.labels l.comma zs ws p g))
key_labels op a false l k zs us p h =
    then (by_key (keyword.Keys false) (on (operated op a) k) (on (labels_due (matches op a false)) k) _ us refl (λ w. refl) h)
    (λ vs f. then (by_mark mark.Open (on (labels_due (matches op a false)) k) (on (labels (matches op a false) []) k) _ vs refl
    (refit vs (labels_onto l zs) f))
    (λ ws g. all_labels (matches op a false) k l.labels l.comma zs ws p g))

group_key : (op : BinaryOp) (m : Matched) (a : Held) (is_left : Bool) (k : List Frame) (zs : List Terminal) (us : List token.Sort)
    → Fit (grammar.key (cond is_left (codes "group_left") (codes "group_right")) ∷ zs) us
    → Goes (on (keyed op m a) k) (on (grouped op (with_side m is_left) a) k) zs us
group_key op m a true k zs us h =
    by_key (keyword.Group true) (on (keyed op m a) k) (on (grouped op (with_side m true) a) k) zs us refl (λ w. refl) h
group_key op m a false k zs us h =
    by_key (keyword.Group false) (on (keyed op m a) k) (on (grouped op (with_side m false) a) k) zs us refl (λ w. refl) h

abbrev with_include : Matched → List (List ℕ) → Matched
with_include m ls = record { on = m.on; labels = m.labels; side = m.side; include = ls }

include_goes : (op : BinaryOp) (m : Matched) (a : Held) (i : Option Labels) (k : List Frame) (b : Written) (zs : List Terminal) (us : List token.Sort)
    → IfSome i AreLabels → IsLawful b → (is_none i && begins_with_bracket (terminals_of b)) ≡ false → m.include ≡ []
    → Fit (these labels_terminals i ++ (terminals_of b ++ zs)) us
    → Goes (on (grouped op m a) k) (right op (with_include m (labels_of i)) a k) (terminals_of b ++ zs) us
include_goes op m a None k b zs us p l c e h =
    subst (λ ls. Goes (on (grouped op m a) k) (right op (with_include m ls) a k) (terminals_of b ++ zs) us) e
    (same_value (stays (on (grouped op m a) k) (terminals_of b ++ zs) us h)
    (λ vs f. unopened_alike (on (grouped op m a) k) (right op m a k) b zs vs l c (λ x q. q.grouped op m a k) f))
include_goes op m a (Some i) k b zs us p l c e h =
    then (by_mark mark.Open (on (grouped op m a) k) (on (labels (includes op m a) []) k) _ us refl
    (refit us (labels_onto i (terminals_of b ++ zs)) h))
    (λ vs f. all_labels (includes op m a) k i.labels i.comma (terminals_of b ++ zs) vs p f)

group_goes : (op : BinaryOp) (m : Matched) (a : Held) (g : Option Group) (k : List Frame) (b : Written) (zs : List Terminal) (us : List token.Sort)
    → IfSome g (λ g. IfSome g.include AreLabels) → IsLawful b
    → (option_map_or grammar.lacks_labels g false && begins_with_bracket (terminals_of b)) ≡ false
    → m.include ≡ [] → m.side ≡ side_of None
    → Fit (these group_terminals g ++ (terminals_of b ++ zs)) us
    → Goes (on (keyed op m a) k)
    (right op (record { on = m.on; labels = m.labels; side = side_of g; include = include_of g }) a k) (terminals_of b ++ zs) us
group_goes op m a None k b zs us p l c e s h =
    subst (λ i. Goes (on (keyed op m a) k) (right op (record { on = m.on; labels = m.labels; side = side_of None; include = i }) a k) (terminals_of b ++ zs) us) e
    (subst (λ i. Goes (on (keyed op m a) k) (right op (record { on = m.on; labels = m.labels; side = i; include = m.include }) a k) (terminals_of b ++ zs) us) s
    (same_value (stays (on (keyed op m a) k) (terminals_of b ++ zs) us h)
    (λ vs f. fronts_alike (on (keyed op m a) k) (right op m a k) b zs vs l (λ x q. q.keyed op m a k) f)))
group_goes op m a (Some g) k b zs us p l c e s h =
    then (group_key op m a g.left k _ us h)
    (λ vs f. include_goes op (with_side m g.left) a g.include k b zs vs p l c refl f)

keys_goes : (op : BinaryOp) (a : Held) (keys : Option Keys) (k : List Frame) (b : Written) (zs : List Terminal) (us : List token.Sort)
    → IfSome keys AreKeys → IsLawful b → (ends_with_group keys && begins_with_bracket (terminals_of b)) ≡ false
    → Fit (these keys_terminals keys ++ (terminals_of b ++ zs)) us
    → Goes (on (operated op a) k) (right op (matched_of keys) a k) (terminals_of b ++ zs) us
keys_goes op a None k b zs us p l c h =
    same_value (stays (on (operated op a) k) (terminals_of b ++ zs) us h)
    (λ vs f. fronts_alike (on (operated op a) k) (right op no_keys a k) b zs vs l (λ x q. q.operated op a k) f)
keys_goes op a (Some y) k b zs us p l c h =
    then (key_labels op a y.on y.labels k _ us p.0
    (refit us (ap (λ xs. grammar.key (cond y.on (codes "on") (codes "ignoring")) ∷ xs)
    (append_assoc (labels_terminals y.labels) (these group_terminals y.group) (terminals_of b ++ zs))) h))
    (λ vs f. group_goes op (record { on = y.on; labels = y.labels.labels; side = side_of None; include = [] }) a y.group k b zs vs
    p.1 l c refl refl f)

-- ---- selectors

range_goes : (ms : List Matcher) (r : Option ℕ) (k : List Frame) (zs : List Terminal) (us : List token.Sort)
    → IfSome r IsPositive → Fit (these range_terminals r ++ zs) us
    → Goes (on (modified (Some (selector ms None)) nothing_read) k) (on (modified (selected_target ms r) nothing_read) k) zs us
range_goes ms None k zs us p h = stays _ zs us h
range_goes ms (Some d) k zs us p h =
    then (by_mark mark.OpenSquare (on (modified (Some (selector ms None)) nothing_read) k) (on (range_due (matchers ms)) k) _ us refl h)
    (λ vs f. then (by_millis d (on (range_due (matchers ms)) k) (on (range (matchers ms) (within_limit d)) k) _ vs
    (ap (λ c. to_if c (range (matchers ms) (within_limit d)) k) (positive d p)) f)
    (λ ws g. by_mark mark.CloseSquare (on (range (matchers ms) (within_limit d)) k)
    (on (modified (ranged ms (within_limit d)) nothing_read) k) zs ws refl g))

name_goes : (n : List ℕ) (k : List Frame) (zs : List Terminal) (us : List token.Sort) → Fit (grammar.name n ∷ zs) us
    → Goes (on due k) (on (named n) k) zs us
name_goes n k zs us h = one (on due k) (on (named n) k) (grammar.name n) zs us (λ u f. ap (step due k) (at_name n u f)) h

selector_goes : (n : Option (List ℕ)) (b : Option Braces) (r : Option ℕ) (mods : Modifiers) (k : List Frame) (tail : Tail) (us : List token.Sort)
    → AreSelected n b → May 0 tail
    → Fit (selected_terminals (record { metric = n; braces = b }) ++ (these range_terminals r ++ (modifiers_terminals mods ++ terminals tail))) us
    → Goes (on due k) (on (modified (Some (selector (selected_matchers (record { metric = n; braces = b })) None)) nothing_read) k)
    (these range_terminals r ++ (modifiers_terminals mods ++ terminals tail)) us
selector_goes None None r mods k tail us p q h = absurd p
selector_goes None (Some b) r mods k tail us p q h =
    then (by_mark mark.OpenBrace (on due k) (on (label_due false []) k) _ us refl (refit us (braces_onto b _) h))
    (λ vs f. all_matchers false [] b k _ vs p refl f)
selector_goes (Some n) None r mods k tail us p q h =
    same_value (name_goes n k _ us h) (λ vs f. named_alike n k r mods tail vs q f)
selector_goes (Some n) (Some b) r mods k tail us p q h =
    then (name_goes n k _ us h)
    (λ vs f. then (by_mark mark.OpenBrace (on (named n) k) (on (label_due true (metric n ∷ [])) k) _ vs refl
    (refit vs (braces_onto b _) f))
    (λ ws g. all_matchers true (metric n ∷ []) b k _ ws p.0 p.1 g))

-- ---- labels of aggregations

clause_labels : (p : Bool → Purpose) (w : Bool) (l : Labels) (s : State) (k : List Frame) (zs : List Terminal) (us : List token.Sort)
    → ((v : Bool) (x : List ℕ) → step s.mode s.stack (word (Some (keyword.Clause v)) x) ≡ Some (on (labels_due (p v)) k))
    → AreLabels l → Fit (without_terminals w l ++ zs) us → Goes s (labels_read (p w) l.labels k) zs us
clause_labels p false l s k zs us e a h =
    then (by_key (keyword.Clause false) s (on (labels_due (p false)) k) _ us refl (λ x. e false x) h)
    (λ vs f. then (by_mark mark.Open (on (labels_due (p false)) k) (on (labels (p false) []) k) _ vs refl (refit vs (labels_onto l zs) f))
    (λ ws g. all_labels (p false) k l.labels l.comma zs ws a g))
clause_labels p true l s k zs us e a h =
    then (by_key (keyword.Clause true) s (on (labels_due (p true)) k) _ us refl (λ x. e true x) h)
    (λ vs f. then (by_mark mark.Open (on (labels_due (p true)) k) (on (labels (p true) []) k) _ vs refl (refit vs (labels_onto l zs) f))
    (λ ws g. all_labels (p true) k l.labels l.comma zs ws a g))

-- ---- arguments

abbrev tail_of : Arguments → List Terminal → Tail
tail_of none zs = closing zs
tail_of (more e es) zs = separating ((terminals_of e ++ more_terminals es) ++ (grammar.sign (codes ")") ∷ zs))

tail_is : (es : Arguments) (zs : List Terminal) → more_terminals es ++ (grammar.sign (codes ")") ∷ zs) ≡ terminals (tail_of es zs)
tail_is none zs = refl
tail_is (more e es) zs = refl

tail_may : (l : ℕ) (es : Arguments) (zs : List Terminal) → May l (tail_of es zs)
tail_may l none zs = tt
tail_may l (more e es) zs = tt

-- ---- texts with their brackets in a row

bracketed : (xs zs : List Terminal) → (xs ++ (grammar.sign (codes ")") ∷ [])) ++ zs ≡ xs ++ (grammar.sign (codes ")") ∷ zs)
bracketed xs zs = append_assoc xs (grammar.sign (codes ")") ∷ []) zs

before_onto : (w : Bool) (l : Labels) (xs zs : List Terminal)
    → (without_terminals w l ++ (grammar.sign (codes "(") ∷ (xs ++ (grammar.sign (codes ")") ∷ [])))) ++ zs
    ≡ without_terminals w l ++ (grammar.sign (codes "(") ∷ (xs ++ (grammar.sign (codes ")") ∷ zs)))
before_onto w l xs zs =
    append_assoc (without_terminals w l) (grammar.sign (codes "(") ∷ (xs ++ (grammar.sign (codes ")") ∷ []))) zs
    ∙ ap (λ ys. without_terminals w l ++ (grammar.sign (codes "(") ∷ ys)) (bracketed xs zs)

behind_onto : (w : Bool) (l : Labels) (xs zs : List Terminal)
    → (grammar.sign (codes "(") ∷ (xs ++ (grammar.sign (codes ")") ∷ without_terminals w l))) ++ zs
    ≡ grammar.sign (codes "(") ∷ (xs ++ (grammar.sign (codes ")") ∷ (without_terminals w l ++ zs)))
behind_onto w l xs zs =
    ap (λ ys. grammar.sign (codes "(") ∷ ys) (append_assoc xs (grammar.sign (codes ")") ∷ without_terminals w l) zs)

binary_onto : (xs ys ws vs zs : List Terminal) (o : Terminal)
    → (xs ++ (o ∷ (ys ++ (ws ++ vs)))) ++ zs ≡ xs ++ (o ∷ (ys ++ (ws ++ (vs ++ zs))))
binary_onto xs ys ws vs zs o =
    append_assoc xs (o ∷ (ys ++ (ws ++ vs))) zs
    ∙ ap (λ us. xs ++ (o ∷ us)) (append_assoc ys (ws ++ vs) zs ∙ ap (λ us. ys ++ us) (append_assoc ws vs zs))

abbrev resolved : Option ℕ → List Terminal
resolved r = these (λ d. grammar.duration d ∷ []) r

subquery_onto : (xs ms zs : List Terminal) (d : ℕ) (r : Option ℕ)
    → (xs ++ (grammar.sign (codes "[") ∷ grammar.duration d ∷ grammar.sign (codes ":")
    ∷ (resolved r ++ (grammar.sign (codes "]") ∷ ms)))) ++ zs
    ≡ xs ++ (grammar.sign (codes "[") ∷ grammar.duration d ∷ grammar.sign (codes ":")
    ∷ (resolved r ++ (grammar.sign (codes "]") ∷ (ms ++ zs))))
subquery_onto xs ms zs d r =
    append_assoc xs (grammar.sign (codes "[") ∷ grammar.duration d ∷ grammar.sign (codes ":")
    ∷ (resolved r ++ (grammar.sign (codes "]") ∷ ms))) zs
    ∙ ap (λ us. xs ++ (grammar.sign (codes "[") ∷ grammar.duration d ∷ grammar.sign (codes ":") ∷ us))
    (append_assoc (resolved r) (grammar.sign (codes "]") ∷ ms) zs)

select_onto : (xs ys ms zs : List Terminal) → (xs ++ (ys ++ ms)) ++ zs ≡ xs ++ (ys ++ (ms ++ zs))
select_onto xs ys ms zs = append_assoc xs (ys ++ ms) zs ∙ ap (λ us. xs ++ us) (append_assoc ys ms zs)

-- behind a subquery's colon
resolution_goes : (e : Held) (d : ℕ) (r : Option ℕ) (k : List Frame) (zs : List Terminal) (us : List token.Sort)
    → IfSome r IsPositive → Fit (resolved r ++ (grammar.sign (codes "]") ∷ zs)) us
    → Goes (on (resolution_due e (within_limit d)) k) (on (modified (subquery_target e d r) nothing_read) k) zs us
resolution_goes e d None k zs us p h =
    by_mark mark.CloseSquare (on (resolution_due e (within_limit d)) k) (on (modified (over e (within_limit d)) nothing_read) k) zs us refl h
resolution_goes e d (Some r) k zs us p h =
    then (by_millis r (on (resolution_due e (within_limit d)) k) (on (resolution e (within_limit d) (within_limit r)) k) _ us
    (ap (λ c. to_if c (resolution e (within_limit d) (within_limit r)) k) (positive r p)) h)
    (λ vs f. by_mark mark.CloseSquare (on (resolution e (within_limit d) (within_limit r)) k)
    (on (modified (over_by e (within_limit d) (within_limit r)) nothing_read) k) zs vs refl f)

square_goes : (e : Held) (d : ℕ) (r : Option ℕ) (k : List Frame) (zs : List Terminal) (us : List token.Sort)
    → IsPositive d → IfSome r IsPositive
    → Fit (grammar.sign (codes "[") ∷ grammar.duration d ∷ grammar.sign (codes ":") ∷ (resolved r ++ (grammar.sign (codes "]") ∷ zs))) us
    → Goes (on (whole e) k) (on (modified (subquery_target e d r) nothing_read) k) zs us
square_goes e d r k zs us p q h =
    then (by_mark mark.OpenSquare (on (whole e) k) (on (range_due (operand e)) k) _ us refl h)
    (λ vs f. then (by_millis d (on (range_due (operand e)) k) (on (range (operand e) (within_limit d)) k) _ vs
    (ap (λ c. to_if c (range (operand e) (within_limit d)) k) (positive d p)) f)
    (λ ws g. then (by_mark mark.Colon (on (range (operand e) (within_limit d)) k) (on (resolution_due e (within_limit d)) k) _ ws refl g)
    (λ xs i. resolution_goes e d r k zs xs q i)))

modified_goes : (m : Modifiers) (t : Option Target) (k : List Frame) (tail : Tail) (us : List token.Sort)
    → AreModifiers m → May 0 tail → Fit (modifiers_terminals m ++ terminals tail) us
    → Goes (on (modified t nothing_read) k) (on (whole (held_target t (read_modifiers m))) k) (terminals tail) us
modified_goes m t k tail us p q h =
    same_value (all_modifiers m t k (terminals tail) us p h) (λ vs f. modified_alike t (read_modifiers m) k tail vs q f)

sign_goes : (minus : Bool) (k : List Frame) (zs : List Terminal) (us : List token.Sort)
    → Fit (grammar.sign (cond minus (codes "-") (codes "+")) ∷ zs) us → Goes (on due k) (on due (signed minus ∷ k)) zs us
sign_goes true k zs us h = by_mark mark.Minus (on due k) (on due (signed true ∷ k)) zs us refl h
sign_goes false k zs us h = by_mark mark.Plus (on due k) (on due (signed false ∷ k)) zs us refl h

aggregation_goes : (op : AggOp) (k : List Frame) (zs : List Terminal) (us : List token.Sort)
    → Fit (grammar.key (aggregation_word op) ∷ zs) us → Goes (on due k) (on (clause_due op) k) zs us
aggregation_goes op k zs us h =
    by_key (keyword.Aggregation op) (on due k) (on (clause_due op) k) zs us (aggregation_found op) (λ w. refl) h

abbrev arguments_read : Arguments → Option (List Tree)
arguments_read args = arguments_of args (Some [])

-- an aggregation behind its word, where its arguments are read
clause_goes : (op : AggOp) (clause : Clause) (args : Arguments) (k : List Frame) (tail : Tail) (us : List token.Sort)
    → ((c : Callee) (zs : List Terminal) (vs : List token.Sort) → Fit (all_terminals args ++ (grammar.sign (codes ")") ∷ zs)) vs
    → Goes (on due (calling c (Some []) ∷ k)) (on (called c (arguments_read args)) k) zs vs)
    → IsClause clause → May 0 tail
    → Fit ((before_terminals clause ++ (grammar.sign (codes "(") ∷ (all_terminals args ++ (grammar.sign (codes ")") ∷ behind_terminals clause)))) ++ terminals tail) us
    → Goes (on (clause_due op) k) (on (whole (held_aggregate op (grouped_of clause) (arguments_read args))) k) (terminals tail) us
clause_goes op absent args k tail us read p q h =
    same_value
    (then (by_mark mark.Open (on (clause_due op) k) (on due (calling (aggregation op None) (Some []) ∷ k)) _ us refl h)
    (λ vs f. read (aggregation op None) (terminals tail) vs (refit vs (bracketed (all_terminals args) (terminals tail)) f)))
    (λ vs f. aggregated_alike op (arguments_read args) k tail vs q f)
clause_goes op (before w l) args k tail us read p q h =
    let g : Grouped = record { without = w; labels = l.labels } in
    then (clause_labels (groups_next op) w l (on (clause_due op) k) k _ us (λ v x. refl) p
    (refit us (before_onto w l (all_terminals args) (terminals tail)) h))
    (λ vs f. then (by_mark mark.Open (on (arguments_due op g) k) (on due (calling (aggregation op (Some g)) (Some []) ∷ k)) _ vs refl f)
    (λ ws i. read (aggregation op (Some g)) (terminals tail) ws i))
clause_goes op (behind w l) args k tail us read p q h =
    then (by_mark mark.Open (on (clause_due op) k) (on due (calling (aggregation op None) (Some []) ∷ k)) _ us refl
    (refit us (behind_onto w l (all_terminals args) (terminals tail)) h))
    (λ vs f. then (read (aggregation op None) (without_terminals w l ++ terminals tail) vs f)
    (λ ws i. clause_labels (groups op (arguments_read args)) w l (on (aggregated op (arguments_read args)) k) k (terminals tail) ws
    (λ v x. refl) p i))

argument_onto : (e : Written) (es : Arguments) (zs : List Terminal)
    → (terminals_of e ++ more_terminals es) ++ (grammar.sign (codes ")") ∷ zs) ≡ terminals_of e ++ terminals (tail_of es zs)
argument_onto e es zs =
    append_assoc (terminals_of e) (more_terminals es) (grammar.sign (codes ")") ∷ zs) ∙ ap (λ xs. terminals_of e ++ xs) (tail_is es zs)

-- ---- all queries

mutual
  derived : (e : Written) (k : List Frame) (tail : Tail) (us : List token.Sort) → IsLawful e → Room (level e) k → May (level e) tail
      → Fit (terminals_of e ++ terminals tail) us → Goes (on due k) (on (whole (read_of e)) k) (terminals tail) us
  derived (number n) k tail us l r m h =
      one (on due k) (on (whole (Some (tree.number n))) k) (grammar.number n) (terminals tail) us
      (λ u f. ap (step due k) (at_number n u f)) h
  derived (text s) k tail us l r m h =
      one (on due k) (on (whole (Some (tree.text s))) k) (grammar.string s) (terminals tail) us
      (λ u f. ap (step due k) (at_string s u f)) h
  derived (brackets e) k tail us l r m h =
      then (by_mark mark.Open (on due k) (on due (bracket ∷ k)) _ us refl h)
      (λ vs f. then (derived e (bracket ∷ k) (closing (terminals tail)) vs l tt tt (refit vs (bracketed (terminals_of e) (terminals tail)) f))
      (λ ws g. by_mark mark.Close (on (whole (read_of e)) (bracket ∷ k)) (on (whole (read_of e)) k) (terminals tail) ws refl g))
  derived (call n none) k tail us l r m h =
      then (name_goes n k _ us h)
      (λ vs f. then (by_mark mark.Open (on (named n) k) (on (first_due (function_of n)) k) _ vs refl f)
      (λ ws g. by_mark mark.Close (on (first_due (function_of n)) k) (on (whole (held_call (function_of n) (Some []))) k) (terminals tail) ws refl g))
  derived (call n (more e es)) k tail us l r m h =
      then (name_goes n k _ us h)
      (λ vs f. then
      (same_value (by_mark mark.Open (on (named n) k) (on (first_due (function_of n)) k) (terminals_of e ++ (more_terminals es ++ (grammar.sign (codes ")") ∷ terminals tail))) vs refl
      (refit vs (ap (λ xs. grammar.sign (codes "(") ∷ xs)
      (bracketed (terminals_of e ++ more_terminals es) (terminals tail)
      ∙ append_assoc (terminals_of e) (more_terminals es) (grammar.sign (codes ")") ∷ terminals tail))) f))
      (λ ws g. fronts_alike (on (first_due (function_of n)) k) (on due (calling (function (function_of n)) (Some []) ∷ k))
      e _ ws l.0 (λ x q. q.first (function_of n) k) g))
      (λ ws g. then (derived e (calling (function (function_of n)) (Some []) ∷ k) (tail_of es (terminals tail)) ws l.0 tt
      (tail_may (level e) es (terminals tail)) (refit ws (ap (λ xs. terminals_of e ++ xs) (tail_is es (terminals tail))) g))
      (λ xs i. derived_more es (function (function_of n)) (Some []) (read_of e) k (terminals tail) xs l.1 i)))
  derived (aggregate op clause none) k tail us l r m h = absurd l
  derived (aggregate op clause (more e es)) k tail us l r m h =
      then (aggregation_goes op k _ us h)
      (λ vs f. clause_goes op clause (more e es) k tail vs
      (λ c zs ws g. then (derived e (calling c (Some []) ∷ k) (tail_of es zs) ws l.1 tt (tail_may (level e) es zs)
      (refit ws (argument_onto e es zs) g))
      (λ xs i. derived_more es c (Some []) (read_of e) k zs xs l.2 i))
      l.0 m f)
  derived (unary minus e) k tail us l r m h =
      same_value
      (then (sign_goes minus k _ us h)
      (λ vs f. derived e (signed minus ∷ k) tail vs l.1 l.0 (may_lower (level e) 1 tail l.0 m) f))
      (λ vs f. signed_alike minus (read_of e) k tail vs m f)
  derived (binary op keys a b) k tail us l r m h =
      let rest = terminals_of b ++ terminals tail in
      same_value
      (then (derived a k (operating op (bool_terminals op.with_bool ++ (these keys_terminals keys ++ rest))) us l.5
      (room_lower (level a) (level_of op.sign) k l.0 r) l.0
      (refit us (binary_onto (terminals_of a) (bool_terminals op.with_bool) (these keys_terminals keys) (terminals_of b) (terminals tail) (operator_terminal op)) h))
      (λ vs f. then (operator_goes op.sign (read_of a) k _ vs r f)
      (λ ws g. then (bool_goes op.sign op.with_bool (read_of a) k _ ws l.2 g)
      (λ xs i. then (keys_goes op (read_of a) keys k b (terminals tail) xs l.3 l.6 l.4 i)
      (λ ys j. derived b (left op (matched_of keys) (read_of a) ∷ k) tail ys l.6 l.1
      (may_lower (level b) (level_of op.sign) tail (omega (arith, l.1)) m) j)))))
      (λ vs f. left_alike op (matched_of keys) (read_of a) (read_of b) k tail vs m f)
  derived (select s d mods) k tail us l r m h =
      then (selector_goes s.metric s.braces d mods k tail us l.0 m
      (refit us (select_onto (selected_terminals s) (these range_terminals d) (modifiers_terminals mods) (terminals tail)) h))
      (λ vs f. then (range_goes (selected_matchers s) d k _ vs l.1 f)
      (λ ws g. modified_goes mods (selected_target (selected_matchers s) d) k tail ws l.2 m g))
  derived (subquery e d res mods) k tail us l r m h =
      let zs = resolved res ++ (grammar.sign (codes "]") ∷ (modifiers_terminals mods ++ terminals tail)) in
      then (derived e k (squared d zs) us l.1 (room_lower (level e) 0 k l.0 r) (l.0, l.2)
      (refit us (subquery_onto (terminals_of e) (modifiers_terminals mods) (terminals tail) d res) h))
      (λ vs f. then (square_goes (read_of e) d res k _ vs l.2 l.3 f)
      (λ ws g. modified_goes mods (subquery_target (read_of e) d res) k tail ws l.4 m g))

  derived_more : (es : Arguments) (c : Callee) (args : Option (List Tree)) (e : Held) (k : List Frame) (zs : List Terminal) (us : List token.Sort)
      → AreLawful es → Fit (terminals (tail_of es zs)) us
      → Goes (on (whole e) (calling c args ∷ k)) (on (called c (arguments_of es (with_argument args e))) k) zs us
  derived_more none c args e k zs us l h =
      by_mark mark.Close (on (whole e) (calling c args ∷ k)) (on (called c (with_argument args e)) k) zs us refl h
  derived_more (more d es) c args e k zs us l h =
      then (by_mark mark.Comma (on (whole e) (calling c args ∷ k)) (on due (calling c (with_argument args e) ∷ k)) _ us refl h)
      (λ vs f. then (derived d (calling c (with_argument args e) ∷ k) (tail_of es zs) vs l.0 tt (tail_may (level d) es zs)
      (refit vs (argument_onto d es zs) f))
      (λ ws g. derived_more es c (with_argument args e) (read_of d) k zs ws l.1 g))

-- a derived query is read, and its own is held
pub derived_read : (e : Written) (us : List token.Sort) → IsLawful e → FitAll (terminals_of e) us
    → value start (lexemes us) ≡ Some (read_of e)
derived_read e us l h =
    let g = derived e [] nothing us l tt tt (record { all = subst (λ zs. FitAll zs us) (sym (append-nil (terminals_of e))) h }) in
    g.is ∙ none_behind (read_of e) g.behind g.fits.all
  where
    none_behind : (a : Held) (vs : List token.Sort) → FitAll [] vs → value (on (whole a) []) (lexemes vs) ≡ Some a
    none_behind a [] f = refl
    none_behind a (v ∷ vs) f = absurd f
