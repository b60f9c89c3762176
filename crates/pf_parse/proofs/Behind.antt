-- What may stand behind an operand, and what it does there.
use Rattle.std.proofs.Common.{◌≡◌, ◌∙◌, sym, refl, ap, subst, ℕ, ℤ, ◌≤◌, Bool, true, false, not, cond, List, [], ◌∷◌, ◌++◌, Option, Some, None, codes, arith, nat_le}
use Rattle.std.proofs.lemmas.Bool.{le-leb}
use Rattle.std.proofs.lemmas.List.{append_assoc}
use Rattle.std.specs.Option.{option_and_then}
use Rattle.pf_base.specs.Limits.{greatest_time}
use Rattle.pf_lex.specs.declared.token.Mark.{Mark}
use Rattle.pf_lex.specs.declared.token.Mark.TheVariants as mark
use Rattle.pf_model.proofs.Levels.{level_positive, level_small}
use Rattle.pf_model.specs.Clauses.{Matched}
use Rattle.pf_model.specs.declared.expr.At.{At}
use Rattle.pf_model.specs.declared.expr.BinaryOp.{BinaryOp}
use Rattle.pf_model.specs.declared.expr.Matcher.{Matcher}
use Rattle.pf_model.specs.declared.functions.AggOp.{AggOp}
use Rattle.pf_model.specs.declared.functions.Sign.{Sign}
use Rattle.pf_model.specs.declared.functions.Sign.TheVariants as operator
use Rattle.pf_model.specs.Grammar.{Terminal, Fits, FitAll, operator_terminal, key, IsPositive, AtModifier, at_modifier_terminals, Offset, offset_terminals, Modifiers, modifiers_terminals, these, range_terminals}
use Rattle.pf_model.specs.Grammar as grammar
use Rattle.pf_model.specs.Tokens as token
use Rattle.pf_model.specs.Trees.{Tree}
use Rattle.pf_model.specs.Words.{operator_text, is_set_operator, level_of}
use Rattle.pf_parse.specs.declared.keyword.Keyword.TheVariants as keyword
use Rattle.pf_parse.specs.Held.{Held, Target, selector, subquery, Read, nothing_read, held_target, held_aggregate, held_unary, held_binary}
use Rattle.pf_parse.specs.Lexemes.{Lexeme, sign, within_limit, Follow, operates, separates, closes, follow_of, lexeme_of, mark_text}
use Rattle.pf_parse.specs.Reading.{ended, Frame, State, signed, left, step, ends, whole, modified, to, to_if, whole_step, modified_step, named_step, aggregated_step, followed, settle, operates_on, closed, separated, by_none, metric, is_positive, Base, matchers, operand, base_held, base_of, bare_base, is_bare, range_due, range, range_step, range_end_step, resolution_due, last_level, named, aggregated}
use Rattle.pf_parse.proofs.Goes.{Fit, value, lexemes, on}
use Rattle.pf_parse.proofs.Seen.{at_mark, at_key, at_duration}

-- ---- tails

pub data Tail : Type 0 where
  nothing : Tail
  closing : List Terminal → Tail
  separating : List Terminal → Tail
  operating : BinaryOp → List Terminal → Tail
  squared : ℕ → List Terminal → Tail

abbrev pub terminals : Tail → List Terminal
terminals nothing = []
terminals (closing zs) = grammar.sign (codes ")") ∷ zs
terminals (separating zs) = grammar.sign (codes ",") ∷ zs
terminals (operating op zs) = operator_terminal op ∷ zs
terminals (squared d zs) = grammar.sign (codes "[") ∷ grammar.duration d ∷ grammar.sign (codes ":") ∷ zs

-- a tail may stand behind an operand of a level
abbrev pub May : ℕ → Tail → Type 0
May l nothing = Unit {0}
May l (closing zs) = Unit {0}
May l (separating zs) = Unit {0}
May l (operating op zs) = l ≤ level_of op.sign
May l (squared d zs) = (l ≤ 0) × IsPositive d

pub may_lower : (l m : ℕ) (tail : Tail) → l ≤ m → May m tail → May l tail
may_lower l m nothing h p = tt
may_lower l m (closing zs) h p = tt
may_lower l m (separating zs) h p = tt
may_lower l m (operating op zs) h p = omega (arith, h, p)
may_lower l m (squared d zs) h p = (omega (arith, h, p.0), p.1)

-- ---- the first token of a tail

pub record Passes (f : Follow) (x : Lexeme) : Type 0 where
  pub follow : follow_of x ≡ f
  pub named : (w : List ℕ) (k : List Frame) → named_step w k x ≡ modified_step (Some (selector (metric w ∷ []) None)) nothing_read k x
  pub modified : (t : Option Target) (r : Read) (k : List Frame) → modified_step t r k x ≡ whole_step (held_target t r) k x
  pub aggregated : (op : AggOp) (args : Option (List Tree)) (k : List Frame)
      → aggregated_step op args k x ≡ whole_step (held_aggregate op by_none args) k x

pub operator_passes : (s : Sign) (u : token.Sort)
    → Fits (cond (is_set_operator s) (key (operator_text s)) (grammar.sign (operator_text s))) u
    → Passes (operates s) (lexeme_of u)
operator_passes operator.Add u h =
    subst (Passes (operates operator.Add)) (sym (at_mark mark.Plus u h))
    (record { follow = refl; named = λ w k. refl; modified = λ t r k. refl; aggregated = λ op args k. refl })
operator_passes operator.Sub u h =
    subst (Passes (operates operator.Sub)) (sym (at_mark mark.Minus u h))
    (record { follow = refl; named = λ w k. refl; modified = λ t r k. refl; aggregated = λ op args k. refl })
operator_passes operator.Mul u h =
    subst (Passes (operates operator.Mul)) (sym (at_mark mark.Times u h))
    (record { follow = refl; named = λ w k. refl; modified = λ t r k. refl; aggregated = λ op args k. refl })
operator_passes operator.Div u h =
    subst (Passes (operates operator.Div)) (sym (at_mark mark.Over u h))
    (record { follow = refl; named = λ w k. refl; modified = λ t r k. refl; aggregated = λ op args k. refl })
operator_passes operator.Rem u h =
    subst (Passes (operates operator.Rem)) (sym (at_mark mark.Percent u h))
    (record { follow = refl; named = λ w k. refl; modified = λ t r k. refl; aggregated = λ op args k. refl })
operator_passes operator.Equal u h =
    subst (Passes (operates operator.Equal)) (sym (at_mark mark.DoubleEqual u h))
    (record { follow = refl; named = λ w k. refl; modified = λ t r k. refl; aggregated = λ op args k. refl })
operator_passes operator.NotEqual u h =
    subst (Passes (operates operator.NotEqual)) (sym (at_mark mark.NotEqual u h))
    (record { follow = refl; named = λ w k. refl; modified = λ t r k. refl; aggregated = λ op args k. refl })
operator_passes operator.Less u h =
    subst (Passes (operates operator.Less)) (sym (at_mark mark.Below u h))
    (record { follow = refl; named = λ w k. refl; modified = λ t r k. refl; aggregated = λ op args k. refl })
operator_passes operator.LessOrEqual u h =
    subst (Passes (operates operator.LessOrEqual)) (sym (at_mark mark.AtMost u h))
    (record { follow = refl; named = λ w k. refl; modified = λ t r k. refl; aggregated = λ op args k. refl })
operator_passes operator.Greater u h =
    subst (Passes (operates operator.Greater)) (sym (at_mark mark.Above u h))
    (record { follow = refl; named = λ w k. refl; modified = λ t r k. refl; aggregated = λ op args k. refl })
operator_passes operator.GreaterOrEqual u h =
    subst (Passes (operates operator.GreaterOrEqual)) (sym (at_mark mark.AtLeast u h))
    (record { follow = refl; named = λ w k. refl; modified = λ t r k. refl; aggregated = λ op args k. refl })
operator_passes operator.And u h =
    let seen = at_key (keyword.Operator operator.And) u refl h in
    subst (Passes (operates operator.And)) (sym seen.is)
    (record { follow = refl; named = λ w k. refl; modified = λ t r k. refl; aggregated = λ op args k. refl })
operator_passes operator.Or u h =
    let seen = at_key (keyword.Operator operator.Or) u refl h in
    subst (Passes (operates operator.Or)) (sym seen.is)
    (record { follow = refl; named = λ w k. refl; modified = λ t r k. refl; aggregated = λ op args k. refl })
operator_passes operator.Unless u h =
    let seen = at_key (keyword.Operator operator.Unless) u refl h in
    subst (Passes (operates operator.Unless)) (sym seen.is)
    (record { follow = refl; named = λ w k. refl; modified = λ t r k. refl; aggregated = λ op args k. refl })

closing_passes : (u : token.Sort) → Fits (grammar.sign (codes ")")) u → Passes closes (lexeme_of u)
closing_passes u h =
    subst (Passes closes) (sym (at_mark mark.Close u h))
    (record { follow = refl; named = λ w k. refl; modified = λ t r k. refl; aggregated = λ op args k. refl })

separating_passes : (u : token.Sort) → Fits (grammar.sign (codes ",")) u → Passes separates (lexeme_of u)
separating_passes u h =
    subst (Passes separates) (sym (at_mark mark.Comma u h))
    (record { follow = refl; named = λ w k. refl; modified = λ t r k. refl; aggregated = λ op args k. refl })

-- two states that the end and a tail's first token treat alike
record Alike (l : ℕ) (s t : State) : Type 0 where
  at_end : ends s.mode s.stack ≡ ends t.mode t.stack
  closing : (x : Lexeme) → Passes closes x → step s.mode s.stack x ≡ step t.mode t.stack x
  separating : (x : Lexeme) → Passes separates x → step s.mode s.stack x ≡ step t.mode t.stack x
  operating : (o : Sign) (x : Lexeme) → l ≤ level_of o → Passes (operates o) x → step s.mode s.stack x ≡ step t.mode t.stack x

abbrev Behind_square : State → State → Type 0
Behind_square s t =
    (d : ℕ) (zs : List Terminal) (us : List token.Sort) → IsPositive d → Fit (terminals (squared d zs)) us
    → value s (lexemes us) ≡ value t (lexemes us)

steps_alike : (s t : State) (x : Lexeme) (xs : List Lexeme) → step s.mode s.stack x ≡ step t.mode t.stack x
    → value s (x ∷ xs) ≡ value t (x ∷ xs)
steps_alike s t x xs h = ap (option_and_then (λ r. value r xs)) h

alike : (l : ℕ) (s t : State) (tail : Tail) (us : List token.Sort) → Alike l s t → (l ≤ 0 → Behind_square s t)
    → May l tail → Fit (terminals tail) us → value s (lexemes us) ≡ value t (lexemes us)
alike l s t nothing [] a b p h = a.at_end
alike l s t nothing (u ∷ us) a b p h = absurd h.all
alike l s t (closing zs) [] a b p h = absurd h.all
alike l s t (closing zs) (u ∷ us) a b p h =
    steps_alike s t (lexeme_of u) (lexemes us) (a.closing (lexeme_of u) (closing_passes u h.all.0))
alike l s t (separating zs) [] a b p h = absurd h.all
alike l s t (separating zs) (u ∷ us) a b p h =
    steps_alike s t (lexeme_of u) (lexemes us) (a.separating (lexeme_of u) (separating_passes u h.all.0))
alike l s t (operating op zs) [] a b p h = absurd h.all
alike l s t (operating op zs) (u ∷ us) a b p h =
    steps_alike s t (lexeme_of u) (lexemes us) (a.operating op.sign (lexeme_of u) p (operator_passes op.sign u h.all.0))
alike l s t (squared d zs) us a b p h = b p.0 d zs us p.1 h

-- ---- signs and operators take what stands before such a tail

pub by_follow : (f : Follow) (e : Held) (k : List Frame) (x : Lexeme) → follow_of x ≡ f → whole_step e k x ≡ followed f e k
by_follow f e k x h = ap (λ g. followed g e k) h

abbrev taken_alike : (l : ℕ) (e d : Held) (k j : List Frame) → settle last_level e k ≡ settle last_level d j
    → ((o : Sign) → l ≤ level_of o → settle (level_of o) e k ≡ settle (level_of o) d j)
    → Alike l (on (whole e) k) (on (whole d) j)
taken_alike l e d k j h f = record {
  at_end = ap (λ t. ended t) h;
  closing = λ x p. by_follow closes e k x p.follow ∙ (ap (λ t. closed t.held t.stack) h ∙ sym (by_follow closes d j x p.follow));
  separating = λ x p.
      by_follow separates e k x p.follow ∙ (ap (λ t. separated t.held t.stack) h ∙ sym (by_follow separates d j x p.follow));
  operating = λ o x g p.
      by_follow (operates o) e k x p.follow ∙ (ap (operates_on o) (f o g) ∙ sym (by_follow (operates o) d j x p.follow));
}

pub signed_alike : (minus : Bool) (e : Held) (k : List Frame) (tail : Tail) (us : List token.Sort)
    → May 1 tail → Fit (terminals tail) us
    → value (on (whole e) (signed minus ∷ k)) (lexemes us) ≡ value (on (whole (held_unary minus e)) k) (lexemes us)
signed_alike minus e k tail us p h =
    alike 1 (on (whole e) (signed minus ∷ k)) (on (whole (held_unary minus e)) k) tail us
    (taken_alike 1 e (held_unary minus e) (signed minus ∷ k) k refl (λ o g. refl)) (λ z. absurd (omega (arith, z))) p h

takes_left : (l : ℕ) (op : BinaryOp) (m : Matched) (a e : Held) (k : List Frame) → level_of op.sign ≤ l
    → settle l e (left op m a ∷ k) ≡ settle l (held_binary op m a e) k
takes_left l op m a e k h =
    ap (λ b. cond b (settle l (held_binary op m a e) k) (record { held = e; stack = left op m a ∷ k })) (le-leb _ _ h)

pub left_alike : (op : BinaryOp) (m : Matched) (a e : Held) (k : List Frame) (tail : Tail) (us : List token.Sort)
    → May (level_of op.sign) tail → Fit (terminals tail) us
    → value (on (whole e) (left op m a ∷ k)) (lexemes us) ≡ value (on (whole (held_binary op m a e)) k) (lexemes us)
left_alike op m a e k tail us p h =
    alike (level_of op.sign) (on (whole e) (left op m a ∷ k)) (on (whole (held_binary op m a e)) k) tail us
    (taken_alike (level_of op.sign) e (held_binary op m a e) (left op m a ∷ k) k
    (takes_left last_level op m a e k (level_small op.sign)) (λ o g. takes_left (level_of o) op m a e k g))
    (λ z. absurd (omega (arith, z, level_positive op.sign))) p h

-- ---- selectors, subqueries and aggregations are whole before such a tail

pub positive : (d : ℕ) → IsPositive d → is_positive (within_limit d) ≡ true
positive d h = kept (nat_le d greatest_time)
  where
    kept : (b : Bool) → is_positive (cond b (Some d) None) ≡ true
    kept true = ap not h
    kept false = refl

colon_goes : (b : Base) (d : Option ℕ) (k : List Frame)
    → range_end_step b d k (sign (Some mark.Colon)) ≡ to (resolution_due (base_held b) d) k
colon_goes (matchers ms) d k = refl
colon_goes (operand e) d k = refl

in_square : (b : Base) (k : List Frame) (d : ℕ) (zs : List Terminal) (u v : token.Sort) (us : List token.Sort) → IsPositive d
    → Fits (grammar.duration d) u → Fits (grammar.sign (codes ":")) v
    → value (on (range_due b) k) (lexemes (u ∷ v ∷ us)) ≡ value (on (resolution_due (base_held b) (within_limit d)) k) (lexemes us)
in_square b k d zs u v us p f g =
    ap (option_and_then (λ r. value r (lexemes (v ∷ us))))
    (ap (range_step b k) (at_duration d u f) ∙ ap (λ c. to_if c (range b (within_limit d)) k) (positive d p))
    ∙ ap (option_and_then (λ r. value r (lexemes us)))
    (ap (range_end_step b (within_limit d) k) (at_mark mark.Colon v g) ∙ colon_goes b (within_limit d) k)

squares_alike : (b c : Base) (k : List Frame) (d : ℕ) (zs : List Terminal) (us : List token.Sort) → IsPositive d
    → base_held b ≡ base_held c → Fit (grammar.duration d ∷ grammar.sign (codes ":") ∷ zs) us
    → value (on (range_due b) k) (lexemes us) ≡ value (on (range_due c) k) (lexemes us)
squares_alike b c k d zs [] p e h = absurd h.all
squares_alike b c k d zs (u ∷ []) p e h = absurd h.all.1
squares_alike b c k d zs (u ∷ v ∷ us) p e h =
    in_square b k d zs u v us p h.all.0 h.all.1.0
    ∙ (ap (λ x. value (on (resolution_due x (within_limit d)) k) (lexemes us)) e
    ∙ sym (in_square c k d zs u v us p h.all.0 h.all.1.0))

bare_same : (ms : List Matcher) (o : Option (Option ℤ)) (a : Option (Option At))
    → base_held (bare_base ms (record { offset = o; at = a }) (is_bare (record { offset = o; at = a })))
    ≡ held_target (Some (selector ms None)) (record { offset = o; at = a })
bare_same ms None None = refl
bare_same ms None (Some a) = refl
bare_same ms (Some o) a = refl

base_same : (t : Option Target) (r : Read) → base_held (base_of t r) ≡ held_target t r
base_same None r = refl
base_same (Some (selector ms None)) r = bare_same ms r.offset r.at
base_same (Some (selector ms (Some d))) r = refl
base_same (Some (subquery e d res)) r = refl

modified_square : (t : Option Target) (r : Read) (k : List Frame)
    → Behind_square (on (modified t r) k) (on (whole (held_target t r)) k)
modified_square t r k d zs [] p h = absurd h.all
modified_square t r k d zs (u ∷ us) p h =
    ap (λ x. option_and_then (λ s. value s (lexemes us)) (modified_step t r k x)) (at_mark mark.OpenSquare u h.all.0)
    ∙ (squares_alike (base_of t r) (operand (held_target t r)) k d zs us p (base_same t r) (record { all = h.all.1 })
    ∙ sym (ap (λ x. option_and_then (λ s. value s (lexemes us)) (whole_step (held_target t r) k x))
    (at_mark mark.OpenSquare u h.all.0)))

pub modified_alike : (t : Option Target) (r : Read) (k : List Frame) (tail : Tail) (us : List token.Sort)
    → May 0 tail → Fit (terminals tail) us
    → value (on (modified t r) k) (lexemes us) ≡ value (on (whole (held_target t r)) k) (lexemes us)
modified_alike t r k tail us p h =
    alike 0 (on (modified t r) k) (on (whole (held_target t r)) k) tail us
    (record {
      at_end = refl;
      closing = λ x q. q.modified t r k;
      separating = λ x q. q.modified t r k;
      operating = λ o x g q. q.modified t r k;
    }) (λ z. modified_square t r k) p h

named_square : (w : List ℕ) (k : List Frame)
    → Behind_square (on (named w) k) (on (modified (Some (selector (metric w ∷ []) None)) nothing_read) k)
named_square w k d zs [] p h = absurd h.all
named_square w k d zs (u ∷ us) p h =
    steps_alike (on (named w) k) (on (modified (Some (selector (metric w ∷ []) None)) nothing_read) k) (lexeme_of u) (lexemes us)
    (ap (named_step w k) (at_mark mark.OpenSquare u h.all.0)
    ∙ sym (ap (modified_step (Some (selector (metric w ∷ []) None)) nothing_read k) (at_mark mark.OpenSquare u h.all.0)))

aggregated_square : (op : AggOp) (args : Option (List Tree)) (k : List Frame)
    → Behind_square (on (aggregated op args) k) (on (whole (held_aggregate op by_none args)) k)
aggregated_square op args k d zs [] p h = absurd h.all
aggregated_square op args k d zs (u ∷ us) p h =
    steps_alike (on (aggregated op args) k) (on (whole (held_aggregate op by_none args)) k) (lexeme_of u) (lexemes us)
    (ap (aggregated_step op args k) (at_mark mark.OpenSquare u h.all.0)
    ∙ sym (ap (whole_step (held_aggregate op by_none args) k) (at_mark mark.OpenSquare u h.all.0)))

pub aggregated_alike : (op : AggOp) (args : Option (List Tree)) (k : List Frame) (tail : Tail) (us : List token.Sort)
    → May 0 tail → Fit (terminals tail) us
    → value (on (aggregated op args) k) (lexemes us) ≡ value (on (whole (held_aggregate op by_none args)) k) (lexemes us)
aggregated_alike op args k tail us p h =
    alike 0 (on (aggregated op args) k) (on (whole (held_aggregate op by_none args)) k) tail us
    (record {
      at_end = refl;
      closing = λ x q. q.aggregated op args k;
      separating = λ x q. q.aggregated op args k;
      operating = λ o x g q. q.aggregated op args k;
    }) (λ z. aggregated_square op args k) p h

by_first : (s t : State) (c : Terminal) (zs : List Terminal) (us : List token.Sort)
    → ((u : token.Sort) → Fits c u → step s.mode s.stack (lexeme_of u) ≡ step t.mode t.stack (lexeme_of u))
    → Fit (c ∷ zs) us → value s (lexemes us) ≡ value t (lexemes us)
by_first s t c zs [] f h = absurd h.all
by_first s t c zs (u ∷ us) f h = steps_alike s t (lexeme_of u) (lexemes us) (f u h.all.0)

by_mark : (m : Mark) (s t : State) (zs : List Terminal) (us : List token.Sort)
    → step s.mode s.stack (sign (Some m)) ≡ step t.mode t.stack (sign (Some m))
    → Fit (grammar.sign (mark_text m) ∷ zs) us → value s (lexemes us) ≡ value t (lexemes us)
by_mark m s t zs us e h =
    by_first s t (grammar.sign (mark_text m)) zs us
    (λ u f. ap (step s.mode s.stack) (at_mark m u f) ∙ (e ∙ sym (ap (step t.mode t.stack) (at_mark m u f)))) h

abbrev bare_metric : List ℕ → Option Target
bare_metric w = Some (selector (metric w ∷ []) None)

by_moment : (w : List ℕ) (k : List Frame) (m : AtModifier) (zs : List Terminal) (us : List token.Sort)
    → Fit (at_modifier_terminals m ++ zs) us
    → value (on (named w) k) (lexemes us) ≡ value (on (modified (bare_metric w) nothing_read) k) (lexemes us)
by_moment w k (grammar.time s n) zs us h =
    by_mark mark.At (on (named w) k) (on (modified (bare_metric w) nothing_read) k) _ us refl h
by_moment w k grammar.start zs us h =
    by_mark mark.At (on (named w) k) (on (modified (bare_metric w) nothing_read) k) _ us refl h
by_moment w k grammar.end zs us h =
    by_mark mark.At (on (named w) k) (on (modified (bare_metric w) nothing_read) k) _ us refl h

by_offset : (w : List ℕ) (k : List Frame) (o : Offset) (zs : List Terminal) (us : List token.Sort)
    → Fit (offset_terminals o ++ zs) us
    → value (on (named w) k) (lexemes us) ≡ value (on (modified (bare_metric w) nothing_read) k) (lexemes us)
by_offset w k o zs us h =
    by_first (on (named w) k) (on (modified (bare_metric w) nothing_read) k) (key (codes "offset")) _ us
    (λ u f. let seen = at_key keyword.Offset u refl f in
    ap (named_step w k) seen.is ∙ sym (ap (modified_step (bare_metric w) nothing_read k) seen.is)) h

by_tail : (w : List ℕ) (k : List Frame) (tail : Tail) (us : List token.Sort) → May 0 tail → Fit (terminals tail) us
    → value (on (named w) k) (lexemes us) ≡ value (on (modified (bare_metric w) nothing_read) k) (lexemes us)
by_tail w k tail us p h =
    alike 0 (on (named w) k) (on (modified (bare_metric w) nothing_read) k) tail us
    (record {
      at_end = refl;
      closing = λ x q. q.named w k;
      separating = λ x q. q.named w k;
      operating = λ o x g q. q.named w k;
    }) (λ z. named_square w k) p h

by_modifiers : (w : List ℕ) (k : List Frame) (o : Option Offset) (m : Option AtModifier) (at_first : Bool) (tail : Tail) (us : List token.Sort)
    → May 0 tail
    → Fit (cond at_first (these at_modifier_terminals m ++ these offset_terminals o) (these offset_terminals o ++ these at_modifier_terminals m) ++ terminals tail) us
    → value (on (named w) k) (lexemes us) ≡ value (on (modified (bare_metric w) nothing_read) k) (lexemes us)
by_modifiers w k o (Some m) true tail us p h =
    by_moment w k m (these offset_terminals o ++ terminals tail) us
    (record { all = subst (λ xs. FitAll xs us) (append_assoc (at_modifier_terminals m) (these offset_terminals o) (terminals tail)) h.all })
by_modifiers w k (Some o) m false tail us p h =
    by_offset w k o (these at_modifier_terminals m ++ terminals tail) us
    (record { all = subst (λ xs. FitAll xs us) (append_assoc (offset_terminals o) (these at_modifier_terminals m) (terminals tail)) h.all })
by_modifiers w k (Some o) None true tail us p h = by_offset w k o (terminals tail) us h
by_modifiers w k None None true tail us p h = by_tail w k tail us p h
by_modifiers w k None (Some m) false tail us p h = by_moment w k m (terminals tail) us h
by_modifiers w k None None false tail us p h = by_tail w k tail us p h

-- a name before no bracket and no brace is a metric's
pub named_alike : (w : List ℕ) (k : List Frame) (r : Option ℕ) (mods : Modifiers) (tail : Tail) (us : List token.Sort) → May 0 tail
    → Fit (these range_terminals r ++ (modifiers_terminals mods ++ terminals tail)) us
    → value (on (named w) k) (lexemes us) ≡ value (on (modified (bare_metric w) nothing_read) k) (lexemes us)
named_alike w k None mods tail us p h = by_modifiers w k mods.offset mods.at mods.at_first tail us p h
named_alike w k (Some d) mods tail us p h =
    by_mark mark.OpenSquare (on (named w) k) (on (modified (bare_metric w) nothing_read) k) _ us refl h
