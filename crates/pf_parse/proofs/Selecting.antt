-- Selectors and what stands behind them are read.
use Rattle.std.proofs.Common.{◌≡◌, ◌∙◌, sym, refl, ap, subst, ℕ, ℤ, pos, int_le, Bool, true, false, not, cond, ◌&&◌, ◌||◌, List, [], ◌∷◌, ◌++◌, map, Option, Some, None, IfSome, codes, arith, option_map}
use Rattle.std.proofs.lemmas.List.{append_assoc, append-nil}
use Rattle.std.specs.List.{list_any}
use Rattle.std.specs.Option.{option_and_then}
use Rattle.pf_base.specs.NumberTexts as front
use Rattle.pf_lex.specs.declared.token.Mark.TheVariants as mark
use Rattle.pf_model.specs.declared.expr.At.{At}
use Rattle.pf_model.specs.declared.expr.At.TheVariants as at
use Rattle.pf_model.specs.declared.expr.Matcher.{Matcher}
use Rattle.pf_model.specs.declared.expr.MatchSign.{MatchSign}
use Rattle.pf_model.specs.declared.expr.MatchSign.TheVariants as match
use Rattle.pf_model.specs.Grammar.{Terminal, Braces, braces_terminals, AreBraces, matcher_terminals, listed, commas_before, comma_if, label, has_colon, IsCommaLawful, is_named, Offset, offset_terminals, minus_if, AtModifier, at_modifier_terminals, front_terminals, IsAtModifier, millis_of, Modifiers, modifiers_terminals, these, AreModifiers}
use Rattle.pf_model.specs.Grammar as grammar
use Rattle.pf_model.specs.Tokens as token
use Rattle.pf_model.specs.Words.{match_text}
use Rattle.pf_parse.specs.declared.keyword.Keyword.TheVariants as keyword
use Rattle.pf_parse.specs.Held.{Target, selector, Read, nothing_read, offset_of}
use Rattle.pf_parse.specs.Lexemes.{Lexeme, number, duration, within_limit}
use Rattle.pf_parse.specs.Reading.{Frame, State, step, label_due, sign_due, text_due, matched, modified, offset_due, minus_offset_due, time_due, signed_time_due, end_open_due, end_close_due, is_name, to_if, to, with_offset, with_at, time_at, end_named}
use Rattle.pf_parse.proofs.Goes.{Goes, Fit, on, one, stays, then, by_mark, by_key, refit}
use Rattle.pf_parse.proofs.Seen.{Word, at_label, at_exactly, at_string, at_number, at_duration}

-- ---- matchers

abbrev brace : List Terminal → List Terminal
brace zs = grammar.sign (codes "}") ∷ zs

abbrev plain : List Matcher → List Frame → State
plain ms k = on (modified (Some (selector ms None)) nothing_read) k

pub braces_onto : (b : Braces) (zs : List Terminal)
    → braces_terminals b ++ zs ≡ grammar.sign (codes "{") ∷ (listed (map matcher_terminals b.matchers) ++ (comma_if b.comma ++ brace zs))
braces_onto b zs =
    ap (λ xs. grammar.sign (codes "{") ∷ xs)
    (append_assoc (listed (map matcher_terminals b.matchers)) (comma_if b.comma ++ (grammar.sign (codes "}") ∷ [])) zs
    ∙ ap (λ xs. listed (map matcher_terminals b.matchers) ++ xs) (append_assoc (comma_if b.comma) (grammar.sign (codes "}") ∷ []) zs))

label_goes : (w : Bool) (ms : List Matcher) (k : List Frame) (l : List ℕ) (x : Lexeme) → (w && is_name l) ≡ false
    → Word l x × (has_colon l ≡ false) → step (label_due w ms) k x ≡ Some (on (sign_due w ms l) k)
label_goes w ms k l x e h =
    ap (step (label_due w ms) k) h.0.is
    ∙ (ap (λ b. to_if (not b && not (w && is_name l)) (sign_due w ms l) k) h.1
    ∙ ap (λ b. to_if (not b) (sign_due w ms l) k) e)

sign_goes : (w : Bool) (ms : List Matcher) (k : List Frame) (l : List ℕ) (s : MatchSign) (zs : List Terminal) (us : List token.Sort)
    → Fit (grammar.sign (match_text s) ∷ zs) us → Goes (on (sign_due w ms l) k) (on (text_due w ms l s) k) zs us
sign_goes w ms k l match.Equal zs us h = by_mark mark.Equal (on (sign_due w ms l) k) (on (text_due w ms l match.Equal) k) zs us refl h
sign_goes w ms k l match.NotEqual zs us h = by_mark mark.NotEqual (on (sign_due w ms l) k) (on (text_due w ms l match.NotEqual) k) zs us refl h
sign_goes w ms k l match.Like zs us h = by_mark mark.Like (on (sign_due w ms l) k) (on (text_due w ms l match.Like) k) zs us refl h
sign_goes w ms k l match.NotLike zs us h = by_mark mark.NotLike (on (sign_due w ms l) k) (on (text_due w ms l match.NotLike) k) zs us refl h

by_matcher : (w : Bool) (ms : List Matcher) (k : List Frame) (m : Matcher) (zs : List Terminal) (us : List token.Sort)
    → (w && is_name m.label) ≡ false → Fit (matcher_terminals m ++ zs) us
    → Goes (on (label_due w ms) k) (on (matched w (ms ++ (m ∷ []))) k) zs us
by_matcher w ms k m zs us e h =
    then (one (on (label_due w ms) k) (on (sign_due w ms m.label) k) (label m.label) _ us
    (λ u f. label_goes w ms k m.label _ e (at_label m.label u f)) h)
    (λ vs f. then (sign_goes w ms k m.label m.sign _ vs f)
    (λ ws g. one (on (text_due w ms m.label m.sign) k) (on (matched w (ms ++ (m ∷ []))) k) (grammar.string m.text) zs ws
    (λ u f. ap (step (text_due w ms m.label m.sign) k) (at_string m.text u f)) g))

ends_braces : (w : Bool) (ms : List Matcher) (k : List Frame) (c : Bool) (zs : List Terminal) (us : List token.Sort)
    → Fit (comma_if c ++ brace zs) us → Goes (on (matched w ms) k) (plain ms k) zs us
ends_braces w ms k false zs us h = by_mark mark.CloseBrace (on (matched w ms) k) (plain ms k) zs us refl h
ends_braces w ms k true zs us h =
    then (by_mark mark.Comma (on (matched w ms) k) (on (label_due w ms) k) (brace zs) us refl h)
    (λ vs f. by_mark mark.CloseBrace (on (label_due w ms) k) (plain ms k) zs vs refl f)

first_false : (a b : Bool) → (a || b) ≡ false → a ≡ false
first_false false b h = refl
first_false true b h = h

second_false : (a b : Bool) → (a || b) ≡ false → b ≡ false
second_false false b h = h
second_false true b h = absurd (grind arith)

-- beside a name no matcher is of the name
abbrev Allowed : Bool → List Matcher → Type 0
Allowed w ms = (w && list_any is_named ms) ≡ false

allowed_first : (w : Bool) (m : Matcher) (ms : List Matcher) → Allowed w (m ∷ ms) → (w && is_name m.label) ≡ false
allowed_first false m ms h = refl
allowed_first true m ms h = first_false _ _ h

allowed_more : (w : Bool) (m : Matcher) (ms : List Matcher) → Allowed w (m ∷ ms) → Allowed w ms
allowed_more false m ms h = refl
allowed_more true m ms h = second_false (is_named m) _ h

more_matchers : (w : Bool) (ms ns : List Matcher) (k : List Frame) (c : Bool) (zs : List Terminal) (us : List token.Sort)
    → Allowed w ns → Fit (commas_before (map matcher_terminals ns) ++ (comma_if c ++ brace zs)) us
    → Goes (on (matched w ms) k) (plain (ms ++ ns) k) zs us
more_matchers w ms [] k c zs us a h =
    subst (λ xs. Goes (on (matched w ms) k) (plain xs k) zs us) (sym (append-nil ms)) (ends_braces w ms k c zs us h)
more_matchers w ms (n ∷ ns) k c zs us a h =
    subst (λ xs. Goes (on (matched w ms) k) (plain xs k) zs us) (append_assoc ms (n ∷ []) ns)
    (then (by_mark mark.Comma (on (matched w ms) k) (on (label_due w ms) k) _ us refl h)
    (λ vs f. then (by_matcher w ms k n _ vs (allowed_first w n ns a) f)
    (λ ws g. more_matchers w (ms ++ (n ∷ [])) ns k c zs ws (allowed_more w n ns a) g)))

no_comma : (c : Bool) → (c && true) ≡ false → c ≡ false
no_comma false h = refl
no_comma true h = h

first_matchers : (w : Bool) (ms ns : List Matcher) (k : List Frame) (c : Bool) (zs : List Terminal) (us : List token.Sort)
    → Allowed w ns → IsCommaLawful ns c → Fit (listed (map matcher_terminals ns) ++ (comma_if c ++ brace zs)) us
    → Goes (on (label_due w ms) k) (plain (ms ++ ns) k) zs us
first_matchers w ms [] k c zs us a l h =
    subst (λ xs. Goes (on (label_due w ms) k) (plain xs k) zs us) (sym (append-nil ms))
    (by_mark mark.CloseBrace (on (label_due w ms) k) (plain ms k) zs us refl
    (subst (λ b. Fit (comma_if b ++ brace zs) us) (no_comma c l) h))
first_matchers w ms (n ∷ ns) k c zs us a l h =
    subst (λ xs. Goes (on (label_due w ms) k) (plain xs k) zs us) (append_assoc ms (n ∷ []) ns)
    (then (by_matcher w ms k n _ us (allowed_first w n ns a) h)
    (λ vs f. more_matchers w (ms ++ (n ∷ [])) ns k c zs vs (allowed_more w n ns a) f))

-- matchers behind their brace
pub all_matchers : (w : Bool) (ms : List Matcher) (b : Braces) (k : List Frame) (zs : List Terminal) (us : List token.Sort)
    → AreBraces b → Allowed w b.matchers → Fit (listed (map matcher_terminals b.matchers) ++ (comma_if b.comma ++ brace zs)) us
    → Goes (on (label_due w ms) k) (plain (ms ++ b.matchers) k) zs us
all_matchers w ms b k zs us l a h = first_matchers w ms b.matchers k b.comma zs us a l h

-- ---- modifiers

abbrev pub read_offset : Offset → Option ℤ
read_offset o = offset_of o.minus (within_limit o.millis)

abbrev pub read_moment : AtModifier → Option At
read_moment (grammar.time s n) = time_at s n
read_moment grammar.start = Some at.Start
read_moment grammar.end = Some at.End

abbrev pub read_modifiers : Modifiers → Read
read_modifiers m = record { offset = option_map read_offset m.offset; at = option_map read_moment m.at }

pub by_millis : (d : ℕ) (s t : State) (zs : List Terminal) (us : List token.Sort)
    → step s.mode s.stack (duration (within_limit d)) ≡ Some t → Fit (grammar.duration d ∷ zs) us → Goes s t zs us
by_millis d s t zs us e h =
    one s t (grammar.duration d) zs us (λ u f. ap (step s.mode s.stack) (at_duration d u f) ∙ e) h

behind_offset : (minus : Bool) (d : ℕ) (t : Option Target) (r : Read) (k : List Frame) (zs : List Terminal) (us : List token.Sort)
    → Fit (minus_if minus ++ (grammar.duration d ∷ zs)) us
    → Goes (on (offset_due t r) k) (on (modified t (with_offset r (offset_of minus (within_limit d)))) k) zs us
behind_offset false d t r k zs us h =
    by_millis d (on (offset_due t r) k) (on (modified t (with_offset r (offset_of false (within_limit d)))) k) zs us refl h
behind_offset true d t r k zs us h =
    then (by_mark mark.Minus (on (offset_due t r) k) (on (minus_offset_due t r) k) _ us refl h)
    (λ vs f. by_millis d (on (minus_offset_due t r) k)
    (on (modified t (with_offset r (offset_of true (within_limit d)))) k) zs vs refl f)

by_offset : (o : Offset) (t : Option Target) (a : Option (Option At)) (k : List Frame) (zs : List Terminal) (us : List token.Sort)
    → Fit (offset_terminals o ++ zs) us
    → Goes (on (modified t (record { offset = None; at = a })) k)
    (on (modified t (record { offset = Some (read_offset o); at = a })) k) zs us
by_offset o t a k zs us h =
    let r : Read = record { offset = None; at = a } in
    then (by_key keyword.Offset (on (modified t r) k) (on (offset_due t r) k) _ us refl (λ w. refl) h)
    (λ vs f. behind_offset o.minus o.millis t r k zs vs
    (refit vs (append_assoc (minus_if o.minus) (grammar.duration o.millis ∷ []) zs) f))

timed_goes : (s : front.Sign) (n : ℤ) (t : Option Target) (r : Read) (k : List Frame) → int_le (pos 0) (millis_of s n) ≡ true
    → to_if (int_le (pos 0) (millis_of s n)) (modified t (with_at r (time_at s n))) k
    ≡ Some (on (modified t (with_at r (time_at s n))) k)
timed_goes s n t r k h = ap (λ b. to_if b (modified t (with_at r (time_at s n))) k) h

by_micros : (n : ℤ) (s t : State) (zs : List Terminal) (us : List token.Sort)
    → step s.mode s.stack (number n) ≡ Some t → Fit (grammar.number n ∷ zs) us → Goes s t zs us
by_micros n s t zs us e h = one s t (grammar.number n) zs us (λ u f. ap (step s.mode s.stack) (at_number n u f) ∙ e) h

abbrev at_time : Option Target → Read → front.Sign → ℤ → List Frame → State
at_time t r s n k = on (modified t (with_at r (time_at s n))) k

behind_at : (s : front.Sign) (n : ℤ) (t : Option Target) (r : Read) (k : List Frame) (zs : List Terminal) (us : List token.Sort)
    → int_le (pos 0) (millis_of s n) ≡ true → Fit (front_terminals s ++ (grammar.number n ∷ zs)) us
    → Goes (on (time_due t r) k) (at_time t r s n k) zs us
behind_at front.bare n t r k zs us p h =
    by_micros n (on (time_due t r) k) (at_time t r front.bare n k) zs us (timed_goes front.bare n t r k p) h
behind_at front.plus n t r k zs us p h =
    then (by_mark mark.Plus (on (time_due t r) k) (on (signed_time_due t r false) k) _ us refl h)
    (λ vs f. by_micros n (on (signed_time_due t r false) k) (at_time t r front.plus n k) zs vs
    (timed_goes front.plus n t r k p) f)
behind_at front.minus n t r k zs us p h =
    then (by_mark mark.Minus (on (time_due t r) k) (on (signed_time_due t r true) k) _ us refl h)
    (λ vs f. by_micros n (on (signed_time_due t r true) k) (at_time t r front.minus n k) zs vs
    (timed_goes front.minus n t r k p) f)

end_goes : (a : At) (w : List ℕ) (t : Option Target) (r : Read) (k : List Frame) (x : Lexeme) → end_named w ≡ Some a
    → Word w x → step (time_due t r) k x ≡ Some (on (end_open_due t r a) k)
end_goes a w t r k x e h =
    ap (step (time_due t r) k) h.is ∙ ap (option_and_then (λ a. to (end_open_due t r a) k)) e

by_end : (a : At) (w : List ℕ) (t : Option Target) (r : Read) (k : List Frame) (zs : List Terminal) (us : List token.Sort)
    → end_named w ≡ Some a → Fit (grammar.exactly w ∷ grammar.sign (codes "(") ∷ grammar.sign (codes ")") ∷ zs) us
    → Goes (on (time_due t r) k) (on (modified t (with_at r (Some a))) k) zs us
by_end a w t r k zs us e h =
    then (one (on (time_due t r) k) (on (end_open_due t r a) k) (grammar.exactly w) _ us
    (λ u f. end_goes a w t r k _ e (at_exactly w u f)) h)
    (λ vs f. then (by_mark mark.Open (on (end_open_due t r a) k) (on (end_close_due t r a) k) _ vs refl f)
    (λ ws g. by_mark mark.Close (on (end_close_due t r a) k) (on (modified t (with_at r (Some a))) k) zs ws refl g))

moment_goes : (m : AtModifier) (t : Option Target) (o : Option (Option ℤ)) (k : List Frame) (zs : List Terminal) (us : List token.Sort)
    → IsAtModifier m → Fit (at_modifier_terminals m ++ zs) us
    → Goes (on (modified t (record { offset = o; at = None })) k)
    (on (modified t (record { offset = o; at = Some (read_moment m) })) k) zs us
moment_goes (grammar.time s n) t o k zs us p h =
    let r : Read = record { offset = o; at = None } in
    then (by_mark mark.At (on (modified t r) k) (on (time_due t r) k) _ us refl h)
    (λ vs f. behind_at s n t r k zs vs p (refit vs (append_assoc (front_terminals s) (grammar.number n ∷ []) zs) f))
moment_goes grammar.start t o k zs us p h =
    let r : Read = record { offset = o; at = None } in
    then (by_mark mark.At (on (modified t r) k) (on (time_due t r) k) _ us refl h)
    (λ vs f. by_end at.Start (codes "start") t r k zs vs refl f)
moment_goes grammar.end t o k zs us p h =
    let r : Read = record { offset = o; at = None } in
    then (by_mark mark.At (on (modified t r) k) (on (time_due t r) k) _ us refl h)
    (λ vs f. by_end at.End (codes "end") t r k zs vs refl f)

offset_goes : (o : Option Offset) (t : Option Target) (a : Option (Option At)) (k : List Frame) (zs : List Terminal) (us : List token.Sort)
    → Fit (these offset_terminals o ++ zs) us
    → Goes (on (modified t (record { offset = None; at = a })) k)
    (on (modified t (record { offset = option_map read_offset o; at = a })) k) zs us
offset_goes None t a k zs us h = stays _ zs us h
offset_goes (Some o) t a k zs us h = by_offset o t a k zs us h

time_goes : (m : Option AtModifier) (t : Option Target) (o : Option (Option ℤ)) (k : List Frame) (zs : List Terminal) (us : List token.Sort)
    → IfSome m IsAtModifier → Fit (these at_modifier_terminals m ++ zs) us
    → Goes (on (modified t (record { offset = o; at = None })) k)
    (on (modified t (record { offset = o; at = option_map read_moment m })) k) zs us
time_goes None t o k zs us p h = stays _ zs us h
time_goes (Some m) t o k zs us p h = moment_goes m t o k zs us p h

abbrev in_order : Bool → Option Offset → Option AtModifier → List Terminal
in_order at_first o m =
    cond at_first (these at_modifier_terminals m ++ these offset_terminals o) (these offset_terminals o ++ these at_modifier_terminals m)

ordered_goes : (at_first : Bool) (o : Option Offset) (m : Option AtModifier) (t : Option Target) (k : List Frame) (zs : List Terminal) (us : List token.Sort)
    → IfSome m IsAtModifier → Fit (in_order at_first o m ++ zs) us
    → Goes (on (modified t nothing_read) k)
    (on (modified t (record { offset = option_map read_offset o; at = option_map read_moment m })) k) zs us
ordered_goes true o m t k zs us p h =
    then (time_goes m t None k _ us p (refit us (append_assoc (these at_modifier_terminals m) (these offset_terminals o) zs) h))
    (λ vs f. offset_goes o t (option_map read_moment m) k zs vs f)
ordered_goes false o m t k zs us p h =
    then (offset_goes o t None k _ us (refit us (append_assoc (these offset_terminals o) (these at_modifier_terminals m) zs) h))
    (λ vs f. time_goes m t (option_map read_offset o) k zs vs p f)

-- modifiers
pub all_modifiers : (m : Modifiers) (t : Option Target) (k : List Frame) (zs : List Terminal) (us : List token.Sort)
    → AreModifiers m → Fit (modifiers_terminals m ++ zs) us
    → Goes (on (modified t nothing_read) k) (on (modified t (read_modifiers m)) k) zs us
all_modifiers m t k zs us p h = ordered_goes m.at_first m.offset m.at t k zs us p h
