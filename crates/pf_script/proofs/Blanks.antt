-- Blanks and words.
use Rattle.std.proofs.Common.{◌≡◌, ◌∙◌, ℕ, zero, suc, ◌<◌, Bool, true, false, not, ◌&&◌, cond, Option, Some, None, option_map, List, [], ◌∷◌, ◌++◌, length, take, drop, get_or, refl, sym, ap, subst, arith}
use Rattle.std.proofs.lemmas.Bool.{and_parts}
use Rattle.std.proofs.lemmas.Bool.Decides.{nat_tests}
use Rattle.std.proofs.lemmas.Grind.{common_steps}
use Rattle.std.proofs.lemmas.List.Quantifiers.{position-Some}
use Rattle.std.proofs.lemmas.Str.{IsCharBoundary-after_ascii, IsCharBoundary-before_ascii, IsCharBoundary-end, IsCharBoundary-start}
use Rattle.std.specs.List.{position, slice_range}
use Rattle.std.specs.Str.{IsCharBoundary, IsUtf8}
use Rattle.pf_base.specs.LabelSets.{is_empty}
use Rattle.pf_model.proofs.Places.{place, position_is}
use Rattle.pf_model.specs.Cuts.{Cut, only_if}
use Rattle.pf_model.specs.Exposition.{are_blanks, is_blank}
use Rattle.pf_journal.specs.Scripts.{next_word, past_blanks, trimmed_text, without_blanks, word_cut}

-- ---- blanks in front

abbrev is_other : ℕ → Bool
is_other b = not (is_blank b)

abbrev from_place : Option ℕ → List ℕ → List ℕ
from_place None bs = []
from_place (Some n) bs = drop n bs

from_next : (o : Option ℕ) (b : ℕ) (bs : List ℕ) → from_place o bs ≡ from_place (option_map suc o) (b ∷ bs)
from_next None b bs = refl
from_next (Some n) b bs = refl

past_by : (b : ℕ) (bs : List ℕ) (t : Bool) → past_blanks bs ≡ from_place (place is_other bs) bs
    → cond t (past_blanks bs) (b ∷ bs) ≡ from_place (cond (not t) (Some 0) (option_map suc (place is_other bs))) (b ∷ bs)
past_by b bs true e = e ∙ from_next (place is_other bs) b bs
past_by b bs false e = refl

past_place : (bs : List ℕ) → past_blanks bs ≡ from_place (place is_other bs) bs
past_place [] = refl
past_place (b ∷ bs) = past_by b bs (is_blank b) (past_place bs)

past_of : (bs : List ℕ) (o : Option ℕ) → o ≡ position is_other bs → past_blanks bs ≡ from_place o bs
past_of bs o e = past_place bs ∙ ap (λ p. from_place p bs) (sym (position_is is_other bs) ∙ sym e)

pub past_from : (bs : List ℕ) (n : ℕ) → Some n ≡ position is_other bs → drop n bs ≡ past_blanks bs
past_from bs n e = sym (past_of bs (Some n) e)

pub all_past : (bs : List ℕ) → None ≡ position is_other bs → [] ≡ past_blanks bs
all_past bs e = sym (past_of bs None e)

-- a place that all before it is blank is a boundary, and so is one of a blank
low_blank : (b : ℕ) → is_blank b ≡ true → b < 128
low_blank b h = grind (arith, nat_tests)

no_other : (b : ℕ) → is_other b ≡ false → is_blank b ≡ true
no_other b h = grind (arith, nat_tests)

pub past_boundary : (bs : List ℕ) (n : ℕ) → IsUtf8 bs → Some n ≡ position is_other bs → IsCharBoundary bs n
past_boundary bs zero u e = IsCharBoundary-start bs u
past_boundary bs (suc n) u e =
    let p = position-Some is_other bs (suc n) 0 (sym e) in
    subst (IsCharBoundary bs) (omega arith) (IsCharBoundary-after_ascii bs n u (omega (arith, p.0)) (low_blank (get_or bs n 0) (no_other (get_or bs n 0) (p.2 n (omega arith)))))

pub blank_boundary : (bs : List ℕ) (n : ℕ) → Some n ≡ position is_blank bs → IsCharBoundary bs n
blank_boundary bs n e = let p = position-Some is_blank bs n 0 (sym e) in IsCharBoundary-before_ascii bs n p.0 (low_blank (get_or bs n 0) p.1)

pub ruleset past_rules = (past_from, all_past, past_boundary)

-- ---- words

range_taken : (bs : List ℕ) (n : ℕ) → slice_range bs 0 n ≡ take n bs
range_taken bs n = grind (arith, common_steps)

abbrev cut_by : Option ℕ → List ℕ → Cut
cut_by None bs = record { front = bs; behind = [] }
cut_by (Some n) bs = record { front = take n bs; behind = drop n bs }

abbrev fronted : ℕ → Cut → Cut
fronted b c = record { front = b ∷ c.front; behind = c.behind }

cut_next : (o : Option ℕ) (b : ℕ) (bs : List ℕ) → fronted b (cut_by o bs) ≡ cut_by (option_map suc o) (b ∷ bs)
cut_next None b bs = refl
cut_next (Some n) b bs = refl

cut_step : (b : ℕ) (bs : List ℕ) (t : Bool) → word_cut bs ≡ cut_by (place is_blank bs) bs
    → cond t (record { front = []; behind = b ∷ bs }) (record { front = b ∷ (word_cut bs).front; behind = (word_cut bs).behind }) ≡ cut_by (cond t (Some 0) (option_map suc (place is_blank bs))) (b ∷ bs)
cut_step b bs true e = refl
cut_step b bs false e = ap (fronted b) e ∙ cut_next (place is_blank bs) b bs

cut_place : (bs : List ℕ) → word_cut bs ≡ cut_by (place is_blank bs) bs
cut_place [] = refl
cut_place (b ∷ bs) = cut_step b bs (is_blank b) (cut_place bs)

cut_of : (bs : List ℕ) (o : Option ℕ) → o ≡ position is_blank bs → word_cut bs ≡ cut_by o bs
cut_of bs o e = cut_place bs ∙ ap (λ p. cut_by p bs) (sym (position_is is_blank bs) ∙ sym e)

abbrev word_of : Cut → Option Cut
word_of c = only_if (not (is_empty c.front) && not (is_empty c.behind)) (record { front = c.front; behind = past_blanks c.behind })

empty_without : (b : Bool) (x : Cut) → only_if (b && false) x ≡ None
empty_without true x = refl
empty_without false x = refl

pub no_word : (bs : List ℕ) → None ≡ position is_blank bs → next_word bs ≡ None
no_word bs e = ap word_of (cut_of bs None e) ∙ empty_without (not (is_empty bs)) _

pub empty_word : (bs : List ℕ) (n : ℕ) → Some n ≡ position is_blank bs → n ≡ 0 → next_word bs ≡ None
empty_word bs n e h = ap word_of (cut_of bs (Some n) e ∙ ap (λ m. cut_by (Some m) bs) h)

full_taken : (bs : List ℕ) (n : ℕ) → n < length bs → (n ≡ 0 → ⊥) → is_empty (take n bs) ≡ false
full_taken [] n l h = absurd (omega arith)
full_taken (b ∷ bs) zero l h = absurd (h refl)
full_taken (b ∷ bs) (suc n) l h = refl

full_behind : (bs : List ℕ) (n : ℕ) → n < length bs → is_empty (drop n bs) ≡ false
full_behind [] n l = absurd (omega arith)
full_behind (b ∷ bs) zero l = refl
full_behind (b ∷ bs) (suc n) l = full_behind bs n (omega arith)

pub word_behind : (bs front rest behind : List ℕ) (n : ℕ) → Some n ≡ position is_blank bs → n < length bs → (n ≡ 0 → ⊥) → front ≡ slice_range bs 0 n → rest ≡ drop n bs → behind ≡ past_blanks rest
    → next_word bs ≡ Some (record { front = front; behind = behind })
word_behind bs front rest behind n e l h taken left made =
    let f = full_taken bs n l h in
    let g = full_behind bs n l in
    ap word_of (cut_of bs (Some n) e)
    ∙ rw (f, g) (ap (λ xs. Some (record { front = take n bs; behind = xs })) (ap past_blanks (sym left) ∙ sym made) ∙ ap (λ xs. Some (record { front = xs; behind = behind })) (sym (range_taken bs n) ∙ sym taken))

pub ruleset word_rules = (no_word, empty_word, word_behind, blank_boundary)

-- ---- blanks at the end

blanks_by : (xs : List ℕ) (b : ℕ) → is_blank b ≡ true → are_blanks (xs ++ b ∷ []) ≡ are_blanks xs
blanks_by [] b e = rw e refl
blanks_by (x ∷ xs) b e = ap (λ t. is_blank x && t) (blanks_by xs b e)

end_dropped : (xs : List ℕ) (b : ℕ) → is_blank b ≡ true → without_blanks (xs ++ b ∷ []) ≡ without_blanks xs
end_dropped [] b e = rw e refl
end_dropped (x ∷ xs) b e = ap (λ t. cond (is_blank x && t) [] (x ∷ without_blanks (xs ++ b ∷ []))) (blanks_by xs b e) ∙ ap (λ ys. cond (are_blanks (x ∷ xs)) [] (x ∷ ys)) (end_dropped xs b e)

other_by : (xs : List ℕ) (b : ℕ) → is_blank b ≡ false → are_blanks (xs ++ b ∷ []) ≡ false
other_by [] b e = rw e refl
other_by (x ∷ xs) b e = ap (λ t. is_blank x && t) (other_by xs b e) ∙ grind (arith, common_steps)

end_kept : (xs : List ℕ) (b : ℕ) → is_blank b ≡ false → without_blanks (xs ++ b ∷ []) ≡ xs ++ b ∷ []
end_kept [] b e = rw e refl
end_kept (x ∷ xs) b e = ap (λ t. cond t [] (x ∷ without_blanks (xs ++ b ∷ []))) (other_by (x ∷ xs) b e) ∙ ap (λ ys. x ∷ ys) (end_kept xs b e)

pub end_blank : (bs xs : List ℕ) (b : ℕ) → bs ≡ xs ++ b ∷ [] → is_blank b ≡ true → without_blanks xs ≡ without_blanks bs
end_blank bs xs b e h = sym (ap without_blanks e ∙ end_dropped xs b h)

pub end_other : (bs xs : List ℕ) (b : ℕ) → bs ≡ xs ++ b ∷ [] → is_blank b ≡ false → bs ≡ without_blanks bs
end_other bs xs b e h = e ∙ sym (ap without_blanks e ∙ end_kept xs b h)

pub end_empty : (bs : List ℕ) → length bs ≡ 0 → bs ≡ without_blanks bs
end_empty [] e = refl
end_empty (b ∷ bs) e = absurd (omega arith)

pub ruleset end_rules = (end_blank, end_other, end_empty)

-- ---- a text without the blanks at its end

next_boundary : (b : ℕ) (bs : List ℕ) (n : ℕ) → IsCharBoundary bs n → IsCharBoundary (b ∷ bs) (suc n)
next_boundary b bs n h = (omega (arith, h.0), λ l. h.1 (omega (arith, l)))

front_by : (b : ℕ) (bs : List ℕ) (t : Bool) → are_blanks (b ∷ bs) ≡ t → IsCharBoundary bs (length (without_blanks bs)) → IsCharBoundary (b ∷ bs) (length (cond t [] (b ∷ without_blanks bs)))
front_by b bs true e h = IsCharBoundary-before_ascii (b ∷ bs) 0 (omega arith) (low_blank b (and_parts _ _ e).0)
front_by b bs false e h = next_boundary b bs (length (without_blanks bs)) h

front_boundary : (bs : List ℕ) → IsCharBoundary bs (length (without_blanks bs))
front_boundary [] = IsCharBoundary-end []
front_boundary (b ∷ bs) = front_by b bs (are_blanks (b ∷ bs)) refl (front_boundary bs)

taken_by : (b : ℕ) (bs : List ℕ) (t : Bool) → take (length (without_blanks bs)) bs ≡ without_blanks bs → take (length (cond t [] (b ∷ without_blanks bs))) (b ∷ bs) ≡ cond t [] (b ∷ without_blanks bs)
taken_by b bs true e = refl
taken_by b bs false e = ap (λ xs. b ∷ xs) e

front_taken : (bs : List ℕ) → take (length (without_blanks bs)) bs ≡ without_blanks bs
front_taken [] = refl
front_taken (b ∷ bs) = taken_by b bs (are_blanks (b ∷ bs)) (front_taken bs)

pub end_boundary : (bs front : List ℕ) → front ≡ without_blanks bs → IsCharBoundary bs (length front)
end_boundary bs front e = subst (λ (xs : List ℕ). IsCharBoundary bs (length xs)) (sym e) (front_boundary bs)

pub end_taken : (bs front : List ℕ) → front ≡ without_blanks bs → slice_range bs 0 (length front) ≡ without_blanks bs
end_taken bs front e = range_taken bs (length front) ∙ ap (λ xs. take (length xs) bs) e ∙ front_taken bs

text_by : (front : List ℕ) → (length front ≡ 0 → ⊥) → only_if (not (is_empty front)) front ≡ Some front
text_by [] h = absurd (h refl)
text_by (b ∷ bs) h = refl

no_text_by : (front : List ℕ) → length front ≡ 0 → only_if (not (is_empty front)) front ≡ None
no_text_by [] h = refl
no_text_by (b ∷ bs) h = absurd (omega arith)

pub text_there : (bs front : List ℕ) → front ≡ without_blanks bs → (length front ≡ 0 → ⊥) → trimmed_text bs ≡ Some front
unfolding trimmed_text
text_there bs front e h = ap (λ xs. only_if (not (is_empty xs)) xs) (sym e) ∙ text_by front h

pub text_nowhere : (bs front : List ℕ) → front ≡ without_blanks bs → length front ≡ 0 → trimmed_text bs ≡ None
unfolding trimmed_text
text_nowhere bs front e h = ap (λ xs. only_if (not (is_empty xs)) xs) (sym e) ∙ no_text_by front h

pub ruleset text_rules = (text_there, text_nowhere)
