-- The lines of a text.
use Rattle.std.proofs.Common.{◌≡◌, ◌∙◌, ℕ, suc, ◌+◌, ◌-◌, Bool, true, false, ◌&&◌, cond, Option, Some, None, option_map, List, [], ◌∷◌, ◌++◌, length, take, drop, nat_eq, refl, sym, ap, subst, add-one, arith}
use Rattle.std.proofs.lemmas.Bool.Decides.{nat_tests}
use Rattle.std.specs.List.{position}
use Rattle.pf_base.specs.LabelSets.{is_empty}
use Rattle.pf_model.proofs.Places.{place, position_is, rest_taken}
use Rattle.pf_model.specs.Exposition.{begins_with, file_lines, onto_first}
use Rattle.pf_model.specs.LineEnds.{without_return}

-- ---- a carriage return at the end

ends_by : (b : ℕ) (bs : List ℕ) (x : ℕ) → is_empty (bs ++ (x ∷ [])) ≡ false
ends_by b [] x = refl
ends_by b (c ∷ cs) x = refl

return_dropped : (front : List ℕ) → without_return (front ++ (13 ∷ [])) ≡ front
return_dropped [] = refl
return_dropped (b ∷ bs) = let e = ends_by b bs 13 in rw e (ap (λ xs. b ∷ xs) (return_dropped bs))

no_return : (front : List ℕ) (x : ℕ) → (x ≡ 13 → ⊥) → without_return (front ++ (x ∷ [])) ≡ front ++ (x ∷ [])
no_return [] x h = let e : nat_eq x 13 ≡ false = grind (arith, nat_tests) in rw e refl
no_return (b ∷ bs) x h = let e = ends_by b bs x in rw e (ap (λ xs. b ∷ xs) (no_return bs x h))

pub returned : (xs front : List ℕ) (x : ℕ) → xs ≡ front ++ (x ∷ []) → x ≡ 13 → front ≡ without_return xs
returned xs front x e h = sym (ap without_return (e ∙ ap (λ y. front ++ (y ∷ [])) h) ∙ return_dropped front)

pub not_returned : (xs front : List ℕ) (x : ℕ) → xs ≡ front ++ (x ∷ []) → (x ≡ 13 → ⊥) → xs ≡ without_return xs
not_returned xs front x e h = e ∙ sym (ap without_return e ∙ no_return front x h)

pub empty_kept : (xs : List ℕ) → length xs ≡ 0 → xs ≡ without_return xs
empty_kept [] h = refl
empty_kept (x ∷ xs) h = absurd (omega arith)

pub ruleset return_rules = (returned, not_returned, empty_kept)

-- ---- lines by the place of the first line feed

abbrev alone : List ℕ → List (List ℕ)
alone [] = []
alone (x ∷ xs) = (x ∷ xs) ∷ []

abbrev LinesBy : List ℕ → List (List ℕ) → Bool → Option ℕ → Type 0
LinesBy xs ls t (Some n) = (ls ≡ without_return (take n xs) ∷ file_lines (drop (suc n) xs)) × (t ≡ is_empty (take n xs))
LinesBy xs ls t None = (ls ≡ alone xs) × (t ≡ false)

onto_alone : (x : ℕ) (xs : List ℕ) → onto_first x (alone xs) ≡ (x ∷ xs) ∷ []
onto_alone x [] = refl
onto_alone x (y ∷ ys) = refl

-- x before a line whose front is empty or not, and which is a carriage return or not
kept_by : (x : ℕ) (front behind : List ℕ) (ls : List (List ℕ)) (r : Bool) → ls ≡ without_return front ∷ file_lines behind
    → cond (r && is_empty front) ls (onto_first x ls) ≡ cond (is_empty front && r) [] (x ∷ without_return front) ∷ file_lines behind
kept_by x [] behind ls true e = e
kept_by x [] behind ls false e = ap (onto_first x) e
kept_by x (b ∷ bs) behind ls true e = ap (onto_first x) e
kept_by x (b ∷ bs) behind ls false e = ap (onto_first x) e

none_by : (x : ℕ) (xs : List ℕ) (ls : List (List ℕ)) (r t : Bool) → ls ≡ alone xs → t ≡ false → cond (r && t) ls (onto_first x ls) ≡ (x ∷ xs) ∷ []
none_by x xs ls r true e h = cc
none_by x xs ls true false e h = ap (onto_first x) e ∙ onto_alone x xs
none_by x xs ls false false e h = ap (onto_first x) e ∙ onto_alone x xs

lines_step : (x : ℕ) (xs : List ℕ) (t s : Bool) (o : Option ℕ) → LinesBy xs (file_lines xs) s o
    → LinesBy (x ∷ xs) (cond t ([] ∷ file_lines xs) (cond (nat_eq x 13 && s) (file_lines xs) (onto_first x (file_lines xs)))) t (cond t (Some 0) (option_map suc o))
lines_step x xs true s o l = (refl, refl)
lines_step x xs false s (Some n) l =
    (ap (λ b. cond (nat_eq x 13 && b) (file_lines xs) (onto_first x (file_lines xs))) l.1 ∙ kept_by x (take n xs) (drop (suc n) xs) (file_lines xs) (nat_eq x 13) l.0, refl)
lines_step x xs false s None l = (none_by x xs (file_lines xs) (nat_eq x 13) s l.0 l.1, refl)

lines_by : (xs : List ℕ) → LinesBy xs (file_lines xs) (begins_with 10 xs) (place (λ y. nat_eq y 10) xs)
lines_by [] = (refl, refl)
lines_by (x ∷ xs) = lines_step x xs (nat_eq x 10) (begins_with 10 xs) (place (λ y. nat_eq y 10) xs) (lines_by xs)

lines_at : (xs : List ℕ) (o : Option ℕ) → o ≡ position (λ y. nat_eq y 10) xs → LinesBy xs (file_lines xs) (begins_with 10 xs) o
lines_at xs o e = let P : Option ℕ → Type 0 = λ p. LinesBy xs (file_lines xs) (begins_with 10 xs) p in subst P (sym (e ∙ position_is (λ y. nat_eq y 10) xs)) (lines_by xs)

pub last_line : (xs : List ℕ) → None ≡ position (λ y. nat_eq y 10) xs → (length xs ≡ 0 → ⊥) → file_lines xs ≡ xs ∷ []
last_line [] e h = absurd (h refl)
last_line (x ∷ xs) e h = (lines_at (x ∷ xs) None e).0

pub line_there : (xs : List ℕ) (n : ℕ) (line : List ℕ) → Some n ≡ position (λ y. nat_eq y 10) xs → line ≡ without_return (take n xs)
    → file_lines xs ≡ line ∷ file_lines (take (length xs - (n + 1)) (drop (n + 1) xs))
line_there xs n line e made = (lines_at xs (Some n) e).0 ∙ ap (λ l. l ∷ file_lines (drop (suc n) xs)) (sym made)
    ∙ ap (λ ys. line ∷ file_lines ys) (ap (λ m. drop m xs) (sym (add-one n)) ∙ sym (rest_taken xs (n + 1)))
