-- A token begins and ends with ASCII.
use Rattle.std.proofs.Common.{◌≡◌, ◌∙◌, ℕ, zero, suc, inl, inr, Bool, true, false, not, ◌&&◌, ◌||◌, Option, Some, None, List, [], ◌∷◌, ◌++◌, refl, ap, arith}
use Rattle.std.specs.Prelude.{nat_eq, nat_lt}
use Rattle.std.specs.List.{list_all, list_any}
use Rattle.std.specs.Option.{option_or}
use Rattle.std.specs.Str.{bytes_eq}
use Rattle.std.proofs.lemmas.Bool.{and_parts, and_from, or_cases}
use Rattle.std.proofs.lemmas.Bool.Decides.{nat_tests}
use Rattle.std.proofs.lemmas.Slice.Eq.{bytes_eq-Decides}
use Rattle.pf_base.specs.LabelSets.{goes_on, is_empty, starts_name}
use Rattle.pf_model.specs.Cuts.{only_if}
use Rattle.pf_base.proofs.Readings.{bool_cases}
use Rattle.pf_model.specs.TokenScans.{form, number_form, duration_form, word_sort}
use Rattle.pf_model.specs.Tokens.{Piece, Sort, ends, wrong, writes, is_sign, is_word, string_form, string_from, raw_from, piece, sign, signs, with_piece}
use Rattle.pf_model.specs.FirstBytes.{first_passes}
use Rattle.pf_lex.proofs.Numbers.{number_low}
use Rattle.pf_lex.proofs.Pieces.{ends_same, map_some}
use Rattle.pf_lex.proofs.Quantities.{duration_goes}

abbrev pub is_low : ℕ → Bool
is_low b = nat_lt b 128

abbrev pub last_is : (ℕ → Bool) → List ℕ → Bool
last_is p [] = false
last_is p (b ∷ []) = p b
last_is p (b ∷ (c ∷ cs)) = last_is p (c ∷ cs)

-- the first byte and the last are ASCII
pub record IsLow (xs : List ℕ) : Type 0 where
  pub first : first_passes is_low xs ≡ true
  pub last : last_is is_low xs ≡ true

implied : (p q : ℕ → Bool) → ((b : ℕ) → p b ≡ true → q b ≡ true) → (xs : List ℕ) → list_all p xs ≡ true → list_all q xs ≡ true
implied p q f [] h = refl
implied p q f (b ∷ bs) h = let parts = and_parts (p b) (list_all p bs) h in and_from _ _ (f b parts.0) (implied p q f bs parts.1)

last_of_all : (p : ℕ → Bool) (b : ℕ) (bs : List ℕ) → list_all p (b ∷ bs) ≡ true → last_is p (b ∷ bs) ≡ true
last_of_all p b [] h = (and_parts (p b) true h).0
last_of_all p b (c ∷ cs) h = last_of_all p c cs (and_parts (p b) (list_all p (c ∷ cs)) h).1

all_low : (b : ℕ) (bs : List ℕ) → list_all is_low (b ∷ bs) ≡ true → IsLow (b ∷ bs)
all_low b bs h = record { first = (and_parts (is_low b) (list_all is_low bs) h).0; last = last_of_all is_low b bs h }

goes_low : (b : ℕ) → goes_on b ≡ true → is_low b ≡ true
goes_low b h = grind (arith, nat_tests)

word_low : (b : ℕ) → (goes_on b || nat_eq b 58) ≡ true → is_low b ≡ true
word_low b h = grind (arith, nat_tests)

start_low : (b : ℕ) → (starts_name b || nat_eq b 58) ≡ true → is_low b ≡ true
start_low b h = grind (arith, nat_tests)

-- ---- words

low_word : (b : ℕ) (bs : List ℕ) → is_word (b ∷ bs) ≡ true → IsLow (b ∷ bs)
low_word b bs h =
    let parts = and_parts (starts_name b || nat_eq b 58) (list_all (λ c. goes_on c || nat_eq c 58) bs) h in
    all_low b bs (and_from (is_low b) (list_all is_low bs) (start_low b parts.0) (implied (λ c. goes_on c || nat_eq c 58) is_low word_low bs parts.1))

-- ---- numbers and durations

low_number : (b : ℕ) (bs : List ℕ) (s : Sort) → number_form (b ∷ bs) ≡ Some s → IsLow (b ∷ bs)
low_number b bs s h = all_low b bs (number_low (b ∷ bs) s h)

low_duration : (b : ℕ) (bs : List ℕ) (s : Sort) → duration_form (b ∷ bs) ≡ Some s → IsLow (b ∷ bs)
low_duration b bs s h = all_low b bs (implied goes_on is_low goes_low (b ∷ bs) (duration_goes (b ∷ bs) s h))

-- ---- strings

only_nil : (bs w : List ℕ) → only_if (is_empty bs) [] ≡ Some w → bs ≡ []
only_nil [] w h = refl
only_nil (b ∷ bs) w h = cc

last_more : (p : ℕ → Bool) (b : ℕ) (bs : List ℕ) → last_is p bs ≡ true → last_is p (b ∷ bs) ≡ true
last_more p b [] h = cc
last_more p b (c ∷ cs) h = h

same_byte : (b c : ℕ) → nat_eq b c ≡ true → b ≡ c
same_byte b c h = grind (arith, nat_tests)

ends_quote : (quote b : ℕ) (xs : List ℕ) → piece quote b xs ≡ ends → b ≡ quote
ends_quote quote b xs h = elim (bool_cases (nat_eq b quote)) [
  | inl t ↦ same_byte b quote t
  | inr n ↦ absurd (other n (ends_same quote b xs [] h))
]
  where
    other : nat_eq b quote ≡ false → piece quote b [] ≡ ends → ⊥
    other n h = elim (bool_cases (nat_eq b 10)) [
      | inl t ↦ let g = rw (n, t) at h in cc
      | inr m ↦ elim (bool_cases (nat_eq b 92)) [
        | inl t ↦ let g = rw (n, m, t) at h in cc
        | inr k ↦ let g = rw (n, m, k) at h in cc
      ]
    ]

last_quote : (quote passed : ℕ) (bs w : List ℕ) → string_from quote passed bs ≡ Some w → last_is (λ b. nat_eq b quote) bs ≡ true
last_quote quote passed [] w h = cc
last_quote quote (suc passed) (b ∷ bs) w h = last_more _ b bs (last_quote quote passed bs w h)
last_quote quote zero (b ∷ bs) w h = by (piece quote b bs) refl (λ f x e. last_quote quote f bs x e) h
  where
    by : (p : Piece) → piece quote b bs ≡ p → ((f : ℕ) (x : List ℕ) → string_from quote f bs ≡ Some x → last_is (λ b. nat_eq b quote) bs ≡ true)
        → with_piece p bs (λ further. string_from quote further bs) ≡ Some w → last_is (λ b. nat_eq b quote) (b ∷ bs) ≡ true
    by ends e more h =
        let z = only_nil bs w h in
        let q : nat_eq b quote ≡ true = let k = ends_quote quote b bs e in grind (arith, nat_tests) in
        ap (λ xs. last_is (λ b. nat_eq b quote) (b ∷ xs)) z ∙ q
    by wrong e more h = cc
    by (writes v f) e more h = let t = map_some (λ written. v ++ written) (string_from quote f bs) w h in last_more _ b bs (more f t.0 t.1.0)

last_raw : (bs w : List ℕ) → raw_from bs ≡ Some w → last_is (λ b. nat_eq b 96) bs ≡ true
last_raw [] w h = cc
last_raw (b ∷ bs) w h = elim (bool_cases (nat_eq b 96)) [
  | inl t ↦ let g = rw t at h in let z = only_nil bs w g in ap (λ xs. last_is (λ b. nat_eq b 96) (b ∷ xs)) z ∙ t
  | inr n ↦ let g = rw n at h in let t = map_some (λ written. b ∷ written) (raw_from bs) w g in last_more _ b bs (last_raw bs t.0 t.1.0)
]

last_implied : (p q : ℕ → Bool) → ((b : ℕ) → p b ≡ true → q b ≡ true) → (xs : List ℕ) → last_is p xs ≡ true → last_is q xs ≡ true
last_implied p q f [] h = cc
last_implied p q f (b ∷ []) h = f b h
last_implied p q f (b ∷ (c ∷ cs)) h = last_implied p q f (c ∷ cs) h

equal_low : (q b : ℕ) → is_low q ≡ true → nat_eq b q ≡ true → is_low b ≡ true
equal_low q b l e = ap is_low (same_byte b q e) ∙ l

low_string : (b : ℕ) (bs : List ℕ) (s : Sort) → string_form (b ∷ bs) ≡ Some s → IsLow (b ∷ bs)
low_string b bs s h = elim (bool_cases (nat_eq b 34 || nat_eq b 39)) [
  | inl t ↦
      let g = rw t at h in
      let w = map_some _ (string_from b zero bs) s g in
      let l : is_low b ≡ true = quote b t in
      record { first = l; last = last_more is_low b bs (last_implied (λ c. nat_eq c b) is_low (λ c e. equal_low b c l e) bs (last_quote b zero bs w.0 w.1.0)) }
  | inr n ↦ elim (bool_cases (nat_eq b 96)) [
    | inl t ↦
        let g = rw (n, t) at h in
        let w = map_some _ (raw_from bs) s g in
        record { first = equal_low 96 b refl t; last = last_more is_low b bs (last_implied (λ c. nat_eq c 96) is_low (λ c e. equal_low 96 c refl e) bs (last_raw bs w.0 w.1.0)) }
    | inr m ↦ absurd (let g = rw (n, m) at h in cc)
  ]
]
  where
    quote : (b : ℕ) → (nat_eq b 34 || nat_eq b 39) ≡ true → is_low b ≡ true
    quote b h = grind (arith, nat_tests)

-- ---- signs

among : (xs : List ℕ) (ss : List (List ℕ)) → list_all (list_all is_low) ss ≡ true → list_any (bytes_eq xs) ss ≡ true → list_all is_low xs ≡ true
among xs [] k h = cc
among xs (s ∷ ss) k h =
    let parts = and_parts (list_all is_low s) (list_all (list_all is_low) ss) k in
    elim (or_cases (bytes_eq xs s) (list_any (bytes_eq xs) ss) h) [
      | inl e ↦ ap (list_all is_low) ((bytes_eq-Decides xs s).0 e) ∙ parts.0
      | inr o ↦ among xs ss parts.1 o
    ]

low_sign : (inside : Bool) (b : ℕ) (bs : List ℕ) → is_sign inside (b ∷ bs) ≡ true → IsLow (b ∷ bs)
low_sign inside b bs h = elim (or_cases (list_any (bytes_eq (b ∷ bs)) signs) (inside && bytes_eq (b ∷ bs) (58 ∷ [])) h) [
  | inl e ↦ all_low b bs (among (b ∷ bs) signs refl e)
  | inr o ↦ all_low b bs (ap (list_all is_low) ((bytes_eq-Decides (b ∷ bs) (58 ∷ [])).0 (and_parts inside _ o).1))
]

-- ---- all forms

pub only_if_true : {X : Type 0} (t : Bool) (x y : X) → only_if t x ≡ Some y → t ≡ true
only_if_true true x y h = refl
only_if_true false x y h = cc

pub or_some : {P : Type 0} (o p : Option Sort) (s : Sort) → (o ≡ Some s → P) → (p ≡ Some s → P) → option_or o p ≡ Some s → P
or_some None p s f g h = g h
or_some (Some t) p s f g h = f h

pub form_low : (inside : Bool) (xs : List ℕ) (s : Sort) → form inside xs ≡ Some s → IsLow xs
form_low inside [] s h = absurd (empty inside h)
  where
    empty : (t : Bool) → form t [] ≡ Some s → ⊥
    empty true h = cc
    empty false h = cc
form_low inside (b ∷ bs) s h =
    or_some _ _ s (λ e. low_word b bs (and_parts (not inside) (is_word (b ∷ bs)) (only_if_true (not inside && is_word (b ∷ bs)) (word_sort (b ∷ bs)) s e)).1)
    (or_some _ _ s (low_number b bs s)
    (or_some _ _ s (low_duration b bs s)
    (or_some _ _ s (low_string b bs s) (λ e. low_sign inside b bs (only_if_true (is_sign inside (b ∷ bs)) (sign (b ∷ bs)) s e))))) h
