-- What a duration's text is read as is what the grammar says of it, and nothing else.
use Rattle.std.proofs.Common.{◌≡◌, ℕ, ◌+◌, ◌*◌, ◌<◌, ◌≤◌, Bool, true, false, ◌&&◌, ◌||◌, not, min, cond, List, [], ◌∷◌, ◌++◌, length, refl, ap, sym, ◌∙◌, subst, arith, inl, inr, Result, Ok, Err, zero-add, ◌↔◌}
use Rattle.std.specs.Prelude.{nat_eq, nat_lt}
use Rattle.std.specs.Str.{all_ascii_digits, bytes_eq}
use Rattle.std.specs.Char.{is_ascii_digit}
use Rattle.std.proofs.lemmas.Bool.{cases_lt}
use Rattle.std.proofs.lemmas.Bool.Decides.{nat_tests}
use Rattle.std.proofs.lemmas.Slice.Eq.{bytes_eq-Decides}
use Rattle.std.proofs.Math.Nat.{le-mul_of_pos_right}
use Rattle.pf_base.specs.NumberTexts.{number_after}
use Rattle.pf_base.specs.NumberScans.{capped, digits_in_front, past_digits}
use Rattle.pf_base.specs.DurationTexts.{units, Spells, ReadsDuration}
use Rattle.pf_base.specs.DurationScans.{letters_in_front, past_letters, has_part, rest_after, total_of, duration_of}
use Rattle.pf_base.specs.declared.duration.DurationError.{DurationError}
use Rattle.pf_base.specs.declared.duration.DurationError.TheVariants.{BadForm, TooLarge}
use Rattle.pf_base.proofs.Digits.{both}
use Rattle.pf_base.proofs.Letters.{all_letters, parts_of, on_letter}
use Rattle.pf_base.proofs.Readings.{bool_cases, digits_split, digits_all, digits_spelled}

-- a part added to a total, as the code computes it
pub part_added : (t v k r : ℕ) → t ≤ 4398046511104 → 0 < k
    → r ≡ min (min (t + min (capped v * k) 18446744073709551615) 18446744073709551615) 4398046511104
    → r ≡ min (t + v * k) 4398046511104
part_added t v k r ht hk e = elim (cases_lt 1000000000000000000 v) [
  | inl more ↦
      let full : capped v ≡ 1000000000000000000 = omega arith in
      let low : v ≤ v * k = le-mul_of_pos_right v hk in
      let e2 = e ∙ ap (λ x. min (min (t + min (x * k) 18446744073709551615) 18446744073709551615) 4398046511104) full in
      omega arith
  | inr less ↦
      let same : capped v ≡ v = omega arith in
      let e2 = e ∙ ap (λ x. min (min (t + min (x * k) 18446744073709551615) 18446744073709551615) 4398046511104) same in
      omega arith
]

letters_split : (bs : List ℕ) → bs ≡ letters_in_front bs ++ past_letters bs
letters_split [] = refl
letters_split (b ∷ bs) = elim (bool_cases (is_ascii_digit b)) [
  | inl e ↦ rw e refl
  | inr n ↦ rw n (ap (λ x. b ∷ x) (letters_split bs))
]

no_letters : (bs : List ℕ) → letters_in_front bs ≡ [] → past_letters bs ≡ bs
no_letters [] h = refl
no_letters (b ∷ bs) h = elim (bool_cases (is_ascii_digit b)) [
  | inl e ↦ rw e refl
  | inr n ↦ absurd (let g = rw n at h in cc)
]

letters_spelled : (ls r : List ℕ) → all_letters ls ≡ true → letters_in_front r ≡ [] → (letters_in_front (ls ++ r) ≡ ls) × (past_letters (ls ++ r) ≡ r)
letters_spelled [] r h n = (n, no_letters r n)
letters_spelled (l ∷ ls) r h n =
    let t = parts_of l ls h in
    let on = on_letter l (ls ++ r) t.0 in
    let rest = letters_spelled ls r t.1 n in
    (on.0 ∙ ap (λ x. l ∷ x) rest.0, on.1 ∙ rest.1)

no_digit_first : (ls r : List ℕ) → all_letters ls ≡ true → 1 ≤ length ls → digits_in_front (ls ++ r) ≡ []
no_digit_first [] r h some = absurd (omega arith)
no_digit_first (l ∷ ls) r h some = let e = (parts_of l ls h).0 in rw e refl

digit_first : (ds r : List ℕ) → all_ascii_digits ds ≡ true → 1 ≤ length ds → letters_in_front (ds ++ r) ≡ []
digit_first [] r h some = absurd (omega arith)
digit_first (d ∷ ds) r h some = let e = (both (is_ascii_digit d) (all_ascii_digits ds) h).0 in rw e refl

-- what is spelled begins with a digit, if with anything
starts : (us : List (List ℕ × ℕ)) (bytes : List ℕ) (n : ℕ) → Spells us bytes n → letters_in_front bytes ≡ []
starts [] bytes n h = ap letters_in_front h.0
starts (u ∷ us) bytes n (inl h) = starts us bytes n h
starts (u ∷ us) bytes n (inr h) =
    let ds = h.0 in
    let rest = h.1.0 in
    let facts = h.1.1.1 in
    ap letters_in_front facts.2 ∙ digit_first ds (u.0 ++ rest) facts.1 facts.0

-- units of letters, no two the same
abbrev is_among : List ℕ → List (List ℕ × ℕ) → Bool
is_among unit [] = false
is_among unit (u ∷ us) = bytes_eq u.0 unit || is_among unit us

abbrev are_units : List (List ℕ × ℕ) → Bool
are_units [] = true
are_units (u ∷ us) = nat_lt 0 (length u.0) && all_letters u.0 && not (is_among u.0 us) && are_units us

record IsUnit (u : List ℕ) (us : List (List ℕ × ℕ)) : Type 0 where
  some : 1 ≤ length u
  letters : all_letters u ≡ true
  fresh : is_among u us ≡ false
  others : are_units us ≡ true

unit_is : (u : List ℕ × ℕ) (us : List (List ℕ × ℕ)) → are_units (u ∷ us) ≡ true → IsUnit u.0 us
unit_is u us h =
    let a = nat_lt 0 (length u.0) in
    let t = both (a && all_letters u.0 && not (is_among u.0 us)) (are_units us) h in
    let s = both (a && all_letters u.0) (not (is_among u.0 us)) t.0 in
    let r = both a (all_letters u.0) s.0 in
    let ra = r.0 in
    record { some = grind (arith, nat_tests); letters = r.1; fresh = no (is_among u.0 us) s.1; others = t.1 }
  where
    no : (x : Bool) → not x ≡ true → x ≡ false
    no true h = cc
    no false h = refl

part_spelled : (ds u rest : List ℕ) → all_ascii_digits ds ≡ true → 1 ≤ length ds → all_letters u ≡ true → 1 ≤ length u → letters_in_front rest ≡ []
    → (digits_in_front (ds ++ (u ++ rest)) ≡ ds) × (letters_in_front (past_digits (ds ++ (u ++ rest))) ≡ u) × (past_letters (past_digits (ds ++ (u ++ rest))) ≡ rest)
part_spelled ds u rest hd some hu full hr =
    let d = digits_spelled ds (u ++ rest) hd (no_digit_first u rest hu full) in
    let l = letters_spelled u rest hu hr in
    (d.0, ap letters_in_front d.1 ∙ l.0, ap past_letters d.1 ∙ l.1)

-- the unit in front of what is spelled is one of the units
among : (us : List (List ℕ × ℕ)) (unit bytes : List ℕ) (n : ℕ) → are_units us ≡ true → Spells us bytes n → has_part unit bytes ≡ true → is_among unit us ≡ true
among [] unit bytes n hu h t = absurd (let e = h.0 in let g = rw e at t in cc)
among (u ∷ us) unit bytes n hu (inl h) t =
    let i = among us unit bytes n (unit_is u us hu).others h t in
    elim (bool_cases (bytes_eq u.0 unit)) [ inl e ↦ rw e refl | inr m ↦ rw m i ]
among (u ∷ us) unit bytes n hu (inr h) t =
    let is = unit_is u us hu in
    let facts = h.1.1.1 in
    let p = part_spelled h.0 u.0 h.1.0 facts.1 facts.0 is.letters is.some (starts us h.1.0 h.1.1.0 facts.4) in
    let word : letters_in_front (past_digits bytes) ≡ u.0 = ap (λ x. letters_in_front (past_digits x)) facts.2 ∙ p.1 in
    let e : bytes_eq u.0 unit ≡ true = ap (λ x. bytes_eq x unit) (sym word) ∙ (both (nat_lt 0 (length (digits_in_front bytes))) (bytes_eq (letters_in_front (past_digits bytes)) unit) t).1 in
    rw e refl

same_test : (u : List ℕ) → bytes_eq u u ≡ true
same_test u = (bytes_eq-Decides u u).1 refl

has_spelled : (ds u rest : List ℕ) → all_ascii_digits ds ≡ true → 1 ≤ length ds → all_letters u ≡ true → 1 ≤ length u → letters_in_front rest ≡ []
    → has_part u (ds ++ (u ++ rest)) ≡ true
has_spelled ds u rest hd some hu full hr =
    let p = part_spelled ds u rest hd some hu full hr in
    let d = p.0 in
    let l = p.1 in
    let s = same_test u in
    let lt : nat_lt 0 (length ds) ≡ true = grind (arith, nat_tests) in
    rw (d, l, lt, s) refl

pub spelled_read : (us : List (List ℕ × ℕ)) (bytes : List ℕ) (n : ℕ) → are_units us ≡ true → Spells us bytes n → (rest_after us bytes ≡ []) × (total_of us bytes ≡ n)
spelled_read [] bytes n hu h = (h.0, sym h.1)
spelled_read (u ∷ us) bytes n hu (inl h) =
    let is = unit_is u us hu in
    elim (bool_cases (has_part u.0 bytes)) [
      | inl t ↦ absurd (let a = among us u.0 bytes n is.others h t in let f = is.fresh in cc)
      | inr m ↦ let i = spelled_read us bytes n is.others h in (rw m i.0, rw m (zero-add (total_of us bytes) ∙ i.1))
    ]
spelled_read (u ∷ us) bytes n hu (inr h) =
    let is = unit_is u us hu in
    let ds = h.0 in
    let rest = h.1.0 in
    let m = h.1.1.0 in
    let facts = h.1.1.1 in
    let free = starts us rest m facts.4 in
    let p = part_spelled ds u.0 rest facts.1 facts.0 is.letters is.some free in
    let e = facts.2 in
    let has : has_part u.0 bytes ≡ true = ap (has_part u.0) e ∙ has_spelled ds u.0 rest facts.1 facts.0 is.letters is.some free in
    let front : digits_in_front bytes ≡ ds = ap digits_in_front e ∙ p.0 in
    let past : past_letters (past_digits bytes) ≡ rest = ap (λ x. past_letters (past_digits x)) e ∙ p.2 in
    let i = spelled_read us rest m is.others facts.4 in (
      rw has (ap (rest_after us) past ∙ i.0),
      rw has (ap (λ x. number_after 0 x * u.1 + total_of us (past_letters (past_digits bytes))) front ∙ ap (λ x. number_after 0 ds * u.1 + total_of us x) past ∙ ap (λ x. number_after 0 ds * u.1 + x) i.1 ∙ sym facts.3),
    )

pub read_spelled : (us : List (List ℕ × ℕ)) (bytes : List ℕ) → rest_after us bytes ≡ [] → Spells us bytes (total_of us bytes)
read_spelled [] bytes h = (h, refl)
read_spelled (u ∷ us) bytes h = elim (bool_cases (has_part u.0 bytes)) [
  | inl t ↦
      let digits = digits_in_front bytes in
      let rest = past_letters (past_digits bytes) in
      let parts = both (nat_lt 0 (length digits)) (bytes_eq (letters_in_front (past_digits bytes)) u.0) t in
      let lt = parts.0 in
      let word = (bytes_eq-Decides (letters_in_front (past_digits bytes)) u.0).0 parts.1 in
      let text : bytes ≡ digits ++ (u.0 ++ rest) = digits_split bytes ∙ ap (λ x. digits ++ x) (letters_split (past_digits bytes) ∙ ap (λ x. x ++ rest) word) in
      let g = rw t at h in
      inr (digits, (rest, (total_of us rest, (grind (arith, nat_tests), digits_all bytes, text, rw t refl, read_spelled us rest g))))
  | inr m ↦
      let g = rw m at h in
      let i = read_spelled us bytes g in
      let e : total_of (u ∷ us) bytes ≡ total_of us bytes = rw m (omega arith) in
      inl (subst (Spells us bytes) (sym e) i)
]

-- ---- the three answers

abbrev answer : List ℕ → List ℕ → ℕ → Result ℕ DurationError
answer bytes rest total =
    cond (nat_eq (length bytes) 0 || nat_lt 0 (length rest)) (Err BadForm)
    (cond (nat_lt 4398046511103 total) (Err TooLarge) (Ok total))

abbrev Answers : List ℕ → (ℕ → Type 0) → Result ℕ DurationError → Type 0
Answers bytes D (Ok n) = ((1 ≤ length bytes) × D n) × (n ≤ 4398046511103)
Answers bytes D (Err TooLarge) = (n : ℕ) × (((1 ≤ length bytes) × D n) × (4398046511103 < n))
Answers bytes D (Err BadForm) = (n : ℕ) → ((1 ≤ length bytes) × D n) → ⊥

nil_if : (xs : List ℕ) → nat_lt 0 (length xs) ≡ false → xs ≡ []
nil_if [] h = refl
nil_if (x ∷ xs) h = absurd (let lt : 0 < length (x ∷ xs) = omega arith in grind (arith, nat_tests))

formed : (bytes rest : List ℕ) → 1 ≤ length bytes → rest ≡ [] → (nat_eq (length bytes) 0 || nat_lt 0 (length rest)) ≡ false
formed bytes rest some e =
    let n : nat_eq (length bytes) 0 ≡ false = grind (arith, nat_tests) in
    rw (n, e) refl

unformed : (bytes rest : List ℕ) → (nat_eq (length bytes) 0 || nat_lt 0 (length rest)) ≡ false → (1 ≤ length bytes) × (rest ≡ [])
unformed bytes rest h = elim (bool_cases (nat_eq (length bytes) 0)) [
  | inl e ↦ absurd (let g = rw e at h in cc)
  | inr n ↦ let g = rw n at h in (grind (arith, nat_tests), nil_if rest g)
]

sound : (bytes rest : List ℕ) (total : ℕ) (D : ℕ → Type 0) → ((n : ℕ) → D n → (rest ≡ []) × (total ≡ n)) → (rest ≡ [] → D total)
    → (r : Result ℕ DurationError) → answer bytes rest total ≡ r → Answers bytes D r
sound bytes rest total D only here r h = elim (bool_cases (nat_eq (length bytes) 0 || nat_lt 0 (length rest))) [
  | inl t ↦
      let g = rw t at h in
      let none : (n : ℕ) → ((1 ≤ length bytes) × D n) → ⊥ = λ n d. let f = formed bytes rest d.0 (only n d.1).0 in cc in
      subst (Answers bytes D) g none
  | inr m ↦
      let parts = unformed bytes rest m in
      elim (bool_cases (nat_lt 4398046511103 total)) [
        | inl t ↦ let g = rw (m, t) at h in subst (Answers bytes D) g (total, ((parts.0, here parts.1), grind (arith, nat_tests)))
        | inr k ↦ let g = rw (m, k) at h in subst (Answers bytes D) g ((parts.0, here parts.1), grind (arith, nat_tests))
      ]
]

complete : (bytes rest : List ℕ) (total : ℕ) (D : ℕ → Type 0) → ((n : ℕ) → D n → (rest ≡ []) × (total ≡ n)) → (rest ≡ [] → D total)
    → (r : Result ℕ DurationError) → Answers bytes D r → answer bytes rest total ≡ r
complete bytes rest total D only here (Ok n) h =
    let o = only n h.0.1 in
    let e = o.1 in
    let f = formed bytes rest h.0.0 o.0 in
    let small = h.1 in
    let k : nat_lt 4398046511103 total ≡ false = grind (arith, nat_tests) in
    rw (f, k) (ap Ok e)
complete bytes rest total D only here (Err TooLarge) h =
    let o = only h.0 h.1.0.1 in
    let e = o.1 in
    let f = formed bytes rest h.1.0.0 o.0 in
    let large = h.1.1 in
    let k : nat_lt 4398046511103 total ≡ true = grind (arith, nat_tests) in
    rw (f, k) refl
complete bytes rest total D only here (Err BadForm) h = elim (bool_cases (nat_eq (length bytes) 0 || nat_lt 0 (length rest))) [
  | inl t ↦ rw t refl
  | inr m ↦ let parts = unformed bytes rest m in absurd (h total (parts.0, here parts.1))
]

pub duration_read : (bytes : List ℕ) (r : Result ℕ DurationError) → (duration_of bytes ≡ r) ↔ ReadsDuration bytes r
duration_read bytes r =
    let only : (n : ℕ) → Spells units bytes n → (rest_after units bytes ≡ []) × (total_of units bytes ≡ n) = λ n h. spelled_read units bytes n refl h in
    let here : rest_after units bytes ≡ [] → Spells units bytes (total_of units bytes) = read_spelled units bytes in
    (sound bytes (rest_after units bytes) (total_of units bytes) (Spells units bytes) only here r, by_parts bytes r only here)
  where
    by_parts : (bytes : List ℕ) (r : Result ℕ DurationError) → ((n : ℕ) → Spells units bytes n → (rest_after units bytes ≡ []) × (total_of units bytes ≡ n))
        → (rest_after units bytes ≡ [] → Spells units bytes (total_of units bytes)) → ReadsDuration bytes r → duration_of bytes ≡ r
    by_parts bytes (Ok n) only here h = complete bytes (rest_after units bytes) (total_of units bytes) (Spells units bytes) only here (Ok n) h
    by_parts bytes (Err TooLarge) only here h = complete bytes (rest_after units bytes) (total_of units bytes) (Spells units bytes) only here (Err TooLarge) h
    by_parts bytes (Err BadForm) only here h = complete bytes (rest_after units bytes) (total_of units bytes) (Spells units bytes) only here (Err BadForm) h
