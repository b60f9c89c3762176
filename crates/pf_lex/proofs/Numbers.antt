-- The longest number is found.
use Rattle.std.proofs.Common.{◌≡◌, ◌∙◌, ℕ, ℤ, pos, zero, suc, ◌+◌, ◌-◌, ◌*◌, ◌<◌, ◌≤◌, ◌⊎◌, inl, inr, Bool, true, false, ◌&&◌, ◌||◌, Option, Some, None, List, [], ◌∷◌, ◌++◌, not, length, take, cond, refl, sym, ap, subst, arith}
use Rattle.std.specs.Prelude.{nat_eq, nat_le, nat_lt, option_map}
use Rattle.std.specs.Char.{is_ascii_digit}
use Rattle.std.specs.List.{list_all}
use Rattle.std.specs.Option.{is_some}
use Rattle.std.specs.Str.{all_ascii_digits}
use Rattle.std.proofs.lemmas.Bool.{and_parts, cases_lt, not-true}
use Rattle.std.proofs.lemmas.Bool.Decides.{nat_tests}
use Rattle.std.proofs.lemmas.List.{length-take-le, length-take, take-take}
use Rattle.pf_base.specs.Arithmetic.{clamp}
use Rattle.pf_base.specs.NumberTexts.{Decimal, Reads, bare, decimal_micros, fraction_digits, number_after}
use Rattle.pf_base.specs.NumberScans.{decimal_of, digits_in_front, exponent_of, fraction_in_front, past_digits, past_fraction, past_sign, small_of, with_digits}
use Rattle.std.specs.Prelude.{Result, Ok}
use Rattle.pf_base.specs.declared.number.BadNumber.{BadNumber}
use Rattle.pf_base.specs.declared.number.Read.{Read}
use Rattle.pf_base.specs.declared.number.Read.TheVariants.{Number}
use Rattle.pf_base.proofs.Digits.{both, in_range}
use Rattle.pf_base.proofs.Readings.{bool_cases, decimal_sound}
use Rattle.pf_base.specs.LabelSets.{goes_on}
use Rattle.pf_model.specs.TokenScans.{number_form}
use Rattle.pf_model.specs.Tokens.{Sort, number}
use Rattle.pf_model.specs.FirstBytes.{begins_quantity, first_passes}
use Rattle.pf_lex.specs.Stages.{is_number, is_small, longest_from, longest_number, stage_behind}
use Rattle.pf_lex.specs.declared.number.Stage.{Stage}
use Rattle.pf_lex.specs.declared.number.Stage.TheVariants.{Start, Whole, Point, Fraction, Letter, Sign, Exponent, Over}

-- the bytes make a number of what was read before them
abbrev numbered : Stage → List ℕ → Bool
numbered Start xs = is_some (decimal_of xs)
numbered Whole xs = is_some (exponent_of (past_fraction (past_digits xs)))
numbered Point xs = nat_lt 0 (length (digits_in_front xs)) && is_some (exponent_of (past_digits xs))
numbered Fraction xs = is_some (exponent_of (past_digits xs))
numbered Letter xs = is_some (small_of (past_sign xs))
numbered Sign xs = is_some (small_of xs)
numbered (Exponent size) xs = nat_eq (length (past_digits xs)) 0 && nat_le (number_after size (digits_in_front xs)) 9999
numbered Over xs = false

-- ---- one more byte

some_if : {X : Type 0} (t : Bool) (x : X) → is_some (cond t (Some x) None) ≡ t
some_if true x = refl
some_if false x = refl

longer : (b : ℕ) (bs : List ℕ) → nat_lt 0 (length (b ∷ bs)) ≡ true
longer b bs = let e : 0 < length (b ∷ bs) = omega arith in grind (arith, nat_tests)

not_none : (b : ℕ) (bs : List ℕ) → nat_eq (length (b ∷ bs)) 0 ≡ false
not_none b bs = let e : 0 < length (b ∷ bs) = omega arith in grind (arith, nat_tests)

with_one : (b : ℕ) (ds : List ℕ) (f : Option (List ℕ)) (e : Option _) → is_some (with_digits (b ∷ ds) f e) ≡ is_some e
with_one b ds f None = refl
with_one b ds f (Some e) =
    let l : nat_lt 0 (length (b ∷ ds) + length (fraction_digits f)) ≡ true = let k : 0 < length (b ∷ ds) + length (fraction_digits f) = omega arith in grind (arith, nat_tests) in
    rw l refl

with_fraction : (ds : List ℕ) (e : Option _) → is_some (with_digits [] (Some ds) e) ≡ (nat_lt 0 (length ds) && is_some e)
with_fraction ds None = and_false (nat_lt 0 (length ds))
  where
    and_false : (t : Bool) → false ≡ (t && false)
    and_false true = refl
    and_false false = refl
with_fraction ds (Some e) = some_if _ _ ∙ and_true ds
  where
    and_true : (ds : List ℕ) → nat_lt 0 (0 + length ds) ≡ (nat_lt 0 (length ds) && true)
    and_true [] = refl
    and_true (d ∷ ds) =
        let a = longer d ds in
        let e : nat_lt 0 (0 + length (d ∷ ds)) ≡ true = let k : 0 < 0 + length (d ∷ ds) = omega arith in grind (arith, nat_tests) in
        e ∙ sym (ap (λ t. t && true) a)

with_none : (e : Option _) → is_some (with_digits [] None e) ≡ false
with_none None = refl
with_none (Some e) = refl

no_less : (n : ℕ) (ds : List ℕ) → n ≤ number_after n ds
no_less n [] = omega arith
no_less n (d ∷ ds) = omega (arith, no_less (n * 10 + (d - 48)) ds)

exponent_more : (size b : ℕ) (bs : List ℕ) → numbered (Exponent size) (b ∷ bs) ≡ numbered (stage_behind (Exponent size) b) bs
exponent_more size b bs = elim (bool_cases (is_ascii_digit b)) [
  | inl e ↦ rw e (elim (bool_cases (nat_lt 9999 (size * 10 + (b - 48)))) [
    | inl large ↦ rw large (too_large (nat_eq (length (past_digits bs)) 0) (number_after (size * 10 + (b - 48)) (digits_in_front bs)) (omega (arith, no_less (size * 10 + (b - 48)) (digits_in_front bs), above (size * 10 + (b - 48)) large)))
    | inr small ↦ rw small refl
  ])
  | inr n ↦ let k = not_none b bs in rw n (ap (λ t. t && nat_le (number_after size []) 9999) k)
]
  where
    above : (n : ℕ) → nat_lt 9999 n ≡ true → 9999 < n
    above n h = grind (arith, nat_tests)

    too_large : (t : Bool) (n : ℕ) → 9999 < n → (t && nat_le n 9999) ≡ false
    too_large true n h = grind (arith, nat_tests)
    too_large false n h = refl

small_digit : (b : ℕ) → is_ascii_digit b ≡ true → nat_lt 9999 (0 * 10 + (b - 48)) ≡ false
small_digit b h = let r = in_range b h in grind (arith, nat_tests)

sign_more : (b : ℕ) (bs : List ℕ) → numbered Sign (b ∷ bs) ≡ numbered (stage_behind Sign b) bs
sign_more b bs = elim (bool_cases (is_ascii_digit b)) [
  | inl e ↦
      let s = small_digit b e in
      let l = longer b (digits_in_front bs) in
      rw (e, s) (some_if _ _ ∙ ap (λ t. t && nat_eq (length (past_digits bs)) 0 && nat_le (number_after (0 * 10 + (b - 48)) (digits_in_front bs)) 9999) l)
  | inr n ↦ rw n refl
]

letter_more : (b : ℕ) (bs : List ℕ) → numbered Letter (b ∷ bs) ≡ numbered (stage_behind Letter b) bs
letter_more b bs = elim (bool_cases (nat_eq b 45 || nat_eq b 43)) [
  | inl e ↦ rw e refl
  | inr n ↦ rw n (sign_more b bs)
]

fraction_more : (b : ℕ) (bs : List ℕ) → numbered Fraction (b ∷ bs) ≡ numbered (stage_behind Fraction b) bs
fraction_more b bs = elim (bool_cases (is_ascii_digit b)) [
  | inl e ↦ rw e refl
  | inr n ↦ rw n (elim (bool_cases (nat_eq b 101 || nat_eq b 69)) [
    | inl e ↦ rw e (some_if _ _)
    | inr m ↦ rw m refl
  ])
]

point_more : (b : ℕ) (bs : List ℕ) → numbered Point (b ∷ bs) ≡ numbered (stage_behind Point b) bs
point_more b bs = elim (bool_cases (is_ascii_digit b)) [
  | inl e ↦ let l = longer b (digits_in_front bs) in rw e (ap (λ t. t && is_some (exponent_of (past_digits bs))) l)
  | inr n ↦ rw n refl
]

whole_more : (b : ℕ) (bs : List ℕ) → numbered Whole (b ∷ bs) ≡ numbered (stage_behind Whole b) bs
whole_more b bs = elim (bool_cases (is_ascii_digit b)) [
  | inl e ↦ rw e refl
  | inr n ↦ rw n (elim (bool_cases (nat_eq b 46)) [
    | inl e ↦ rw e refl
    | inr k ↦ rw k (elim (bool_cases (nat_eq b 101 || nat_eq b 69)) [
      | inl e ↦ rw e (some_if _ _)
      | inr m ↦ rw m refl
    ])
  ])
]

start_more : (b : ℕ) (bs : List ℕ) → numbered Start (b ∷ bs) ≡ numbered (stage_behind Start b) bs
start_more b bs = elim (bool_cases (is_ascii_digit b)) [
  | inl e ↦ rw e (with_one b (digits_in_front bs) (fraction_in_front (past_digits bs)) (exponent_of (past_fraction (past_digits bs))))
  | inr n ↦ rw n (elim (bool_cases (nat_eq b 46)) [
    | inl e ↦ rw e (with_fraction (digits_in_front bs) (exponent_of (past_digits bs)))
    | inr k ↦ rw k (with_none (exponent_of (b ∷ bs)))
  ])
]

numbered_more : (s : Stage) (b : ℕ) (bs : List ℕ) → numbered s (b ∷ bs) ≡ numbered (stage_behind s b) bs
numbered_more Start b bs = start_more b bs
numbered_more Whole b bs = whole_more b bs
numbered_more Point b bs = point_more b bs
numbered_more Fraction b bs = fraction_more b bs
numbered_more Letter b bs = letter_more b bs
numbered_more Sign b bs = sign_more b bs
numbered_more (Exponent size) b bs = exponent_more size b bs
numbered_more Over b bs = refl

numbered_whole : (s : Stage) → is_small s ≡ true → numbered s [] ≡ is_number s
numbered_whole Start h = refl
numbered_whole Whole h = refl
numbered_whole Point h = refl
numbered_whole Fraction h = refl
numbered_whole Letter h = refl
numbered_whole Sign h = refl
numbered_whole (Exponent size) h = grind (arith, nat_tests)
numbered_whole Over h = refl

-- ---- small exponents

exponent_small : (size b : ℕ) → is_small (stage_behind (Exponent size) b) ≡ true
exponent_small size b = elim (bool_cases (is_ascii_digit b)) [
  | inl e ↦ rw e (elim (bool_cases (nat_lt 9999 (size * 10 + (b - 48)))) [
    | inl large ↦ rw large refl
    | inr small ↦ rw small (below (size * 10 + (b - 48)) small)
  ])
  | inr n ↦ rw n refl
]
  where
    below : (n : ℕ) → nat_lt 9999 n ≡ false → nat_lt n 10000 ≡ true
    below n h = grind (arith, nat_tests)

cond_small : (t : Bool) (x y : Stage) → is_small x ≡ true → is_small y ≡ true → is_small (cond t x y) ≡ true
cond_small true x y h k = h
cond_small false x y h k = k

still_small : (s : Stage) (b : ℕ) → is_small (stage_behind s b) ≡ true
still_small Start b = cond_small (is_ascii_digit b) Whole _ refl (cond_small (nat_eq b 46) Point Over refl refl)
still_small Whole b = cond_small (is_ascii_digit b) Whole _ refl (cond_small (nat_eq b 46) Fraction _ refl (cond_small (nat_eq b 101 || nat_eq b 69) Letter Over refl refl))
still_small Point b = cond_small (is_ascii_digit b) Fraction Over refl refl
still_small Fraction b = cond_small (is_ascii_digit b) Fraction _ refl (cond_small (nat_eq b 101 || nat_eq b 69) Letter Over refl refl)
still_small Letter b = cond_small (nat_eq b 45 || nat_eq b 43) Sign _ refl (exponent_small 0 b)
still_small Sign b = exponent_small 0 b
still_small (Exponent size) b = exponent_small size b
still_small Over b = refl

-- ---- the longest

record NoneNumbered (s : Stage) (found r : Option ℕ) (bs : List ℕ) : Type 0 where
  same : r ≡ found
  none : (m : ℕ) → 1 ≤ m → m ≤ length bs → numbered s (take m bs) ≡ false

record IsLongest (s : Stage) (at : ℕ) (r : Option ℕ) (bs : List ℕ) : Type 0 where
  len : ℕ
  is : r ≡ Some (at + len)
  some : 1 ≤ len
  within : len ≤ length bs
  fits : numbered s (take len bs) ≡ true
  none : (m : ℕ) → len < m → m ≤ length bs → numbered s (take m bs) ≡ false

none_behind : (s : Stage) (b : ℕ) (bs : List ℕ) (m : ℕ) → numbered (stage_behind s b) (take m bs) ≡ false → numbered s (take (suc m) (b ∷ bs)) ≡ false
none_behind s b bs m h = numbered_more s b (take m bs) ∙ h

longest_is : (s : Stage) (at : ℕ) (found : Option ℕ) (bs : List ℕ) → is_small s ≡ true
    → NoneNumbered s found (longest_from s at found bs) bs ⊎ IsLongest s at (longest_from s at found bs) bs
longest_is s at found [] small = inl (record { same = refl; none = λ m low high. absurd (omega (arith, low, high)) })
longest_is s at found (b ∷ bs) small =
    elim (longest_is (stage_behind s b) (suc at) (cond (is_number (stage_behind s b)) (Some (suc at)) found) bs (still_small s b)) [
      | inr l ↦ inr (record {
        len = suc l.len;
        is = l.is ∙ ap Some (omega arith);
        some = omega arith;
        within = omega arith;
        fits = numbered_more s b (take l.len bs) ∙ l.fits;
        none = above s b bs l.len l.none;
      })
      | inl n ↦ elim (bool_cases (is_number (stage_behind s b))) [
        | inl whole ↦ inr (record {
          len = 1;
          is = n.same ∙ ap (λ t. cond t (Some (suc at)) found) whole ∙ ap Some (omega arith);
          some = omega arith;
          within = omega arith;
          fits = numbered_more s b [] ∙ (numbered_whole (stage_behind s b) (still_small s b) ∙ whole);
          none = above s b bs 0 (λ m low high. n.none m (omega arith) high);
        })
        | inr other ↦ inl (record {
          same = n.same ∙ ap (λ t. cond t (Some (suc at)) found) other;
          none = all s b bs (numbered_whole (stage_behind s b) (still_small s b) ∙ other) n.none;
        })
      ]
    ]
  where
    above : (s : Stage) (b : ℕ) (bs : List ℕ) (n : ℕ) → ((m : ℕ) → n < m → m ≤ length bs → numbered (stage_behind s b) (take m bs) ≡ false)
        → (m : ℕ) → suc n < m → m ≤ length (b ∷ bs) → numbered s (take m (b ∷ bs)) ≡ false
    above s b bs n h zero low high = absurd (omega (arith, low))
    above s b bs n h (suc m) low high = none_behind s b bs m (h m (omega (arith, low)) (omega (arith, high)))

    all : (s : Stage) (b : ℕ) (bs : List ℕ) → numbered (stage_behind s b) [] ≡ false → ((m : ℕ) → 1 ≤ m → m ≤ length bs → numbered (stage_behind s b) (take m bs) ≡ false)
        → (m : ℕ) → 1 ≤ m → m ≤ length (b ∷ bs) → numbered s (take m (b ∷ bs)) ≡ false
    all s b bs z h zero low high = absurd (omega (arith, low))
    all s b bs z h (suc zero) low high = none_behind s b bs zero z
    all s b bs z h (suc (suc m)) low high = none_behind s b bs (suc m) (h (suc m) (omega arith) (omega (arith, high)))

-- ---- numbers of at most 128 bytes

none_if : {X : Type 0} (f : Decimal → X) (o : Option Decimal) → is_some o ≡ false → option_map f o ≡ None
none_if f None h = refl
none_if f (Some d) h = cc

pub no_number : (bytes : List ℕ) → is_some (decimal_of bytes) ≡ false → number_form bytes ≡ None
no_number bytes h = elim (bool_cases (nat_le (length bytes) 128)) [
  | inl e ↦ rw e (none_if (λ d. number (clamp (pos (decimal_micros d)))) (decimal_of bytes) h)
  | inr n ↦ rw n refl
]

long_number : (bytes : List ℕ) → 128 < length bytes → number_form bytes ≡ None
long_number bytes h = let e : nat_le (length bytes) 128 ≡ false = grind (arith, nat_tests) in rw e refl

no_longer : (bytes : List ℕ) (n : ℕ) → ((m : ℕ) → n < m → m ≤ length (take 128 bytes) → is_some (decimal_of (take m (take 128 bytes))) ≡ false)
    → (m : ℕ) → n < m → m ≤ length bytes → number_form (take m bytes) ≡ None
no_longer bytes n h m low high = elim (cases_lt 128 m) [
  | inl more ↦ long_number (take m bytes) (omega (arith, length-take-le m bytes high))
  | inr less ↦ no_number (take m bytes) (ap (λ xs. is_some (decimal_of xs)) (sym (take-take m 128 bytes less)) ∙ h m low (omega (arith, length-take 128 bytes)))
]

pub record NumberFound (bytes : List ℕ) (n : ℕ) : Type 0 where
  pub some : 1 ≤ n
  pub within : n ≤ length bytes
  pub short : n ≤ 128
  pub fits : is_some (decimal_of (take n bytes)) ≡ true
  pub none : (m : ℕ) → n < m → m ≤ length bytes → number_form (take m bytes) ≡ None

some_is : (a b : ℕ) → ◌≡◌ {A = Option ℕ} (Some a) (Some b) → a ≡ b
some_is a b h = cc

pub number_found : (bytes : List ℕ) (n : ℕ) → longest_number bytes ≡ Some n → NumberFound bytes n
number_found bytes n e = elim (longest_is Start 0 None (take 128 bytes) refl) [
  | inl n ↦ absurd (let s = n.same in cc)
  | inr l ↦
      let is : n ≡ l.len = some_is n l.len (sym e ∙ l.is ∙ ap Some (omega arith)) in
      let short = length-take 128 bytes in
      subst (NumberFound bytes) (sym is) (record {
        some = l.some;
        within = omega arith;
        short = omega arith;
        fits = ap (λ xs. is_some (decimal_of xs)) (sym (take-take l.len 128 bytes (omega arith))) ∙ l.fits;
        none = no_longer bytes l.len l.none;
      })
]

pub no_number_found : (bytes : List ℕ) → longest_number bytes ≡ None → (m : ℕ) → 0 < m → m ≤ length bytes → number_form (take m bytes) ≡ None
no_number_found bytes e = elim (longest_is Start 0 None (take 128 bytes) refl) [
  | inl n ↦ no_longer bytes 0 (λ m low high. n.none m (omega arith) high)
  | inr l ↦ absurd (let s = l.is in cc)
]

-- ---- and read

pub record NumberRead (bytes : List ℕ) : Type 0 where
  pub micros : ℤ
  pub reads : Reads bytes (Number micros)
  pub form : number_form bytes ≡ Some (number micros)

pub number_read : (bytes : List ℕ) → is_some (decimal_of bytes) ≡ true → length bytes ≤ 128 → NumberRead bytes
number_read bytes h short = by (decimal_of bytes) refl h
  where
    by : (o : Option Decimal) → decimal_of bytes ≡ o → is_some o ≡ true → NumberRead bytes
    by None e h = cc
    by (Some d) e h =
        let s = decimal_sound bytes d e in
        let l : nat_le (length bytes) 128 ≡ true = grind (arith, nat_tests) in
        record {
          micros = clamp (pos (decimal_micros d));
          reads = inl (record { sign = bare; parts = d; lawful = s.1; spelled = s.0; short = short; value = refl });
          form = rw l (ap (option_map (λ d. number (clamp (pos (decimal_micros d))))) e);
        }

pub read_is : (a b : Read) → ◌≡◌ {A = Result Read BadNumber} (Ok a) (Ok b) → a ≡ b
read_is a b h = cc

pub reads_number : (bytes : List ℕ) (r : NumberRead bytes) (v : ℤ) → Number v ≡ Number r.micros → number_form bytes ≡ Some (number v)
reads_number bytes r v e = let same : v ≡ r.micros = cc in r.form ∙ ap (λ z. Some (number z)) (sym same)

pub no_number_first : (b : ℕ) (bs : List ℕ) → is_ascii_digit b ≡ false → nat_eq b 46 ≡ false → number_form (b ∷ bs) ≡ None
no_number_first b bs n k =
    let e : stage_behind Start b ≡ Over = rw (n, k) refl in
    no_number (b ∷ bs) (numbered_more Start b bs ∙ ap (λ s. numbered s bs) e)

-- ---- digits and a letter that no number goes on with

abbrev pub stops : ℕ → Bool
stops l = not (is_ascii_digit l) && (not (nat_eq l 46) && not (nat_eq l 101 || nat_eq l 69))

whole_digits : (ds r : List ℕ) → all_ascii_digits ds ≡ true → numbered Whole (ds ++ r) ≡ numbered Whole r
whole_digits [] r h = refl
whole_digits (d ∷ ds) r h =
    let parts = both (is_ascii_digit d) (all_ascii_digits ds) h in
    let e = parts.0 in
    rw e (whole_digits ds r parts.1)

pub no_number_behind : (d l : ℕ) (ds r : List ℕ) → is_ascii_digit d ≡ true → all_ascii_digits ds ≡ true → stops l ≡ true → is_some (decimal_of ((d ∷ ds) ++ (l ∷ r))) ≡ false
no_number_behind d l ds r h k n =
    let a = and_parts (not (is_ascii_digit l)) (not (nat_eq l 46) && not (nat_eq l 101 || nat_eq l 69)) n in
    let b = and_parts (not (nat_eq l 46)) (not (nat_eq l 101 || nat_eq l 69)) a.1 in
    let x = not-true (is_ascii_digit l) a.0 in
    let y = not-true (nat_eq l 46) b.0 in
    let z = not-true (nat_eq l 101 || nat_eq l 69) b.1 in
    let start : stage_behind Start d ≡ Whole = rw h refl in
    let stop : stage_behind Whole l ≡ Over = rw (x, y, z) refl in
    numbered_more Start d (ds ++ (l ∷ r)) ∙ ap (λ s. numbered s (ds ++ (l ∷ r))) start ∙ whole_digits ds (l ∷ r) k ∙ numbered_more Whole l r ∙ ap (λ s. numbered s r) stop

-- ---- numbers are ASCII

high_over : (s : Stage) (b : ℕ) → nat_lt b 128 ≡ false → stage_behind s b ≡ Over
high_over s b h = by s
  where
    d : is_ascii_digit b ≡ false
    d = grind (arith, nat_tests)

    p : nat_eq b 46 ≡ false
    p = grind (arith, nat_tests)

    e : (nat_eq b 101 || nat_eq b 69) ≡ false
    e = grind (arith, nat_tests)

    m : (nat_eq b 45 || nat_eq b 43) ≡ false
    m = grind (arith, nat_tests)

    by : (s : Stage) → stage_behind s b ≡ Over
    by Start = rw (d, p) refl
    by Whole = rw (d, p, e) refl
    by Point = rw d refl
    by Fraction = rw (d, e) refl
    by Letter = rw (m, d) refl
    by Sign = rw d refl
    by (Exponent size) = rw d refl
    by Over = refl

numbered_low : (s : Stage) (bs : List ℕ) → numbered s bs ≡ true → list_all (λ b. nat_lt b 128) bs ≡ true
numbered_low s [] h = refl
numbered_low s (b ∷ bs) h = elim (bool_cases (nat_lt b 128)) [
  | inl t ↦ rw t (numbered_low (stage_behind s b) bs (sym (numbered_more s b bs) ∙ h))
  | inr n ↦ absurd (let e = sym (numbered_more s b bs ∙ ap (λ t. numbered t bs) (high_over s b n)) ∙ h in cc)
]

pub number_low : (bytes : List ℕ) (s : Sort) → number_form bytes ≡ Some s → list_all (λ b. nat_lt b 128) bytes ≡ true
number_low bytes s h = elim (bool_cases (is_some (decimal_of bytes))) [
  | inl t ↦ numbered_low Start bytes t
  | inr n ↦ absurd (let e = sym (no_number bytes n) ∙ h in cc)
]

-- ---- what ends a number

pub number_first : (xs : List ℕ) → is_some (decimal_of xs) ≡ true → first_passes begins_quantity xs ≡ true
number_first [] h = cc
number_first (b ∷ bs) h = elim (bool_cases (is_ascii_digit b)) [
  | inl t ↦ rw t refl
  | inr n ↦ elim (bool_cases (nat_eq b 46)) [
    | inl t ↦ rw (n, t) refl
    | inr m ↦ absurd (let e : stage_behind Start b ≡ Over = rw (n, m) refl in let f = sym (numbered_more Start b bs ∙ ap (λ s. numbered s bs) e) ∙ h in cc)
  ]
]

over_behind : (s : Stage) (b : ℕ) → is_number s ≡ true → goes_on b ≡ false → nat_eq b 46 ≡ false → stage_behind s b ≡ Over
over_behind s b h g p = by s h
  where
    d : is_ascii_digit b ≡ false
    d = grind (arith, nat_tests)

    e : (nat_eq b 101 || nat_eq b 69) ≡ false
    e = grind (arith, nat_tests)

    by : (s : Stage) → is_number s ≡ true → stage_behind s b ≡ Over
    by Start h = cc
    by Whole h = rw (d, p, e) refl
    by Point h = cc
    by Fraction h = rw (d, e) refl
    by Letter h = cc
    by Sign h = cc
    by (Exponent size) h = rw d refl
    by Over h = refl

ends_from : (s : Stage) (xs : List ℕ) (b : ℕ) (ys : List ℕ) → is_small s ≡ true → numbered s xs ≡ true → goes_on b ≡ false → nat_eq b 46 ≡ false → numbered s (xs ++ (b ∷ ys)) ≡ false
ends_from s [] b ys small h g p = numbered_more s b ys ∙ ap (λ t. numbered t ys) (over_behind s b (sym (numbered_whole s small) ∙ h) g p)
ends_from s (x ∷ xs) b ys small h g p = numbered_more s x (xs ++ (b ∷ ys)) ∙ ends_from (stage_behind s x) xs b ys (still_small s x) (sym (numbered_more s x xs) ∙ h) g p

pub number_ends : (xs : List ℕ) (b : ℕ) (ys : List ℕ) → is_some (decimal_of xs) ≡ true → goes_on b ≡ false → nat_eq b 46 ≡ false → is_some (decimal_of (xs ++ (b ∷ ys))) ≡ false
number_ends xs b ys h g p = ends_from Start xs b ys refl h g p
