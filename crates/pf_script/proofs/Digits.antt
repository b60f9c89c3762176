-- Numbers of decimal digits.
use Rattle.std.proofs.Common.{◌≡◌, ℕ, ◌+◌, ◌-◌, ◌*◌, ◌<◌, ◌≤◌, Bool, true, false, ◌&&◌, not, None, List, [], ◌∷◌, length, drop, get_or, nat_lt, refl, ap, arith, drop-cons, add-one}
use Rattle.std.specs.Char.{is_ascii_digit}
use Rattle.std.specs.List.{list_all}
use Rattle.std.proofs.lemmas.Bool.Decides.{nat_tests}
use Rattle.pf_base.specs.LabelSets.{is_empty}
use Rattle.pf_model.specs.Cuts.{only_if}
use Rattle.pf_journal.specs.Scripts.{digits_onto, number_of}

-- more digits only make a number greater
grown : (n : ℕ) (ds : List ℕ) → n ≤ digits_onto n ds
grown n [] = omega arith
grown n (d ∷ ds) = let h = grown (n * 10 + (d - 48)) ds in omega arith

pub grown_at : (n i : ℕ) (ds : List ℕ) → i < length ds → digits_onto n (drop i ds) ≡ digits_onto 0 ds → n * 10 + (get_or ds i 0 - 48) ≤ digits_onto 0 ds
grown_at n i ds l e =
    let g = grown (n * 10 + (get_or ds i 0 - 48)) (drop (i + 1) ds) in
    let h : digits_onto n (drop i ds) ≡ digits_onto (n * 10 + (get_or ds i 0 - 48)) (drop (i + 1) ds) = rw add-one (ap (digits_onto n) (drop-cons ds i 0 l)) in
    omega arith

kept_without : (b : Bool) (n : ℕ) → None ≡ only_if (b && false) n
kept_without true n = refl
kept_without false n = refl

pub too_great : (ds : List ℕ) → 9223372036854775808 ≤ digits_onto 0 ds → None ≡ number_of ds
unfolding number_of
too_great ds l =
    let e : nat_lt (digits_onto 0 ds) 9223372036854775808 ≡ false = grind (arith, nat_tests) in
    rw e (kept_without (not (is_empty ds) && list_all is_ascii_digit ds) (digits_onto 0 ds))
