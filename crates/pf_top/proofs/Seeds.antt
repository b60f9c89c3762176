-- A seed that is too great.
use Rattle.std.proofs.Common.{◌≡◌, ℕ, ◌≤◌, Bool, true, false, ◌&&◌, not, None, List, nat_lt, refl, arith}
use Rattle.std.proofs.lemmas.Bool.Decides.{nat_tests}
use Rattle.std.specs.Char.{is_ascii_digit}
use Rattle.std.specs.List.{list_all}
use Rattle.pf_base.specs.LabelSets.{is_empty}
use Rattle.pf_model.specs.Cuts.{only_if}
use Rattle.pf_journal.specs.Scripts.{digits_onto}
use Rattle.pf_top.specs.Words.{seed_of}

kept_without : (b : Bool) (n : ℕ) → None ≡ only_if (b && false) n
kept_without true n = refl
kept_without false n = refl

pub too_great : (ds : List ℕ) → 18446744073709551616 ≤ digits_onto 0 ds → None ≡ seed_of ds
unfolding seed_of
too_great ds l =
    let e : nat_lt (digits_onto 0 ds) 18446744073709551616 ≡ false = grind (arith, nat_tests) in
    rw e (kept_without (not (is_empty ds) && list_all is_ascii_digit ds) (digits_onto 0 ds))
