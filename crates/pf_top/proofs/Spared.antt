-- Where hops have no fault left to count, no answer has 500.
use Rattle.std.proofs.Common.{◌≡◌, ℕ, ◌<◌, ◌≤◌, ◌*◌, Option, Some, List, arith, inl, inr}
use Rattle.std.specs.Prelude.{◌⊎◌, sum}
use Rattle.pf_journal.specs.Machine.{Entry}
use Rattle.pf_journal.specs.Rest.{Rest}
use Rattle.pf_journal.specs.Weave.{AreTried, failed_answers}
use Rattle.pf_client.specs.Tries.{AreSpared, most_of}

pub none_failed : (journal : List Entry) (rest : Rest) (most : List (Option ℕ)) (before : ℕ) → AreTried journal rest → AreSpared most before rest.failed
    → most_of most ≡ Some before → before < 18446744073709551615 → failed_answers journal ≡ 0
none_failed journal rest most before tried spared told below = by tried.five where
  by : (sum rest.failed ≡ 18446744073709551615) ⊎ (5 * failed_answers journal ≤ sum rest.failed) → failed_answers journal ≡ 0
  by (inl top) = let left = spared before told below in absurd (omega (arith, left, top))
  by (inr five) = let left = spared before told below in omega (arith, left, five)
