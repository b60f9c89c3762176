-- The counts of failed tries.
use Rattle.std.proofs.Common.{◌≡◌, ℕ, ◌+◌, ◌<◌, ◌≤◌, true, false, nat_lt, List, refl, ◌∙◌, arith, slice_set}
use Rattle.std.specs.Prelude.{slice_index_or, sum}
use Rattle.std.proofs.lemmas.Bool.Decides.{nat_tests}
use Rattle.std.proofs.lemmas.List.Sums.{get_or-le-sum_by, sum_by-set}
use Rattle.pf_core.specs.Jobs.{failures_after}
use Rattle.pf_core.specs.States.{AreCounts}
use Rattle.pf_core.proofs.Seated.{length_set}

-- a count is at most the total
pub failed_fits : (fs : List ℕ) (total actor : ℕ) → AreCounts fs total → actor < 32 → slice_index_or fs actor 0 ≤ total
failed_fits fs total actor h known =
    let many = h.actors in
    let all = h.summed in
    let least = get_or-le-sum_by (λ (n : ℕ). n) fs actor 0 (omega (arith, many, known)) in
    omega (arith, least, all)

pub counts_more : (fs : List ℕ) (total actor : ℕ) → AreCounts fs total → actor < 32 → AreCounts (slice_set fs actor (slice_index_or fs actor 0 + 1)) (total + 1)
counts_more fs total actor h known =
    let many = h.actors in
    let all = h.summed in
    let set = sum_by-set (λ (n : ℕ). n) fs actor (slice_index_or fs actor 0 + 1) 0 (omega (arith, many, known)) in
    record {
      actors = length_set fs actor (slice_index_or fs actor 0 + 1) ∙ many;
      summed = omega (arith, set, all);
    }

pub failures_more : (fs : List ℕ) (total actor : ℕ) → AreCounts fs total → total < 18446744073709551615
    → slice_set fs actor (slice_index_or fs actor 0 + 1) ≡ failures_after fs actor
failures_more fs total actor h below =
    let all = h.summed in
    let t : nat_lt (sum fs) 18446744073709551615 ≡ true = grind (arith, nat_tests, all, below) in
    rw t refl

pub failures_same : (fs : List ℕ) (total actor : ℕ) → AreCounts fs total → 18446744073709551615 ≤ total → fs ≡ failures_after fs actor
failures_same fs total actor h most =
    let all = h.summed in
    let t : nat_lt (sum fs) 18446744073709551615 ≡ false = grind (arith, nat_tests, all, most) in
    rw t refl
