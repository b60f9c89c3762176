-- Failed tries against the faults that hops count.
use Rattle.std.proofs.Common.{◌≡◌, inl, inr, ℕ, ◌+◌, ◌<◌, ◌≤◌, Option, Some, None, List, [], ◌∷◌, map, refl, ap, ◌∙◌, arith}
use Rattle.std.specs.Prelude.{sum, sum_by}
use Rattle.std.proofs.lemmas.List.Sums.{sum_by-cons}
use Rattle.pf_base.specs.declared.plain.Limits.{Limits}
use Rattle.pf_core.specs.Cores.{CoreData, started_core}
use Rattle.pf_front.specs.Works.{AreCarried}
use Rattle.pf_io.specs.Outside.{WithinMost}
use Rattle.pf_client.proofs.Lists.{some_is}
use Rattle.pf_client.specs.Tries.{AreCarriedPast, HaveCause, most_of, with_most}

-- ---- one run of lines after another

pub none_carried : (count : ℕ) (c : CoreData) → AreCarried count count c c
none_carried count c = inr (omega arith)

pub carried_on : (before mid after : ℕ) (a b c : CoreData) → mid ≤ after → AreCarried before mid a b → AreCarried mid after b c → AreCarried before after a c
carried_on before mid after a b c risen (inl past) y = inl (omega (arith, past, risen))
carried_on before mid after a b c risen (inr x) (inl past) = inl past
carried_on before mid after a b c risen (inr x) (inr y) = inr (omega (arith, x, y))

pub carried_up : (before mid after : ℕ) (a b : CoreData) → mid ≤ after → AreCarried before mid a b → AreCarried before after a b
carried_up before mid after a b risen (inl past) = inl (omega (arith, past, risen))
carried_up before mid after a b risen (inr x) = inr (omega (arith, x, risen))

-- ---- all tries of a run

pub none_failed : (limits : Limits) (c : CoreData) → c ≡ started_core limits → sum c.failed ≡ 0
none_failed limits c is = ap (λ (d : CoreData). sum d.failed) is

past : (before after : ℕ) (first c : CoreData) → sum first.failed ≡ 0 → AreCarried before after first c → AreCarriedPast before after c.failed
past before after first c none (inl end) = inl end
past before after first c none (inr x) = inr (omega (arith, x, none))

spared_by : (before after total : ℕ) (failed : List ℕ) → after ≤ total → total < 18446744073709551615 → AreCarriedPast before after failed → sum failed + before ≤ total
spared_by before after total failed within low (inl end) = absurd (omega (arith, within, low, end))
spared_by before after total failed within low (inr x) = omega (arith, within, x)

module _ {X : Type 0} (faults : X → ℕ) (most : X → Option ℕ) (law : (x : X) → WithinMost (most x) (faults x)) where
  -- hops count no more than they tell, all together
  within_one : (x : X) (xs : List X) (m rest : Option ℕ) (total : ℕ) → WithinMost m (faults x) → ((more : ℕ) → rest ≡ Some more → sum_by faults xs ≤ more)
      → with_most m rest ≡ Some total → sum_by faults (x ∷ xs) ≤ total
  within_one x xs None rest total w left e = cc
  within_one x xs (Some n) None total w left e = cc
  within_one x xs (Some n) (Some more) total w left e =
      let whole : n + more ≡ total = some_is (n + more) total e in
      let behind = left more refl in
      let split = sum_by-cons faults x xs in
      omega (arith, w, whole, behind, split)

  within : (hops : List X) (total : ℕ) → most_of (map most hops) ≡ Some total → sum_by faults hops ≤ total
  within [] total e = omega arith
  within (x ∷ xs) total e = within_one x xs (most x) (most_of (map most xs)) total (law x) (within xs) e

  pub have_cause : (old new : List X) (first c : CoreData) → map most new ≡ map most old → sum first.failed ≡ 0
      → AreCarried (sum_by faults old) (sum_by faults new) first c → HaveCause (map most old) (sum_by faults old) (sum_by faults new) c.failed
  have_cause old new first c same none x =
      let carried = past (sum_by faults old) (sum_by faults new) first c none x in
      record {
        carried = carried;
        spared = λ total told low. spared_by (sum_by faults old) (sum_by faults new) total c.failed
            (within new total (ap most_of same ∙ told)) low carried;
      }
