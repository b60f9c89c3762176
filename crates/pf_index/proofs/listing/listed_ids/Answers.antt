use Rattle.std.proofs.Common.{ℕ, List, length, map, ◌≡◌, arith}
use Rattle.std.proofs.lemmas.List.{length-map}
use Rattle.std.proofs.lemmas.List.Filters.{dedup_is}
use Rattle.pf_index.proofs.Listed.{one_listed, sorted_listed}
use Rattle.pf_index.proofs.listing.listed_ids.Goals as goal

pub returns : goal.returns
returns c =
    let name : List ℕ = c.args.name.now in
    let values : List (List ℕ) = map (λ x. x.now) c.args.values.now in
    let n : length values ≡ length c.args.values.now = length-map c.args.values.now (λ x. x.now) in
    let ids : List ℕ = c.in_ok-ids.ids.items in
    elim c.if-values-gt1.branch [
      | goal.then-values-gt1 w ↦ rw (w.ids-is)
          (sorted_listed name values c.args.snap.now.labels ids _ _ c.in_ok-ids.ensures w.sort_unstable.ensures.permutation w.sort_unstable.ensures.sorted (dedup_is _ _ _ w.dedup.ensures.filtered))
      | goal.else-values-gt1 w ↦ rw (w.ids-is) (one_listed name values c.args.snap.now.labels ids (omega (arith, n, w.if-values-gt1.false)) c.in_ok-ids.ensures)
    ]
