use Rattle.std.proofs.Common.{◌≡◌, ◌+◌, ◌++◌, ◌∷◌, [], map, drop, ap, sym, ◌∙◌, append_assoc}
use Rattle.std.proofs.lemmas.List.{drop_more}
use Rattle.pf_columns.specs.Groups.{place_in}
use Rattle.pf_columns.proofs.GroupKeys.{again_place}
use Rattle.pf_columns.proofs.groups.places_in.Goals as goal
use Rattle.pf_columns.proofs.groups.places_in.Goals.{then-is_again, else-is_again}

pub loop-labels-preserved : goal.loop-labels-preserved
loop-labels-preserved c =
    let sets = c.args.sets.now in
    let all = c.args.all.now in
    let i = c.loop-labels.labels-index in
    let labels = c.labels-item.result in
    let place : c.if-is_again.place ≡ place_in sets labels =
    elim c.if-is_again.branch [
      | then-is_again w ↦ w.place-is ∙ again_place sets _ labels c.loop-labels.place (sym c.is_again.ensures ∙ w.if-is_again.true) c.loop-labels.invariant.last
      | else-is_again w ↦ w.place-is ∙ w.place_in-place.ensures
    ] in
    let next : drop i all ≡ labels ∷ drop (i + 1) all = drop_more all i labels c.loop-labels-test.true ∙ ap (λ l. l ∷ drop (i + 1) all) (sym c.labels-item.is) in
    record {
      found =
          ap (λ ps. ps ++ map (place_in sets) (drop (i + 1) all)) (c.in_ok-push.ensures.items ∙ ap (λ p. c.loop-labels.found.items ++ (p ∷ [])) place)
          ∙ append_assoc c.loop-labels.found.items (place_in sets labels ∷ []) (map (place_in sets) (drop (i + 1) all))
          ∙ ap (λ ls. c.loop-labels.found.items ++ map (place_in sets) ls) (sym next) ∙ c.loop-labels.invariant.found;
      last = place;
    }
