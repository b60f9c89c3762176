use Rattle.std.proofs.Common.{ℕ, ◌++◌, ◌∷◌, [], List, map, Vec, Global, ap, sym, ◌∙◌}
use Rattle.std.specs.Prelude.{slice_set}
use Rattle.std.proofs.lemmas.List.{get_or-map, map-set}
use Rattle.pf_columns.proofs.ranked.put_place.Goals as goal

abbrev bucket : Vec ℕ Global → List ℕ
bucket b = b.items

pub returns : goal.returns
returns c =
    let xs = c.args.buckets.now.items in
    let i = c.args.group in
    let old = c.index_mut.result.now in
    map-set bucket xs i c.push.new.self
    ∙ ap (slice_set (map bucket xs) i)
    (c.in_ok-push.ensures.items
    ∙ ap (λ b. bucket b ++ (c.args.place ∷ [])) c.index_mut.ensures.value
    ∙ ap (λ ps. ps ++ (c.args.place ∷ [])) (sym (get_or-map bucket xs i old [] c.requires)))
