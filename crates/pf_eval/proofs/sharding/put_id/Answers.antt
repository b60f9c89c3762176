use Rattle.std.proofs.Common.{ℕ, ◌++◌, ◌∷◌, [], List, map, Vec, Global, ap, sym, ◌∙◌}
use Rattle.std.specs.Prelude.{slice_set}
use Rattle.std.proofs.lemmas.List.{get_or-map, map-set}
use Rattle.pf_eval.proofs.sharding.put_id.Goals as goal

abbrev list : Vec ℕ Global → List ℕ
list v = v.items

pub returns : goal.returns
returns c =
    let xs = c.args.lists.now.items in
    let i = c.args.shard in
    let old = c.index_mut.result.now in
    map-set list xs i c.push.new.self
    ∙ ap (slice_set (map list xs) i)
    (c.in_ok-push.ensures.items
    ∙ ap (λ v. list v ++ (c.args.id ∷ [])) c.index_mut.ensures.value
    ∙ ap (λ ids. ids ++ (c.args.id ∷ [])) (sym (get_or-map list xs i old [] c.requires)))
