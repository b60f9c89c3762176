use Rattle.std.proofs.Common.{◌++◌, ◌∷◌, [], List, map, Bor, Vec, Global, ap, sym, ◌∙◌}
use Rattle.std.specs.Prelude.{slice_set}
use Rattle.std.proofs.lemmas.List.{get_or-map, map-set}
use Rattle.pf_model.specs.declared.cell.Element.{Element}
use Rattle.pf_columns.proofs.GroupColumns.{map_snoc}
use Rattle.pf_agg.proofs.groups.put_element.Goals as goal

abbrev now : Bor Element → Element
now c = c.now

abbrev bucket : Vec (Bor Element) Global → List Element
bucket b = map now b.items

pub returns : goal.returns
returns c =
    let xs = c.args.buckets.now.items in
    let i = c.args.place in
    let old = c.index_mut.result.now in
    map-set bucket xs i c.push.new.self
    ∙ ap (slice_set (map bucket xs) i)
    (ap (map now) c.in_ok-push.ensures.items ∙ map_snoc now old.items c.args.element
    ∙ ap (λ b. bucket b ++ (c.args.element.now ∷ [])) c.index_mut.ensures.value
    ∙ ap (λ cs. cs ++ (c.args.element.now ∷ [])) (sym (get_or-map bucket xs i old [] c.requires)))
