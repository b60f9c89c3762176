use Rattle.std.proofs.Common.{List, map, take, Bor, Vec, Global, ap, ◌∙◌}
use Rattle.std.proofs.lemmas.List.{length-map}
use Rattle.pf_base.specs.Sorting.{isort}
use Rattle.pf_model.specs.declared.cell.Element.{Element}
use Rattle.pf_model.specs.Cells.{in_label_order}
use Rattle.pf_model.specs.Lists.{joined}
use Rattle.pf_agg.specs.Ranks.{order_of}
use Rattle.pf_agg.proofs.Planned.{joined_grouped}
use Rattle.pf_agg.proofs.plan.first_of_groups.Goals as goal

abbrev bucket : Vec (Bor Element) Global → List Element
bucket b = map (λ e. e.now) b.items

pub returns : goal.returns
returns c =
    let first : List Element → List Element = λ es. take c.args.most (isort (order_of c.args.rank) es) in
    let groups = c.args.groups.now in
    let buckets = map bucket groups.buckets.items in
    c.in_ok-cell.ensures
    ∙ ap (λ bs. in_label_order (joined first (map bucket bs))) c.deref.ensures.value
    ∙ ap in_label_order (joined_grouped first groups.keys.items buckets (length-map groups.buckets.items bucket ∙ c.requires))
