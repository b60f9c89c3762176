-- What is made of the groups of a vector. Prometheus, Operators: Aggregation operators.
use Rattle.std.specs.Prelude.{ℤ, List, [], take}
use Rattle.pf_base.specs.Sorting.{isort}
use Rattle.pf_model.specs.declared.cell.Element.{Element}
use Rattle.pf_model.specs.Aggregation.{ElementGroup, each_group, quantile}
use Rattle.pf_model.specs.Cells.{in_label_order}
use Rattle.pf_model.specs.Lists.{joined}
use Rattle.pf_columns.specs.Groups.{group_value}
use Rattle.pf_agg.specs.declared.plan.GroupValue.{GroupValue}
use Rattle.pf_agg.specs.declared.plan.GroupValue.TheVariants as found
use Rattle.pf_agg.specs.declared.plan.Plan.{Plan}
use Rattle.pf_agg.specs.declared.plan.Plan.TheVariants as plan
use Rattle.pf_agg.specs.Ranks.{order_of}

abbrev pub value_of_group : GroupValue → List ℤ → ℤ
value_of_group (found.Of op) vs = group_value op vs
value_of_group (found.Quantile share) vs = quantile share vs

abbrev pub planned : Plan → List ElementGroup → List Element
planned (plan.Each value) gs = each_group (value_of_group value) gs
planned (plan.First rank most) gs = in_label_order (joined (λ g. take most (isort (order_of rank) g.elements)) gs)
planned plan.Nothing gs = []
