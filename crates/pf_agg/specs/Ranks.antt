-- The order in which `topk` and `bottomk` keep the elements of a group.
use Rattle.std.specs.Prelude.{ℤ}
use Rattle.std.specs.declared.cmp.Ordering.{Ordering}
use Rattle.std.specs.Ordering.{int_cmp, ordering_reverse}
use Rattle.pf_model.specs.declared.cell.Element.{Element}
use Rattle.pf_model.specs.Aggregation.{falling, rising}
use Rattle.pf_agg.specs.declared.rank.Rank.{Rank}
use Rattle.pf_agg.specs.declared.rank.Rank.TheVariants as rank

abbrev pub by_value : Rank → ℤ → ℤ → Ordering
by_value rank.Falling v w = ordering_reverse (int_cmp v w)
by_value rank.Rising v w = int_cmp v w

abbrev pub order_of : Rank → Element → Element → Ordering
order_of rank.Falling = falling
order_of rank.Rising = rising
