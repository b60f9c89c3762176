use Rattle.std.proofs.Common.{None, ap, ◌∙◌}
use Rattle.pf_base.specs.LabelOrder.{labels_cmp}
use Rattle.pf_base.specs.Sorting.{isort}
use Rattle.pf_columns.specs.Groups.{unrepeated}
use Rattle.pf_columns.proofs.GroupKeys.{distinct_is, distinct_unrepeated}
use Rattle.pf_columns.proofs.groups.distinct.Goals as goal

pub returns : goal.returns
returns c =
    c.in_ok-found.ensures
    ∙ ap (unrepeated None) (c.deref.ensures.value ∙ c.in_ok-sorted.ensures ∙ ap (isort labels_cmp) c.in_ok-apart.ensures)
    ∙ distinct_is (unrepeated None c.args.all.now)
    ∙ distinct_unrepeated c.args.all.now
