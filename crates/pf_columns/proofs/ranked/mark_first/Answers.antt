use Rattle.std.proofs.Common.{◌∙◌}
use Rattle.pf_columns.proofs.Selected.{selected_marked}
use Rattle.pf_columns.proofs.ranked.mark_first.Goals as goal

-- those in front of the place are the first ones
pub returns : goal.returns
returns c =
    let split = c.select_nth_unstable-first in
    c.mark-2.ensures
    ∙ selected_marked c.args.wanted c.args.entries.now split.result.0.now split.result.1.now split.result.2.now c.args.marks.now split.ensures.permutation split.ensures.front_len split.ensures.partitioned
