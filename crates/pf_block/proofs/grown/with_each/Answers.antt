use Rattle.std.proofs.Common.{ap, ◌∙◌, arith}
use Rattle.pf_block.specs.SeriesIds.{id_of}
use Rattle.pf_block.proofs.Handing.{next_apart}
use Rattle.pf_block.proofs.grown.with_each.Goals as goal

pub with-requires : goal.with-requires
with-requires c =
    ap (λ x. id_of x c.loop-labels.index) (c.in_ok-clone.ensures ∙ c.labels-item.is)
    ∙ next_apart c.args.index c.args.fresh.now c.loop-labels.index c.loop-labels.labels-index c.labels-item.result c.loop-labels.invariant c.requires (omega arith)
