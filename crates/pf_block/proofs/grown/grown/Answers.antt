use Rattle.std.proofs.Common.{◌++◌, ap, ◌∙◌}
use Rattle.std.specs.Arc.{arc_value}
use Rattle.pf_block.specs.Snaps.{are_apart}
use Rattle.pf_block.proofs.Joining.{apart_back}
use Rattle.pf_block.proofs.grown.grown.Goals as goal

pub with_each-requires : goal.with_each-requires
with_each-requires c =
    ap (λ x. are_apart (x ++ c.args.fresh.now)) c.new.ensures ∙ apart_back (arc_value c.args.index.now) c.args.fresh.now c.requires
