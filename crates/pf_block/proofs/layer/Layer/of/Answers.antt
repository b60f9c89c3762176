use Rattle.std.proofs.Common.{ap, ◌∙◌}
use Rattle.std.specs.Arc.{arc_value}
use Rattle.pf_block.specs.Blocks.{ascends}
use Rattle.pf_block.proofs.Layering.{new_layer, none_cut}
use Rattle.pf_block.proofs.layer.Layer.of.Goals as goal

pub invariant_of-result : goal.invariant_of-result
invariant_of-result c = new_layer c.new-2.result (arc_value c.in_ok-new.field-0) c.new-2.ensures.empty (ap ascends c.in_ok-new.ensures.ok ∙ c.rows-rows.ensures.ascends)

pub returns : goal.returns
returns c = none_cut c.new-2.result (arc_value c.in_ok-new.field-0) c.new-2.ensures.empty ∙ c.in_ok-new.ensures.ok
