use Rattle.std.proofs.Common.{◌∙◌}
use Rattle.std.specs.Arc.{arc_value}
use Rattle.pf_block.proofs.Layering.{copy_is, copy_layer}
use Rattle.pf_block.proofs.layer.Layer.copied.Goals as goal

pub invariant_of-result : goal.invariant_of-result
invariant_of-result c = copy_layer (arc_value c.self.inside.block) (arc_value c.in_ok-try_clone.field-0) c.self.inside.parts c.in_ok-clone.field-0 c.self.invariant c.in_ok-try_clone.ensures c.in_ok-clone.ensures.cases

pub returns : goal.returns
returns c = copy_is (arc_value c.self.inside.block) (arc_value c.in_ok-try_clone.field-0) c.self.inside.parts c.in_ok-clone.field-0 c.self.invariant c.in_ok-try_clone.ensures c.in_ok-clone.ensures.cases ∙ c.self.view_is
