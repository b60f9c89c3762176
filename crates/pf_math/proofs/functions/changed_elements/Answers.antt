use Rattle.std.proofs.Common.{◌++◌, ap, ◌∙◌}
use Rattle.pf_model.specs.Cells.{element, without_name}
use Rattle.pf_model.specs.InstantFunctions.{each_value}
use Rattle.pf_math.specs.EachValue.{changed}
use Rattle.pf_math.proofs.Joining.{joined_next}
use Rattle.pf_math.proofs.functions.changed_elements.Goals as goal

pub loop-element-preserved : goal.loop-element-preserved
loop-element-preserved c =
    joined_next (λ e. element (without_name e.labels) (changed c.args.change.now e.value)) c.loop-element.found.items
    c.push_value.new.found.items (each_value (changed c.args.change.now) c.args.elements.now) c.args.elements.now
    c.loop-element.element-index c.element-item.result c.loop-element-test.true c.element-item.is
    (c.in_ok-push_value.ensures.ok ∙ ap (λ v. c.loop-element.found.items ++ element (without_name c.element-item.result.labels) v) c.value.ensures)
    c.loop-element.invariant
