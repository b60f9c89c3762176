use Rattle.std.proofs.Common.{rules, ap, sym, ◌∙◌}
use Rattle.pf_gen.proofs.Counting.{behind_group, behind_none, none_yet, with_one}
use Rattle.pf_gen.specs.Draws.{behind}
use Rattle.pf_gen.proofs.script.push_queries.Goals as goal

pub loop-number-init : goal.loop-number-init
loop-number-init c = record { text = none_yet _ _; state = sym (behind_none _) }

pub loop-number-preserved : goal.loop-number-preserved
loop-number-preserved c = record {
  text = with_one _ _ _ _ _ c.loop-number.invariant.text (search rules);
  state = search rules ∙ ap (behind 2) c.loop-number.invariant.state ∙ behind_group 2 _ _;
}
