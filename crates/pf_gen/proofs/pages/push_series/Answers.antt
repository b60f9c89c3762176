use Rattle.std.proofs.Common.{rules, ap, sym, ◌∙◌}
use Rattle.pf_gen.proofs.Counting.{behind_none, behind_one, none_yet, with_one}
use Rattle.pf_gen.specs.Draws.{next}
use Rattle.pf_gen.proofs.pages.push_series.Goals as goal

pub loop-minute-init : goal.loop-minute-init
loop-minute-init c = record { text = none_yet _ _; state = sym (behind_none _) }

pub loop-minute-preserved : goal.loop-minute-preserved
loop-minute-preserved c = record {
  text = with_one _ _ _ _ _ c.loop-minute.invariant.text (search rules);
  state = search rules ∙ ap next c.loop-minute.invariant.state ∙ sym (behind_one _ _);
}
