use Rattle.std.proofs.Common.{◌≡◌, ◌-◌, ◌-ℤ◌, pos}
use Rattle.std.specs.List.{filter}
use Rattle.pf_model.specs.Evaluation.{multiples}
use Rattle.pf_range.specs.Windows.{IsTime}
use Rattle.pf_selectors.specs.Subqueries.{is_read}
use Rattle.pf_selectors.specs.Times.{time_at}
use Rattle.pf_selectors.proofs.StepMultiples.{end_at}
use Rattle.pf_selectors.proofs.multiples.read_multiples.Given as goal

abbrev pub invariant-loop-i : goal.invariant-loop-i
invariant-loop-i l = record {
  end : l.end ≡ end_at l.range l.times l.i;
  within : IsTime l.end;
  list : l.list.items ≡ filter (is_read l.range l.times l.i) (multiples l.step (time_at l.times 0 -ℤ pos l.range) (time_at l.times (l.times.len - 1)));
}
