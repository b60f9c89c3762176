use Rattle.std.proofs.Common.{◌≡◌, length}
use Rattle.std.specs.Arc.{arc_value}
use Rattle.pf_query.specs.Works.{EachAt, IsPlanned}
use Rattle.pf_query.proofs.plan.planned_jobs.Given as goal

abbrev pub invariant-loop-number : goal.invariant-loop-number
invariant-loop-number l = record {
  many : length l.jobs.items ≡ l.number;
  each : EachAt (IsPlanned l.tenant l.query (arc_value l.legs) l.runs (arc_value l.snap)) 0 l.jobs.items;
}
