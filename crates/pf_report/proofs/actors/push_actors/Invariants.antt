use Rattle.std.proofs.Common.{◌≡◌, ◌++◌, drop, take, vec_len}
use Rattle.pf_journal.specs.Report.{actors_from}
use Rattle.pf_report.proofs.actors.push_actors.Given as goal

abbrev pub invariant-loop-actor : goal.invariant-loop-actor
invariant-loop-actor l = record {
  ok : l.out.items ++ actors_from l.actor (drop l.actor l.failed)
      ≡ l.initial.out.items ++ actors_from 0 l.failed;
  kept : take (vec_len l.initial.out) l.out.items ≡ l.initial.out.items;
}
