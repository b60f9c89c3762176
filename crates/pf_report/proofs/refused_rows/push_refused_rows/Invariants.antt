use Rattle.std.proofs.Common.{◌≡◌, ◌++◌, drop, map, take, vec_len}
use Rattle.pf_journal.specs.Replies.{refusals_from}
use Rattle.pf_store.specs.Verdicts.{verdict_of}
use Rattle.pf_report.proofs.refused_rows.push_refused_rows.Given as goal

abbrev pub invariant-loop-row : goal.invariant-loop-row
invariant-loop-row l = record {
  ok : l.out.items ++ refusals_from l.row (map verdict_of (drop l.row l.verdicts))
      ≡ l.initial.out.items ++ refusals_from 0 (map verdict_of l.verdicts);
  kept : take (vec_len l.initial.out) l.out.items ≡ l.initial.out.items;
}
