use Rattle.std.proofs.Common.{◌≡◌, ◌+◌, drop, map}
use Rattle.pf_journal.specs.Replies.{count_refused, count_repeated, count_taken}
use Rattle.pf_store.specs.Verdicts.{verdict_of}
use Rattle.pf_report.proofs.counts.Counts.of.Given as goal

abbrev pub invariant-loop-verdict : goal.invariant-loop-verdict
invariant-loop-verdict l = record {
  taken : l.counts.taken + count_taken (map verdict_of (drop l.verdict-index l.verdicts)) ≡ count_taken (map verdict_of l.verdicts);
  repeated : l.counts.repeated + count_repeated (map verdict_of (drop l.verdict-index l.verdicts)) ≡ count_repeated (map verdict_of l.verdicts);
  refused : l.counts.refused + count_refused (map verdict_of (drop l.verdict-index l.verdicts)) ≡ count_refused (map verdict_of l.verdicts);
  all : l.counts.taken + l.counts.repeated + l.counts.refused ≡ l.verdict-index;
}
