use Rattle.std.proofs.Common.{◌≡◌, ◌++◌, drop, map}
use Rattle.pf_core.specs.Entries.{entry_of}
use Rattle.pf_journal.specs.Report.{entries_from}
use Rattle.pf_client.specs.Sent.{WritesTo}
use Rattle.pf_client.proofs.journal.write_entries.Given as goal

abbrev pub invariant-loop-entry : goal.invariant-loop-entry
invariant-loop-entry g l = record {
  counted : l.place ≡ l.entry-index;
  written : WritesTo (g.O.Sink.told l.initial.out) (g.O.Sink.told l.out) (l.initial.held.items ++ entries_from l.names 0 (map entry_of l.entries))
      (l.held.items ++ entries_from l.names l.place (map entry_of (drop l.entry-index l.entries)));
  steady : g.O.Sink.faults l.out ≡ g.O.Sink.faults l.initial.out;
}
