use Rattle.std.proofs.Common.{rules, ◌++◌, ◌+◌, drop, map}
use Rattle.pf_core.specs.Entries.{entry_of}
use Rattle.pf_journal.specs.Report.{entries_from}
use Rattle.pf_client.proofs.Cases.{on_err_all}
use Rattle.pf_client.proofs.Writing.{entry_written}
use Rattle.pf_client.proofs.journal.write_entries.Goals as goal

pub returns-in_err-hand_on-clause-begun : goal.returns-in_err-hand_on-clause-begun
returns-in_err-hand_on-clause-begun g c =
    let told = g.O.Sink.told in
    let front = c.in_err-hand_on.ensures.begun in
    on_err_all _ c.from_residual-in_err-hand_on.result (
      front.0 ++ entries_from c.args.names.now (c.loop-entry.place + 1) (map entry_of (drop (c.loop-entry.entry-index + 1) c.args.entries.now)),
      entry_written (told c.args.out.now) (told c.loop-entry.out) (told c.hand_on.new.out) _ c.args.names.now c.loop-entry.place c.args.entries.now c.loop-entry.entry-index
          c.entry-item.result c.loop-entry.held.items c.push_one.new.out.items front.0 (search rules) (search rules) c.loop-entry.invariant.written (search rules) front.1,
    )

pub loop-entry-preserved : goal.loop-entry-preserved
loop-entry-preserved g c =
    let told = g.O.Sink.told in
    record {
      counted = search rules;
      written = entry_written (told c.args.out.now) (told c.loop-entry.out) (told c.hand_on.new.out) _ c.args.names.now c.loop-entry.place c.args.entries.now c.loop-entry.entry-index
          c.entry-item.result c.loop-entry.held.items c.push_one.new.out.items c.hand_on.new.held.items (search rules) (search rules) c.loop-entry.invariant.written (search rules)
          c.in_ok-hand_on.ensures.written;
      steady = search rules;
    }
