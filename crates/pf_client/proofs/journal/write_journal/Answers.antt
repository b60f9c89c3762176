use Rattle.std.proofs.Common.{rules}
use Rattle.pf_client.proofs.Cases.{on_err_all, on_err_map, on_ok_map}
use Rattle.pf_client.proofs.Sending.{journal_written}
use Rattle.pf_client.proofs.Writing.{writes_none}
use Rattle.pf_client.proofs.journal.write_journal.Goals as goal

pub returns-in_err-push_journal_head-clause-begun : goal.returns-in_err-push_journal_head-clause-begun
returns-in_err-push_journal_head-clause-begun g c = on_err_all _ c.from_residual.result (_, writes_none (g.O.Sink.told c.args.out.now) _)

pub returns-clause-written : goal.returns-clause-written
returns-clause-written g c =
    on_ok_map _ _ c.write_entries.result
    (λ w. journal_written (g.O.Sink.told c.args.out.now) (g.O.Sink.told c.write_entries.new.out) c.args.core.now.names c.names.result.now c.journal-entries.result.now c.args.core.now.journal
    c.args.held.now.items c.push_journal_head.new.out.items c.write_entries.new.held.items (search rules) (search rules) (search rules) w)
    c.write_entries.ensures.written

pub returns-clause-begun : goal.returns-clause-begun
returns-clause-begun g c =
    on_err_map _ _ c.write_entries.result
    (λ f. (
      f.0,
      journal_written (g.O.Sink.told c.args.out.now) (g.O.Sink.told c.write_entries.new.out) c.args.core.now.names c.names.result.now c.journal-entries.result.now c.args.core.now.journal
          c.args.held.now.items c.push_journal_head.new.out.items f.0 (search rules) (search rules) (search rules) f.1,
    ))
    c.write_entries.ensures.begun
