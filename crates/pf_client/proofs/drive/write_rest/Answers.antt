use Rattle.std.proofs.Common.{rules}
use Rattle.pf_client.proofs.Cases.{on_err_all, on_err_map, on_ok_map}
use Rattle.pf_client.proofs.Sending.{rest_begun, rest_written}
use Rattle.pf_client.proofs.drive.write_rest.Goals as goal

pub returns-in_err-write_journal-clause-begun : goal.returns-in_err-write_journal-clause-begun
returns-in_err-write_journal-clause-begun g c =
    on_err_all _ c.from_residual.result
    (rest_begun (g.O.Sink.told c.args.out.now) (g.O.Sink.told c.write_journal.new.out) c.args.client c.in_err-write_journal.ensures.begun)

pub returns-in_err-failed-clause-begun : goal.returns-in_err-failed-clause-begun
returns-in_err-failed-clause-begun g c =
    on_err_all _ c.from_residual-in_err-failed.result
    (rest_begun (g.O.Sink.told c.args.out.now) (g.O.Sink.told c.write_journal.new.out) c.args.client (c.write_journal.new.held.items, c.in_ok-write_journal.ensures.written))

pub returns-in_err-push_actors-clause-begun : goal.returns-in_err-push_actors-clause-begun
returns-in_err-push_actors-clause-begun g c =
    on_err_all _ c.from_residual-in_err-push_actors.result
    (rest_begun (g.O.Sink.told c.args.out.now) (g.O.Sink.told c.write_journal.new.out) c.args.client (c.write_journal.new.held.items, c.in_ok-write_journal.ensures.written))

pub returns-clause-written : goal.returns-clause-written
returns-clause-written g c =
    on_ok_map _ _ c.write_held.result
    (λ w. rest_written (g.O.Sink.told c.args.out.now) (g.O.Sink.told c.write_journal.new.out) (g.O.Sink.told c.write_held.new.out) c.args.client c.write_journal.new.held.items
    c.as_slice.result.now _ c.in_ok-failed.failed.items c.in_ok-write_journal.ensures.written (search rules) (search rules) w)
    c.write_held.ensures.written

pub returns-clause-begun : goal.returns-clause-begun
returns-clause-begun g c =
    on_err_map _ _ c.write_held.result
    (λ f. (
      f.0,
      rest_written (g.O.Sink.told c.args.out.now) (g.O.Sink.told c.write_journal.new.out) (g.O.Sink.told c.write_held.new.out) c.args.client c.write_journal.new.held.items
          c.as_slice.result.now f.0 c.in_ok-failed.failed.items c.in_ok-write_journal.ensures.written (search rules) (search rules) f.1,
    ))
    c.write_held.ensures.begun
