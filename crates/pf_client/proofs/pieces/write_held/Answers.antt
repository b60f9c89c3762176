use Rattle.std.proofs.Common.{rules}
use Rattle.pf_client.proofs.Cases.{on_err_all}
use Rattle.pf_client.proofs.Writing.{writes_all, writes_front}
use Rattle.pf_client.proofs.pieces.write_held.Goals as goal

pub returns-in_err-put_all-clause-begun : goal.returns-in_err-put_all-clause-begun
returns-in_err-put_all-clause-begun g c =
    on_err_all _ c.from_residual.result (writes_front (g.O.Sink.told c.args.out.now) (g.O.Sink.told c.put_all.new.out) c.args.held.now (search rules))

pub returns-clause-written : goal.returns-clause-written
returns-clause-written g c =
    writes_all (g.O.Sink.told c.args.out.now) (g.O.Sink.told c.put_all.new.out) c.args.held.now (search rules)
