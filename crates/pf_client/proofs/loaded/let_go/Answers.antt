use Rattle.std.proofs.Common.{arith}
use Rattle.pf_client.proofs.Gone.{goes}
use Rattle.pf_client.proofs.loaded.let_go.Goals as goal

pub returns-then-file-number : goal.returns-then-file-number
returns-then-file-number c =
    goes c.args.loaded.now c.args.name.now c.args.number c.remove.new.self c.in-Some.file.now c.in-Some.ensures
    (λ above. let low = c.if-file-number.true in omega (arith, above, low)) c.remove.ensures.updates
