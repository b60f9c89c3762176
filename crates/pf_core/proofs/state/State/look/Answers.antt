use Rattle.std.proofs.Common.{rules}
use Rattle.pf_core.proofs.Looked.{told}
use Rattle.pf_core.proofs.state.State.look.Goals as goal

pub returns : goal.returns
returns c =
    told c.args.self.now c.args.query c.in_ok-open.open.now c.in_ok-progress.progress _ c.requires (search rules) (search rules) (search rules) (search rules)
    (search rules) (search rules) (search rules) (search rules) (search rules) (search rules)
