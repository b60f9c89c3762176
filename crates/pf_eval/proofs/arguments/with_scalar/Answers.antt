use Rattle.std.proofs.Common.{refl}
use Rattle.pf_eval.proofs.SplitArguments.{scalar_splits}
use Rattle.pf_eval.proofs.arguments.with_scalar.Goals as goal

pub returns : goal.returns
returns c = λ all rest.
    scalar_splits c.args.len all rest c.args.splitting _ c.args.scalar c.in_ok-bads.ensures refl c.in_ok-push.ensures.items refl
