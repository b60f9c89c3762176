use Rattle.std.proofs.Common.{refl}
use Rattle.pf_eval.proofs.SplitArguments.{text_splits}
use Rattle.pf_eval.proofs.arguments.with_text.Goals as goal

pub returns : goal.returns
returns c = λ len all rest.
    text_splits len all rest c.args.splitting _ c.args.text refl refl refl c.in_ok-push.ensures.items
