use Rattle.std.proofs.Common.{refl}
use Rattle.pf_eval.proofs.SplitArguments.{are_arguments}
use Rattle.pf_eval.proofs.arguments.arguments_of.Goals as goal

pub returns : goal.returns
returns c =
    are_arguments c.args.len c.args.args.items c.in_ok-found.found _ c.in_ok-found.ensures refl c.columns_of.ensures refl refl
