use Rattle.pf_eval.proofs.OneArgument.{one_is}
use Rattle.pf_eval.proofs.called.timed_argument.Goals as goal

pub unreachable-requires : goal.unreachable-requires
unreachable-requires c = c.if-args-ne1.true (one_is c.args.args.now c.requires)
