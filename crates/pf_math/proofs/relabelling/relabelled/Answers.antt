use Rattle.std.proofs.Common.{◌≡◌, subst}
use Rattle.std.specs.Prelude.{IfOk}
use Rattle.pf_math.proofs.relabelling.relabelled.Goals as goal

pub returns : goal.returns
returns c = subst (λ ls. IfOk c.labels.result (λ l. l ≡ ls)) (c.in_ok-relabelling.ensures.labels c.args.labels.now) c.labels.ensures.value
