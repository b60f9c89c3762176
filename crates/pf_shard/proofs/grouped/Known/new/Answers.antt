use Rattle.std.proofs.Common.{arith}
use Rattle.std.proofs.Common.{subst, sym}
use Rattle.std.proofs.lemmas.Grind.{common_steps}
use Rattle.pf_model.specs.Lists.{Each}
use Rattle.pf_shard.proofs.KnownGroups.{none_within}
use Rattle.pf_shard.proofs.grouped.Known.new.Goals as goal
use Rattle.pf_shard.specs.Groups.{IsWithin}

pub returns-clause-within : goal.returns-clause-within
returns-clause-within c =
    subst (λ pss. Each (λ ps. Each (IsWithin 0) ps) pss) (sym c.loop.invariant) (none_within c.args.len c.loop.counter)

pub returns-clause-known : goal.returns-clause-known
returns-clause-known c = grind (arith, common_steps)
