use Rattle.std.proofs.Common.{◌≡◌, ◌++◌, rules, ◌∙◌}
use Rattle.pf_base.specs.Sorting.{isort}
use Rattle.pf_join.specs.KeyedElements.{keyed, keyed_cmp, those_without}
use Rattle.pf_join.proofs.KeyedJoins.{either_is}
use Rattle.pf_join.proofs.matching.either.Goals as goal

pub returns : goal.returns
returns c =
    let m = c.args.matching.now in
    let found : c.in_ok-found.found.items ≡ c.args.lefts.now ++ those_without m (isort keyed_cmp (keyed m c.args.lefts.now)) c.args.rights.now = search rules in
    found ∙ either_is m c.args.lefts.now c.args.rights.now
