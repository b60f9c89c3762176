use Rattle.std.proofs.Common.{◌≡◌, rules, ◌∙◌}
use Rattle.pf_base.specs.Sorting.{isort}
use Rattle.pf_join.specs.KeyedElements.{keyed, keyed_cmp, those_without}
use Rattle.pf_join.proofs.KeyedJoins.{those_without_is}
use Rattle.pf_join.proofs.matching.unless.Goals as goal

pub returns : goal.returns
returns c =
    let m = c.args.matching.now in
    let found : c.in_ok-found.found.items ≡ those_without m (isort keyed_cmp (keyed m c.args.rights.now)) c.args.lefts.now = search rules in
    found ∙ those_without_is m c.args.rights.now c.args.lefts.now
