use Rattle.std.proofs.Common.{IfSome, subst}
use Rattle.pf_expo.specs.Series.{IsSeries}
use Rattle.pf_expo.proofs.KnownLabels.{sample_found}
use Rattle.pf_expo.proofs.line.known_sample.Goals as goal

pub returns-clause-found : goal.returns-clause-found
returns-clause-found c =
    sample_found c.args.default_time c.args.line.now c.split_series.result.0.now c.split_series.result.1.now c.in-Some.labels c.in-Ok.read c.in-Ok.time
    c.requires.time c.split_series.ensures
    (subst (λ o. IfSome o (λ l. IsSeries c.split_series.result.0.now l)) c.in-Some.is c.in_ok-labels.ensures.found)
    c.in-Ok.ensures
