use Rattle.std.proofs.Common.{subst, sym}
use Rattle.pf_expo.specs.Series.{IsSeries}
use Rattle.pf_expo.proofs.KnownLabels.{known_more}
use Rattle.pf_expo.proofs.series.KnownSeries.labels_of.Goals as goal

pub returns-in_ok-insert-in-Ok-clause-read : goal.returns-in_ok-insert-in-Ok-clause-read
returns-in_ok-insert-in-Ok-clause-read c =
    known_more c.args.self.now.labels c.insert.new.self c.args.series.now _ c.requires
    (subst (λ l. IsSeries c.args.series.now l) (sym c.in_ok-clone-in-Ok.ensures) c.in-Ok.ensures)
    c.in_ok-insert-in-Ok.ensures.updates
