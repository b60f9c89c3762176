use Rattle.std.proofs.lemmas.Result.{err_from_is_err_and}
use Rattle.pf_base.specs.declared.labels.Labels.{Labels}
use Rattle.pf_expo.specs.declared.line.Scanned.{Scanned as ScannedMade}
use Rattle.pf_expo.proofs.Decided.{fault_build, fault_scan, none_read, sample_made}
use Rattle.pf_expo.proofs.line.sample_of.Goals as goal

pub returns-in_err-scanned-clause-none : goal.returns-in_err-scanned-clause-none
returns-in_err-scanned-clause-none c =
    let p = err_from_is_err_and c.from_residual.result c.from_residual.ensures.1 in
    rw (p.1, p.2) (fault_scan {X = ScannedMade} (λ s. record { pairs = s.pairs.items; number = s.number.now; time = s.time }) c.args.default_time c.args.line.now _ c.in_err-scanned.ensures)

pub returns-in_default-clause-none : goal.returns-in_default-clause-none
returns-in_default-clause-none c = λ e. none_read c.args.default_time c.args.line.now _ c.in_ok-scanned.ensures (λ r h. c.in_default.not-Ok r ((c.read_value.ensures r).1 h))

pub returns-in_err-labels_of-clause-none : goal.returns-in_err-labels_of-clause-none
returns-in_err-labels_of-clause-none c =
    let p = err_from_is_err_and c.from_residual-in_err-labels_of.result c.from_residual-in_err-labels_of.ensures.1 in
    rw (p.1, p.2) (fault_build {X = Labels} (λ l. l) c.args.default_time c.args.line.now _ _ c.in_ok-scanned.ensures c.in_err-labels_of.ensures)

pub returns-clause-found : goal.returns-clause-found
returns-clause-found c = sample_made c.args.default_time c.args.line.now _ c.in-Ok.read c.in_ok-labels_of.field-0 c.requires c.in_ok-scanned.ensures ((c.read_value.ensures c.in-Ok.read).0 c.in-Ok.is) c.in_ok-labels_of.ensures
