use Rattle.std.proofs.Common.{◌∙◌, sym}
use Rattle.std.proofs.lemmas.Result.{err_from_is_err_and}
use Rattle.pf_expo.proofs.Skipped.{fault_answers, skipped_found}
use Rattle.pf_expo.proofs.line.read_line.Goals as goal

pub returns-then-is_skipped-clause-gives : goal.returns-then-is_skipped-clause-gives
returns-then-is_skipped-clause-gives c = skipped_found c.args.line.now (sym c.is_skipped.ensures ∙ c.if-is_skipped.true)

pub returns-in_err-sample-clause-gives : goal.returns-in_err-sample-clause-gives
returns-in_err-sample-clause-gives c =
    let p = err_from_is_err_and c.from_residual.result c.from_residual.ensures.1 in
    rw (p.1, p.2) (fault_answers c.args.default_time c.args.line.now _ (sym c.is_skipped.ensures ∙ c.if-is_skipped.false) c.in_err-sample.ensures.none c.in_err-sample.ensures.time)
