use Rattle.std.proofs.Common.{arith}
use Rattle.std.proofs.lemmas.Int.{ints}
use Rattle.std.proofs.lemmas.Result.{IfOk-weaker}
use Rattle.pf_block.specs.Snaps.{samples_of}
use Rattle.pf_selectors.proofs.RunValues.{windows_alike}
use Rattle.pf_selectors.proofs.windows.read_windows.Goals as goal

pub returns-clause-windows : goal.returns-clause-windows
returns-clause-windows c = IfOk-weaker c.read.result _ _ (λ xs is.
    let s = c.requires.start in
    windows_alike c.args.times.now (samples_of c.args.snap.now c.args.id) xs.now c.args.span.first c.args.span.last _ _ is
    (omega (arith, ints, c.requires.last)) c.requires.low c.requires.high c.args.range (omega (arith, ints, c.requires.first, s.0, s.1))) c.read.ensures.samples
