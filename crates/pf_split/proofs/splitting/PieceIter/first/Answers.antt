use Rattle.std.proofs.Common.{◌<◌, ◌∙◌, sym, arith}
use Rattle.pf_split.proofs.Intervals.{first_piece, with_run}
use Rattle.pf_split.proofs.Runs.{rest_left}
use Rattle.pf_split.proofs.splitting.PieceIter.first.Goals as goal

pub invariant_of-self : goal.invariant_of-self
invariant_of-self c =
    let many : 0 < c.self.inside.len = omega (arith, c.if-self-eq0.false) in
    rest_left _ _ _ _ _ c.self.invariant.some (c.self.invariant.grid many) c.first_steps-count.ensures.some.0 c.first_steps-count.ensures.some.1

pub returns : goal.returns
returns c =
    let many : 0 < c.self.inside.len = omega (arith, c.if-self-eq0.false) in
    sym c.self.view_is
    ∙ first_piece _ _ _ _ _ c.self.invariant.some (c.self.invariant.grid many) c.first_steps-count.ensures.value
    ∙ with_run _ _ _ _ c.run_of-run.ensures
