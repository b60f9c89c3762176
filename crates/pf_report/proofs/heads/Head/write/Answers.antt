use Rattle.std.proofs.Common.{arith, ap, ◌∙◌, ◌≤◌, length}
use Rattle.pf_report.specs.Points.{head_text}
use Rattle.pf_report.proofs.Copies.{copied}
use Rattle.pf_report.proofs.heads.Head.write.Goals as goal

pub returns-clause-written : goal.returns-clause-written
returns-clause-written c =
    let within : c.self.inside.len ≤ length c.copy_from_slice.new.self = omega (arith, ap length c.copy_from_slice.ensures.after, c.self.told, c.self.invariant.0) in
    copied c.args.buffer.now c.copy_from_slice.new.self c.self.inside.bytes _ c.args.at c.self.inside.len _ (omega arith) within c.copy_from_slice.ensures.after (c.self.invariant.1 ∙ ap head_text c.self.view_is)
