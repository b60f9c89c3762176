use Rattle.std.proofs.Common.{arith}
use Rattle.std.specs.String.{string_bytes}
use Rattle.pf_base.proofs.LabelPacking.{counted}
use Rattle.pf_base.proofs.labels.packed.PackedPairs.count.Goals as goal

pub returns-clause-value : goal.returns-clause-value
returns-clause-value c =
    let n = counted _ c.args.self.now (string_bytes c.self.inside.text) c.self.inside.bounds.items c.self.inside.hash c.self.invariant c.self.view_is in
    omega (arith, n)
