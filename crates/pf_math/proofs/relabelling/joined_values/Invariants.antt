use Rattle.std.proofs.Common.{◌≡◌, ◌++◌, drop, string_bytes}
use Rattle.pf_base.specs.LabelSets.{value_of}
use Rattle.pf_model.specs.Lists.{joined}
use Rattle.pf_math.specs.Relabelling.{joined_values}
use Rattle.pf_math.proofs.relabelling.joined_values.Given as goal

abbrev pub invariant-loop-source : goal.invariant-loop-source
invariant-loop-source l =
    string_bytes l.out ++ joined (λ s. l.separator ++ value_of l.labels s) (drop l.source-index l.rest)
    ≡ joined_values l.separator l.sources l.labels
