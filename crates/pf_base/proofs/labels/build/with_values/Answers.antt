use Rattle.std.proofs.Common.{rules}
use Rattle.std.proofs.lemmas.List.Elements.{filter_from_retain}
use Rattle.pf_base.specs.LabelSets.{has_value}
use Rattle.pf_base.proofs.labels.build.with_values.Goals as goal

pub returns : goal.returns
returns c = filter_from_retain _ has_value (λ p x b q h. search rules) _ _ _ c.retain.ensures.filtered
