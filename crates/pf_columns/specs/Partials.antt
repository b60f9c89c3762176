-- What is known of each group: this project's own, after Mimir's query sharding.
use Rattle.std.specs.Prelude.{List, map}
use Rattle.pf_base.specs.declared.plain.Partial.{Partial}
use Rattle.pf_base.specs.LabelSets.{Pairs}
use Rattle.pf_model.specs.Aggregation.{ElementGroup}
use Rattle.pf_model.specs.Cells.{values_of}
use Rattle.pf_model.specs.Legs.{GroupPart, partial_of}

-- pairs of a key and what is known of its group
abbrev pub parts_of : List (Pairs × Partial) → List GroupPart
parts_of ps = map (λ p. record { key = p.0; partial = p.1 }) ps

abbrev pub keys_of : List (Pairs × Partial) → List Pairs
keys_of ps = map (λ p. p.0) ps

abbrev pub partials_of : List ElementGroup → List GroupPart
partials_of gs = map (λ g. record { key = g.key; partial = partial_of (values_of g.elements) }) gs
