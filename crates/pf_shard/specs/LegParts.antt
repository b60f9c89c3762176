-- What a leg is at each step of a run, counted from 0: this project's own.
use Rattle.std.specs.Prelude.{ℕ, List, [], ◌∷◌}
use Rattle.pf_model.specs.Legs.{PartData, whole_part}
use Rattle.pf_columns.specs.Steps.{step_at}
use Rattle.pf_shard.specs.Groups.{groups_at}
use Rattle.pf_shard.specs.declared.parts.Part.{Part}
use Rattle.pf_shard.specs.declared.parts.Part.TheVariants.{Whole, Groups}

abbrev pub part_at : Part → ℕ → PartData
part_at (Whole steps) k = whole_part (step_at steps k)
part_at (Groups groups) k = groups_at groups k

-- a part is of the kind that its legs' nodes have
abbrev pub FitsNodes : List ℕ → Part → Type 0
FitsNodes [] (Whole steps) = Unit {0}
FitsNodes [] (Groups groups) = ⊥
FitsNodes (n ∷ ns) (Whole steps) = ⊥
FitsNodes (n ∷ ns) (Groups groups) = Unit {0}
