-- What a query's value depends on: this project's own.
use Rattle.std.specs.Prelude.{◌≡◌, ℤ, pos, int_le, Bool, ◌&&◌, Option, Some, List}
use Rattle.std.specs.List.{filter}
use Rattle.pf_base.specs.declared.plain.Row.{Row}
use Rattle.pf_model.specs.Evaluation.{eval}
use Rattle.pf_model.specs.Reach.{lowest, reach}
use Rattle.pf_model.specs.Trees.{Tree}

-- a row's time lies from `low` to `high`
abbrev pub is_between : ℤ → ℤ → Row → Bool
is_between low high r = int_le low (pos r.time) && int_le (pos r.time) high

-- two lists of samples have the same ones from the earliest to the latest time; any two do where there is none
abbrev pub Agree : (earliest latest : Option ℤ) → List Row → List Row → Type 0
Agree (Some low) (Some high) xs ys = filter (is_between low high) xs ≡ filter (is_between low high) ys
Agree _ _ xs ys = Unit {0}

-- over two lists of samples that agree from the earliest to the latest time that a query may read at a time, its value there is
-- the same, errors included
abbrev pub ReadsNoOthers : Type 0
ReadsNoOthers =
    (query : Tree) (t : ℤ) (xs ys : List Row) → Agree (lowest query t) (reach query t) xs ys → eval xs query t ≡ eval ys query t
