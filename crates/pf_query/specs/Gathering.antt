-- What is reserved for a planned query until its parts are handed out: this project's own.
use Rattle.std.specs.Arc.{arc_value}
use Rattle.std.specs.Prelude.{◌≡◌, ◌≤◌, Bool, true, false, Option, Some, None, List, [], length, vec_capacity}
use Rattle.pf_base.specs.GridLists.{GridData}
use Rattle.pf_shard.specs.Lawful.{ResolvedLegs}
use Rattle.pf_extent.specs.declared.done.DoneCells.{DoneCells}
use Rattle.pf_query.specs.declared.gathered.Gathered.{Gathered}
use Rattle.pf_query.specs.declared.slot.Slot.{Slot}

abbrev pub is_given : Option Gathered → Bool
is_given None = true
is_given (Some g) = false

-- the cells that are handed out
abbrev pub cached_in : Option Gathered → List DoneCells
cached_in None = []
cached_in (Some g) = g.cached.items

-- the legs and the runs, and room for a part of each slot
pub record AreReserved (legs : ResolvedLegs) (runs : List GridData) (slots : List Slot) (g : Gathered) : Type 0 where
  pub legs_are : arc_value g.legs ≡ legs
  pub runs_are : g.runs.items ≡ runs
  pub parts_are : g.parts.items ≡ []
  pub room : length slots ≤ vec_capacity g.parts

abbrev pub IsReserved : ResolvedLegs → List GridData → List Slot → Option Gathered → Type 0
IsReserved legs runs slots None = Unit {0}
IsReserved legs runs slots (Some g) = AreReserved legs runs slots g
