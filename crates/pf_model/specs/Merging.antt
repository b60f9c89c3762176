-- The parts of all shards of an aggregation, merged: this project's own, after Mimir's query sharding. Sums are clamped, and
-- divided for `avg`, after the merge.
use Rattle.std.specs.Prelude.{ℕ, zero, suc, ◌+◌, ℤ, pos, int_div, Option, Some, None, List, [], ◌∷◌, ◌++◌, map, filter}
use Rattle.pf_base.specs.declared.plain.Partial.{Partial}
use Rattle.pf_base.specs.Arithmetic.{clamp}
use Rattle.pf_model.specs.declared.cell.Element.{Element}
use Rattle.pf_model.specs.declared.cell.ErrorKind.{ErrorKind}
use Rattle.pf_model.specs.declared.cell.StepCell.{StepCell}
use Rattle.pf_model.specs.declared.cell.StepCell.TheVariants.{Good, Bad}
use Rattle.pf_model.specs.declared.functions.AggOp.{AggOp}
use Rattle.pf_model.specs.declared.functions.AggOp.TheVariants.{Sum, Avg, Min, Max, Count}
use Rattle.pf_model.specs.Cells.{distinct}
use Rattle.pf_model.specs.Legs.{GroupPart, PartData, grouped, bad}
use Rattle.pf_model.specs.Micros.{units, least, greatest, total}
use Rattle.pf_model.specs.Selection.{same_labels}

-- the values of f below a number, in order
abbrev pub below : {X : Type 0} → (ℕ → X) → ℕ → List X
below f zero = []
below f (suc n) = below f n ++ (f n ∷ [])

abbrev pub added : List ℕ → ℕ
added [] = 0
added (n ∷ ns) = n + added ns

-- what all shards know of a group
abbrev pub merged : List Partial → Partial
merged ps = record {
  sum = total (map (λ p. p.sum) ps);
  count = added (map (λ p. p.count) ps);
  least = least (map (λ p. p.least) ps);
  greatest = greatest (map (λ p. p.greatest) ps);
}

-- the groups of the parts, one part after another
abbrev pub all_groups : List PartData → List GroupPart
all_groups [] = []
all_groups (grouped gs ∷ ps) = gs ++ all_groups ps
all_groups (p ∷ ps) = all_groups ps

-- the groups of equal keys in one, in key order
abbrev pub merged_groups : List GroupPart → List GroupPart
merged_groups gs =
    map (λ k. record { key = k; partial = merged (map (λ g. g.partial) (filter (λ g. same_labels g.key k) gs)) })
    (distinct (map (λ g. g.key) gs))

-- the value of an aggregation from what is known of a whole group
abbrev pub finished : AggOp → Partial → ℤ
finished Sum p = clamp p.sum
finished Avg p = clamp (int_div p.sum (pos p.count))
finished Min p = p.least
finished Max p = p.greatest
finished Count p = units p.count
finished op p = pos 0

-- the first part that is an error, else an element for each group
abbrev pub first_error : List PartData → Option ErrorKind
first_error [] = None
first_error (bad kind ∷ ps) = Some kind
first_error (p ∷ ps) = first_error ps

abbrev pub cell_unless : Option ErrorKind → List Element → StepCell
cell_unless None es = Good es
cell_unless (Some kind) es = Bad kind

abbrev pub merged_cell : AggOp → List PartData → StepCell
merged_cell op parts =
    cell_unless (first_error parts)
    (map (λ g. record { labels = g.key; value = finished op g.partial }) (merged_groups (all_groups parts)))
