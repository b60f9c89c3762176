-- Some of the series of a snapshot: those whose labels pass a test, as those of a shard. This project's own.
use Rattle.std.specs.Prelude.{ℕ, Bool, List, [], filter, slice_index_or}
use Rattle.pf_base.specs.declared.plain.Row.{Row}
use Rattle.pf_base.specs.LabelSets.{Pairs}

-- those ids whose label sets pass
abbrev pub ids_passing : (Pairs → Bool) → List Pairs → List ℕ → List ℕ
ids_passing passes labels ids = filter (λ id. passes (slice_index_or labels id [])) ids

-- the rows of such label sets
abbrev pub rows_passing : (Pairs → Bool) → List Row → List Row
rows_passing passes samples = filter (λ r. passes r.labels) samples
