-- Columns of groups by rising keys, those of equal keys joined, and what becomes of them: this project's own.
use Rattle.std.specs.Prelude.{ℤ, Option, Some, None, List, [], ◌∷◌, map}
use Rattle.std.specs.declared.cmp.Ordering.{Ordering}
use Rattle.std.specs.declared.cmp.Ordering.TheVariants.{Less, Equal, Greater}
use Rattle.pf_base.specs.declared.plain.Partial.{Partial}
use Rattle.pf_base.specs.LabelOrder.{labels_cmp}
use Rattle.pf_model.specs.declared.cell.ErrorKind.{ErrorKind}
use Rattle.pf_model.specs.declared.functions.AggOp.{AggOp}
use Rattle.pf_model.specs.Merging.{finished}
use Rattle.pf_columns.specs.Columns.{ColumnData}
use Rattle.pf_shard.specs.Groups.{GroupColumnData, both}

-- the first of two errors
abbrev pub first_of : Option ErrorKind → Option ErrorKind → Option ErrorKind
first_of None b = b
first_of (Some kind) b = Some kind

-- step by step
abbrev pub both_each : List (Option Partial) → List (Option Partial) → List (Option Partial)
both_each [] qs = qs
both_each (p ∷ ps) [] = p ∷ ps
both_each (p ∷ ps) (q ∷ qs) = both p q ∷ both_each ps qs

-- two columns of one key
abbrev pub column_of_both : GroupColumnData → GroupColumnData → GroupColumnData
column_of_both a b = record { key = a.key; partials = both_each a.partials b.partials }

-- which of two lists has the lesser key in front
abbrev pub heads_cmp : List GroupColumnData → List GroupColumnData → Ordering
heads_cmp xs [] = Less
heads_cmp [] (b ∷ ys) = Greater
heads_cmp (a ∷ xs) (b ∷ ys) = labels_cmp a.key b.key

abbrev pub by_order : Ordering → GroupColumnData → GroupColumnData → List GroupColumnData → List GroupColumnData → List GroupColumnData → List GroupColumnData
by_order Less a b less equal greater = a ∷ less
by_order Equal a b less equal greater = column_of_both a b ∷ equal
by_order Greater a b less equal greater = b ∷ greater

-- a column and those behind it, where `rest` joins the latter with others
abbrev pub into_columns : GroupColumnData → List GroupColumnData → (List GroupColumnData → List GroupColumnData) → List GroupColumnData → List GroupColumnData
into_columns a xs rest [] = a ∷ xs
into_columns a xs rest (b ∷ ys) = by_order (labels_cmp a.key b.key) a b (rest (b ∷ ys)) (rest ys) (into_columns a xs rest ys)

-- two lists by rising keys, the columns of one key joined
abbrev pub joined_columns : List GroupColumnData → List GroupColumnData → List GroupColumnData
joined_columns [] ys = ys
joined_columns (a ∷ xs) ys = into_columns a xs (joined_columns xs) ys

-- the value of an aggregation from what is known of a group
abbrev pub finished_or_none : AggOp → Option Partial → Option ℤ
finished_or_none op None = None
finished_or_none op (Some p) = Some (finished op p)

abbrev pub finished_column : AggOp → GroupColumnData → ColumnData
finished_column op c = record { labels = c.key; values = map (finished_or_none op) c.partials }
