-- What all shards know of groups, one shard after another, and the aggregation that it makes.
use Rattle.std.proofs.Common.{◌≡◌, ◌+◌, ◌*◌, ◌-◌, ◌<◌, ◌≤◌, ℕ, zero, suc, Option, Some, None, List, [], ◌∷◌, ◌++◌, length, map, refl, sym, ap, ◌∙◌, subst, append-nil, append_assoc, arith}
use Rattle.pf_base.specs.declared.plain.Partial.{Partial}
use Rattle.pf_base.specs.LabelSets.{Pairs}
use Rattle.pf_model.specs.declared.cell.Element.{Element}
use Rattle.pf_model.specs.declared.cell.ErrorKind.{ErrorKind}
use Rattle.pf_model.specs.declared.cell.StepCell.TheVariants.{Good}
use Rattle.pf_model.specs.declared.functions.AggOp.{AggOp}
use Rattle.pf_model.specs.Cells.{element}
use Rattle.pf_model.specs.Legs.{GroupPart, PartData}
use Rattle.pf_model.specs.Merging.{all_groups, cell_unless, finished, first_error, merged_cell, merged_groups}
use Rattle.pf_columns.specs.Columns.{AreRising, cell_at, columns_labels, value_in}
use Rattle.pf_columns.specs.Steps.{bad_in, unless_bad}
use Rattle.pf_shard.specs.Groups.{AreWithin, GroupColumnData, GroupStepsData, group, groups_at, groups_in, groups_unless, keys_in, partial_in}
use Rattle.pf_shard.specs.JoinedGroups.{finished_column, finished_or_none, first_of, joined_columns}
use Rattle.pf_shard.proofs.JoinedColumns.{alone, columns_wider, joined_groups, joined_rise, joined_within}
use Rattle.pf_shard.proofs.MergedTwice.{merged_twice}

abbrev pub parts_at : List GroupStepsData → ℕ → List PartData
parts_at parts k = map (λ p. groups_at p k) parts

-- ---- the loop over the shards

-- what is known so far, and what the shards that are left know, are what all know
pub record AreLeft (len : ℕ) (all : List GroupStepsData) (columns : List GroupColumnData) (bads : List (Option ErrorKind)) (rest : List GroupStepsData) : Type 0 where
  pub rising : AreRising (keys_in columns)
  pub within : AreWithin ((length all - length rest) * 4294967295) columns
  pub fewer : length rest ≤ length all
  pub errors : (k : ℕ) → k < len → first_of (bad_in bads k) (first_error (parts_at rest k)) ≡ first_error (parts_at all k)
  pub none : (k : ℕ) → first_error (parts_at all k) ≡ None → first_error (parts_at rest k) ≡ None
  pub groups : (k : ℕ) → first_error (parts_at all k) ≡ None → merged_groups (groups_in columns k ++ all_groups (parts_at rest k)) ≡ merged_groups (all_groups (parts_at all k))

pub all_left : (len : ℕ) (all : List GroupStepsData) → AreLeft len all [] [] all
all_left len all = record { rising = tt; within = tt; fewer = omega arith; errors = λ k h. refl; none = λ k h. h; groups = λ k h. refl }

errors_by : (b : Option ErrorKind) (gs : List GroupPart) (rest : List PartData) (o : Option ErrorKind)
    → first_of (first_of o b) (first_error rest) ≡ first_of o (first_error (groups_unless b gs ∷ rest))
errors_by None gs rest None = refl
errors_by None gs rest (Some kind) = refl
errors_by (Some kind) gs rest None = refl
errors_by (Some kind) gs rest (Some other) = refl

none_by : (b : Option ErrorKind) (gs : List GroupPart) (rest : List PartData) → first_error (groups_unless b gs ∷ rest) ≡ None → first_error rest ≡ None
none_by None gs rest h = h
none_by (Some kind) gs rest h = cc

groups_by : (b : Option ErrorKind) (gs : List GroupPart) (rest : List PartData) → first_error (groups_unless b gs ∷ rest) ≡ None → all_groups (groups_unless b gs ∷ rest) ≡ gs ++ all_groups rest
groups_by None gs rest h = refl
groups_by (Some kind) gs rest h = cc

module _ (len : ℕ) (all : List GroupStepsData) (columns new : List GroupColumnData) (bads later : List (Option ErrorKind)) (part : GroupStepsData) (rest : List GroupStepsData) where
  pub one_less : AreRising (keys_in part.columns) → AreWithin 4294967295 part.columns → new ≡ joined_columns columns part.columns
      → ((k : ℕ) → k < len → bad_in later k ≡ first_of (bad_in bads k) (bad_in part.bads k))
      → AreLeft len all columns bads (part ∷ rest) → AreLeft len all new later rest
  one_less r w e b is =
      let done = length all - length (part ∷ rest) in
      let fewer : suc (length rest) ≤ length all = is.fewer in
      let many : done * 4294967295 + 4294967295 ≤ (length all - length rest) * 4294967295 = omega (arith, fewer) in
      record {
        rising = subst (λ cs. AreRising (keys_in cs)) (sym e) (joined_rise columns is.rising part.columns r);
        within = columns_wider (done * 4294967295 + 4294967295) ((length all - length rest) * 4294967295) new many
            (subst (AreWithin (done * 4294967295 + 4294967295)) (sym e) (joined_within (done * 4294967295) 4294967295 columns is.within part.columns w));
        fewer = omega (arith, fewer);
        errors = λ k h.
            ap (λ o. first_of o (first_error (parts_at rest k))) (b k h)
            ∙ errors_by (bad_in part.bads k) (groups_in part.columns k) (parts_at rest k) (bad_in bads k)
            ∙ is.errors k h;
        none = λ k h. none_by (bad_in part.bads k) (groups_in part.columns k) (parts_at rest k) (is.none k h);
        groups = λ k h.
            ap (λ cs. merged_groups (groups_in cs k ++ all_groups (parts_at rest k))) e
            ∙ ap (λ gs. merged_groups (gs ++ all_groups (parts_at rest k))) (joined_groups k columns is.rising part.columns r)
            ∙ merged_twice (groups_in columns k ++ groups_in part.columns k) (all_groups (parts_at rest k))
            ∙ ap merged_groups (append_assoc (groups_in columns k) (groups_in part.columns k) (all_groups (parts_at rest k)))
            ∙ ap (λ gs. merged_groups (groups_in columns k ++ gs)) (sym (groups_by (bad_in part.bads k) (groups_in part.columns k) (parts_at rest k) (is.none k h)))
            ∙ is.groups k h;
      }

first_alone : (o : Option ErrorKind) → first_of o None ≡ o
first_alone None = refl
first_alone (Some kind) = refl

module _ (len : ℕ) (all : List GroupStepsData) (columns : List GroupColumnData) (bads : List (Option ErrorKind)) (rest : List GroupStepsData) (e : rest ≡ []) (is : AreLeft len all columns bads rest) where
  pub errors_known : (k : ℕ) → k < len → bad_in bads k ≡ first_error (parts_at all k)
  errors_known k h =
      sym (first_alone (bad_in bads k)) ∙ ap (λ ps. first_of (bad_in bads k) (first_error (parts_at ps k))) (sym e) ∙ is.errors k h

  pub groups_known : (k : ℕ) → first_error (parts_at all k) ≡ None → groups_in columns k ≡ merged_groups (all_groups (parts_at all k))
  groups_known k h =
      alone k columns is.rising
      ∙ ap merged_groups (sym (append-nil (groups_in columns k)))
      ∙ ap (λ ps. merged_groups (groups_in columns k ++ all_groups (parts_at ps k))) (sym e)
      ∙ is.groups k h

  pub within_known : length all ≤ 256 → AreWithin 1099511627775 columns
  within_known h = columns_wider ((length all - length rest) * 4294967295) 1099511627775 columns (omega (arith, h)) is.within

pub nothing_left : (ps : List GroupStepsData) → length ps ≡ 0 → ps ≡ []
nothing_left [] h = refl
nothing_left (p ∷ ps) h = cc

-- there is room for a further one
pub room_left : (len : ℕ) (all : List GroupStepsData) (columns : List GroupColumnData) (bads : List (Option ErrorKind)) (rest : List GroupStepsData)
    → AreLeft len all columns bads rest → length all ≤ 256 → AreWithin 1099511627775 columns
room_left len all columns bads rest is h = columns_wider ((length all - length rest) * 4294967295) 1099511627775 columns (omega (arith, h)) is.within

-- ---- the aggregation

module _ (op : AggOp) where
  value_read : (ps : List (Option Partial)) (k : ℕ) → value_in (map (finished_or_none op) ps) k ≡ finished_or_none op (partial_in ps k)
  value_read [] k = refl
  value_read (p ∷ ps) zero = refl
  value_read (p ∷ ps) (suc k) = value_read ps k

  abbrev of_group : GroupPart → Element
  of_group g = record { labels = g.key; value = finished op g.partial }

  finished_by : (l : Pairs) (o : Option Partial) (gs : List GroupPart) → map of_group (group l o ++ gs) ≡ element l (finished_or_none op o) ++ map of_group gs
  finished_by l None gs = refl
  finished_by l (Some p) gs = refl

  pub cells_finished : (cs : List GroupColumnData) (k : ℕ) → cell_at (map (finished_column op) cs) k ≡ map of_group (groups_in cs k)
  cells_finished [] k = refl
  cells_finished (c ∷ cs) k =
      (λ i. element c.key (value_read c.partials k i) ++ cells_finished cs k i)
      ∙ sym (finished_by c.key (partial_in c.partials k) (groups_in cs k))

  labels_finished : (cs : List GroupColumnData) → columns_labels (map (finished_column op) cs) ≡ keys_in cs
  labels_finished [] = refl
  labels_finished (c ∷ cs) = ap (λ ls. c.key ∷ ls) (labels_finished cs)

  pub finished_rise : (cs : List GroupColumnData) → AreRising (keys_in cs) → AreRising (columns_labels (map (finished_column op) cs))
  finished_rise cs r = subst AreRising (sym (labels_finished cs)) r

  merged_by : (o : Option ErrorKind) (parts : List PartData) (gs : List GroupPart) → first_error parts ≡ o → (first_error parts ≡ None → gs ≡ merged_groups (all_groups parts))
      → unless_bad o (Good (map of_group gs)) ≡ cell_unless o (map of_group (merged_groups (all_groups parts)))
  merged_by None parts gs e h = ap (λ hs. Good (map of_group hs)) (h e)
  merged_by (Some kind) parts gs e h = refl

  pub merged_steps : (len : ℕ) (parts : List GroupStepsData) (cs : List GroupColumnData) (bads : List (Option ErrorKind))
      → ((k : ℕ) → k < len → bad_in bads k ≡ first_error (parts_at parts k))
      → ((k : ℕ) → first_error (parts_at parts k) ≡ None → groups_in cs k ≡ merged_groups (all_groups (parts_at parts k)))
      → (k : ℕ) → k < len → unless_bad (bad_in bads k) (Good (cell_at (map (finished_column op) cs) k)) ≡ merged_cell op (parts_at parts k)
  merged_steps len parts cs bads e g k h =
      (λ i. unless_bad (e k h i) (Good (cells_finished cs k i)))
      ∙ merged_by (first_error (parts_at parts k)) (parts_at parts k) (groups_in cs k) refl (g k)
