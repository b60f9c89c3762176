-- The columns of an aggregation with a parameter have at each step its value.
use Rattle.std.proofs.Common.{◌≡◌, ◌<◌, ℕ, ℤ, true, Option, Some, None, List, [], ◌∷◌, refl, sym, ap, ◌∙◌, subst}
use Rattle.pf_base.specs.LabelSets.{Pairs}
use Rattle.pf_model.specs.declared.cell.ErrorKind.{ErrorKind}
use Rattle.pf_model.specs.declared.cell.StepCell.TheVariants.{Good}
use Rattle.pf_model.specs.declared.functions.AggOp.{AggOp}
use Rattle.pf_model.specs.declared.functions.AggOp.TheVariants.{Sum, Avg, Min, Max, Count, Group, Topk, Bottomk, Quantile}
use Rattle.pf_model.specs.Aggregation.{aggregated, groups, quantile, quantiles}
use Rattle.pf_model.specs.Cells.{element, values_of}
use Rattle.pf_model.specs.Lists.{joined}
use Rattle.pf_columns.specs.Columns.{AreRising, ColumnData, cell_at, columns_labels, value_in}
use Rattle.pf_columns.specs.Groups.{has_parameter, keys_by, members, quantile_of}
use Rattle.pf_columns.specs.Ranks.{columns_by}
use Rattle.pf_columns.specs.Steps.{bad_in, unless_bad}
use Rattle.pf_columns.specs.declared.ranked.Rank.TheVariants as rank
use Rattle.pf_columns.proofs.FirstOfGroups.{first_cell, first_rises}
use Rattle.pf_columns.proofs.GroupColumns.{group_cells, rises_groups}
use Rattle.pf_columns.proofs.GroupedCells.{grouped_is}

no_elements : (ls : List Pairs) → joined (λ l. element l None) ls ≡ []
no_elements [] = refl
no_elements (l ∷ ls) = no_elements ls

quantiles_by : (key : Pairs → Pairs) (cs : List ColumnData) (k : ℕ) (o : Option ℤ)
    → joined (λ l. element l (quantile_of o (values_of (cell_at (members key l cs) k)))) (keys_by key (columns_labels cs)) ≡ quantiles o (groups key (cell_at cs k))
quantiles_by key cs k None = no_elements (keys_by key (columns_labels cs))
quantiles_by key cs k (Some q) = sym (grouped_is (quantile q) key cs k)

module _ (key : Pairs → Pairs) (params : List (Option ℤ)) (cs : List ColumnData) (n : ℕ) (rises : AreRising (columns_labels cs)) where
  column_cell : (op : AggOp) → has_parameter op ≡ true → (k : ℕ) → k < n → cell_at (columns_by op key params cs n) k ≡ aggregated op (value_in params k) (groups key (cell_at cs k))
  column_cell Sum e k h = cc
  column_cell Avg e k h = cc
  column_cell Min e k h = cc
  column_cell Max e k h = cc
  column_cell Count e k h = cc
  column_cell Group e k h = cc
  column_cell Topk e k h = first_cell rank.Falling key params cs n rises k h
  column_cell Bottomk e k h = first_cell rank.Rising key params cs n rises k h
  column_cell Quantile e k h = group_cells (λ j. quantile_of (value_in params j)) key cs n k h (keys_by key (columns_labels cs)) ∙ quantiles_by key cs k (value_in params k)

  column_rises : (op : AggOp) → has_parameter op ≡ true → AreRising (columns_labels (columns_by op key params cs n))
  column_rises Sum e = cc
  column_rises Avg e = cc
  column_rises Min e = cc
  column_rises Max e = cc
  column_rises Count e = cc
  column_rises Group e = cc
  column_rises Topk e = first_rises rank.Falling key params cs n rises
  column_rises Bottomk e = first_rises rank.Rising key params cs n rises
  column_rises Quantile e = rises_groups (λ j. quantile_of (value_in params j)) key cs n

module _ (op : AggOp) (has : has_parameter op ≡ true) (key : Pairs → Pairs) (params : List (Option ℤ)) (all cs found : List ColumnData) (n : ℕ) (rises : AreRising (columns_labels all)) (same : cs ≡ all)
    (made : found ≡ columns_by op key params cs n) where
  made_of : found ≡ columns_by op key params all n
  made_of = made ∙ ap (λ ds. columns_by op key params ds n) same

  pub aggregation_is : (bads kept : List (Option ErrorKind)) → kept ≡ bads → (k : ℕ) → k < n
      → unless_bad (bad_in kept k) (Good (cell_at found k)) ≡ unless_bad (bad_in bads k) (Good (aggregated op (value_in params k) (groups key (cell_at all k))))
  aggregation_is bads kept e k h =
      (λ i. unless_bad (bad_in (e i) k) (Good (cell_at (made_of i) k)))
      ∙ ap (λ es. unless_bad (bad_in bads k) (Good es)) (column_cell key params all n rises op has k h)

  pub columns_rise : AreRising (columns_labels found)
  columns_rise = subst (λ ds. AreRising (columns_labels ds)) (sym made_of) (column_rises key params all n rises op has)
