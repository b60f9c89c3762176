-- The results of two vectors' matching elements, pair by pair. Prometheus, Operators: Vector matching.
use Rattle.std.specs.Prelude.{pos, not, ◌&&◌, cond, List, map, filter}
use Rattle.pf_base.specs.LabelSets.{Pairs}
use Rattle.pf_model.specs.declared.cell.Element.{Element}
use Rattle.pf_model.specs.declared.cell.StepCell.{StepCell}
use Rattle.pf_model.specs.declared.cell.StepCell.TheVariants.{Bad}
use Rattle.pf_model.specs.declared.cell.ErrorKind.TheVariants.{DoubleOnOneSide, ManyToMany, GroupingNotUnique}
use Rattle.pf_model.specs.declared.expr.BinaryOp.{BinaryOp}
use Rattle.pf_model.specs.declared.expr.Side.{Side}
use Rattle.pf_model.specs.Cells.{element, has_equal, cell_of}
use Rattle.pf_model.specs.Clauses.{Matched}
use Rattle.pf_model.specs.Lists.{joined}
use Rattle.pf_model.specs.Matching.{is_grouping, keys_of, many_to_many, matching_key, one_side, operated, pair_labels, result_labels}
use Rattle.pf_model.specs.Selection.{same_labels}
use Rattle.pf_join.specs.declared.matching.Joined.{Joined}

-- a left and a right element's labels and value
abbrev pub labels_of_pair : Matched → Pairs → Pairs → Pairs
labels_of_pair m left right = pair_labels m (record { left = record { labels = left; value = pos 0 }; right = record { labels = right; value = pos 0 } })

abbrev pub result_of : BinaryOp → Matched → Element → Element → Joined
result_of op m l r = record {
  labels = result_labels op (labels_of_pair m l.labels r.labels);
  value = operated op l.value l.value r.value;
}

-- what a left element gives with the right ones that match it
abbrev pub results_of : BinaryOp → Matched → List Element → Element → List Joined
results_of op m rights l =
    map (result_of op m l) (filter (λ r. same_labels (matching_key m l.labels) (matching_key m r.labels)) rights)

-- the results that have a value
abbrev pub elements_of : List Joined → List Element
elements_of js = joined (λ j. element j.labels j.value) js

abbrev pub cell_of_results : Side → List Joined → StepCell
cell_of_results side js = cond (is_grouping side && has_equal (map (λ j. j.labels) js)) (Bad GroupingNotUnique) (cell_of (elements_of js))

abbrev pub joined_results : BinaryOp → Matched → List Element → List Element → StepCell
joined_results op m lefts rights =
    cond (has_equal (keys_of m (one_side m.side lefts rights))) (Bad DoubleOnOneSide)
    (cond (not (is_grouping m.side) && many_to_many m lefts rights) (Bad ManyToMany)
    (cell_of_results m.side (joined (results_of op m rights) lefts)))
