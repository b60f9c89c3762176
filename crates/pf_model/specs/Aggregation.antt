-- Aggregation. Prometheus, Operators: Aggregation operators. The forms in whole micros, and the order among equal elements,
-- are this project's own.
use Rattle.std.specs.Prelude.{ℕ, ◌+◌, ◌-◌, ◌/◌, ◌%◌, ℤ, pos, negsuc, ◌+ℤ◌, ◌-ℤ◌, ◌*ℤ◌, int_lt, int_div, Bool, cond, Option, Some, None, List, [], ◌∷◌, map, filter, length, take, min, slice_index_or}
use Rattle.std.specs.declared.cmp.Ordering.{Ordering}
use Rattle.std.specs.Ordering.{int_cmp, ordering_then, ordering_reverse}
use Rattle.pf_base.specs.Arithmetic.{clamp}
use Rattle.pf_base.specs.LabelSets.{Pairs}
use Rattle.pf_base.specs.LabelChanges.{metric_name, kept, left_out}
use Rattle.pf_base.specs.Limits.{greatest_value, least_value}
use Rattle.pf_base.specs.Sorting.{isort}
use Rattle.pf_model.specs.declared.cell.Element.{Element}
use Rattle.pf_model.specs.declared.functions.AggOp.{AggOp}
use Rattle.pf_model.specs.declared.functions.AggOp.TheVariants.{Sum, Avg, Min, Max, Count, Group, Topk, Bottomk, Quantile}
use Rattle.pf_model.specs.Cells.{distinct, labels_of, values_of, element_cmp, in_label_order}
use Rattle.pf_model.specs.Lists.{joined}
use Rattle.pf_model.specs.Micros.{one, units, least, greatest, total, mean}
use Rattle.pf_model.specs.Selection.{same_labels}

-- the labels that `by` keeps, or that `without` leaves
abbrev pub group_key : Bool → List (List ℕ) → Pairs → Pairs
group_key without names labels = cond without (left_out (metric_name ∷ names) labels) (kept names labels)

-- a key and the elements that have it
pub record ElementGroup : Type 0 where
  pub key : Pairs
  pub elements : List Element

-- the groups of a vector, in key order
abbrev pub groups : (Pairs → Pairs) → List Element → List ElementGroup
groups key es =
    map (λ k. record { key = k; elements = filter (λ e. same_labels (key e.labels) k) es }) (distinct (map key (labels_of es)))

-- one element for each group, with the key as its labels
abbrev pub each_group : (List ℤ → ℤ) → List ElementGroup → List Element
each_group f gs = map (λ g. record { labels = g.key; value = f (values_of g.elements) }) gs

-- by rising or by falling value, then label order
abbrev pub rising : Element → Element → Ordering
rising e f = ordering_then (int_cmp e.value f.value) (element_cmp e f)

abbrev pub falling : Element → Element → Ordering
falling e f = ordering_then (ordering_reverse (int_cmp e.value f.value)) (element_cmp e f)

-- the whole units of a number, none below zero
abbrev pub whole_units : ℤ → ℕ
whole_units (pos n) = n / 1000000
whole_units (negsuc n) = 0

-- the first so many elements of each group, with all their labels
abbrev pub first_of_each : (Element → Element → Ordering) → Option ℤ → List ElementGroup → List Element
first_of_each order None gs = []
first_of_each order (Some k) gs = in_label_order (joined (λ g. take (whole_units k) (isort order g.elements)) gs)

-- between the value at a place and the next, w millionths of the way
abbrev pub between : List ℤ → ℕ → ℕ → ℤ
between vs i w =
    let low = slice_index_or vs i (pos 0) in
    let high = slice_index_or vs (min (i + 1) (length vs - 1)) (pos 0) in
    low +ℤ int_div ((high -ℤ low) *ℤ pos w) (pos 1000000)

-- the rank is in millionths of a place
abbrev pub at_rank : List ℤ → ℤ → ℤ
at_rank vs (pos rank) = between vs (rank / 1000000) (rank % 1000000)
at_rank vs (negsuc n) = pos 0

abbrev pub quantile : ℤ → List ℤ → ℤ
quantile q vs =
    cond (int_lt q (pos 0)) least_value
    (cond (int_lt one q) greatest_value
    (at_rank (isort int_cmp vs) (q *ℤ pos (length vs - 1))))

abbrev pub quantiles : Option ℤ → List ElementGroup → List Element
quantiles None gs = []
quantiles (Some q) gs = each_group (quantile q) gs

-- an aggregation of groups; the parameter is that of `topk`, `bottomk` and `quantile`, and gives no element without a value
abbrev pub aggregated : AggOp → Option ℤ → List ElementGroup → List Element
aggregated Sum param gs = each_group (λ vs. clamp (total vs)) gs
aggregated Avg param gs = each_group mean gs
aggregated Min param gs = each_group least gs
aggregated Max param gs = each_group greatest gs
aggregated Count param gs = each_group (λ vs. units (length vs)) gs
aggregated Group param gs = each_group (λ vs. one) gs
aggregated Topk param gs = first_of_each falling param gs
aggregated Bottomk param gs = first_of_each rising param gs
aggregated Quantile param gs = quantiles param gs

-- an aggregation of a vector, in label order
abbrev pub aggregate : AggOp → Bool → List (List ℕ) → Option ℤ → List Element → List Element
aggregate op without names param es = aggregated op param (groups (group_key without names) es)
