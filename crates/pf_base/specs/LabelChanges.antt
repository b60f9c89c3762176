-- Label sets without some of their labels, and with another value of one. The metric name is the label `__name__`:
-- Prometheus, Data model: Metric names and labels. The rest is this project's own.
use Rattle.std.specs.Prelude.{ℕ, Bool, not, cond, List, filter, codes}
use Rattle.std.specs.List.{list_any}
use Rattle.std.specs.Str.{bytes_eq}
use Rattle.pf_base.specs.LabelSets.{Pairs, is_empty}
use Rattle.pf_base.specs.LabelOrder.{pair_cmp}
use Rattle.pf_base.specs.Sorting.{ins}

abbrev pub metric_name : List ℕ
metric_name = codes "__name__"

abbrev pub is_other : List ℕ → List ℕ × List ℕ → Bool
is_other name p = not (bytes_eq p.0 name)

-- the labels of the other names
abbrev pub others : List ℕ → Pairs → Pairs
others name ps = filter (is_other name) ps

abbrev pub stands_in : List (List ℕ) → List ℕ → Bool
stands_in names name = list_any (λ n. bytes_eq n name) names

abbrev pub is_among : List (List ℕ) → List ℕ × List ℕ → Bool
is_among names p = stands_in names p.0

-- the labels of these names
abbrev pub kept : List (List ℕ) → Pairs → Pairs
kept names ps = filter (is_among names) ps

-- the labels of all names but these
abbrev pub left_out : List (List ℕ) → Pairs → Pairs
left_out names ps = filter (λ p. not (is_among names p)) ps

-- the labels with this value of the name, or without the name where the value is empty
abbrev pub with_value : List ℕ → List ℕ → Pairs → Pairs
with_value name value ps = cond (is_empty value) (others name ps) (ins pair_cmp (name, value) (others name ps))
