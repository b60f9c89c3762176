-- The value of a query at a time, over the samples of a tenant. Prometheus, Querying basics. That a subquery is evaluated at
-- the multiples of its resolution, and a resolution of one minute where there is none, are this project's own.
use Rattle.std.specs.Prelude.{ℕ, zero, suc, ◌*ℤ◌, ℤ, pos, ◌+ℤ◌, ◌-ℤ◌, unsigned_abs, Option, Some, None, unwrap_or, List, [], ◌∷◌, map, filter}
use Rattle.std.specs.declared.cmp.Ordering.{Ordering}
use Rattle.std.specs.Ordering.{int_cmp}
use Rattle.pf_base.specs.Limits.{minute}
use Rattle.pf_base.specs.declared.plain.Row.{Row}
use Rattle.pf_base.specs.declared.plain.Sample.{Sample}
use Rattle.pf_base.specs.LabelSets.{Pairs}
use Rattle.pf_base.specs.Sorting.{isort}
use Rattle.pf_match.specs.Meaning.{expand}
use Rattle.pf_model.specs.declared.cell.Element.{Element}
use Rattle.pf_model.specs.declared.cell.StepCell.{StepCell}
use Rattle.pf_model.specs.declared.expr.At.{At}
use Rattle.pf_model.specs.declared.expr.At.TheVariants as at
use Rattle.pf_model.specs.declared.expr.Function.{Function}
use Rattle.pf_model.specs.declared.expr.Function.TheVariants as function
use Rattle.pf_model.specs.declared.expr.Matcher.{Matcher}
use Rattle.pf_model.specs.declared.expr.Mods.{Mods}
use Rattle.pf_model.specs.declared.functions.InstantFn.{InstantFn}
use Rattle.pf_model.specs.declared.functions.InstantFn.TheVariants.{Timestamp}
use Rattle.pf_model.specs.Cells.{cell_of, occurring, samples_of}
use Rattle.pf_model.specs.InstantFunctions.{Beside, absent_labels, each_value}
use Rattle.pf_model.specs.Lists.{joined, at}
use Rattle.pf_model.specs.Micros.{seconds, cut_down}
use Rattle.pf_model.specs.Outcomes.{Outcome, Series, scalar, elements, ranges, text, step_cell, of_cell, first_bad, scalars_of, texts_of, signed, operation, range_call, instant_call, aggregation}
use Rattle.pf_model.specs.Selection.{same_labels, accepts, is_read, is_within, last_row}
use Rattle.pf_model.specs.Trees as tree
use Rattle.pf_model.specs.Trees.{Tree, Trees}
pub use Rattle.pf_model.specs.Cells.{placed, put}

-- the label sets of rows, each once, in label order
abbrev pub label_sets : List Row → List Pairs
label_sets [] = []
label_sets (r ∷ rs) = put r.labels (label_sets rs)

-- a row as an element
abbrev pub element_of : Option Row → List Element
element_of None = []
element_of (Some r) = record { labels = r.labels; value = r.value } ∷ []

-- for each label set of the rows, its row of greatest time
abbrev pub vector : List Row → List Element
vector rows = joined (λ l. element_of (last_row (filter (λ r. same_labels r.labels l) rows))) (label_sets rows)

-- for each label set of the rows, its samples by time
abbrev pub sample_of : Row → Sample
sample_of r = record { time = pos r.time; value = r.value }

abbrev pub by_time : Sample → Sample → Ordering
by_time s r = int_cmp s.time r.time

abbrev pub series_of : List Row → List Series
series_of rows =
    map (λ l. record { labels = l; samples = isort by_time (map sample_of (filter (λ r. same_labels r.labels l) rows)) })
    (label_sets rows)

-- the time that is read at: that of `@`, or else the time of the evaluation, less the offset; `start()` and `end()` are put in
-- before
abbrev pub fixed_time : Option At → ℤ → ℤ
fixed_time (Some (at.Time millis)) t = pos millis
fixed_time _ t = t

abbrev pub read_time : Mods → ℤ → ℤ
read_time mods t = fixed_time mods.at t -ℤ mods.offset

-- an instant selector gives for each accepted series its last sample in the look-back
abbrev pub selected : List Row → List Matcher → ℤ → List Element
selected samples ms to = vector (filter (is_read to) (filter (λ r. accepts ms r.labels) samples))

-- a range selector gives for each accepted series its samples in the window (from, to]
abbrev pub windows : List Row → List Matcher → ℤ → ℤ → List Series
windows samples ms from to = series_of (filter (is_within from to) (filter (λ r. accepts ms r.labels) samples))

abbrev pub selection : List Row → List Matcher → Option ℕ → ℤ → Outcome
selection samples ms None to = elements (selected samples ms to)
selection samples ms (Some range) to = ranges (to -ℤ pos range) to (windows samples ms (to -ℤ pos range) to)

-- n multiples of a step behind the m-th, and those in (from, to]
abbrev pub multiples_behind : ℤ → ℤ → ℕ → List ℤ
multiples_behind step m zero = []
multiples_behind step m (suc n) = ((m +ℤ pos 1) *ℤ step) ∷ multiples_behind step (m +ℤ pos 1) n

abbrev pub multiples : ℕ → ℤ → ℤ → List ℤ
multiples step from to =
    multiples_behind (pos step) (cut_down from step) (unsigned_abs (cut_down to step -ℤ cut_down from step))

abbrev pub resolution_or_minute : Option ℕ → ℕ
resolution_or_minute resolution = unwrap_or resolution minute

-- a subquery's inner expression at one of its times
pub record Moment : Type 0 where
  pub time : ℤ
  pub outcome : Outcome

abbrev pub moments : (ℤ → Outcome) → List ℤ → List Moment
moments f us = map (λ u. record { time = u; outcome = f u }) us

abbrev pub moment_elements : Outcome → List Element
moment_elements (elements es) = es
moment_elements o = []

abbrev pub inner_elements : Moment → List Element
inner_elements m = moment_elements m.outcome

-- for each label set that occurs its samples
abbrev pub subquery_series : List Moment → List Series
subquery_series ms =
    map (λ l. record { labels = l; samples = samples_of (λ m. m.time) inner_elements l ms }) (occurring inner_elements ms)

-- the earliest error comes first
abbrev pub subquery_over : ℤ → ℤ → List Moment → Outcome
subquery_over from to ms = first_bad (map (λ m. m.outcome) ms) (ranges from to (subquery_series ms))

-- the rows with their times, in seconds, as values
abbrev pub timed : Row → Row
timed r = record { labels = r.labels; time = r.time; value = seconds (pos r.time) }

-- the labels that `absent` and `absent_over_time` give: those of a selector
abbrev pub absent_of : Trees → Pairs
absent_of (tree.more (tree.select ms range mods) args) = absent_labels ms
absent_of _ = []

-- where the first argument is an instant selector, `timestamp` gives the times of the samples read
abbrev pub timestamps : List Row → Trees → ℤ → Outcome → Outcome
timestamps samples (tree.more (tree.select ms None mods) args) t else_value =
    of_cell (cell_of (each_value Some (selected (map timed samples) ms (read_time mods t))))
timestamps samples _ t else_value = else_value

-- what the pattern of `label_replace` makes of a value and a replacement
abbrev pub expansion_by : Option (List ℕ) → List ℕ → List ℕ → Option (List ℕ)
expansion_by None value replacement = None
expansion_by (Some pattern) value replacement = expand pattern value replacement

module _ (samples : List Row) where
  -- what a call has beside its vector; the pattern of `label_replace` is its fourth text
  abbrev pub beside : Trees → List Outcome → ℤ → Beside
  beside args os t = record {
    time = t;
    scalars = scalars_of os;
    texts = texts_of os;
    expand = expansion_by (at (texts_of os) 3);
    absent = absent_of args;
  }

  abbrev pub instant_outcome : InstantFn → Trees → List Outcome → ℤ → Outcome
  instant_outcome Timestamp args os t = timestamps samples args t (instant_call Timestamp (beside args os t) os)
  instant_outcome f args os t = instant_call f (beside args os t) os

  abbrev pub called : Function → Trees → List Outcome → ℤ → Outcome
  called (function.Range f) args os t = range_call f (absent_of args) os
  called (function.Instant f) args os t = instant_outcome f args os t

  -- what each node is at a time, from what all its children are
  abbrev mutual
    pub outcome : Tree → ℤ → Outcome
    outcome (tree.number v) t = scalar (Some v)
    outcome (tree.text bytes) t = text bytes
    outcome (tree.unary minus arg) t = signed minus (outcome arg t)
    outcome (tree.binary op m left right) t = operation op m (outcome left t) (outcome right t)
    outcome (tree.call f args) t = called f args (outcomes args t) t
    outcome (tree.aggregate op g args) t = aggregation op g (outcomes args t)
    outcome (tree.select ms range mods) t = selection samples ms range (read_time mods t)
    outcome (tree.subquery arg range resolution mods) t =
        subquery_over (read_time mods t -ℤ pos range) (read_time mods t)
        (moments (λ u. outcome arg u)
        (multiples (resolution_or_minute resolution) (read_time mods t -ℤ pos range) (read_time mods t)))

    pub outcomes : Trees → ℤ → List Outcome
    outcomes tree.none t = []
    outcomes (tree.more arg args) t = outcome arg t ∷ outcomes args t

  -- the value of a query at a time
  abbrev pub eval : Tree → ℤ → StepCell
  eval query t = step_cell (outcome query t)
