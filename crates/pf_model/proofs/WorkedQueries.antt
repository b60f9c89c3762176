-- Worked examples of whole queries: their values at a time, over a range, their reach and their legs.
use Rattle.std.proofs.Common.{◌≡◌, ℕ, ℤ, pos, negsuc, true, false, List, [], ◌∷◌, refl, Some, None, Option}
use Rattle.std.specs.Prelude.{codes}
use Rattle.regex_syntax.proofs.SetLemmas.{in_ranges-members}
use Rattle.regex.proofs.OnLiterals.{regex_on_literals}
use Rattle.regex.specs.Patterns.{holds, slot_of, find_str, has_bytes_at}
use Rattle.regex_hir.specs.Find.{first_from}
use Rattle.regex_hir.specs.Looks.{holds_between}
use Rattle.regex_hir.specs.Re.{attempt, rounds}
use Rattle.regex_hir.specs.Text.{byte_before, char_at, char_before, is_boundary}
use Rattle.pf_match.specs.Meaning.{reading}
use Rattle.pf_base.specs.Arithmetic.{clamp}
use Rattle.pf_base.specs.GridLists.{GridData}
use Rattle.pf_base.specs.LabelSets.{Pairs}
use Rattle.pf_base.specs.declared.plain.Row.{Row}
use Rattle.pf_base.specs.declared.plain.Sample.{Sample}
use Rattle.pf_model.specs.declared.cell.Element.{Element}
use Rattle.pf_model.specs.declared.cell.StepCell.TheVariants.{Good, Bad}
use Rattle.pf_model.specs.declared.cell.ErrorKind.TheVariants.{DoubleLabels, DoubleOnOneSide, ManyToMany}
use Rattle.pf_model.specs.declared.expr.At.TheVariants as at
use Rattle.pf_model.specs.declared.expr.Function.TheVariants.{Range, Instant}
use Rattle.pf_model.specs.declared.expr.Matcher.{Matcher}
use Rattle.pf_model.specs.declared.expr.MatchSign.TheVariants as match_sign
use Rattle.pf_model.specs.declared.expr.Mods.{Mods}
use Rattle.pf_model.specs.declared.expr.Side.TheVariants as side
use Rattle.pf_model.specs.declared.functions.AggOp.{AggOp}
use Rattle.pf_model.specs.declared.functions.AggOp.TheVariants as agg
use Rattle.pf_model.specs.declared.functions.InstantFn.{InstantFn}
use Rattle.pf_model.specs.declared.functions.InstantFn.TheVariants as instant
use Rattle.pf_model.specs.declared.functions.RangeFn.{RangeFn}
use Rattle.pf_model.specs.declared.functions.RangeFn.TheVariants as range
use Rattle.pf_model.specs.declared.functions.Sign.{Sign}
use Rattle.pf_model.specs.declared.functions.Sign.TheVariants as sign
use Rattle.pf_model.specs.Binding.{patterns_of}
use Rattle.pf_model.specs.Clauses.{Matched}
use Rattle.pf_model.specs.Direct.{Answer, MatrixRow, direct, gathered, failed}
use Rattle.pf_model.specs.Evaluation.{eval}
use Rattle.pf_model.specs.Legs.{LegsData, leg_part, grouped, bad}
use Rattle.pf_model.specs.Reach.{reach, lowest, is_frozen}
use Rattle.pf_model.specs.Resolving.{resolved_over}
use Rattle.pf_model.specs.Sharding.{is_shardable, sharded_nodes, legs_over}
use Rattle.pf_model.specs.Trees as tree
use Rattle.pf_model.specs.Trees.{Tree, Trees, no_mods}

-- ---- how the examples are written

abbrev named : List ℕ → Pairs
named n = (codes "__name__", n) ∷ []

abbrev with_job : List ℕ → List ℕ → Pairs
with_job n v = (codes "__name__", n) ∷ (codes "job", v) ∷ []

abbrev job : List ℕ → Pairs
job v = (codes "job", v) ∷ []

abbrev row : Pairs → ℕ → ℤ → Row
row labels t v = record { labels = labels; time = t; value = v }

abbrev el : Pairs → ℤ → Element
el labels v = record { labels = labels; value = v }

abbrev line : Pairs → List (ℕ × ℤ) → MatrixRow
line labels points = record { labels = labels; points = points_of points } where
  points_of : List (ℕ × ℤ) → List Sample
  points_of [] = []
  points_of (p ∷ ps) = record { time = pos p.0; value = p.1 } ∷ points_of ps

abbrev matcher : List ℕ → List ℕ → Matcher
matcher label text = record { label = label; sign = match_sign.Equal; text = text }

abbrev like : List ℕ → List ℕ → Matcher
like label text = record { label = label; sign = match_sign.Like; text = text }

abbrev of_name : List ℕ → List Matcher
of_name n = matcher (codes "__name__") n ∷ []

-- `n`, `n[range]` and a selector with modifiers
abbrev selector : List ℕ → Tree
selector n = tree.select (of_name n) None no_mods

abbrev over : List ℕ → ℕ → Tree
over n r = tree.select (of_name n) (Some r) no_mods

abbrev one_arg : Tree → Trees
one_arg arg = tree.more arg tree.none

abbrev two_args : Tree → Tree → Trees
two_args a b = tree.more a (one_arg b)

abbrev range_fn : RangeFn → Tree → Tree
range_fn f arg = tree.call (Range f) (one_arg arg)

abbrev fn : InstantFn → Tree → Tree
fn f arg = tree.call (Instant f) (one_arg arg)

abbrev all : AggOp → Tree → Tree
all op arg = tree.aggregate op (record { without = false; labels = [] }) (one_arg arg)

abbrev plainly : Matched
plainly = record { on = false; labels = []; side = side.One; include = [] }

abbrev on_nothing : Matched
on_nothing = record { on = true; labels = []; side = side.One; include = [] }

abbrev binary : Sign → Tree → Tree → Tree
binary s l r = tree.binary (record { sign = s; with_bool = false }) plainly l r

abbrev grid : ℕ → ℕ → ℕ → GridData
grid start step len = record { start = start; step = step; len = len }

abbrev over_grid : List Row → Tree → GridData → Answer
over_grid rows query g = direct rows (record { tree = resolved_over g query; grid = g })

-- ---- the look-back is open at its left end

abbrev up : List Row
up = row (with_job (codes "up") (codes "a")) 60000 (pos 1000000) ∷ []

look_back_is_open : over_grid up (selector (codes "up")) (grid 359999 1 2) ≡ gathered (line (with_job (codes "up") (codes "a")) ((359999, pos 1000000) ∷ []) ∷ [])
look_back_is_open = refl

-- ---- extrapolated increase

abbrev tens : List Row
tens = row (named (codes "x")) 60000 (pos 10000000) ∷ row (named (codes "x")) 120000 (pos 20000000) ∷ row (named (codes "x")) 180000 (pos 30000000) ∷ []

extrapolated_increase : over_grid tens (range_fn range.Increase (over (codes "x") 300000)) (grid 300000 60000 1) ≡ gathered (line [] ((300000, pos 35000000) ∷ []) ∷ [])
unfolding clamp
extrapolated_increase = refl

extrapolated_rate : over_grid tens (range_fn range.Rate (over (codes "x") 300000)) (grid 300000 60000 1) ≡ gathered (line [] ((300000, pos 116666) ∷ []) ∷ [])
unfolding clamp
extrapolated_rate = refl

-- ---- one sample has no rate, and a last value with its name; a scalar by zero has no value

abbrev four : List Row
four = row (named (codes "x")) 60000 (pos 4000000) ∷ []

rate_of_one : over_grid four (range_fn range.Rate (over (codes "x") 300000)) (grid 60000 60000 1) ≡ gathered []
unfolding clamp
rate_of_one = refl

last_of_one : over_grid four (range_fn range.LastOverTime (over (codes "x") 300000)) (grid 60000 60000 1) ≡ gathered (line (named (codes "x")) ((60000, pos 4000000) ∷ []) ∷ [])
last_of_one = refl

scalar_by_zero : over_grid four (binary sign.Div (fn instant.Scalar (selector (codes "x"))) (tree.number (pos 0))) (grid 60000 60000 1) ≡ gathered []
unfolding clamp
scalar_by_zero = refl

-- ---- sums are clamped after the merge: a and c are in shard 1 of 2, b is in shard 0

abbrev shard : List ℕ → Pairs
shard s = (codes "__name__", codes "m") ∷ (codes "s", s) ∷ []

abbrev ms : ℤ → ℤ → ℤ → List Row
ms a c b = row (shard (codes "a")) 60000 a ∷ row (shard (codes "c")) 60000 c ∷ row (shard (codes "b")) 60000 b ∷ []

abbrev great : List Row
great = ms (pos 1000000000000000000) (pos 1000000000000000000) (negsuc 999999999999999999)

sum_of_great : over_grid great (all agg.Sum (selector (codes "m"))) (grid 60000 60000 1) ≡ gathered (line [] ((60000, pos 1000000000000000000) ∷ []) ∷ [])
unfolding clamp
sum_of_great = refl

abbrev sum_legs : LegsData
sum_legs = record { query = all agg.Sum (selector (codes "m")); nodes = 0 ∷ []; shards = 2 }

first_leg : leg_part great sum_legs 0 (pos 60000) ≡ grouped (record { key = []; partial = record { sum = negsuc 999999999999999999; count = 1; least = negsuc 999999999999999999; greatest = negsuc 999999999999999999 } } ∷ [])
first_leg = refl

second_leg : leg_part great sum_legs 1 (pos 60000) ≡ grouped (record { key = []; partial = record { sum = pos 2000000000000000000; count = 2; least = pos 1000000000000000000; greatest = pos 1000000000000000000 } } ∷ [])
second_leg = refl

avg_of_three : over_grid (ms (pos 1000000) (pos 2000000) (pos 4000000)) (all agg.Avg (selector (codes "m"))) (grid 60000 60000 1) ≡ gathered (line [] ((60000, pos 2333333) ∷ []) ∷ [])
unfolding clamp
avg_of_three = refl

quantile_of_three : over_grid (ms (pos 1000000) (pos 2000000) (pos 4000000)) (tree.aggregate agg.Quantile (record { without = false; labels = [] }) (two_args (tree.number (pos 900000)) (selector (codes "m")))) (grid 60000 60000 1) ≡ gathered (line [] ((60000, pos 3600000) ∷ []) ∷ [])
quantile_of_three = refl

-- ---- two series that differ in the name alone

abbrev rates : Tree
rates = range_fn range.Rate (tree.select (like (codes "__name__") (codes "a|b") ∷ matcher (codes "job") (codes "x") ∷ []) (Some 300000) no_mods)

abbrev a_and_b : List Row
a_and_b =
    row (with_job (codes "a") (codes "x")) 60000 (pos 1000000) ∷ row (with_job (codes "b") (codes "x")) 60000 (pos 1000000)
    ∷ row (with_job (codes "a") (codes "x")) 120000 (pos 2000000) ∷ row (with_job (codes "b") (codes "x")) 120000 (pos 2000000) ∷ []

doubled : over_grid a_and_b (all agg.Sum rates) (grid 120000 60000 2) ≡ failed 120000 DoubleLabels
unfolding clamp
doubled = refl

-- labels without the metric name: both are in shard 0 of 1, and in the same of 2
doubled_in_its_shard : leg_part a_and_b (record { query = all agg.Sum rates; nodes = 0 ∷ []; shards = 1 }) 0 (pos 120000) ≡ bad DoubleLabels
unfolding clamp
doubled_in_its_shard = refl

-- ---- `@ end()`, and a negative offset with its reach

abbrev modified : List ℕ → Mods → Tree
modified n mods = tree.select (of_name n) None mods

abbrev at_end : Mods
at_end = record { at = Some at.End; offset = pos 0 }

value_at_the_end :
    over_grid (row (named (codes "x")) 60000 (pos 3000000) ∷ row (named (codes "x")) 120000 (pos 5000000) ∷ []) (modified (codes "x") at_end) (grid 0 60000 3)
    ≡ gathered (line (named (codes "x")) ((0, pos 5000000) ∷ (60000, pos 5000000) ∷ (120000, pos 5000000) ∷ []) ∷ [])
value_at_the_end = refl

abbrev an_hour_later : Tree
an_hour_later = modified (codes "x") (record { at = None; offset = negsuc 3599999 })

negative_offset : over_grid (row (named (codes "x")) 3600000 (pos 1000000) ∷ []) an_hour_later (grid 0 600000 1) ≡ gathered (line (named (codes "x")) ((0, pos 1000000) ∷ []) ∷ [])
negative_offset = refl

its_reach : reach an_hour_later (pos 0) ≡ Some (pos 3600000)
its_reach = refl

its_lowest : lowest an_hour_later (pos 0) ≡ Some (pos 3300001)
its_lowest = refl

is_not_frozen : is_frozen an_hour_later (pos 0) (Some 3000000) ≡ false
is_not_frozen = refl

-- ---- rates summed by a label

abbrev requests : List ℕ → Pairs
requests m = (codes "__name__", codes "http_requests_total") ∷ (codes "code", codes "200") ∷ (codes "method", m) ∷ []

abbrev pages : List Row
pages =
    row (requests (codes "post")) 60000 (pos 1027000000) ∷ row (requests (codes "get")) 60000 (pos 10000000)
    ∷ row (requests (codes "post")) 120000 (pos 1087000000) ∷ row (requests (codes "get")) 120000 (pos 70000000) ∷ []

abbrev rates_by_code : Tree
rates_by_code =
    tree.aggregate agg.Sum (record { without = false; labels = codes "code" ∷ [] })
    (one_arg (range_fn range.Rate (tree.select (matcher (codes "__name__") (codes "http_requests_total") ∷ like (codes "method") (codes "get|post") ∷ []) (Some 300000) no_mods)))

summed_rates : over_grid pages rates_by_code (grid 300000 60000 1) ≡ gathered (line ((codes "code", codes "200") ∷ []) ((300000, pos 833333) ∷ []) ∷ [])
unfolding clamp
summed_rates = refl

-- ---- operators between vectors

abbrev divided : List Row
divided = row (with_job (codes "a") (codes "x")) 60000 (pos 6000000) ∷ row (with_job (codes "b") (codes "x")) 60000 (pos 4000000) ∷ row (with_job (codes "b") (codes "y")) 60000 (pos 0) ∷ []

quotient_of_vectors : over_grid divided (binary sign.Div (selector (codes "a")) (selector (codes "b"))) (grid 60000 60000 1) ≡ gathered (line (job (codes "x")) ((60000, pos 1500000) ∷ []) ∷ [])
unfolding clamp
quotient_of_vectors = refl

one_side_doubled : over_grid divided (tree.binary (record { sign = sign.Div; with_bool = false }) on_nothing (selector (codes "a")) (selector (codes "b"))) (grid 60000 60000 1) ≡ failed 60000 DoubleOnOneSide
unfolding clamp
one_side_doubled = refl

no_quotient_by_zero : over_grid divided (binary sign.Div (selector (codes "b")) (selector (codes "b"))) (grid 60000 60000 1) ≡ gathered (line (job (codes "x")) ((60000, pos 1000000) ∷ []) ∷ [])
unfolding clamp
no_quotient_by_zero = refl

-- ---- `label_replace`, with the reader of `regex`

-- `label_replace(NAME, "n", REPLACEMENT, "job", PATTERN)`
abbrev replacing : List ℕ → List ℕ → List ℕ → Tree
replacing n replacement pattern =
    tree.call (Instant instant.LabelReplace)
    (tree.more (selector n) (tree.more (tree.text (codes "n")) (tree.more (tree.text replacement) (two_args (tree.text (codes "job")) (tree.text pattern)))))

-- `label_replace(label_replace(a, "n", "", "job", "x"), "n", "", "job", "(.*)") + label_replace(b, ..)`: the outer call's pattern comes first
patterns_in_preorder :
    patterns_of (binary sign.Add (tree.call (Instant instant.LabelReplace) (tree.more (replacing (codes "a") [] (codes "x")) (tree.more (tree.text (codes "n")) (tree.more (tree.text []) (two_args (tree.text (codes "job")) (tree.text (codes "(.*)"))))))) (replacing (codes "b") (codes "$1") []))
    ≡ codes "(.*)" ∷ codes "x" ∷ [] ∷ []
patterns_in_preorder = refl

-- `(.*)` matches each value, and `${1}` is all of it
any_value_replaced :
    eval divided (replacing (codes "a") (codes "${1}-y") (codes "(.*)")) (pos 60000)
    ≡ Good (el ((codes "__name__", codes "a") ∷ (codes "job", codes "x") ∷ (codes "n", codes "x-y") ∷ []) (pos 6000000) ∷ [])
unfolding regex_on_literals reading find_str first_from attempt rounds holds holds_between byte_before char_at char_before is_boundary has_bytes_at slot_of
any_value_replaced = rw (in_ranges-members _ 120) refl

-- a series whose value the pattern doesn't match stays as it is
matching_value_replaced :
    eval divided (replacing (codes "b") (codes "z") (codes "x|z")) (pos 60000)
    ≡ Good (el ((codes "__name__", codes "b") ∷ (codes "job", codes "x") ∷ (codes "n", codes "z") ∷ []) (pos 4000000) ∷ el (with_job (codes "b") (codes "y")) (pos 0) ∷ [])
unfolding regex_on_literals reading find_str first_from attempt rounds holds holds_between byte_before char_at char_before is_boundary has_bytes_at slot_of
matching_value_replaced = refl

-- a label that is taken out leaves two series with the same labels
doubled_by_replacing :
    eval divided (tree.call (Instant instant.LabelReplace) (tree.more (selector (codes "b")) (tree.more (tree.text (codes "job")) (tree.more (tree.text []) (two_args (tree.text (codes "job")) (tree.text (codes "x|y"))))))) (pos 60000)
    ≡ Bad DoubleLabels
unfolding regex_on_literals reading find_str first_from attempt rounds holds holds_between byte_before char_at char_before is_boundary has_bytes_at slot_of
doubled_by_replacing = refl

-- ---- the leftmost child's error comes first

abbrev left_error : Tree
left_error = tree.binary (record { sign = sign.Add; with_bool = false }) on_nothing (selector (codes "b")) (selector (codes "a"))

abbrev right_error : Tree
right_error = tree.unary true (tree.select (like (codes "__name__") (codes "a|b") ∷ []) None no_mods)

the_left_error : eval divided (binary sign.Add left_error right_error) (pos 60000) ≡ Bad ManyToMany
unfolding clamp
the_left_error = refl

the_right_error : eval divided (binary sign.Or right_error left_error) (pos 60000) ≡ Bad DoubleLabels
unfolding clamp
the_right_error = refl

-- also where the first argument of `topk` has no value
all_children_are_evaluated : eval divided (tree.aggregate agg.Topk (record { without = false; labels = [] }) (two_args (fn instant.Scalar (selector (codes "none"))) left_error)) (pos 60000) ≡ Bad ManyToMany
unfolding clamp
all_children_are_evaluated = refl

-- ---- subqueries: the multiples of 60 s in (0, 180 s], and the minute of no resolution

abbrev subquery : Tree → ℕ → Option ℕ → Tree
subquery arg r s = tree.subquery arg r s no_mods

sums_of_last : eval tens (range_fn range.SumOverTime (subquery (selector (codes "x")) 180000 (Some 60000))) (pos 200000) ≡ Good (el [] (pos 60000000) ∷ [])
unfolding clamp
sums_of_last = refl

counts_by_the_minute : over_grid tens (range_fn range.CountOverTime (subquery (selector (codes "x")) 180000 None)) (grid 180000 60000 1) ≡ gathered (line [] ((180000, pos 3000000) ∷ []) ∷ [])
unfolding clamp
counts_by_the_minute = refl

inner_error : over_grid divided (range_fn range.CountOverTime (subquery left_error 120000 (Some 60000))) (grid 0 60000 2) ≡ failed 60000 ManyToMany
unfolding clamp
inner_error = refl

-- no multiple: nothing is read, and nothing can change it
abbrev no_time : Tree
no_time = range_fn range.AbsentOverTime (subquery (selector (codes "x")) 1000 (Some 60000))

nothing_to_read : reach no_time (pos 59999) ≡ None
nothing_to_read = refl

nothing_is_frozen : is_frozen no_time (pos 59999) None ≡ true
nothing_is_frozen = refl

absent_there : eval tens no_time (pos 59999) ≡ Good (el [] (pos 1000000) ∷ [])
absent_there = refl

-- the times of a subquery may lie below zero: -60 s to 0 of (-90 s, 0 s]
times_below_zero : eval [] (range_fn range.SumOverTime (subquery (fn instant.Vector (tree.call (Instant instant.Time) tree.none)) 90000 (Some 60000))) (pos 0) ≡ Good (el [] (negsuc 59999999) ∷ [])
unfolding clamp
times_below_zero = refl

earliest_of_a_subquery : lowest (range_fn range.SumOverTime (subquery (selector (codes "x")) 180000 (Some 60000))) (pos 200000) ≡ Some (negsuc 239998)
earliest_of_a_subquery = refl

latest_of_a_subquery : reach (range_fn range.SumOverTime (subquery (selector (codes "x")) 180000 (Some 60000))) (pos 200000) ≡ Some (pos 180000)
latest_of_a_subquery = refl

-- ---- `timestamp` of a selector is the time of its sample, else that of the evaluation

time_of_the_sample : eval tens (fn instant.Timestamp (selector (codes "x"))) (pos 200000) ≡ Good (el [] (pos 180000000) ∷ [])
unfolding clamp
time_of_the_sample = refl

time_of_evaluation : eval tens (fn instant.Timestamp (tree.unary false (selector (codes "x")))) (pos 200000) ≡ Good (el [] (pos 200000000) ∷ [])
unfolding clamp
time_of_evaluation = refl

absent_with_labels : eval tens (fn instant.Absent (tree.select (matcher (codes "__name__") (codes "y") ∷ matcher (codes "job") (codes "a") ∷ []) None no_mods)) (pos 200000) ≡ Good (el (job (codes "a")) (pos 1000000) ∷ [])
absent_with_labels = refl

-- ---- which aggregations are sharded

-- `max(m) - min(m)`: nodes 1 and 3
abbrev spread : Tree
spread = binary sign.Sub (all agg.Max (selector (codes "m"))) (all agg.Min (selector (codes "m")))

spread_nodes : legs_over spread 4 ≡ 1 ∷ 3 ∷ []
spread_nodes = refl

one_shard_is_none : legs_over spread 1 ≡ []
one_shard_is_none = refl

rates_are_sharded : sharded_nodes rates_by_code ≡ 0 ∷ []
rates_are_sharded = refl

-- a selector outside an aggregation, `topk`, and a sum of a sum of a product with a vector
bare_selector : is_shardable (binary sign.Add (all agg.Max (selector (codes "m"))) (selector (codes "m"))) ≡ false
bare_selector = refl

topk_is_whole : is_shardable (tree.aggregate agg.Topk (record { without = false; labels = [] }) (two_args (tree.number (pos 3000000)) (selector (codes "m")))) ≡ false
topk_is_whole = refl

-- `sum(m * -2)` but not `sum(m * --2)`, and `topk(3, sum(m))`
literal_factor : is_shardable (all agg.Sum (binary sign.Mul (selector (codes "m")) (tree.unary true (tree.number (pos 2000000))))) ≡ true
literal_factor = refl

twice_signed : is_shardable (all agg.Sum (binary sign.Mul (selector (codes "m")) (tree.unary true (tree.unary true (tree.number (pos 2000000)))))) ≡ false
twice_signed = refl

sharded_inside : legs_over (tree.aggregate agg.Topk (record { without = false; labels = [] }) (two_args (tree.number (pos 3000000)) (all agg.Sum (selector (codes "m"))))) 2 ≡ 2 ∷ []
sharded_inside = refl

no_selector : is_shardable (fn instant.Vector (tree.number (pos 1000000))) ≡ false
no_selector = refl
