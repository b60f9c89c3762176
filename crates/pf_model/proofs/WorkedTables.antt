-- Worked examples of the tables of functions, aggregations and operators.
use Rattle.std.proofs.Common.{◌≡◌, ℕ, ℤ, pos, negsuc, true, false, List, [], ◌∷◌, refl, Some, None, Option}
use Rattle.std.specs.Prelude.{codes}
use Rattle.pf_base.specs.Arithmetic.{clamp}
use Rattle.pf_base.specs.LabelSets.{Pairs}
use Rattle.pf_base.specs.declared.plain.Sample.{Sample}
use Rattle.pf_model.specs.declared.cell.Element.{Element}
use Rattle.pf_model.specs.declared.cell.StepCell.TheVariants.{Good, Bad}
use Rattle.pf_model.specs.declared.cell.ErrorKind.TheVariants.{DoubleLabels, DoubleOnOneSide, ManyToMany, GroupingNotUnique}
use Rattle.pf_model.specs.declared.expr.BinaryOp.{BinaryOp}
use Rattle.pf_model.specs.declared.expr.Matcher.{Matcher}
use Rattle.pf_model.specs.declared.expr.MatchSign.TheVariants as match_sign
use Rattle.pf_model.specs.declared.expr.Side.{Side}
use Rattle.pf_model.specs.declared.expr.Side.TheVariants as side
use Rattle.pf_model.specs.declared.functions.AggOp.TheVariants as agg
use Rattle.pf_model.specs.declared.functions.InstantFn.TheVariants as instant
use Rattle.pf_model.specs.declared.functions.RangeFn.TheVariants as range
use Rattle.pf_model.specs.declared.functions.Sign.{Sign}
use Rattle.pf_model.specs.declared.functions.Sign.TheVariants as sign
use Rattle.pf_model.specs.Aggregation.{aggregate}
use Rattle.pf_model.specs.Clauses.{Matched}
use Rattle.pf_model.specs.InstantFunctions.{Beside, instant_function, absent_labels}
use Rattle.pf_model.specs.Matching.{join, of_scalars, scalar_left, scalar_right}
use Rattle.pf_model.specs.RangeFunctions.{range_function}

-- ---- range functions, over 10, 20, 5 and 15 at 60 s to 240 s, in the window (0, 300 s]

abbrev sample : ℕ → ℤ → Sample
sample t v = record { time = pos t; value = v }

abbrev counter : List Sample
counter = sample 60000 (pos 10000000) ∷ sample 120000 (pos 20000000) ∷ sample 180000 (pos 5000000) ∷ sample 240000 (pos 15000000) ∷ []

increase_over_a_reset : range_function range.Increase counter (pos 0) (pos 300000) ≡ Some (pos 41666666)
unfolding clamp
increase_over_a_reset = refl

rate_over_a_reset : range_function range.Rate counter (pos 0) (pos 300000) ≡ Some (pos 138888)
unfolding clamp
rate_over_a_reset = refl

delta_over_a_reset : range_function range.Delta counter (pos 0) (pos 300000) ≡ Some (pos 8333333)
unfolding clamp
delta_over_a_reset = refl

irate_of_the_last_two : range_function range.Irate counter (pos 0) (pos 300000) ≡ Some (pos 166666)
unfolding clamp
irate_of_the_last_two = refl

irate_over_a_reset : range_function range.Irate (sample 120000 (pos 20000000) ∷ sample 180000 (pos 5000000) ∷ []) (pos 0) (pos 300000) ≡ Some (pos 83333)
unfolding clamp
irate_over_a_reset = refl

idelta_over_a_reset : range_function range.Idelta (sample 120000 (pos 20000000) ∷ sample 180000 (pos 5000000) ∷ []) (pos 0) (pos 300000) ≡ Some (negsuc 14999999)
unfolding clamp
idelta_over_a_reset = refl

changes_are_counted : range_function range.Changes counter (pos 0) (pos 300000) ≡ Some (pos 3000000)
unfolding clamp
changes_are_counted = refl

resets_are_counted : range_function range.Resets counter (pos 0) (pos 300000) ≡ Some (pos 1000000)
unfolding clamp
resets_are_counted = refl

average_over_time : range_function range.AvgOverTime counter (pos 0) (pos 300000) ≡ Some (pos 12500000)
unfolding clamp
average_over_time = refl

-- cut toward zero
average_below_zero : range_function range.AvgOverTime (sample 1 (negsuc 0) ∷ sample 2 (negsuc 1) ∷ []) (pos 0) (pos 300000) ≡ Some (negsuc 0)
unfolding clamp
average_below_zero = refl

sum_over_time : range_function range.SumOverTime counter (pos 0) (pos 300000) ≡ Some (pos 50000000)
unfolding clamp
sum_over_time = refl

-- the sum is clamped once, when it is whole
sum_clamped_once : range_function range.SumOverTime (sample 1 (pos 1000000000000000000) ∷ sample 2 (pos 1000000000000000000) ∷ sample 3 (negsuc 999999999999999999) ∷ []) (pos 0) (pos 9) ≡ Some (pos 1000000000000000000)
unfolding clamp
sum_clamped_once = refl

min_over_time : range_function range.MinOverTime counter (pos 0) (pos 300000) ≡ Some (pos 5000000)
min_over_time = refl

max_over_time : range_function range.MaxOverTime counter (pos 0) (pos 300000) ≡ Some (pos 20000000)
max_over_time = refl

count_over_time : range_function range.CountOverTime counter (pos 0) (pos 300000) ≡ Some (pos 4000000)
unfolding clamp
count_over_time = refl

last_over_time : range_function range.LastOverTime counter (pos 0) (pos 300000) ≡ Some (pos 15000000)
last_over_time = refl

present_over_time : range_function range.PresentOverTime counter (pos 0) (pos 300000) ≡ Some (pos 1000000)
present_over_time = refl

absent_over_time : range_function range.AbsentOverTime [] (pos 0) (pos 300000) ≡ Some (pos 1000000)
absent_over_time = refl

nothing_absent : range_function range.AbsentOverTime counter (pos 0) (pos 300000) ≡ None
nothing_absent = refl

one_is_too_few : range_function range.Rate (sample 60000 (pos 4000000) ∷ []) (pos 0) (pos 60000) ≡ None
unfolding clamp
one_is_too_few = refl

-- 1 and 31: a counter reaches back 2 s, to where it would be zero
back_to_zero : range_function range.Increase (sample 60000 (pos 1000000) ∷ sample 120000 (pos 31000000) ∷ []) (pos 0) (pos 120000) ≡ Some (pos 31000000)
unfolding clamp
back_to_zero = refl

-- a gap of 1.1 times the average is halved
halved_gap : range_function range.Delta (sample 66000 (pos 1000000) ∷ sample 126000 (pos 11000000) ∷ []) (pos 0) (pos 126000) ≡ Some (pos 15000000)
unfolding clamp
halved_gap = refl

-- ---- instant functions

abbrev el : Pairs → ℤ → Element
el labels v = record { labels = labels; value = v }

abbrev job : List ℕ → Pairs
job v = (codes "job", v) ∷ []

abbrev named : List ℕ → List ℕ → Pairs
named n v = (codes "__name__", n) ∷ (codes "job", v) ∷ []

-- at 90 s, with a pattern that matches each value and makes it its replacement
abbrev beside : List (Option ℤ) → List (List ℕ) → Beside
beside scalars texts = record { time = pos 90000; scalars = scalars; texts = texts; expand = λ value replacement. Some replacement; absent = job (codes "a") }

abbrev two : List Element
two = el (named (codes "x") (codes "a")) (negsuc 2499999) ∷ el (named (codes "x") (codes "b")) (pos 7500000) ∷ []

abbrev unnamed : ℤ → ℤ → List Element
unnamed a b = el (job (codes "a")) a ∷ el (job (codes "b")) b ∷ []

abs_of : instant_function instant.Abs (beside [] []) two ≡ unnamed (pos 2500000) (pos 7500000)
abs_of = refl

ceil_of : instant_function instant.Ceil (beside [] []) two ≡ unnamed (negsuc 1999999) (pos 8000000)
unfolding clamp
ceil_of = refl

floor_of : instant_function instant.Floor (beside [] []) two ≡ unnamed (negsuc 2999999) (pos 7000000)
unfolding clamp
floor_of = refl

sgn_of : instant_function instant.Sgn (beside [] []) two ≡ unnamed (negsuc 999999) (pos 1000000)
sgn_of = refl

-- ties go upward
round_ties : instant_function instant.Round (beside [] []) two ≡ unnamed (negsuc 1999999) (pos 8000000)
unfolding clamp
round_ties = refl

-- the size of -5: -2.5 and 7.5 are ties
round_to_size : instant_function instant.Round (beside (Some (negsuc 4999999) ∷ []) []) two ≡ unnamed (pos 0) (pos 10000000)
unfolding clamp
round_to_size = refl

round_to_nothing : instant_function instant.Round (beside (Some (pos 0) ∷ []) []) two ≡ []
unfolding clamp
round_to_nothing = refl

round_without_a_value : instant_function instant.Round (beside (None ∷ []) []) two ≡ []
round_without_a_value = refl

clamp_of : instant_function instant.Clamp (beside (Some (pos 0) ∷ Some (pos 3000000) ∷ []) []) two ≡ unnamed (pos 0) (pos 3000000)
clamp_of = refl

clamp_crossed : instant_function instant.Clamp (beside (Some (pos 3) ∷ Some (pos 2) ∷ []) []) two ≡ []
clamp_crossed = refl

clamp_min_of : instant_function instant.ClampMin (beside (Some (pos 0) ∷ []) []) two ≡ unnamed (pos 0) (pos 7500000)
clamp_min_of = refl

clamp_max_of : instant_function instant.ClampMax (beside (Some (pos 0) ∷ []) []) two ≡ unnamed (negsuc 2499999) (pos 0)
clamp_max_of = refl

absent_of_none : instant_function instant.Absent (beside [] []) [] ≡ el (job (codes "a")) (pos 1000000) ∷ []
absent_of_none = refl

absent_of_some : instant_function instant.Absent (beside [] []) two ≡ []
absent_of_some = refl

scalar_of_two : instant_function instant.Scalar (beside [] []) two ≡ []
scalar_of_two = refl

scalar_of_one : instant_function instant.Scalar (beside [] []) (el (job (codes "a")) (pos 5) ∷ []) ≡ el [] (pos 5) ∷ []
scalar_of_one = refl

vector_of_scalar : instant_function instant.Vector (beside (Some (pos 5) ∷ []) []) [] ≡ el [] (pos 5) ∷ []
vector_of_scalar = refl

time_in_seconds : instant_function instant.Time (beside [] []) [] ≡ el [] (pos 90000000) ∷ []
unfolding clamp
time_in_seconds = refl

timestamp_of : instant_function instant.Timestamp (beside [] []) two ≡ unnamed (pos 90000000) (pos 90000000)
unfolding clamp
timestamp_of = refl

-- an empty replacement takes the label out
replaced_by_nothing : instant_function instant.LabelReplace (beside [] (codes "job" ∷ [] ∷ codes "job" ∷ codes ".*" ∷ [])) (el (named (codes "x") (codes "a")) (pos 1) ∷ []) ≡ el ((codes "__name__", codes "x") ∷ []) (pos 1) ∷ []
replaced_by_nothing = refl

joined_labels : instant_function instant.LabelJoin (beside [] (codes "both" ∷ codes "-" ∷ codes "job" ∷ codes "__name__" ∷ codes "none" ∷ [])) (el (named (codes "x") (codes "a")) (pos 1) ∷ []) ≡ el ((codes "__name__", codes "x") ∷ (codes "both", codes "a-x-") ∷ (codes "job", codes "a") ∷ []) (pos 1) ∷ []
joined_labels = refl

-- the metric name, a repeated label, another sign and an empty value give `absent` no label
abbrev matcher : List ℕ → List ℕ → Matcher
matcher label text = record { label = label; sign = match_sign.Equal; text = text }

labels_of_absent :
    absent_labels (matcher (codes "__name__") (codes "x") ∷ matcher (codes "job") (codes "a") ∷ matcher (codes "b") (codes "1")
    ∷ record { label = codes "b"; sign = match_sign.NotEqual; text = codes "2" } ∷ matcher (codes "c") []
    ∷ record { label = codes "d"; sign = match_sign.Like; text = codes "e" } ∷ []) ≡ job (codes "a")
labels_of_absent = refl

-- ---- aggregation

abbrev in_zone : List ℕ → List ℕ → Pairs
in_zone s z = (codes "__name__", codes "m") ∷ (codes "s", s) ∷ (codes "zone", z) ∷ []

-- 1, 4 and 2 in zones x, y and x
abbrev three : List Element
three = el (in_zone (codes "a") (codes "x")) (pos 1000000) ∷ el (in_zone (codes "b") (codes "y")) (pos 4000000) ∷ el (in_zone (codes "c") (codes "x")) (pos 2000000) ∷ []

abbrev zone : List ℕ → Pairs
zone z = (codes "zone", z) ∷ []

abbrev by_zone : ℤ → ℤ → List Element
by_zone x y = el (zone (codes "x")) x ∷ el (zone (codes "y")) y ∷ []

sum_by : aggregate agg.Sum false (codes "zone" ∷ []) None three ≡ by_zone (pos 3000000) (pos 4000000)
unfolding clamp
sum_by = refl

-- `without` leaves out the metric name too
sum_without : aggregate agg.Sum true (codes "s" ∷ []) None three ≡ by_zone (pos 3000000) (pos 4000000)
unfolding clamp
sum_without = refl

avg_by : aggregate agg.Avg false (codes "zone" ∷ []) None three ≡ by_zone (pos 1500000) (pos 4000000)
unfolding clamp
avg_by = refl

avg_of_all : aggregate agg.Avg false [] None three ≡ el [] (pos 2333333) ∷ []
unfolding clamp
avg_of_all = refl

min_by : aggregate agg.Min false (codes "zone" ∷ []) None three ≡ by_zone (pos 1000000) (pos 4000000)
min_by = refl

max_without : aggregate agg.Max true (codes "s" ∷ []) None three ≡ by_zone (pos 2000000) (pos 4000000)
max_without = refl

count_by : aggregate agg.Count false (codes "zone" ∷ []) None three ≡ by_zone (pos 2000000) (pos 1000000)
unfolding clamp
count_by = refl

group_without : aggregate agg.Group true (codes "s" ∷ []) None three ≡ by_zone (pos 1000000) (pos 1000000)
group_without = refl

-- 1.9 is cut to 1
topk_by : aggregate agg.Topk false (codes "zone" ∷ []) (Some (pos 1900000)) three ≡ el (in_zone (codes "b") (codes "y")) (pos 4000000) ∷ el (in_zone (codes "c") (codes "x")) (pos 2000000) ∷ []
topk_by = refl

-- among equal values the first in label order
bottomk_of_equals : aggregate agg.Bottomk false [] (Some (pos 1000000)) (el (job (codes "b")) (pos 1) ∷ el (job (codes "a")) (pos 1) ∷ []) ≡ el (job (codes "a")) (pos 1) ∷ []
bottomk_of_equals = refl

topk_of_equals : aggregate agg.Topk false [] (Some (pos 1000000)) (el (job (codes "a")) (pos 1) ∷ el (job (codes "b")) (pos 1) ∷ []) ≡ el (job (codes "a")) (pos 1) ∷ []
topk_of_equals = refl

topk_below_one : aggregate agg.Topk false [] (Some (negsuc 5)) three ≡ []
topk_below_one = refl

topk_without_a_value : aggregate agg.Topk false [] None three ≡ []
topk_without_a_value = refl

-- 0.9 of the way over three values: rank 1.8, between 2 and 4
quantile_between_ranks : aggregate agg.Quantile false [] (Some (pos 900000)) three ≡ el [] (pos 3600000) ∷ []
quantile_between_ranks = refl

quantile_below : aggregate agg.Quantile false [] (Some (negsuc 0)) three ≡ el [] (negsuc 999999999999999999) ∷ []
quantile_below = refl

quantile_above : aggregate agg.Quantile false [] (Some (pos 1000001)) three ≡ el [] (pos 1000000000000000000) ∷ []
quantile_above = refl

quantile_of_one : aggregate agg.Quantile true (codes "s" ∷ []) (Some (pos 1000000)) three ≡ by_zone (pos 2000000) (pos 4000000)
quantile_of_one = refl

sum_of_nothing : aggregate agg.Sum false [] None [] ≡ []
unfolding clamp
sum_of_nothing = refl

-- ---- operators and matching

abbrev op : Sign → BinaryOp
op s = record { sign = s; with_bool = false }

abbrev bool_op : Sign → BinaryOp
bool_op s = record { sign = s; with_bool = true }

abbrev ignoring : List (List ℕ) → Matched
ignoring names = record { on = false; labels = names; side = side.One; include = [] }

abbrev on_labels : List (List ℕ) → Side → List (List ℕ) → Matched
on_labels names s taken = record { on = true; labels = names; side = s; include = taken }

-- a{job="x"} 6; b{job="x"} 4 and b{job="y"} 0
abbrev as' : List Element
as' = el (named (codes "a") (codes "x")) (pos 6000000) ∷ []

abbrev bs : List Element
bs = el (named (codes "b") (codes "x")) (pos 4000000) ∷ el (named (codes "b") (codes "y")) (pos 0) ∷ []

quotient_of_matches : join (op sign.Div) (ignoring []) as' bs ≡ Good (el (job (codes "x")) (pos 1500000) ∷ [])
unfolding clamp
quotient_of_matches = refl

-- a zero divisor gives no element
no_zero_divisor : join (op sign.Div) (ignoring []) bs bs ≡ Good (el (job (codes "x")) (pos 1000000) ∷ [])
unfolding clamp
no_zero_divisor = refl

two_on_one_side : join (op sign.Div) (on_labels [] side.One []) as' bs ≡ Bad DoubleOnOneSide
unfolding clamp
two_on_one_side = refl

-- also where the other side is empty
two_on_one_side_alone : join (op sign.Add) (on_labels [] side.Left []) [] bs ≡ Bad DoubleOnOneSide
two_on_one_side_alone = refl

many_match_one : join (op sign.Add) (on_labels [] side.One []) bs as' ≡ Bad ManyToMany
unfolding clamp
many_match_one = refl

-- only keys that the right side has count
many_match_none : join (op sign.Add) (on_labels [] side.One []) bs [] ≡ Good []
many_match_none = refl

-- the one side of group_right is the left one; its label is taken, and where it is absent the label goes
abbrev team : List ℕ → Pairs
team t = (codes "__name__", codes "info") ∷ (codes "job", codes "x") ∷ (codes "team", t) ∷ []

label_taken :
    join (op sign.Mul) (on_labels (codes "job" ∷ []) side.Left (codes "team" ∷ [])) as' (el (team (codes "red")) (pos 2000000) ∷ [])
    ≡ Good (el ((codes "job", codes "x") ∷ (codes "team", codes "red") ∷ []) (pos 12000000) ∷ [])
unfolding clamp
label_taken = refl

label_taken_out :
    join (op sign.Mul) (on_labels (codes "job" ∷ []) side.Right (codes "team" ∷ [])) as' (el (team (codes "red")) (pos 2000000) ∷ [])
    ≡ Good (el (job (codes "x")) (pos 12000000) ∷ [])
unfolding clamp
label_taken_out = refl

-- a filtering comparison has the left operand's value, also under group_right
value_of_the_left :
    join (op sign.Greater) (on_labels (codes "job" ∷ []) side.Right []) as' (el (team (codes "red")) (pos 2000000) ∷ [])
    ≡ Good (el (team (codes "red")) (pos 6000000) ∷ [])
value_of_the_left = refl

-- the labels that the result has are compared, after the metric name was dropped, also where a pair has no value
abbrev cs : List Element
cs = el (named (codes "c") (codes "x")) (pos 1) ∷ el (named (codes "d") (codes "x")) (pos 2) ∷ []

grouping_not_unique : join (op sign.Div) (on_labels (codes "job" ∷ []) side.Left []) cs (el (named (codes "z") (codes "x")) (pos 0) ∷ []) ≡ Bad GroupingNotUnique
unfolding clamp
grouping_not_unique = refl

grouping_unique : join (op sign.Less) (on_labels (codes "job" ∷ []) side.Left []) cs (el (named (codes "z") (codes "x")) (pos 2) ∷ []) ≡ Good (el (named (codes "c") (codes "x")) (pos 1) ∷ [])
grouping_unique = refl

-- matched on the metric name, which arithmetic then drops
double_labels : join (op sign.Add) (on_labels (codes "__name__" ∷ []) side.One []) cs cs ≡ Bad DoubleLabels
unfolding clamp
double_labels = refl

on_keeps_the_listed : join (op sign.Equal) (on_labels (codes "job" ∷ []) side.One []) as' as' ≡ Good (el (job (codes "x")) (pos 6000000) ∷ [])
on_keeps_the_listed = refl

ignoring_keeps_the_name : join (op sign.Equal) (ignoring (codes "job" ∷ [])) as' as' ≡ Good (el ((codes "__name__", codes "a") ∷ []) (pos 6000000) ∷ [])
ignoring_keeps_the_name = refl

bool_drops_the_name : join (bool_op sign.GreaterOrEqual) (ignoring []) as' bs ≡ Good (el (job (codes "x")) (pos 1000000) ∷ [])
bool_drops_the_name = refl

both : join (op sign.And) (ignoring []) bs as' ≡ Good (el (named (codes "b") (codes "x")) (pos 4000000) ∷ [])
both = refl

either : join (op sign.Or) (ignoring []) as' bs ≡ Good (el (named (codes "a") (codes "x")) (pos 6000000) ∷ el (named (codes "b") (codes "y")) (pos 0) ∷ [])
either = refl

the_others : join (op sign.Unless) (ignoring []) bs as' ≡ Good (el (named (codes "b") (codes "y")) (pos 0) ∷ [])
the_others = refl

-- beside a scalar a comparison keeps the vector's value and all labels
scalar_compared : scalar_left (op sign.Less) (Some (pos 1000000)) bs ≡ el (named (codes "b") (codes "x")) (pos 4000000) ∷ []
scalar_compared = refl

scalar_subtracted : scalar_right (op sign.Sub) as' (Some (pos 1000000)) ≡ el (job (codes "x")) (pos 5000000) ∷ []
unfolding clamp
scalar_subtracted = refl

scalar_without_a_value : scalar_right (bool_op sign.NotEqual) as' None ≡ []
scalar_without_a_value = refl

scalars_compared : of_scalars (bool_op sign.LessOrEqual) (Some (pos 2)) (Some (pos 1)) ≡ Some (pos 0)
scalars_compared = refl

remainder_of_scalars : of_scalars (op sign.Rem) (Some (negsuc 6999999)) (Some (pos 2000000)) ≡ Some (negsuc 999999)
remainder_of_scalars = refl
