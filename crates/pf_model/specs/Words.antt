-- The words and signs of the language. Prometheus, Querying: Operators, Functions.
use Rattle.std.specs.Prelude.{ℕ, Bool, true, false, cond, codes, List, [], ◌∷◌, Option, Some, None}
use Rattle.std.specs.List.{list_any}
use Rattle.std.specs.Str.{bytes_eq, str_eq_ignore_ascii_case}
use Rattle.pf_model.specs.declared.expr.Function.{Function}
use Rattle.pf_model.specs.declared.expr.Function.TheVariants as called
use Rattle.pf_model.specs.declared.functions.AggOp.{AggOp}
use Rattle.pf_model.specs.declared.functions.AggOp.TheVariants as aggregation
use Rattle.pf_model.specs.declared.functions.InstantFn.{InstantFn}
use Rattle.pf_model.specs.declared.functions.InstantFn.TheVariants as instant
use Rattle.pf_model.specs.declared.functions.RangeFn.{RangeFn}
use Rattle.pf_model.specs.declared.functions.RangeFn.TheVariants as ranged
use Rattle.pf_model.specs.declared.functions.Sign.{Sign}
use Rattle.pf_model.specs.declared.functions.Sign.TheVariants as operator
use Rattle.pf_model.specs.declared.expr.MatchSign.{MatchSign}
use Rattle.pf_model.specs.declared.expr.MatchSign.TheVariants as match

-- the words that stand for themselves in any case of letters
abbrev pub keywords : List (List ℕ)
keywords =
    codes "and" ∷ codes "or" ∷ codes "unless" ∷ codes "bool" ∷ codes "on" ∷ codes "ignoring" ∷ codes "group_left"
    ∷ codes "group_right" ∷ codes "by" ∷ codes "without" ∷ codes "offset" ∷ codes "sum" ∷ codes "avg" ∷ codes "min"
    ∷ codes "max" ∷ codes "count" ∷ codes "group" ∷ codes "topk" ∷ codes "bottomk" ∷ codes "quantile" ∷ []

abbrev pub is_keyword : List ℕ → Bool
is_keyword word = list_any (str_eq_ignore_ascii_case word) keywords

-- ---- functions

abbrev pub range_name : RangeFn → List ℕ
range_name ranged.Increase = codes "increase"
range_name ranged.Rate = codes "rate"
range_name ranged.Delta = codes "delta"
range_name ranged.Irate = codes "irate"
range_name ranged.Idelta = codes "idelta"
range_name ranged.Changes = codes "changes"
range_name ranged.Resets = codes "resets"
range_name ranged.AvgOverTime = codes "avg_over_time"
range_name ranged.SumOverTime = codes "sum_over_time"
range_name ranged.MinOverTime = codes "min_over_time"
range_name ranged.MaxOverTime = codes "max_over_time"
range_name ranged.CountOverTime = codes "count_over_time"
range_name ranged.LastOverTime = codes "last_over_time"
range_name ranged.PresentOverTime = codes "present_over_time"
range_name ranged.AbsentOverTime = codes "absent_over_time"

abbrev pub instant_name : InstantFn → List ℕ
instant_name instant.Abs = codes "abs"
instant_name instant.Ceil = codes "ceil"
instant_name instant.Floor = codes "floor"
instant_name instant.Sgn = codes "sgn"
instant_name instant.Round = codes "round"
instant_name instant.Clamp = codes "clamp"
instant_name instant.ClampMin = codes "clamp_min"
instant_name instant.ClampMax = codes "clamp_max"
instant_name instant.Absent = codes "absent"
instant_name instant.Scalar = codes "scalar"
instant_name instant.Vector = codes "vector"
instant_name instant.Time = codes "time"
instant_name instant.Timestamp = codes "timestamp"
instant_name instant.LabelReplace = codes "label_replace"
instant_name instant.LabelJoin = codes "label_join"

abbrev pub function_name : Function → List ℕ
function_name (called.Range f) = range_name f
function_name (called.Instant f) = instant_name f

abbrev pub functions : List Function
functions =
    called.Range ranged.Increase ∷ called.Range ranged.Rate ∷ called.Range ranged.Delta ∷ called.Range ranged.Irate
    ∷ called.Range ranged.Idelta ∷ called.Range ranged.Changes ∷ called.Range ranged.Resets
    ∷ called.Range ranged.AvgOverTime ∷ called.Range ranged.SumOverTime ∷ called.Range ranged.MinOverTime
    ∷ called.Range ranged.MaxOverTime ∷ called.Range ranged.CountOverTime ∷ called.Range ranged.LastOverTime
    ∷ called.Range ranged.PresentOverTime ∷ called.Range ranged.AbsentOverTime
    ∷ called.Instant instant.Abs ∷ called.Instant instant.Ceil ∷ called.Instant instant.Floor ∷ called.Instant instant.Sgn
    ∷ called.Instant instant.Round ∷ called.Instant instant.Clamp ∷ called.Instant instant.ClampMin
    ∷ called.Instant instant.ClampMax ∷ called.Instant instant.Absent ∷ called.Instant instant.Scalar
    ∷ called.Instant instant.Vector ∷ called.Instant instant.Time ∷ called.Instant instant.Timestamp
    ∷ called.Instant instant.LabelReplace ∷ called.Instant instant.LabelJoin ∷ []

-- the function of a name, in small letters alone
abbrev pub named_among : List Function → List ℕ → Option Function
named_among [] name = None
named_among (f ∷ fs) name = cond (bytes_eq (function_name f) name) (Some f) (named_among fs name)

abbrev pub function_of : List ℕ → Option Function
function_of name = named_among functions name

-- ---- aggregations, operators and matchers

abbrev pub aggregation_word : AggOp → List ℕ
aggregation_word aggregation.Sum = codes "sum"
aggregation_word aggregation.Avg = codes "avg"
aggregation_word aggregation.Min = codes "min"
aggregation_word aggregation.Max = codes "max"
aggregation_word aggregation.Count = codes "count"
aggregation_word aggregation.Group = codes "group"
aggregation_word aggregation.Topk = codes "topk"
aggregation_word aggregation.Bottomk = codes "bottomk"
aggregation_word aggregation.Quantile = codes "quantile"

abbrev pub operator_text : Sign → List ℕ
operator_text operator.Add = codes "+"
operator_text operator.Sub = codes "-"
operator_text operator.Mul = codes "*"
operator_text operator.Div = codes "/"
operator_text operator.Rem = codes "%"
operator_text operator.Equal = codes "=="
operator_text operator.NotEqual = codes "!="
operator_text operator.Less = codes "<"
operator_text operator.LessOrEqual = codes "<="
operator_text operator.Greater = codes ">"
operator_text operator.GreaterOrEqual = codes ">="
operator_text operator.And = codes "and"
operator_text operator.Or = codes "or"
operator_text operator.Unless = codes "unless"

-- the level of an operator; a lower one binds closer
abbrev pub level_of : Sign → ℕ
level_of operator.Mul = 2
level_of operator.Div = 2
level_of operator.Rem = 2
level_of operator.Add = 3
level_of operator.Sub = 3
level_of operator.Equal = 4
level_of operator.NotEqual = 4
level_of operator.Less = 4
level_of operator.LessOrEqual = 4
level_of operator.Greater = 4
level_of operator.GreaterOrEqual = 4
level_of operator.And = 5
level_of operator.Unless = 5
level_of operator.Or = 6

-- `== != < <= > >=`
abbrev pub is_comparison : Sign → Bool
is_comparison operator.Equal = true
is_comparison operator.NotEqual = true
is_comparison operator.Less = true
is_comparison operator.LessOrEqual = true
is_comparison operator.Greater = true
is_comparison operator.GreaterOrEqual = true
is_comparison _ = false

-- `and or unless`
abbrev pub is_set_operator : Sign → Bool
is_set_operator operator.And = true
is_set_operator operator.Or = true
is_set_operator operator.Unless = true
is_set_operator _ = false

abbrev pub match_text : MatchSign → List ℕ
match_text match.Equal = codes "="
match_text match.NotEqual = codes "!="
match_text match.Like = codes "=~"
match_text match.NotLike = codes "!~"
