-- The aggregations of a query that are evaluated shard by shard: this project's own, after Mimir's query sharding.
use Rattle.std.specs.Prelude.{ℕ, ◌+◌, ◌*◌, Bool, true, false, not, ◌&&◌, ◌||◌, cond, Some, is_none, List, [], ◌∷◌, length, nat_lt, nat_le}
use Rattle.std.specs.List.{list_any}
use Rattle.pf_model.specs.declared.expr.Function.{Function}
use Rattle.pf_model.specs.declared.expr.Function.TheVariants as function
use Rattle.pf_model.specs.declared.functions.AggOp.{AggOp}
use Rattle.pf_model.specs.declared.functions.AggOp.TheVariants.{Sum, Avg, Min, Max, Count, Group, Topk, Bottomk, Quantile}
use Rattle.pf_model.specs.declared.functions.InstantFn.{InstantFn}
use Rattle.pf_model.specs.declared.functions.InstantFn.TheVariants.{Abs, Ceil, Floor, Sgn, Round, Clamp, ClampMin, ClampMax, Timestamp}
use Rattle.pf_model.specs.declared.functions.RangeFn.{RangeFn}
use Rattle.pf_model.specs.declared.functions.RangeFn.TheVariants.{AbsentOverTime}
use Rattle.pf_model.specs.Trees as tree
use Rattle.pf_model.specs.Trees.{Tree, Trees, preorder}
use Rattle.pf_model.specs.Words.{is_set_operator}

-- a number, or one sign before a number
abbrev pub is_literal : Tree → Bool
is_literal (tree.number v) = true
is_literal (tree.unary minus (tree.number v)) = true
is_literal query = false

abbrev pub are_literals : Trees → Bool
are_literals tree.none = true
are_literals (tree.more arg args) = is_literal arg && are_literals args

abbrev pub is_range_selector : Trees → Bool
is_range_selector (tree.more (tree.select ms (Some range) mods) tree.none) = true
is_range_selector args = false

-- the functions of each element by itself
abbrev pub is_elementwise : InstantFn → Bool
is_elementwise Abs = true
is_elementwise Ceil = true
is_elementwise Floor = true
is_elementwise Sgn = true
is_elementwise Round = true
is_elementwise Clamp = true
is_elementwise ClampMin = true
is_elementwise ClampMax = true
is_elementwise Timestamp = true
is_elementwise f = false

abbrev pub is_over_series : RangeFn → Bool
is_over_series AbsentOverTime = false
is_over_series f = true

-- a call whose first argument is plain or not; `plain_first` says so
abbrev pub is_plain_call : Function → Trees → Bool → Bool
is_plain_call (function.Range f) args plain_first = is_over_series f && is_range_selector args
is_plain_call (function.Instant f) tree.none plain_first = false
is_plain_call (function.Instant f) (tree.more arg args) plain_first = is_elementwise f && plain_first && are_literals args

-- a plain expression: its value has one element for each series, found from that series alone
abbrev mutual
  pub is_plain : Tree → Bool
  is_plain (tree.number v) = false
  is_plain (tree.text bytes) = false
  is_plain (tree.unary minus arg) = is_plain arg
  is_plain (tree.binary op m left right) =
      not (is_set_operator op.sign) && ((is_plain left && is_literal right) || (is_literal left && is_plain right))
  is_plain (tree.call f args) = is_plain_call f args (is_first_plain args)
  is_plain (tree.aggregate op g args) = false
  is_plain (tree.select ms range mods) = is_none range
  is_plain (tree.subquery arg range resolution mods) = false

  pub is_first_plain : Trees → Bool
  is_first_plain tree.none = false
  is_first_plain (tree.more arg args) = is_plain arg

abbrev pub is_mergeable : AggOp → Bool
is_mergeable Sum = true
is_mergeable Avg = true
is_mergeable Min = true
is_mergeable Max = true
is_mergeable Count = true
is_mergeable Group = false
is_mergeable Topk = false
is_mergeable Bottomk = false
is_mergeable Quantile = false

-- exactly one argument, a plain one
abbrev pub is_one_plain : Trees → Bool
is_one_plain (tree.more arg tree.none) = is_plain arg
is_one_plain args = false

-- a shardable aggregation
abbrev pub is_sharded : Tree → Bool
is_sharded (tree.aggregate op g args) = is_mergeable op && is_one_plain args
is_sharded query = false

-- the numbers of the shardable aggregations, from n on
abbrev pub sharded_from : ℕ → List Tree → List ℕ
sharded_from n [] = []
sharded_from n (node ∷ nodes) = cond (is_sharded node) (n ∷ sharded_from (n + 1) nodes) (sharded_from (n + 1) nodes)

abbrev pub sharded_nodes : Tree → List ℕ
sharded_nodes query = sharded_from 0 (preorder query)

-- there is no subquery, and each selector stands in a shardable aggregation
abbrev mutual
  pub is_covered : Tree → Bool
  is_covered (tree.number v) = true
  is_covered (tree.text bytes) = true
  is_covered (tree.unary minus arg) = is_covered arg
  is_covered (tree.binary op m left right) = is_covered left && is_covered right
  is_covered (tree.call f args) = are_covered args
  is_covered (tree.aggregate op g args) = (is_mergeable op && is_one_plain args) || are_covered args
  is_covered (tree.select ms range mods) = false
  is_covered (tree.subquery arg range resolution mods) = false

  pub are_covered : Trees → Bool
  are_covered tree.none = true
  are_covered (tree.more arg args) = is_covered arg && are_covered args

abbrev pub is_selector : Tree → Bool
is_selector (tree.select ms range mods) = true
is_selector query = false

abbrev pub is_shardable : Tree → Bool
is_shardable query = list_any is_selector (preorder query) && is_covered query

-- the nodes that are sharded n ways: none where the query isn't shardable, or where there would be over 256 legs
abbrev pub legs_over : Tree → ℕ → List ℕ
legs_over query n =
    cond (is_shardable query && nat_lt 1 n && nat_le (length (sharded_nodes query) * n) 256) (sharded_nodes query) []
