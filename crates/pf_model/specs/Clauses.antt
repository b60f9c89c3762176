-- The label clauses of operators as plain data. Prometheus, Querying: Operators.
use Rattle.std.specs.Prelude.{ℕ, Bool, List}
use Rattle.pf_model.specs.declared.expr.Side.{Side}

-- an aggregation's clause: `by` or `without`, and its labels
pub record Grouped : Type 0 where
  pub without : Bool
  pub labels : List (List ℕ)

-- a binary operator's clauses: `on` or `ignoring` with their labels, and the grouping with the labels that it takes from the
-- one side
pub record Matched : Type 0 where
  pub on : Bool
  pub labels : List (List ℕ)
  pub side : Side
  pub include : List (List ℕ)
