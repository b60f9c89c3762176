-- What is asked: a query with its grid. The alignment of a grid is Mimir's; the order of refusals is this project's own.
use Rattle.std.specs.Prelude.{ℕ, Bool, true, false, Option, Some, None, Result, Ok, Err, List}
use Rattle.pf_base.specs.GridLists.{GridData}
use Rattle.pf_base.specs.Grids.{grid_of, single_of}
use Rattle.pf_base.specs.declared.grid.GridError.{GridError}
use Rattle.pf_model.specs.declared.expr.Kind.{Kind}
use Rattle.pf_model.specs.Canonical.{canonical}
use Rattle.pf_model.specs.Direct as direct
use Rattle.pf_model.specs.ErrorTexts.{grid_text, query_text}
use Rattle.pf_model.specs.Queries.{Reading, Readings, lawful, refused}
use Rattle.pf_model.specs.Resolving.{resolved_over}
use Rattle.pf_model.specs.Trees.{Tree}
use Rattle.pf_model.specs.Typing.{kind_of}

-- an asked query: its tree with the grid's ends put in and its grid, its kind, whether it is an instant query, and its
-- canonical text
pub record Asked : Type 0 where
  pub query : direct.GridQuery
  pub kind : Kind
  pub instant : Bool
  pub text : List ℕ

abbrev pub asked_over : (instant : Bool) → GridData → Tree → Asked
asked_over instant grid tree = record {
  query = record { tree = resolved_over grid tree; grid = grid };
  kind = kind_of tree;
  instant = instant;
  text = canonical (resolved_over grid tree);
}

-- what is asked by a grid and a query, or the text of the refusal, the grid's first; none of a query that is not read
abbrev pub asked_with : (instant : Bool) → Result GridData GridError → Option Reading → Option (Result Asked (List ℕ))
asked_with instant (Err refusal) reading = Some (Err (grid_text refusal))
asked_with instant (Ok grid) None = None
asked_with instant (Ok grid) (Some (lawful tree)) = Some (Ok (asked_over instant grid tree))
asked_with instant (Ok grid) (Some (refused fault)) = Some (Err (query_text fault))

-- what is asked by times in milliseconds and a query
abbrev pub ranged : Readings → ℕ → ℕ → ℕ → List ℕ → Option (Result Asked (List ℕ))
ranged readings start end step query = asked_with false (grid_of start end step) (readings query)

-- what is asked by one time, which is not cut down
abbrev pub at_once : Readings → ℕ → List ℕ → Option (Result Asked (List ℕ))
at_once readings time query = asked_with true (single_of time) (readings query)
