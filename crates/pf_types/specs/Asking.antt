-- When a query is asked, what is known of a bound query, and what its text asks: this project's own.
use Rattle.std.specs.Prelude.{◌≡◌, ◌≤◌, ◌<◌, ℕ, Bool, true, false, List, Result, Ok, Err}
use Rattle.pf_base.specs.GridLists.{GridData}
use Rattle.pf_journal.specs.Asking.{Asked, asked_over}
use Rattle.pf_model.specs.declared.expr.Kind.{Kind}
use Rattle.pf_model.specs.declared.expr.Matcher.{Matcher}
use Rattle.pf_model.specs.Binding.{patterns_of, selectors_of}
use Rattle.pf_model.specs.Built.{is_evaluated}
use Rattle.pf_model.specs.Queries.{IsBindable, IsReading, lawful}
use Rattle.pf_model.specs.Trees.{Tree, height}
use Rattle.pf_model.specs.Typing.{admits, kind_of, scalar_or_instant}
use Rattle.pf_print.specs.OwnTexts.{HasText}
use Rattle.pf_resolve.specs.Bounds.{is_small}
use Rattle.pf_resolve.specs.Settled.{is_settled}
use Rattle.pf_types.specs.Errors.{IsFaultFor, query_fault}
use Rattle.pf_types.specs.declared.query.QueryError.{QueryError}
use Rattle.pf_types.specs.declared.asking.When.{When}
use Rattle.pf_types.specs.declared.asking.When.TheVariants as when

abbrev pub is_instant : When → Bool
is_instant (when.Range grid) = false
is_instant (when.Instant grid) = true

abbrev pub grid_in : When → GridData
grid_in (when.Range grid) = grid
grid_in (when.Instant grid) = grid

-- a range has a step, and an instant has none
abbrev pub IsWhen : When → Type 0
IsWhen (when.Range grid) = 0 < grid.step
IsWhen (when.Instant grid) = grid.step ≡ 0

-- a query that some text derives and that is evaluated, whose times are small, with its matchers, its patterns and its kind, whose
-- patterns have a meaning, without an empty selector
pub record IsBound (tree : Tree) (matchers : List (List Matcher)) (patterns : List (List ℕ)) (kind : Kind) : Type 0 where
  pub written : HasText tree
  pub evaluated : is_evaluated tree ≡ true
  pub low : height tree ≤ 64
  pub small : is_small tree ≡ true
  pub typed : kind_of tree ≡ kind
  pub wanted : admits scalar_or_instant kind ≡ true
  pub selectors : matchers ≡ selectors_of tree
  pub replacements : patterns ≡ patterns_of tree
  pub selects : IsBindable tree

-- the same with a grid's range put in, without what follows from it
pub record IsPutIn (tree : Tree) (matchers : List (List Matcher)) (patterns : List (List ℕ)) (kind : Kind) : Type 0 where
  pub written : HasText tree
  pub settled : is_settled tree ≡ true
  pub evaluated : is_evaluated tree ≡ true
  pub low : height tree ≤ 64
  pub typed : kind_of tree ≡ kind
  pub selectors : matchers ≡ selectors_of tree
  pub replacements : patterns ≡ patterns_of tree

-- a text is read as a query, by the refused patterns, and this is that query over a grid
abbrev pub IsAskedBy : (refused : List (List ℕ)) → List ℕ → (instant : Bool) → GridData → Asked → Type 0
IsAskedBy refused text instant grid asked = (tree : Tree) × (IsReading refused text (lawful tree) × (asked ≡ asked_over instant grid tree))

-- the same, or a text has this fault, where expressions that compile too big are refused
abbrev pub IsAskedAs : (refused : List (List ℕ)) → List ℕ → (instant : Bool) → GridData → Result Asked QueryError → Type 0
IsAskedAs refused text instant grid (Ok asked) = IsAskedBy refused text instant grid asked
IsAskedAs refused text instant grid (Err e) = IsFaultFor refused text (query_fault e)
