-- What is lawfully asked: this project's own.
use Rattle.std.specs.Prelude.{◌≡◌, ◌≤◌, ℕ, true, List, nat_eq}
use Rattle.pf_journal.specs.Asking.{Asked}
use Rattle.pf_lex.specs.CanonicalTokens.{HasTree}
use Rattle.pf_model.specs.declared.expr.Matcher.{Matcher}
use Rattle.pf_model.specs.Binding.{patterns_of, selectors_of}
use Rattle.pf_model.specs.Built.{is_evaluated}
use Rattle.pf_model.specs.Canonical.{canonical}
use Rattle.pf_model.specs.Trees.{height}
use Rattle.pf_model.specs.Typing.{admits, kind_of, scalar_or_instant}
use Rattle.pf_resolve.specs.Bounds.{is_small}
use Rattle.pf_resolve.specs.Settled.{is_settled}

-- a query that some text, however long, derives, and that is evaluated, over its grid, with its matchers and its patterns
pub record IsAsked (asked : Asked) (matchers : List (List Matcher)) (patterns : List (List ℕ)) : Type 0 where
  pub settled : is_settled asked.query.tree ≡ true
  pub written : (text : List ℕ) × HasTree text asked.query.tree
  pub evaluated : is_evaluated asked.query.tree ≡ true
  pub low : height asked.query.tree ≤ 64
  pub small : is_small asked.query.tree ≡ true
  pub kind : kind_of asked.query.tree ≡ asked.kind
  pub wanted : admits scalar_or_instant asked.kind ≡ true
  pub text : asked.text ≡ canonical asked.query.tree
  pub selectors : matchers ≡ selectors_of asked.query.tree
  pub replacements : patterns ≡ patterns_of asked.query.tree
  pub instant : asked.instant ≡ nat_eq asked.query.grid.step 0
