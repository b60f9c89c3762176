-- What is held of a query once it is read.
use Rattle.std.proofs.Common.{ℕ, List, [], Option, Some, None}
use Rattle.pf_model.specs.Grammar.{Written, Arguments, number, text, brackets, call, aggregate, unary, binary, select, subquery, none, more, grouped_of, matched_of, metric_matcher, braces_matchers}
use Rattle.pf_model.specs.Grammar as grammar
use Rattle.pf_model.specs.declared.expr.Matcher.{Matcher}
use Rattle.pf_model.specs.Trees.{Tree}
use Rattle.pf_model.specs.Trees as tree
use Rattle.pf_model.specs.Words.{function_of}
use Rattle.pf_parse.specs.Held.{Held, held_unary, held_binary, held_call, held_aggregate, with_argument, held_target, Target, selector, ranged, over, over_by}
use Rattle.pf_parse.specs.Lexemes.{within_limit}
use Rattle.pf_parse.proofs.Selecting.{read_modifiers}
use Rattle.std.specs.Prelude.{◌++◌}

abbrev pub selected_matchers : grammar.Selected → List Matcher
selected_matchers s = metric_matcher s.metric ++ braces_matchers s.braces

abbrev pub selected_target : List Matcher → Option ℕ → Option Target
selected_target ms None = Some (selector ms None)
selected_target ms (Some d) = ranged ms (within_limit d)

abbrev pub subquery_target : Held → ℕ → Option ℕ → Option Target
subquery_target e d None = over e (within_limit d)
subquery_target e d (Some r) = over_by e (within_limit d) (within_limit r)

abbrev mutual
  pub read_of : Written → Held
  read_of (number n) = Some (tree.number n)
  read_of (text s) = Some (tree.text s)
  read_of (brackets e) = read_of e
  read_of (call f args) = held_call (function_of f) (arguments_of args (Some []))
  read_of (aggregate op clause args) = held_aggregate op (grouped_of clause) (arguments_of args (Some []))
  read_of (unary minus e) = held_unary minus (read_of e)
  read_of (binary op keys a b) = held_binary op (matched_of keys) (read_of a) (read_of b)
  read_of (select s range mods) = held_target (selected_target (selected_matchers s) range) (read_modifiers mods)
  read_of (subquery e range resolution mods) =
      held_target (subquery_target (read_of e) range resolution) (read_modifiers mods)

  -- arguments behind others
  pub arguments_of : Arguments → Option (List Tree) → Option (List Tree)
  arguments_of none before = before
  arguments_of (more e es) before = arguments_of es (with_argument before (read_of e))
