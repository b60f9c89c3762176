-- Pieces of canonical texts, as the code writes them. This project's own.
use Rattle.std.specs.Prelude.{ℕ, ◌&&◌, Bool, not, codes, cond, map, nat_eq, List, [], ◌++◌, Option}
use Rattle.pf_model.specs.Lists.{separated}
use Rattle.pf_model.specs.Canonical.{bool_text, canonical, group_text, grouping_text, in_brackets, is_one, keys_text, millis_text, mods_text, range_text, resolution_text, selector_text}
use Rattle.pf_model.specs.Clauses.{Grouped, Matched}
use Rattle.pf_model.specs.declared.expr.BinaryOp.{BinaryOp}
use Rattle.pf_model.specs.declared.expr.Expr.{Expr}
use Rattle.pf_model.specs.declared.expr.Function.{Function}
use Rattle.pf_model.specs.declared.expr.Matcher.{Matcher}
use Rattle.pf_model.specs.declared.expr.Mods.{Mods}
use Rattle.pf_model.specs.declared.functions.AggOp.{AggOp}
use Rattle.pf_model.specs.Grammar.{Derives, is_nil}
use Rattle.pf_model.specs.Parsing.{sorts}
use Rattle.pf_model.specs.Tokens.{Token, AreTokens}
use Rattle.pf_model.specs.Trees.{Tree, tree_of}
use Rattle.pf_model.specs.Words.{aggregation_word, function_name, operator_text}

abbrev pub has_keys : Matched → Bool
has_keys m = not (is_nil m.labels && not m.on && is_one m.side)

-- what stands between the operands
abbrev pub operator_between : BinaryOp → Matched → List ℕ
operator_between op m =
    codes " " ++ (operator_text op.sign ++ (bool_text op.with_bool ++ (keys_text m ++ (group_text m.side m.include ++ codes " "))))

-- a subquery's range and what stands behind it
abbrev pub over_text : ℕ → Option ℕ → Mods → List ℕ
over_text range resolution mods =
    codes "[" ++ (millis_text range ++ (codes ":" ++ (resolution_text resolution ++ (codes "]" ++ mods_text mods))))

-- the canonical text of a query
abbrev pub expr_text : Expr → List ℕ
expr_text e = canonical (tree_of e)

-- a query's parts, as they are written in its place
abbrev pub unary_text : Bool → Expr → List ℕ
unary_text minus e = cond minus (codes "-") (codes "+") ++ in_brackets (expr_text e)

-- an operator and its right operand
abbrev pub right_text : BinaryOp → Matched → Expr → List ℕ
right_text op m b = operator_between op m ++ in_brackets (expr_text b)

abbrev pub args_text : List Expr → List ℕ
args_text es = in_brackets (separated (codes ", ") (map expr_text es))

abbrev pub call_text : Function → List Expr → List ℕ
call_text f es = function_name f ++ args_text es

abbrev pub aggregate_text : AggOp → Grouped → List Expr → List ℕ
aggregate_text op g es = aggregation_word op ++ ((grouping_text g ++ codes " ") ++ args_text es)

abbrev pub select_text : List Matcher → Option ℕ → Mods → List ℕ
select_text ms range mods = selector_text ms ++ (range_text range ++ mods_text mods)

abbrev pub subquery_text : Expr → ℕ → Option ℕ → Mods → List ℕ
subquery_text e range resolution mods = in_brackets (expr_text e) ++ over_text range resolution mods

abbrev pub comma_before : ℕ → List ℕ
comma_before number = cond (nat_eq number 0) [] (codes ", ")

-- a text, however long, whose tokens derive a tree
pub record IsDerivedBy (text : List ℕ) (tree : Tree) : Type 0 where
  pub tokens : List Token
  pub are_tokens : AreTokens text tokens
  pub derives : Derives (sorts tokens) tree
