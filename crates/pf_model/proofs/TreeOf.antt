-- The tree of each variant of a query, for functions that make a query or take it apart.
use Rattle.std.proofs.Common.{◌≡◌, ◌∙◌, sym, ap, ℕ, ℤ, List, map, Bool, Option}
use Rattle.std.specs.Prelude.{Box, Vec}
use Rattle.pf_model.specs.declared.expr.BinaryOp.{BinaryOp}
use Rattle.pf_model.specs.declared.expr.Expr.{Expr}
use Rattle.pf_model.specs.declared.expr.Expr.TheFolds.{fold-roll-Expr}
use Rattle.pf_model.specs.declared.expr.Expr.TheOpen as level
use Rattle.pf_model.specs.declared.expr.Expr.TheVariants as expr
use Rattle.pf_model.specs.declared.expr.Function.{Function}
use Rattle.pf_model.specs.declared.expr.Matcher.{Matcher}
use Rattle.pf_model.specs.declared.expr.Mods.{Mods}
use Rattle.pf_model.specs.declared.functions.AggOp.{AggOp}
use Rattle.pf_model.specs.Clauses.{Grouped, Matched}
use Rattle.pf_model.specs.Trees.{Tree, number, text, unary, binary, call, aggregate, select, subquery, trees_of, tree_step, tree_of}

pub number_tree : (v : ℤ) → tree_of (expr.Number v) ≡ number v
number_tree v = ap tree_of (sym (expr.rolls-Number v)) ∙ fold-roll-Expr Tree tree_step (level.Expr-F.Number v)

pub text_tree : (t : List ℕ) → tree_of (expr.Text t) ≡ text t
text_tree t = ap tree_of (sym (expr.rolls-Text t)) ∙ fold-roll-Expr Tree tree_step (level.Expr-F.Text t)

pub unary_tree : (m : Bool) (b : Box Expr _) → tree_of (expr.Unary m b) ≡ unary m (tree_of b.value)
unary_tree m b = ap tree_of (sym (expr.rolls-Unary m b)) ∙ fold-roll-Expr Tree tree_step (level.Expr-F.Unary m b)

pub binary_tree : (op : BinaryOp) (m : Matched) (a b : Box Expr _)
    → tree_of (expr.Binary op m a b) ≡ binary op m (tree_of a.value) (tree_of b.value)
binary_tree op m a b =
    ap tree_of (sym (expr.rolls-Binary op m a b)) ∙ fold-roll-Expr Tree tree_step (level.Expr-F.Binary op m a b)

pub call_tree : (f : Function) (v : Vec Expr _) → tree_of (expr.Call f v) ≡ call f (trees_of (map tree_of v.items))
call_tree f v = ap tree_of (sym (expr.rolls-Call f v)) ∙ fold-roll-Expr Tree tree_step (level.Expr-F.Call f v)

pub aggregate_tree : (op : AggOp) (g : Grouped) (v : Vec Expr _)
    → tree_of (expr.Aggregate op g v) ≡ aggregate op g (trees_of (map tree_of v.items))
aggregate_tree op g v =
    ap tree_of (sym (expr.rolls-Aggregate op g v)) ∙ fold-roll-Expr Tree tree_step (level.Expr-F.Aggregate op g v)

pub select_tree : (s : List Matcher) (range : Option ℕ) (mods : Mods) → tree_of (expr.Select s range mods) ≡ select s range mods
select_tree s range mods =
    ap tree_of (sym (expr.rolls-Select s range mods)) ∙ fold-roll-Expr Tree tree_step (level.Expr-F.Select s range mods)

pub subquery_tree : (b : Box Expr _) (range : ℕ) (resolution : Option ℕ) (mods : Mods)
    → tree_of (expr.Subquery b range resolution mods) ≡ subquery (tree_of b.value) range resolution mods
subquery_tree b range resolution mods =
    ap tree_of (sym (expr.rolls-Subquery b range resolution mods))
    ∙ fold-roll-Expr Tree tree_step (level.Expr-F.Subquery b range resolution mods)
