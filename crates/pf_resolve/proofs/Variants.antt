-- The tree of a query, by its variants, with operands as the code holds them.
use Rattle.std.proofs.Common.{◌≡◌, ◌∙◌, sym, ap, ℕ, ℤ, Bool, List, map, Option}
use Rattle.std.specs.Prelude.{Box, Vec}
use Rattle.pf_model.specs.declared.expr.BinaryOp.{BinaryOp}
use Rattle.pf_model.specs.declared.expr.Expr.{Expr}
use Rattle.pf_model.specs.declared.expr.Expr.TheVariants as expr
use Rattle.pf_model.specs.declared.expr.Function.{Function}
use Rattle.pf_model.specs.declared.expr.Matcher.{Matcher}
use Rattle.pf_model.specs.declared.expr.Mods.{Mods}
use Rattle.pf_model.specs.declared.functions.AggOp.{AggOp}
use Rattle.pf_model.specs.Clauses.{Grouped, Matched}
use Rattle.pf_model.specs.Trees.{Tree, number, text, unary, binary, call, aggregate, select, subquery, trees_of, tree_of}
use Rattle.pf_model.proofs.TreeOf.{number_tree, text_tree, unary_tree, binary_tree, call_tree, aggregate_tree, select_tree, subquery_tree}

module _ {X : Type 0} (f : Tree → X) where
  pub number_is : (e : Expr) (v : ℤ) → e ≡ expr.Number v → f (tree_of e) ≡ f (number v)
  number_is e v is = ap f (ap tree_of is ∙ number_tree v)

  pub text_is : (e : Expr) (s : List ℕ) → e ≡ expr.Text s → f (tree_of e) ≡ f (text s)
  text_is e s is = ap f (ap tree_of is ∙ text_tree s)

  pub unary_is : (e arg : Expr) (minus : Bool) (b : Box Expr _) → e ≡ expr.Unary minus b → arg ≡ b.value → f (tree_of e) ≡ f (unary minus (tree_of arg))
  unary_is e arg minus b is q = ap f (ap tree_of is ∙ unary_tree minus b ∙ ap (λ x. unary minus (tree_of x)) (sym q))

  pub binary_is : (e left right : Expr) (op : BinaryOp) (m : Matched) (a b : Box Expr _) → e ≡ expr.Binary op m a b → left ≡ a.value → right ≡ b.value
      → f (tree_of e) ≡ f (binary op m (tree_of left) (tree_of right))
  binary_is e left right op m a b is p q =
      ap f (ap tree_of is ∙ binary_tree op m a b ∙ ap (λ x. binary op m (tree_of x) (tree_of b.value)) (sym p) ∙ ap (λ x. binary op m (tree_of left) (tree_of x)) (sym q))

  pub call_is : (e : Expr) (args : List Expr) (g : Function) (v : Vec Expr _) → e ≡ expr.Call g v → args ≡ v.items → f (tree_of e) ≡ f (call g (trees_of (map tree_of args)))
  call_is e args g v is q = ap f (ap tree_of is ∙ call_tree g v ∙ ap (λ xs. call g (trees_of (map tree_of xs))) (sym q))

  pub aggregate_is : (e : Expr) (args : List Expr) (op : AggOp) (g : Grouped) (v : Vec Expr _) → e ≡ expr.Aggregate op g v → args ≡ v.items
      → f (tree_of e) ≡ f (aggregate op g (trees_of (map tree_of args)))
  aggregate_is e args op g v is q = ap f (ap tree_of is ∙ aggregate_tree op g v ∙ ap (λ xs. aggregate op g (trees_of (map tree_of xs))) (sym q))

  pub select_is : (e : Expr) (s : List Matcher) (range : Option ℕ) (mods : Mods) → e ≡ expr.Select s range mods → f (tree_of e) ≡ f (select s range mods)
  select_is e s range mods is = ap f (ap tree_of is ∙ select_tree s range mods)

  pub subquery_is : (e arg : Expr) (b : Box Expr _) (range : ℕ) (resolution : Option ℕ) (mods : Mods) → e ≡ expr.Subquery b range resolution mods → arg ≡ b.value
      → f (tree_of e) ≡ f (subquery (tree_of arg) range resolution mods)
  subquery_is e arg b range resolution mods is q =
      ap f (ap tree_of is ∙ subquery_tree b range resolution mods ∙ ap (λ x. subquery (tree_of x) range resolution mods) (sym q))
