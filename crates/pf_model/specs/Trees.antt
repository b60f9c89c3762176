-- The tree of a query as plain data. Prometheus, Querying: Expression language data types.
use Rattle.std.specs.Prelude.{ℕ, ℤ, pos, ◌+◌, max, Bool, Option, None, List, [], ◌∷◌, ◌++◌}
use Rattle.pf_model.specs.Clauses.{Grouped, Matched}
use Rattle.pf_model.specs.declared.functions.AggOp.{AggOp}
use Rattle.pf_model.specs.declared.expr.BinaryOp.{BinaryOp}
use Rattle.pf_model.specs.declared.expr.Function.{Function}
use Rattle.pf_model.specs.declared.expr.Matcher.{Matcher}
use Rattle.pf_model.specs.declared.expr.Mods.{Mods}
use Rattle.pf_model.specs.declared.expr.Expr.{Expr}
use Rattle.pf_model.specs.declared.expr.Expr.TheOpen as level
use Rattle.pf_model.specs.declared.expr.Expr.TheFolds.{fold-Expr}

-- numbers are in micros, times in milliseconds
mutual
  pub data Tree : Type 0 where
    number : (micros : ℤ) → Tree
    text : (bytes : List ℕ) → Tree
    unary : (minus : Bool) → Tree → Tree
    binary : BinaryOp → Matched → Tree → Tree → Tree
    call : Function → Trees → Tree
    aggregate : AggOp → Grouped → Trees → Tree
    select : List Matcher → (range : Option ℕ) → Mods → Tree
    subquery : Tree → (range : ℕ) → (resolution : Option ℕ) → Mods → Tree

  pub data Trees : Type 0 where
    none : Trees
    more : Tree → Trees → Trees

-- no `@` and no offset
abbrev pub no_mods : Mods
no_mods = record { at = None; offset = pos 0 }

-- an instant selector without modifiers
abbrev pub instant : List Matcher → Tree
instant ms = select ms None no_mods

abbrev pub trees_of : List Tree → Trees
trees_of [] = none
trees_of (x ∷ xs) = more x (trees_of xs)

abbrev pub tree_step : level.Expr-F Tree → Tree
tree_step (level.Expr-F.Number v) = number v
tree_step (level.Expr-F.Text t) = text t
tree_step (level.Expr-F.Unary minus arg) = unary minus arg.value
tree_step (level.Expr-F.Binary op matching left right) = binary op matching left.value right.value
tree_step (level.Expr-F.Call f args) = call f (trees_of args.items)
tree_step (level.Expr-F.Aggregate op grouping args) = aggregate op grouping (trees_of args.items)
tree_step (level.Expr-F.Select s range mods) = select s range mods
tree_step (level.Expr-F.Subquery arg range resolution mods) = subquery arg.value range resolution mods

-- what contracts see of a query
abbrev pub tree_of : Expr → Tree
tree_of = fold-Expr Tree tree_step

abbrev mutual
  -- the number of nodes
  pub size : Tree → ℕ
  size (number micros) = 1
  size (text bytes) = 1
  size (unary minus e) = 1 + size e
  size (binary op matching a b) = 1 + (size a + size b)
  size (call f args) = 1 + sizes args
  size (aggregate op grouping args) = 1 + sizes args
  size (select ms range mods) = 1
  size (subquery e range resolution mods) = 1 + size e

  pub sizes : Trees → ℕ
  sizes none = 0
  sizes (more e es) = size e + sizes es

abbrev mutual
  -- the number of nodes on the longest path
  pub height : Tree → ℕ
  height (number micros) = 1
  height (text bytes) = 1
  height (unary minus e) = 1 + height e
  height (binary op matching a b) = 1 + max (height a) (height b)
  height (call f args) = 1 + heights args
  height (aggregate op grouping args) = 1 + heights args
  height (select ms range mods) = 1
  height (subquery e range resolution mods) = 1 + height e

  pub heights : Trees → ℕ
  heights none = 0
  heights (more e es) = max (height e) (heights es)

-- a node with its number
pub record Node : Type 0 where
  pub number : ℕ
  pub tree : Tree

abbrev mutual
  -- the nodes in post-order, children before their node, each with its number in preorder from a first one on
  pub nodes : ℕ → Tree → List Node
  nodes n (number micros) = record { number = n; tree = number micros } ∷ []
  nodes n (text bytes) = record { number = n; tree = text bytes } ∷ []
  nodes n (unary minus e) = nodes (n + 1) e ++ (record { number = n; tree = unary minus e } ∷ [])
  nodes n (binary op matching a b) =
      nodes (n + 1) a ++ (nodes (n + 1 + size a) b ++ (record { number = n; tree = binary op matching a b } ∷ []))
  nodes n (call f args) = all_nodes (n + 1) args ++ (record { number = n; tree = call f args } ∷ [])
  nodes n (aggregate op grouping args) = all_nodes (n + 1) args ++ (record { number = n; tree = aggregate op grouping args } ∷ [])
  nodes n (select ms range mods) = record { number = n; tree = select ms range mods } ∷ []
  nodes n (subquery e range resolution mods) = nodes (n + 1) e ++ (record { number = n; tree = subquery e range resolution mods } ∷ [])

  pub all_nodes : ℕ → Trees → List Node
  all_nodes n none = []
  all_nodes n (more e es) = nodes n e ++ all_nodes (n + size e) es

-- the tree's nodes in post-order, numbered in preorder from 0
abbrev pub postorder : Tree → List Node
postorder t = nodes 0 t

abbrev mutual
  -- the trees of the nodes in preorder, a node before its children; a node's number is its place here
  pub preorder : Tree → List Tree
  preorder (number micros) = number micros ∷ []
  preorder (text bytes) = text bytes ∷ []
  preorder (unary minus e) = unary minus e ∷ preorder e
  preorder (binary op matching a b) = binary op matching a b ∷ (preorder a ++ preorder b)
  preorder (call f args) = call f args ∷ all_preorder args
  preorder (aggregate op grouping args) = aggregate op grouping args ∷ all_preorder args
  preorder (select ms range mods) = select ms range mods ∷ []
  preorder (subquery e range resolution mods) = subquery e range resolution mods ∷ preorder e

  pub all_preorder : Trees → List Tree
  all_preorder none = []
  all_preorder (more e es) = preorder e ++ all_preorder es
