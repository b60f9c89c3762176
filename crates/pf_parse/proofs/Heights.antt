-- The height of arguments with another behind them.
use Rattle.std.proofs.Common.{◌≡◌, ◌∙◌, ap, max, List, [], ◌∷◌, ◌++◌, map, arith}
use Rattle.std.proofs.lemmas.List.{map-append}
use Rattle.pf_model.specs.declared.expr.Expr.{Expr}
use Rattle.pf_model.specs.Trees.{Tree, height, heights, trees_of, tree_of}

heights_next : (xs : List Tree) (t : Tree) → heights (trees_of (xs ++ (t ∷ []))) ≡ max (heights (trees_of xs)) (height t)
heights_next [] t = omega arith
heights_next (x ∷ xs) t = omega (arith, heights_next xs t)

pub expr_heights : (es : List Expr) (e : Expr)
    → heights (trees_of (map tree_of (es ++ (e ∷ [])))) ≡ max (heights (trees_of (map tree_of es))) (height (tree_of e))
expr_heights es e = ap (λ ts. heights (trees_of ts)) (map-append tree_of es (e ∷ [])) ∙ heights_next (map tree_of es) (tree_of e)
