-- A query with its range put in, argument by argument.
use Rattle.std.proofs.Common.{◌≡◌, ℕ, ◌≤◌, List, [], ◌∷◌, map, length, take, refl, sym, ap, ◌∙◌}
use Rattle.std.proofs.lemmas.List.{take_all}
use Rattle.pf_model.specs.declared.expr.Expr.{Expr}
use Rattle.pf_model.specs.Resolving.{all_resolved, resolved}
use Rattle.pf_model.specs.Trees.{Tree, more, tree_of, trees_of}

all_is : (start end : ℕ) (ts : List Tree) → trees_of (map (resolved start end) ts) ≡ all_resolved start end (trees_of ts)
all_is start end [] = refl
all_is start end (t ∷ ts) = ap (more (resolved start end t)) (all_is start end ts)

pub all_done : (start end i : ℕ) (xs ys : List Expr) → map tree_of (take i xs) ≡ map (resolved start end) (map tree_of (take i ys)) → length xs ≤ i → length ys ≤ i
    → trees_of (map tree_of xs) ≡ all_resolved start end (trees_of (map tree_of ys))
all_done start end i xs ys e h k =
    ap (λ es. trees_of (map tree_of es)) (sym (take_all i xs h)) ∙ ap trees_of e
    ∙ ap (λ es. trees_of (map (resolved start end) (map tree_of es))) (take_all i ys k)
    ∙ all_is start end (map tree_of ys)
