-- Queries whose subqueries have a time to be evaluated at in each of their windows: this project's own.
use Rattle.std.specs.Prelude.{ℤ, ◌≤ℤ◌, Bool, true, ◌&&◌, nat_le, nat_lt, Option, Some, None}
use Rattle.pf_model.specs.Evaluation.{resolution_or_minute}
use Rattle.pf_model.specs.Reach.{reach}
use Rattle.pf_model.specs.Trees as tree
use Rattle.pf_model.specs.Trees.{Tree, Trees}

-- each subquery's window has a multiple of its resolution, wherever it ends
abbrev mutual
  pub is_steady : Tree → Bool
  is_steady (tree.number v) = true
  is_steady (tree.text bytes) = true
  is_steady (tree.unary minus arg) = is_steady arg
  is_steady (tree.binary op m left right) = is_steady left && is_steady right
  is_steady (tree.call f args) = are_steady args
  is_steady (tree.aggregate op g args) = are_steady args
  is_steady (tree.select ms range mods) = true
  is_steady (tree.subquery arg range resolution mods) =
      is_steady arg && (nat_lt 0 (resolution_or_minute resolution) && nat_le (resolution_or_minute resolution) range)

  pub are_steady : Trees → Bool
  are_steady tree.none = true
  are_steady (tree.more arg args) = is_steady arg && are_steady args

-- both are none, or neither is and the second isn't below the first
abbrev pub Rises : Option ℤ → Option ℤ → Type 0
Rises None None = Unit {0}
Rises (Some a) (Some b) = a ≤ℤ b
Rises _ _ = ⊥

-- the latest time that a query may read rises with the time, and whether it reads anything doesn't depend on the time
abbrev pub ReachRises : Tree → Type 0
ReachRises query = (t u : ℤ) → t ≤ℤ u → Rises (reach query t) (reach query u)
