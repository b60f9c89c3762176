-- The numbers in preorder of the aggregations that are evaluated shard by shard: this project's own.
use Rattle.std.specs.Prelude.{ℕ, ◌+◌, List, [], ◌∷◌, ◌++◌, ◌&&◌, cond}
use Rattle.pf_model.specs.Sharding.{is_mergeable, is_one_plain}
use Rattle.pf_model.specs.Trees as tree
use Rattle.pf_model.specs.Trees.{Tree, Trees, size}

-- those in a query whose own number is n, or in queries of which the first has it
abbrev mutual
  pub numbers_in : ℕ → Tree → List ℕ
  numbers_in n (tree.number v) = []
  numbers_in n (tree.text bytes) = []
  numbers_in n (tree.unary minus arg) = numbers_in (n + 1) arg
  numbers_in n (tree.binary op m left right) = numbers_in (n + 1) left ++ numbers_in (n + 1 + size left) right
  numbers_in n (tree.call f args) = all_numbers_in (n + 1) args
  numbers_in n (tree.aggregate op g args) = cond (is_mergeable op && is_one_plain args) (n ∷ []) [] ++ all_numbers_in (n + 1) args
  numbers_in n (tree.select ms range mods) = []
  numbers_in n (tree.subquery arg range resolution mods) = numbers_in (n + 1) arg

  pub all_numbers_in : ℕ → Trees → List ℕ
  all_numbers_in n tree.none = []
  all_numbers_in n (tree.more arg args) = numbers_in n arg ++ all_numbers_in (n + size arg) args
