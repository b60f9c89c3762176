-- Forms of expressions: this project's own.
use Rattle.std.specs.Prelude.{Bool, true, false, Some, ◌||◌}
use Rattle.pf_model.specs.Trees as tree
use Rattle.pf_model.specs.Trees.{Tree, Trees}

abbrev pub is_number : Tree → Bool
is_number (tree.number v) = true
is_number query = false

-- a range selector
abbrev pub is_range : Tree → Bool
is_range (tree.select ms (Some range) mods) = true
is_range query = false

-- a selector stands in it
abbrev mutual
  pub has_selector : Tree → Bool
  has_selector (tree.number v) = false
  has_selector (tree.text bytes) = false
  has_selector (tree.unary minus arg) = has_selector arg
  has_selector (tree.binary op m left right) = has_selector left || has_selector right
  has_selector (tree.call f args) = any_has_selector args
  has_selector (tree.aggregate op g args) = any_has_selector args
  has_selector (tree.select ms range mods) = true
  has_selector (tree.subquery arg range resolution mods) = has_selector arg

  pub any_has_selector : Trees → Bool
  any_has_selector tree.none = false
  any_has_selector (tree.more arg args) = has_selector arg || any_has_selector args
