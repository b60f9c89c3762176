-- Queries in which nothing is left to put in: this project's own.
use Rattle.std.specs.Prelude.{Bool, true, false, ◌&&◌, Option, Some, None, is_some}
use Rattle.pf_model.specs.declared.expr.At.{At}
use Rattle.pf_model.specs.declared.expr.At.TheVariants as at
use Rattle.pf_model.specs.Trees as tree
use Rattle.pf_model.specs.Trees.{Tree, Trees}

-- neither `start()` nor `end()`
abbrev pub is_settled_at : Option At → Bool
is_settled_at None = true
is_settled_at (Some (at.Time millis)) = true
is_settled_at (Some at.Start) = false
is_settled_at (Some at.End) = false

-- there is no `start()` or `end()`, and each subquery has a resolution
abbrev mutual
  pub is_settled : Tree → Bool
  is_settled (tree.number v) = true
  is_settled (tree.text bytes) = true
  is_settled (tree.unary minus arg) = is_settled arg
  is_settled (tree.binary op m left right) = is_settled left && is_settled right
  is_settled (tree.call f args) = are_settled args
  is_settled (tree.aggregate op g args) = are_settled args
  is_settled (tree.select ms range mods) = is_settled_at mods.at
  is_settled (tree.subquery arg range resolution mods) = is_settled arg && (is_some resolution && is_settled_at mods.at)

  pub are_settled : Trees → Bool
  are_settled tree.none = true
  are_settled (tree.more arg args) = is_settled arg && are_settled args
