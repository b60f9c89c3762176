-- Bounds of the times that stand in a query, so that each time that it reads has a number: this project's own.
use Rattle.std.specs.Prelude.{◌+◌, ◌*◌, ◌≤◌, ℤ, Bool, true, ◌&&◌, Option, Some, nat_le, unsigned_abs, unwrap_or}
use Rattle.pf_base.specs.Limits.{greatest_time}
use Rattle.pf_model.specs.declared.expr.At.{At}
use Rattle.pf_model.specs.declared.expr.At.TheVariants as at
use Rattle.pf_model.specs.declared.expr.Mods.{Mods}
use Rattle.pf_model.specs.Evaluation.{resolution_or_minute}
use Rattle.pf_model.specs.Trees as tree
use Rattle.pf_model.specs.Trees.{Tree, Trees, height}

abbrev pub is_small_at : Option At → Bool
is_small_at (Some (at.Time millis)) = nat_le millis greatest_time
is_small_at at = true

abbrev pub are_small_mods : Mods → Bool
are_small_mods mods = is_small_at mods.at && nat_le (unsigned_abs mods.offset) greatest_time

-- durations, offsets and the times of `@` are at most the greatest time
abbrev mutual
  pub is_small : Tree → Bool
  is_small (tree.number v) = true
  is_small (tree.text bytes) = true
  is_small (tree.unary minus arg) = is_small arg
  is_small (tree.binary op m left right) = is_small left && is_small right
  is_small (tree.call f args) = are_small args
  is_small (tree.aggregate op g args) = are_small args
  is_small (tree.select ms range mods) = nat_le (unwrap_or range 0) greatest_time && are_small_mods mods
  is_small (tree.subquery arg range resolution mods) =
      is_small arg && (nat_le range greatest_time && (nat_le (resolution_or_minute resolution) greatest_time && are_small_mods mods))

  pub are_small : Trees → Bool
  are_small tree.none = true
  are_small (tree.more arg args) = is_small arg && are_small args

-- the times that a tree of this height reads at a time stay small
abbrev pub HasRoom : Tree → ℤ → Type 0
HasRoom query t = unsigned_abs t + 17592186044416 * height query ≤ 2251799813685248

-- the times that it reads are asked: at most 64 levels, and small
abbrev pub is_readable : Tree → Bool
is_readable query = nat_le (height query) 64 && is_small query
