-- A query with its range put in: `start()` and `end()` are the first and the last time of its grid (Prometheus, Querying
-- basics: @ modifier), and a subquery without a resolution has one minute, which is this project's own.
use Rattle.std.specs.Prelude.{ℕ, ◌+◌, ◌-◌, ◌*◌, Option, Some, None}
use Rattle.pf_base.specs.GridLists.{GridData}
use Rattle.pf_model.specs.declared.expr.At.{At}
use Rattle.pf_model.specs.declared.expr.At.TheVariants as at
use Rattle.pf_model.specs.declared.expr.Mods.{Mods}
use Rattle.pf_model.specs.Evaluation.{resolution_or_minute}
use Rattle.pf_model.specs.Trees as tree
use Rattle.pf_model.specs.Trees.{Tree, Trees}

abbrev pub resolved_at : ℕ → ℕ → Option At → Option At
resolved_at start end None = None
resolved_at start end (Some (at.Time millis)) = Some (at.Time millis)
resolved_at start end (Some at.Start) = Some (at.Time start)
resolved_at start end (Some at.End) = Some (at.Time end)

abbrev pub resolved_mods : ℕ → ℕ → Mods → Mods
resolved_mods start end mods = record { at = resolved_at start end mods.at; offset = mods.offset }

abbrev mutual
  pub resolved : ℕ → ℕ → Tree → Tree
  resolved start end (tree.number v) = tree.number v
  resolved start end (tree.text bytes) = tree.text bytes
  resolved start end (tree.unary minus arg) = tree.unary minus (resolved start end arg)
  resolved start end (tree.binary op m left right) = tree.binary op m (resolved start end left) (resolved start end right)
  resolved start end (tree.call f args) = tree.call f (all_resolved start end args)
  resolved start end (tree.aggregate op g args) = tree.aggregate op g (all_resolved start end args)
  resolved start end (tree.select ms range mods) = tree.select ms range (resolved_mods start end mods)
  resolved start end (tree.subquery arg range resolution mods) =
      tree.subquery (resolved start end arg) range (Some (resolution_or_minute resolution)) (resolved_mods start end mods)

  pub all_resolved : ℕ → ℕ → Trees → Trees
  all_resolved start end tree.none = tree.none
  all_resolved start end (tree.more arg args) = tree.more (resolved start end arg) (all_resolved start end args)

-- over a grid
abbrev pub resolved_over : GridData → Tree → Tree
resolved_over g query = resolved g.start (g.start + (g.len - 1) * g.step) query
