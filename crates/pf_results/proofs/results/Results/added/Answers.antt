use Rattle.std.proofs.Common.{rules, ◌≡◌, Some, subst, sym}
use Rattle.std.specs.Map.{lookup}
use Rattle.pf_base.specs.Grids.{points}
use Rattle.pf_extent.specs.Steps.{AreSpaced}
use Rattle.pf_model.specs.Trees.{tree_of}
use Rattle.pf_results.specs.Entries.{is_key}
use Rattle.pf_results.specs.Keeping.{extents_of}
use Rattle.pf_results.proofs.Keys.{list_by, others_by, spaced_under, under_some}
use Rattle.pf_results.proofs.results.Results.added.Goals as goal

pub add-requires-clause-spaced : goal.add-requires-clause-spaced
add-requires-clause-spaced c =
    let e : lookup (is_key c.args.key.now) c.self.inside.cache.entries ≡ Some c.in-Some.list.now = search rules in
    subst (λ n. AreSpaced n c.in-Some.list.now) (sym c.requires.step) (spaced_under c.self.inside.cache.entries c.args.key.now c.in-Some.list.now c.self.invariant e)

pub returns-in-Some-clause-list : goal.returns-in-Some-clause-list
returns-in-Some-clause-list c =
    let e : lookup (is_key c.args.key.now) c.args.self.now.entries ≡ Some c.in-Some.list.now = search rules in
    list_by _ c.in-Some.list.now (under_some c.args.self.now c.args.key.now c.in-Some.list.now e) (tree_of c.args.expr.now) c.args.asker.now c.args.run
    (points c.args.run) c.add.result (extents_of (tree_of c.args.expr.now) c.args.asker.now c.args.run c.args.cells.now (points c.args.run)) c.add.ensures.list

pub returns-in-Some-clause-known : goal.returns-in-Some-clause-known
returns-in-Some-clause-known c =
    let e : lookup (is_key c.args.key.now) c.args.self.now.entries ≡ Some c.in-Some.list.now = search rules in
    others_by _ c.in-Some.list.now (under_some c.args.self.now c.args.key.now c.in-Some.list.now e) (tree_of c.args.expr.now) c.args.asker.now c.args.run
    (points c.args.run) c.args.cells.now c.add.result c.add.ensures.known
