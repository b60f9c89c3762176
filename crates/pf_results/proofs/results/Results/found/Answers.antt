use Rattle.std.proofs.Common.{rules, ◌≡◌, Some, subst, sym}
use Rattle.std.specs.Map.{lookup}
use Rattle.pf_base.specs.Grids.{points}
use Rattle.pf_extent.specs.Steps.{AreSpaced}
use Rattle.pf_model.specs.Trees.{tree_of}
use Rattle.pf_results.specs.Entries.{is_key}
use Rattle.pf_results.specs.Serving.{steps_of}
use Rattle.pf_results.proofs.Keys.{cached_by, runs_by, spaced_under, under_some}
use Rattle.pf_results.proofs.results.Results.found.Goals as goal

pub find-requires-clause-spaced : goal.find-requires-clause-spaced
find-requires-clause-spaced c =
    let e : lookup (is_key c.args.key.now) c.self.inside.cache.entries ≡ Some c.in-Some.list.now = search rules in
    subst (λ n. AreSpaced n c.in-Some.list.now) (sym c.requires.step) (spaced_under c.self.inside.cache.entries c.args.key.now c.in-Some.list.now c.self.invariant e)

pub returns-in-Some-clause-cached : goal.returns-in-Some-clause-cached
returns-in-Some-clause-cached c =
    let e : lookup (is_key c.args.key.now) c.args.self.now.entries ≡ Some c.in-Some.list.now = search rules in
    cached_by _ c.in-Some.list.now (under_some c.args.self.now c.args.key.now c.in-Some.list.now e) (tree_of c.args.expr.now) c.args.asker.now c.args.run
    (points c.args.run) c.find.result (steps_of c.args.found.cached.items) c.find.ensures.cached

pub returns-in-Some-clause-runs : goal.returns-in-Some-clause-runs
returns-in-Some-clause-runs c =
    let e : lookup (is_key c.args.key.now) c.args.self.now.entries ≡ Some c.in-Some.list.now = search rules in
    runs_by _ c.in-Some.list.now (under_some c.args.self.now c.args.key.now c.in-Some.list.now e) (tree_of c.args.expr.now) c.args.asker.now c.args.run
    (points c.args.run) c.find.result c.args.found.runs.items c.find.ensures.runs

pub returns-in-None-clause-runs : goal.returns-in-None-clause-runs
returns-in-None-clause-runs c =
    runs_by _ c.empty.result (search rules) (tree_of c.args.expr.now) c.args.asker.now c.args.run
    (points c.args.run) c.find-in-None-2.result c.args.found.runs.items c.find-in-None-2.ensures.runs
