use Rattle.std.proofs.Common.{◌<◌, length, map, Some, subst, sym, ap, ◌∙◌}
use Rattle.std.specs.List.{All}
use Rattle.pf_model.specs.declared.expr.Function.TheVariants as called
use Rattle.pf_model.specs.Trees as tree
use Rattle.pf_model.specs.Trees.{tree_of}
use Rattle.pf_selectors.specs.Times.{time_at}
use Rattle.pf_index.proofs.Entries.{ids_within}
use Rattle.pf_eval.specs.Nodes.{meant}
use Rattle.pf_eval.proofs.BoundNodes.{ids_taken, ranged_distance, ranged_names, ranged_near, rest_behind, select_series, some_there}
use Rattle.pf_eval.proofs.GivenParts.{room_one}
use Rattle.pf_eval.proofs.bound.ranged.Goals as goal

pub take_first-list-requires : goal.take_first-list-requires
take_first-list-requires c =
    some_there (λ v. v.items) c.args.snap.now.labels c.args.selector.now (tree_of c.args.query.now)
    (select_series c.args.snap.now.labels (tree_of c.args.query.now) c.args.selector.now (Some c.args.range) c.args.mods c.requires.tree)
    c.args.series.now c.requires.bound

pub over_range-requires-clause-inside : goal.over_range-requires-clause-inside
over_range-requires-clause-inside c =
    let ls = c.args.snap.now.labels in
    subst (All (λ id. id < length ls))
    (sym (ids_taken c.args.snap.now.labels c.args.selector.now (tree_of c.args.query.now)
    (select_series c.args.snap.now.labels (tree_of c.args.query.now) c.args.selector.now (Some c.args.range) c.args.mods c.requires.tree)
    (map (λ v. v.items) c.args.series.now) c.requires.bound c.take_first-list.result.ids.now (map (λ v. v.items) c.take_first-list.result.rest.now) c.take_first-list.ensures))
    (ids_within c.args.selector.now ls)

pub over_range-requires-clause-names : goal.over_range-requires-clause-names
over_range-requires-clause-names c = ranged_names (tree_of c.args.query.now) c.args.selector.now c.args.range c.args.mods c.requires.tree c.requires.evaluated

pub over_range-requires-clause-range : goal.over_range-requires-clause-range
over_range-requires-clause-range c = ranged_distance (tree_of c.args.query.now) c.args.selector.now c.args.range c.args.mods c.requires.tree c.requires.evaluated

pub over_range-requires-clause-near : goal.over_range-requires-clause-near
over_range-requires-clause-near c = ranged_near (tree_of c.args.query.now) c.args.selector.now c.args.range c.args.mods c.requires.tree c.requires.evaluated

pub over_range-requires-clause-room : goal.over_range-requires-clause-room
over_range-requires-clause-room c = room_one (tree_of c.args.query.now) c.args.times.now c.requires.room

pub returns-clause-rest : goal.returns-clause-rest
returns-clause-rest c =
    rest_behind c.args.snap.now.labels c.args.selector.now (tree_of c.args.query.now)
    (select_series c.args.snap.now.labels (tree_of c.args.query.now) c.args.selector.now (Some c.args.range) c.args.mods c.requires.tree)
    (map (λ v. v.items) c.args.series.now) c.requires.bound c.take_first-list.result.ids.now (map (λ v. v.items) c.take_first-list.result.rest.now) c.take_first-list.ensures

pub returns-clause-node : goal.returns-clause-node
returns-clause-node c = λ samples stands apart k h.
    c.in_ok-node.ensures.value samples stands apart
    (ids_taken c.args.snap.now.labels c.args.selector.now (tree_of c.args.query.now)
    (select_series c.args.snap.now.labels (tree_of c.args.query.now) c.args.selector.now (Some c.args.range) c.args.mods c.requires.tree)
    (map (λ v. v.items) c.args.series.now) c.requires.bound c.take_first-list.result.ids.now (map (λ v. v.items) c.take_first-list.result.rest.now) c.take_first-list.ensures)
    k h
    ∙ ap (λ q. meant samples (tree.call (called.Range c.args.f) (tree.more q tree.none)) (time_at c.args.times.now k)) (sym c.requires.tree)
