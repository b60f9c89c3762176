use Rattle.std.proofs.Common.{◌<◌, length, map, subst, sym, ap, ◌∙◌}
use Rattle.std.specs.List.{All}
use Rattle.pf_model.specs.Trees.{tree_of}
use Rattle.pf_columns.specs.Ranks.{ranking}
use Rattle.pf_selectors.specs.Times.{time_at}
use Rattle.pf_index.proofs.Entries.{ids_within}
use Rattle.pf_eval.specs.Nodes.{meant}
use Rattle.pf_eval.proofs.BoundNodes.{ids_taken, ranked_near, ranked_series, rest_behind, some_there}
use Rattle.pf_eval.proofs.GivenParts.{room_one}
use Rattle.pf_eval.proofs.bound.ranked.Goals as goal

pub take_first-list-requires : goal.take_first-list-requires
take_first-list-requires c =
    some_there (λ v. v.items) c.args.snap.now.labels c.args.asked.selector.now (tree_of c.args.query.now)
    (ranked_series c.args.snap.now.labels (tree_of c.args.query.now) (ranking c.args.asked.rank) c.args.grouping.now c.args.asked.param c.args.asked.selector.now c.args.asked.mods c.requires.tree)
    c.args.series.now c.requires.bound

pub ranked_selection-requires-clause-inside : goal.ranked_selection-requires-clause-inside
ranked_selection-requires-clause-inside c =
    let ls = c.args.snap.now.labels in
    subst (All (λ id. id < length ls))
    (sym (ids_taken c.args.snap.now.labels c.args.asked.selector.now (tree_of c.args.query.now)
    (ranked_series c.args.snap.now.labels (tree_of c.args.query.now) (ranking c.args.asked.rank) c.args.grouping.now c.args.asked.param c.args.asked.selector.now c.args.asked.mods c.requires.tree)
    (map (λ v. v.items) c.args.series.now) c.requires.bound c.take_first-list.result.ids.now (map (λ v. v.items) c.take_first-list.result.rest.now) c.take_first-list.ensures))
    (ids_within c.args.asked.selector.now ls)

pub ranked_selection-requires-clause-near : goal.ranked_selection-requires-clause-near
ranked_selection-requires-clause-near c = ranked_near (tree_of c.args.query.now) (ranking c.args.asked.rank) c.args.grouping.now c.args.asked.param c.args.asked.selector.now c.args.asked.mods c.requires.tree c.requires.evaluated

pub ranked_selection-requires-clause-room : goal.ranked_selection-requires-clause-room
ranked_selection-requires-clause-room c = room_one (tree_of c.args.query.now) c.args.times.now c.requires.room

pub returns-clause-rest : goal.returns-clause-rest
returns-clause-rest c =
    rest_behind c.args.snap.now.labels c.args.asked.selector.now (tree_of c.args.query.now)
    (ranked_series c.args.snap.now.labels (tree_of c.args.query.now) (ranking c.args.asked.rank) c.args.grouping.now c.args.asked.param c.args.asked.selector.now c.args.asked.mods c.requires.tree)
    (map (λ v. v.items) c.args.series.now) c.requires.bound c.take_first-list.result.ids.now (map (λ v. v.items) c.take_first-list.result.rest.now) c.take_first-list.ensures

pub returns-clause-node : goal.returns-clause-node
returns-clause-node c = λ samples stands apart k h.
    c.in_ok-node.ensures.value samples c.args.asked.selector.now stands
    (ids_taken c.args.snap.now.labels c.args.asked.selector.now (tree_of c.args.query.now)
    (ranked_series c.args.snap.now.labels (tree_of c.args.query.now) (ranking c.args.asked.rank) c.args.grouping.now c.args.asked.param c.args.asked.selector.now c.args.asked.mods c.requires.tree)
    (map (λ v. v.items) c.args.series.now) c.requires.bound c.take_first-list.result.ids.now (map (λ v. v.items) c.take_first-list.result.rest.now) c.take_first-list.ensures)
    k h
    ∙ ap (λ q. meant samples q (time_at c.args.times.now k)) (sym c.requires.tree)
