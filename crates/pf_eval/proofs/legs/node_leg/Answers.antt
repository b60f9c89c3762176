use Rattle.std.proofs.Common.{◌≡◌, ◌<◌, ◌+◌, ◌*◌, ◌/◌, ◌%◌, ℕ, List, [], Vec, Global, Some, get_or, rules, subst, sym, ap, ◌∙◌, pos, length}
use Rattle.std.proofs.lemmas.List.{get_or-map, length-map}
use Rattle.pf_model.specs.Lists.{at}
use Rattle.pf_model.specs.Trees.{Tree, preorder, tree_of}
use Rattle.pf_shard.specs.Bound.{node_matchers}
use Rattle.pf_shard.specs.Lawful.{ResolvedData, ResolvedLegs}
use Rattle.pf_eval.proofs.NodeLegs.{leg_evaluated, leg_is_node, leg_low, leg_reads, leg_sharded, number_within, series_within, shard_within}
use Rattle.pf_eval.proofs.legs.node_leg.Goals as goal

abbrev list : Vec ℕ Global → List ℕ
list v = v.items

pub numbered-node-requires : goal.numbered-node-requires
numbered-node-requires c =
    let number = c.index-number.result.now in
    let is = subst (λ (l : ResolvedLegs). number ≡ get_or l.nodes (c.args.leg / l.shards) number) c.legs.view_is c.index-number.ensures in
    let query_is = ap tree_of c.deref-2.ensures ∙ ap (λ (r : ResolvedData). r.query) c.behind-legs.view_is ∙ ap (λ (r : ResolvedData). r.query) c.deref.ensures
    ∙ ap (λ (l : ResolvedLegs). l.resolved.query) c.legs.view_is in
    subst (λ (q : Tree). number < length (preorder q)) (sym query_is)
    (number_within c.args.legs.now c.args.snap.now.labels c.requires.lawful c.requires.nodes c.requires.bound c.args.leg c.requires.leg number is)

pub index-ids-requires : goal.index-ids-requires
index-ids-requires c =
    let within = subst (λ (l : ResolvedLegs). c.args.leg < length l.series) (sym c.legs.view_is)
    (series_within c.args.legs.now c.args.snap.now.labels c.requires.lawful c.requires.nodes c.requires.bound c.args.leg c.requires.leg) in
    subst (λ n. c.args.leg < n) (length-map c.legs.inside.series.items list ∙ search rules) within

pub node_groups-requires-clause-sharded : goal.node_groups-requires-clause-sharded
node_groups-requires-clause-sharded c =
    let number = c.index-number.result.now in
    let is = subst (λ (l : ResolvedLegs). number ≡ get_or l.nodes (c.args.leg / l.shards) number) c.legs.view_is c.index-number.ensures in
    let query_is = ap tree_of c.deref-2.ensures ∙ ap (λ (r : ResolvedData). r.query) c.behind-legs.view_is ∙ ap (λ (r : ResolvedData). r.query) c.deref.ensures
    ∙ ap (λ (l : ResolvedLegs). l.resolved.query) c.legs.view_is in
    let stands = subst (λ (q : Tree). at (preorder q) number ≡ Some (tree_of c.numbered-node.result.now)) query_is c.numbered-node.ensures in
    leg_sharded c.args.legs.now c.args.snap.now.labels c.requires.lawful c.requires.nodes c.requires.bound c.args.leg c.requires.leg number is
    (tree_of c.numbered-node.result.now) stands

pub node_groups-requires-clause-evaluated : goal.node_groups-requires-clause-evaluated
node_groups-requires-clause-evaluated c =
    let number = c.index-number.result.now in
    let is = subst (λ (l : ResolvedLegs). number ≡ get_or l.nodes (c.args.leg / l.shards) number) c.legs.view_is c.index-number.ensures in
    let query_is = ap tree_of c.deref-2.ensures ∙ ap (λ (r : ResolvedData). r.query) c.behind-legs.view_is ∙ ap (λ (r : ResolvedData). r.query) c.deref.ensures
    ∙ ap (λ (l : ResolvedLegs). l.resolved.query) c.legs.view_is in
    let stands = subst (λ (q : Tree). at (preorder q) number ≡ Some (tree_of c.numbered-node.result.now)) query_is c.numbered-node.ensures in
    leg_evaluated c.args.legs.now c.args.snap.now.labels c.requires.lawful c.requires.nodes c.requires.bound c.args.leg c.requires.leg number is
    (tree_of c.numbered-node.result.now) stands

pub node_groups-requires-clause-low : goal.node_groups-requires-clause-low
node_groups-requires-clause-low c =
    let number = c.index-number.result.now in
    let is = subst (λ (l : ResolvedLegs). number ≡ get_or l.nodes (c.args.leg / l.shards) number) c.legs.view_is c.index-number.ensures in
    let query_is = ap tree_of c.deref-2.ensures ∙ ap (λ (r : ResolvedData). r.query) c.behind-legs.view_is ∙ ap (λ (r : ResolvedData). r.query) c.deref.ensures
    ∙ ap (λ (l : ResolvedLegs). l.resolved.query) c.legs.view_is in
    let stands = subst (λ (q : Tree). at (preorder q) number ≡ Some (tree_of c.numbered-node.result.now)) query_is c.numbered-node.ensures in
    leg_low c.args.legs.now c.args.snap.now.labels c.requires.lawful c.requires.nodes c.requires.bound c.args.leg c.requires.leg number is
    (tree_of c.numbered-node.result.now) stands

pub node_groups-requires-clause-inside : goal.node_groups-requires-clause-inside
node_groups-requires-clause-inside c =
    let number = c.index-number.result.now in
    let t = tree_of c.numbered-node.result.now in
    let is = subst (λ (l : ResolvedLegs). number ≡ get_or l.nodes (c.args.leg / l.shards) number) c.legs.view_is c.index-number.ensures in
    let query_is = ap tree_of c.deref-2.ensures ∙ ap (λ (r : ResolvedData). r.query) c.behind-legs.view_is ∙ ap (λ (r : ResolvedData). r.query) c.deref.ensures
    ∙ ap (λ (l : ResolvedLegs). l.resolved.query) c.legs.view_is in
    let stands = subst (λ (q : Tree). at (preorder q) number ≡ Some t) query_is c.numbered-node.ensures in
    let within = subst (λ (l : ResolvedLegs). c.args.leg < length l.series) (sym c.legs.view_is)
    (series_within c.args.legs.now c.args.snap.now.labels c.requires.lawful c.requires.nodes c.requires.bound c.args.leg c.requires.leg) in
    let inside = subst (λ n. c.args.leg < n) (length-map c.legs.inside.series.items list) within in
    shard_within (c.args.leg % c.args.legs.now.shards) c.args.legs.now.shards (node_matchers (Some t)) c.args.snap.now.labels c.deref-3.result.now
    (c.deref-3.ensures.value ∙ ap list c.index-ids.ensures
    ∙ sym (get_or-map list c.legs.inside.series.items c.args.leg c.index-ids.result.now [] inside)
    ∙ ap (λ (l : ResolvedLegs). get_or l.series c.args.leg []) c.legs.view_is
    ∙ leg_reads c.args.legs.now c.args.snap.now.labels c.requires.lawful c.requires.nodes c.requires.bound c.args.leg c.requires.leg number is t stands [])

pub returns : goal.returns
returns c = λ samples stands_for apart k h.
    let run = c.args.run.now in
    let number = c.index-number.result.now in
    let t = tree_of c.numbered-node.result.now in
    let is = subst (λ (l : ResolvedLegs). number ≡ get_or l.nodes (c.args.leg / l.shards) number) c.legs.view_is c.index-number.ensures in
    let query_is = ap tree_of c.deref-2.ensures ∙ ap (λ (r : ResolvedData). r.query) c.behind-legs.view_is ∙ ap (λ (r : ResolvedData). r.query) c.deref.ensures
    ∙ ap (λ (l : ResolvedLegs). l.resolved.query) c.legs.view_is in
    let stands = subst (λ (q : Tree). at (preorder q) number ≡ Some t) query_is c.numbered-node.ensures in
    let within = subst (λ (l : ResolvedLegs). c.args.leg < length l.series) (sym c.legs.view_is)
    (series_within c.args.legs.now c.args.snap.now.labels c.requires.lawful c.requires.nodes c.requires.bound c.args.leg c.requires.leg) in
    let inside = subst (λ n. c.args.leg < n) (length-map c.legs.inside.series.items list) within in
    c.in_ok-groups.ensures samples (c.args.leg % c.args.legs.now.shards) c.args.legs.now.shards stands_for apart
    (c.deref-3.ensures.value ∙ ap list c.index-ids.ensures
    ∙ sym (get_or-map list c.legs.inside.series.items c.args.leg c.index-ids.result.now [] inside)
    ∙ ap (λ (l : ResolvedLegs). get_or l.series c.args.leg []) c.legs.view_is
    ∙ leg_reads c.args.legs.now c.args.snap.now.labels c.requires.lawful c.requires.nodes c.requires.bound c.args.leg c.requires.leg number is t stands []) k h
    ∙ leg_is_node c.args.legs.now c.args.snap.now.labels c.requires.lawful c.requires.nodes c.requires.bound c.args.leg c.requires.leg number is t stands
    samples (pos (run.start + k * run.step))
