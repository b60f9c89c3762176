use Rattle.std.proofs.Common.{◌<◌, ◌+◌, ◌*◌, rules, subst, sym, ap, ◌∙◌, pos}
use Rattle.pf_columns.specs.Steps.{step_at}
use Rattle.pf_model.specs.Evaluation.{eval, read_time, selected}
use Rattle.pf_model.specs.Legs.{of_shard}
use Rattle.pf_model.specs.declared.cell.StepCell.TheVariants.{Good}
use Rattle.pf_model.specs.Trees.{tree_of}
use Rattle.pf_model.proofs.TreeOf.{aggregate_tree}
use Rattle.pf_shard.specs.Groups.{groups_at}
use Rattle.pf_eval.specs.Plain.{plain_matchers}
use Rattle.pf_eval.proofs.PlainParts.{argument_evaluated, argument_low, argument_plain, argument_selects, part_of_argument}
use Rattle.pf_eval.proofs.legs.node_groups.Goals as goal

pub returns-in-Some : goal.returns-in-Some
returns-in-Some c = λ samples shard shards stands apart ids k h.
    let run = c.args.run.now in
    let e = c.index-arg.result.now in
    let ms = c.in-Some.read.selector.now in
    let mods = c.in-Some.read.mods in
    let is = ap tree_of c.in-Aggregate.is ∙ aggregate_tree c.in-Aggregate.op c.in-Aggregate.grouping c.in-Aggregate.args in
    let selects = argument_selects (tree_of c.args.node.now) c.in-Aggregate.op c.in-Aggregate.grouping c.in-Aggregate.args.items is c.requires.sharded e (search rules) in
    let rows = of_shard shard shards samples in
    let t = pos (run.start + k * run.step) in
    part_of_argument (tree_of c.args.node.now) c.in-Aggregate.op c.in-Aggregate.grouping c.in-Aggregate.args.items is c.requires.sharded e (search rules)
    rows t (Good (selected rows ms (read_time mods t))) (groups_at c.in_ok-groups.groups k)
    (sym (ap (λ x. eval rows x t) c.in-Some.ensures))
    (c.in_ok-groups.ensures samples ms shard shards stands (ids ∙ search (rules, selects, ap plain_matchers c.in-Some.ensures)) k h)

pub plain_steps-requires-clause-plain : goal.plain_steps-requires-clause-plain
plain_steps-requires-clause-plain c =
    argument_plain (tree_of c.args.node.now) c.in-Aggregate.op c.in-Aggregate.grouping c.in-Aggregate.args.items
    (ap tree_of c.in-Aggregate.is ∙ aggregate_tree c.in-Aggregate.op c.in-Aggregate.grouping c.in-Aggregate.args) c.requires.sharded c.index-arg.result.now (search rules)

pub plain_steps-requires-clause-evaluated : goal.plain_steps-requires-clause-evaluated
plain_steps-requires-clause-evaluated c =
    argument_evaluated (tree_of c.args.node.now) c.in-Aggregate.op c.in-Aggregate.grouping c.in-Aggregate.args.items
    (ap tree_of c.in-Aggregate.is ∙ aggregate_tree c.in-Aggregate.op c.in-Aggregate.grouping c.in-Aggregate.args) c.requires.sharded c.index-arg.result.now (search rules)
    c.requires.evaluated

pub plain_steps-requires-clause-low : goal.plain_steps-requires-clause-low
plain_steps-requires-clause-low c =
    argument_low (tree_of c.args.node.now) c.in-Aggregate.op c.in-Aggregate.grouping c.in-Aggregate.args.items
    (ap tree_of c.in-Aggregate.is ∙ aggregate_tree c.in-Aggregate.op c.in-Aggregate.grouping c.in-Aggregate.args) c.requires.sharded c.index-arg.result.now (search rules)
    c.requires.low

pub returns : goal.returns
returns c = λ samples shard shards stands apart ids k h.
    let run = c.args.run.now in
    let e = c.index-arg.result.now in
    let is = ap tree_of c.in-Aggregate.is ∙ aggregate_tree c.in-Aggregate.op c.in-Aggregate.grouping c.in-Aggregate.args in
    let selects = argument_selects (tree_of c.args.node.now) c.in-Aggregate.op c.in-Aggregate.grouping c.in-Aggregate.args.items is c.requires.sharded e (search rules) in
    part_of_argument (tree_of c.args.node.now) c.in-Aggregate.op c.in-Aggregate.grouping c.in-Aggregate.args.items is c.requires.sharded e (search rules)
    (of_shard shard shards samples) (pos (run.start + k * run.step)) (step_at c.in_ok-steps.steps k) (groups_at c.in_ok-groups-2.groups k)
    (c.in_ok-steps.ensures samples shard shards stands apart (ids ∙ search (rules, selects)) k h)
    (c.in_ok-groups-2.ensures k (subst (λ n. k < n) (sym c.len.ensures.value) h))
