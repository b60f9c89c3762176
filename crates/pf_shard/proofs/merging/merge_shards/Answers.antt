use Rattle.std.proofs.Common.{map, subst, sym, ap, ◌∙◌}
use Rattle.pf_model.specs.declared.cell.StepCell.TheVariants.{Good}
use Rattle.pf_columns.specs.Columns.{AreRising, cell_at, columns_labels}
use Rattle.pf_columns.specs.Steps.{bad_in, unless_bad}
use Rattle.pf_shard.specs.Groups.{keys_in}
use Rattle.pf_shard.specs.JoinedGroups.{finished_column}
use Rattle.pf_shard.proofs.MergedShards.{finished_rise, merged_steps}
use Rattle.pf_shard.proofs.merging.merge_shards.Goals as goal

pub invariant_of-result : goal.invariant_of-result
invariant_of-result c =
    subst (λ cs. AreRising (columns_labels cs)) (sym c.in_ok-columns.ensures)
    (finished_rise c.args.op c.known.inside.columns.items (subst (λ g. AreRising (keys_in g.columns)) (sym c.known.view_is) c.in_ok-known.ensures.rising))

pub returns : goal.returns
returns c = λ k h.
    (λ i. unless_bad (bad_in (ap (λ g. g.bads) c.known.view_is i) k) (Good (cell_at ((c.in_ok-columns.ensures ∙ ap (λ g. map (finished_column c.args.op) g.columns) c.known.view_is) i) k)))
    ∙ merged_steps c.args.op c.args.len c.args.parts.items c.in_ok-known.known.columns c.in_ok-known.known.bads c.in_ok-known.ensures.bads c.in_ok-known.ensures.groups k h
