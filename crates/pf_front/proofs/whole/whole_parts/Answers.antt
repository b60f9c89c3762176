-- The whole grid, piece by piece.
use Rattle.std.proofs.Common.{rules, refl, sym, subst}
use Rattle.std.specs.Arc.{arc_value}
use Rattle.pf_base.specs.GridLists.{IsGrid}
use Rattle.pf_block.specs.Snaps.{SnapData}
use Rattle.pf_core.specs.Cores.{machine_of}
use Rattle.pf_front.proofs.WholeGrid.{binds_bound, whole_parts}
use Rattle.pf_front.proofs.whole.whole_parts.Goals as goal
use Rattle.pf_journal.specs.Machine.{open_at}
use Rattle.pf_shard.specs.Bound.{AreBoundOver}
use Rattle.pf_shard.specs.Lawful.{ResolvedLegs}

pub parts_over_all-requires-clause-bound : goal.parts_over_all-requires-clause-bound
parts_over_all-requires-clause-bound c =
    subst (λ (legs : ResolvedLegs). AreBoundOver legs c.deref-2.result.now.labels) (sym c.deref.ensures)
    (subst (λ (snap : SnapData). AreBoundOver (arc_value c.in_ok-legs.field-0.legs) snap.labels) (sym c.deref-2.ensures)
    (binds_bound c.args.core.now.limits (open_at c.args.query (machine_of c.args.core.now).queries) (arc_value c.in_ok-legs.field-0.legs)
    (arc_value c.in_ok-legs.field-0.snap) c.in_ok-legs.ensures))

pub returns-clause-parts : goal.returns-clause-parts
returns-clause-parts c =
    let lawful : IsGrid c.grid_of-grid.result = search rules in
    whole_parts c.args.core.now (open_at c.args.query (machine_of c.args.core.now).queries) (arc_value c.in_ok-legs.field-0.legs) c.deref.result.now
    (arc_value c.in_ok-legs.field-0.snap) c.deref-2.result.now c.grid_of-grid.result c.interval.result c.deref-3.result.now _ c.in_ok-legs.ensures
    c.grid_of-grid.ensures.grid c.grid_of-grid.ensures.instant lawful c.interval.ensures.interval c.deref.ensures c.deref-2.ensures c.deref-3.ensures.value refl
    c.new.ensures.items c.in_ok-runs.ensures c.in_ok-parts.ensures
