-- What is found by parts.
use Rattle.std.proofs.Common.{rules, ◌≡◌, ◌∙◌, Some}
use Rattle.std.specs.Arc.{arc_value}
use Rattle.pf_base.specs.GridLists.{IsGrid}
use Rattle.pf_columns.specs.Runs.{points_over}
use Rattle.pf_core.specs.Cores.{machine_of}
use Rattle.pf_front.proofs.Divided.{by_same, found_cells, found_failed, found_whole, parts_at, same_pieces}
use Rattle.pf_front.proofs.Failures.{fails}
use Rattle.pf_front.specs.Spans.{AreAllTrue}
use Rattle.pf_front.proofs.outcome.found_of_parts.Goals as goal
use Rattle.pf_journal.specs.Machine.{open_at}
use Rattle.pf_model.specs.Direct.{Failure}

pub returns-in-Ok-clause-found : goal.returns-in-Ok-clause-found
returns-in-Ok-clause-found c o there =
    let lawful : IsGrid c.grid_of-grid.result = search rules in
    let g = c.args.gathered in
    let whole = rw c.in-Ok.is at c.in_ok-evaluated.ensures.whole in
    let values = rw c.in-Ok.is at c.in_ok-evaluated.ensures.values in
    found_cells c.args.core.now.limits o (arc_value g.legs) g.cached.items g.runs.items g.parts.items
    (parts_at c.args.core.now (open_at c.args.query (machine_of c.args.core.now).queries) g o c.requires there) c.interval.result c.grid_of-grid.result
    c.in-Ok.evaluated.items _ c.in_ok-cells-in-Ok.field-0.noted.items c.interval.ensures.interval (c.grid_of-grid.ensures.grid o there) lawful
    (whole.0 ∙ c.deref-2.ensures.value)
    (by_same (arc_value g.legs) c.deref.result.now g.runs.items c.deref-2.result.now g.parts.items (λ q rs samples. AreAllTrue samples q c.in-Ok.evaluated.items)
    c.deref.ensures c.deref-2.ensures.value values)
    (same_pieces c.interval.result c.grid_of-grid.result c.from_vec.result.items g.cached.items c.from_vec-in-Ok.result.items c.in-Ok.evaluated.items _
    c.in_ok-cells-in-Ok.field-0.noted.items c.from_vec.ensures.items c.from_vec-in-Ok.ensures.items c.in_ok-cells-in-Ok.ensures)

pub returns-in-Ok-clause-whole : goal.returns-in-Ok-clause-whole
returns-in-Ok-clause-whole c none o there =
    let g = c.args.gathered in
    found_whole c.args.core.now.limits o (arc_value g.legs) g.cached.items g.runs.items g.parts.items
    (parts_at c.args.core.now (open_at c.args.query (machine_of c.args.core.now).queries) g o c.requires there) c.interval.result c.grid_of-grid.result
    c.in-Ok.evaluated.items _ c.in_ok-cells-in-Ok.field-0.noted.items c.interval.ensures.interval (c.grid_of-grid.ensures.grid o there)
    (same_pieces c.interval.result c.grid_of-grid.result c.from_vec.result.items g.cached.items c.from_vec-in-Ok.result.items c.in-Ok.evaluated.items _
    c.in_ok-cells-in-Ok.field-0.noted.items c.from_vec.ensures.items c.from_vec-in-Ok.ensures.items c.in_ok-cells-in-Ok.ensures) none

pub returns-clause-found : goal.returns-clause-found
returns-clause-found c o there =
    let lawful : IsGrid c.grid_of-grid.result = search rules in
    let g = c.args.gathered in
    let failure : Failure = record { time = c.in-Err.failed.time; kind = c.in-Err.failed.kind } in
    let values = rw c.in-Err.is at c.in_ok-evaluated.ensures.values in
    found_failed c.args.core.now.limits o (arc_value g.legs) g.cached.items g.runs.items g.parts.items
    (parts_at c.args.core.now (open_at c.args.query (machine_of c.args.core.now).queries) g o c.requires there) c.grid_of-grid.result failure
    (c.grid_of-grid.ensures.grid o there) lawful
    (by_same (arc_value g.legs) c.deref.result.now g.runs.items c.deref-2.result.now g.parts.items (λ q rs samples. fails samples q (points_over rs) ≡ Some failure)
    c.deref.ensures c.deref-2.ensures.value values)
