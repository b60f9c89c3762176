-- The matrix of cells.
use Rattle.std.proofs.Common.{rules, ◌∙◌, length, ap, arith}
use Rattle.pf_base.specs.GridLists.{IsGrid}
use Rattle.pf_core.specs.Cores.{machine_of}
use Rattle.pf_front.proofs.Offers.{many_cells, matrix_is}
use Rattle.pf_front.specs.Spans.{all_of}
use Rattle.pf_front.proofs.outcome.matrix_of.Goals as goal
use Rattle.pf_journal.specs.Machine.{open_at}

pub join_cells-requires : goal.join_cells-requires
join_cells-requires c =
    let many =
    many_cells c.args.core.now.limits (open_at c.args.query (machine_of c.args.core.now).queries) c.grid_of-grid.result (all_of c.args.pieces.items)
    c.requires.open c.grid_of-grid.ensures.grid c.requires.cells in
    let lawful : IsGrid c.grid_of-grid.result = search rules in
    let most = lawful.most in
    omega (arith, many, most)

pub gather-requires : goal.gather-requires
gather-requires c =
    ap length c.in_ok-cells.ensures
    ∙ many_cells c.args.core.now.limits (open_at c.args.query (machine_of c.args.core.now).queries) c.grid_of-grid.result (all_of c.args.pieces.items)
    c.requires.open c.grid_of-grid.ensures.grid c.requires.cells

pub returns : goal.returns
returns c o there =
    matrix_is c.args.core.now.limits o c.grid_of-grid.result (all_of c.args.pieces.items) c.in_ok-cells.cells c.in_ok-matrix.matrix (c.grid_of-grid.ensures.grid o there)
    (c.requires.cells o there) c.in_ok-cells.ensures c.in_ok-matrix.ensures
