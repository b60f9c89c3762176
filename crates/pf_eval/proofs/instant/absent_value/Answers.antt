use Rattle.std.proofs.Common.{◌≡◌, Some, [], drop, length-drop, sym, ap, ◌∙◌, arith}
use Rattle.pf_columns.specs.Columns.{cell_at}
use Rattle.pf_math.proofs.Signs.{one_is}
use Rattle.pf_eval.specs.Calls.{absent_value}
use Rattle.pf_eval.proofs.SplitArguments.{nothing_left}
use Rattle.pf_eval.proofs.instant.absent_value.Goals as goal

pub returns : goal.returns
returns c =
    let i = c.loop-column.column-index in
    let cs = c.args.columns.now in
    let none : drop i cs ≡ [] = nothing_left (drop i cs) (omega (arith, length-drop i cs)) in
    ap Some (c.new.ensures ∙ one_is) ∙ ap (λ ds. absent_value (cell_at ds c.args.step)) (sym none) ∙ c.loop-column.invariant
