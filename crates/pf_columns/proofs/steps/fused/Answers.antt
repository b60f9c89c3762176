use Rattle.std.proofs.Common.{rules, ◌≡◌, ◌∷◌, [], length, refl, sym, ap, ◌∙◌, subst, arith}
use Rattle.std.specs.Vec.Iter.{into_iter_items}
use Rattle.pf_base.specs.Sorting.{isort}
use Rattle.pf_columns.specs.Steps.{bad_in, column_cmp, unless_bad}
use Rattle.pf_columns.proofs.Fusing.{AreFused, fused_cell, fused_first, fused_more, none_fused, nothing_left}
use Rattle.pf_columns.proofs.SortedColumns.{sorted_alike}
use Rattle.pf_columns.proofs.steps.fused.Goals as goal

-- no column
pub returns-in_default : goal.returns-in_default
returns-in_default c =
    let many : length c.in_ok-sorted.sorted.items ≡ 0 = search rules in
    λ k h. none_fused c.args.columns.items c.new.result.items c.args.bads.items k
    (sym c.in_ok-sorted.ensures ∙ nothing_left c.in_ok-sorted.sorted.items many) c.new.ensures.items

pub loop-column-init : goal.loop-column-init
loop-column-init c =
    let all = c.args.columns.items in
    let cs = isort column_cmp all in
    let bads = c.args.bads.items in
    let behind = into_iter_items c.into_iter-column-iterator.result in
    let cut : cs ≡ c.in-Some.first ∷ behind =
    sym c.in_ok-sorted.ensures ∙ sym c.into_iter-rest.ensures.rest ∙ c.in-Some.ensures.items
    ∙ ap (λ it. c.in-Some.first ∷ into_iter_items it) (sym c.into_iter-column-iterator.ensures.into_iter_gives) in (
      subst (λ done. AreFused cs bads c.args.len done c.in-Some.first bads behind) (sym c.new-2.ensures.items)
          (fused_first cs bads c.args.len all c.in-Some.first behind refl cut),
      search rules,
    )

pub loop-column-preserved : goal.loop-column-preserved
loop-column-preserved c =
    let l = c.loop-column in
    let steps : into_iter_items l.column-iterator ≡ c.in-Some-column.column ∷ into_iter_items c.next-in-loop-column.new.self = c.in-Some-column.ensures.steps.0 in
    let bads = c.args.bads.items in
    let after = c.fuse.new.fusing in
    let behind = into_iter_items c.next-in-loop-column.new.self in
    let cs = isort column_cmp c.args.columns.items in (
      fused_more cs bads c.args.len l.fusing.done.items after.done.items l.fusing.last c.in-Some-column.column after.last l.fusing.bads.items after.bads.items behind
          (subst (λ ds. AreFused cs bads c.args.len l.fusing.done.items l.fusing.last l.fusing.bads.items ds) steps l.invariant.0)
          c.in_ok-fuse.ensures.same c.in_ok-fuse.ensures.other,
      let was = l.invariant.1 in
          let gone = c.in-Some-column.ensures.steps.1 in
          let short = ap length steps in
          omega arith,
    )

pub returns : goal.returns
returns c =
    let l = c.loop-column in
    let bads = c.args.bads.items in
    let cs = isort column_cmp c.args.columns.items in
    let none = c.in-None.ensures.steps in
    let empty : into_iter_items l.column-iterator ≡ [] = nothing_left _ (sym l.invariant.1 ∙ none.0) in
    let f : AreFused cs bads c.args.len l.fusing.done.items l.fusing.last l.fusing.bads.items [] =
    subst (λ ds. AreFused cs bads c.args.len l.fusing.done.items l.fusing.last l.fusing.bads.items ds) empty l.invariant.0 in
    λ k h. fused_cell cs bads c.args.len l.fusing.done.items c.push.new.self.items l.fusing.last l.fusing.bads.items f c.in_ok-push.ensures.items k h
    ∙ ap (unless_bad (bad_in bads k)) (sorted_alike k c.args.columns.items)
