use Rattle.std.proofs.Common.{rules, ◌≡◌, ◌∷◌, ◌++◌, [], length, sym, ap, ◌∙◌, append-nil, arith}
use Rattle.std.specs.Vec.Iter.{into_iter_items}
use Rattle.pf_model.specs.InstantFunctions.{each_value}
use Rattle.pf_columns.specs.Columns.{cell_at}
use Rattle.pf_math.specs.EachValue.{changed}
use Rattle.pf_eval.specs.Calls.{change_at}
use Rattle.pf_eval.proofs.InstantSteps.{more_changed}
use Rattle.pf_eval.proofs.SplitArguments.{nothing_left}
use Rattle.pf_eval.proofs.instant.changed_columns.Goals as goal

pub loop-column-init : goal.loop-column-init
loop-column-init c =
    let all : into_iter_items c.into_iter-column-iterator.result ≡ c.args.columns.items =
    ap into_iter_items c.into_iter-column-iterator.ensures.into_iter_gives ∙ c.into_iter-rest.ensures.rest in (
      (λ k. λ i. cell_at (c.in_ok-found.ensures.items i) k ++ each_value (changed (change_at c.args.changes.now k)) (cell_at (all i) k)),
      search rules,
    )

pub loop-column-preserved : goal.loop-column-preserved
loop-column-preserved c =
    let l = c.loop-column in
    let steps : into_iter_items l.column-iterator ≡ c.in-Some.column ∷ into_iter_items c.next.new.self = c.in-Some.ensures.steps.0 in (
      (λ k. more_changed (changed (change_at c.args.changes.now k)) l.found.items c.push.new.self.items (into_iter_items l.column-iterator)
          (into_iter_items c.next.new.self) c.in-Some.column c.in_ok-changed_column.field-0 k
          (each_value (changed (change_at c.args.changes.now k)) (cell_at c.args.columns.items k)) steps c.in_ok-push.ensures.items
          c.in_ok-changed_column.ensures.labels (c.in_ok-changed_column.ensures.values k) (l.invariant.0 k)),
      let was = l.invariant.1 in
          let gone = c.in-Some.ensures.steps.1 in
          let short = ap length steps in
          omega arith,
    )

pub returns : goal.returns
returns c =
    let l = c.loop-column in
    let none = c.in-None.ensures.steps in
    let empty : into_iter_items l.column-iterator ≡ [] = nothing_left _ (sym l.invariant.1 ∙ none.0) in
    λ k. sym (append-nil (cell_at l.found.items k))
    ∙ ap (λ cs. cell_at l.found.items k ++ each_value (changed (change_at c.args.changes.now k)) (cell_at cs k)) (sym empty)
    ∙ l.invariant.0 k
