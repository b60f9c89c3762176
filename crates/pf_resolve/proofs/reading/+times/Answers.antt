use Rattle.std.proofs.Common.{rules, ◌≡◌, ◌<◌, ◌≤◌, ◌≤ℤ◌, ℤ, pos, ◌-ℤ◌, ◌*ℤ◌, map, ap, sym, ◌∙◌, Option, refl, subst, arith, w64, to_z, of_z}
use Rattle.std.proofs.lemmas.Grind.{common_steps}
use Rattle.pf_model.specs.declared.expr.Expr.TheViews.{sized-Subquery}
use Rattle.pf_model.specs.Evaluation.{multiples, read_time, resolution_or_minute}
use Rattle.pf_model.specs.Micros.{cut_down}
use Rattle.pf_model.specs.Reach.{Times, times_read}
use Rattle.pf_base.specs.Limits.{greatest_time}
use Rattle.pf_model.specs.Trees.{tree_of, trees_of}
use Rattle.pf_resolve.specs.Ends.{end_in_window, end_of, end_over, farther_of}
use Rattle.pf_resolve.proofs.Edges.{edge_tells, end_step, end_together, joined_over, none_over, over_end, over_left, over_two, same_over, same_over_all}
use Rattle.pf_resolve.proofs.Rising.{times_rise_with}
use Rattle.pf_resolve.proofs.Variants.{number_is, text_is, unary_is, binary_is, call_is, aggregate_is, subquery_is}
use Rattle.pf_resolve.proofs.Walks.{room_left, small_left}
use Rattle.pf_resolve.proofs.Windows.{room_joined, small_mods, small_query, small_step}
use Rattle.pf_model.specs.Trees.{height}
use Rattle.pf_resolve.specs.Bounds.{is_small}
use Rattle.pf_resolve.proofs.reading.+times.Goals as goal

pub end_at_edge-returns : goal.end_at_edge-returns
end_at_edge-returns t c =
    let query = tree_of c.args.expr.now in
    let f : ℤ → Option Times = times_read query in
    let e = c.args.end in
    let d = c.args.step in
    let low : ℤ = to_z w64 (of_z w64 c.args.from) in
    let high : ℤ = to_z w64 (of_z w64 c.args.to) in
    let from : to_z w64 (of_z w64 c.args.from) ≡ c.args.from = first_of (search rules, grind (arith, common_steps)) in
    let to : to_z w64 (of_z w64 c.args.to) ≡ c.args.to = first_of (search rules, grind (arith, common_steps)) in
    let u : to_z w64 (of_z w64 c.multiple.result) ≡ c.multiple.result = first_of (search rules, grind (arith, common_steps)) in
    let order : low ≤ℤ high = first_of (search rules, grind (arith, common_steps)) in
    let some : 0 < c.count_of-count.result = omega (arith, c.if-count-eq0.false) in
    c.read_end.ensures
    ∙ ap (λ x. end_of e (f x)) (u ∙ c.multiple.ensures.value)
    ∙ ap (λ k. end_of e (f ((cut_down high d -ℤ pos k) *ℤ pos d))) c.behind.ensures.value
    ∙ edge_tells f (times_rise_with query c.requires.steady) e d c.count_of-count.result low high order c.count_of-count.ensures.value some
    ∙ same_over e query d d low c.args.from high c.args.to refl from to

pub end_at_multiples-loop-k-preserved : goal.end_at_multiples-loop-k-preserved
end_at_multiples-loop-k-preserved t c =
    let f : ℤ → Option Times = times_read (tree_of c.args.expr.now) in
    let high : ℤ = to_z w64 (of_z w64 c.args.to) in
    let u : to_z w64 (of_z w64 c.multiple.result) ≡ c.multiple.result = first_of (search rules, grind (arith, common_steps)) in
    c.farther_of-found.ensures
    ∙ ap (λ x. farther_of c.args.end x c.loop-k.found) (c.read_end-read.ensures ∙ ap (λ x. end_of c.args.end (f x)) (u ∙ c.multiple.ensures.value))
    ∙ ap (farther_of c.args.end (end_of c.args.end (f ((cut_down high c.args.step -ℤ pos c.loop-k.k) *ℤ pos c.args.step)))) c.loop-k.invariant
    ∙ sym (end_step c.args.end f (pos c.args.step) (cut_down high c.args.step) c.loop-k.k)

pub end_over_all-loop-arg-preserved : goal.end_over_all-loop-arg-preserved
end_over_all-loop-arg-preserved t c =
    let from : to_z w64 (of_z w64 c.args.from) ≡ c.args.from = first_of (search rules, grind (arith, common_steps)) in
    let to : to_z w64 (of_z w64 c.args.to) ≡ c.args.to = first_of (search rules, grind (arith, common_steps)) in
    record {
      small = small_left c.args.args.now c.loop-arg.arg-index c.arg-item.result c.loop-arg-test.true c.arg-item.is c.loop-arg.invariant.small;
      first = room_left c.args.args.now c.loop-arg.arg-index c.arg-item.result c.loop-arg-test.true c.arg-item.is _ c.loop-arg.invariant.first;
      last = room_left c.args.args.now c.loop-arg.arg-index c.arg-item.result c.loop-arg-test.true c.arg-item.is _ c.loop-arg.invariant.last;
      read = over_left c.args.args.now c.loop-arg.arg-index c.arg-item.result c.loop-arg-test.true c.arg-item.is c.args.end c.args.step _ _ _ _ _ c.farther_of-found.ensures c.end_over.ensures _ c.loop-arg.invariant.read;
    }

pub end_over-returns-in-Number : goal.end_over-returns-in-Number
end_over-returns-in-Number t c =
    none_over c.args.end (multiples c.args.step c.args.from c.args.to)
    ∙ sym (number_is (λ x. end_over c.args.end x c.args.step c.args.from c.args.to) c.args.expr.now c.in-Number.value c.in-Number.is)

pub end_over-returns-in-Text : goal.end_over-returns-in-Text
end_over-returns-in-Text t c =
    none_over c.args.end (multiples c.args.step c.args.from c.args.to)
    ∙ sym (text_is (λ x. end_over c.args.end x c.args.step c.args.from c.args.to) c.args.expr.now c.in-Text.text c.in-Text.is)

pub end_over-returns-in-Unary : goal.end_over-returns-in-Unary
end_over-returns-in-Unary t c =
    let from : to_z w64 (of_z w64 c.args.from) ≡ c.args.from = first_of (search rules, grind (arith, common_steps)) in
    let to : to_z w64 (of_z w64 c.args.to) ≡ c.args.to = first_of (search rules, grind (arith, common_steps)) in
    c.end_over.ensures
    ∙ same_over c.args.end (tree_of c.deref.result.now) c.args.step c.args.step _ c.args.from _ c.args.to refl from to
    ∙ sym (unary_is (λ x. end_over c.args.end x c.args.step c.args.from c.args.to) c.args.expr.now c.deref.result.now c.in-Unary.minus c.in-Unary.arg c.in-Unary.is c.deref.ensures)

pub end_over-returns-in-Binary : goal.end_over-returns-in-Binary
end_over-returns-in-Binary t c =
    let from : to_z w64 (of_z w64 c.args.from) ≡ c.args.from = first_of (search rules, grind (arith, common_steps)) in
    let to : to_z w64 (of_z w64 c.args.to) ≡ c.args.to = first_of (search rules, grind (arith, common_steps)) in
    let e = c.args.end in
    let left = tree_of c.deref-in-Binary.result.now in
    let right = tree_of c.deref-in-Binary-2.result.now in
    c.farther_of.ensures
    ∙ over_two e left right c.args.step c.args.from c.args.to c.end_over-in-Binary.result c.end_over-in-Binary-2.result
    (c.end_over-in-Binary.ensures ∙ same_over e left c.args.step c.args.step _ c.args.from _ c.args.to refl from to)
    (c.end_over-in-Binary-2.ensures ∙ same_over e right c.args.step c.args.step _ c.args.from _ c.args.to refl from to)
    ∙ sym (binary_is (λ x. end_over e x c.args.step c.args.from c.args.to) c.args.expr.now c.deref-in-Binary.result.now c.deref-in-Binary-2.result.now c.in-Binary.op c.in-Binary.matching
    c.in-Binary.left c.in-Binary.right c.in-Binary.is c.deref-in-Binary.ensures c.deref-in-Binary-2.ensures)

pub end_over-returns-in-Call : goal.end_over-returns-in-Call
end_over-returns-in-Call t c =
    let from : to_z w64 (of_z w64 c.args.from) ≡ c.args.from = first_of (search rules, grind (arith, common_steps)) in
    let to : to_z w64 (of_z w64 c.args.to) ≡ c.args.to = first_of (search rules, grind (arith, common_steps)) in
    c.end_over_all.ensures
    ∙ same_over_all c.args.end (trees_of (map tree_of c.deref-in-Call.result.now)) c.args.step _ c.args.from _ c.args.to from to
    ∙ sym (call_is (λ x. end_over c.args.end x c.args.step c.args.from c.args.to) c.args.expr.now c.deref-in-Call.result.now c.in-Call.function c.in-Call.args c.in-Call.is c.deref-in-Call.ensures.value)

pub end_over-returns-in-Aggregate : goal.end_over-returns-in-Aggregate
end_over-returns-in-Aggregate t c =
    let from : to_z w64 (of_z w64 c.args.from) ≡ c.args.from = first_of (search rules, grind (arith, common_steps)) in
    let to : to_z w64 (of_z w64 c.args.to) ≡ c.args.to = first_of (search rules, grind (arith, common_steps)) in
    c.end_over_all-in-Aggregate.ensures
    ∙ same_over_all c.args.end (trees_of (map tree_of c.deref-in-Aggregate.result.now)) c.args.step _ c.args.from _ c.args.to from to
    ∙ sym (aggregate_is (λ x. end_over c.args.end x c.args.step c.args.from c.args.to) c.args.expr.now c.deref-in-Aggregate.result.now c.in-Aggregate.op c.in-Aggregate.grouping c.in-Aggregate.args
    c.in-Aggregate.is c.deref-in-Aggregate.ensures.value)

pub read_end-returns-in-Binary : goal.read_end-returns-in-Binary
read_end-returns-in-Binary t c =
    let same : to_z w64 (of_z w64 c.args.t) ≡ c.args.t = grind (arith, common_steps) in
    let e = c.args.end in
    let left = tree_of c.deref-in-Binary.result.now in
    let right = tree_of c.deref-in-Binary-2.result.now in
    c.farther_of.ensures
    ∙ ap (λ x. farther_of e x c.read_end-in-Binary-2.result) (c.read_end-in-Binary.ensures ∙ ap (λ x. end_of e (times_read left x)) same)
    ∙ ap (farther_of e (end_of e (times_read left c.args.t))) (c.read_end-in-Binary-2.ensures ∙ ap (λ x. end_of e (times_read right x)) same)
    ∙ sym (end_together e (times_read left c.args.t) (times_read right c.args.t))
    ∙ sym (binary_is (λ x. end_of e (times_read x c.args.t)) c.args.expr.now c.deref-in-Binary.result.now c.deref-in-Binary-2.result.now c.in-Binary.op c.in-Binary.matching
    c.in-Binary.left c.in-Binary.right c.in-Binary.is c.deref-in-Binary.ensures c.deref-in-Binary-2.ensures)

pub read_end-returns-in-Subquery : goal.read_end-returns-in-Subquery
read_end-returns-in-Subquery t c =
    let e = c.args.end in
    let time = read_time c.in-Subquery.mods c.args.t in
    let to : to_z w64 (of_z w64 c.read_time-to-in-Subquery.result) ≡ time = first_of (search rules, grind (arith, common_steps)) in
    let start : to_z w64 (of_z w64 c.window_start-from.result) ≡ c.window_start-from.result = first_of (search rules, grind (arith, common_steps)) in
    c.end_over.ensures
    ∙ same_over e (tree_of c.deref-in-Subquery.result.now) c.unwrap_or-step.result (resolution_or_minute c.in-Subquery.resolution) _ (time -ℤ pos c.in-Subquery.range) _ time
    c.unwrap_or-step.ensures (start ∙ c.window_start-from.ensures.value ∙ ap (λ x. x -ℤ pos c.in-Subquery.range) to) to
    ∙ sym (subquery_is (λ x. end_of e (times_read x c.args.t)) c.args.expr.now c.deref-in-Subquery.result.now c.in-Subquery.arg c.in-Subquery.range c.in-Subquery.resolution c.in-Subquery.mods
    c.in-Subquery.is c.deref-in-Subquery.ensures)

pub end_over_all-returns : goal.end_over_all-returns
end_over_all-returns t c =
    let from : to_z w64 (of_z w64 c.args.from) ≡ c.args.from = first_of (search rules, grind (arith, common_steps)) in
    let to : to_z w64 (of_z w64 c.args.to) ≡ c.args.to = first_of (search rules, grind (arith, common_steps)) in
    over_end c.args.args.now c.loop-arg.arg-index c.loop-arg-test.false c.args.end c.args.step _ _ c.loop-arg.found _ c.loop-arg.invariant.read
    ∙ same_over_all c.args.end (trees_of (map tree_of c.args.args.now)) c.args.step _ c.args.from _ c.args.to from to

pub end_over-joined_window-requires-clause-mods : goal.end_over-joined_window-requires-clause-mods
end_over-joined_window-requires-clause-mods t c =
    let q = c.in-Subquery in
    small_mods (tree_of q.arg.value) q.range q.resolution q.mods
    (sym (subquery_is is_small c.args.expr.now q.arg.value q.arg q.range q.resolution q.mods q.is refl) ∙ c.requires.small)

pub end_over-end_in_window-requires : goal.end_over-end_in_window-requires
end_over-end_in_window-requires t c =
    let q = c.in-Subquery in
    let h = c.joined_window.ensures in
    let from : to_z w64 (of_z w64 c.args.from) ≡ c.args.from = first_of (search rules, grind (arith, common_steps)) in
    let to : to_z w64 (of_z w64 c.args.to) ≡ c.args.to = first_of (search rules, grind (arith, common_steps)) in
    let query = tree_of c.args.expr.now in
    let inner = tree_of c.deref-then-are_touching.result.now in
    let is = subquery_is (λ x. x) c.args.expr.now c.deref-then-are_touching.result.now q.arg q.range q.resolution q.mods q.is c.deref-then-are_touching.ensures in
    let small = sym (ap is_small is) ∙ c.requires.small in
    let room = room_joined query inner (ap height is) c.args.from c.args.to _ _ c.requires.first c.requires.last from to in (
      search (rules, sized-Subquery),
      (
        small_query inner q.range q.resolution q.mods small,
        (
          subst (λ d. d ≤ greatest_time) (sym c.unwrap_or-inner.ensures) (small_step inner q.range q.resolution q.mods small),
          (
            h.order,
            (
              room (λ w. w.from) c.joined_window.result h.first,
              room (λ w. w.to) c.joined_window.result h.last,
            ),
          ),
        ),
      ),
    )

pub end_over-returns-then-are_touching : goal.end_over-returns-then-are_touching
end_over-returns-then-are_touching t c =
    let e = c.args.end in
    let q = c.in-Subquery in
    let h = c.joined_window.ensures in
    let low : ℤ = to_z w64 (of_z w64 c.args.from) in
    let high : ℤ = to_z w64 (of_z w64 c.args.to) in
    let from : low ≡ c.args.from = first_of (search rules, grind (arith, common_steps)) in
    let to : high ≡ c.args.to = first_of (search rules, grind (arith, common_steps)) in
    let order : low ≤ℤ high = first_of (search rules, grind (arith, common_steps)) in
    let inner = tree_of c.deref-then-are_touching.result.now in
    c.end_in_window.ensures
    ∙ ap (λ s. end_in_window e inner s c.joined_window.result) c.unwrap_or-inner.ensures
    ∙ joined_over e inner q.mods q.range (resolution_or_minute q.resolution) c.args.step low high order (sym c.are_touching.ensures ∙ c.if-are_touching.true) c.joined_window.result h.none h.window
    ∙ sym (subquery_is (λ x. end_over e x c.args.step low high) c.args.expr.now c.deref-then-are_touching.result.now q.arg q.range q.resolution q.mods q.is c.deref-then-are_touching.ensures)
    ∙ same_over e (tree_of c.args.expr.now) c.args.step c.args.step low c.args.from high c.args.to refl from to
