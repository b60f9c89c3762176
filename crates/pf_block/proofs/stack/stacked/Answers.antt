use Rattle.std.proofs.Common.{◌≡◌, ◌-◌, length, map, drop, ◌++◌, sym, ap, ◌∙◌, arith, rules, vec_len}
use Rattle.std.specs.Arc.{arc_value}
use Rattle.pf_block.specs.Stacks.{merged_into, order_on, topped}
use Rattle.pf_block.proofs.Walks.{block_is, down, in_map, into_next, map_length, map_take, stack_made, takes_none}
use Rattle.pf_block.proofs.stack.stacked.Goals as goal

pub loop-count-preserved : goal.loop-count-preserved
loop-count-preserved c =
    let n = c.loop-count.count - 1 in
    let bs = map arc_value c.args.blocks.now in
    let some = takes_none c.args.sizes.now c.args.kept c.loop-count.count c.loop-count.top (sym c.takes_in.ensures ∙ c.loop-count-test.true) in
    record {
      within = omega (arith, c.loop-count.invariant.within);
      same = into_next bs n c.deref.result.now c.loop-count.top c.in_ok-top.top c.args.block (in_map arc_value c.args.blocks.now n (omega (arith, some, c.loop-count.invariant.within)))
          (block_is arc_value c.args.blocks.now n c.index-blocks-count.result c.deref.result.now (omega (arith, some, c.loop-count.invariant.within)) c.index-blocks-count.is c.deref.ensures)
          (c.loop-count.invariant.same ∙ ap (λ m. merged_into (drop m bs) c.args.block) (down c.loop-count.count some)) c.in_ok-top.ensures;
    }

pub returns : goal.returns
returns c =
    let bs = map arc_value c.args.blocks.now in
    let many : vec_len c.in_ok-stack.stack ≡ length c.in_ok-stack.stack.items = search rules in
    stack_made bs c.args.sizes.now c.args.order _ c.args.kept c.args.clear c.loop-count.count c.args.block c.loop-count.top (map arc_value c.in_ok-stack.stack.items) c.in_ok-numbers.numbers.items (omega (arith, c.requires.count, c.loop-count.invariant.within))
    (let e = map_length arc_value c.args.blocks.now in omega (arith, e, c.loop-count.invariant.within)) c.loop-count.invariant.same
    c.requires.doubles (sym c.takes_in.ensures ∙ c.loop-count-test.false) (c.in_ok-stack.ensures ∙ ap (λ x. x ++ topped c.loop-count.top) (map_take arc_value c.loop-count.count c.args.blocks.now)) c.in_ok-numbers.ensures
    (c.order_on-order.ensures ∙ ap (order_on c.args.order c.args.clear c.loop-count.count) (c.len.ensures ∙ many ∙ sym (map_length arc_value c.in_ok-stack.stack.items)))
