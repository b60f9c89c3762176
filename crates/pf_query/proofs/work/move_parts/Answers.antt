use Rattle.std.proofs.Common.{◌∙◌, ◌∷◌, [], ap, arith, length, length-append}
use Rattle.pf_query.proofs.Moving.{full_here, moved, part_at, upto_all, upto_next}
use Rattle.pf_query.specs.declared.slot.Slot.TheVariants.{Filled}
use Rattle.pf_query.proofs.work.move_parts.Goals as goal

pub take_part-requires : goal.take_part-requires
take_part-requires c =
    full_here c.loop-i.i c.args.slots.now.items c.loop-i.slots.items c.index_mut.result.now c.requires.full c.loop-i.invariant.slots c.index_mut.ensures.value
    (let e = c.len-i-end.ensures in let t = c.loop-i-test.true in omega (arith, e, t))

pub loop-i-preserved : goal.loop-i-preserved
loop-i-preserved c =
    let at = part_at c.loop-i.i c.args.slots.now.items c.loop-i.slots.items c.index_mut.result.now (Filled c.take_part.result) c.loop-i.invariant.slots
    c.index_mut.ensures.value (let e = c.len-i-end.ensures in let t = c.loop-i-test.true in omega (arith, e, t)) c.take_part.ensures.part in
    let l = ap length c.push_reserved.ensures.items ∙ length-append c.loop-i.parts.items (c.take_part.result ∷ []) in
    let m = c.loop-i.invariant.many in record {
      slots = upto_next c.loop-i.i c.args.slots.now.items c.loop-i.slots.items c.take_part.new.slot c.loop-i.invariant.slots c.take_part.ensures.after;
      parts = moved c.loop-i.i c.args.slots.now.items c.loop-i.parts.items c.args.parts.now.items c.push_reserved.new.self.items c.take_part.result
          c.loop-i.invariant.parts at c.push_reserved.ensures.items;
      many = omega (arith, l, m);
      room = c.push_reserved.ensures.capacity ∙ c.loop-i.invariant.room;
    }

pub returns-clause-slots : goal.returns-clause-slots
returns-clause-slots c =
    c.loop-i.invariant.slots
    ∙ upto_all c.loop-i.i c.args.slots.now.items (let f = c.loop-i-test.false in let a = c.loop-i.auto.i-end in let e = c.len-i-end.ensures in omega (arith, f, a, e))
