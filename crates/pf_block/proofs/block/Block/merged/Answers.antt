use Rattle.std.proofs.Common.{sym, ◌∙◌, arith}
use Rattle.std.proofs.lemmas.Grind.{common_steps}
use Rattle.pf_block.specs.Blocks.{merged}
use Rattle.pf_block.proofs.Merging.{merged_ascends}
use Rattle.pf_block.proofs.Pairing.{first_has, first_next, fits, goes_on, second_has, second_next}
use Rattle.pf_block.proofs.block.Block.merged.Goals as goal

pub with-requires : goal.with-requires
with-requires c =
    let e = c.entry_near-run.result.1 in
    let one = c.args.self.now in
    let other = c.args.other.now in
    let next = first_next one other c.loop-i.i c.loop-i.j e c.loop-i.invariant.within c.loop-i.invariant.inside (omega arith) (sym c.leads.ensures ∙ c.if-leads.true) (c.entry_near-run.ensures e) in
    fits c.loop-i.block (merged one other) _ _ e next c.loop-i.invariant.same (merged_ascends one other c.rows.ensures.ascends c.rows-2.ensures.ascends)

pub loop-i-preserved-then-leads : goal.loop-i-preserved-then-leads
loop-i-preserved-then-leads c =
    let e = c.entry_near-run.result.1 in
    let one = c.args.self.now in
    let other = c.args.other.now in
    let lead = sym c.leads.ensures ∙ c.if-leads.true in
    let next = first_next one other c.loop-i.i c.loop-i.j e c.loop-i.invariant.within c.loop-i.invariant.inside (omega arith) lead (c.entry_near-run.ensures e) in
    record {
      within = let l = first_has one other c.loop-i.i c.loop-i.j c.loop-i.invariant.inside (omega arith) lead in omega (arith, l);
      inside = c.loop-i.invariant.inside;
      same = goes_on c.loop-i.block (merged one other) _ _ e next c.loop-i.invariant.same _ c.in_ok-block-2.ensures;
    }

pub with-requires-else-leads : goal.with-requires-else-leads
with-requires-else-leads c =
    let e = c.entry_near-run-else-leads.result.1 in
    let one = c.args.self.now in
    let other = c.args.other.now in
    let next = second_next one other c.loop-i.i c.loop-i.j e c.loop-i.invariant.within c.loop-i.invariant.inside (omega arith) (sym c.leads.ensures ∙ c.if-leads.false) (c.entry_near-run-else-leads.ensures e) in
    fits c.loop-i.block (merged one other) _ _ e next c.loop-i.invariant.same (merged_ascends one other c.rows.ensures.ascends c.rows-2.ensures.ascends)

pub loop-i-preserved : goal.loop-i-preserved
loop-i-preserved c =
    let e = c.entry_near-run-else-leads.result.1 in
    let one = c.args.self.now in
    let other = c.args.other.now in
    let lead = sym c.leads.ensures ∙ c.if-leads.false in
    let next = second_next one other c.loop-i.i c.loop-i.j e c.loop-i.invariant.within c.loop-i.invariant.inside (omega arith) lead (c.entry_near-run-else-leads.ensures e) in
    record {
      within = c.loop-i.invariant.within;
      inside = let l = second_has one other c.loop-i.i c.loop-i.j lead in omega (arith, l);
      same = goes_on c.loop-i.block (merged one other) _ _ e next c.loop-i.invariant.same _ c.in_ok-block-3.ensures;
    }

pub returns : goal.returns
returns c = grind (arith, common_steps)
