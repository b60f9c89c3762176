use Rattle.std.proofs.Common.{sym, ◌∙◌, ap, arith, w64, rules, filter}
use Rattle.std.specs.BTreeMap.{get}
use Rattle.std.specs.Ordering.{nat_cmp}
use Rattle.std.proofs.lemmas.Int.{to_z-of_z}
use Rattle.pf_block.specs.Layers.{stays, stays_by}
use Rattle.pf_block.proofs.Pairing.{filter_done, fits, goes_on, goes_out, stays as stays_next}
use Rattle.pf_block.proofs.layer.copied.Goals as goal

pub returns : goal.returns
returns c = filter_done (stays c.args.parts.now) c.loop-i.copy c.args.block.now c.loop-i.i (omega arith) c.loop-i.invariant

pub loop-i-preserved-then-not-stays : goal.loop-i-preserved-then-not-stays
loop-i-preserved-then-not-stays c =
    let e = c.entry_near-run.result.1 in
    goes_out (stays c.args.parts.now) c.args.block.now c.loop-i.i e (omega arith) (c.entry_near-run.ensures e) _ _
    (ap (stays_by (get nat_cmp c.args.parts.now e.0)) (sym (to_z-of_z w64 e.1.time (search rules))) ∙ sym c.stays.ensures ∙ c.if-not-stays.true) c.loop-i.invariant

pub with-requires : goal.with-requires
with-requires c =
    let e = c.entry_near-run.result.1 in
    fits c.loop-i.copy (filter (stays c.args.parts.now) c.args.block.now) _ _ e
    (stays_next (stays c.args.parts.now) c.args.block.now c.loop-i.i e (omega arith) (c.entry_near-run.ensures e)
    (ap (stays_by (get nat_cmp c.args.parts.now e.0)) (sym (to_z-of_z w64 e.1.time (search rules))) ∙ sym c.stays.ensures ∙ c.if-not-stays.false))
    c.loop-i.invariant c.requires

pub loop-i-preserved : goal.loop-i-preserved
loop-i-preserved c =
    let e = c.entry_near-run.result.1 in
    goes_on c.loop-i.copy (filter (stays c.args.parts.now) c.args.block.now) _ _ e
    (stays_next (stays c.args.parts.now) c.args.block.now c.loop-i.i e (omega arith) (c.entry_near-run.ensures e)
    (ap (stays_by (get nat_cmp c.args.parts.now e.0)) (sym (to_z-of_z w64 e.1.time (search rules))) ∙ sym c.stays.ensures ∙ c.if-not-stays.false))
    c.loop-i.invariant _ c.in_ok-copy.ensures
