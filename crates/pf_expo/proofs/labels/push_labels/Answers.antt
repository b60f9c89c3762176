use Rattle.std.proofs.Common.{◌∙◌, sym, Vec, Global, Bor, List, ℕ}
use Rattle.std.proofs.lemmas.Result.{err_from_is_err_and}
use Rattle.pf_base.specs.declared.text.Text.{Text}
use Rattle.pf_expo.specs.Scans.{label_at}
use Rattle.pf_expo.proofs.Faults.{fault_of_part}
use Rattle.pf_expo.proofs.Pairs.{left_closed, left_first, left_more, left_none}
use Rattle.pf_expo.proofs.Shorter.{label_shorter}
use Rattle.pf_expo.proofs.labels.push_labels.Goals as goal

pub loop-alloc-init : goal.loop-alloc-init
loop-alloc-init c = left_first c.args.pairs.items c.args.bytes.now

pub loop-alloc-smaller : goal.loop-alloc-smaller
loop-alloc-smaller c = label_shorter c.loop-alloc.rest.now c.in_ok-pair.behind.now c.in_ok-pair.pair c.in_ok-pair.ensures

pub loop-alloc-preserved : goal.loop-alloc-preserved
loop-alloc-preserved c =
    left_more c.loop-alloc.pairs.items _ c.loop-alloc.rest.now c.in_ok-pair.behind.now c.in_ok-pair.pair _ c.loop-alloc.invariant (sym c.begins_with.ensures ∙ c.loop-alloc-test.true)
    c.in_ok-pair.ensures (label_shorter c.loop-alloc.rest.now c.in_ok-pair.behind.now c.in_ok-pair.pair c.in_ok-pair.ensures) c.in_ok-push.ensures.items

pub returns : goal.returns
returns c = left_closed c.loop-alloc.pairs.items c.loop-alloc.rest.now c.in_ok-behind.behind.now _ c.loop-alloc.invariant (sym c.begins_with.ensures ∙ c.loop-alloc-test.false) c.in_ok-behind.ensures

pub returns-in_err-pair : goal.returns-in_err-pair
returns-in_err-pair c =
    let p = err_from_is_err_and c.from_residual.result c.from_residual.ensures.1 in
    rw (p.1, p.2) (fault_of_part {X = (Text × Text) × Bor (List ℕ)} {U = Vec (Text × Text) Global × Bor (List ℕ)} (λ x. (x.0, x.1.now)) (λ x. (x.0.items, x.1.now)) _ (label_at c.loop-alloc.rest.now) _ (left_none c.loop-alloc.pairs.items c.loop-alloc.rest.now _ c.loop-alloc.invariant (sym c.begins_with.ensures ∙ c.loop-alloc-test.true)) c.in_err-pair.ensures)
