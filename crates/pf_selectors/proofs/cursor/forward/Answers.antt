use Rattle.std.proofs.Common.{◌≤◌, ◌+◌, arith, sym, subst, w64}
use Rattle.std.proofs.lemmas.Int.{ints, to_z-of_z}
use Rattle.pf_block.specs.Samples.{until}
use Rattle.pf_selectors.proofs.Places.{early_at, late_at, until_fits}
use Rattle.pf_selectors.proofs.cursor.forward.Goals as goal

pub returns-then-sample-time-clause-behind : goal.returns-then-sample-time-clause-behind
returns-then-sample-time-clause-behind c =
    late_at c.args.time c.args.samples.now c.loop-i.i c.index-samples-i.result c.requires.rises (omega arith) c.index-samples-i.is (omega (arith, ints, c.if-sample-time.true))

pub returns-then-sample-time-clause-passed : goal.returns-then-sample-time-clause-passed
returns-then-sample-time-clause-passed c = λ h.
    let xs = c.args.samples.now in
    let i = c.loop-i.i in
    let most = late_at c.args.time xs i c.index-samples-i.result c.requires.rises (omega arith) c.index-samples-i.is (omega (arith, ints, c.if-sample-time.true)) in
    let least : i ≤ until c.args.time xs = subst (λ t. i ≤ until t xs) (to_z-of_z w64 c.args.time c.ranges.time) (c.loop-i.invariant h) in
    omega (arith, most, least)

pub loop-i-preserved : goal.loop-i-preserved
loop-i-preserved c = λ h.
    let xs = c.args.samples.now in
    let i = c.loop-i.i in
    let e = early_at c.args.time xs i c.index-samples-i.result c.requires.rises (omega arith) c.index-samples-i.is (omega (arith, ints, c.if-sample-time.false)) in
    subst (λ t. i + 1 ≤ until t xs) (sym (to_z-of_z w64 c.args.time c.ranges.time)) (omega (arith, e))

pub returns-clause-behind : goal.returns-clause-behind
returns-clause-behind c = let f = until_fits c.args.time c.args.samples.now in omega (arith, f)

pub returns-clause-passed : goal.returns-clause-passed
returns-clause-passed c = λ h.
    let xs = c.args.samples.now in
    let f = until_fits c.args.time xs in
    let i = c.loop-i.i in
    let least : i ≤ until c.args.time xs = subst (λ t. i ≤ until t xs) (to_z-of_z w64 c.args.time c.ranges.time) (c.loop-i.invariant (omega (arith, h))) in
    omega (arith, f, least)
