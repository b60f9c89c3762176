use Rattle.std.proofs.Common.{◌≤◌, ◌-◌, ◌<◌, arith, sym, subst, w64}
use Rattle.std.proofs.lemmas.Int.{ints, to_z-of_z}
use Rattle.pf_block.specs.Samples.{until}
use Rattle.pf_selectors.proofs.Places.{early_at, late_at}
use Rattle.pf_selectors.proofs.cursor.back.Goals as goal

pub returns-then-sample-time : goal.returns-then-sample-time
returns-then-sample-time c =
    let xs = c.args.samples.now in
    let n = c.loop-count.count in
    let behind : until c.args.time xs ≤ n = subst (λ t. until t xs ≤ n) (to_z-of_z w64 c.args.time c.ranges.time) c.loop-count.invariant.behind in
    let e : n - 1 < until c.args.time xs = early_at c.args.time xs (n - 1) c.index-samples-count.result c.requires.rises (omega arith) c.index-samples-count.is (omega (arith, ints, c.if-sample-time.true)) in
    omega (arith, e, behind)

pub loop-count-preserved : goal.loop-count-preserved
loop-count-preserved c =
    let xs = c.args.samples.now in
    let n = c.loop-count.count in
    let e : until c.args.time xs ≤ n - 1 = late_at c.args.time xs (n - 1) c.index-samples-count.result c.requires.rises (omega arith) c.index-samples-count.is (omega (arith, ints, c.if-sample-time.false)) in
    record {
      within = omega arith;
      behind = subst (λ t. until t xs ≤ n - 1) (sym (to_z-of_z w64 c.args.time c.ranges.time)) e;
    }
