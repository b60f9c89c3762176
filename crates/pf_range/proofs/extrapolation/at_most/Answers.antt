use Rattle.std.proofs.lemmas.Grind.{common_steps}
use Rattle.std.proofs.Common.{◌≤ℤ◌, ◌<ℤ◌, ◌*ℤ◌, arith}
use Rattle.std.proofs.lemmas.Int.{ints}
use Rattle.pf_range.proofs.Quotients.{kept, long, quotient_fits, quotient_least, quotient_within}
use Rattle.pf_range.proofs.Sums.{wide}
use Rattle.pf_range.proofs.extrapolation.at_most.Goals as goal

pub returns-then-gap-growth-clause-value : goal.returns-then-gap-growth-clause-value
returns-then-gap-growth-clause-value c =
    let r = c.requires in
    let k : long (wide c.args.gap *ℤ wide c.args.growth) ≤ℤ long (wide c.args.span *ℤ wide c.args.first) = omega (arith, ints) in
    kept c.args.gap c.args.span c.args.first c.args.growth (record { gap = r.gap; span = r.span; low = r.first.0; high = r.first.1; some = r.growth.0; most = r.growth.1 }) k

pub overflow_cast-result : goal.overflow_cast-result
overflow_cast-result c =
    let r = c.requires in
    let k : long (wide c.args.span *ℤ wide c.args.first) <ℤ long (wide c.args.gap *ℤ wide c.args.growth) = omega (arith, ints) in
    quotient_fits c.args.gap c.args.span c.args.first c.args.growth (record { gap = r.gap; span = r.span; low = r.first.0; high = r.first.1; some = r.growth.0; most = r.growth.1 }) c.quotient.result k c.quotient.ensures

pub returns-clause-value : goal.returns-clause-value
returns-clause-value c =
    let r = c.requires in
    let k : long (wide c.args.span *ℤ wide c.args.first) <ℤ long (wide c.args.gap *ℤ wide c.args.growth) = omega (arith, ints) in
    quotient_least c.args.gap c.args.span c.args.first c.args.growth (record { gap = r.gap; span = r.span; low = r.first.0; high = r.first.1; some = r.growth.0; most = r.growth.1 }) c.quotient.result k c.quotient.ensures

pub returns-clause-within : goal.returns-clause-within
returns-clause-within c =
    let r = c.requires in
    let k : long (wide c.args.span *ℤ wide c.args.first) <ℤ long (wide c.args.gap *ℤ wide c.args.growth) = omega (arith, ints) in
    quotient_within c.args.gap c.args.span c.args.first c.args.growth (record { gap = r.gap; span = r.span; low = r.first.0; high = r.first.1; some = r.growth.0; most = r.growth.1 }) c.quotient.result k c.quotient.ensures

pub returns-then-gap-growth-clause-within : goal.returns-then-gap-growth-clause-within
returns-then-gap-growth-clause-within c = grind (arith, common_steps)
