use Rattle.std.proofs.Common.{◌≡◌, ◌<◌, ◌-ℤ◌, pos, sym, subst, rules, arith, w64, to_z, of_z}
use Rattle.std.proofs.lemmas.Int.{ints}
use Rattle.std.proofs.lemmas.Grind.{common_steps}
use Rattle.pf_range.specs.Windows.{IsTime}
use Rattle.pf_selectors.specs.Times.{time_at}
use Rattle.pf_selectors.proofs.StepMultiples.{found_over, rises_to}
use Rattle.pf_selectors.proofs.multiples.run_over.Goals as goal

pub overflow_cast-range : goal.overflow_cast-range
overflow_cast-range c = omega (arith, ints, c.requires.starts 0 c.requires.there, c.requires.times 0 c.requires.there)

pub between-requires-clause-from : goal.between-requires-clause-from
between-requires-clause-from c =
    let e : to_z w64 (of_z w64 (to_z w64 (of_z w64 c.span-span.result.first) -ℤ to_z w64 c.args.range)) ≡ c.span-span.result.first -ℤ pos c.args.range = first_of (search rules, grind (arith, common_steps)) in
    subst IsTime (sym e) (c.span-span.ensures.starts c.args.range c.requires.starts)

pub between-requires-clause-order : goal.between-requires-clause-order
between-requires-clause-order c =
    let first = c.span-span.result.first in
    let last = c.span-span.result.last in
    let from_is : to_z w64 (of_z w64 (to_z w64 (of_z w64 first) -ℤ to_z w64 c.args.range)) ≡ first -ℤ pos c.args.range = first_of (search rules, grind (arith, common_steps)) in
    let to_is : to_z w64 (of_z w64 last) ≡ last = first_of (search rules, grind (arith, common_steps)) in
    let some : 0 < c.args.times.now.len = c.requires.there in
    let r = rises_to c.args.range first last (time_at c.args.times.now 0) (c.span-span.ensures.low 0 some) (c.span-span.ensures.high 0 some) in
    omega (arith, ints, from_is, to_is, r)

pub returns : goal.returns
returns c =
    let times = c.args.times.now in
    let range = c.args.range in
    let first = c.span-span.result.first in
    let last = c.span-span.result.last in
    let from = to_z w64 (of_z w64 (to_z w64 (of_z w64 first) -ℤ to_z w64 range)) in
    let to = to_z w64 (of_z w64 last) in
    let from_is : from ≡ first -ℤ pos range = first_of (search rules, grind (arith, common_steps)) in
    let to_is : to ≡ last = first_of (search rules, grind (arith, common_steps)) in
    found_over range c.args.resolution c.min.result times first last from to c.between.result c.requires.some c.min.ensures c.requires.there c.requires.times c.requires.starts c.requires.touching
    (record {
      from_is = from_is;
      to_is = to_is;
      from_time = subst IsTime (sym from_is) (c.span-span.ensures.starts range c.requires.starts);
      to_time = subst IsTime (sym to_is) c.span-span.ensures.last;
      low = c.span-span.ensures.low;
      high = c.span-span.ensures.high;
      least = c.span-span.ensures.least;
      greatest = c.span-span.ensures.greatest;
    }) c.between.ensures.between
