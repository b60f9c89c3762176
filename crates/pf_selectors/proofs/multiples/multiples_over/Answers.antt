use Rattle.std.proofs.Common.{refl, rules, arith}
use Rattle.pf_selectors.proofs.StepMultiples.{listed_over, none_over}
use Rattle.pf_selectors.proofs.multiples.multiples_over.Goals as goal

pub returns-then-times-eq0 : goal.returns-then-times-eq0
returns-then-times-eq0 c = none_over c.args.range c.args.resolution _ c.args.times.now refl (omega arith) (search rules)

pub returns-then-are_apart : goal.returns-then-are_apart
returns-then-are_apart c =
    listed_over c.args.range c.args.resolution c.min.result c.args.times.now c.in_ok-at.at c.requires.some c.min.ensures (omega arith) c.requires.times c.requires.starts
    (c.are_apart.ensures.apart (search rules)) c.in_ok-at.ensures
