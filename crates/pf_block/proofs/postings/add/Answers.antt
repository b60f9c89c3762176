use Rattle.std.proofs.Common.{◌++◌, sym, ap, ◌∙◌, arith}
use Rattle.std.proofs.lemmas.Grind.{common_steps}
use Rattle.pf_block.proofs.Joining.{zero_shift}
use Rattle.pf_block.proofs.postings.add.Goals as goal

pub returns-then-first-eq0 : goal.returns-then-first-eq0
returns-then-first-eq0 c =
    c.in_ok-extend_from_slice.ensures.items ∙ ap (λ x. c.args.ids.now.items ++ x) (sym (zero_shift c.args.first c.args.locals.now c.if-first-eq0.true))

pub loop-id-preserved : goal.loop-id-preserved
loop-id-preserved c = grind (arith, common_steps)
