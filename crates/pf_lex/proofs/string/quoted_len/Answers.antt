use Rattle.std.proofs.Common.{arith}
use Rattle.std.proofs.Common.{refl}
use Rattle.std.proofs.lemmas.Grind.{common_steps}
use Rattle.pf_lex.proofs.Quoted.{quoted_on}
use Rattle.pf_lex.proofs.string.quoted_len.Goals as goal

pub loop-i-preserved : goal.loop-i-preserved
loop-i-preserved c = quoted_on c.args.quote c.args.bytes.now c.loop-i.i _ _ c.in-Writes.written c.in-Writes.further c.loop-i-test.true c.in-Writes.ensures.piece c.loop-i.invariant refl

pub returns-clause-len : goal.returns-clause-len
returns-clause-len c = grind (arith, common_steps)

pub returns-clause-within : goal.returns-clause-within
returns-clause-within c = grind (arith, common_steps)
