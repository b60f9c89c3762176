use Rattle.std.proofs.Common.{refl}
use Rattle.pf_lex.proofs.Utf8.{value_on}
use Rattle.pf_lex.proofs.value.quoted_value.Goals as goal

pub loop-i-preserved : goal.loop-i-preserved
loop-i-preserved c =
    value_on c.args.quote c.args.bytes.now c.loop-i.i _ c.loop-i.value.items c.push_written.new.out.items _ c.in-Writes.written c.in-Writes.further c.loop-i-test.true c.in-Writes.ensures.piece c.loop-i.invariant
    c.in_ok-push_written-in-Writes.ensures.ok refl
