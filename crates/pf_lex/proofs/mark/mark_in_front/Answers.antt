use Rattle.pf_lex.proofs.Marks.{no_mark_in_front, one_in_front, two_in_front}
use Rattle.pf_lex.proofs.mark.mark_in_front.Goals as goal

pub returns-in-Some : goal.returns-in-Some
returns-in-Some c = two_in_front c.args.inside c.args.bytes.now c.in-Some.mark c.requires c.in-Some.ensures

pub returns-in_err-mark : goal.returns-in_err-mark
returns-in_err-mark c = let e = c.from_residual.ensures in rw e (no_mark_in_front c.args.inside c.args.bytes.now c.requires c.in_default.ensures c.in_err-mark.ensures)

pub returns : goal.returns
returns c = one_in_front c.args.inside c.args.bytes.now c.in_ok-mark.mark c.requires c.in_default.ensures c.in_ok-mark.ensures
