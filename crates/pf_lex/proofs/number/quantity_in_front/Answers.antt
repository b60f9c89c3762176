use Rattle.pf_lex.proofs.Quantities.{number_in_front, quantity_left}
use Rattle.pf_lex.proofs.number.quantity_in_front.Goals as goal

pub returns-in-Some : goal.returns-in-Some
returns-in-Some c = λ inside. number_in_front inside c.args.bytes.now _ _ c.requires c.in-Some.ensures

pub returns-in-None : goal.returns-in-None
returns-in-None c = λ inside. quantity_left inside c.args.bytes.now c.duration_in_front.result c.requires c.in-None.ensures c.duration_in_front.ensures
