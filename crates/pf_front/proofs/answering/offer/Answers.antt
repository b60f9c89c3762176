-- A query is offered, or was before.
use Rattle.std.proofs.Common.{◌≡◌, false, true, arith}
use Rattle.pf_front.proofs.Offers.{offer_keepable, offered_before, offered_by}
use Rattle.pf_front.proofs.answering.offer.Goals as goal

pub keep-kept-requires : goal.keep-kept-requires
keep-kept-requires c =
    let no : c.in-Some.opened.offered ≡ false = grind (arith, c.if-not-opened.true) in
    offer_keepable c.args.core.now c.args.query c.requires.stands c.requires.evaluable c.args.noted.items c.requires.noted c.in-Some.opened c.in-Some.ensures.found no

pub returns-then-not-opened-clause-offered : goal.returns-then-not-opened-clause-offered
returns-then-not-opened-clause-offered c =
    offered_by c.args.core.now c.args.query c.requires.stands c.requires.evaluable c.args.noted.items c.requires.noted c.keep-kept.result c.keep-kept.new.self c.keep-kept.ensures.kept

pub returns-else-not-opened-clause-offered : goal.returns-else-not-opened-clause-offered
returns-else-not-opened-clause-offered c =
    let yes : c.in-Some.opened.offered ≡ true = grind (arith, c.if-not-opened.false) in
    offered_before c.args.core.now c.args.query c.requires.stands c.requires.evaluable c.in-Some.opened c.in-Some.ensures.found yes
