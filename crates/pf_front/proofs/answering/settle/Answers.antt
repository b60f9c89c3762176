-- What is answered of parts, and of a whole grid.
use Rattle.std.proofs.Common.{sym, subst}
use Rattle.pf_front.proofs.Offers.{found_by_parts, found_by_whole}
use Rattle.pf_front.proofs.Settled.{answered_behind, settled_stopped}
use Rattle.pf_front.specs.Settling.{IsSettled}
use Rattle.pf_front.proofs.answering.settle.Goals as goal

pub returns-in-Given-clause-answered : goal.returns-in-Given-clause-answered
returns-in-Given-clause-answered c =
    answered_behind c.args.core.now c.settled_by-found.new.core c.args.by c.args.query c.answer_with-in-Given.result c.answer_with-in-Given.new.core
    c.settled_by-found.ensures.works c.answer_with-in-Given.ensures.answered

pub returns-in-Parts-clause-answered : goal.returns-in-Parts-clause-answered
returns-in-Parts-clause-answered c =
    answered_behind c.args.core.now c.settled_by-found-in-Parts.new.core c.args.by c.args.query c.answer_with-in-Parts.result c.answer_with-in-Parts.new.core
    c.settled_by-found-in-Parts.ensures.works c.answer_with-in-Parts.ensures.answered

pub answer_with-requires : goal.answer_with-requires
answer_with-requires c =
    let told = rw c.in-Stopped.is at c.requires.told in
    subst (IsSettled c.args.core.now c.args.query) (sym c.stopped_by.ensures) (settled_stopped c.args.core.now c.args.query c.in-Stopped.why c.requires.stands told.1)

pub settled_by-found-requires-clause-found : goal.settled_by-found-requires-clause-found
settled_by-found-requires-clause-found c =
    let told = rw c.in-Given.is at c.requires.told in
    found_by_whole c.args.core.now c.args.query c.requires.stands told.1 c.found_of_whole-found.result c.cover_more.ensures c.found_of_whole-found.ensures.found
    c.found_of_whole-found.ensures.whole

pub settled_by-found-requires-in-Parts-clause-found : goal.settled_by-found-requires-in-Parts-clause-found
settled_by-found-requires-in-Parts-clause-found c =
    let told = rw c.in-Parts.is at c.requires.told in
    found_by_parts c.args.core.now c.args.query c.requires.stands told.1.0 c.found_of_parts-found.result c.in-Parts.gathered.runs.items c.cover_more.ensures told.1.1
    c.found_of_parts-found.ensures.found
