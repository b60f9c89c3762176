-- What is told of a query, and what is kept of it.
use Rattle.pf_front.proofs.Offers.{found_by_parts, found_by_whole, handed_before, kept_again, kept_parts}
use Rattle.pf_front.proofs.Settled.{handed}
use Rattle.pf_front.proofs.Tries.{works_refl}
use Rattle.pf_front.proofs.keeping.keep.Goals as goal

pub keep_found-requires-clause-evaluable : goal.keep_found-requires-clause-evaluable
keep_found-requires-clause-evaluable c =
    let told = rw c.in-Given.is at c.in-Some.ensures.collected in
    (handed_before c.args.core.now c.args.query c.collect.new.self told.0 told.1).evaluable

pub keep_found-requires-clause-found : goal.keep_found-requires-clause-found
keep_found-requires-clause-found c =
    let told = rw c.in-Given.is at c.in-Some.ensures.collected in
    found_by_whole c.collect.new.self c.args.query c.in-Some.ensures.stands (handed_before c.args.core.now c.args.query c.collect.new.self told.0 told.1).evaluable
    c.found_of_whole-found.result c.cover_more.ensures c.found_of_whole-found.ensures.found c.found_of_whole-found.ensures.whole

pub keep_found-requires-in-Parts-clause-evaluable : goal.keep_found-requires-in-Parts-clause-evaluable
keep_found-requires-in-Parts-clause-evaluable c =
    let told = rw c.in-Parts.is at c.in-Some.ensures.collected in
    (handed 0 0 c.args.core.now c.args.core.now c.args.query c.in-Parts.gathered c.collect.new.self (works_refl c.args.core.now) told.0 told.1).1.0

pub keep_found-requires-in-Parts-clause-found : goal.keep_found-requires-in-Parts-clause-found
keep_found-requires-in-Parts-clause-found c =
    let told = rw c.in-Parts.is at c.in-Some.ensures.collected in
    let t = handed 0 0 c.args.core.now c.args.core.now c.args.query c.in-Parts.gathered c.collect.new.self (works_refl c.args.core.now) told.0 told.1 in
    found_by_parts c.collect.new.self c.args.query c.in-Some.ensures.stands t.1.0 c.found_of_parts-found.result c.in-Parts.gathered.runs.items c.cover_more.ensures t.1.1
    c.found_of_parts-found.ensures.found

pub returns-in-Given-clause-kept : goal.returns-in-Given-clause-kept
returns-in-Given-clause-kept c =
    let told = rw c.in-Given.is at c.in-Some.ensures.collected in
    kept_again c.args.core.now c.collect.new.self c.args.query c.keep_found.new.core c.found_of_whole-found.result c.keep_found.result told.0 told.1
    c.found_of_whole-found.ensures.found c.keep_found.ensures.kept

pub returns-in-Parts-clause-kept : goal.returns-in-Parts-clause-kept
returns-in-Parts-clause-kept c =
    let told = rw c.in-Parts.is at c.in-Some.ensures.collected in
    kept_parts c.args.core.now c.collect.new.self c.args.query c.in-Parts.gathered c.keep_found-in-Parts.new.core c.found_of_parts-found.result c.keep_found-in-Parts.result
    told.0 told.1 c.found_of_parts-found.ensures.found c.keep_found-in-Parts.ensures.kept
