-- Cells were kept of a range query.
use Rattle.std.proofs.Common.{rules, ◌≡◌, inl, false}
use Rattle.pf_front.proofs.Offers.{kept_as}
use Rattle.pf_front.proofs.keeping.keep_cells.Goals as goal

pub returns-in-Steps-clause-kept : goal.returns-in-Steps-clause-kept
returns-in-Steps-clause-kept c =
    let ranged : c.in-Some.ensures.found.opened.asked.instant ≡ false = search rules in
    inl
    (kept_as c.args.core.now c.args.query c.requires.stands c.requires.evaluable c.args.noted.items c.requires.noted c.in-Some.opened c.in-Some.ensures.found ranged _
    c.keep.new.self c.in-Steps.ensures.kept)

pub returns-in-Outdated-clause-kept : goal.returns-in-Outdated-clause-kept
returns-in-Outdated-clause-kept c =
    let ranged : c.in-Some.ensures.found.opened.asked.instant ≡ false = search rules in
    kept_as c.args.core.now c.args.query c.requires.stands c.requires.evaluable c.args.noted.items c.requires.noted c.in-Some.opened c.in-Some.ensures.found ranged _
    c.keep.new.self c.in-Outdated.ensures.kept

pub returns-in-NoMemory-clause-kept : goal.returns-in-NoMemory-clause-kept
returns-in-NoMemory-clause-kept c =
    let ranged : c.in-Some.ensures.found.opened.asked.instant ≡ false = search rules in
    kept_as c.args.core.now c.args.query c.requires.stands c.requires.evaluable c.args.noted.items c.requires.noted c.in-Some.opened c.in-Some.ensures.found ranged _
    c.keep.new.self c.in-NoMemory.ensures.kept
