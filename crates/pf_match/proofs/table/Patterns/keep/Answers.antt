use Rattle.std.proofs.Common.{map, string_bytes}
use Rattle.pf_match.proofs.Tables.{fate_of_built, kept_stays, kept_table, same_table}
use Rattle.pf_match.proofs.table.Patterns.keep.Goals as goal

pub invariant_of-self : goal.invariant_of-self
invariant_of-self c = same_table c.self.inside.built c.insert.new.built _ c.in_err-insert.ensures.same c.self.invariant

pub invariant_of-self-2 : goal.invariant_of-self-2
invariant_of-self-2 c =
    kept_table c.self.inside.built c.insert.new.built _ c.args.text.now c.args.pattern c.in_ok-insert.ensures.added c.in_ok-insert.ensures.others
    c.self.invariant (rw (← c.self.view_is) at c.requires.further) c.requires.own

pub returns-clause-fate : goal.returns-clause-fate
returns-clause-fate c refused agrees = fate_of_built c.insert.new.built _ refused c.args.text.now c.args.pattern c.in_ok-insert.ensures.added c.requires.read agrees

pub returns-clause-still : goal.returns-clause-still
returns-clause-still c =
    rw (← c.self.view_is)
    (kept_stays c.self.inside.built c.insert.new.built (map string_bytes c.self.inside.refused.items) c.args.text.now c.args.pattern c.in_ok-insert.ensures.added c.in_ok-insert.ensures.others)
