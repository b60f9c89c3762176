use Rattle.std.proofs.Common.{map, string_bytes, sym, ap, ◌∙◌}
use Rattle.pf_match.specs.Meaning.{is_pattern}
use Rattle.pf_match.proofs.Tables.{fate_of_built, is_absent}
use Rattle.pf_match.proofs.table.Patterns.pattern.Goals as goal

pub returns-in-Some-clause-fate : goal.returns-in-Some-clause-fate
returns-in-Some-clause-fate c refused agrees =
    let own = c.self.invariant.own c.args.text.now c.in-Some.pattern.now c.in-Some.ensures in
    fate_of_built c.self.inside.built (map string_bytes c.self.inside.refused.items) refused c.args.text.now c.in-Some.pattern.now c.in-Some.ensures
    (ap is_pattern (sym own) ∙ c.in_ok-share.ensures.read) (rw (← c.self.view_is) at agrees)

pub compile-requires-clause-unbuilt : goal.compile-requires-clause-unbuilt
compile-requires-clause-unbuilt c = rw (← c.self.view_is) (is_absent c.self.inside.built c.args.text.now c.in_default.ensures)

pub returns-in-Some-clause-read : goal.returns-in-Some-clause-read
returns-in-Some-clause-read c =
    ap is_pattern (sym (c.self.invariant.own c.args.text.now c.in-Some.pattern.now c.in-Some.ensures)) ∙ c.in_ok-share.ensures.read
