use Rattle.std.proofs.Common.{map, string_bytes}
use Rattle.pf_match.proofs.Tables.{fate_of_last, refused_stays, refused_table}
use Rattle.pf_match.proofs.table.Patterns.refuse.Goals as goal

pub invariant_of-self-2 : goal.invariant_of-self-2
invariant_of-self-2 c =
    refused_table c.self.inside.built (map string_bytes c.self.inside.refused.items) _ c.args.text.now c.in_ok-push.ensures.added c.self.invariant c.requires.read
    (rw (← c.self.view_is) at c.requires.further)

pub returns-clause-fate : goal.returns-clause-fate
returns-clause-fate c refused agrees =
    fate_of_last c.self.inside.built (map string_bytes c.self.inside.refused.items) _ c.args.text.now c.in_ok-push.ensures.added refused agrees

pub returns-clause-still : goal.returns-clause-still
returns-clause-still c =
    rw (← c.self.view_is)
    (refused_stays c.self.inside.built (map string_bytes c.self.inside.refused.items) (map string_bytes c.push.new.texts.items) c.args.text.now c.in_ok-push.ensures.added)
