use Rattle.pf_match.proofs.Tables.{agrees_itself}
use Rattle.pf_match.proofs.table.Patterns.refused.Goals as goal

pub returns-clause-agrees : goal.returns-clause-agrees
returns-clause-agrees c = rw (c.deref.ensures.value, ← c.self.view_is) (agrees_itself c.self.inside.built _ c.self.invariant)
