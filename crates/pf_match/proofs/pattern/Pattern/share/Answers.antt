use Rattle.pf_match.proofs.Searches.{is_pattern_of}
use Rattle.pf_match.proofs.pattern.Pattern.share.Goals as goal

pub returns-clause-read : goal.returns-clause-read
returns-clause-read c = rw (← c.self.view_is) (is_pattern_of _ _ _ c.self.invariant)
