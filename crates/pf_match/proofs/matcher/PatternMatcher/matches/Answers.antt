use Rattle.std.proofs.Common.{◌∙◌}
use Rattle.pf_match.proofs.Searches.{matches_of}
use Rattle.pf_match.proofs.matcher.PatternMatcher.matches.Goals as goal

pub returns-clause-found : goal.returns-clause-found
returns-clause-found c =
    c.is_match.ensures.found
    ∙ rw (← c.self.view_is, c.deref_mut.ensures.value) (matches_of _ _ _ c.args.text.now (λ k. (c.type_inv.text k).fits) c.self.invariant)
