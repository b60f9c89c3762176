use Rattle.std.proofs.Common.{[], ◌∷◌, ◌++◌, ap, ◌∙◌, subst}
use Rattle.pf_model.specs.Lists.{Each}
use Rattle.pf_shard.specs.LegParts.{FitsNodes}
use Rattle.pf_eval.proofs.BoundLegs.{last_of}
use Rattle.pf_eval.proofs.MergedLegs.{each_last}
use Rattle.pf_eval.proofs.merging.whole_steps.Goals as goal

pub whole_of-requires : goal.whole_of-requires
whole_of-requires c = each_last (FitsNodes []) c.pop.new.self.items c.in-Some.part (subst (Each (FitsNodes [])) c.in-Some.ensures.items c.requires.fits)

pub returns : goal.returns
returns c =
    let rest = c.pop.new.self.items in
    last_of c.args.parts.items rest _ c.requires.one (c.in-Some.ensures.items ∙ ap (λ p. rest ++ (p ∷ [])) c.whole_of.ensures)
