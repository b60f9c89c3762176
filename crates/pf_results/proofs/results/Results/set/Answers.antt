use Rattle.std.proofs.Common.{rules, subst, sym}
use Rattle.std.specs.Prelude.{IfSome}
use Rattle.pf_extent.specs.Steps.{AreSpaced}
use Rattle.pf_extent.specs.declared.key.Key.{Key}
use Rattle.pf_results.proofs.Keys.{set_spaced}
use Rattle.pf_results.proofs.results.Results.set.Goals as goal

pub invariant_of-self : goal.invariant_of-self
invariant_of-self c =
    set_spaced c.set.result c.self.inside.cache c.set.new.self c.in_ok-own.own c.in-Some.list c.args.list (search rules)
    (subst (λ (k : Key). IfSome c.args.list (AreSpaced k.step)) (sym c.in_ok-own.ensures) c.requires) c.self.invariant c.set.ensures.ok c.set.ensures.err
