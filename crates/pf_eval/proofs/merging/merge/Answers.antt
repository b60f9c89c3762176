use Rattle.std.proofs.Common.{rules, ◌≡◌, ◌+◌, ◌*◌, [], pos}
use Rattle.pf_shard.specs.declared.parts.Part.TheVariants.{Whole}
use Rattle.pf_shard.specs.Lawful.{legs_data}
use Rattle.pf_eval.proofs.BoundLegs.{merged_is}
use Rattle.pf_eval.proofs.MergedLegs.{fits_all}
use Rattle.pf_eval.proofs.merging.merge.Goals as goal

pub returns-then-is_empty : goal.returns-then-is_empty
returns-then-is_empty c = record {
  value = λ samples h k l.
      let none : c.args.legs.now.nodes ≡ [] = search rules in
      merged_is samples (legs_data c.args.legs.now) none c.whole_steps.result 0 k (pos (c.args.run.now.start + k * c.args.run.now.step))
      (h 0 (Whole c.whole_steps.result) c.whole_steps.ensures k l);
}

pub merged_steps-requires-clause-groups : goal.merged_steps-requires-clause-groups
merged_steps-requires-clause-groups c =
    let some : c.args.legs.now.nodes ≡ [] → ⊥ = search rules in
    fits_all c.args.legs.now.nodes some c.args.parts.items c.requires.fits
