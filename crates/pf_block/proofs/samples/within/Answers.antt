use Rattle.std.proofs.Common.{ap, ◌∙◌, w64}
use Rattle.std.proofs.lemmas.Int.{to_z-of_z}
use Rattle.pf_block.specs.Samples.{until, window_of}
use Rattle.pf_block.proofs.Searches.{front_rises_at, slice_is}
use Rattle.pf_block.proofs.samples.within.Goals as goal

pub count_until-requires-2 : goal.count_until-requires-2
count_until-requires-2 c =
    front_rises_at c.args.upto c.args.samples.now c.count_until.result c.requires (c.count_until.ensures.value ∙ ap (λ t. until t c.args.samples.now) (to_z-of_z w64 c.args.upto c.ranges.upto))

pub returns : goal.returns
returns c =
    slice_is _ c.args.upto c.args.samples.now c.count_until.result c.count_until-2.result c.requires
    (c.count_until.ensures.value ∙ ap (λ t. until t c.args.samples.now) (to_z-of_z w64 c.args.upto c.ranges.upto)) c.count_until-2.ensures.value
    ∙ ap (λ t. window_of c.args.samples.now t c.args.upto) (to_z-of_z w64 c.args.after c.ranges.after)
