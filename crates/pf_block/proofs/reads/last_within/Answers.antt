use Rattle.std.proofs.Common.{map, ap, ◌∙◌, to_z, of_z, w64}
use Rattle.std.proofs.lemmas.Int.{to_z-of_z}
use Rattle.std.specs.Arc.{arc_value}
use Rattle.pf_block.specs.Samples.{last_of, rises, window_of}
use Rattle.pf_block.specs.Stacks.{joined_in, series_in}
use Rattle.pf_block.proofs.Reading.{behind_is_map, front_is, front_read, last_parts}
use Rattle.pf_block.proofs.Series.{drop_rises}
use Rattle.pf_block.proofs.reads.last_within.Goals as goal

pub last_joined-first-requires : goal.last_joined-first-requires
last_joined-first-requires c =
    let m = c.min-ordered.result in
    ap (λ l. rises (joined_in c.args.id l)) (front_is arc_value c.args.id m c.args.ordered c.args.blocks.now c.min-ordered.ensures)
    ∙ front_read arc_value c.args.id m c.args.ordered c.args.blocks.now c.min-ordered.ensures c.requires.front

pub last_of_all-behind-requires : goal.last_of_all-behind-requires
last_of_all-behind-requires c =
    let m = c.min-ordered.result in
    ap (λ l. rises (series_in c.args.id l)) (behind_is_map arc_value c.args.id m c.args.ordered c.args.blocks.now c.min-ordered.ensures)
    ∙ drop_rises c.args.id m (map arc_value c.args.blocks.now) c.requires.rises

pub returns : goal.returns
returns c =
    let m = c.min-ordered.result in
    last_parts c.args.id m (map arc_value c.args.blocks.now) _ _ c.args.after c.args.upto c.last_joined-first.result c.last_of_all-behind.result c.later.result c.requires.rises
    (front_read arc_value c.args.id m c.args.ordered c.args.blocks.now c.min-ordered.ensures c.requires.front)
    (to_z-of_z w64 c.args.after c.ranges.after) (to_z-of_z w64 c.args.upto c.ranges.upto)
    (c.last_joined-first.ensures ∙ ap (λ l. last_of (window_of (joined_in c.args.id l) (to_z w64 (of_z w64 c.args.after)) (to_z w64 (of_z w64 c.args.upto)))) (front_is arc_value c.args.id m c.args.ordered c.args.blocks.now c.min-ordered.ensures))
    (c.last_of_all-behind.ensures ∙ ap (λ l. last_of (window_of (series_in c.args.id l) (to_z w64 (of_z w64 c.args.after)) (to_z w64 (of_z w64 c.args.upto)))) (behind_is_map arc_value c.args.id m c.args.ordered c.args.blocks.now c.min-ordered.ensures))
    c.later.ensures
