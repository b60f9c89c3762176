use Rattle.std.proofs.Common.{map, ap, ◌∙◌, to_z, of_z, w64}
use Rattle.std.proofs.lemmas.Int.{to_z-of_z}
use Rattle.std.specs.Arc.{arc_value}
use Rattle.pf_block.specs.Samples.{rises, window_of}
use Rattle.pf_block.specs.Stacks.{series_in}
use Rattle.pf_block.proofs.Reading.{read_same}
use Rattle.pf_block.proofs.Searches.{window_rises}
use Rattle.pf_block.proofs.window.Window.over.Goals as goal

pub invariant_of-result : goal.invariant_of-result
invariant_of-result c =
    let e = read_same c.is_joined.result c.args.id (map arc_value c.args.blocks.now) c.is_joined.ensures in
    let a = to_z w64 (of_z w64 c.args.after) in
    let u = to_z w64 (of_z w64 c.args.upto) in
    (ap (λ x. rises (window_of x a u)) e ∙ window_rises a u (series_in c.args.id (map arc_value c.args.blocks.now)) c.requires.rises, ap rises e ∙ c.requires.rises)

pub returns : goal.returns
returns c =
    ap (λ x. window_of x (to_z w64 (of_z w64 c.args.after)) (to_z w64 (of_z w64 c.args.upto))) (read_same c.is_joined.result c.args.id (map arc_value c.args.blocks.now) c.is_joined.ensures)
    ∙ (λ i. window_of (series_in c.args.id (map arc_value c.args.blocks.now)) (to_z-of_z w64 c.args.after c.ranges.after i) (to_z-of_z w64 c.args.upto c.ranges.upto i))
