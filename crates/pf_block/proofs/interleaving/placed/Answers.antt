use Rattle.std.proofs.Common.{◌++◌, ◌<◌, length, map, get_or, refl, sym, ap, ◌∙◌, subst, arith}
use Rattle.std.specs.Arc.{arc_value}
use Rattle.std.specs.List.{All}
use Rattle.std.proofs.lemmas.List.Elements.{All-drop}
use Rattle.pf_block.specs.IndexStacks.{joined}
use Rattle.pf_block.proofs.Interleaved.{placed_all, placed_next, rest_ordered}
use Rattle.pf_block.proofs.interleaving.placed.Goals as goal

pub loop-id-preserved : goal.loop-id-preserved
loop-id-preserved c =
    let ls = joined (map arc_value c.args.layers.now) in
    let n = c.count_before-count.result in
    let rest = c.loop-id.rest.now in
    let left = c.split_at.result.1.now in
    record {
      placed = placed_next ls c.args.few.now c.args.many.now c.requires.few c.requires.many c.loop-id.id-index n (get_or c.args.few.now c.loop-id.id-index 0) c.loop-id.found.items rest
          c.extend_from_slice.new.self.items c.push.new.self.items left (omega arith) refl c.loop-id.invariant.placed c.count_before-count.ensures.within c.count_before-count.ensures.before
          c.count_before-count.ensures.behind (c.in_ok-extend_from_slice.ensures.items ∙ ap (λ x. c.loop-id.found.items ++ x) c.split_at.ensures.front) c.in_ok-push.ensures.items c.split_at.ensures.back;
      ordered = rest_ordered ls rest left n c.loop-id.invariant.ordered c.split_at.ensures.back;
      within = subst (All (λ i. i < length ls)) (sym c.split_at.ensures.back) (All-drop (λ i. i < length ls) n rest c.loop-id.invariant.within);
    }

pub returns : goal.returns
returns c =
    placed_all (joined (map arc_value c.args.layers.now)) c.args.few.now c.args.many.now c.requires.few c.requires.many c.loop-id.id-index c.loop-id.found.items c.loop-id.rest.now
    c.extend_from_slice-2.new.self.items (omega arith) c.loop-id.invariant.placed c.in_ok-extend_from_slice-2.ensures.items
