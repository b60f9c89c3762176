use Rattle.std.proofs.Common.{◌+◌, Some, None, map, drop, option_map, refl, sym, ap, ◌∙◌}
use Rattle.pf_block.specs.Snaps.{labels_of}
use Rattle.pf_columns.specs.Steps.{rise_above}
use Rattle.pf_selectors.proofs.RankedSeries.{next_above}
use Rattle.pf_selectors.proofs.instant.are_in_order.Goals.{in-Some+else-not-is_before, in_default}
use Rattle.pf_selectors.proofs.instant.are_in_order.Goals as goal

pub loop-id-preserved : goal.loop-id-preserved
loop-id-preserved c =
    let s = c.args.snap.now in
    let ids = c.args.ids.now in
    let i = c.loop-id.id-index in
    let there = c.requires i 0 c.loop-id-test.true in
    elim c.match-last.branch [
      | in-Some+else-not-is_before w ↦ record {
        within = there;
        rise =
            next_above s ids i (Some (labels_of s w.in-Some.last)) c.loop-id-test.true (sym w.if-not-is_before.ensures)
            ∙ ap (λ o. rise_above (option_map (labels_of s) o) (map (labels_of s) (drop i ids))) (sym w.in-Some.is)
            ∙ c.loop-id.invariant.rise;
      }
      | in_default w ↦ record {
        within = there;
        rise =
            next_above s ids i None c.loop-id-test.true refl
            ∙ ap (λ o. rise_above (option_map (labels_of s) o) (map (labels_of s) (drop i ids))) (sym w.in_default.is)
            ∙ c.loop-id.invariant.rise;
      }
    ]
