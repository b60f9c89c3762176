use Rattle.std.proofs.Common.{◌≡◌, ◌+◌, ◌++◌, true, map, drop, suc, sym, ap, ◌∙◌, subst, arith}
use Rattle.pf_block.specs.Blocks.{entries_of, entry_of, labels_with}
use Rattle.pf_block.specs.Snaps.{are_timed, sample_of}
use Rattle.pf_block.proofs.Numbering.{entries_next, labels_next, rest_timed}
use Rattle.pf_block.proofs.snap.noted.Goals as goal

pub loop-row-preserved : goal.loop-row-preserved
loop-row-preserved c =
    let rows = c.args.rows.now in
    let k = c.loop-row.row-index in
    let n : k + 1 ≡ suc k = omega arith in
    let known = c.args.index.now ++ c.loop-row.new in
    record {
      entries = (λ i. map entry_of c.push.new.self.items ++ entries_of (c.in_ok-next.ensures.index i) (drop (n i) rows))
          ∙ entries_next rows k c.row-item.result (omega arith) c.row-item.is known c.loop-row.entries.items c.push.new.self.items c.entry.result c.in_ok-push.ensures.items
          (c.entry.ensures ∙ (λ i. (c.in_ok-next.ensures.id i, sample_of c.row-item.result))) _ c.loop-row.invariant.entries;
      labels = (λ i. labels_with (c.in_ok-next.ensures.index i) (drop (n i) rows)) ∙ labels_next rows k c.row-item.result (omega arith) c.row-item.is known _ c.loop-row.invariant.labels;
      timed = subst (λ m. are_timed (drop m rows) ≡ true) (sym n) (rest_timed rows k c.row-item.result (omega arith) c.row-item.is c.loop-row.invariant.timed);
      behind = c.in_ok-next.ensures.behind;
    }
