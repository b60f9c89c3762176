use Rattle.std.proofs.Common.{◌≡◌, ◌++◌, ap, ◌∙◌}
use Rattle.std.specs.Arc.{arc_value}
use Rattle.pf_block.specs.Blocks.{entries_with, labels_with, samples_in, times_in}
use Rattle.pf_block.specs.Snaps.{are_apart}
use Rattle.pf_block.proofs.Handing.{alike_ids, entries_are, labels_apart}
use Rattle.pf_block.proofs.snap.Snap.with_ids.Goals as goal

pub grown-requires : goal.grown-requires
grown-requires c =
    let all : arc_value c.self.inside.index ++ c.deref.result.now ≡ labels_with c.args.self.now.labels c.args.rows.now =
    (λ i. (c.self.view_is i).labels ++ c.deref.ensures.value i) ∙ c.in_ok-fresh.ensures.labels in
    ap are_apart all ∙ labels_apart c.args.self.now.labels c.args.rows.now c.new_labels.ensures.apart

pub block_of-requires-clause-alike : goal.block_of-requires-clause-alike
block_of-requires-clause-alike c = alike_ids c.args.ids.now c.args.self.now.labels c.args.rows.now c.requires.numbered

pub with_block-requires-clause-samples : goal.with_block-requires-clause-samples
with_block-requires-clause-samples c = λ id x.
    c.in_ok-block.ensures.samples id x
    ∙ ap (λ es. times_in x (samples_in id es)) (ap (λ ids. entries_with ids c.args.rows.now) c.requires.numbered ∙ entries_are c.args.self.now.labels c.args.rows.now)
