use Rattle.std.proofs.Common.{◌≡◌, ap, ◌∙◌, take, drop, length, ◌-◌, nat_lt, nat_le, rules}
use Rattle.pf_block.specs.Blocks.{samples_in}
use Rattle.pf_block.proofs.Pairing.{part_rest, part_runs, places}
use Rattle.pf_block.proofs.Runs.{started}
use Rattle.pf_block.proofs.block.Block.series.Goals as goal

pub slice_bounds-result-count : goal.slice_bounds-result-count
slice_bounds-result-count c =
    let rs = c.self.inside.runs.items in
    let ss = c.self.inside.samples.items in
    let rows : c.len-rows.result ≡ length c.self.inside.samples.items = search rules in
    places rs ss c.self.invariant.0 c.args.id c.start_of-from.result c.start_of-to.result
    (started rs (λ r. nat_lt r.0 c.args.id) c.deref-3.result.now c.deref.result.now c.count_below-below.result c.len-rows.result (length ss) c.start_of-from.result c.deref-3.ensures.value c.deref.ensures.value rows c.count_below-below.ensures.value c.start_of-from.ensures.value)
    (started rs (λ r. nat_le r.0 c.args.id) c.deref-4.result.now c.deref-2.result.now c.count_upto-upto.result c.len-rows.result (length ss) c.start_of-to.result c.deref-4.ensures.value c.deref-2.ensures.value rows c.count_upto-upto.ensures c.start_of-to.ensures.value)

pub returns : goal.returns
returns c =
    let rs = c.self.inside.runs.items in
    let ss = c.self.inside.samples.items in
    let m = c.start_of-from.result in
    let n = c.start_of-to.result in
    let rows : c.len-rows.result ≡ length c.self.inside.samples.items = search rules in
    ap (λ l. take (n - m) (take (length l - m) (drop m l))) c.deref-5.ensures.value
    ∙ part_rest (n - m) m ss
    ∙ part_runs rs ss c.self.invariant.0 c.args.id m n c.self.invariant.1
    (started rs (λ r. nat_lt r.0 c.args.id) c.deref-3.result.now c.deref.result.now c.count_below-below.result c.len-rows.result (length ss) c.start_of-from.result c.deref-3.ensures.value c.deref.ensures.value rows c.count_below-below.ensures.value c.start_of-from.ensures.value)
    (started rs (λ r. nat_le r.0 c.args.id) c.deref-4.result.now c.deref-2.result.now c.count_upto-upto.result c.len-rows.result (length ss) c.start_of-to.result c.deref-4.ensures.value c.deref-2.ensures.value rows c.count_upto-upto.ensures c.start_of-to.ensures.value)
    ∙ ap (samples_in c.args.id) c.self.view_is
