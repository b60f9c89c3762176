use Rattle.std.proofs.Common.{◌≡◌, rules, arith, ◌<◌, ◌-◌, length, ap, ◌∙◌, get_or, nat_le}
use Rattle.pf_block.specs.Runs.{count_by}
use Rattle.pf_block.proofs.Pairing.{entry_there, rows_there}
use Rattle.pf_block.proofs.block.Block.entry_near.Goals as goal

pub run_at-run-requires-clause-inside : goal.run_at-run-requires-clause-inside
run_at-run-requires-clause-inside c =
    let r = rows_there c.self.inside.runs.items c.self.inside.samples.items c.self.invariant.0 c.args.self.now c.self.view_is in
    let m : c.args.place < length c.self.inside.samples.items = omega (arith, r, c.requires) in
    search (rules, m)

pub index-requires-2 : goal.index-requires-2
index-requires-2 c =
    let r = rows_there c.self.inside.runs.items c.self.inside.samples.items c.self.invariant.0 c.args.self.now c.self.view_is in
    let m : c.args.place < length c.self.inside.samples.items = omega (arith, r, c.requires) in
    search (rules, m)

pub returns : goal.returns
returns c = λ e.
    let rs = c.self.inside.runs.items in
    let v = c.run_at-run.ensures.value ∙ ap (count_by (λ r. nat_le r.1 c.args.place)) c.deref.ensures.value in
    let p : c.run_at-run.result ≡ count_by (λ r. nat_le r.1 c.args.place) c.self.inside.runs.items - 1 = omega (arith, v) in
    entry_there rs c.self.inside.samples.items c.self.invariant.0 c.args.self.now c.args.place c.index.result.now.0 c.index-2.result.now e c.index.result.now c.self.view_is c.requires
    (ap (λ x. x.0) c.index.ensures ∙ ap (λ k. (get_or rs k c.index.result.now).0) p)
    c.index-2.ensures
