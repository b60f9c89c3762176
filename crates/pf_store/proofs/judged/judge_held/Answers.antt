use Rattle.std.proofs.Common.{arith}
use Rattle.std.proofs.Common.{◌≡◌, ◌∙◌, ap, sym}
use Rattle.std.proofs.lemmas.Grind.{common_steps}
use Rattle.pf_block.specs.Snaps.{held_by}
use Rattle.pf_model.specs.Log.{compared, held_value, is_taken}
use Rattle.pf_store.proofs.Judging.{held_known, held_unknown}
use Rattle.pf_store.proofs.Numbers.{id_within, taken_none}
use Rattle.pf_store.proofs.judged.judge_held.Goals as goal
use Rattle.pf_store.specs.Verdicts.{verdict_of}

pub held_by-requires : goal.held_by-requires
held_by-requires c =
    id_within c.in_ok-numbered.numbered.id c.args.row.now.labels c.args.snap.now.labels
    (c.in_ok-numbered.ensures.ids c.args.row.now.labels c.in_ok-numbered.numbered c.in_ok-numbered.ensures.known)

pub returns-in-Some-clause-verdict : goal.returns-in-Some-clause-verdict
returns-in-Some-clause-verdict c =
    let id = c.in_ok-numbered.ensures.ids c.args.row.now.labels c.in_ok-numbered.numbered c.in_ok-numbered.ensures.known in
    λ xs f.
    c.compared.ensures
    ∙ sym (ap (λ o. compared o c.args.row.now.value) (held_known c.args.snap.now xs c.args.taken.now.rows.items c.args.row.now.labels c.args.row.now.time c.in-Some.held f
    (c.in-Some.ensures ∙ ap (λ o. held_by c.args.snap.now o c.args.row.now.time) id)))

pub returns-clause-verdict : goal.returns-clause-verdict
returns-clause-verdict c =
    let id = c.in_ok-numbered.ensures.ids c.args.row.now.labels c.in_ok-numbered.numbered c.in_ok-numbered.ensures.known in
    λ xs f.
    c.in_ok-verdict.ensures.verdict ∙ ap (λ rs. compared (held_value rs.items c.args.row.now.labels c.args.row.now.time) c.args.row.now.value) c.in_ok-numbered.ensures.rows
    ∙ sym (ap (λ o. compared o c.args.row.now.value) (held_unknown c.args.snap.now xs c.args.taken.now.rows.items c.args.row.now.labels c.args.row.now.time f
    (c.in_default.ensures ∙ ap (λ o. held_by c.args.snap.now o c.args.row.now.time) id)))

pub returns-clause-fresh : goal.returns-clause-fresh
returns-clause-fresh c =
    let id = c.in_ok-numbered.ensures.ids c.args.row.now.labels c.in_ok-numbered.numbered c.in_ok-numbered.ensures.known in
    let same : verdict_of c.in_ok-verdict.verdict ≡ compared (held_value c.args.taken.now.rows.items c.args.row.now.labels c.args.row.now.time) c.args.row.now.value =
    (c.in_ok-verdict.ensures.verdict ∙ ap (λ rs. compared (held_value rs.items c.args.row.now.labels c.args.row.now.time) c.args.row.now.value) c.in_ok-numbered.ensures.rows) in
    λ h. record {
      unheld = sym (c.in_default.ensures ∙ ap (λ o. held_by c.args.snap.now o c.args.row.now.time) id);
      apart = taken_none (held_value c.args.taken.now.rows.items c.args.row.now.labels c.args.row.now.time) c.args.row.now.value (sym (ap is_taken same) ∙ h);
    }

pub returns-clause-rows : goal.returns-clause-rows
returns-clause-rows c = grind (arith, common_steps)

pub returns-clause-found : goal.returns-clause-found
returns-clause-found c = grind (arith, common_steps)

pub returns-clause-ids : goal.returns-clause-ids
returns-clause-ids c = grind (arith, common_steps)
