use Rattle.std.proofs.Common.{rules, refl, inr, codes, [], ◌∷◌}
use Rattle.pf_client.proofs.FileReads.{no_range, range_words, selector_words, selects_found, selects_refused}
use Rattle.pf_client.proofs.Cases.{if_ok_map}
use Rattle.pf_client.proofs.Steps.{grows_if, grows_same, starved_delete, step_bad_delete}
use Rattle.pf_client.proofs.client.Client.delete.Goals as goal

pub returns-then-is_no_range-clause-runs : goal.returns-then-is_no_range-clause-runs
returns-then-is_no_range-clause-runs c known right n k =
    step_bad_delete known n c.args.self.now _ c.args.number c.args.tenant.now c.args.from c.args.to c.args.selector.now (codes "bad" ∷ codes "range" ∷ [])
    refl refl (range_words c.args.from c.args.to (search rules)) (no_range known.refused c.args.from c.args.to c.args.selector.now (search rules)) (search rules)

pub returns-in-Ok-clause-runs : goal.returns-in-Ok-clause-runs
returns-in-Ok-clause-runs c =
    if_ok_map _ _ c.delete_selected.result
    (λ r run known right. run known c.args.selector.now
    (selects_found known.refused c.args.queries.now c.args.selector.now c.in-Some.read.now c.in-Built.matchers _ right (search rules) (search rules) (search rules)))
    c.delete_selected.ensures.runs

pub returns-in_ok-push_delete_reply-in-Refused-clause-runs : goal.returns-in_ok-push_delete_reply-in-Refused-clause-runs
returns-in_ok-push_delete_reply-in-Refused-clause-runs c known right n k =
    step_bad_delete known n c.args.self.now _ c.args.number c.args.tenant.now c.args.from c.args.to c.args.selector.now (codes "bad" ∷ codes "selector" ∷ [])
    refl refl (selector_words c.args.from c.args.to (search rules))
    (inr (inr (selects_refused known.refused c.args.queries.now c.args.selector.now c.in-Some.read.now right (search rules) (search rules)))) (search rules)

pub returns-in-Err-clause-runs : goal.returns-in-Err-clause-runs
returns-in-Err-clause-runs c =
    if_ok_map _ _ c.starve_delete.result (λ r run known right. run known)
    (starved_delete c.args.self.now c.starve_delete.new.self c.args.number c.args.tenant.now c.args.from c.args.to c.args.selector.now c.starve_delete.result
    c.starve_delete.ensures.starved (search rules) (search rules) (search rules))

pub returns-in-Err-clause-grows : goal.returns-in-Err-clause-grows
returns-in-Err-clause-grows c = grows_if c.args.self.now.core _ c.starve_delete.result (search rules)

pub returns-then-is_no_range-clause-grows : goal.returns-then-is_no_range-clause-grows
returns-then-is_no_range-clause-grows c = grows_same c.args.self.now.core _ refl

pub returns-in_ok-push_delete_reply-in-Refused-clause-grows : goal.returns-in_ok-push_delete_reply-in-Refused-clause-grows
returns-in_ok-push_delete_reply-in-Refused-clause-grows c = grows_same c.args.self.now.core _ refl
