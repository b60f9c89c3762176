use Rattle.std.proofs.Common.{◌++◌, map, ap, ◌∙◌}
use Rattle.std.proofs.lemmas.List.{map_push}
use Rattle.pf_eval.proofs.LoopSteps.{none_there, one_there, with_none}
use Rattle.pf_eval.proofs.pairing.push_at.Goals as goal

pub returns-in_ok-push : goal.returns-in_ok-push
returns-in_ok-push c =
    let found = c.args.found.now.items in
    ap (map (λ d. d.now)) c.in_ok-push.ensures.items ∙ map_push (λ d. d.now) found c.in-Some.column
    ∙ ap (λ cs. map (λ d. d.now) found ++ cs)
    (one_there c.args.columns.now c.args.place c.in-Some.column.now c.in-Some.ensures.lookup.0 c.in-Some.ensures.lookup.1)

pub returns-in_default : goal.returns-in_default
returns-in_default c = with_none _ _ (none_there c.args.columns.now c.args.place c.in_default.ensures.lookup.0)
