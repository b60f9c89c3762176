use Rattle.std.proofs.Common.{◌++◌, map, take, ap, ◌∙◌}
use Rattle.pf_agg.proofs.rank.push_first.Goals as goal

pub returns : goal.returns
returns c =
    let found = c.args.found.now.items in
    c.in_ok-push_some.ensures
    ∙ ap (λ es. found ++ take c.args.most (map (λ e. e.now) es)) c.deref.ensures.value
    ∙ ap (λ es. found ++ take c.args.most es) c.in_ok-ranked.ensures
