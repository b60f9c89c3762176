use Rattle.std.proofs.Common.{◌≡◌, ◌<◌, ◌+◌, ◌*◌, ℕ, ℤ, pos, ap, sym, ◌∙◌, subst}
use Rattle.pf_model.specs.Evaluation.{eval}
use Rattle.pf_eval.proofs.GivenParts.{are_times}
use Rattle.pf_eval.proofs.MergedLegs.{root_few, root_merged, root_of, root_positive}
use Rattle.pf_eval.proofs.merging.merged_steps.Goals as goal

pub steps_from_groups-requires-clause-merged : goal.steps_from_groups-requires-clause-merged
steps_from_groups-requires-clause-merged c =
    root_merged c.args.legs.now c.deref.result.now _ (c.deref.ensures ∙ ap (λ d. d.resolved) c.legs.view_is) (ap (λ d. d.shards) c.legs.view_is) c.requires.sharded
    c.in_ok-groups.groups.items c.args.parts.items c.in_ok-groups.ensures c.requires.many c.requires.evaluable

pub steps_from_groups-requires-clause-times : goal.steps_from_groups-requires-clause-times
steps_from_groups-requires-clause-times c = are_times 64 c.times_of-times.result c.times_of-times.ensures.room

pub steps_from_groups-requires-clause-positive : goal.steps_from_groups-requires-clause-positive
steps_from_groups-requires-clause-positive c =
    root_positive c.args.legs.now c.deref.result.now _ (c.deref.ensures ∙ ap (λ d. d.resolved) c.legs.view_is) (ap (λ d. d.shards) c.legs.view_is) c.requires.sharded
    c.in_ok-groups.groups.items c.args.parts.items c.in_ok-groups.ensures c.requires.many

pub steps_from_groups-requires-clause-few : goal.steps_from_groups-requires-clause-few
steps_from_groups-requires-clause-few c =
    root_few c.args.legs.now c.deref.result.now _ (c.deref.ensures ∙ ap (λ d. d.resolved) c.legs.view_is) (ap (λ d. d.shards) c.legs.view_is) c.requires.sharded
    c.in_ok-groups.groups.items c.args.parts.items c.in_ok-groups.ensures c.requires.many

pub returns : goal.returns
returns c = λ samples values k h.
    let run = c.args.run.now in
    let time : ℕ → ℤ = λ j. pos (run.start + j * run.step) in
    let same : c.deref.result.now ≡ c.args.legs.now.resolved = c.deref.ensures ∙ ap (λ d. d.resolved) c.legs.view_is in
    c.in_ok-steps.ensures samples
    (root_of c.args.legs.now c.deref.result.now _ same (ap (λ d. d.shards) c.legs.view_is) c.requires.sharded
    c.in_ok-groups.groups.items c.args.parts.items c.in_ok-groups.ensures c.requires.many
    samples c.times_of-times.result time run.len c.times_of-times.ensures.len c.times_of-times.ensures.times values c.requires.some)
    k (subst (λ n. k < n) (sym c.times_of-times.ensures.len) h)
    ∙ ap (λ t. eval samples c.deref.result.now.query t) (c.times_of-times.ensures.times k h)
    ∙ ap (λ r. eval samples r.query (time k)) same
