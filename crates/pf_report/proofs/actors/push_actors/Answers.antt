use Rattle.std.proofs.Common.{◌≡◌, rules, arith, length, vec_len}
use Rattle.std.proofs.lemmas.Grind.{common_steps}
use Rattle.pf_report.proofs.Joined.{kept_on}
use Rattle.pf_report.proofs.actors.push_actors.Goals as goal

pub returns-in_err-push_actor-clause-kept : goal.returns-in_err-push_actor-clause-kept
returns-in_err-push_actor-clause-kept c =
    let before : length c.args.out.now.items ≡ vec_len c.args.out.now = first_of (search rules, grind (arith, common_steps)) in
    let now : length c.loop-actor.out.items ≡ vec_len c.loop-actor.out = first_of (search rules, grind (arith, common_steps)) in
    kept_on _ _ _ _ _ c.loop-actor.invariant.kept c.push_actor.ensures.kept before now

pub loop-actor-preserved : goal.loop-actor-preserved
loop-actor-preserved c =
    let before : length c.args.out.now.items ≡ vec_len c.args.out.now = first_of (search rules, grind (arith, common_steps)) in
    let now : length c.loop-actor.out.items ≡ vec_len c.loop-actor.out = first_of (search rules, grind (arith, common_steps)) in
    record {
      ok = grind (arith, common_steps);
      kept = kept_on _ _ _ _ _ c.loop-actor.invariant.kept c.in_ok-push_actor.ensures.kept before now;
    }
