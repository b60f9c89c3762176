use Rattle.std.proofs.Common.{rules, ◌≡◌, ℕ, ℤ, ◌+◌, ◌∷◌, [], get_or, length, ap, ◌∙◌, to_z, of_z, w64}
use Rattle.std.proofs.lemmas.List.{length-append}
use Rattle.pf_math.specs.declared.values.Change.{Change}
use Rattle.pf_math.specs.declared.values.Change.TheVariants.{Remove}
use Rattle.pf_math.specs.EachValue.{changed, value_by}
use Rattle.pf_selectors.specs.Times.{time_at}
use Rattle.pf_eval.specs.Calls.{scalars_at}
use Rattle.pf_eval.proofs.InstantSteps.{pushed}
use Rattle.pf_eval.proofs.instant.changes_by_step.Goals as goal

pub loop-step-preserved : goal.loop-step-preserved
loop-step-preserved c =
    let l = c.loop-step in
    let f = c.args.f in
    let ss = c.args.scalars.now in
    let ts = c.args.times.now in
    let time : to_z w64 (of_z w64 c.at.result) ≡ time_at ts l.step = search rules in
    record {
      many = ap length c.in_ok-push.ensures.items ∙ length-append l.found.items (c.change_of.result ∷ []) ∙ ap (λ n. n + 1) l.invariant.many;
      each = λ k h v. ap (λ xs. changed (get_or xs k Remove) v) c.in_ok-push.ensures.items
          ∙ pushed (λ (m : ℕ) (ch : Change). (w : ℤ) → changed ch w ≡ value_by f (scalars_at ss m) (time_at ts m) w) l.found.items c.change_of.result Remove l.step
          l.invariant.many l.invariant.each
          (λ w. c.change_of.ensures w ∙ λ i. value_by f ((c.deref.ensures.value ∙ c.in_ok-read.ensures) i) (time i) w) k h v;
    }
