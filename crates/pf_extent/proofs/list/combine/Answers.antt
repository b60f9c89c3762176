use Rattle.std.proofs.Common.{◌≡◌, ◌-◌, None, cond, List, length, ap, subst, sym, ◌∙◌}
use Rattle.pf_extent.specs.declared.extent.Extent.{Extent}
use Rattle.pf_extent.specs.Combining.{combined, known_with, last_of, with_extent}
use Rattle.pf_extent.specs.Steps.{AreApart, AreSpaced, IsKept, has_begun, known_at}
use Rattle.pf_extent.proofs.ApartLists.{combined_every, combined_kept, with_apart}
use Rattle.pf_extent.proofs.KnownSteps.{drop_known, with_known}
use Rattle.pf_extent.proofs.list.combine.Goals as goal

pub put-requires : goal.put-requires
put-requires c = record {
  lawful = c.requires.lawful;
  apart = subst AreApart (sym c.deref.ensures.value) c.list.invariant.apart;
  step = subst (AreSpaced c.args.extent.step) (sym (c.deref.ensures.value ∙ c.list.view_is)) c.requires.step;
}

pub returns-in_err-extents-clause-known : goal.returns-in_err-extents-clause-known
returns-in_err-extents-clause-known c =
    with_known c.args.extent c.args.list.now c.requires.lawful (subst AreApart c.list.view_is c.list.invariant.apart) c.requires.step

pub returns-clause-combined : goal.returns-clause-combined
returns-clause-combined c =
    c.last_ones.ensures
    ∙ ap (last_of 64) (c.in_ok-extents.ensures ∙ ap (λ es. with_extent es c.args.extent) (c.deref.ensures.value ∙ c.list.view_is))

pub returns-clause-kept : goal.returns-clause-kept
returns-clause-kept c =
    subst IsKept (sym (returns-clause-combined c))
    (combined_kept c.args.extent c.requires.lawful c.args.list.now (subst AreApart c.list.view_is c.list.invariant.apart) c.requires.step)

pub invariant_of-result : goal.invariant_of-result
invariant_of-result c = returns-clause-kept c

pub returns-clause-known : goal.returns-clause-known
returns-clause-known c =
    with_known c.args.extent c.args.list.now c.requires.lawful (subst AreApart c.list.view_is c.list.invariant.apart) c.requires.step

pub returns-clause-left : goal.returns-clause-left
returns-clause-left c t =
    let apart : AreApart c.args.list.now = subst AreApart c.list.view_is c.list.invariant.apart in
    let all : List Extent = with_extent c.args.list.now c.args.extent in
    let P : List Extent → Type 0 = λ es. known_at t es ≡ cond (has_begun t es) (known_with c.args.list.now c.args.extent t) None in
    subst P (sym (returns-clause-combined c))
    (drop_known (length all - 64) t all (with_apart c.args.extent c.requires.lawful c.args.list.now apart c.requires.step)
    ∙ ap (λ k. cond (has_begun t (combined c.args.list.now c.args.extent)) k None)
    (with_known c.args.extent c.args.list.now c.requires.lawful apart c.requires.step t))

pub returns-clause-step : goal.returns-clause-step
returns-clause-step c =
    subst (AreSpaced c.args.extent.step) (sym (returns-clause-combined c))
    (combined_every c.args.extent c.requires.lawful c.args.list.now (subst AreApart c.list.view_is c.list.invariant.apart) c.requires.step)
