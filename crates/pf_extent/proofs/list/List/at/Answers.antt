use Rattle.std.proofs.Common.{◌≡◌, true, false, None, length, nat_lt, ap, subst, sym, ◌∙◌}
use Rattle.std.specs.Prelude.{option_map, slice_index_or}
use Rattle.pf_extent.specs.Steps.{AreApart, ended, extent_at, known_of}
use Rattle.pf_extent.proofs.Places.{found_in, known_is, lawful_at, missing_in}
use Rattle.pf_extent.proofs.list.List.at.Goals as goal

missing : (c : goal.After-from_residual) → extent_at c.args.step c.args.self.now ≡ None
missing c =
    ap (extent_at c.args.step) (sym c.self.view_is)
    ∙ missing_in c.args.step c.self.inside.extents.items c.count_ended-place.result c.self.invariant.apart
    (c.count_ended-place.ensures ∙ ap (ended c.args.step) c.deref.ensures.value)
    (c.in_err-extent.ensures.lookup.0 ∙ ap (λ es. nat_lt c.count_ended-place.result (length es)) c.deref-2.ensures.value)

pub returns-in_err-extent-clause-found : goal.returns-in_err-extent-clause-found
returns-in_err-extent-clause-found c = rw c.from_residual.ensures (missing c)

pub returns-in_err-extent-clause-known : goal.returns-in_err-extent-clause-known
returns-in_err-extent-clause-known c = rw c.from_residual.ensures (known_is c.args.step c.args.self.now ∙ ap (option_map (known_of c.args.step)) (missing c))

pub returns-then-has_step-clause-found : goal.returns-then-has_step-clause-found
returns-then-has_step-clause-found c =
    ap (extent_at c.args.step) (sym c.self.view_is)
    ∙ found_in c.args.step c.self.inside.extents.items c.in_ok-extent.extent.now c.count_ended-place.result true c.self.invariant.apart
    (c.count_ended-place.ensures ∙ ap (ended c.args.step) c.deref.ensures.value)
    (c.in_ok-extent.ensures.lookup.0 ∙ ap (λ es. nat_lt c.count_ended-place.result (length es)) c.deref-2.ensures.value)
    (c.in_ok-extent.ensures.lookup.1 ∙ ap (λ es. slice_index_or es c.count_ended-place.result c.in_ok-extent.extent.now) c.deref-2.ensures.value)
    (sym c.if-has_step.true ∙ c.has_step.ensures)

pub returns-then-has_step-clause-known : goal.returns-then-has_step-clause-known
returns-then-has_step-clause-known c =
    known_is c.args.step c.args.self.now ∙ ap (option_map (known_of c.args.step)) (returns-then-has_step-clause-found c)

pub returns-then-has_step-clause-lawful : goal.returns-then-has_step-clause-lawful
returns-then-has_step-clause-lawful c =
    (lawful_at c.args.step c.args.self.now c.in_ok-extent.extent.now (subst AreApart c.self.view_is c.self.invariant.apart) (returns-then-has_step-clause-found c)).0

pub returns-else-has_step-clause-found : goal.returns-else-has_step-clause-found
returns-else-has_step-clause-found c =
    ap (extent_at c.args.step) (sym c.self.view_is)
    ∙ found_in c.args.step c.self.inside.extents.items c.in_ok-extent.extent.now c.count_ended-place.result false c.self.invariant.apart
    (c.count_ended-place.ensures ∙ ap (ended c.args.step) c.deref.ensures.value)
    (c.in_ok-extent.ensures.lookup.0 ∙ ap (λ es. nat_lt c.count_ended-place.result (length es)) c.deref-2.ensures.value)
    (c.in_ok-extent.ensures.lookup.1 ∙ ap (λ es. slice_index_or es c.count_ended-place.result c.in_ok-extent.extent.now) c.deref-2.ensures.value)
    (sym c.if-has_step.false ∙ c.has_step.ensures)

pub returns-else-has_step-clause-known : goal.returns-else-has_step-clause-known
returns-else-has_step-clause-known c =
    known_is c.args.step c.args.self.now ∙ ap (option_map (known_of c.args.step)) (returns-else-has_step-clause-found c)
