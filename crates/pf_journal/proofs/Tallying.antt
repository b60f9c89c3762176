-- What is counted of a journal with one more entry.
use Rattle.std.proofs.Common.{◌≡◌, List, [], ◌∷◌, ◌++◌, refl, ap, ◌∙◌}
use Rattle.std.proofs.lemmas.List.Sums.{fold_push}
use Rattle.pf_base.specs.declared.plain.Limits.{Limits}
use Rattle.pf_journal.specs.Legal.{Moment, machine_after, moments, moments_from}
use Rattle.pf_journal.specs.Machine.{Entry, Machine, next, started}
use Rattle.pf_journal.specs.Summaries.{nothing_counted, tally_of, with_entry, with_moment}

moments-snoc : (m : Machine) (journal : List Entry) (e : Entry)
    → moments_from m (journal ++ e ∷ []) ≡ moments_from m journal ++ record { before = machine_after m journal; entry = e } ∷ []
moments-snoc m [] e = refl
moments-snoc m (x ∷ xs) e = ap (λ (rest : List Moment). record { before = m; entry = x } ∷ rest) (moments-snoc (next m x.what) xs e)

pub tally-snoc : (limits : Limits) (journal : List Entry) (e : Entry)
    → tally_of limits (moments (journal ++ e ∷ [])) ≡ with_entry limits (tally_of limits (moments journal)) (machine_after started journal) e.what
tally-snoc limits journal e =
    ap (tally_of limits) (moments-snoc started journal e)
    ∙ fold_push (with_moment limits) nothing_counted (moments journal) (record { before = machine_after started journal; entry = e })
