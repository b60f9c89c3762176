-- The value of a query at a time is the same over samples that agree where it reads. This project's own.
use Rattle.std.proofs.Common.{◌≡◌, ℤ, pos, Bool, true, false, cond, List, [], ◌∷◌, Option, Some, None, refl, sym, ◌∙◌, subst, arith}
use Rattle.std.proofs.lemmas.Int.{ints}
use Rattle.std.specs.Prelude.{option_map}
use Rattle.std.specs.Int.Signed.{≤ℤ_refl}
use Rattle.std.specs.List.{filter}
use Rattle.pf_base.specs.declared.plain.Row.{Row}
use Rattle.pf_model.proofs.TimesRead.{IsWithin, value_same}
use Rattle.pf_model.specs.Evaluation.{eval}
use Rattle.pf_model.specs.Reach.{Times, times_read}
use Rattle.pf_model.specs.Trees.{Tree}
use Rattle.pf_resolve.specs.Reading.{Agree, ReadsNoOthers, is_between}

outside : (r : Row) → is_between (pos 1) (pos 0) r ≡ false
outside r = grind (arith, ints)

none_step : (c : Bool) → c ≡ false → (r : Row) (rest : List Row) → rest ≡ [] → cond c (r ∷ rest) rest ≡ []
none_step true h r rest e = let no : true ≡ false = h in cc
none_step false h r rest e = e

none_between : (rows : List Row) → filter (is_between (pos 1) (pos 0)) rows ≡ []
none_between [] = refl
none_between (r ∷ rs) = none_step (is_between (pos 1) (pos 0) r) (outside r) r (filter (is_between (pos 1) (pos 0)) rs) (none_between rs)

by_times : (query : Tree) (t : ℤ) (xs ys : List Row) (times : Option Times) → times_read query t ≡ times
    → Agree (option_map (λ (found : Times). found.earliest) times) (option_map (λ (found : Times). found.latest) times) xs ys
    → eval xs query t ≡ eval ys query t
by_times query t xs ys None e h =
    value_same (pos 1) (pos 0) xs ys (none_between xs ∙ sym (none_between ys)) query t (subst (IsWithin (pos 1) (pos 0)) (sym e) tt)
by_times query t xs ys (Some times) e h =
    value_same times.earliest times.latest xs ys h query t
    (subst (IsWithin times.earliest times.latest) (sym e) (≤ℤ_refl times.earliest, ≤ℤ_refl times.latest))

pub reads_no_others : ReadsNoOthers
reads_no_others query t xs ys h = by_times query t xs ys (times_read query t) refl h
