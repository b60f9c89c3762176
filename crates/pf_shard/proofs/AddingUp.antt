-- Sums and numbers that are small add up.
use Rattle.std.proofs.Common.{◌≡◌, ◌≤◌, ◌+ℤ◌, true, List, [], ◌∷◌, arith}
use Rattle.std.specs.Prelude.{unsigned_abs}
use Rattle.std.specs.Int.{w128}
use Rattle.std.proofs.lemmas.Int.{ints, fits_signed_from_abs}
use Rattle.pf_base.specs.declared.plain.Partial.{Partial}
use Rattle.pf_base.specs.LabelSets.{Pairs}
use Rattle.pf_model.specs.Lists.{Each}
use Rattle.pf_model.specs.Selection.{same_labels}
use Rattle.pf_shard.specs.Parts.{AddUp, AreSmall, Fit, IsSmall}

fit : (a b : Partial) → IsSmall a → IsSmall b → Fit a b
fit a b h k =
    let size : unsigned_abs (a.sum +ℤ b.sum) ≤ 170141183460469231731687303715884105726 = omega (arith, ints, h.0, k.0) in
    (fits_signed_from_abs w128 (a.sum +ℤ b.sum) (omega (arith, size)), omega (arith, h.1, k.1))

fit_all : (p : Pairs × Partial) (qs : List (Pairs × Partial)) → IsSmall p.1 → AreSmall qs → Each (λ q. same_labels p.0 q.0 ≡ true → Fit p.1 q.1) qs
fit_all p [] h k = tt
fit_all p (q ∷ qs) h k = ((λ e. fit p.1 q.1 h k.0), fit_all p qs h k.1)

pub small_add_up : (ps qs : List (Pairs × Partial)) → AreSmall ps → AreSmall qs → AddUp ps qs
small_add_up [] qs h k = tt
small_add_up (p ∷ ps) qs h k = (fit_all p qs h.0 k, small_add_up ps qs h.1 k)
