-- Dropping extents one by one.
use Rattle.std.proofs.Common.{◌≡◌, ℕ, suc, ◌-◌, ◌<◌, List, [], ◌∷◌, length, drop, ap, arith}
use Rattle.pf_extent.specs.declared.extent.Extent.{Extent}
use Rattle.pf_extent.specs.Combining.{last_of}

pub one_less : (n : ℕ) (es : List Extent) → n < length es → last_of n (drop 1 es) ≡ last_of n es
one_less n [] h = absurd (omega (arith, h))
one_less n (e ∷ es) h =
    let fewer : suc (length es - n) ≡ suc (length es) - n = omega (arith, h) in ap (λ k. drop k (e ∷ es)) fewer
