-- The first sample of a list and the last ones, by their places.
use Rattle.std.proofs.Common.{◌≡◌, ◌≤◌, ℕ, zero, suc, List, [], ◌∷◌, length, get_or, arith}
use Rattle.pf_base.specs.declared.plain.Sample.{Sample}
use Rattle.pf_model.specs.RangeFunctions.{but_last, first, last}

pub first_at : (ss : List Sample) (x : Sample) → 1 ≤ length ss → x ≡ get_or ss 0 x → x ≡ first ss
first_at [] x l e = absurd (omega (arith, l))
first_at (s ∷ ss) x l e = e

pub last_at : (ss : List Sample) (n : ℕ) (x : Sample) → suc n ≡ length ss → x ≡ get_or ss n x → x ≡ last ss
last_at [] n x l e = absurd (omega (arith, l))
last_at (s ∷ []) zero x l e = e
last_at (s ∷ []) (suc n) x l e = absurd (omega (arith, l))
last_at (s ∷ r ∷ rs) zero x l e = absurd (omega (arith, l))
last_at (s ∷ r ∷ rs) (suc n) x l e = last_at (r ∷ rs) n x (omega (arith, l)) e

pub before_at : (ss : List Sample) (n : ℕ) (x : Sample) → suc (suc n) ≡ length ss → x ≡ get_or ss n x → x ≡ last (but_last ss)
before_at [] n x l e = absurd (omega (arith, l))
before_at (s ∷ []) n x l e = absurd (omega (arith, l))
before_at (s ∷ r ∷ []) zero x l e = e
before_at (s ∷ r ∷ []) (suc n) x l e = absurd (omega (arith, l))
before_at (s ∷ r ∷ q ∷ qs) zero x l e = absurd (omega (arith, l))
before_at (s ∷ r ∷ q ∷ qs) (suc n) x l e = before_at (r ∷ q ∷ qs) n x (omega (arith, l)) e
