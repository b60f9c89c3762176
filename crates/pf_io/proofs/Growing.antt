use Rattle.std.proofs.Common.{◌≡◌, ℕ, ◌+◌, ◌-◌, ◌<◌, ◌≤◌, List, ◌++◌, length, take, drop, append_assoc, ap, ◌∙◌, subst, arith, length-drop}
use Rattle.std.proofs.lemmas.List.{take_rest}
use Rattle.std.proofs.Math.Seq.{take-add}
use Rattle.std.specs.Prelude.{Option, Some, None}
use Rattle.pf_io.specs.Outside.{Grows}

-- bytes added after bytes are both added
pub grows_more : (a b c : Option (List ℕ)) (xs ys : List ℕ) → Grows a b xs → Grows b c ys → Grows a c (xs ++ ys)
grows_more None b c xs ys p q = tt
grows_more (Some old) b c xs ys p q =
    let grown : c ≡ Some ((old ++ xs) ++ ys) = subst (λ (told : Option (List ℕ)). Grows told c ys) p q in
    grown ∙ ap Some (append_assoc old xs ys)

-- a front of the bytes, and then a front of the rest, is a longer front
pub grows_on : (a b c : Option (List ℕ)) (bytes : List ℕ) (at n : ℕ) → Grows a b (take at bytes)
    → Grows b c (take n (take (length bytes - at) (drop at bytes))) → Grows a c (take (at + n) bytes)
grows_on a b c bytes at n p q =
    rw (take-add at n bytes) (grows_more a b c (take at bytes) (take n (drop at bytes)) p (rw (take_rest bytes at) at q))

-- a front of the rest ends within the bytes
pub ends_within : (bytes : List ℕ) (at n : ℕ) → at < length bytes → n ≤ length (take (length bytes - at) (drop at bytes)) → at + n ≤ length bytes
ends_within bytes at n inside h =
    let front : n ≤ length (drop at bytes) = rw (take_rest bytes at) at h in
    omega (arith, length-drop at bytes)
