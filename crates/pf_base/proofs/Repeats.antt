-- A walk along pairs in search of a name that the next pair has too.
use Rattle.std.proofs.Common.{◌≡◌, ℕ, zero, suc, ◌-◌, ◌<◌, ◌≤◌, false, cond, List, [], ◌∷◌, length, refl, sym, ap, ◌∙◌, subst, get_or, drop, arith, None, Some}
use Rattle.std.specs.Str.{bytes_eq}
use Rattle.std.proofs.lemmas.List.{get_or_default}
use Rattle.pf_base.specs.LabelSets.{Pairs}
use Rattle.pf_base.specs.LabelWalk.{repeated_name, repeated_after}

step : (k : ℕ) (ps : Pairs) (d : List ℕ × List ℕ) → suc k < length ps → bytes_eq (get_or ps k d).0 (get_or ps (suc k) d).0 ≡ false → repeated_name (drop (suc k) ps) ≡ repeated_name (drop k ps)
step k [] d l h = absurd (omega arith)
step zero (p ∷ []) d l h = absurd (omega arith)
step zero (p ∷ q ∷ ps) d l h = sym (ap (λ b. cond b (Some p.0) (repeated_after q.0 ps)) h)
step (suc k) (p ∷ ps) d l h = step k ps d (omega arith) h

end : (k : ℕ) (ps : Pairs) → length ps ≤ suc k → repeated_name (drop k ps) ≡ None
end zero [] l = refl
end (suc k) [] l = refl
end zero (p ∷ []) l = refl
end zero (p ∷ q ∷ ps) l = absurd (omega arith)
end (suc k) (p ∷ ps) l = end k ps (omega arith)

-- a turn of the walk: the names of the pairs before i and at i differ
pub step_at : (ps : Pairs) (i j : ℕ) (a b : List ℕ × List ℕ) → 0 < i → i < length ps → j ≡ i → a ≡ get_or ps (i - 1) a → b ≡ get_or ps i b → bytes_eq a.0 b.0 ≡ false → repeated_name (drop j ps) ≡ repeated_name (drop (i - 1) ps)
step_at ps zero j a b z l e p q h = absurd (omega arith)
step_at ps (suc k) j a b z l e p q h =
    let m : suc k - 1 ≡ k = omega arith in
    let pk : a ≡ get_or ps k a = subst (λ n. a ≡ get_or ps n a) m p in
    let qk : b ≡ get_or ps (suc k) a = q ∙ get_or_default ps (suc k) b a l in
    let apart : bytes_eq (get_or ps k a).0 (get_or ps (suc k) a).0 ≡ false = (λ i. bytes_eq (sym pk i).0 (sym qk i).0) ∙ h in
    let t : repeated_name (drop (suc k) ps) ≡ repeated_name (drop k ps) = step k ps a l apart in
    ap (λ n. repeated_name (drop n ps)) e ∙ t ∙ ap (λ n. repeated_name (drop n ps)) (sym m)

-- its end
pub at_end : (ps : Pairs) (i : ℕ) → 0 < i → length ps ≤ i → repeated_name (drop (i - 1) ps) ≡ None
at_end ps zero z l = absurd (omega arith)
at_end ps (suc k) z l = let e : suc k - 1 ≡ k = omega arith in rw e (end k ps l)
