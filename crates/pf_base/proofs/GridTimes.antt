-- Times at equal distances: how many, which stands where, that they rise, how two lists of them join, and that those of
-- an aligned grid are the multiples of its step.
use Rattle.std.proofs.Common.{◌≡◌, ℕ, zero, suc, ◌+◌, ◌-◌, ◌*◌, ◌/◌, ◌%◌, ◌≤◌, ◌<◌, ◌∷◌, ◌++◌, length, get_or, refl, ap, sym, ◌∙◌, arith}
use Rattle.std.specs.Prelude.{Some, Contains}
use Rattle.std.specs.List.{slice_get}
use Rattle.std.proofs.Math.Nat.{mul-mod_left, suc-mul, add-mul, mul-le-mul_right, div-mul-le_self}
use Rattle.std.proofs.lemmas.Nat.{le-div, div-add-mod'}
use Rattle.std.proofs.lemmas.Option.{get_or_from_slice_get}
use Rattle.pf_base.specs.GridLists.{IsGrid, AreMultiples, times_from}

-- there are as many as are asked for
pub length-times_from : (t step n : ℕ) → length (times_from t step n) ≡ n
length-times_from t step zero = refl
length-times_from t step (suc n) = ap suc (length-times_from (t + step) step n)

-- the i-th one is i distances past the first
pub slice_get-times_from : (t step n i : ℕ) → i < n → slice_get (times_from t step n) i ≡ Some (t + i * step)
slice_get-times_from t step zero i h = absurd (omega arith)
slice_get-times_from t step (suc n) zero h = ap Some (omega arith)
slice_get-times_from t step (suc n) (suc i) h =
    slice_get-times_from (t + step) step n i (omega arith) ∙ ap Some (omega (arith, suc-mul i step))

-- with a distance they rise
pub time_rises : (t step i j : ℕ) → 0 < step → i < j → t + i * step < t + j * step
time_rises t step i j s h =
    let more : suc i * step ≤ j * step = mul-le-mul_right step (omega arith)
    in omega (arith, suc-mul i step)

-- none lies past the last
pub time_within : (t step n i most : ℕ) → i < n → t + (n - 1) * step ≤ most → t + i * step ≤ most
time_within t step n i most h b =
    let more : i * step ≤ (n - 1) * step = mul-le-mul_right step (omega arith)
    in omega arith

-- a first part and the rest
pub times_from-append :
    (t step m n : ℕ) → times_from t step (m + n) ≡ times_from t step m ++ times_from (t + m * step) step n
times_from-append t step zero n =
    let none : 0 + n ≡ n = omega arith
    in let first : t ≡ t + 0 * step = omega arith
    in ap (times_from t step) none ∙ ap (λ u. times_from u step n) first
times_from-append t step (suc m) n =
    let next : suc m + n ≡ suc (m + n) = omega arith
    in let far : t + step + m * step ≡ t + suc m * step = omega (arith, suc-mul m step)
    in ap (times_from t step) next
    ∙ ap (λ us. t ∷ us) (times_from-append (t + step) step m n ∙ ap (λ u. times_from (t + step) step m ++ times_from u step n) far)

-- the multiples of a step between two times, both cut down, are a grid
pub aligned_is_grid :
    (start end step : ℕ) → 0 < step → start ≤ end → end ≤ 4398046511103 → step ≤ 4398046511103
    → end / step - start / step ≤ 11000
    → IsGrid (record { start = (start / step) * step; step = step; len = end / step - start / step + 1 })
aligned_is_grid start end step s o e d m =
    let first : (start / step) * step ≤ start = div-mul-le_self start step
    in let rises : start / step ≤ end / step = le-div (start / step) end step s (omega arith)
    in let last : (end / step) * step ≤ end = div-mul-le_self end step
    in let gap : start / step + (end / step - start / step) ≡ end / step = omega arith
    in let shared : (start / step) * step + (end / step - start / step) * step ≡ (end / step) * step =
    sym (add-mul (start / step) (end / step - start / step) step) ∙ ap (λ q. q * step) gap
    in let shorter : end / step - start / step + 1 - 1 ≡ end / step - start / step = omega arith
    in record {
      some = omega arith;
      most = omega arith;
      last = rw shorter (omega arith);
      near = d;
      alone = λ z. omega arith;
      multiple = λ z. mul-mod_left (start / step) step;
    }

-- the same, read at any default
pub get_or-times_from : (t step n i d : ℕ) → i < n → get_or (times_from t step n) i d ≡ t + i * step
get_or-times_from t step n i d h = get_or_from_slice_get _ i _ d (slice_get-times_from t step n i h)

-- a multiple stands as many steps past another as their quotients differ by
multiple_at : (p u step : ℕ) → u % step ≡ 0 → p ≤ u / step → p * step + (u / step - p) * step ≡ u
multiple_at p u step z h =
    let gap : p + (u / step - p) ≡ u / step = omega arith
    in sym (add-mul p (u / step - p) step) ∙ ap (λ q. q * step) gap ∙ omega (arith, div-add-mod' u step)

-- a time cut down to a multiple of the step
cut_down : (start step : ℕ) → start - start % step ≡ (start / step) * step
cut_down start step = omega (arith, div-add-mod' start step)

multiples_from :
    (start end step t : ℕ) → 0 < step → start ≤ end
    → Contains (times_from ((start / step) * step) step (end / step - start / step + 1)) t
    → (t % step ≡ 0) × (start - start % step ≤ t) × (t ≤ end)
multiples_from start end step t s o c =
    let p : ℕ = start / step
    in let q : ℕ = end / step
    in let inside : c.0 < q - p + 1 = rw (← length-times_from (p * step) step (q - p + 1)) c.1
    in let is : t ≡ (p + c.0) * step =
    sym c.2 ∙ get_or-times_from (p * step) step (q - p + 1) c.0 t inside ∙ sym (add-mul p c.0 step)
    in let rises : p ≤ q = le-div p end step s (omega (arith, div-mul-le_self start step))
    in let below : (p + c.0) * step ≤ q * step = mul-le-mul_right step (omega arith)
    in (
      ap (λ u. u % step) is ∙ mul-mod_left (p + c.0) step,
      omega (arith, cut_down start step, add-mul p c.0 step),
      omega (arith, div-mul-le_self end step),
    )

multiples_to :
    (start end step t : ℕ) → 0 < step → start ≤ end
    → (t % step ≡ 0) × (start - start % step ≤ t) × (t ≤ end)
    → Contains (times_from ((start / step) * step) step (end / step - start / step + 1)) t
multiples_to start end step t s o h =
    let p : ℕ = start / step
    in let q : ℕ = end / step
    in let whole : (t / step) * step ≡ t = omega (arith, div-add-mod' t step)
    in let above : p ≤ t / step = le-div p t step s (omega (arith, cut_down start step))
    in let below : t / step ≤ q = le-div (t / step) end step s (omega arith)
    in let inside : t / step - p < q - p + 1 = omega arith
    in (
      t / step - p,
      rw (length-times_from (p * step) step (q - p + 1)) inside,
      get_or-times_from (p * step) step (q - p + 1) (t / step - p) t inside ∙ multiple_at p t step h.0 above,
    )

-- the times of that grid are the multiples
pub aligned_multiples :
    (start end step : ℕ) → 0 < step → start ≤ end
    → AreMultiples start end step (times_from ((start / step) * step) step (end / step - start / step + 1))
aligned_multiples start end step s o =
    let p : ℕ = start / step
    in let n : ℕ = end / step - start / step + 1
    in record {
      rising = λ i j below within.
          let inside : j < n = rw (← length-times_from (p * step) step n) within
          in rw (get_or-times_from (p * step) step n i 0 (omega arith), get_or-times_from (p * step) step n j 0 inside)
          (time_rises (p * step) step i j s below);
      multiples = λ t. (multiples_from start end step t s o, multiples_to start end step t s o);
    }

-- what `using` names
pub ruleset lengths = (length-times_from)

pub ruleset places = (slice_get-times_from, time_within)
