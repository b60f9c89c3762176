-- The steps of an extent, and which extent of a list has them.
use Rattle.std.proofs.Common.{◌≡◌, ◌∙◌, ℕ, suc, ◌+◌, ◌-◌, ◌*◌, ◌/◌, ◌%◌, ◌≤◌, ◌<◌, Bool, true, false, cond, ◌&&◌, Option, Some, None, List, [], ◌∷◌, length, refl, sym, ap, arith}
use Rattle.std.proofs.lemmas.Bool.{eqb-true, leb-false, leb-true}
use Rattle.std.proofs.lemmas.Nat.{div-add-mod'}
use Rattle.std.proofs.Math.Nat.{add-mul, mul-div_left, mul-le-mul_right, suc-mul}
use Rattle.std.specs.Cmp.{first_so, second_so}
use Rattle.std.specs.Prelude.{nat_eq, nat_le}
use Rattle.std.proofs.Math.Dec.{leb}
use Rattle.pf_extent.specs.Steps.{AreApart, AreSpaced, IsBehind, IsLawful, extent_at, has_step}
use Rattle.pf_extent.specs.declared.extent.Extent.{Extent}
use Rattle.pf_model.specs.Lists.{Each}

pub record IsStepOf (t : ℕ) (e : Extent) : Type 0 where
  pub first : e.first ≤ t
  pub last : t ≤ e.last
  pub multiple : t % e.step ≡ 0

pub step_of : (t : ℕ) (e : Extent) → has_step t e ≡ true → IsStepOf t e
step_of t e h =
    let both : (nat_le e.first t && nat_le t e.last) ≡ true = first_so (nat_le e.first t && nat_le t e.last) (nat_eq (t % e.step) 0) h in record {
      first = leb-true e.first t (first_so (nat_le e.first t) (nat_le t e.last) both);
      last = leb-true t e.last (second_so (nat_le e.first t) (nat_le t e.last) both);
      multiple = eqb-true (t % e.step) 0 (second_so (nat_le e.first t && nat_le t e.last) (nat_eq (t % e.step) 0) h);
    }

-- ---- multiples between

sub_of : (step first t a b : ℕ) → a * step ≡ first → b * step ≡ t → t - first ≡ (b - a) * step
sub_of step first t a b x y = sub_by step first t a b (leb a b) refl x y where
  sub_by : (step first t a b : ℕ) (c : Bool) → leb a b ≡ c → a * step ≡ first → b * step ≡ t → t - first ≡ (b - a) * step
  sub_by step first t a b true l x y =
      let h : a + (b - a) ≡ b = let k = leb-true a b l in omega (arith, k) in
      let m : a * step + (b - a) * step ≡ b * step = sym (add-mul a (b - a) step) ∙ ap (λ n. n * step) h in omega (arith, m, x, y)
  sub_by step first t a b false l x y =
      let k : b < a = leb-false a b l in
      let m : b * step ≤ a * step = mul-le-mul_right step (omega (arith, k)) in
      let z : b - a ≡ 0 = omega (arith, k) in
      let w : (b - a) * step ≡ 0 = ap (λ n. n * step) z ∙ omega arith in omega (arith, m, x, y, w)

-- what has fewer whole steps is no later
pub fewer : (a b step : ℕ) → 1 ≤ step → a * step ≤ b * step → a ≤ b
fewer a b step s h = by (leb a b) refl where
  by : (c : Bool) → leb a b ≡ c → a ≤ b
  by true l = leb-true a b l
  by false l =
      let k : b < a = leb-false a b l in
      let m : suc b * step ≤ a * step = mul-le-mul_right step (omega (arith, k)) in absurd (omega (arith, m, h, s, suc-mul b step))

-- a multiple from another one on is that one with whole steps
pub place_of : (step first t : ℕ) → 1 ≤ step → first % step ≡ 0 → t % step ≡ 0 → first ≤ t → t ≡ first + ((t - first) / step) * step
place_of step first t s a b h =
    let x : (first / step) * step ≡ first = omega (arith, div-add-mod' first step, a) in
    let y : (t / step) * step ≡ t = omega (arith, div-add-mod' t step, b) in
    let d : t - first ≡ (t / step - first / step) * step = sub_of step first t (first / step) (t / step) x y in
    let q : (t - first) / step ≡ t / step - first / step = ap (λ z. z / step) d ∙ mul-div_left (t / step - first / step) (omega (arith, s)) in
    let e : ((t - first) / step) * step ≡ t - first = ap (λ z. z * step) q ∙ sym d in omega (arith, e, h)

-- a step of a lawful extent stands below the number of its cells, and so do the places from it on up to the last
pub place_within : (t : ℕ) (e : Extent) → IsLawful e → has_step t e ≡ true → (t - e.first) / e.step < length e.cells
place_within t e h m =
    let s = step_of t e m in
    let x = place_of e.step e.first t h.distance h.first s.multiple s.first in
    let y = place_of e.step e.first e.last h.distance h.first h.last h.order in
    let z = fewer ((t - e.first) / e.step) ((e.last - e.first) / e.step) e.step h.distance (omega (arith, x, y, s.last)) in
    omega (arith, z, h.count)

-- ---- which extent has a step

some_same : {x y : Extent} → Some x ≡ Some y → x ≡ y
some_same l = cc

none_some : {x : Extent} → None ≡ Some x → ⊥
none_some l = cc

behind_by : (e f x : Extent) (t : ℕ) (o : Option Extent) (c : Bool) → has_step t x ≡ c → e.last < x.first → (o ≡ Some f → e.last < t)
    → cond c (Some x) o ≡ Some f → e.last < t
behind_by e f x t o true k a r l = let s = step_of t x k in let b = s.first in omega (arith, b, a)
behind_by e f x t o false k a r l = r l

-- what an extent behind another has is behind the other's last step
extent_behind : (e f : Extent) (t : ℕ) (es : List Extent) → Each (IsBehind e) es → extent_at t es ≡ Some f → e.last < t
extent_behind e f t [] b h = absurd (none_some h)
extent_behind e f t (x ∷ es) b h = behind_by e f x t (extent_at t es) (has_step t x) refl b.0.apart (extent_behind e f t es b.1) h

past_by : (t : ℕ) (e : Extent) (c : Bool) → has_step t e ≡ c → e.last < t → has_step t e ≡ false
past_by t e true k h = absurd (let s = step_of t e k in let b = s.last in omega (arith, b, h))
past_by t e false k h = k

past_last : (t : ℕ) (e : Extent) → e.last < t → has_step t e ≡ false
past_last t e h = past_by t e (has_step t e) refl h

same_by : (x e : Extent) (es : List Extent) (t u : ℕ) (c : Bool) → Each (IsBehind x) es → has_step u e ≡ true → (extent_at t es ≡ Some e → extent_at u es ≡ Some e)
    → cond c (Some x) (extent_at t es) ≡ Some e → extent_at u (x ∷ es) ≡ Some e
same_by x e es t u true a k r m =
    let same = some_same m in ap (λ b. cond b (Some x) (extent_at u es)) (ap (λ (z : Extent). has_step u z) same ∙ k) ∙ ap (λ (z : Extent). Some z) same
same_by x e es t u false a k r m =
    ap (λ b. cond b (Some x) (extent_at u es)) (past_last u x (extent_behind x e u es a (r m))) ∙ r m

-- the extent that has a step has each of its own steps
pub same_extent : (es : List Extent) (e : Extent) (t u : ℕ) → AreApart es → extent_at t es ≡ Some e → has_step u e ≡ true → extent_at u es ≡ Some e
same_extent [] e t u a h k = absurd (none_some h)
same_extent (x ∷ es) e t u a h k = same_by x e es t u (has_step t x) a.1 k (λ m. same_extent es e t u a.2 m k) h

spaced_by : (x e : Extent) (o : Option Extent) (step : ℕ) (c : Bool) → x.step ≡ step → (o ≡ Some e → e.step ≡ step) → cond c (Some x) o ≡ Some e → e.step ≡ step
spaced_by x e o step true a r m = ap (λ (z : Extent). z.step) (sym (some_same m)) ∙ a
spaced_by x e o step false a r m = r m

-- an extent that has a step is of the list's distance
pub extent_spaced : (es : List Extent) (e : Extent) (t step : ℕ) → AreSpaced step es → extent_at t es ≡ Some e → e.step ≡ step
extent_spaced [] e t step a h = absurd (none_some h)
extent_spaced (x ∷ es) e t step a h = spaced_by x e (extent_at t es) step (has_step t x) a.0 (extent_spaced es e t step a.1) h
