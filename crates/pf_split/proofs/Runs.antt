-- Some of a grid's steps as a grid, and those that are left.
use Rattle.std.proofs.Common.{◌≡◌, ◌∙◌, ℕ, ◌+◌, ◌-◌, ◌*◌, ◌/◌, ◌≤◌, ◌<◌, Bool, true, false, cond, eqb, Ok, Err, refl, sym, ap, arith}
use Rattle.std.proofs.lemmas.Bool.{eqb-true, le-ltb}
use Rattle.std.proofs.lemmas.Nat.{div-add-mod'}
use Rattle.std.proofs.Math.Nat.{add-mul, add-mul-mod_self_right, mul-div_left, mul-le-mul_right}
use Rattle.std.specs.Prelude.{◌||◌, nat_eq, nat_lt}
use Rattle.pf_base.specs.GridLists.{IsGrid}
use Rattle.pf_base.specs.Grids.{grid_of, single_of}
use Rattle.pf_base.specs.declared.grid.GridError.TheVariants.{ZeroStep, TimeTooLarge, EndBeforeStart, TooManySteps}
use Rattle.pf_split.specs.Lefts.{AreLeft, run_data}

no_eqb : (a b : ℕ) (s : Bool) → eqb a b ≡ s → 0 < a → b ≡ 0 → eqb a b ≡ false
no_eqb a b true e h k = absurd (let z = eqb-true a b e in omega (arith, h, z, k))
no_eqb a b false e h k = e

last_allowed : {X : Type 0} (a b c d : Bool) (w x y z v : X) → a ≡ false → b ≡ false → c ≡ false → d ≡ false → cond a w (cond b x (cond c y (cond d z v))) ≡ v
last_allowed true b c d w x y z v h i j k = absurd cc
last_allowed false true c d w x y z v h i j k = absurd cc
last_allowed false false true d w x y z v h i j k = absurd cc
last_allowed false false false true w x y z v h i j k = absurd cc
last_allowed false false false false w x y z v h i j k = refl

none_of : (a b c : Bool) → a ≡ false → b ≡ false → c ≡ false → (a || b || c) ≡ false
none_of true b c h i j = absurd cc
none_of false true c h i j = absurd cc
none_of false false c h i j = j

-- a run of multiples is the aligned grid of its ends
pub aligned_is : (t step n : ℕ) → 0 < step → IsGrid (run_data t step n) → grid_of t (t + (n - 1) * step) step ≡ Ok (run_data t step n)
aligned_is t step n s g =
    let whole : (t / step) * step ≡ t = omega (arith, div-add-mod' t step, g.multiple s) in
    let as_multiple : t + (n - 1) * step ≡ (t / step + (n - 1)) * step = omega (arith, whole, add-mul (t / step) (n - 1) step) in
    let quotient : (t + (n - 1) * step) / step ≡ t / step + (n - 1) =
    ap (λ u. u / step) as_multiple ∙ mul-div_left (t / step + (n - 1)) s in
    let more : (t + (n - 1) * step) / step - t / step ≡ n - 1 = omega (arith, quotient) in
    let count : (t + (n - 1) * step) / step - t / step + 1 ≡ n = omega (arith, more, g.some) in
    let far : t + (n - 1) * step ≤ 4398046511103 = g.last in
    let chosen : grid_of t (t + (n - 1) * step) step
    ≡ Ok (run_data ((t / step) * step) step ((t + (n - 1) * step) / step - t / step + 1)) =
    last_allowed (nat_eq step 0) (nat_lt 4398046511103 t || nat_lt 4398046511103 (t + (n - 1) * step) || nat_lt 4398046511103 step)
    (nat_lt (t + (n - 1) * step) t) (nat_lt 11000 ((t + (n - 1) * step) / step - t / step))
    (Err ZeroStep) (Err TimeTooLarge) (Err EndBeforeStart) (Err TooManySteps)
    (Ok (run_data ((t / step) * step) step ((t + (n - 1) * step) / step - t / step + 1)))
    (no_eqb step 0 (eqb step 0) refl s refl)
    (none_of (nat_lt 4398046511103 t) (nat_lt 4398046511103 (t + (n - 1) * step)) (nat_lt 4398046511103 step)
    (le-ltb 4398046511103 t (omega (arith, far))) (le-ltb 4398046511103 (t + (n - 1) * step) far) (le-ltb 4398046511103 step g.near))
    (le-ltb (t + (n - 1) * step) t (omega arith))
    (le-ltb 11000 ((t + (n - 1) * step) / step - t / step) (omega (arith, more, g.most))) in
    chosen
    ∙ ap (λ u. Ok (run_data u step ((t + (n - 1) * step) / step - t / step + 1))) whole
    ∙ ap (λ m. Ok (run_data t step m)) count

single_by : (t step n : ℕ) (b : Bool) → b ≡ false → step ≡ 0 → n ≡ 1 → cond b (Err TimeTooLarge) (Ok (run_data t 0 1)) ≡ Ok (run_data t step n)
single_by t step n true h s k = absurd cc
single_by t step n false h s k = ap (λ z. Ok (run_data t z 1)) (sym s) ∙ ap (λ m. Ok (run_data t step m)) (sym k)

-- and a time alone the one of this time
pub single_is : (t step n : ℕ) → step ≡ 0 → IsGrid (run_data t step n) → single_of t ≡ Ok (run_data t step n)
single_is t step n s g = single_by t step n (nat_lt 4398046511103 t) (le-ltb 4398046511103 t (omega (arith, g.last))) s (g.alone s)

-- ---- the front and the rest

pub front_is_grid : (t step n c : ℕ) → IsGrid (run_data t step n) → 1 ≤ c → c ≤ n → IsGrid (run_data t step c)
front_is_grid t step n c g s b = record {
  some = s;
  most = omega (arith, g.most, b);
  last =
      let less : (c - 1) * step ≤ (n - 1) * step = mul-le-mul_right step (omega (arith, b)) in
      omega (arith, g.last, less);
  near = g.near;
  alone = λ z. omega (arith, g.alone z, s, b);
  multiple = g.multiple;
}

pub rest_left : (d t step n c : ℕ) → 1 ≤ d → IsGrid (run_data t step n) → 1 ≤ c → c ≤ n → AreLeft d (t + c * step) step (n - c)
rest_left d t step n c h g s b = record {
  some = h;
  grid = λ m. record {
    some = omega (arith, m);
    most = omega (arith, g.most);
    last =
        let parts : c + (n - c - 1) ≡ n - 1 = omega (arith, m, s, b) in
        let sum : c * step + (n - c - 1) * step ≡ (n - 1) * step = sym (add-mul c (n - c - 1) step) ∙ ap (λ k. k * step) parts in
        omega (arith, g.last, sum);
    near = g.near;
    alone = λ z. omega (arith, g.alone z, m, s);
    multiple = λ p. add-mul-mod_self_right t c step ∙ g.multiple p;
  };
}

-- what `using` names
pub ruleset made = (aligned_is, single_is)

pub ruleset parts = (front_is_grid, rest_left)
