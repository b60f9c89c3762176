-- The fixed steps of a run, where the query's reach rises with the time.
use Rattle.std.proofs.Common.{◌≡◌, ℕ, ◌*◌, ◌≤◌, ℤ, pos, Bool, true, false, Option, Some, None, refl, sym, ◌∙◌, arith}
use Rattle.std.proofs.lemmas.Int.{ints}
use Rattle.std.proofs.Math.Nat.{mul-le-mul_right}
use Rattle.pf_base.specs.GridLists.{GridData}
use Rattle.pf_extent.specs.declared.extent.Asker.{Asker}
use Rattle.pf_model.specs.Reach.{is_below, reach}
use Rattle.pf_model.specs.Trees.{Tree}
use Rattle.pf_resolve.specs.Steady.{ReachRises, Rises}
use Rattle.pf_results.specs.Keeping.{is_fixed}
use Rattle.pf_results.specs.Runs.{time_of}

below_falls : (a b : Option ℤ) (floor : Option ℕ) → Rises a b → is_below b floor ≡ true → is_below a floor ≡ true
below_falls None None floor h e = refl
below_falls None (Some b) floor h e = elim h [ ]
below_falls (Some a) None floor h e = elim h [ ]
below_falls (Some a) (Some b) None h e = e
below_falls (Some a) (Some b) (Some floor) h e = grind (arith, ints)

module _ (query : Tree) (asker : Asker) (rises : ReachRises query) where
  fixed_falls : (t u : ℕ) → t ≤ u → is_fixed query asker u ≡ true → is_fixed query asker t ≡ true
  fixed_falls t u h e = below_falls (reach query (pos t)) (reach query (pos u)) asker.floor (rises (pos t) (pos u) (omega (arith, ints, h))) e

  -- what stands before a fixed step of a run
  pub fixed_before : (run : GridData) (m k : ℕ) → is_fixed query asker (time_of run m) ≡ true → k ≤ m → is_fixed query asker (time_of run k) ≡ true
  fixed_before run m k e h =
      let p : k * run.step ≤ m * run.step = mul-le-mul_right run.step h in
      fixed_falls (time_of run k) (time_of run m) (omega (arith, p)) e

  turned : (a b : Bool) → (a ≡ true → b ≡ true) → b ≡ false → a ≡ false
  turned true b h e = sym (h refl) ∙ e
  turned false b h e = refl

  -- what stands behind another one
  pub open_behind : (run : GridData) (m k : ℕ) → is_fixed query asker (time_of run m) ≡ false → m ≤ k → is_fixed query asker (time_of run k) ≡ false
  open_behind run m k e h =
      turned (is_fixed query asker (time_of run k)) (is_fixed query asker (time_of run m)) (λ f. fixed_before run k m f h) e
