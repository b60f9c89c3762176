-- What a steady query reads rises with the time.
use Rattle.std.proofs.Common.{◌≡◌, ℕ, zero, suc, ◌*◌, ◌<◌, ◌≤◌, ℤ, pos, negsuc, ◌+ℤ◌, ◌-ℤ◌, ◌*ℤ◌, ◌-◌, ◌&&◌, ◌≤ℤ◌, ◌<ℤ◌, unsigned_abs, Bool, true, false, map, Option, Some, None, refl, sym, ap, ◌∙◌, subst, arith}
use Rattle.std.proofs.lemmas.Int.{ints}
use Rattle.std.proofs.lemmas.Bool.Decides.{nat_tests}
use Rattle.std.proofs.Math.Nat.{mul-le-mul_right}
use Rattle.std.proofs.Math.IntN.{suc_ℤ, suc_ℤ-*ℤ}
use Rattle.std.specs.Prelude.{int_lt, nat_le, nat_lt, option_map}
use Rattle.std.specs.Int.{int_min, int_max}
use Rattle.std.specs.Int.Signed.{≤ℤ_refl}
use Rattle.std.specs.Cmp.{first_so, second_so}
use Rattle.pf_model.specs.declared.expr.At.{At}
use Rattle.pf_model.specs.declared.expr.At.TheVariants as at
use Rattle.pf_model.specs.declared.expr.Mods.{Mods}
use Rattle.pf_model.specs.Evaluation.{fixed_time, multiples, multiples_behind, read_time, resolution_or_minute}
use Rattle.pf_model.specs.Micros.{cut_down}
use Rattle.pf_model.specs.Reach.{Times, all_times_read, all_together, times_read, together}
use Rattle.pf_model.specs.Trees as tree
use Rattle.pf_model.specs.Trees.{Tree, Trees}
use Rattle.pf_resolve.proofs.Multiples.{above, down_times, in_steps, up_to}
use Rattle.pf_resolve.specs.Steady.{ReachRises, Rises, are_steady, is_steady}

-- both are none, or neither is and both ends rise
abbrev pub Rise : Option Times → Option Times → Type 0
Rise None None = Unit {0}
Rise (Some a) (Some b) = (a.earliest ≤ℤ b.earliest) × (a.latest ≤ℤ b.latest)
Rise _ _ = ⊥

-- from the earliest of the one to the latest of the other
abbrev pub spanned : Option Times → Option Times → Option Times
spanned None b = None
spanned (Some a) None = Some a
spanned (Some a) (Some b) = Some (record { earliest = a.earliest; latest = b.latest })

min_rises : (a b c d : ℤ) → a ≤ℤ c → b ≤ℤ d → int_min a b ≤ℤ int_min c d
min_rises a b c d h k = grind (arith, ints)

max_rises : (a b c d : ℤ) → a ≤ℤ c → b ≤ℤ d → int_max a b ≤ℤ int_max c d
max_rises a b c d h k = grind (arith, ints)

rise_together : (a b c d : Option Times) → Rise a c → Rise b d → Rise (together a b) (together c d)
rise_together None None None None h k = tt
rise_together None None None (Some d) h k = elim k [ ]
rise_together None None (Some c) d h k = elim h [ ]
rise_together None (Some b) None None h k = elim k [ ]
rise_together None (Some b) None (Some d) h k = k
rise_together None (Some b) (Some c) d h k = elim h [ ]
rise_together (Some a) None None d h k = elim h [ ]
rise_together (Some a) None (Some c) (Some d) h k = elim k [ ]
rise_together (Some a) (Some b) None d h k = elim h [ ]
rise_together (Some a) (Some b) (Some c) None h k = elim k [ ]
rise_together (Some a) None (Some c) None h k = h
rise_together (Some a) (Some b) (Some c) (Some d) h k =
    (min_rises a.earliest b.earliest c.earliest d.earliest h.0 k.0, max_rises a.latest b.latest c.latest d.latest h.1 k.1)

ends_min : (a b : ℤ) → a ≤ℤ b → int_min a b ≡ a
ends_min a b h = grind (arith, ints)

ends_max : (a b c : ℤ) → a ≤ℤ b → b ≤ℤ c → int_max a c ≡ c
ends_max a b c h k = grind (arith, ints)

-- a multiple of a step rises with its place
pub times_rise : (d : ℕ) (x y : ℤ) → x ≤ℤ y → (x *ℤ pos d) ≤ℤ (y *ℤ pos d)
times_rise d (pos a) (pos b) h = let p : a * d ≤ b * d = mul-le-mul_right d (omega (arith, ints, h)) in omega (arith, ints, p)
times_rise d (pos a) (negsuc b) h = absurd (omega (arith, ints, h))
times_rise d (negsuc a) (pos b) h = omega (arith, ints, down_times a d)
times_rise d (negsuc a) (negsuc b) h =
    let p : suc b * d ≤ suc a * d = mul-le-mul_right d (omega (arith, ints, h)) in omega (arith, ints, p, down_times a d, down_times b d)

succ_is : (k : ℤ) → k +ℤ pos 1 ≡ suc_ℤ k
succ_is (pos a) = omega (arith, ints)
succ_is (negsuc zero) = omega (arith, ints)
succ_is (negsuc (suc a)) = omega (arith, ints)

pub next_times : (d : ℕ) (k : ℤ) → (k +ℤ pos 1) *ℤ pos d ≡ k *ℤ pos d +ℤ pos d
next_times d k = ap (λ x. x *ℤ pos d) (succ_is k) ∙ suc_ℤ-*ℤ k (pos d)

unless : (x y : ℤ) (test : Bool) → int_lt x y ≡ test → (y ≤ℤ x → x <ℤ y) → x <ℤ y
unless x y true e h = grind (arith, ints)
unless x y false e h = h (grind (arith, ints))

-- a window of a step or more has a multiple
one_more : (d range : ℕ) (to : ℤ) → 0 < d → d ≤ range → cut_down (to -ℤ pos range) d <ℤ cut_down to d
one_more d range to s h =
    let k = cut_down (to -ℤ pos range) d in
    unless k (cut_down to d) (int_lt k (cut_down to d)) refl
    (λ o. absurd (omega (arith, ints, above d s (k +ℤ pos 1) to (omega (arith, ints, o)), up_to d s k (to -ℤ pos range) (≤ℤ_refl k), next_times d k, h)))

counted : (low high : ℤ) → low <ℤ high → unsigned_abs (high -ℤ low) ≡ suc (unsigned_abs (high -ℤ low) - 1)
counted low high o = grind (arith, ints)

reached : (low high : ℤ) → low <ℤ high → low +ℤ pos (suc (unsigned_abs (high -ℤ low) - 1)) ≡ high
reached low high o = grind (arith, ints)

rise_spanned : (a b c d : Option Times) → Rise a c → Rise b d → Rise (spanned a b) (spanned c d)
rise_spanned None b None d h k = tt
rise_spanned None b (Some c) d h k = elim h [ ]
rise_spanned (Some a) b None d h k = elim h [ ]
rise_spanned (Some a) None (Some c) None h k = h
rise_spanned (Some a) None (Some c) (Some d) h k = elim k [ ]
rise_spanned (Some a) (Some b) (Some c) None h k = elim k [ ]
rise_spanned (Some a) (Some b) (Some c) (Some d) h k = (h.0, k.1)

-- ---- multiples of a step

module _ (f : ℤ → Option Times) (rises : (t u : ℤ) → t ≤ℤ u → Rise (f t) (f u)) where
  joined : (a b c : Option Times) → Rise a b → Rise b c → together a (spanned b c) ≡ spanned a c
  joined None None None h k = refl
  joined None None (Some c) h k = elim k [ ]
  joined None (Some b) c h k = elim h [ ]
  joined (Some a) None c h k = elim h [ ]
  joined (Some a) (Some b) None h k = elim k [ ]
  joined (Some a) (Some b) (Some c) h k =
      λ i. Some (record { earliest = ends_min a.earliest b.earliest h.0 i; latest = ends_max a.latest b.latest c.latest h.1 k.1 i })

  alone : (a : Option Times) → together a None ≡ spanned a a
  alone None = refl
  alone (Some a) = refl

  -- the first and the last of them tell all
  pub ends_tell : (d n : ℕ) (m : ℤ)
      → all_together (map f (multiples_behind (pos d) m (suc n))) ≡ spanned (f ((m +ℤ pos 1) *ℤ pos d)) (f ((m +ℤ pos (suc n)) *ℤ pos d))
  ends_tell d zero m = alone (f ((m +ℤ pos 1) *ℤ pos d))
  ends_tell d (suc n) m =
      let first = (m +ℤ pos 1) *ℤ pos d in
      let second = (m +ℤ pos 1 +ℤ pos 1) *ℤ pos d in
      let last = (m +ℤ pos 1 +ℤ pos (suc n)) *ℤ pos d in
      ap (together (f first)) (ends_tell d n (m +ℤ pos 1))
      ∙ joined (f first) (f second) (f last)
      (rises first second (times_rise d (m +ℤ pos 1) (m +ℤ pos 1 +ℤ pos 1) (omega (arith, ints))))
      (rises second last (times_rise d (m +ℤ pos 1 +ℤ pos 1) (m +ℤ pos 1 +ℤ pos (suc n)) (omega (arith, ints))))
      ∙ ap (λ x. spanned (f first) (f (x *ℤ pos d))) (omega (arith, ints))

  -- so in a window of a step or more
  pub window_ends : (d range : ℕ) (to : ℤ) → 0 < d → d ≤ range
      → all_together (map f (multiples d (to -ℤ pos range) to))
      ≡ spanned (f ((cut_down (to -ℤ pos range) d +ℤ pos 1) *ℤ pos d)) (f (cut_down to d *ℤ pos d))
  window_ends d range to s h =
      let low = cut_down (to -ℤ pos range) d in
      let high = cut_down to d in
      let o : low <ℤ high = one_more d range to s h in
      let n = unsigned_abs (high -ℤ low) in
      ap (λ k. all_together (map f (multiples_behind (pos d) low k))) (counted low high o)
      ∙ ends_tell d (n - 1) low
      ∙ ap (λ x. spanned (f ((low +ℤ pos 1) *ℤ pos d)) (f (x *ℤ pos d))) (reached low high o)

  window_rises : (d range : ℕ) (to up : ℤ) → 0 < d → d ≤ range → to ≤ℤ up
      → Rise (all_together (map f (multiples d (to -ℤ pos range) to))) (all_together (map f (multiples d (up -ℤ pos range) up)))
  window_rises d range to up s h o =
      let first : ℤ → ℤ = λ x. (cut_down (x -ℤ pos range) d +ℤ pos 1) *ℤ pos d in
      let last : ℤ → ℤ = λ x. cut_down x d *ℤ pos d in
      let below = in_steps d (to -ℤ pos range) (up -ℤ pos range) (omega (arith, ints, o)) in
      subst (λ x. Rise x (all_together (map f (multiples d (up -ℤ pos range) up)))) (sym (window_ends d range to s h))
      (subst (Rise (spanned (f (first to)) (f (last to)))) (sym (window_ends d range up s h))
      (rise_spanned (f (first to)) (f (last to)) (f (first up)) (f (last up))
      (rises (first to) (first up) (times_rise d (cut_down (to -ℤ pos range) d +ℤ pos 1) (cut_down (up -ℤ pos range) d +ℤ pos 1) (omega (arith, ints, below))))
      (rises (last to) (last up) (times_rise d (cut_down to d) (cut_down up d) (in_steps d to up o)))))

fixed_rises : (at : Option At) (t u : ℤ) → t ≤ℤ u → fixed_time at t ≤ℤ fixed_time at u
fixed_rises None t u h = h
fixed_rises (Some (at.Time millis)) t u h = ≤ℤ_refl (pos millis)
fixed_rises (Some at.Start) t u h = h
fixed_rises (Some at.End) t u h = h

pub read_rises : (mods : Mods) (t u : ℤ) → t ≤ℤ u → read_time mods t ≤ℤ read_time mods u
read_rises mods t u h = omega (arith, ints, fixed_rises mods.at t u h)

-- ---- a steady query

pub some_step : (d range : ℕ) → (nat_lt 0 d && nat_le d range) ≡ true → 0 < d
some_step d range h = grind (arith, nat_tests)

pub step_within : (d range : ℕ) → (nat_lt 0 d && nat_le d range) ≡ true → d ≤ range
step_within d range h = grind (arith, nat_tests)

mutual
  pub times_rise_with : (query : Tree) → is_steady query ≡ true → (t u : ℤ) → t ≤ℤ u → Rise (times_read query t) (times_read query u)
  times_rise_with (tree.number v) s t u h = tt
  times_rise_with (tree.text bytes) s t u h = tt
  times_rise_with (tree.unary minus arg) s t u h = times_rise_with arg s t u h
  times_rise_with (tree.binary op m left right) s t u h =
      rise_together (times_read left t) (times_read right t) (times_read left u) (times_read right u)
      (times_rise_with left (first_so (is_steady left) (is_steady right) s) t u h)
      (times_rise_with right (second_so (is_steady left) (is_steady right) s) t u h)
  times_rise_with (tree.call f args) s t u h = all_rise_with args s t u h
  times_rise_with (tree.aggregate op g args) s t u h = all_rise_with args s t u h
  times_rise_with (tree.select ms range mods) s t u h =
      let r = read_rises mods t u h in
      (omega (arith, ints, r), r)
  times_rise_with (tree.subquery arg range resolution mods) s t u h =
      let d = resolution_or_minute resolution in
      let own = second_so (is_steady arg) (nat_lt 0 d && nat_le d range) s in
      window_rises (times_read arg) (times_rise_with arg (first_so (is_steady arg) (nat_lt 0 d && nat_le d range) s))
      d range (read_time mods t) (read_time mods u) (some_step d range own) (step_within d range own) (read_rises mods t u h)

  pub all_rise_with : (args : Trees) → are_steady args ≡ true → (t u : ℤ) → t ≤ℤ u → Rise (all_times_read args t) (all_times_read args u)
  all_rise_with tree.none s t u h = tt
  all_rise_with (tree.more arg args) s t u h =
      rise_together (times_read arg t) (all_times_read args t) (times_read arg u) (all_times_read args u)
      (times_rise_with arg (first_so (is_steady arg) (are_steady args) s) t u h)
      (all_rise_with args (second_so (is_steady arg) (are_steady args) s) t u h)

latest_rises : (a b : Option Times) → Rise a b → Rises (option_map (λ (times : Times). times.latest) a) (option_map (λ (times : Times). times.latest) b)
latest_rises None None h = tt
latest_rises None (Some b) h = elim h [ ]
latest_rises (Some a) None h = elim h [ ]
latest_rises (Some a) (Some b) h = h.1

pub reach_rises : (query : Tree) → is_steady query ≡ true → ReachRises query
reach_rises query s t u h = latest_rises (times_read query t) (times_read query u) (times_rise_with query s t u h)
