-- What is read at the multiples of a step in windows that touch is what is read in one window.
use Rattle.std.proofs.Common.{◌≡◌, ℕ, zero, suc, ◌+◌, ◌-◌, ◌<◌, ◌≤◌, ◌*◌, max, ℤ, pos, ◌+ℤ◌, ◌-ℤ◌, ◌*ℤ◌, ◌≤ℤ◌, unsigned_abs, List, [], ◌∷◌, map, Option, Some, None, Bool, true, ◌||◌, refl, sym, ap, ◌∙◌, subst, arith}
use Rattle.std.proofs.lemmas.Int.{ints}
use Rattle.std.specs.Int.{int_max, int_min}
use Rattle.pf_model.specs.declared.expr.At.{At}
use Rattle.pf_model.specs.declared.expr.At.TheVariants as at
use Rattle.pf_model.specs.declared.expr.Mods.{Mods}
use Rattle.pf_model.specs.Evaluation.{fixed_time, multiples, multiples_behind, read_time, resolution_or_minute}
use Rattle.pf_model.specs.Micros.{cut_down}
use Rattle.pf_model.specs.Reach.{Times, all_together, together}
use Rattle.std.proofs.lemmas.Bool.Decides.{nat_tests}
use Rattle.std.specs.Prelude.{◌&&◌, nat_le, IfSome}
use Rattle.pf_resolve.specs.declared.reading.Window.{Window}
use Rattle.std.specs.Cmp.{first_so, second_so}
use Rattle.pf_base.specs.Limits.{greatest_time}
use Rattle.pf_model.specs.Trees.{Tree, height, subquery}
use Rattle.pf_resolve.specs.Bounds.{HasRoom, are_small_mods, is_small}
use Rattle.pf_resolve.specs.Ends.{are_touching, is_fixed}
use Rattle.pf_resolve.proofs.Multiples.{in_steps}
use Rattle.pf_resolve.proofs.Rising.{next_times, times_rise}
use Rattle.pf_resolve.proofs.Walks.{together_assoc}

min_comm : (a b : ℤ) → int_min a b ≡ int_min b a
min_comm a b = grind (arith, ints)

max_comm : (a b : ℤ) → int_max a b ≡ int_max b a
max_comm a b = grind (arith, ints)

min_same : (a : ℤ) → int_min a a ≡ a
min_same a = grind (arith, ints)

max_same : (a : ℤ) → int_max a a ≡ a
max_same a = grind (arith, ints)

together_comm : (a b : Option Times) → together a b ≡ together b a
together_comm None None = refl
together_comm None (Some b) = refl
together_comm (Some a) None = refl
together_comm (Some a) (Some b) = λ i. Some (record { earliest = min_comm a.earliest b.earliest i; latest = max_comm a.latest b.latest i })

together_same : (a : Option Times) → together a a ≡ a
together_same None = refl
together_same (Some a) = λ i. Some (record { earliest = min_same a.earliest i; latest = max_same a.latest i })

together_none : (a : Option Times) → together a None ≡ a
together_none None = refl
together_none (Some a) = refl

-- two and two
crossed : (a b c d : Option Times) → together (together a b) (together c d) ≡ together (together a c) (together b d)
crossed a b c d =
    together_assoc a b (together c d)
    ∙ ap (together a) (sym (together_assoc b c d) ∙ ap (λ x. together x d) (together_comm b c) ∙ together_assoc c b d)
    ∙ sym (together_assoc a c (together b d))

pub over_both : (f g : ℤ → Option Times) (us : List ℤ)
    → all_together (map (λ u. together (f u) (g u)) us) ≡ together (all_together (map f us)) (all_together (map g us))
over_both f g [] = refl
over_both f g (u ∷ us) =
    ap (together (together (f u) (g u))) (over_both f g us) ∙ crossed (f u) (g u) (all_together (map f us)) (all_together (map g us))

pub over_none : (us : List ℤ) → all_together (map (λ u. None) us) ≡ None
over_none [] = refl
over_none (u ∷ us) = over_none us

one_before : (n : ℕ) → 0 < n → n ≡ suc (n - 1)
one_before n some = omega arith

first_is : (low high : ℤ) (n : ℕ) → low ≤ℤ high → n ≡ unsigned_abs (high -ℤ low) → 0 < n → low +ℤ pos 1 ≡ high -ℤ pos (n - 1)
first_is low high n h c some = grind (arith, ints)

last_is : (low high : ℤ) (n : ℕ) → low ≤ℤ high → n ≡ unsigned_abs (high -ℤ low) → 0 < n → low +ℤ pos (suc (n - 1)) ≡ high -ℤ pos 0
last_is low high n h c some = grind (arith, ints)

trans : (a b c : ℤ) → a ≤ℤ b → b ≤ℤ c → a ≤ℤ c
trans a b c h k = omega (arith, ints, h, k)

one_on : (m : ℤ) (j : ℕ) → m +ℤ pos 1 +ℤ pos j ≡ m +ℤ pos (suc j)
one_on m j = omega (arith, ints)

module _ (g : ℤ → Option Times) where
  -- what is read at the multiples of a step in (from, to]
  abbrev over : ℕ → ℤ → ℤ → Option Times
  over s from to = all_together (map g (multiples s from to))

  parted : (s : ℤ) (j k : ℕ) (m : ℤ)
      → all_together (map g (multiples_behind s m (j + k)))
      ≡ together (all_together (map g (multiples_behind s m j))) (all_together (map g (multiples_behind s (m +ℤ pos j) k)))
  parted s zero k m =
      ap (λ n. all_together (map g (multiples_behind s m n))) (omega arith) ∙ ap (λ x. all_together (map g (multiples_behind s x k))) (omega (arith, ints))
  parted s (suc j) k m =
      let first = g ((m +ℤ pos 1) *ℤ s) in
      let one : suc j + k ≡ suc (j + k) = omega arith in
      ap (λ n. all_together (map g (multiples_behind s m n))) one
      ∙ ap (together first) (parted s j k (m +ℤ pos 1))
      ∙ sym (together_assoc first (all_together (map g (multiples_behind s (m +ℤ pos 1) j))) (all_together (map g (multiples_behind s (m +ℤ pos 1 +ℤ pos j) k))))
      ∙ ap (λ x. together (together first (all_together (map g (multiples_behind s (m +ℤ pos 1) j)))) (all_together (map g (multiples_behind s x k))))
      (one_on m j)

  counts : (a b c : ℤ) → a ≤ℤ b → b ≤ℤ c → unsigned_abs (c -ℤ a) ≡ unsigned_abs (b -ℤ a) + unsigned_abs (c -ℤ b)
  counts a b c h k = grind (arith, ints)

  upto : (a b : ℤ) → a ≤ℤ b → a +ℤ pos (unsigned_abs (b -ℤ a)) ≡ b
  upto a b h = grind (arith, ints)

  split : (s : ℕ) (a b c : ℤ) → a ≤ℤ b → b ≤ℤ c → over s a c ≡ together (over s a b) (over s b c)
  split s a b c h k =
      let low = cut_down a s in
      let middle = cut_down b s in
      let high = cut_down c s in
      ap (λ n. all_together (map g (multiples_behind (pos s) low n))) (counts low middle high (in_steps s a b h) (in_steps s b c k))
      ∙ parted (pos s) (unsigned_abs (middle -ℤ low)) (unsigned_abs (high -ℤ middle)) low
      ∙ ap (λ x. together (over s a b) (all_together (map g (multiples_behind (pos s) x (unsigned_abs (high -ℤ middle)))))) (upto low middle (in_steps s a b h))

  -- two windows that touch
  join : (s : ℕ) (a b c d : ℤ) → a ≤ℤ c → c ≤ℤ b → b ≤ℤ d → together (over s a b) (over s c d) ≡ over s a d
  join s a b c d h k l =
      let front = over s a c in
      let shared = over s c b in
      let back = over s b d in
      ap (λ x. together x (over s c d)) (split s a c b h k)
      ∙ ap (together (together front shared)) (split s c b d k l)
      ∙ sym (together_assoc (together front shared) shared back)
      ∙ ap (λ x. together x back) (together_assoc front shared shared ∙ ap (together front) (together_same shared) ∙ sym (split s a c b h k))
      ∙ sym (split s a b d (trans a c b h k) l)

  module _ (read : ℤ → ℤ) (range s step : ℕ) (rises : (u v : ℤ) → u ≤ℤ v → read u ≤ℤ read v)
      (touch : (u : ℤ) → read (u +ℤ pos step) ≤ℤ (read u +ℤ pos range)) where
    abbrev window : ℤ → Option Times
    window u = over s (read u -ℤ pos range) (read u)

    windows_join : (n : ℕ) (m : ℤ)
        → all_together (map window (multiples_behind (pos step) m (suc n)))
        ≡ over s (read ((m +ℤ pos 1) *ℤ pos step) -ℤ pos range) (read ((m +ℤ pos (suc n)) *ℤ pos step))
    windows_join zero m = together_none (window ((m +ℤ pos 1) *ℤ pos step))
    windows_join (suc n) m =
        let first = (m +ℤ pos 1) *ℤ pos step in
        let second = (m +ℤ pos 1 +ℤ pos 1) *ℤ pos step in
        let last = (m +ℤ pos 1 +ℤ pos (suc n)) *ℤ pos step in
        let t : read second ≤ℤ (read first +ℤ pos range) = subst (λ x. read x ≤ℤ (read first +ℤ pos range)) (sym (next_times step (m +ℤ pos 1))) (touch first) in
        let r : read first ≤ℤ read second = rises first second (times_rise step (m +ℤ pos 1) (m +ℤ pos 1 +ℤ pos 1) (omega (arith, ints))) in
        let l : read first ≤ℤ read last = rises first last (times_rise step (m +ℤ pos 1) (m +ℤ pos 1 +ℤ pos (suc n)) (omega (arith, ints))) in
        ap (together (window first)) (windows_join n (m +ℤ pos 1))
        ∙ join s (read first -ℤ pos range) (read first) (read second -ℤ pos range) (read last) (omega (arith, ints, r)) (omega (arith, ints, t)) l
        ∙ ap (λ x. over s (read first -ℤ pos range) (read (x *ℤ pos step))) (omega (arith, ints))

    -- so of the windows at the multiples of a step in a window
    pub one_window : (n : ℕ) (from to : ℤ) → from ≤ℤ to → n ≡ unsigned_abs (cut_down to step -ℤ cut_down from step) → 0 < n
        → all_together (map g (multiples s (read ((cut_down to step -ℤ pos (n - 1)) *ℤ pos step) -ℤ pos range) (read ((cut_down to step -ℤ pos 0) *ℤ pos step))))
        ≡ all_together (map (λ u. all_together (map g (multiples s (read u -ℤ pos range) (read u)))) (multiples step from to))
    one_window n from to o c some =
        let low = cut_down from step in
        let high = cut_down to step in
        let one = one_before n some in
        let h : low ≤ℤ high = in_steps step from to o in
        sym (ap (λ k. all_together (map window (multiples_behind (pos step) low k))) (sym c ∙ one)
        ∙ windows_join (n - 1) low
        ∙ ap (λ x. over s (read (x *ℤ pos step) -ℤ pos range) (read ((low +ℤ pos (suc (n - 1))) *ℤ pos step))) (first_is low high n h c some)
        ∙ ap (λ x. over s (read ((high -ℤ pos (n - 1)) *ℤ pos step) -ℤ pos range) (read (x *ℤ pos step))) (last_is low high n h c some))

-- windows at the multiples of a step touch where the step is no longer than they are, and where one time is read at all of them
module _ (range step : ℕ) (offset u : ℤ) where
  moved : nat_le step range ≡ true → ((u +ℤ pos step) -ℤ offset) ≤ℤ ((u -ℤ offset) +ℤ pos range)
  moved h = let k : step ≤ range = grind (arith, nat_tests) in omega (arith, ints, k)

  read_on : (place : Option At) → (is_fixed place || nat_le step range) ≡ true
      → (fixed_time place (u +ℤ pos step) -ℤ offset) ≤ℤ ((fixed_time place u -ℤ offset) +ℤ pos range)
  read_on None h = moved h
  read_on (Some (at.Time millis)) h = omega (arith, ints)
  read_on (Some at.Start) h = moved h
  read_on (Some at.End) h = moved h

pub touch : (mods : Mods) (range step : ℕ) → are_touching mods range step ≡ true → (u : ℤ) → read_time mods (u +ℤ pos step) ≤ℤ (read_time mods u +ℤ pos range)
touch mods range step h u = read_on range step mods.offset u mods.at h

-- ---- a subquery whose times are small

module _ (query : Tree) (range : ℕ) (resolution : Option ℕ) (mods : Mods) (small : is_small (subquery query range resolution mods) ≡ true) where
  abbrev own : Bool
  own = nat_le range greatest_time && (nat_le (resolution_or_minute resolution) greatest_time && are_small_mods mods)

  own_small : own ≡ true
  own_small = second_so (is_small query) own small

  steps_small : (nat_le (resolution_or_minute resolution) greatest_time && are_small_mods mods) ≡ true
  steps_small = second_so (nat_le range greatest_time) (nat_le (resolution_or_minute resolution) greatest_time && are_small_mods mods) own_small

  pub small_query : is_small query ≡ true
  small_query = first_so (is_small query) own small

  pub small_range : range ≤ greatest_time
  small_range = let h = first_so (nat_le range greatest_time) (nat_le (resolution_or_minute resolution) greatest_time && are_small_mods mods) own_small in grind (arith, nat_tests)

  pub small_step : resolution_or_minute resolution ≤ greatest_time
  small_step = let h = first_so (nat_le (resolution_or_minute resolution) greatest_time) (are_small_mods mods) steps_small in grind (arith, nat_tests)

  pub small_mods : are_small_mods mods ≡ true
  small_mods = second_so (nat_le (resolution_or_minute resolution) greatest_time) (are_small_mods mods) steps_small

in_room : (f t x h n : ℕ) → n ≡ 1 + h → f + 17592186044416 * n ≤ 2251799813685248 → t + 17592186044416 * n ≤ 2251799813685248
    → x ≤ max f t + 17592186044416 → x + 17592186044416 * h ≤ 2251799813685248
in_room f t x h n e p q r = omega (arith, e, p, q, r)

-- the room of its expression at an end of the joined window
pub room_joined : (query inner : Tree) → height query ≡ 1 + height inner → (from to from' to' : ℤ) → HasRoom query from → HasRoom query to → from' ≡ from → to' ≡ to
    → (side : Window → ℤ) → (joined : Option Window) → IfSome joined (λ w. unsigned_abs (side w) ≤ max (unsigned_abs from') (unsigned_abs to') + 17592186044416)
    → IfSome joined (λ w. HasRoom inner (side w))
room_joined query inner deep from to from' to' first last p q side None h = tt
room_joined query inner deep from to from' to' first last p q side (Some w) h =
    in_room (unsigned_abs from') (unsigned_abs to') (unsigned_abs (side w)) (height inner) (height query) deep (subst (HasRoom query) (sym p) first) (subst (HasRoom query) (sym q) last) h
