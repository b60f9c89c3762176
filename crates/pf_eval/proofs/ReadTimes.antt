-- The times of a grid, and those that selectors read at.
use Rattle.std.proofs.Common.{◌≡◌, ◌<◌, ◌≤◌, ◌+◌, ◌-◌, ◌*◌, ℕ, zero, suc, ℤ, pos, negsuc, ◌+ℤ◌, ◌*ℤ◌, ◌≤ℤ◌, true, Option, Some, None, [], sym, ap, ◌∙◌, subst, arith}
use Rattle.std.specs.Prelude.{◌-ℤ◌, nat_le, unsigned_abs}
use Rattle.std.proofs.lemmas.Int.{ints}
use Rattle.std.proofs.lemmas.Bool.Decides.{nat_tests}
use Rattle.pf_base.proofs.GridTimes.{time_within}
use Rattle.pf_model.specs.declared.expr.At.{At}
use Rattle.pf_model.specs.declared.expr.At.TheVariants as at
use Rattle.pf_model.specs.declared.expr.Mods.{Mods}
use Rattle.pf_model.specs.Built.{are_near, is_distance, is_resolution, is_time}
use Rattle.pf_model.specs.Evaluation.{fixed_time, read_time}
use Rattle.pf_range.specs.Windows.{IsTime}
use Rattle.pf_selectors.specs.declared.times.Times.{Times}
use Rattle.pf_selectors.specs.Times.{AreStarts, AreTimes, away, time_at}
use Rattle.pf_selectors.specs.Subqueries.{AreMultiplesOver, HoldWindows}
use Rattle.pf_selectors.proofs.StepTimes.{run_at}
use Rattle.pf_eval.specs.Bound.{HasLevels, HasRoom}
use Rattle.pf_eval.proofs.BoundLists.{two_true}

pub fixed_at : (a o : ℤ) (k : ℕ) → (a -ℤ o) +ℤ (pos k *ℤ pos 0) ≡ a -ℤ o
fixed_at a o k = omega (arith, ints)

pub moved_at : (s a o : ℤ) → (s -ℤ o) +ℤ a ≡ (s +ℤ a) -ℤ o
moved_at s a o = omega (arith, ints)

pub near_by : (n : ℕ) → nat_le n 4398046511103 ≡ true → n ≤ 4398046511103
near_by n h = grind (arith, nat_tests)

pub offset_within : (m : Mods) → are_near m ≡ true → (negsuc 4398046511102 ≤ℤ m.offset) × (m.offset ≤ℤ pos 4398046511103)
offset_within m h =
    let n : unsigned_abs m.offset ≤ 4398046511103 = near_by (unsigned_abs m.offset) (two_true (is_time m.at) (is_distance (unsigned_abs m.offset)) h).1 in
    (omega (arith, ints, n), omega (arith, ints, n))

fixed_within : (n : ℕ) (o : Option At) (t : ℤ) → is_time o ≡ true → HasLevels n (pos 4398046511103) → HasLevels n t → HasLevels n (fixed_time o t)
fixed_within n None t h f i = i
fixed_within n (Some (at.Time millis)) t h f i = let m = near_by millis h in omega (arith, ints, m, f)
fixed_within n (Some at.Start) t h f i = i
fixed_within n (Some at.End) t h f i = i

pub fixed_near : (n : ℕ) (m : Mods) (t : ℤ) → are_near m ≡ true → HasLevels n (pos 4398046511103) → HasLevels n t → HasLevels n (fixed_time m.at t)
fixed_near n m t h f i = fixed_within n m.at t (two_true (is_time m.at) (is_distance (unsigned_abs m.offset)) h).0 f i

abbrev IsOffset : ℤ → Type 0
IsOffset o = (negsuc 4398046511102 ≤ℤ o) × (o ≤ℤ pos 4398046511103)

moved_time : (t o : ℤ) → HasLevels 1 t → IsOffset o → IsTime (t -ℤ o)
moved_time t o h b = (omega (arith, ints, h, b.0, b.1), omega (arith, ints, h, b.0, b.1))

moved_start : (t o : ℤ) (range : ℕ) → HasLevels 1 t → IsOffset o → range ≤ 4398046511103 → IsTime ((t -ℤ o) -ℤ pos range)
moved_start t o range h b r = (omega (arith, ints, h, b.0, b.1, r), omega (arith, ints, h, b.0, b.1, r))

pub read_within : (m : Mods) (t : ℤ) → are_near m ≡ true → HasLevels 1 (pos 4398046511103) → HasLevels 1 t → IsTime (read_time m t)
read_within m t h f i = moved_time (fixed_time m.at t) m.offset (fixed_near 1 m t h f i) (offset_within m h)

pub start_within : (m : Mods) (t : ℤ) (range : ℕ) → are_near m ≡ true → HasLevels 1 (pos 4398046511103) → HasLevels 1 t → range ≤ 4398046511103
    → IsTime (read_time m t -ℤ pos range)
start_within m t range h f i r = moved_start (fixed_time m.at t) m.offset range (fixed_near 1 m t h f i) (offset_within m h) r

pub millis_within : (m : Mods) (millis : ℕ) → m.at ≡ Some (at.Time millis) → are_near m ≡ true → millis ≤ 4398046511103
millis_within m millis e h = near_by millis (ap is_time (sym e) ∙ (two_true (is_time m.at) (is_distance (unsigned_abs m.offset)) h).0)

pub point_is : (start step k : ℕ) → pos start +ℤ (pos k *ℤ pos step) ≡ pos (start + k * step)
point_is start step k = omega (arith, ints)

levels_of : (t : ℕ) → t ≤ 4398046511103 → HasLevels 64 (pos t)
levels_of t h = omega (arith, h)

pub point_within : (start step n k last : ℕ) → k < n → last ≡ start + (n - 1) * step → last ≤ 4398046511103 → HasLevels 64 (pos (start + k * step))
point_within start step n k last h e l =
    let m : start + (n - 1) * step ≤ 4398046511103 = subst (λ x. x ≤ 4398046511103) e l in
    levels_of (start + k * step) (time_within start step n k 4398046511103 h m)

pub first_within : (start : ℕ) → start ≤ 4398046511103 → HasLevels 64 (pos start)
first_within start h = levels_of start h

-- ---- the times that a selector reads at

pub fixed_read : (m : Mods) (millis : ℕ) (read : Times) (t : ℤ) (k : ℕ) → m.at ≡ Some (at.Time millis) → read.start ≡ pos millis -ℤ m.offset → read.step ≡ pos 0
    → read.list.now ≡ [] → time_at read k ≡ read_time m t
fixed_read m millis read t k e s d l =
    run_at read k l ∙ (λ i. s i +ℤ (pos k *ℤ d i)) ∙ fixed_at (pos millis) m.offset k ∙ ap (λ o. fixed_time o t -ℤ m.offset) (sym e)

pub moved_read : (m : Mods) (read times : Times) (k : ℕ) → ((t : ℤ) → fixed_time m.at t ≡ t) → read.start ≡ times.start -ℤ m.offset → read.step ≡ times.step
    → read.list.now ≡ times.list.now → time_at read k ≡ read_time m (time_at times k)
moved_read m read times k h s d l =
    (λ i. s i +ℤ away (l i) (d i) k) ∙ moved_at times.start (away times.list.now times.step k) m.offset ∙ ap (λ t. t -ℤ m.offset) (sym (h (time_at times k)))

pub fixed_start : (m : Mods) (millis : ℕ) (read : Times) (t : ℤ) → m.at ≡ Some (at.Time millis) → read.start ≡ pos millis -ℤ m.offset → read.start ≡ read_time m t
fixed_start m millis read t e s = s ∙ ap (λ o. fixed_time o t -ℤ m.offset) (sym e)

pub moved_first : (m : Mods) (read times : Times) → ((t : ℤ) → fixed_time m.at t ≡ t) → read.start ≡ times.start -ℤ m.offset → read.start ≡ read_time m times.start
moved_first m read times h s = s ∙ ap (λ t. t -ℤ m.offset) (sym (h times.start))

pub all_within : (m : Mods) (read times : Times) → are_near m ≡ true → HasRoom 1 times → read.len ≡ times.len
    → ((k : ℕ) → k < times.len → time_at read k ≡ read_time m (time_at times k)) → AreTimes read
all_within m read times n r e h = λ k l.
    let below : k < times.len = subst (λ len. k < len) e l in
    subst IsTime (sym (h k below)) (read_within m (time_at times k) n r.fixed (r.all k below))

pub starts_within : (m : Mods) (read times : Times) (range : ℕ) → are_near m ≡ true → HasRoom 1 times → is_distance range ≡ true → read.len ≡ times.len
    → ((k : ℕ) → k < times.len → time_at read k ≡ read_time m (time_at times k)) → AreStarts range read
starts_within m read times range n r d e h = λ k l.
    let below : k < times.len = subst (λ len. k < len) e l in
    subst (λ t. IsTime (t -ℤ pos range)) (sym (h k below)) (start_within m (time_at times k) range n r.fixed (r.all k below) (near_by range d))

-- ---- the inner run of a subquery

module _ (levels bound : ℕ) (e : bound + 8796093022208 * levels ≡ 1125899906842624) where
  abbrev low : ℤ
  low = pos 0 -ℤ pos bound

  abbrev high : ℤ
  high = pos bound

  held : (t o : ℤ) (range : ℕ) → HasLevels (1 + levels) t → IsOffset o → range ≤ 4398046511103
      → (low ≤ℤ (t -ℤ o)) × ((t -ℤ o) ≤ℤ high) × (low ≤ℤ ((t -ℤ o) -ℤ pos range))
  held t o range h b r =
      (omega (arith, ints, h, b.0, b.1, e), omega (arith, ints, h, b.0, b.1, e), omega (arith, ints, h, b.0, b.1, r, e))

  inside : (t : ℤ) → (low ≤ℤ t) × (t ≤ℤ high) → HasLevels levels t
  inside t h = omega (arith, ints, h.0, h.1, e)

  held_at : (m : Mods) (t : ℤ) (range : ℕ) → are_near m ≡ true → is_distance range ≡ true → HasLevels (1 + levels) (pos 4398046511103) → HasLevels (1 + levels) t
      → (low ≤ℤ read_time m t) × (read_time m t ≤ℤ high) × (low ≤ℤ (read_time m t -ℤ pos range))
  held_at m t range n d f h =
      held (fixed_time m.at t) m.offset range (fixed_near (1 + levels) m t n f h) (offset_within m n) (near_by range d)

  module _ (m : Mods) (range : ℕ) (times read : Times) (n : are_near m ≡ true) (d : is_distance range ≡ true) (r : HasRoom (1 + levels) times)
      (start : read.start ≡ read_time m times.start) (len : read.len ≡ times.len) (all : (k : ℕ) → k < times.len → time_at read k ≡ read_time m (time_at times k)) where
    windows_held : HoldWindows low high range read
    windows_held =
        let s = held_at m times.start range n d r.fixed r.start in
        record {
          zero = (omega (arith, ints), omega (arith, ints));
          start = subst (λ t. (low ≤ℤ t) × (t ≤ℤ high)) (sym start) (s.0, s.1);
          windows = λ k l.
              let below : k < times.len = subst (λ x. k < x) len l in
              let w = held_at m (time_at times k) range n d r.fixed (r.all k below) in
              subst (λ t. (low ≤ℤ (t -ℤ pos range)) × (t ≤ℤ high)) (sym (all k below)) (w.2, w.1);
        }

    inner_by : (resolution : ℕ) (at : Times) → AreMultiplesOver range resolution at read → HasRoom levels at
    inner_by resolution at a = record {
      fixed = let f = r.fixed in omega (arith, f);
      start = inside at.start (a.start low high windows_held);
      all = λ k l. inside (time_at at k) (a.within low high windows_held k l);
    }

bound_of : (levels : ℕ) → 8796093022208 * levels ≤ 1125899906842624 → (1125899906842624 - 8796093022208 * levels) + 8796093022208 * levels ≡ 1125899906842624
bound_of levels h = omega (arith, h)

pub inner_room : (levels : ℕ) (m : Mods) (range resolution : ℕ) (times read at : Times) → are_near m ≡ true → is_distance range ≡ true
    → read.start ≡ read_time m times.start → read.len ≡ times.len → ((k : ℕ) → k < times.len → time_at read k ≡ read_time m (time_at times k))
    → AreMultiplesOver range resolution at read → HasRoom (1 + levels) times → HasRoom levels at
inner_room levels m range resolution times read at n d start len all a r =
    let f = r.fixed in
    let e = bound_of levels (omega (arith, f)) in
    inner_by levels (1125899906842624 - 8796093022208 * levels) e m range times read n d r start len all resolution at a

pub some_resolution : (resolution : ℕ) → is_resolution resolution ≡ true → 0 < resolution
some_resolution zero h = cc
some_resolution (suc n) h = omega arith
