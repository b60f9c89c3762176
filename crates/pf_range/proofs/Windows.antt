-- Windows: how many samples they hold, and where their first and their last ones lie.
use Rattle.std.proofs.Common.{◌≡◌, ◌<◌, ◌≤◌, ℤ, pos, ◌+ℤ◌, ◌≤ℤ◌, ◌<ℤ◌, true, None, Some, List, [], ◌∷◌, length, refl, arith}
use Rattle.std.proofs.lemmas.Int.{ints}
use Rattle.std.specs.Prelude.{int_le, int_lt}
use Rattle.std.specs.List.{list_all}
use Rattle.std.specs.Cmp.{first_so, second_so}
use Rattle.pf_base.specs.declared.plain.Sample.{Sample}
use Rattle.pf_block.specs.Samples.{is_within, rises, rises_after}
use Rattle.pf_model.specs.RangeFunctions.{but_last, first, last, of_one, of_two}
use Rattle.pf_range.specs.Extrapolation.{Extends}
use Rattle.pf_range.specs.Windows.{IsTime, IsWindow}

-- ---- values of at least one and of at least two samples

pub of_one_none : (ss : List Sample) (v : ℤ) → length ss < 1 → None ≡ of_one ss v
of_one_none [] v h = refl
of_one_none (s ∷ ss) v h = absurd (omega (arith, h))

pub of_two_none : (ss : List Sample) (v : ℤ) → length ss < 2 → None ≡ of_two ss v
of_two_none [] v h = refl
of_two_none (s ∷ []) v h = refl
of_two_none (s ∷ r ∷ rs) v h = absurd (omega (arith, h))

pub of_two_some : (ss : List Sample) (v : ℤ) → 2 ≤ length ss → Some v ≡ of_two ss v
of_two_some [] v h = absurd (omega (arith, h))
of_two_some (s ∷ []) v h = absurd (omega (arith, h))
of_two_some (s ∷ r ∷ rs) v h = refl

-- ---- times

module _ (after upto : ℤ) where
  abbrev in_window : Sample → List Sample → Type 0
  in_window s ss = list_all (is_within after upto) (s ∷ ss) ≡ true

  head_within : (s : Sample) (ss : List Sample) → in_window s ss → is_within after upto s ≡ true
  head_within s ss h = first_so (is_within after upto s) (list_all (is_within after upto) ss) h

  tail_within : (s : Sample) (ss : List Sample) → in_window s ss → list_all (is_within after upto) ss ≡ true
  tail_within s ss h = second_so (is_within after upto s) (list_all (is_within after upto) ss) h

  head_after : (s : Sample) (ss : List Sample) → in_window s ss → after <ℤ s.time
  head_after s ss h =
      let b : int_lt after s.time ≡ true = first_so (int_lt after s.time) (int_le s.time upto) (head_within s ss h) in grind (arith, ints, b)

  head_upto : (s : Sample) (ss : List Sample) → in_window s ss → s.time ≤ℤ upto
  head_upto s ss h =
      let b : int_le s.time upto ≡ true = second_so (int_lt after s.time) (int_le s.time upto) (head_within s ss h) in grind (arith, ints, b)

  last_upto : (s : Sample) (ss : List Sample) → in_window s ss → (last (s ∷ ss)).time ≤ℤ upto
  last_upto s [] h = head_upto s [] h
  last_upto s (r ∷ rs) h = last_upto r rs (tail_within s (r ∷ rs) h)

rises_head : (t : ℤ) (s : Sample) (ss : List Sample) → rises_after t (s ∷ ss) ≡ true → t <ℤ s.time
rises_head t s ss h =
    let b : int_lt t s.time ≡ true = first_so (int_lt t s.time) (rises_after s.time ss) h in grind (arith, ints, b)

rises_tail : (t : ℤ) (s : Sample) (ss : List Sample) → rises_after t (s ∷ ss) ≡ true → rises_after s.time ss ≡ true
rises_tail t s ss h = second_so (int_lt t s.time) (rises_after s.time ss) h

-- each sample is later than the one before
last_apart : (s : Sample) (ss : List Sample) → rises_after s.time ss ≡ true → (s.time +ℤ pos (length ss)) ≤ℤ (last (s ∷ ss)).time
last_apart s [] h = omega (arith, ints)
last_apart s (r ∷ rs) h =
    let rest = last_apart r rs (rises_tail s.time r rs h) in
    let step = rises_head s.time r rs h in
    omega (arith, ints, rest, step)

pub few : (after upto : ℤ) (ss : List Sample) → rises ss ≡ true → list_all (is_within after upto) ss ≡ true → IsTime after → IsTime upto → length ss ≤ 2251799813685248
few after upto [] r w a b = omega arith
few after upto (s ∷ ss) r w a b =
    let low = head_after after upto s ss w in
    let high = last_upto after upto s ss w in
    let apart = last_apart s ss r in
    omega (arith, ints, low, high, apart, a.0, b.1)

pub extends : (after upto : ℤ) (ss : List Sample) → IsWindow after upto ss → 2 ≤ length ss → Extends after upto (first ss).time (last ss).time (length ss)
extends after upto [] w h = absurd (omega (arith, h))
extends after upto (s ∷ ss) w h = record {
  left = w.left;
  right = w.right;
  low = head_after after upto s ss w.within;
  high = last_upto after upto s ss w.within;
  many = h;
  apart = let apart = last_apart s ss w.rising in omega (arith, ints, apart);
}

-- ---- the last step

pub record Steps (after upto before last : ℤ) : Type 0 where
  pub low : after <ℤ before
  pub later : before <ℤ last
  pub high : last ≤ℤ upto

last_steps : (after upto : ℤ) (s r : Sample) (rs : List Sample) → rises_after s.time (r ∷ rs) ≡ true → list_all (is_within after upto) (s ∷ r ∷ rs) ≡ true
    → Steps after upto (last (but_last (s ∷ r ∷ rs))).time (last (r ∷ rs)).time
last_steps after upto s r [] h w = record {
  low = head_after after upto s (r ∷ []) w;
  later = rises_head s.time r [] h;
  high = head_upto after upto r [] (tail_within after upto s (r ∷ []) w);
}
last_steps after upto s r (q ∷ qs) h w = last_steps after upto r q qs (rises_tail s.time r (q ∷ qs) h) (tail_within after upto s (r ∷ q ∷ qs) w)

pub last_step_times : (after upto : ℤ) (ss : List Sample) → IsWindow after upto ss → 2 ≤ length ss → Steps after upto (last (but_last ss)).time (last ss).time
last_step_times after upto [] w h = absurd (omega (arith, h))
last_step_times after upto (s ∷ []) w h = absurd (omega (arith, h))
last_step_times after upto (s ∷ r ∷ rs) w h = last_steps after upto s r rs w.rising w.within
