-- The ends of the times that a query reads: this project's own.
use Rattle.std.specs.Prelude.{ℕ, ◌-◌, ℤ, pos, ◌+ℤ◌, ◌-ℤ◌, Option, Some, None, map, option_map, Bool, true, false, ◌||◌, nat_le, ◌≡◌, ◌<◌, ◌*ℤ◌, unsigned_abs}
use Rattle.std.specs.Int.{int_max, int_min}
use Rattle.pf_model.specs.declared.expr.At.{At}
use Rattle.pf_model.specs.declared.expr.At.TheVariants as at
use Rattle.pf_model.specs.declared.expr.Mods.{Mods}
use Rattle.pf_model.specs.Evaluation.{multiples, read_time}
use Rattle.pf_model.specs.Micros.{cut_down}
use Rattle.pf_model.specs.Reach.{Times, all_times_read, all_together, times_read}
use Rattle.pf_model.specs.Trees.{Tree, Trees}
use Rattle.pf_resolve.specs.declared.reading.End.{End}
use Rattle.pf_resolve.specs.declared.reading.Window.{Window}
use Rattle.pf_resolve.specs.declared.reading.End.TheVariants as end

abbrev pub end_of : End → Option Times → Option ℤ
end_of end.Earliest times = option_map (λ (found : Times). found.earliest) times
end_of end.Latest times = option_map (λ (found : Times). found.latest) times

-- the one that lies farther out, where there is one
abbrev pub farther : End → ℤ → ℤ → ℤ
farther end.Earliest a b = int_min a b
farther end.Latest a b = int_max a b

abbrev pub farther_of : End → Option ℤ → Option ℤ → Option ℤ
farther_of e None other = other
farther_of e (Some a) None = Some a
farther_of e (Some a) (Some b) = Some (farther e a b)

-- of the window of a selector that ends at a time
abbrev pub window_end : End → ℕ → ℤ → ℤ
window_end end.Earliest range to = to -ℤ pos range +ℤ pos 1
window_end end.Latest range to = to

-- how many of some times stand behind the first or the last of them
abbrev pub behind : End → ℕ → ℕ
behind end.Earliest count = count - 1
behind end.Latest count = 0

-- of what a query may read at the multiples of a step in (from, to]
abbrev pub end_over : End → Tree → (step : ℕ) → (from to : ℤ) → Option ℤ
end_over e query step from to = end_of e (all_together (map (times_read query) (multiples step from to)))

abbrev pub end_over_all : End → Trees → (step : ℕ) → (from to : ℤ) → Option ℤ
end_over_all e args step from to = end_of e (all_together (map (all_times_read args) (multiples step from to)))

-- the same in a window
abbrev pub end_in_window : End → Tree → (step : ℕ) → Option Window → Option ℤ
end_in_window e query step None = None
end_in_window e query step (Some w) = end_over e query step w.from w.to

-- `@` fixes the time
abbrev pub is_fixed : Option At → Bool
is_fixed None = false
is_fixed (Some (at.Time millis)) = true
is_fixed (Some at.Start) = false
is_fixed (Some at.End) = false

-- the windows before the multiples of a step touch, or are the same one
abbrev pub are_touching : Mods → (range step : ℕ) → Bool
are_touching mods range step = is_fixed mods.at || nat_le step range

-- the one window in place of those before the multiples of a step in (from, to], of which there are some
pub record IsJoined (mods : Mods) (range step : ℕ) (from to : ℤ) (w : Window) : Type 0 where
  pub some : 0 < unsigned_abs (cut_down to step -ℤ cut_down from step)
  pub start : w.from ≡ read_time mods ((cut_down to step -ℤ pos (unsigned_abs (cut_down to step -ℤ cut_down from step) - 1)) *ℤ pos step) -ℤ pos range
  pub finish : w.to ≡ read_time mods ((cut_down to step -ℤ pos 0) *ℤ pos step)
