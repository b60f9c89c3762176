-- The times that a query may read, and its frozen steps: those that no later sample can change, since samples below the floor
-- are refused. This project's own; Cortex and Mimir do not cache very recent results.
use Rattle.std.specs.Prelude.{ℕ, ℤ, pos, ◌+ℤ◌, ◌-ℤ◌, int_lt, Bool, true, false, ◌&&◌, ◌||◌, nat_eq, nat_le, Option, Some, None, option_map, unwrap_or, List, [], ◌∷◌, map}
use Rattle.std.specs.Int.{int_min, int_max}
use Rattle.pf_base.specs.Limits.{lookback}
use Rattle.pf_model.specs.Evaluation.{read_time, multiples, resolution_or_minute}
use Rattle.pf_model.specs.Trees as tree
use Rattle.pf_model.specs.Trees.{Tree, Trees}

-- the least and the greatest of some times
pub record Times : Type 0 where
  pub earliest : ℤ
  pub latest : ℤ

-- both together, where there is one
abbrev pub together : Option Times → Option Times → Option Times
together None other = other
together (Some a) None = Some a
together (Some a) (Some b) = Some (record { earliest = int_min a.earliest b.earliest; latest = int_max a.latest b.latest })

abbrev pub all_together : List (Option Times) → Option Times
all_together [] = None
all_together (a ∷ as') = together a (all_together as')

-- a selector reads the window (to - range, to] in whole milliseconds; an instant selector's is the look-back of 5 minutes
abbrev pub window_times : ℕ → ℤ → Option Times
window_times range to = Some (record { earliest = to -ℤ pos range +ℤ pos 1; latest = to })

-- the times that a query may read at t; none where it reads nothing
abbrev mutual
  pub times_read : Tree → ℤ → Option Times
  times_read (tree.number v) t = None
  times_read (tree.text bytes) t = None
  times_read (tree.unary minus arg) t = times_read arg t
  times_read (tree.binary op m left right) t = together (times_read left t) (times_read right t)
  times_read (tree.call f args) t = all_times_read args t
  times_read (tree.aggregate op g args) t = all_times_read args t
  times_read (tree.select ms range mods) t = window_times (unwrap_or range lookback) (read_time mods t)
  times_read (tree.subquery arg range resolution mods) t =
      all_together (map (λ u. times_read arg u)
      (multiples (resolution_or_minute resolution) (read_time mods t -ℤ pos range) (read_time mods t)))

  pub all_times_read : Trees → ℤ → Option Times
  all_times_read tree.none t = None
  all_times_read (tree.more arg args) t = together (times_read arg t) (all_times_read args t)

-- the latest and the earliest
abbrev pub reach : Tree → ℤ → Option ℤ
reach query t = option_map (λ times. times.latest) (times_read query t)

abbrev pub lowest : Tree → ℤ → Option ℤ
lowest query t = option_map (λ times. times.earliest) (times_read query t)

-- nothing is read, or nothing from the floor on
abbrev pub is_below : Option ℤ → Option ℕ → Bool
is_below None floor = true
is_below (Some latest) None = false
is_below (Some latest) (Some floor) = int_lt latest (pos floor)

abbrev pub is_frozen : Tree → ℤ → Option ℕ → Bool
is_frozen query t floor = is_below (reach query t) floor

-- a step that was evaluated may be kept: it is frozen at the floor there
abbrev pub may_be_kept : Tree → ℤ → Option ℕ → Bool
may_be_kept query t floor = is_frozen query t floor

-- what was evaluated after the first `pin` changes of a log may be used by who asks after the first `asked`: the generations there
-- are the same, and the samples are all among the asker's, or what the asker's lack is not read, since no sample below its floor is
-- taken any more
abbrev pub may_be_used : (pin generation asked aged : ℕ) → (floor : Option ℕ) → (reached : Option ℤ) → Bool
may_be_used pin generation asked aged floor reached =
    nat_eq generation aged && (nat_le pin asked || is_below reached floor)
