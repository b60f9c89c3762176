-- A tenant's log: what was appended and deleted, in order, and the samples that stand after it. Verdicts on rows, the
-- newest time, the floor and the generation. That rows older than a window are refused is Mimir's out-of-order window;
-- verdicts and generations are this project's own.
use Rattle.std.specs.Prelude.{◌≡◌, ℕ, ◌+◌, ◌-◌, ℤ, Bool, true, false, ◌&&◌, ◌||◌, not, Option, Some, None, cond, List, [], ◌∷◌, ◌++◌, filter, max, nat_lt, nat_le, nat_eq}
use Rattle.std.specs.Ordering.{int_eq}
use Rattle.pf_base.specs.declared.plain.Limits.{Limits}
use Rattle.pf_base.specs.declared.plain.Row.{Row}
use Rattle.pf_base.specs.LabelSets.{Pairs}
use Rattle.pf_model.specs.declared.expr.Matcher.{Matcher}
use Rattle.pf_model.specs.Selection.{accepts, same_labels}

-- the rules of a log: how far below the newest time a row is still taken, at first
pub record Rules : Type 0 where
  pub window : ℕ

abbrev pub rules_of : Limits → Rules
rules_of limits = record { window = limits.window }

-- a step of a log: a batch is appended, or the samples that matchers accept are deleted from a time to a time
pub data Change : Type 0 where
  append : List Row → Change
  delete : (matchers : List Matcher) → (from : ℕ) → (to : ℕ) → Change

-- what is said of a row: it is taken; it is below the floor; its value is held already; another value is held
pub data Verdict : Type 0 where
  taken : Verdict
  too_old : ℕ → Verdict
  repeated : Verdict
  differs : ℤ → Verdict

-- the value that is held for a series at a time
abbrev pub held_value : List Row → Pairs → ℕ → Option ℤ
held_value [] labels time = None
held_value (r ∷ rs) labels time =
    cond (same_labels r.labels labels && nat_eq r.time time) (Some r.value) (held_value rs labels time)

-- rows that hold each series' time once
abbrev pub AreApart : List Row → Type 0
AreApart [] = Unit {0}
AreApart (r ∷ rs) = (held_value rs r.labels r.time ≡ None) × AreApart rs

abbrev pub compared : Option ℤ → ℤ → Verdict
compared None value = taken
compared (Some held) value = cond (int_eq held value) repeated (differs held)

-- the verdict on a row, by the floor before its batch and the rows that are held
abbrev pub verdict_on : Option ℕ → List Row → Row → Verdict
verdict_on None held r = compared (held_value held r.labels r.time) r.value
verdict_on (Some floor) held r =
    cond (nat_lt r.time floor) (too_old floor) (compared (held_value held r.labels r.time) r.value)

abbrev pub is_taken : Verdict → Bool
is_taken taken = true
is_taken _ = false

-- the verdicts on a batch in order: rows that are taken are held by those behind them
abbrev pub verdicts_on : Option ℕ → List Row → List Row → List Verdict
verdicts_on floor held [] = []
verdicts_on floor held (r ∷ rs) =
    verdict_on floor held r ∷ verdicts_on floor (held ++ cond (is_taken (verdict_on floor held r)) (r ∷ []) []) rs

-- the rows that are taken
abbrev pub taken_rows : List Row → List Verdict → List Row
taken_rows [] vs = []
taken_rows (r ∷ rs) [] = []
taken_rows (r ∷ rs) (v ∷ vs) = cond (is_taken v) (r ∷ taken_rows rs vs) (taken_rows rs vs)

-- the greatest time, with those of some rows
abbrev pub newest_with : Option ℕ → List Row → Option ℕ
newest_with newest [] = newest
newest_with None (r ∷ rs) = newest_with (Some r.time) rs
newest_with (Some newest) (r ∷ rs) = newest_with (Some (max newest r.time)) rs

-- what stands after a log: its samples, the greatest time ever taken, the number of deletions, and its window now
pub record Store : Type 0 where
  pub samples : List Row
  pub newest : Option ℕ
  pub generation : ℕ
  pub window : ℕ

abbrev pub empty_store : Rules → Store
empty_store rules = record { samples = []; newest = None; generation = 0; window = rules.window }

-- the newest time less the window, at least 0, and none where nothing was ever taken
abbrev pub floor_below : ℕ → Option ℕ → Option ℕ
floor_below window None = None
floor_below window (Some newest) = Some (newest - window)

abbrev pub floor_at : Store → Option ℕ
floor_at s = floor_below s.window s.newest

abbrev pub appended : Store → List Row → Store
appended s rows =
    record { samples = s.samples ++ rows; newest = newest_with s.newest rows; generation = s.generation; window = s.window }

-- whether a deletion removes a sample; both ends belong to it
abbrev pub is_deleted : List Matcher → ℕ → ℕ → Row → Bool
is_deleted ms from to r = accepts ms r.labels && (nat_le from r.time && nat_le r.time to)

-- the samples that a deletion leaves
abbrev pub left_by : List Matcher → ℕ → ℕ → List Row → List Row
left_by ms from to rows = filter (λ r. not (is_deleted ms from to r)) rows

-- a deletion raises the generation, and leaves the greatest time ever taken
abbrev pub deleted : Store → List Matcher → ℕ → ℕ → Store
deleted s ms from to =
    record { samples = left_by ms from to s.samples; newest = s.newest; generation = s.generation + 1; window = s.window }

abbrev pub changed : Store → Change → Store
changed s (append rows) = appended s (taken_rows rows (verdicts_on (floor_at s) s.samples rows))
changed s (delete ms from to) = deleted s ms from to

abbrev pub store_after : Store → List Change → Store
store_after s [] = s
store_after s (c ∷ cs) = store_after (changed s c) cs

-- what stands after a whole log
abbrev pub store_of : Rules → List Change → Store
store_of rules log = store_after (empty_store rules) log

abbrev pub floor_of : Rules → List Change → Option ℕ
floor_of rules log = floor_at (store_of rules log)

-- the verdicts on a batch behind a log
abbrev pub verdicts_of : Rules → List Change → List Row → List Verdict
verdicts_of rules log rows = verdicts_on (floor_of rules log) (store_of rules log).samples rows

abbrev pub any_taken : List Verdict → Bool
any_taken [] = false
any_taken (v ∷ vs) = is_taken v || any_taken vs

-- a log with a batch: it has a further entry exactly where a row was taken
abbrev pub log_with : List Change → List Row → List Verdict → List Change
log_with log rows vs = cond (any_taken vs) (log ++ append rows ∷ []) log

-- a log with a deletion: it always has a further entry
abbrev pub log_without : List Change → List Matcher → ℕ → ℕ → List Change
log_without log ms from to = log ++ delete ms from to ∷ []

-- the samples of one batch: of rows of a series with one time the first is taken
abbrev pub batch_samples : List Row → List Row
batch_samples rows = taken_rows rows (verdicts_on None [] rows)
