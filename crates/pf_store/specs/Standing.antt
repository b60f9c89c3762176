-- What a tenant's log keeps, and the lists of changes that it stands for. This project's own.
use Rattle.std.specs.Prelude.{◌≡◌, ℕ, ◌<◌, ◌≤◌, Option, None, List, length, nat_eq}
use Rattle.std.specs.List.{list_any}
use Rattle.pf_base.specs.declared.plain.Row.{Row}
use Rattle.pf_base.specs.LabelSets.{Pairs}
use Rattle.pf_block.specs.Snaps.{SnapData, held_of, labels_of}
use Rattle.pf_model.specs.Log.{AreApart, Change, Rules, store_of, floor_of, verdicts_of, log_with, held_value}
use Rattle.pf_model.specs.declared.expr.Matcher.{Matcher}
use Rattle.pf_model.specs.Selection.{accepts}
use Rattle.pf_store.specs.Verdicts.{VerdictsData}
use Rattle.pf_store.specs.declared.tenant_log.Deleted.{Deleted}

-- the window, the number of entries, the greatest time ever taken, the number of deletions, and the snapshot
pub record LogData : Type 0 where
  pub window : ℕ
  pub entries : ℕ
  pub newest : Option ℕ
  pub generation : ℕ
  pub snap : SnapData

-- each series of a snapshot has its list of samples
abbrev pub IsAlike : SnapData → Type 0
IsAlike s = length s.samples ≡ length s.labels

-- what every log is: each deletion is an entry
pub record IsKept (d : LogData) : Type 0 where
  pub aged : d.generation ≤ d.entries
  pub alike : IsAlike d.snap

-- a pin: the number of entries, the floor, the generation, and the snapshot
pub record PinData : Type 0 where
  pub number : ℕ
  pub floor : Option ℕ
  pub generation : ℕ
  pub snap : SnapData

-- a snapshot stands for samples: of each series it holds at each time the value that the samples hold
abbrev pub StandsFor : SnapData → List Row → Type 0
StandsFor snap samples = (labels : Pairs) (time : ℕ) → held_of snap labels time ≡ held_value samples labels time

-- what is kept is what stands after these changes
pub record IsLog (rules : Rules) (d : LogData) (log : List Change) : Type 0 where
  pub counted : d.entries ≡ length log
  pub newest : d.newest ≡ (store_of rules log).newest
  pub generation : d.generation ≡ (store_of rules log).generation
  pub window : d.window ≡ (store_of rules log).window
  pub samples : StandsFor d.snap (store_of rules log).samples

-- neither a snapshot nor some rows hold a row's series at its time
pub record IsFresh (snap : SnapData) (rows : List Row) (r : Row) : Type 0 where
  pub unheld : held_of snap r.labels r.time ≡ None
  pub apart : held_value rows r.labels r.time ≡ None

-- the verdicts on rows behind some changes, and the number of entries with them
abbrev pub verdicts_after : Rules → List Change → List Row → VerdictsData
verdicts_after rules log rows =
    record { list = verdicts_of rules log rows; entry = length (log_with log rows (verdicts_of rules log rows)) }

-- the generation and the number of entries behind some changes
abbrev pub deleted_after : Rules → List Change → Deleted
deleted_after rules log = record { generation = (store_of rules log).generation; entry = length log }

-- a pin of these changes, whose samples hold each series' time once
pub record IsPin (p : PinData) (rules : Rules) (log : List Change) : Type 0 where
  pub numbered : p.number ≡ length log
  pub floored : p.floor ≡ floor_of rules log
  pub aged : p.generation ≡ (store_of rules log).generation
  pub samples : StandsFor p.snap (store_of rules log).samples
  pub apart : AreApart (store_of rules log).samples

-- some ids are those of the series that matchers accept
abbrev pub AreAccepted : List Matcher → SnapData → List ℕ → Type 0
AreAccepted ms snap ids =
    (id : ℕ) → id < length snap.labels → list_any (nat_eq id) ids ≡ accepts ms (labels_of snap id)
