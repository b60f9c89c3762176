-- Why a kept cell serves a later asker: later changes leave a frozen step's value as it was, as long as the generation is the
-- same. This project's own.
use Rattle.std.specs.Prelude.{◌≡◌, ℕ, ℤ, true, List, ◌++◌, take}
use Rattle.pf_model.specs.Evaluation.{eval}
use Rattle.pf_model.specs.Log.{Change, Rules, store_of, floor_of}
use Rattle.pf_model.specs.Reach.{is_frozen, may_be_kept, may_be_used, reach}
use Rattle.pf_model.specs.Trees.{Tree}

-- a step that is frozen at a log's floor has one value over the samples of the log and those of the log with more changes, where
-- these leave the generation as it was
abbrev pub FrozenSteps : Type 0
FrozenSteps =
    (rules : Rules) (log more : List Change) (query : Tree) (t : ℤ)
    → (store_of rules (log ++ more)).generation ≡ (store_of rules log).generation
    → is_frozen query t (floor_of rules log) ≡ true
    → eval (store_of rules log).samples query t ≡ eval (store_of rules (log ++ more)).samples query t

-- a cell over the samples after the first `pin` changes of a log is kept where its step may be; who asks after the first `asked`
-- changes uses it where it may be used: it is the value over the asker's samples
abbrev pub KeptCells : Type 0
KeptCells =
    (rules : Rules) (log : List Change) (pin asked : ℕ) (query : Tree) (t : ℤ)
    → may_be_kept query t (floor_of rules (take pin log)) ≡ true
    → may_be_used pin (store_of rules (take pin log)).generation asked (store_of rules (take asked log)).generation
    (floor_of rules (take asked log)) (reach query t) ≡ true
    → eval (store_of rules (take pin log)).samples query t ≡ eval (store_of rules (take asked log)).samples query t

-- and the step of such a cell is frozen at the asker's floor, too
abbrev pub KeptSteps : Type 0
KeptSteps =
    (rules : Rules) (log : List Change) (pin asked : ℕ) (query : Tree) (t : ℤ)
    → may_be_kept query t (floor_of rules (take pin log)) ≡ true
    → may_be_used pin (store_of rules (take pin log)).generation asked (store_of rules (take asked log)).generation
    (floor_of rules (take asked log)) (reach query t) ≡ true
    → is_frozen query t (floor_of rules (take asked log)) ≡ true
