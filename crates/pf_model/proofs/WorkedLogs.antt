-- Worked examples of logs, computed.
use Rattle.std.proofs.Common.{◌≡◌, ℕ, pos, List, [], ◌∷◌, ◌++◌, refl, Some, codes}
use Rattle.pf_base.specs.declared.plain.Row.{Row}
use Rattle.pf_model.specs.declared.expr.Matcher.{Matcher}
use Rattle.pf_model.specs.declared.expr.MatchSign.TheVariants.{Equal}
use Rattle.pf_model.specs.Log.{Change, Rules, append, taken, too_old, repeated, differs, store_of, floor_of, verdicts_of, log_with, log_without}

abbrev ten_minutes : Rules
ten_minutes = record { window = 600000 }

row : List ℕ → ℕ → ℕ → Row
row name value time = record { labels = (codes "__name__", name) ∷ []; time = time; value = pos value }

named : List ℕ → List Matcher
named name = record { label = codes "__name__"; sign = Equal; text = name } ∷ []

-- a sample is taken; then come the same sample, another value at its time, a time below the floor, and one at the floor
abbrev first_log : List Change
first_log = append (row (codes "x") 1000000 3600000 ∷ []) ∷ []

abbrev second_rows : List Row
second_rows =
    row (codes "x") 1000000 3600000 ∷ row (codes "x") 2000000 3600000 ∷ row (codes "x") 9000000 2999999 ∷ row (codes "x") 9000000 3000000 ∷ []

judged_in_order : verdicts_of ten_minutes first_log second_rows ≡ repeated ∷ differs (pos 1000000) ∷ too_old 3000000 ∷ taken ∷ []
unfolding row
judged_in_order = refl

one_more_entry : log_with first_log second_rows (verdicts_of ten_minutes first_log second_rows) ≡ first_log ++ append second_rows ∷ []
unfolding row
one_more_entry = refl

second_store : store_of ten_minutes (first_log ++ append second_rows ∷ []) ≡
    record { samples = row (codes "x") 1000000 3600000 ∷ row (codes "x") 9000000 3000000 ∷ []; newest = Some 3600000; generation = 0; window = 600000 }
unfolding row
second_store = refl

-- a batch of which nothing is taken adds no entry
no_more_entry : log_with first_log (row (codes "x") 1000000 3600000 ∷ []) (repeated ∷ []) ≡ first_log
no_more_entry = refl

-- rows that are taken are held by those behind them, and the floor is that before the batch
held_within_a_batch : verdicts_of ten_minutes [] (row (codes "x") 1000000 3600000 ∷ row (codes "x") 1000000 3600000 ∷ row (codes "x") 5000000 0 ∷ []) ≡
    taken ∷ repeated ∷ taken ∷ []
unfolding row
held_within_a_batch = refl

-- two samples, of which a deletion removes the first; both of its ends belong to it
abbrev two_samples : List Change
two_samples = append (row (codes "up") 1000000 60000 ∷ row (codes "up") 1000000 3600000 ∷ []) ∷ []

deleted_once : store_of ten_minutes (log_without two_samples (named (codes "up")) 0 60000) ≡
    record { samples = row (codes "up") 1000000 3600000 ∷ []; newest = Some 3600000; generation = 1; window = 600000 }
unfolding row named
deleted_once = refl

-- a deletion of everything leaves the floor, and one of another series leaves the samples
deleted_whole : store_of ten_minutes (log_without two_samples (named (codes "up")) 60000 3600000) ≡
    record { samples = []; newest = Some 3600000; generation = 1; window = 600000 }
unfolding row named
deleted_whole = refl

floor_stays : floor_of ten_minutes (log_without two_samples (named (codes "up")) 60000 3600000) ≡ Some 3000000
unfolding row named
floor_stays = refl

deleted_none : store_of ten_minutes (log_without two_samples (named (codes "down")) 0 3600000) ≡
    record { samples = row (codes "up") 1000000 60000 ∷ row (codes "up") 1000000 3600000 ∷ []; newest = Some 3600000; generation = 1; window = 600000 }
unfolding row named
deleted_none = refl

-- a sample that was deleted is taken again
taken_again : verdicts_of ten_minutes (log_without two_samples (named (codes "up")) 3600000 3600000) (row (codes "up") 7000000 3600000 ∷ []) ≡ taken ∷ []
unfolding row named
taken_again = refl
