-- Logs only grow: the tenants' from entry to entry, and that of each open query's tenant since its ask.
use Rattle.std.proofs.Common.{◌≡◌, ℕ, zero, suc, cond, take, inl, inr, Some, List, [], ◌∷◌, ◌++◌, append_assoc, append-nil, length, refl, sym, ap, ◌∙◌, arith}
use Rattle.std.proofs.lemmas.List.{length-append}
use Rattle.pf_journal.specs.Legal.{machine_after}
use Rattle.pf_journal.specs.Machine.{Entry, Machine, Open, What, append, delete, ask, full, no_tenant, cancel, answer, log_of, logs_after, next, open_at, queries_after, started, with_log}
use Rattle.pf_model.specs.Lists.{Each}
use Rattle.pf_model.specs.Log.{Change, Rules, any_taken, floor_of, log_with, log_without, store_of}
use Rattle.pf_results.specs.Truth.{HaveGrown, IsAsker}
use Rattle.pf_core.specs.Cached.{asker_of}
use Rattle.pf_core.proofs.Lists.{each_map, each_push}
use Rattle.pf_core.proofs.Machines.{bool_cases, each_cancelled, each_closed, open_each}

-- a list goes on from another
abbrev pub GoesOn : List Change → List Change → Type 0
GoesOn old new = (more : List Change) × (new ≡ old ++ more)

goes_nowhere : (log : List Change) → GoesOn log log
goes_nowhere log = ([], sym (append-nil log))

goes_further : (a b c : List Change) → GoesOn a b → GoesOn b c → GoesOn a c
goes_further a b c f g = (f.0 ++ g.0, g.1 ∙ ap (λ (l : List Change). l ++ g.0) f.1 ∙ append_assoc a f.0 g.0)

-- ---- of tenants

with_grown : (logs : List (List Change)) (u : ℕ) (log : List Change) → GoesOn (log_of logs u) log → (v : ℕ)
    → GoesOn (log_of logs v) (log_of (with_log logs u log) v)
with_grown [] u log g zero = (log, refl)
with_grown [] u log g (suc v) = ([], refl)
with_grown (l ∷ ls) zero log g zero = g
with_grown (l ∷ ls) zero log g (suc v) = goes_nowhere (log_of ls v)
with_grown (l ∷ ls) (suc u) log g zero = goes_nowhere l
with_grown (l ∷ ls) (suc u) log g (suc v) = with_grown ls u log g v

appended_grown : (taken : List Change) (log : List Change) (b : _) → GoesOn log (cond b (log ++ taken) log)
appended_grown taken log b = elim (bool_cases b) [
  | inl t ↦ rw t (taken, refl)
  | inr t ↦ rw t (goes_nowhere log)
]

pub logs_grown : (logs : List (List Change)) (w : What) → HaveGrown (log_of logs) (log_of (logs_after logs w))
logs_grown logs (append u batch vs entry) v =
    with_grown logs u (log_with (log_of logs u) batch.rows vs) (appended_grown _ (log_of logs u) (any_taken vs)) v
logs_grown logs (delete u ms from to generation entry) v = with_grown logs u (log_without (log_of logs u) ms from to) (_, refl) v
logs_grown logs (ask u asked pin generation floor) v = with_grown logs u (log_of logs u) (goes_nowhere (log_of logs u)) v
logs_grown logs (full u outstanding) v = goes_nowhere (log_of logs v)
logs_grown logs (no_tenant name) v = goes_nowhere (log_of logs v)
logs_grown logs (cancel query) v = goes_nowhere (log_of logs v)
logs_grown logs (answer query code cached evaluated) v = goes_nowhere (log_of logs v)

-- ---- of open queries

-- an open query's log is the front of its tenant's
abbrev pub IsFront : List (List Change) → Open → Type 0
IsFront logs o = GoesOn o.log (log_of logs o.tenant)

front_later : (logs : List (List Change)) (w : What) (o : Open) → IsFront logs o → IsFront (logs_after logs w) o
front_later logs w o h = goes_further o.log (log_of logs o.tenant) (log_of (logs_after logs w) o.tenant) h (logs_grown logs w o.tenant)

fronts_later : (logs : List (List Change)) (w : What) (qs : List Open) → Each (IsFront logs) qs → Each (IsFront (logs_after logs w)) qs
fronts_later logs w qs h = each_map (IsFront logs) (IsFront (logs_after logs w)) (front_later logs w) qs h

fronts_next : (m : Machine) (w : What) → Each (IsFront m.logs) m.queries → Each (IsFront (logs_after m.logs w)) (queries_after m w)
fronts_next m (append u batch vs entry) h = fronts_later m.logs (append u batch vs entry) m.queries h
fronts_next m (delete u ms from to generation entry) h = fronts_later m.logs (delete u ms from to generation entry) m.queries h
fronts_next m (ask u asked pin generation floor) h =
    each_push (IsFront (logs_after m.logs (ask u asked pin generation floor))) m.queries _
    (fronts_later m.logs (ask u asked pin generation floor) m.queries h) (logs_grown m.logs (ask u asked pin generation floor) u)
fronts_next m (full u outstanding) h = h
fronts_next m (no_tenant name) h = h
fronts_next m (cancel query) h = each_cancelled (IsFront m.logs) m.count query (λ o f. f) m.queries h
fronts_next m (answer query code cached evaluated) h = each_closed (IsFront m.logs) query m.queries h

fronts_from : (m : Machine) (es : List Entry) → Each (IsFront m.logs) m.queries
    → Each (IsFront (machine_after m es).logs) (machine_after m es).queries
fronts_from m [] h = h
fronts_from m (e ∷ es) h = fronts_from (next m e.what) es (fronts_next m e.what h)

-- the law of all journals
pub front_of : (journal : List Entry) (place : ℕ) (o : Open) → open_at place (machine_after started journal).queries ≡ Some o
    → IsFront (machine_after started journal).logs o
front_of journal place o there =
    open_each (IsFront (machine_after started journal).logs) place (machine_after started journal).queries o (fronts_from started journal tt) there

-- so who asks it asks after so many first changes of its tenant's log
taken_front : (a b : List Change) → take (length a) (a ++ b) ≡ a
taken_front [] b = refl
taken_front (x ∷ a) b = ap (λ (l : List Change). x ∷ l) (taken_front a b)

pub front_taken : (logs : List (List Change)) (o : Open) → IsFront logs o → take (length o.log) (log_of logs o.tenant) ≡ o.log
front_taken logs o h = ap (take (length o.log)) h.1 ∙ taken_front o.log h.0

pub asker_stands : (rules : Rules) (logs : List (List Change)) (o : Open) → IsFront logs o → IsAsker rules (log_of logs o.tenant) (asker_of rules o)
asker_stands rules logs o h =
    let same = front_taken logs o h in
    record {
      pin = let long = ap (λ (l : List Change). length l) h.1 in let all = length-append o.log h.0 in omega (arith, long, all);
      generation = ap (λ (l : List Change). (store_of rules l).generation) (sym same);
      floor = ap (floor_of rules) (sym same);
    }
