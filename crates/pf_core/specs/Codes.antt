-- How a core is told from others where a proof compares two: this project's own.
use Rattle.std.specs.Prelude.{◌≡◌, ◌⊎◌, ℕ, ℤ, pos, Bool, cond, nat_eq, Option, List, refl}
use Rattle.std.specs.Coded.{Coded, code_by, coded×, coded⊎, coded_bool, coded_list, coded_option, coded_ℕ, coded_ℤ}
use mathlib.Core.Logic.{inl, inr}
use Rattle.pf_base.specs.Batches.{BatchData}
use Rattle.lru.specs.LruCache.{LruCache}
use Rattle.pf_base.specs.GridLists.{GridData}
use Rattle.pf_base.specs.LabelSets.{Pairs}
use Rattle.pf_base.specs.declared.plain.JobHead.{JobHead}
use Rattle.pf_base.specs.declared.plain.Limits.{Limits}
use Rattle.pf_base.specs.declared.plain.Row.{Row}
use Rattle.pf_extent.specs.Steps.{Extents}
use Rattle.pf_extent.specs.declared.key.Key.{Key}
use Rattle.pf_journal.specs.Asking.{Asked}
use Rattle.pf_journal.specs.Machine.{Entry, What, append, delete, ask, full, no_tenant, cancel, answer}
use Rattle.pf_model.specs.Log.{Verdict, taken, too_old, repeated, differs}
use Rattle.pf_model.proofs.TreeCode.{bytes_code, matchers_code}
use Rattle.pf_model.specs.declared.expr.Matcher.{Matcher}
use Rattle.pf_asked.specs.Codes.{asked_code, grid_code}
use Rattle.pf_query.specs.declared.job.Hand.{Hand}
use Rattle.pf_query.specs.declared.stop.Stop.{Stop}
use Rattle.pf_query.specs.declared.stop.Stop.TheVariants.{Cancelled, Exhausted, Starved}
use Rattle.pf_results.specs.Entries.{results_code}
use Rattle.pf_core.specs.Cores.{CoreData}
use Rattle.pf_core.specs.Jobs.{QueueHeads}
use Rattle.pf_core.specs.Progress.{QueryProgress}

abbrev pub row_code : Coded Row
row_code =
    code_by (Pairs × (ℕ × ℤ)) (coded× (coded_list (coded× bytes_code bytes_code)) (coded× coded_ℕ coded_ℤ))
    (λ r. (r.labels, (r.time, r.value))) (λ p. record { labels = p.0; time = p.1.0; value = p.1.1 }) (λ _. refl)

abbrev pub batch_code : Coded BatchData
batch_code =
    code_by (List Row × ℕ) (coded× (coded_list row_code) coded_ℕ) (λ b. (b.rows, b.skipped))
    (λ p. record { rows = p.0; skipped = p.1 }) (λ _. refl)

abbrev pub verdict_parts : Verdict → ℕ × (ℕ × ℤ)
verdict_parts taken = (0, (0, pos 0))
verdict_parts (too_old floor) = (1, (floor, pos 0))
verdict_parts repeated = (2, (0, pos 0))
verdict_parts (differs held) = (3, (0, held))

abbrev pub verdict_from : ℕ × (ℕ × ℤ) → Verdict
verdict_from p = cond (nat_eq p.0 0) taken (cond (nat_eq p.0 1) (too_old p.1.0) (cond (nat_eq p.0 2) repeated (differs p.1.1)))

pub verdict_back : (v : Verdict) → verdict_from (verdict_parts v) ≡ v
verdict_back taken = refl
verdict_back (too_old floor) = refl
verdict_back repeated = refl
verdict_back (differs held) = refl

abbrev pub verdict_code : Coded Verdict
verdict_code = code_by (ℕ × (ℕ × ℤ)) (coded× coded_ℕ (coded× coded_ℕ coded_ℤ)) verdict_parts verdict_from verdict_back

-- what stands in an append, a deletion, an ask and an answer
abbrev pub Appended : Type 0
Appended = ℕ × (BatchData × (List Verdict × ℕ))

abbrev pub Removed : Type 0
Removed = ℕ × (List Matcher × (ℕ × (ℕ × (ℕ × ℕ))))

abbrev pub Wanted : Type 0
Wanted = ℕ × (Asked × (ℕ × (ℕ × Option ℕ)))

abbrev pub Answered : Type 0
Answered = ℕ × (ℕ × (ℕ × ℕ))

abbrev pub WhatParts : Type 0
WhatParts = Appended ⊎ (Removed ⊎ (Wanted ⊎ ((ℕ × ℕ) ⊎ (List ℕ ⊎ (ℕ ⊎ Answered)))))

abbrev pub what_parts : What → WhatParts
what_parts (append tenant batch verdicts entry) = inl (tenant, (batch, (verdicts, entry)))
what_parts (delete tenant matchers from to generation entry) = inr (inl (tenant, (matchers, (from, (to, (generation, entry))))))
what_parts (ask tenant asked pin generation floor) = inr (inr (inl (tenant, (asked, (pin, (generation, floor))))))
what_parts (full tenant outstanding) = inr (inr (inr (inl (tenant, outstanding))))
what_parts (no_tenant name) = inr (inr (inr (inr (inl name))))
what_parts (cancel query) = inr (inr (inr (inr (inr (inl query)))))
what_parts (answer query code cached evaluated) = inr (inr (inr (inr (inr (inr (query, (code, (cached, evaluated))))))))

abbrev pub what_from : WhatParts → What
what_from (inl p) = append p.0 p.1.0 p.1.1.0 p.1.1.1
what_from (inr (inl p)) = delete p.0 p.1.0 p.1.1.0 p.1.1.1.0 p.1.1.1.1.0 p.1.1.1.1.1
what_from (inr (inr (inl p))) = ask p.0 p.1.0 p.1.1.0 p.1.1.1.0 p.1.1.1.1
what_from (inr (inr (inr (inl p)))) = full p.0 p.1
what_from (inr (inr (inr (inr (inl name))))) = no_tenant name
what_from (inr (inr (inr (inr (inr (inl query)))))) = cancel query
what_from (inr (inr (inr (inr (inr (inr p)))))) = answer p.0 p.1.0 p.1.1.0 p.1.1.1

pub what_back : (w : What) → what_from (what_parts w) ≡ w
what_back (append tenant batch verdicts entry) = refl
what_back (delete tenant matchers from to generation entry) = refl
what_back (ask tenant asked pin generation floor) = refl
what_back (full tenant outstanding) = refl
what_back (no_tenant name) = refl
what_back (cancel query) = refl
what_back (answer query code cached evaluated) = refl

abbrev pub what_code : Coded What
what_code =
    code_by WhatParts
    (coded⊎ (coded× coded_ℕ (coded× batch_code (coded× (coded_list verdict_code) coded_ℕ)))
    (coded⊎ (coded× coded_ℕ (coded× matchers_code (coded× coded_ℕ (coded× coded_ℕ (coded× coded_ℕ coded_ℕ)))))
    (coded⊎ (coded× coded_ℕ (coded× asked_code (coded× coded_ℕ (coded× coded_ℕ (coded_option coded_ℕ)))))
    (coded⊎ (coded× coded_ℕ coded_ℕ)
    (coded⊎ bytes_code
    (coded⊎ coded_ℕ (coded× coded_ℕ (coded× coded_ℕ (coded× coded_ℕ coded_ℕ)))))))))
    what_parts what_from what_back

abbrev pub entry_code : Coded Entry
entry_code =
    code_by (ℕ × (ℕ × What)) (coded× coded_ℕ (coded× coded_ℕ what_code)) (λ e. (e.client, (e.line, e.what)))
    (λ p. record { client = p.0; line = p.1.0; what = p.1.1 }) (λ _. refl)

abbrev pub limits_code : Coded Limits
limits_code =
    code_by (ℕ × (ℕ × (ℕ × (ℕ × (ℕ × ℕ)))))
    (coded× coded_ℕ (coded× coded_ℕ (coded× coded_ℕ (coded× coded_ℕ (coded× coded_ℕ coded_ℕ)))))
    (λ l. (l.outstanding, (l.window, (l.interval, (l.shards, (l.extents, l.journal))))))
    (λ p. record { outstanding = p.0; window = p.1.0; interval = p.1.1.0; shards = p.1.1.1.0; extents = p.1.1.1.1.0; journal = p.1.1.1.1.1 })
    (λ _. refl)

abbrev pub head_code : Coded JobHead
head_code =
    code_by (ℕ × (ℕ × (ℕ × (ℕ × (ℕ × (ℕ × ℕ))))))
    (coded× coded_ℕ (coded× coded_ℕ (coded× coded_ℕ (coded× coded_ℕ (coded× coded_ℕ (coded× coded_ℕ coded_ℕ))))))
    (λ h. (h.tenant, (h.query, (h.job, (h.leg, (h.first, (h.last, h.tries)))))))
    (λ p. record { tenant = p.0; query = p.1.0; job = p.1.1.0; leg = p.1.1.1.0; first = p.1.1.1.1.0; last = p.1.1.1.1.1.0; tries = p.1.1.1.1.1.1 })
    (λ _. refl)

abbrev pub hand_code : Coded Hand
hand_code = code_by (JobHead × ℕ) (coded× head_code coded_ℕ) (λ h. (h.head, h.actor)) (λ p. record { head = p.0; actor = p.1 }) (λ _. refl)

abbrev pub queue_code : Coded QueueHeads
queue_code =
    code_by (List JobHead × List Hand) (coded× (coded_list head_code) (coded_list hand_code)) (λ q. (q.waiting, q.hands))
    (λ p. record { waiting = p.0; hands = p.1 }) (λ _. refl)

abbrev pub stop_parts : Stop → ℕ × ℕ
stop_parts (Cancelled place) = (0, place)
stop_parts (Exhausted job) = (1, job)
stop_parts Starved = (2, 0)

abbrev pub stop_from : ℕ × ℕ → Stop
stop_from p = cond (nat_eq p.0 0) (Cancelled p.1) (cond (nat_eq p.0 1) (Exhausted p.1) Starved)

pub stop_back : (s : Stop) → stop_from (stop_parts s) ≡ s
stop_back (Cancelled place) = refl
stop_back (Exhausted job) = refl
stop_back Starved = refl

abbrev pub stop_code : Coded Stop
stop_code = code_by (ℕ × ℕ) (coded× coded_ℕ coded_ℕ) stop_parts stop_from stop_back

abbrev pub progress_code : Coded QueryProgress
progress_code =
    code_by (ℕ × (Option Stop × (Bool × (Bool × (List GridData × (ℕ × (Bool × ℕ)))))))
    (coded× coded_ℕ (coded× (coded_option stop_code) (coded× coded_bool (coded× coded_bool (coded× (coded_list grid_code) (coded× coded_ℕ (coded× coded_bool coded_ℕ)))))))
    (λ p. (p.query, (p.stop, (p.planned, (p.given, (p.runs, (p.cached, (p.offered, p.tried))))))))
    (λ p. record { query = p.0; stop = p.1.0; planned = p.1.1.0; given = p.1.1.1.0; runs = p.1.1.1.1.0; cached = p.1.1.1.1.1.0; offered = p.1.1.1.1.1.1.0; tried = p.1.1.1.1.1.1.1 })
    (λ _. refl)

abbrev pub core_code : Coded CoreData
core_code =
    code_by (Limits × (List (List ℕ) × (List Entry × (List QueryProgress × (List QueueHeads × (List ℕ × (List ℕ × LruCache Key Extents)))))))
    (coded× limits_code (coded× (coded_list bytes_code) (coded× (coded_list entry_code) (coded× (coded_list progress_code) (coded× (coded_list queue_code) (coded× (coded_list coded_ℕ) (coded× (coded_list coded_ℕ) results_code)))))))
    (λ c. (c.limits, (c.names, (c.journal, (c.progress, (c.queues, (c.ring, (c.failed, c.kept))))))))
    (λ p. record { limits = p.0; names = p.1.0; journal = p.1.1.0; progress = p.1.1.1.0; queues = p.1.1.1.1.0; ring = p.1.1.1.1.1.0; failed = p.1.1.1.1.1.1.0; kept = p.1.1.1.1.1.1.1 })
    (λ _. refl)
