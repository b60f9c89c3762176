-- What the entry of an answer tells is what the machine asks of it.
use Rattle.std.proofs.Common.{◌≡◌, ℕ, ◌+◌, ◌-◌, ◌≤◌, inl, inr, Bool, true, false, cond, Option, Some, None, length, refl, sym, ap, ◌∙◌, arith, subst}
use Rattle.std.specs.Arc.{arc_value}
use Rattle.std.specs.Prelude.{IfSome}
use Rattle.pf_base.specs.Grids.{points}
use Rattle.pf_base.specs.declared.plain.Limits.{Limits}
use Rattle.pf_journal.specs.Asking.{Asked}
use Rattle.pf_journal.specs.Machine.{AnswersOpen, AreSteps, CanBeCached, IsCode, Open, open_at}
use Rattle.pf_query.specs.Entries.{cached_steps_of, is_given_out, is_planned}
use Rattle.pf_query.specs.Tables.{EntryData, entry_in, tried_of}
use Rattle.pf_query.specs.Works.{WorkData}
use Rattle.pf_query.specs.declared.stop.Stop.{Stop}
use Rattle.pf_query.specs.declared.stop.Stop.TheVariants.{Cancelled, Exhausted, Starved}
use Rattle.pf_core.specs.Calls.{IsAnswerable, IsCodeBy, cached_by, cached_of, evaluated_by, evaluated_of}
use Rattle.pf_core.specs.Cores.{CoreData, IsOpened, machine_of}
use Rattle.pf_core.specs.Progress.{GoesWithPlan, QueryProgress, cancel_in, progress_at}
use Rattle.pf_core.specs.States.{IsEntryOf, IsState, IsWorkOf, core_of, far_of, machine_in}
use Rattle.pf_core.specs.declared.answers.Opened.{Opened}
use Rattle.pf_core.specs.declared.state.State.{State}
use Rattle.pf_core.proofs.Outstanding.{entry_there}
use Rattle.pf_core.proofs.Progressing.{far_at}

-- it is open
pub never_closed : (c : CoreData) (query code : ℕ) → IsAnswerable c query code → open_at query (machine_of c).queries ≡ None → ⊥
never_closed c query code may none = let there = may.opened.is_open in cc

-- its code
code_by : (l : Limits) (o : Open) (given : Bool) (stop : Option Stop) (code : ℕ) → IsCodeBy l o given stop code → IsCode l o (cancel_in stop) code
code_by l o given None code h = inl h.1
code_by l o given (Some (Cancelled place)) code h = h
code_by l o given (Some (Exhausted job)) code h = inr (inl h)
code_by l o given (Some Starved) code h = inr (inr h)

-- its steps
steps_by : (l : Limits) (o : Open) (given planned : Bool) (stop : Option Stop) (code steps cached n : ℕ) → IsCodeBy l o given stop code → GoesWithPlan stop planned
    → (given ≡ true → planned ≡ true) → (planned ≡ false → cached ≡ 0) → cached ≤ steps → n ≡ cond planned (steps - cached) 0 → AreSteps steps code (cached + n)
steps_by l o given true stop code steps cached n h g p none few e = inl (omega (arith, e, few))
steps_by l o given false None code steps cached n h g p none few e = let no = p h.0 in cc
steps_by l o given false (Some (Cancelled place)) code steps cached n h g p none few e = let zero = none refl in inr (omega (arith, e, zero), inl h)
steps_by l o given false (Some (Exhausted job)) code steps cached n h g p none few e = cc
steps_by l o given false (Some Starved) code steps cached n h g p none few e = let zero = none refl in inr (omega (arith, e, zero), inr h)

-- parts are handed out of planned queries alone
given_planned : (query : ℕ) (e : Option EntryData) (n : ℕ) → (far_of query e n).given ≡ true → (far_of query e n).planned ≡ true
given_planned query None n h = h
given_planned query (Some e) n h = by e.work h where
  by : (w : Option WorkData) → is_given_out w ≡ true → is_planned w ≡ true
  by None h = h
  by (Some w) h = refl

-- and their steps are cached
unplanned_none : (query : ℕ) (e : Option EntryData) (n : ℕ) → (far_of query e n).planned ≡ false → (far_of query e n).cached ≡ 0
unplanned_none query None n h = refl
unplanned_none query (Some e) n h = by e.work h where
  by : (w : Option WorkData) → is_planned w ≡ false → cached_steps_of w ≡ 0
  by None h = refl
  by (Some w) h = cc

-- a query that is stopped by a job was planned
goes_kept : (s : State) (query : ℕ) (o : Open) → IsState s → open_at query (machine_in s).queries ≡ Some o
    → GoesWithPlan (far_of query (entry_in s.table query) (tried_of s.table query)).stop (far_of query (entry_in s.table query) (tried_of s.table query)).planned
goes_kept s query o h there =
    let e = entry_there s.limits (open_at query (machine_in s).queries) (entry_in s.table query) o (h.jobs.outstanding query) there in
    subst (λ (x : Option EntryData). GoesWithPlan (far_of query x (tried_of s.table query)).stop (far_of query x (tried_of s.table query)).planned) (sym e.there)
    e.is.stopped_when

-- at most all are
few_by : (l : Limits) (query : ℕ) (o : Open) (d : EntryData) (n : ℕ) → IsEntryOf l o d
    → (far_of query (Some d) n).cached ≤ length (points o.asked.query.grid)
few_by l query o d n h = by d.work h.work where
  by : (w : Option WorkData) → IfSome w (IsWorkOf l o) → cached_steps_of w ≤ length (points o.asked.query.grid)
  by None k = omega arith
  by (Some w) k = k.few

few_cached : (s : State) (query : ℕ) (o : Open) → IsState s → open_at query (machine_in s).queries ≡ Some o
    → (far_of query (entry_in s.table query) (tried_of s.table query)).cached ≤ length (points o.asked.query.grid)
few_cached s query o h there =
    let e = entry_there s.limits (open_at query (machine_in s).queries) (entry_in s.table query) o (h.jobs.outstanding query) there in
    subst (λ (x : Option EntryData). (far_of query x (tried_of s.table query)).cached ≤ length (points o.asked.query.grid)) (sym e.there)
    (few_by s.limits query o e.kept (tried_of s.table query) e.is)

-- and no more than may be
reused_by : (l : Limits) (query : ℕ) (o : Open) (d : EntryData) (n : ℕ) → IsEntryOf l o d → CanBeCached l o (far_of query (Some d) n).cached
reused_by l query o d n h = by d.work h.work where
  by : (w : Option WorkData) → IfSome w (IsWorkOf l o) → CanBeCached l o (cached_steps_of w)
  by None k = record { at_once = λ _. refl; frozen = omega arith }
  by (Some w) k = k.reused

reused_so : (s : State) (query : ℕ) (o : Open) → IsState s → open_at query (machine_in s).queries ≡ Some o
    → CanBeCached s.limits o (far_of query (entry_in s.table query) (tried_of s.table query)).cached
reused_so s query o h there =
    let e = entry_there s.limits (open_at query (machine_in s).queries) (entry_in s.table query) o (h.jobs.outstanding query) there in
    subst (λ (x : Option EntryData). CanBeCached s.limits o (far_of query x (tried_of s.table query)).cached) (sym e.there)
    (reused_by s.limits query o e.kept (tried_of s.table query) e.is)

-- how far an open query is, by the table
pub far_kept : (s : State) (query : ℕ) (o : Open) (far : QueryProgress) → open_at query (machine_in s).queries ≡ Some o
    → progress_at query (core_of s).progress ≡ Some far → far ≡ far_of query (entry_in s.table query) (tried_of s.table query)
far_kept s query o far there is =
    let both : Some far ≡ Some (far_of query (entry_in s.table query) (tried_of s.table query)) =
    sym is ∙ far_at query (machine_in s).queries (entry_in s.table) (tried_of s.table) o there in cc

pub few_opened : (s : State) (query : ℕ) (o : Opened) → IsState s → IsOpened (core_of s) query o → o.cached ≤ length (points (arc_value o.asked.now).query.grid)
few_opened s query o h is =
    let few = few_cached s query is.opened h is.is_open in
    let same = ap (λ (p : QueryProgress). p.cached) (far_kept s query is.opened is.far is.is_open is.is_far) in
    let told = is.cached in
    let grid = ap (λ (a : Asked). length (points a.query.grid)) is.asked in
    omega (arith, few, same, told, grid)

pub answers_right : (s : State) (query code evaluated : ℕ) (o : Opened) → IsState s → IsAnswerable (core_of s) query code → IsOpened (core_of s) query o
    → evaluated ≡ cond o.planned (length (points (arc_value o.asked.now).query.grid) - o.cached) 0
    → ((o.cached ≡ cached_of (core_of s) query) × (evaluated ≡ evaluated_of (core_of s) query))
    × AnswersOpen s.limits (open_at query (machine_in s).queries) code o.cached evaluated
answers_right s query code evaluated o h may is e =
    let m = may.opened in
    let both : Some m.opened ≡ Some is.opened = sym m.is_open ∙ is.is_open in
    let same : m.opened ≡ is.opened = cc in
    let fars : Some m.far ≡ Some is.far = sym m.is_far ∙ is.is_far in
    let same_far : m.far ≡ is.far = cc in
    let kept : m.far ≡ far_of query (entry_in s.table query) (tried_of s.table query) = far_kept s query m.opened m.far m.is_open m.is_far in
    let cached : o.cached ≡ m.far.cached = sym is.cached ∙ ap (λ (x : QueryProgress). x.cached) (sym same_far) in
    let all : evaluated ≡ cond m.far.planned (length (points m.opened.asked.query.grid) - m.far.cached) 0 =
    e
    ∙ (λ i. cond (sym is.planned i) (length (points (sym is.asked i).query.grid) - sym is.cached i) 0)
    ∙ (λ i. cond (sym same_far i).planned (length (points (sym same i).asked.query.grid) - (sym same_far i).cached) 0) in
    let coded : IsCode s.limits m.opened m.opened.cancelled code =
    subst (λ (x : Option ℕ). IsCode s.limits m.opened x code) (sym m.cancelled_at) (code_by s.limits m.opened m.far.given may.stop code may.coded) in
    let goes : GoesWithPlan may.stop m.far.planned =
    subst (λ (x : Option Stop). GoesWithPlan x m.far.planned) m.stop_is
    (subst (λ (x : QueryProgress). GoesWithPlan x.stop x.planned) (sym kept) (goes_kept s query m.opened h m.is_open)) in
    let stepped : AreSteps (length (points m.opened.asked.query.grid)) code (m.far.cached + evaluated) =
    steps_by s.limits m.opened m.far.given m.far.planned may.stop code (length (points m.opened.asked.query.grid)) m.far.cached evaluated may.coded goes
    (subst (λ (x : QueryProgress). x.given ≡ true → x.planned ≡ true) (sym kept) (given_planned query (entry_in s.table query) (tried_of s.table query)))
    (subst (λ (x : QueryProgress). x.planned ≡ false → x.cached ≡ 0) (sym kept) (unplanned_none query (entry_in s.table query) (tried_of s.table query)))
    (subst (λ (x : QueryProgress). x.cached ≤ length (points m.opened.asked.query.grid)) (sym kept) (few_cached s query m.opened h m.is_open)) all in
    let reused : CanBeCached s.limits m.opened m.far.cached =
    subst (λ (x : QueryProgress). CanBeCached s.limits m.opened x.cached) (sym kept) (reused_so s query m.opened h m.is_open) in (
      (cached ∙ sym (ap cached_by m.is_far), all ∙ sym (λ i. evaluated_by (m.is_open i) (m.is_far i))),
      subst (λ n. AnswersOpen s.limits (open_at query (machine_in s).queries) code n evaluated) (sym cached)
          (subst (λ (x : Option Open). AnswersOpen s.limits x code m.far.cached evaluated) (sym m.is_open) (record { coded = coded; stepped = stepped; reused = reused })),
    )
