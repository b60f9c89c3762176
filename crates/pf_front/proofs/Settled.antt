-- How an open query is settled, and answered.
use Rattle.std.proofs.Common.{◌≡◌, ◌⊎◌, inl, inr, ℕ, ◌+◌, ◌-◌, ◌<◌, ◌≤◌, Bool, true, false, cond, not, Option, None, Some, List, [], ◌∷◌, length, refl, sym, ap, ◌∙◌, arith, subst}
use Rattle.std.specs.Prelude.{slice_index_or}
use Rattle.std.proofs.lemmas.Bool.{false≢true}
use Rattle.std.proofs.lemmas.Bool.Decides.{nat_tests}
use Rattle.pf_base.specs.Grids.{points}
use Rattle.pf_base.specs.declared.plain.By.{By}
use Rattle.pf_base.specs.declared.plain.JobHead.{JobHead}
use Rattle.pf_base.specs.declared.plain.Limits.{Limits}
use Rattle.pf_core.specs.Calls.{IsAnswerable, IsGathered, IsHandedOut, IsLacked, IsOpenWith, IsStoppedBy, IsWhole, cached_by, cached_of, evaluated_by, evaluated_of}
use Rattle.pf_core.specs.Calls as calls
use Rattle.pf_core.specs.Cores.{AreClosed, AreServed, CoreData, Enters, IsOpened, Stands, machine_of, queue_at, queued_of}
use Rattle.pf_core.specs.declared.answers.Opened.{Opened}
use Rattle.pf_core.specs.Jobs.{QueueHeads, heads_with, no_heads}
use Rattle.pf_core.specs.Progress.{GoesWithPlan, QueryProgress, cancel_in, handed_out, progress_at, stopped}
use Rattle.pf_front.proofs.Plans.{lacked_works}
use Rattle.pf_front.proofs.Progress.{at_changed, not_none, progress_of, some_is}
use Rattle.pf_front.proofs.Tries.{same_failed, same_sum, works_behind, works_refl}
use Rattle.pf_front.specs.Answers.{GoesWithStop, IsAnswered, IsInHands, IsOutcomeOf, IsReplied, IsReplyOf, code_in}
use Rattle.pf_front.specs.Settling.{HasParts, IsBegun, IsEvaluable, IsFound, IsOffered, IsSettled, IsWorkedOff, some_waits, stopped_as}
use Rattle.pf_front.specs.Works.{WorksOn}
use Rattle.pf_front.specs.declared.answering.Answering.{Answering}
use Rattle.pf_front.specs.declared.answering.Answering.TheVariants.{Waits, Answered}
use Rattle.pf_front.specs.declared.answering.Reply.{Reply}
use Rattle.pf_front.specs.declared.outcome.Outcome.{Outcome}
use Rattle.pf_front.specs.declared.outcome.Outcome.TheVariants as outcome
use Rattle.pf_journal.specs.Legal.{machine_after}
use Rattle.pf_journal.specs.Machine.{AreSteps, CanBeUnplanned, Entry, Open, answer, answer_of, code_of, open_at, started}
use Rattle.pf_model.specs.Direct.{Answer, MatrixRow, failed, gathered}
use Rattle.pf_model.specs.declared.cell.ErrorKind.{ErrorKind}
use Rattle.pf_query.specs.Entries.{stop_after}
use Rattle.pf_query.specs.Jobs.{is_empty}
use Rattle.pf_query.specs.declared.answers.Collected.{Collected}
use Rattle.pf_query.specs.declared.answers.Collected.TheVariants as collected
use Rattle.pf_query.specs.declared.gathered.Gathered.{Gathered}
use Rattle.pf_query.specs.declared.stop.Stop.{Stop}
use Rattle.pf_query.specs.declared.stop.Stop.TheVariants.{Cancelled, Exhausted, Starved}

-- ---- a job of a query that waits is in the ring

some_head : (query : ℕ) (hs : List JobHead) → 0 < heads_with query hs → is_empty hs ≡ false
some_head query [] h = absurd (omega (arith, h))
some_head query (x ∷ xs) h = refl

pub some_in_ring : (c : CoreData) (u query : ℕ) → AreServed c → 0 < queued_of c u query → c.ring ≡ [] → ⊥
some_in_ring c u query s h e =
    let none = rw e at (s.in_ring u) in
    false≢true (none ∙ ap not (some_head query (queue_at c u).waiting h))

-- ---- what is told

-- where a job waits nothing is changed, and the ring isn't empty
pub one_waits : (old : CoreData) (query : ℕ) (told : Collected) (new : CoreData) → some_waits told ≡ true → AreServed new → calls.IsTold old query told new
    → (new ≡ old) × (new.ring ≡ [] → ⊥)
one_waits old query (collected.Stopped why) new w s t = absurd (false≢true w)
one_waits old query collected.Unplanned new w s t = absurd (false≢true w)
one_waits old query (collected.Waiting queued in_hand) new w s t =
    let some : 0 < queued = grind (arith, nat_tests, w) in
    let here : 0 < queued_of old t.0.whole.opened.tenant query = subst (λ (n : ℕ). 0 < n) t.0.queued_is some in
    (t.1.1, some_in_ring new t.0.whole.opened.tenant query s (subst (λ (c : CoreData). 0 < queued_of c t.0.whole.opened.tenant query) (sym t.1.1) here))
one_waits old query collected.Given new w s t = absurd (false≢true w)
one_waits old query (collected.Parts g) new w s t = absurd (false≢true w)

-- the same fact of an open query over a core of the same history
pub open_over : (old new : CoreData) (query : ℕ) (o : Open) → new.journal ≡ old.journal → open_at query (machine_of old).queries ≡ Some o → open_at query (machine_of new).queries ≡ Some o
open_over old new query o e there = subst (λ (j : List Entry). open_at query (machine_after started j).queries ≡ Some o) (sym e) there

unbegun : (c : CoreData) (query : ℕ) → IsBegun c query → calls.IsUnbegun c query → ⊥
unbegun c query b u = by b.begun where
  same : b.far ≡ u.whole.far
  same = some_is b.far u.whole.far (sym b.is_far ∙ u.whole.is_far)

  by : (b.far.planned ≡ true) ⊎ ((why : Stop) × (b.far.stop ≡ Some why)) → ⊥
  by (inl p) = false≢true (sym u.unplanned ∙ ap (λ (f : QueryProgress). f.planned) (sym same) ∙ p)
  by (inr (why, s)) = not_none why b.far.stop (ap (λ (f : QueryProgress). f.stop) same ∙ u.whole.stop_is) s

-- what is handed out stays so
pub handed : (before after : ℕ) (start old : CoreData) (query : ℕ) (g : Gathered) (new : CoreData) → WorksOn before after start old → IsGathered old query g → IsHandedOut old query new
    → IsWorkedOff before after start query (collected.Parts g) new
handed before after start old query g new w parts out =
    let whole = parts.counts.whole in
    let there : open_at query (machine_of new).queries ≡ Some whole.opened = open_over old new query whole.opened out.history.journal whole.is_open in
    let far : progress_at query new.progress ≡ Some (handed_out whole.far) =
    ap (progress_at query) out.progress_is ∙ at_changed query handed_out (λ p. refl) old.progress whole.far whole.is_far in
    let has : HasParts new (Some whole.opened) g = rw out.history.limits parts.parts in (
      works_behind start old new w (record {
        history = out.history;
        hands = λ u. ap (λ (qs : List QueueHeads). (slice_index_or qs u no_heads).hands) out.jobs.queues;
        failed = same_sum old.failed new.failed out.jobs.failed;
        carried = same_failed old new out.jobs.failed;
      }),
      (
        record {
          whole = record { opened = whole.opened; is_open = there; cancelled_at = whole.cancelled_at; far = handed_out whole.far; is_far = far; stop_is = whole.stop_is };
          was_planned = parts.counts.was_planned;
          given = refl;
        },
        parts.runs_are,
        subst (λ (o : Option Open). HasParts new o g) (sym there) has,
      ),
    )

-- what is told once no job of the query waits
pub worked_off : (before after : ℕ) (start old : CoreData) (query : ℕ) (told : Collected) (new : CoreData) → WorksOn before after start old → IsBegun old query → some_waits told ≡ false
    → calls.IsTold old query told new → IsWorkedOff before after start query told new
worked_off before after start old query (collected.Stopped why) new w b none t =
    subst (λ (c : CoreData). IsWorkedOff before after start query (collected.Stopped why) c) (sym t.1) (w, t.0)
worked_off before after start old query collected.Unplanned new w b none t = unbegun old query b t.0
worked_off before after start old query (collected.Waiting queued in_hand) new w b none t =
    let zero : queued ≡ 0 = grind (arith, nat_tests, none) in
    let some : 0 < in_hand = let more = t.1.0 in omega (arith, zero, more) in
    subst (λ (c : CoreData). IsInHands before after start query in_hand c) (sym t.1.1)
    (record { works = w; whole = t.0.whole; none_waits = sym t.0.queued_is ∙ zero; jobs_are = t.0.in_hand_is; some = some })
worked_off before after start old query collected.Given new w b none t =
    subst (λ (c : CoreData). IsWorkedOff before after start query collected.Given c) (sym t.1)
    (w, record { whole = t.0.counts.whole; was_planned = t.0.counts.was_planned; given = t.0.given })
worked_off before after start old query (collected.Parts g) new w b none t = handed before after start old query g new w t.0 t.1

-- the works behind, and what is told
pub parted : {before after : ℕ} (start : CoreData) (query : ℕ) (told : Collected) (new : CoreData) → IsWorkedOff before after start query told new
    → WorksOn before after start new × IsWorkedOff 0 0 new query told new
parted start query (collected.Stopped why) new t = (t.0, (works_refl new, t.1))
parted start query collected.Unplanned new t = absurd t
parted start query (collected.Waiting queued in_hand) new t =
    (t.works, record { works = works_refl new; whole = t.whole; none_waits = t.none_waits; jobs_are = t.jobs_are; some = t.some })
parted start query collected.Given new t = (t.0, (works_refl new, t.1))
parted start query (collected.Parts g) new t = (t.0, (works_refl new, t.1))

-- ---- what comes out

outcome_found : (l : Limits) (o : Open) (f : Outcome) → o.cancelled ≡ None → IsFound (answer_of l o) f → IsOutcomeOf l o f
outcome_found l o (outcome.Matrix rows) un f = (un, f)
outcome_found l o (outcome.Failed step kind) un f = (un, f)
outcome_found l o outcome.Cancelled un f = absurd f
outcome_found l o (outcome.Exhausted job) un f = absurd f
outcome_found l o outcome.Starved un f = absurd f

stop_found : (c : CoreData) (query : ℕ) (a : Answer) (f : Outcome) → IsWhole c query → IsFound a f → GoesWithStop c query f
stop_found c query a (outcome.Matrix rows) w f = w
stop_found c query a (outcome.Failed step kind) w f = w
stop_found c query a outcome.Cancelled w f = absurd f
stop_found c query a (outcome.Exhausted job) w f = absurd f
stop_found c query a outcome.Starved w f = absurd f

code_found : (a : Answer) (f : Outcome) → IsFound a f → code_in f ≡ code_of a
code_found a (outcome.Matrix rows) f = ap code_of (sym f)
code_found a (outcome.Failed step kind) f = ap code_of (sym f)
code_found a outcome.Cancelled f = absurd f
code_found a (outcome.Exhausted job) f = absurd f
code_found a outcome.Starved f = absurd f

-- how many steps of a query that is open were cached and evaluated
pub cached_at : (c : CoreData) (query : ℕ) (far : QueryProgress) → progress_at query c.progress ≡ Some far → cached_of c query ≡ far.cached
cached_at c query far is = ap cached_by is

evaluated_at : (c : CoreData) (query : ℕ) (o : Open) (far : QueryProgress) → open_at query (machine_of c).queries ≡ Some o → progress_at query c.progress ≡ Some far
    → evaluated_of c query ≡ cond far.planned (length (points o.asked.query.grid) - far.cached) 0
evaluated_at c query o far there is = ap (λ (x : Option Open). evaluated_by x (progress_at query c.progress)) there ∙ ap (evaluated_by (Some o)) is

pub evaluated_rest : (c : CoreData) (query : ℕ) (o : Open) (far : QueryProgress) → open_at query (machine_of c).queries ≡ Some o → progress_at query c.progress ≡ Some far
    → far.planned ≡ true → evaluated_of c query ≡ length (points o.asked.query.grid) - far.cached
evaluated_rest c query o far there is p = evaluated_at c query o far there is ∙ ap (λ (b : Bool). cond b (length (points o.asked.query.grid) - far.cached) 0) p

pub evaluated_none : (c : CoreData) (query : ℕ) (o : Open) (far : QueryProgress) → open_at query (machine_of c).queries ≡ Some o → progress_at query c.progress ≡ Some far
    → far.planned ≡ false → evaluated_of c query ≡ 0
evaluated_none c query o far there is p = evaluated_at c query o far there is ∙ ap (λ (b : Bool). cond b (length (points o.asked.query.grid) - far.cached) 0) p

-- at most all were cached
pub cached_within : (c : CoreData) (query : ℕ) (o : Opened) (is : IsOpened c query o) → Stands c → o.cached ≤ length (points is.opened.asked.query.grid)
cached_within c query o is s =
    let few = (progress_of c.limits query (machine_of c).queries c.progress is.opened is.far s.progressing is.is_open is.is_far).few in
    let same = is.cached in
    omega (arith, few, same)

-- all of them, once it is planned
all_steps : (c : CoreData) (query : ℕ) (o : Open) (far : QueryProgress) → open_at query (machine_of c).queries ≡ Some o → progress_at query c.progress ≡ Some far
    → Stands c → far.planned ≡ true → cached_of c query + evaluated_of c query ≡ length (points o.asked.query.grid)
all_steps c query o far there is s p =
    let few = (progress_of c.limits query (machine_of c).queries c.progress o far s.progressing there is).few in
    let cached = cached_at c query far is in
    let evaluated = evaluated_rest c query o far there is p in
    omega (arith, few, cached, evaluated)

no_steps : (c : CoreData) (query : ℕ) (o : Open) (far : QueryProgress) → open_at query (machine_of c).queries ≡ Some o → progress_at query c.progress ≡ Some far
    → Stands c → far.planned ≡ false → cached_of c query + evaluated_of c query ≡ 0
no_steps c query o far there is s p =
    let none = (progress_of c.limits query (machine_of c).queries c.progress o far s.progressing there is).none p in
    let cached = cached_at c query far is in
    let evaluated = evaluated_none c query o far there is p in
    omega (arith, none, cached, evaluated)

-- a query that isn't planned has no job that could stop it
unplanned_stop : (why : Stop) → GoesWithPlan (Some why) false → CanBeUnplanned (code_in (stopped_as why))
unplanned_stop (Cancelled place) g = inl refl
unplanned_stop (Exhausted job) g = absurd cc
unplanned_stop Starved g = inr refl

stopped_steps : (c : CoreData) (query : ℕ) (o : Open) (far : QueryProgress) (why : Stop) (b : Bool) → far.planned ≡ b → far.stop ≡ Some why
    → open_at query (machine_of c).queries ≡ Some o → progress_at query c.progress ≡ Some far → Stands c
    → AreSteps (length (points o.asked.query.grid)) (code_in (stopped_as why)) (cached_of c query + evaluated_of c query)
stopped_steps c query o far why true p e there is s = inl (all_steps c query o far there is s p)
stopped_steps c query o far why false p e there is s =
    let goes = (progress_of c.limits query (machine_of c).queries c.progress o far s.progressing there is).stopped_when in
    inr (
      no_steps c query o far there is s p,
      unplanned_stop why
          (subst (λ (x : Option Stop). GoesWithPlan x false) e (subst (GoesWithPlan far.stop) p goes)),
    )

-- a query whose parts were handed out is settled by its answer, with a matrix once it is offered
pub settled_found : (c : CoreData) (query : ℕ) (f : Outcome) (e : IsEvaluable c query) → Stands c → (code_in f ≡ 200 → e.whole.far.offered ≡ true)
    → IsFound (answer_of c.limits e.whole.opened) f → IsSettled c query f
settled_found c query f e s offered found = record {
  opened = e.whole.opened;
  is_open = e.whole.is_open;
  outcome_of = outcome_found c.limits e.whole.opened f e.whole.cancelled_at found;
  stop = stop_found c query (answer_of c.limits e.whole.opened) f e.whole found;
  answerable = record { stop = None; opened = e.whole; coded = (e.given, code_found (answer_of c.limits e.whole.opened) f found); offered = offered };
  steps = inl (all_steps c query e.whole.opened e.whole.far e.whole.is_open e.whole.is_far s e.was_planned);
}

pub settled_failed : (c : CoreData) (query step : ℕ) (kind : ErrorKind) → IsEvaluable c query → Stands c
    → (o : Open) × (open_at query (machine_of c).queries ≡ Some o) × (answer_of c.limits o ≡ failed step kind) → IsSettled c query (outcome.Failed step kind)
settled_failed c query step kind e s (o, there, is) =
    let same : o ≡ e.whole.opened = some_is o e.whole.opened (sym there ∙ e.whole.is_open) in
    settled_found c query (outcome.Failed step kind) e s (λ h. absurd (omega (arith, h))) (ap (answer_of c.limits) (sym same) ∙ is)

pub settled_matrix : (old new : CoreData) (query : ℕ) (rows : List MatrixRow) → WorksOn 0 0 old new → IsOffered new query → Stands new
    → ((o : Open) → open_at query (machine_of old).queries ≡ Some o → answer_of old.limits o ≡ gathered rows) → IsSettled new query (outcome.Matrix rows)
settled_matrix old new query rows w (e, offered) s is =
    settled_found new query (outcome.Matrix rows) e s (λ h. offered)
    (ap (λ (l : Limits). answer_of l e.whole.opened) w.history.limits
    ∙ is e.whole.opened (open_over new old query e.whole.opened (sym w.history.journal) e.whole.is_open))

-- a query that is stopped, by why
outcome_stopped : (l : Limits) (o : Open) (why : Stop) → o.cancelled ≡ cancel_in (Some why) → IsOutcomeOf l o (stopped_as why)
outcome_stopped l o (Cancelled place) e = (place, e)
outcome_stopped l o (Exhausted job) e = e
outcome_stopped l o Starved e = e

stop_stopped : (c : CoreData) (query : ℕ) (why : Stop) → IsStoppedBy c query why → GoesWithStop c query (stopped_as why)
stop_stopped c query (Cancelled place) s = (place, s)
stop_stopped c query (Exhausted job) s = s
stop_stopped c query Starved s = s

code_stopped : (l : Limits) (o : Open) (given : Bool) (why : Stop) → calls.IsCodeBy l o given (Some why) (code_in (stopped_as why))
code_stopped l o given (Cancelled place) = refl
code_stopped l o given (Exhausted job) = refl
code_stopped l o given Starved = refl

pub settled_stopped : (c : CoreData) (query : ℕ) (why : Stop) → Stands c → IsStoppedBy c query why → IsSettled c query (stopped_as why)
settled_stopped c query why stands s = record {
  opened = s.opened;
  is_open = s.is_open;
  outcome_of = outcome_stopped c.limits s.opened why s.cancelled_at;
  stop = stop_stopped c query why s;
  answerable = record {
    stop = Some why;
    opened = s;
    coded = code_stopped c.limits s.opened s.far.given why;
    offered = λ h. absurd (never why h);
  };
  steps = stopped_steps c query s.opened s.far why s.far.planned refl s.stop_is s.is_open s.is_far stands;
} where
  never : (why : Stop) → code_in (stopped_as why) ≡ 200 → ⊥
  never (Cancelled place) h = omega (arith, h)
  never (Exhausted job) h = omega (arith, h)
  never Starved h = omega (arith, h)

-- for want of memory
pub starved : (old : CoreData) (query : ℕ) (new : CoreData) → IsWhole old query → IsLacked old query new → IsStoppedBy new query Starved
starved old query new w l =
    let s = l.some w.opened w.is_open in
    record {
      opened = w.opened;
      is_open = open_over old new query w.opened s.history.journal w.is_open;
      cancelled_at = w.cancelled_at;
      far = stopped Starved w.far;
      is_far = ap (progress_at query) s.progress_is ∙ at_changed query (stopped Starved) (λ p. refl) old.progress w.far w.is_far;
      stop_is = ap (λ (x : Option Stop). Some (stop_after x Starved)) w.stop_is;
    }

pub settled_starved : (old : CoreData) (query : ℕ) (new : CoreData) → IsEvaluable old query → Stands new → IsLacked old query new → WorksOn 0 0 old new × IsSettled new query outcome.Starved
settled_starved old query new e s l =
    (lacked_works old query new e.whole.opened e.whole.is_open l, settled_stopped new query Starved s (starved old query new e.whole l))

-- ---- the answer

pub replied : (c : CoreData) (by : By) (query : ℕ) (r : Reply) (new : CoreData) → IsSettled c query r.outcome → r.code ≡ code_in r.outcome → r.cached ≡ cached_of c query
    → r.evaluated ≡ evaluated_of c query → Enters c by (answer query r.code (cached_of c query) (evaluated_of c query)) new → AreClosed c query new → IsReplied 0 0 c by query r new
replied c by query r new s code cached evaluated entered closed = record {
  opened = s.opened;
  is_open = s.is_open;
  middle = c;
  works = works_refl c;
  stop = s.stop;
  cached = cached;
  evaluated = evaluated;
  entered = rw cached (rw evaluated entered);
  closed = closed;
  is = record { coded = code; outcome_of = s.outcome_of; steps = rw cached (rw evaluated (rw code s.steps)) };
}

-- what is answered behind works
pub answered_behind : {before after : ℕ} (old mid : CoreData) (by : By) (query : ℕ) (a : Answering) (new : CoreData) → WorksOn before after old mid
    → IsAnswered 0 0 mid by query a new → IsAnswered before after old by query a new
answered_behind old mid by query (Waits jobs) new w a =
    record { works = works_behind old mid new w a.works; whole = a.whole; none_waits = a.none_waits; jobs_are = a.jobs_are; some = a.some }
answered_behind old mid by query (Answered r) new w a = record {
  opened = a.opened;
  is_open = open_over mid old query a.opened (sym w.history.journal) a.is_open;
  middle = a.middle;
  works = works_behind old mid a.middle w a.works;
  stop = a.stop;
  cached = a.cached;
  evaluated = a.evaluated;
  entered = a.entered;
  closed = a.closed;
  is = subst (λ (l : Limits). IsReplyOf l a.opened r) w.history.limits a.is;
}
