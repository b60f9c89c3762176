-- What a plan leaves.
use Rattle.std.proofs.Common.{◌≡◌, inl, inr, ℕ, Option, None, Some, List, IsSome, IfErr, IfOk, refl, sym, ap, ◌∙◌, subst}
use Rattle.std.specs.Prelude.{Result, Ok, Err}
use Rattle.std.proofs.lemmas.Bool.{false≢true}
use Rattle.pf_base.specs.declared.plain.Limits.{Limits}
use Rattle.pf_block.specs.Snaps.{SnapData}
use Rattle.pf_core.specs.Calls.{BindsOpen, IsLacked, IsPlanned, IsUnplanned, planned_by}
use Rattle.pf_core.specs.Cores.{CoreData, HasQueue, Stands, machine_of, queue_at}
use Rattle.pf_core.specs.Jobs.{QueueHeads, legs_asked}
use Rattle.pf_core.specs.Progress.{QueryProgress, progress_at}
use Rattle.pf_front.proofs.Hands.{by_tenant}
use Rattle.pf_front.proofs.Progress.{at_changed, has_far, is_stopped}
use Rattle.pf_front.proofs.Tries.{same_failed, same_sum, works_refl}
use Rattle.pf_front.specs.Settling.{IsBegun}
use Rattle.pf_front.specs.Works.{IsNotPlanned, WorksOn}
use Rattle.pf_journal.specs.Legal.{machine_after}
use Rattle.pf_journal.specs.Machine.{Entry, Open, open_at, started}
use Rattle.pf_model.specs.Log.{rules_of, store_of}
use Rattle.pf_query.specs.declared.answers.PlanError.{PlanError}
use Rattle.pf_query.specs.declared.answers.PlanError.TheVariants as plan_error
use Rattle.pf_query.specs.declared.answers.Planned.{Planned}
use Rattle.pf_query.specs.declared.stop.Stop.TheVariants.{Starved}
use Rattle.pf_shard.specs.Bound.{AreBoundOver}
use Rattle.pf_shard.specs.Lawful.{IsLawful, ResolvedLegs, legs_data}
use Rattle.pf_store.specs.Standing.{IsPin, PinData, StandsFor}

-- ---- the open query

pub some_open : (o : Option Open) → IsSome o → (x : Open) × (o ≡ Some x)
some_open None h = absurd (false≢true h)
some_open (Some x) h = (x, refl)

pub none_shut : (o : Option Open) → IsSome o → o ≡ None → ⊥
none_shut None h e = false≢true h
none_shut (Some x) h e = cc

-- ---- the legs

-- the legs of an open query over its pin
pub binds_open : (l : Limits) (o : Open) (found : Option Open) (pin : PinData) (legs : ResolvedLegs) (snap : SnapData) → found ≡ Some o
    → IsPin pin (rules_of l) o.log → snap ≡ pin.snap → legs_data legs ≡ legs_asked l.shards o → IsLawful (legs_data legs)
    → AreBoundOver legs snap.labels → BindsOpen l found legs snap
binds_open l o found pin legs snap there p is legs_are lawful bound =
    subst (λ (f : Option Open). BindsOpen l f legs snap) (sym there)
    (record {
      legs_are = legs_are;
      lawful = lawful;
      bound = bound;
      stands = subst (λ (s : SnapData). StandsFor s (store_of (rules_of l) o.log).samples) (sym is) p.samples;
      apart = p.apart;
    })

-- ---- what is left

kept_hands : (old new : CoreData) (u : ℕ) (queue : QueueHeads) (ring : List ℕ) → HasQueue old u queue ring new → queue.hands ≡ (queue_at old u).hands
    → (v : ℕ) → (queue_at new v).hands ≡ (queue_at old v).hands
kept_hands old new u queue ring has is = by_tenant old new u queue ring (λ v hs. hs ≡ (queue_at old v).hands) has is (λ v. refl)

pub planned_works : (old : CoreData) (query : ℕ) (told : Planned) (new : CoreData) → IsPlanned old query told new → WorksOn 0 0 old new
planned_works old query told new p = record {
  history = p.leaves.history;
  hands = kept_hands old new p.whole.opened.tenant _ _ p.leaves.queue_is refl;
  failed = same_sum old.failed new.failed p.leaves.failed;
  carried = same_failed old new p.leaves.failed;
}

pub lacked_works : (old : CoreData) (query : ℕ) (new : CoreData) (o : Open) → open_at query (machine_of old).queries ≡ Some o → IsLacked old query new → WorksOn 0 0 old new
lacked_works old query new o there l =
    let s = l.some o there in
    record {
      history = s.history;
      hands = kept_hands old new o.tenant _ _ s.left refl;
      failed = same_sum old.failed new.failed s.failed;
      carried = same_failed old new s.failed;
    }

same_works : (old new : CoreData) → new ≡ old → WorksOn 0 0 old new
same_works old new e = subst (λ (c : CoreData). WorksOn 0 0 old c) (sym e) (works_refl old)

pub unplanned_works : (old : CoreData) (query : ℕ) (e : PlanError) (new : CoreData) → IsSome (open_at query (machine_of old).queries) → IsNotPlanned old query e new → WorksOn 0 0 old new
unplanned_works old query plan_error.PlannedBefore new opens h = same_works old new h.1
unplanned_works old query (plan_error.Stopped why) new opens h = same_works old new h.1
unplanned_works old query plan_error.OutOfMemory new opens h =
    let o = some_open (open_at query (machine_of old).queries) opens in
    lacked_works old query new o.0 o.1 h

-- of a plan for which memory ran out
pub starved_works : (old mid : CoreData) (query : ℕ) (new : CoreData) → IsSome (open_at query (machine_of old).queries) → mid ≡ old → IsLacked mid query new → WorksOn 0 0 old new
starved_works old mid query new opens same l =
    let o = some_open (open_at query (machine_of old).queries) opens in
    lacked_works old query new o.0 o.1 (subst (λ (c : CoreData). IsLacked c query new) same l)

-- of a plan that changed nothing
pub not_planned : (old : CoreData) (query : ℕ) (e : PlanError) (mid new : CoreData) → IsUnplanned old query e mid
    → (e ≡ plan_error.OutOfMemory → IsLacked mid query new) → ((e ≡ plan_error.OutOfMemory → ⊥) → new ≡ mid) → IsNotPlanned old query e new
not_planned old query plan_error.PlannedBefore mid new u lacks keeps = (u.0, keeps (λ x. cc) ∙ u.1)
not_planned old query (plan_error.Stopped why) mid new u lacks keeps = (u.0, keeps (λ x. cc) ∙ u.1)
not_planned old query plan_error.OutOfMemory mid new u lacks keeps = subst (λ (c : CoreData). IsLacked c query new) u (lacks refl)

-- ---- the query is begun

begun_planned : (old : CoreData) (query : ℕ) (told : Planned) (new : CoreData) → IsPlanned old query told new → IsBegun new query
begun_planned old query told new p = record {
  far = planned_by old told.cached p.whole.opened p.whole.far;
  is_far = ap (λ (ps : List QueryProgress). progress_at query ps) p.leaves.progress_is ∙ at_changed query (planned_by old told.cached p.whole.opened) (λ p. refl) old.progress p.whole.far p.whole.is_far;
  begun = inl refl;
}

begun_lacked : (old : CoreData) (query : ℕ) (new : CoreData) (o : Open) → open_at query (machine_of old).queries ≡ Some o → IsLacked old query new → Stands new → IsBegun new query
begun_lacked old query new o there l stands =
    let s = l.some o there in
    let there' : open_at query (machine_of new).queries ≡ Some o = subst (λ (j : List Entry). open_at query (machine_after started j).queries ≡ Some o) (sym s.history.journal) there in
    let f = has_far new.limits query (machine_of new).queries new.progress o stands.progressing there' in
    record {
      far = f.0;
      is_far = f.1;
      begun = inr (is_stopped query Starved old.progress f.0 (ap (λ (ps : List QueryProgress). progress_at query ps) (sym s.progress_is) ∙ f.1));
    }

pub begun_after : (old : CoreData) (query : ℕ) (r : Result Planned PlanError) (new : CoreData) → IsSome (open_at query (machine_of old).queries) → Stands new
    → IfOk r (λ p. IsPlanned old query p new) → IfErr r (λ e. IsNotPlanned old query e new) → IsBegun new query
begun_after old query (Ok p) new opens stands ok err = begun_planned old query p new ok
begun_after old query (Err plan_error.PlannedBefore) new opens stands ok err =
    subst (λ (c : CoreData). IsBegun c query) (sym err.1)
    (record { far = err.0.opened.far; is_far = err.0.opened.is_far; begun = inl err.0.was_planned })
begun_after old query (Err (plan_error.Stopped why)) new opens stands ok err =
    subst (λ (c : CoreData). IsBegun c query) (sym err.1)
    (record { far = err.0.far; is_far = err.0.is_far; begun = inr (why, err.0.stop_is) })
begun_after old query (Err plan_error.OutOfMemory) new opens stands ok err =
    let o = some_open (open_at query (machine_of old).queries) opens in
    begun_lacked old query new o.0 o.1 err stands
