-- Lines that were run, by what they entered.
use Rattle.std.proofs.Common.{◌≡◌, ℕ, zero, suc, ◌+◌, ◌<◌, ◌≤◌, Some, None, Result, Ok, Err, IfOk, OnOk, List, [], ◌∷◌, ◌++◌, refl, sym, ap, ◌∙◌, subst, append-nil, append_assoc, codes, decimal, slice_get, arith, inl, inr}
use Rattle.std.specs.Prelude.{slice_index_or, sum}
use Rattle.pf_base.specs.Batches.{BatchData}
use Rattle.pf_base.specs.declared.plain.By.{By}
use Rattle.pf_base.specs.declared.plain.Limits.{Limits}
use Rattle.pf_core.specs.Cores.{AreSameWork, CoreData, Enters, HasRoomFor, IsAppended, IsDeleted, IsFull, IsSameHistory, machine_of, queue_at}
use Rattle.pf_core.specs.Jobs.{QueueHeads, no_heads}
use Rattle.pf_front.specs.Works.{AreCarried, IsIdle, WorksOn}
use Rattle.pf_journal.specs.Entered.{Fits, room_of}
use Rattle.pf_journal.specs.Files.{Gives}
use Rattle.pf_journal.specs.Machine.{Entry, What, append, delete, no_tenant, reserved}
use Rattle.pf_journal.specs.Replies.{ingested, memory_words, reply_line, reply_to, tenants_words, undeleted_words}
use Rattle.pf_journal.specs.Rest.{Known, Told, nothing, no_memory, journal_full}
use Rattle.pf_journal.specs.Scripts as script
use Rattle.pf_journal.specs.Scripts.{Line, Numbered}
use Rattle.pf_journal.specs.Turns.{asker_of}
use Rattle.pf_journal.specs.Unentered.{ToldOfDelete, Unentered}
use Rattle.pf_journal.specs.Weave.{ToldBeside, failed_in, stops_at}
use Rattle.pf_model.specs.Lists.{Each}
use Rattle.pf_model.specs.Queries.{IsSelector}
use Rattle.pf_model.specs.declared.expr.Matcher.{Matcher}
use Rattle.pf_store.specs.Verdicts.{VerdictsData}
use Rattle.pf_store.specs.declared.tenant_log.Deleted.{Deleted}
use Rattle.pf_query.specs.declared.job.Hand.{Hand as JobHand}
use Rattle.pf_client.proofs.HandLines.{keeps_hands, keeps_same, tries_same}
use Rattle.pf_client.proofs.Cases.{on_ok_all}
use Rattle.pf_client.specs.Clients.{Ends, Grows, IsKnown, IsStep, Naming, Runs, moment_by, turn_by}
use Rattle.pf_client.specs.Hands.{CountsTries, HandsAfter, KeepsHands}
use Rattle.pf_client.specs.declared.client.Client.{Client}
use Rattle.pf_client.specs.declared.client.LineRun.{LineRun}
use Rattle.pf_client.specs.declared.client.LineRun.TheVariants as run

-- what stands in front stays
pub get_front : {X : Type 0} (xs ys : List X) (u : ℕ) (x : X) → slice_get xs u ≡ Some x → slice_get (xs ++ ys) u ≡ Some x
get_front [] ys u x h = cc
get_front (y ∷ xs) ys zero x h = h
get_front (y ∷ xs) ys (suc u) x h = get_front xs ys u x h

-- a name of a core is known
pub name_known : (known : Known) (c : CoreData) (u : ℕ) (name : List ℕ) → IsKnown known c → slice_get c.names u ≡ Some name
    → slice_get known.names u ≡ Some name
name_known known c u name k h =
    subst (λ (ns : List (List ℕ)). slice_get ns u ≡ Some name) (sym k.names) (get_front c.names k.more u name h)

-- a line with an entry
abbrev pub step_entered : (known : Known) (n : Told → Naming) (old new : Client) (by : By) (l : Numbered) (t : Told) (what : What)
    → IsKnown known new.core → Enters old.core by what new.core → by.client ≡ old.client → by.line ≡ l.number
    → Fits known (asker_of (n t).asking) (n t).asked l.line what
    → ToldBeside what t → HasRoomFor old.core (room_of l.line) → stops_at l.line t ≡ None
    → CountsTries old.core t new.core → HandsAfter l.line t old new
    → new.out.items ≡ old.out.items ++ reply_to known (turn_by (n t) l t (Some (moment_by (machine_of old.core) old.client l.number what))) l.number l.line
    → IsStep known n old l run.On new
step_entered known n old new by l t what k e client line fits beside room goes tried hands said = record {
  told = t;
  entered = Some what;
  ends = goes;
  limits = e.limits;
  journal = e.journal
      ∙ ap (λ (i : ℕ). old.core.journal ++ record { client = i; line = by.line; what = what } ∷ []) client
      ∙ ap (λ (i : ℕ). old.core.journal ++ record { client = old.client; line = i; what = what } ∷ []) line;
  more = e.more;
  grown = e.grown;
  matched = (fits, beside);
  roomy = subst (λ (m : Limits). (machine_of old.core).count + reserved (machine_of old.core).queries + room_of l.line ≤ m.journal)
      (sym (k.limits ∙ e.limits)) room;
  tried = tried;
  hands = hands;
  said = said;
}

-- a line without one leaves the limits, the names and the journal
abbrev pub step_worked : (known : Known) (n : Told → Naming) (old new : Client) (l : Numbered) (t : Told)
    → IsSameHistory old.core new.core → stops_at l.line t ≡ None
    → Unentered known (turn_by (n t) l t None) l.line t
    → CountsTries old.core t new.core → HandsAfter l.line t old new
    → new.out.items ≡ old.out.items ++ reply_to known (turn_by (n t) l t None) l.number l.line
    → IsStep known n old l run.On new
step_worked known n old new l t same goes unentered tried hands said = record {
  told = t;
  entered = None;
  ends = goes;
  limits = same.limits;
  journal = same.journal ∙ sym (append-nil old.core.journal);
  more = [];
  grown = same.names ∙ sym (append-nil old.core.names);
  matched = unentered;
  roomy = tt;
  tried = tried;
  hands = hands;
  said = said;
}

-- nothing was done
pub same_history : (old new : CoreData) → new ≡ old → IsSameHistory old new
same_history old new same = record {
  limits = ap (λ (c : CoreData). c.limits) same;
  names = ap (λ (c : CoreData). c.names) same;
  journal = ap (λ (c : CoreData). c.journal) same;
}

pub same_tries : (old new : CoreData) (t : Told) → new ≡ old → failed_in t ≡ 0 → CountsTries old t new
same_tries old new t same none = tries_same old new t (ap (λ (c : CoreData). c.failed) same) none

-- a line that leaves the core
abbrev pub step_stayed : (known : Known) (n : Told → Naming) (old new : Client) (l : Numbered) (t : Told)
    → new.core ≡ old.core → failed_in t ≡ 0 → stops_at l.line t ≡ None
    → Unentered known (turn_by (n t) l t None) l.line t
    → HandsAfter l.line t old new
    → new.out.items ≡ old.out.items ++ reply_to known (turn_by (n t) l t None) l.number l.line
    → IsStep known n old l run.On new
step_stayed known n old new l t same none goes unentered hands said =
    step_worked known n old new l t (same_history old.core new.core same) goes unentered (same_tries old.core new.core t same none) hands said

-- a line that stops its client
abbrev step_stopped : (known : Known) (n : Told → Naming) (old new : Client) (l : Numbered) (t : Told) (r : LineRun)
    → new.core ≡ old.core → failed_in t ≡ 0 → Ends old.core l.line t None r
    → Unentered known (turn_by (n t) l t None) l.line t
    → HandsAfter l.line t old new
    → new.out.items ≡ old.out.items ++ reply_to known (turn_by (n t) l t None) l.number l.line
    → IsStep known n old l r new
step_stopped known n old new l t r same none ends unentered hands said = record {
  told = t;
  entered = None;
  ends = ends;
  limits = ap (λ (c : CoreData). c.limits) same;
  journal = ap (λ (c : CoreData). c.journal) same ∙ sym (append-nil old.core.journal);
  more = [];
  grown = ap (λ (c : CoreData). c.names) same ∙ sym (append-nil old.core.names);
  matched = unentered;
  roomy = tt;
  tried = same_tries old.core new.core t same none;
  hands = hands;
  said = said;
}

-- a line that met the full journal
abbrev pub step_full : (known : Known) (n : Told → Naming) (old new : Client) (l : Numbered)
    → new.core ≡ old.core → IsFull old.core (room_of l.line)
    → Unentered known (turn_by (n journal_full) l journal_full None) l.line journal_full
    → HandsAfter l.line journal_full old new
    → new.out.items ≡ old.out.items ++ reply_to known (turn_by (n journal_full) l journal_full None) l.number l.line
    → IsStep known n old l run.Full new
step_full known n old new l same full unentered hands said =
    step_stopped known n old new l journal_full run.Full same refl (refl, (refl, full)) unentered hands said

-- there was no memory for an `ingest`
pub step_starved_ingest : (known : Known) (n : Told → Naming) (old new : Client) (number : ℕ) (tenant file : List ℕ) (time : ℕ) (r : LineRun)
    → r ≡ run.Starved → new.core ≡ old.core → new.hands ≡ old.hands
    → new.out.items ≡ old.out.items ++ reply_line number (codes "ingest") tenant memory_words
    → IsStep known n old (record { number = number; line = script.ingest tenant file time }) r new
step_starved_ingest known n old new number tenant file time r starved same hands said =
    subst (λ (x : LineRun). IsStep known n old (record { number = number; line = script.ingest tenant file time }) x new) (sym starved)
    (step_stopped known n old new (record { number = number; line = script.ingest tenant file time }) no_memory run.Starved same refl refl tt
    (keeps_same old new (ap (λ v. v.items) hands) same) said)

-- or for a `delete`
pub step_starved_delete : (known : Known) (n : Told → Naming) (old new : Client) (number : ℕ) (tenant : List ℕ) (from to : ℕ) (selector : List ℕ) (r : LineRun)
    → r ≡ run.Starved → new.core ≡ old.core → new.hands ≡ old.hands
    → new.out.items ≡ old.out.items ++ reply_line number (codes "delete") tenant memory_words
    → IsStep known n old (record { number = number; line = script.delete tenant from to selector }) r new
step_starved_delete known n old new number tenant from to selector r starved same hands said =
    subst (λ (x : LineRun). IsStep known n old (record { number = number; line = script.delete tenant from to selector }) x new) (sym starved)
    (step_stopped known n old new (record { number = number; line = script.delete tenant from to selector }) no_memory run.Starved same refl refl tt
    (keeps_same old new (ap (λ v. v.items) hands) same) said)

-- a call that replied so
pub starved_ingest : {E : Type 0} (old new : Client) (number : ℕ) (tenant file : List ℕ) (time : ℕ) (result : Result LineRun E) → IfOk result (λ r. r ≡ run.Starved)
    → OnOk result (new.out.items ≡ old.out.items ++ reply_line number (codes "ingest") tenant memory_words) → new.core ≡ old.core → new.hands ≡ old.hands
    → IfOk result (λ r. (known : Known) → Runs known old (record { number = number; line = script.ingest tenant file time }) r new)
starved_ingest old new number tenant file time (Ok r) starved said same hands = λ known n k. step_starved_ingest known n old new number tenant file time r starved same hands said
starved_ingest old new number tenant file time (Err e) starved said same hands = tt

pub starved_delete : {E : Type 0} (old new : Client) (number : ℕ) (tenant : List ℕ) (from to : ℕ) (selector : List ℕ) (result : Result LineRun E) → IfOk result (λ r. r ≡ run.Starved)
    → OnOk result (new.out.items ≡ old.out.items ++ reply_line number (codes "delete") tenant memory_words) → new.core ≡ old.core → new.hands ≡ old.hands
    → IfOk result (λ r. (known : Known) → Runs known old (record { number = number; line = script.delete tenant from to selector }) r new)
starved_delete old new number tenant from to selector (Ok r) starved said same hands = λ known n k. step_starved_delete known n old new number tenant from to selector r starved same hands said
starved_delete old new number tenant from to selector (Err e) starved said same hands = tt

pub starved_any : {E : Type 0} (old new : Client) (number : ℕ) (tenant : List ℕ) (from to : ℕ) (ms : List Matcher) (result : Result LineRun E) → IfOk result (λ r. r ≡ run.Starved)
    → OnOk result (new.out.items ≡ old.out.items ++ reply_line number (codes "delete") tenant memory_words) → new.core ≡ old.core → new.hands ≡ old.hands
    → IfOk result (λ r. (known : Known) (selector : List ℕ) → IsSelector known.refused selector ms → Runs known old (record { number = number; line = script.delete tenant from to selector }) r new)
starved_any old new number tenant from to ms (Ok r) starved said same hands = λ known selector selects n k. step_starved_delete known n old new number tenant from to selector r starved same hands said
starved_any old new number tenant from to ms (Err e) starved said same hands = tt

-- jobs stay where a core's call leaves them
pub works_keep : (old new : Client) → AreSameWork old.core new.core → new.hands ≡ old.hands → KeepsHands old new
works_keep old new same hands =
    keeps_hands old new (ap (λ v. v.items) hands) (λ u. ap (λ (qs : List QueueHeads). (slice_index_or qs u no_heads).hands) same.0.queues)

pub works_tries : (old new : CoreData) (t : Told) → AreSameWork old new → failed_in t ≡ 0 → CountsTries old t new
works_tries old new t same none = tries_same old new t same.0.failed none

-- ---- ingest

pub step_ingested : (known : Known) (n : Told → Naming) (old new : Client) (by : By) (number : ℕ) (tenant file : List ℕ) (time : ℕ) (batch : BatchData) (v : VerdictsData)
    → IsKnown known new.core → IsAppended old.core by tenant batch v new.core → by.client ≡ old.client → by.line ≡ number → AreSameWork old.core new.core → new.hands ≡ old.hands
    → Gives (known.files file) time batch
    → new.out.items ≡ old.out.items ++ ingested number tenant batch.skipped v.list v.entry
    → IsStep known n old (record { number = number; line = script.ingest tenant file time }) run.On new
step_ingested known n old new by number tenant file time batch v k e client line same hands gives said =
    step_entered known n old new by (record { number = number; line = script.ingest tenant file time }) nothing (append e.1.number batch v.list v.entry)
    k e.1.entered client line (name_known known new.core e.1.number tenant k e.1.named, gives) refl e.0 refl
    (works_tries old.core new.core nothing same refl) (works_keep old new same hands) said

pub step_uningested : (known : Known) (n : Told → Naming) (old new : Client) (by : By) (number : ℕ) (tenant file : List ℕ) (time : ℕ) (batch : BatchData)
    → IsKnown known new.core → HasRoomFor old.core 1 → Enters old.core by (no_tenant tenant) new.core → by.client ≡ old.client → by.line ≡ number → AreSameWork old.core new.core → new.hands ≡ old.hands
    → Gives (known.files file) time batch
    → new.out.items ≡ old.out.items ++ reply_line number (codes "ingest") tenant tenants_words
    → IsStep known n old (record { number = number; line = script.ingest tenant file time }) run.On new
step_uningested known n old new by number tenant file time batch k room e client line same hands gives said =
    step_entered known n old new by (record { number = number; line = script.ingest tenant file time }) nothing (no_tenant tenant)
    k e client line (refl, (batch, gives)) refl room refl (works_tries old.core new.core nothing same refl) (works_keep old new same hands) said

-- ---- delete

pub step_deleted : (known : Known) (n : Told → Naming) (old new : Client) (by : By) (number : ℕ) (tenant : List ℕ) (from to : ℕ) (selector : List ℕ) (ms : List Matcher) (d : Deleted)
    → IsKnown known new.core → IsDeleted old.core by tenant ms from to d new.core → by.client ≡ old.client → by.line ≡ number → AreSameWork old.core new.core → new.hands ≡ old.hands
    → from ≤ to → to ≤ 4398046511103 → IsSelector known.refused selector ms
    → new.out.items ≡ old.out.items ++ reply_line number (codes "delete") tenant (codes "generation" ∷ decimal d.generation ∷ codes "entry" ∷ decimal d.entry ∷ [])
    → IsStep known n old (record { number = number; line = script.delete tenant from to selector }) run.On new
step_deleted known n old new by number tenant from to selector ms d k e client line same hands forward within selects said =
    step_entered known n old new by (record { number = number; line = script.delete tenant from to selector }) nothing
    (delete e.1.number ms from to d.generation d.entry)
    k e.1.entered client line (name_known known new.core e.1.number tenant k e.1.named, ((forward, within), selects, refl, refl)) refl e.0
    refl (works_tries old.core new.core nothing same refl) (works_keep old new same hands) said

pub step_undeleted : (known : Known) (n : Told → Naming) (old new : Client) (by : By) (number : ℕ) (tenant : List ℕ) (from to : ℕ) (selector : List ℕ) (ms : List Matcher)
    → IsKnown known new.core → HasRoomFor old.core 1 → Enters old.core by (no_tenant tenant) new.core → by.client ≡ old.client → by.line ≡ number → AreSameWork old.core new.core → new.hands ≡ old.hands
    → from ≤ to → to ≤ 4398046511103 → IsSelector known.refused selector ms
    → new.out.items ≡ old.out.items ++ reply_line number (codes "delete") tenant tenants_words
    → IsStep known n old (record { number = number; line = script.delete tenant from to selector }) run.On new
step_undeleted known n old new by number tenant from to selector ms k room e client line same hands forward within selects said =
    step_entered known n old new by (record { number = number; line = script.delete tenant from to selector }) nothing (no_tenant tenant)
    k e client line (refl, ((forward, within), (ms, selects))) refl room refl (works_tries old.core new.core nothing same refl) (works_keep old new same hands) said

-- what is refused of a deletion
pub step_bad_delete : (known : Known) (n : Told → Naming) (old new : Client) (number : ℕ) (tenant : List ℕ) (from to : ℕ) (selector : List ℕ) (words : List (List ℕ))
    → new.core ≡ old.core → new.hands ≡ old.hands → undeleted_words from to nothing ≡ words → ToldOfDelete known.refused from to selector nothing
    → new.out.items ≡ old.out.items ++ reply_line number (codes "delete") tenant words
    → IsStep known n old (record { number = number; line = script.delete tenant from to selector }) run.On new
step_bad_delete known n old new number tenant from to selector words same hands is unentered said =
    step_stayed known n old new (record { number = number; line = script.delete tenant from to selector }) nothing same refl refl unentered (keeps_same old new (ap (λ v. v.items) hands) same)
    (said ∙ ap (λ (w : List (List ℕ)). old.out.items ++ reply_line number (codes "delete") tenant w) (sym is))

-- ---- failed tries

pub untried : {count : ℕ} (old new : CoreData) → new.failed ≡ old.failed → AreCarried count count old new
untried old new same = let s = ap (λ (fs : List ℕ). sum fs) same in inr (omega (arith, s))

carried_behind : (before after : ℕ) (a b c : CoreData) → AreCarried before after a b → AreCarried 0 0 b c → AreCarried before after a c
carried_behind before after a b c (inl past) y = inl past
carried_behind before after a b c (inr x) (inl past) = absurd (omega (arith, past))
carried_behind before after a b c (inr x) (inr y) = inr (omega (arith, x, y))

-- ---- what a core's calls add

pub idle_same : (old new : CoreData) → ((u : ℕ) → (queue_at new u).hands ≡ (queue_at old u).hands) → (client : ℕ) → client < 16 → IsIdle old client → IsIdle new client
idle_same old new hands client below h = λ u. subst (Each (λ (x : JobHand). x.actor ≡ client → ⊥)) (sym (hands u)) (h u)

pub queues_same : (old new : CoreData) → new.queues ≡ old.queues → (u : ℕ) → (queue_at new u).hands ≡ (queue_at old u).hands
queues_same old new same u = ap (λ (qs : List QueueHeads). (slice_index_or qs u no_heads).hands) same

-- an entry
pub grows_entered : (old new : CoreData) (by : By) (what : What) → Enters old by what new → ((client : ℕ) → client < 16 → IsIdle old client → IsIdle new client) → new.failed ≡ old.failed → Grows 0 0 old new
grows_entered old new by what e idle failed = record { limits = e.limits; more = e.more; names = e.grown; entries = _; journal = e.journal; idle = idle; carried = untried old new failed }

pub grows_with : (old new : CoreData) (by : By) (what : What) → Enters old by what new → AreSameWork old new → Grows 0 0 old new
grows_with old new by what e same = grows_entered old new by what e (idle_same old new (queues_same old new same.0.queues)) same.0.failed

-- nothing
pub grows_same : {count : ℕ} (old new : CoreData) → new ≡ old → Grows count count old new
grows_same old new same = record {
  limits = ap (λ (c : CoreData). c.limits) same;
  more = [];
  names = ap (λ (c : CoreData). c.names) same ∙ sym (append-nil old.names);
  entries = [];
  journal = ap (λ (c : CoreData). c.journal) same ∙ sym (append-nil old.journal);
  idle = λ client below h. subst (λ (c : CoreData). IsIdle c client) (sym same) h;
  carried = untried old new (ap (λ (c : CoreData). c.failed) same);
}

-- a call that added nothing, and replied
pub grows_if : {A E : Type 0} (old new : CoreData) (result : Result A E) → new ≡ old → OnOk result (Grows 0 0 old new)
grows_if old new result same = on_ok_all (Grows 0 0 old new) result (grows_same old new same)

-- work on jobs
pub grows_idle : {before after : ℕ} (old new : CoreData) → IsSameHistory old new → ((client : ℕ) → client < 16 → IsIdle old client → IsIdle new client)
    → AreCarried before after old new → Grows before after old new
grows_idle old new same idle carried = record {
  limits = same.limits;
  more = [];
  names = same.names ∙ sym (append-nil old.names);
  entries = [];
  journal = same.journal ∙ sym (append-nil old.journal);
  idle = idle;
  carried = carried;
}

pub grows_works : {before after : ℕ} (old new : CoreData) → WorksOn before after old new → Grows before after old new
grows_works old new w = grows_idle old new w.history (idle_same old new w.hands) w.carried

pub grows_on : {before after : ℕ} (a b c : CoreData) → Grows before after a b → Grows 0 0 b c → Grows before after a c
grows_on a b c f g = record {
  limits = g.limits ∙ f.limits;
  more = f.more ++ g.more;
  names = g.names ∙ ap (λ (ns : List (List ℕ)). ns ++ g.more) f.names ∙ append_assoc a.names f.more g.more;
  entries = f.entries ++ g.entries;
  journal = g.journal ∙ ap (λ (es : List Entry). es ++ g.entries) f.journal ∙ append_assoc a.journal f.entries g.entries;
  idle = λ client below h. g.idle client below (f.idle client below h);
  carried = carried_behind _ _ a b c f.carried g.carried;
}

-- the core's calls
pub grows_appended : (old new : CoreData) (by : By) (tenant : List ℕ) (batch : BatchData) (v : VerdictsData) → IsAppended old by tenant batch v new → AreSameWork old new → Grows 0 0 old new
grows_appended old new by tenant batch v e same = grows_with old new by (append e.1.number batch v.list v.entry) e.1.entered same

pub grows_deleted : (old new : CoreData) (by : By) (tenant : List ℕ) (ms : List Matcher) (from to : ℕ) (d : Deleted) → IsDeleted old by tenant ms from to d new → AreSameWork old new → Grows 0 0 old new
grows_deleted old new by tenant ms from to d e same = grows_with old new by (delete e.1.number ms from to d.generation d.entry) e.1.entered same

pub grows_refused : (old new : CoreData) (by : By) (tenant : List ℕ) → Enters old by (no_tenant tenant) new → AreSameWork old new → Grows 0 0 old new
grows_refused old new by tenant e same = grows_with old new by (no_tenant tenant) e same

-- ---- clients that differ in what is kept of asks

-- a step to a client with the same core, text and jobs
abbrev pub step_to : (known : Known) (n : Told → Naming) (old a b : Client) (l : Numbered) (r : LineRun) → a.core ≡ b.core → a.out.items ≡ b.out.items
    → (s : IsStep known n old l r a) → HandsAfter l.line s.told old b → IsStep known n old l r b
step_to known n old a b l r core out s hands = record {
  told = s.told;
  entered = s.entered;
  ends = s.ends;
  limits = ap (λ (c : CoreData). c.limits) (sym core) ∙ s.limits;
  journal = ap (λ (c : CoreData). c.journal) (sym core) ∙ s.journal;
  more = s.more;
  grown = ap (λ (c : CoreData). c.names) (sym core) ∙ s.grown;
  matched = s.matched;
  roomy = s.roomy;
  tried = subst (λ (c : CoreData). CountsTries old.core s.told c) core s.tried;
  hands = hands;
  said = sym out ∙ s.said;
}
