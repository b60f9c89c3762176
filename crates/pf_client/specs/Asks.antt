-- What became of asks: this project's own.
use Rattle.std.specs.Prelude.{◌≡◌, ℕ, ◌<◌, Bool, true, Option, Some, None, Result, cond, false, nat_eq, slice_get, List}
use Rattle.std.specs.BTreeMap.{BTreeMap, get}
use Rattle.std.specs.Ordering.{nat_cmp}
use Rattle.pf_base.specs.declared.plain.Limits.{Limits}
use Rattle.pf_core.specs.Cores.{CoreData, Stands, machine_of}
use Rattle.pf_front.specs.declared.outcome.Outcome.{Outcome}
use Rattle.pf_front.specs.declared.outcome.Outcome.TheVariants as outcome
use Rattle.pf_journal.specs.Asking.{Asked, ranged, at_once}
use Rattle.pf_journal.specs.Entered.{what_of}
use Rattle.pf_journal.specs.Legal.{Moment}
use Rattle.pf_journal.specs.Machine.{What, ask, full, no_tenant, IsCode, Open, open_at}
use Rattle.pf_journal.specs.Bodies.{full_body, memory_body, refused_body, tenants_body}
use Rattle.pf_journal.specs.Replies.{body_of, refusal_of}
use Rattle.pf_journal.specs.Rest.{Known, Told, failed_five, nothing, no_memory}
use Rattle.pf_journal.specs.Scripts as script
use Rattle.pf_journal.specs.Scripts.{Line, Numbered}
use Rattle.pf_journal.specs.Unentered.{HasQuery}
use Rattle.pf_journal.specs.Turns.{Ran, answer_of, is_answer_of, asker_of, moment_of, place_of, ran_at}
use Rattle.pf_journal.specs.Weave.{ToldOfCode}
use Rattle.pf_model.specs.ErrorTexts.{grid_text}
use Rattle.pf_model.specs.declared.expr.Kind.{Kind}
use Rattle.pf_report.specs.Bodies.{code_in, result_body, text_of_body}
use Rattle.pf_report.specs.declared.bodies.Body.{Body}
use Rattle.pf_report.specs.declared.bodies.Body.TheVariants as body
use Rattle.pf_script.specs.Lines as lines
use Rattle.pf_script.specs.Lines.{IsAsk, line_at}
use Rattle.pf_types.specs.Errors.{words_of_error}
use Rattle.pf_client.specs.Clients.{IsKnown, IsStep, Naming}
use Rattle.pf_client.specs.declared.client.Client.{Client}
use Rattle.pf_client.specs.declared.client.LineRun.{LineRun}
use Rattle.pf_client.specs.declared.client.LineRun.TheVariants.{On, Full, Starved}
use Rattle.pf_client.specs.declared.slots.Slot.{Slot}
use Rattle.pf_client.specs.declared.slots.Slot.TheVariants as slot

-- ---- what is asked

-- what a line asks for
abbrev pub wanted_by : Known → Line → Option (Result Asked (List ℕ))
wanted_by known (script.ask id tenant start end step query) = ranged known.readings start end step query
wanted_by known (script.instant id tenant time query) = at_once known.readings time query
wanted_by known _ = None

-- a line asks under this ID for this tenant
abbrev pub AsksAs : (id tenant : List ℕ) → Line → Type 0
AsksAs id tenant (script.ask i t start end step query) = (i ≡ id) × (t ≡ tenant)
AsksAs id tenant (script.instant i t time query) = (i ≡ id) × (t ≡ tenant)
AsksAs id tenant _ = ⊥

-- ---- what is kept of an ask

-- the place of the query that an entry opened
pub record IsAskAt (known : Known) (above : List Ran) (own : List Moment) (k query : ℕ) : Type 0 where
  pub asked : Moment
  pub there : moment_of k own ≡ Some asked
  pub place : place_of asked ≡ query
  pub tenant : ℕ
  pub wanted : Asked
  pub pin : ℕ
  pub generation : ℕ
  pub floor : Option ℕ
  pub is : asked.entry.what ≡ ask tenant wanted pin generation floor
  pub named : slice_get known.names tenant ≡ Some (asker_of (ran_at k above))
  pub unanswered : answer_of (Some asked) own ≡ None

-- the ask has no entry, and its refusal has this text
pub record IsUnaskedAt (known : Known) (above : List Ran) (own : List Moment) (k : ℕ) (says : List ℕ) : Type 0 where
  pub none : moment_of k own ≡ None
  pub ran : Ran
  pub there : ran_at k above ≡ Some ran
  pub told : ran.told ≡ nothing
  pub text : refusal_of (wanted_by known ran.line.line) ≡ says

-- the ask has no entry, since there was no memory
pub record IsStarvedAt (above : List Ran) (own : List Moment) (k : ℕ) : Type 0 where
  pub none : moment_of k own ≡ None
  pub ran : Ran
  pub there : ran_at k above ≡ Some ran
  pub told : ran.told ≡ no_memory

-- the tenant had as many open queries as it may
abbrev pub IsFullWhat : Option What → Type 0
IsFullWhat (Some (full u outstanding)) = Unit {0}
IsFullWhat _ = ⊥

-- as many tenants were known as may be
abbrev pub IsNoTenantWhat : Option What → Type 0
IsNoTenantWhat (Some (no_tenant name)) = Unit {0}
IsNoTenantWhat _ = ⊥

-- what is kept of the ask of a line is what became of it; nothing is kept once it was answered
abbrev pub SlotRight : Known → List Ran → List Moment → ℕ → Option Slot → Type 0
SlotRight known above own k None = HasQuery (what_of (moment_of k own)) → answer_of (moment_of k own) own ≡ None → ⊥
SlotRight known above own k (Some (slot.Asked query)) = IsAskAt known above own k query
SlotRight known above own k (Some (slot.BadGrid e)) = IsUnaskedAt known above own k (grid_text e)
SlotRight known above own k (Some (slot.BadQuery e)) = IsUnaskedAt known above own k (words_of_error e)
SlotRight known above own k (Some slot.Full) = IsFullWhat (what_of (moment_of k own))
SlotRight known above own k (Some slot.TooManyTenants) = IsNoTenantWhat (what_of (moment_of k own))
SlotRight known above own k (Some slot.NoMemory) = IsStarvedAt above own k

-- ---- the asks of the lines that ran

-- what became of asks, by line
abbrev pub Slots : Type 0
Slots = BTreeMap ℕ Slot

pub record HaveSlots (known : Known) (above : List Ran) (own : List Moment) (count : ℕ) (done : List Numbered) (slots : Slots) : Type 0 where
  pub right : (k : ℕ) (id : List ℕ) → IsAsk id (line_at k done) → SlotRight known above own k (get nat_cmp slots k)
  pub kept : (k : ℕ) (id : List ℕ) → IsAsk id (line_at k done) → lines.IsUnanswered done k → get nat_cmp slots k ≡ None → ⊥
  -- nothing is kept of other lines
  pub only : (k : ℕ) (s : Slot) → get nat_cmp slots k ≡ Some s → (id : List ℕ) × IsAsk id (line_at k done)
  pub apart : (k j q : ℕ) → get nat_cmp slots k ≡ Some (slot.Asked q) → get nat_cmp slots j ≡ Some (slot.Asked q) → k ≡ j
  pub below : (k q : ℕ) → get nat_cmp slots k ≡ Some (slot.Asked q) → q < count

-- each open query is kept
abbrev pub AreKept : CoreData → Slots → Type 0
AreKept c slots = (q : ℕ) (o : Open) → open_at q (machine_of c).queries ≡ Some o → (k : ℕ) × (get nat_cmp slots k ≡ Some (slot.Asked q))

-- ---- an ask that was run

-- a query that was opened
pub record IsOpenedNow (old new : CoreData) (entered : Option What) (query : ℕ) : Type 0 where
  pub place : query ≡ (machine_of old).count
  pub stands : Stands new
  pub by_ask : HasQuery entered
  pub opened : Open
  pub is_open : open_at query (machine_of new).queries ≡ Some opened

-- what became of an ask
abbrev pub IsSlot : Known → Line → (old new : CoreData) → Told → Option What → Slot → Type 0
IsSlot known l old new told entered (slot.Asked query) = IsOpenedNow old new entered query
IsSlot known l old new told entered (slot.BadGrid e) =
    (entered ≡ None) × ((told ≡ nothing) × (refusal_of (wanted_by known l) ≡ grid_text e))
IsSlot known l old new told entered (slot.BadQuery e) =
    (entered ≡ None) × ((told ≡ nothing) × (refusal_of (wanted_by known l) ≡ words_of_error e))
IsSlot known l old new told entered slot.Full = IsFullWhat entered
IsSlot known l old new told entered slot.TooManyTenants = IsNoTenantWhat entered
IsSlot known l old new told entered slot.NoMemory = (entered ≡ None) × (told ≡ no_memory)

-- what became of an ask is kept
pub record IsKeptSlot (known : Known) (l : Numbered) (old new : Client) (told : Told) (entered : Option What) : Type 0 where
  pub kept : Slot
  pub is : IsSlot known l.line old.core new.core told entered kept
  pub slots : (k : ℕ) → get nat_cmp new.slots k ≡ cond (nat_eq l.number k) (Some kept) (get nat_cmp old.slots k)

-- of a line that asks; one that stops its client keeps nothing
abbrev pub KeepsSlot : Known → Numbered → (old new : Client) → Told → Option What → LineRun → Type 0
KeepsSlot known l old new told entered On = IsKeptSlot known l old new told entered
KeepsSlot known l old new told entered Full = Unit {0}
KeepsSlot known l old new told entered Starved = Unit {0}

pub record IsAskStep (known : Known) (n : Told → Naming) (old : Client) (l : Numbered) (run : LineRun) (new : Client) : Type 0 where
  pub step : IsStep known n old l run new
  pub keeps : KeepsSlot known l old new step.told step.entered run

abbrev pub AskRuns : Known → Client → Numbered → LineRun → Client → Type 0
AskRuns known old l run new = (n : Told → Naming) → IsKnown known new.core → IsAskStep known n old l run new

-- no open query is kept
abbrev pub IsNoQuery : Option Slot → Type 0
IsNoQuery (Some (slot.Asked query)) = ⊥
IsNoQuery _ = Unit {0}

-- ---- answers

-- what is told beside an answer with this body
abbrev pub told_with : Body → Told
told_with (body.JobFailed job) = failed_five job
told_with _ = nothing

-- a body is the answer of an open query, by its code
pub record IsBody (limits : Limits) (o : Open) (b : Body) : Type 0 where
  pub coded : IsCode limits o o.cancelled (code_in b)
  pub text : body_of limits (told_with b) (code_in b) (Some o) ≡ text_of_body b
  pub told : ToldOfCode (nat_eq (code_in b) 500) (told_with b)

-- a body is the answer of a refused ask
abbrev pub IsRefusedBody : Slot → Body → Type 0
IsRefusedBody (slot.Asked query) b = Unit {0}
IsRefusedBody (slot.BadGrid e) b = (code_in b ≡ 400) × (text_of_body b ≡ refused_body (grid_text e))
IsRefusedBody (slot.BadQuery e) b = (code_in b ≡ 400) × (text_of_body b ≡ refused_body (words_of_error e))
IsRefusedBody slot.Full b = (code_in b ≡ 429) × (text_of_body b ≡ full_body)
IsRefusedBody slot.TooManyTenants b = (code_in b ≡ 503) × (text_of_body b ≡ tenants_body)
IsRefusedBody slot.NoMemory b = (code_in b ≡ 507) × (text_of_body b ≡ memory_body)

-- an entry answers a query
abbrev pub answers : ℕ → Option What → Bool
answers q None = false
answers q (Some what) = is_answer_of q what

-- an open query of this place is kept
abbrev pub is_query : ℕ → Option Slot → Bool
is_query q (Some (slot.Asked query)) = nat_eq query q
is_query q _ = false

-- what comes out of a query, as a body
abbrev pub outcome_body : (instant : Bool) → Kind → Outcome → Body
outcome_body instant kind (outcome.Matrix rows) = result_body instant kind rows
outcome_body instant kind (outcome.Failed step error) = body.Failed step error
outcome_body instant kind outcome.Cancelled = body.Cancelled
outcome_body instant kind (outcome.Exhausted job) = body.JobFailed job
outcome_body instant kind outcome.Starved = body.OutOfMemory

-- an open query was answered, or waits
pub record IsQueryAnswer (known : Known) (n : Told → Naming) (old : Client) (l : Numbered) (query : ℕ) (answered : Bool) (new : Client) : Type 0 where
  pub step : IsStep known n old l On new
  pub closes : (q : ℕ) → answers q step.entered ≡ cond answered (nat_eq query q) false

-- a refused ask was answered
pub record IsUnanswered (known : Known) (n : Told → Naming) (old : Client) (l : Numbered) (new : Client) : Type 0 where
  pub step : IsStep known n old l On new
  pub none : step.entered ≡ None

-- what was kept of an ask is kept no more once it was answered
abbrev pub left_of : (answered : Bool) → Option Slot → Option Slot
left_of true kept = None
left_of false kept = kept

-- the ask of a line was answered, or its query waits
pub record IsAnswerStep (known : Known) (n : Told → Naming) (old : Client) (l : Numbered) (line : ℕ) (new : Client) : Type 0 where
  pub answered : Bool
  pub step : IsStep known n old l On new
  pub closes : (q : ℕ) → answers q step.entered ≡ cond answered (is_query q (get nat_cmp old.slots line)) false
  pub slots : (k : ℕ) → get nat_cmp new.slots k ≡ cond (nat_eq line k) (left_of answered (get nat_cmp old.slots line)) (get nat_cmp old.slots k)
