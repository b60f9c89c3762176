-- Lines without an entry: what was told of them has its cause in the line and the turns before it. This project's own.
use Rattle.std.specs.Prelude.{◌≡◌, ℕ, ◌<◌, ◌⊎◌, true, false, Option, Some, None, Result, Err, List}
use Rattle.pf_base.specs.Batches.{BatchData}
use Rattle.pf_base.specs.Limits.{greatest_time}
use Rattle.pf_model.specs.declared.expr.Matcher.{Matcher}
use Rattle.pf_model.specs.Queries.{IsNoSelector, IsSelector}
use Rattle.pf_journal.specs.Asking.{Asked, ranged, at_once}
use Rattle.pf_journal.specs.Entered.{IsAsked, IsRange, what_of}
use Rattle.pf_journal.specs.Files.{Gives, IsRefusedAs}
use Rattle.pf_journal.specs.Legal.{Moment}
use Rattle.pf_journal.specs.Machine.{What, ask}
use Rattle.pf_journal.specs.Rest.{Known, Told, nothing, refused_file, no_memory, journal_full, waiting, of_plan, of_take, of_done, of_keep}
use Rattle.pf_journal.specs.Scripts.{Line}
use Rattle.pf_journal.specs.Scripts as script
use Rattle.pf_journal.specs.Steps.{plan_refused, took, none_waits, busy, empty, keep_refused}
use Rattle.pf_journal.specs.Turns.{Turn, Hand, asker_of, holds, hands_on, place_of}

-- the file is refused; or it is not, and the journal is full
abbrev pub ToldOfIngest : (bytes : List ℕ) → ℕ → Told → Type 0
ToldOfIngest bytes time (refused_file refusal) = IsRefusedAs bytes time refusal
ToldOfIngest bytes time journal_full = (batch : BatchData) × Gives bytes time batch
ToldOfIngest bytes time no_memory = Unit {0}
ToldOfIngest bytes time _ = ⊥

-- the range or the selector is refused; or neither is, and the journal is full
abbrev pub ToldOfDelete : (refused : List (List ℕ)) → ℕ → ℕ → (selector : List ℕ) → Told → Type 0
ToldOfDelete refused from to selector nothing = (to < from) ⊎ ((greatest_time < to) ⊎ IsNoSelector refused selector)
ToldOfDelete refused from to selector journal_full = IsRange from to × ((ms : List Matcher) × IsSelector refused selector ms)
ToldOfDelete refused from to selector no_memory = Unit {0}
ToldOfDelete refused from to selector _ = ⊥

abbrev pub IsNotAsked : Option (Result Asked (List ℕ)) → Type 0
IsNotAsked (Some (Err text)) = Unit {0}
IsNotAsked _ = ⊥

-- what is asked for is refused; or it is not, and the journal is full
abbrev pub ToldOfAsk : Option (Result Asked (List ℕ)) → Told → Type 0
ToldOfAsk wanted nothing = IsNotAsked wanted
ToldOfAsk wanted journal_full = IsAsked wanted
ToldOfAsk wanted no_memory = Unit {0}
ToldOfAsk wanted _ = ⊥

-- an ask has an entry by which a query opened, or it was refused
abbrev pub HasQuery : Option What → Type 0
HasQuery (Some (ask u asked pin generation floor)) = Unit {0}
HasQuery _ = ⊥

abbrev pub HasNoQuery : Option What → Type 0
HasNoQuery (Some (ask u asked pin generation floor)) = ⊥
HasNoQuery _ = Unit {0}

-- the query was asked, and neither answered nor cancelled in a line above
pub record IsOpen (t : Turn) : Type 0 where
  pub query : HasQuery (what_of t.asked)
  pub unanswered : t.answered ≡ None
  pub uncancelled : t.cancelled ≡ None

-- a query is not cancelled where it is not open, where another tenant asked it, and where it was cancelled before
abbrev pub IsUncancelled : Turn → (tenant : List ℕ) → Type 0
IsUncancelled t tenant = IsOpen t × (tenant ≡ asker_of t.asking) → ⊥

abbrev pub ToldOfCancel : Turn → (tenant : List ℕ) → Told → Type 0
ToldOfCancel t tenant nothing = IsUncancelled t tenant
ToldOfCancel t tenant _ = ⊥

abbrev pub hands_of : Option Moment → List Hand → ℕ
hands_of None hands = 0
hands_of (Some asked) hands = hands_on (place_of asked) hands

-- as many jobs of the query are in workers' hands, and not none
pub record Waits (t : Turn) (jobs : ℕ) : Type 0 where
  pub opened : IsOpen t
  pub counted : jobs ≡ hands_of t.asked t.hands
  pub some : 0 < jobs

-- the ask was refused, or its query was answered in a line above
abbrev pub HasNoneToAnswer : Turn → Type 0
HasNoneToAnswer t = HasNoQuery (what_of t.asked) ⊎ (t.answered ≡ None → ⊥)

-- the ask was refused; or the answer waits. An open query's answer that lacks memory has its entry
abbrev pub ToldOfAnswer : Turn → Told → Type 0
ToldOfAnswer t nothing = HasNoQuery (what_of t.asked)
ToldOfAnswer t (waiting jobs) = Waits t jobs
ToldOfAnswer t no_memory = HasNoneToAnswer t
ToldOfAnswer t _ = ⊥

-- a step line is refused exactly where the ask was
abbrev pub ToldOfPlan : Turn → Told → Type 0
ToldOfPlan t (of_plan plan_refused) = HasNoQuery (what_of t.asked)
ToldOfPlan t (of_plan _) = HasQuery (what_of t.asked)
ToldOfPlan t _ = ⊥

abbrev pub ToldOfKeep : Turn → Told → Type 0
ToldOfKeep t (of_keep keep_refused) = HasNoQuery (what_of t.asked)
ToldOfKeep t (of_keep _) = HasQuery (what_of t.asked)
ToldOfKeep t _ = ⊥

-- a worker is busy exactly where it has a job in hand, and the job that it takes is of an open query
abbrev pub ToldOfTake : ℕ → Turn → Told → Type 0
ToldOfTake w t (of_take busy) = holds w t.hands ≡ true
ToldOfTake w t (of_take none_waits) = holds w t.hands ≡ false
ToldOfTake w t (of_take (took query job leg first last)) = (holds w t.hands ≡ false) × IsOpen t
ToldOfTake w t _ = ⊥

abbrev pub ToldOfDone : ℕ → Turn → Told → Type 0
ToldOfDone w t (of_done empty) = holds w t.hands ≡ false
ToldOfDone w t (of_done _) = holds w t.hands ≡ true
ToldOfDone w t _ = ⊥

-- what was told of a line that has no entry
abbrev pub Unentered : Known → Turn → Line → Told → Type 0
Unentered known t (script.ingest tenant file time) told = ToldOfIngest (known.files file) time told
Unentered known t (script.delete tenant from to selector) told = ToldOfDelete known.refused from to selector told
Unentered known t (script.ask id tenant start end step query) told = ToldOfAsk (ranged known.readings start end step query) told
Unentered known t (script.instant id tenant time query) told = ToldOfAsk (at_once known.readings time query) told
Unentered known t (script.cancel id asked tenant) told = ToldOfCancel t tenant told
Unentered known t (script.answer id asked) told = ToldOfAnswer t told
Unentered known t (script.plan id asked) told = ToldOfPlan t told
Unentered known t (script.keep id asked) told = ToldOfKeep t told
Unentered known t (script.take worker) told = ToldOfTake worker t told
Unentered known t (script.done worker) told = ToldOfDone worker t told
