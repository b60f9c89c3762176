-- The run of a script: this project's own.
use Rattle.std.specs.Prelude.{◌≡◌, ℕ, Option, List, [], ◌∷◌, ◌++◌, drop}
use Rattle.pf_base.specs.declared.plain.Limits.{Limits}
use Rattle.pf_core.specs.Cores.{CoreData, Stands}
use Rattle.pf_journal.specs.Legal.{AreNames, Legal}
use Rattle.pf_journal.specs.Machine.{Entry}
use Rattle.pf_journal.specs.Report.{actors_from, journal_text, report}
use Rattle.pf_journal.specs.Rest.{Rest, Why, at_end, at_full, at_memory}
use Rattle.pf_journal.specs.Scripts.{Numbered}
use Rattle.pf_journal.specs.Weave.{Weave}
use Rattle.pf_model.specs.Lists.{Each}
use Rattle.pf_model.specs.Queries.{Readings}
use Rattle.pf_script.specs.Lines.{AllFollow, IsRead, lines_of}
use Rattle.pf_script.specs.declared.script.Script.{Script}
use Rattle.pf_client.specs.Replays.{HaveStopped, Held}
use Rattle.pf_client.specs.Files.{HaveLast, IsKept, NamesFile}
use Rattle.pf_client.specs.Going.{IsGoing}
use Rattle.pf_client.specs.Queries.{AreReadAs, IsKeptFor}
use Rattle.pf_client.specs.Sent.{WritesFront}
use Rattle.pf_client.specs.declared.client.Client.{Client}
use Rattle.pf_client.specs.declared.client.LineRun.{LineRun}
use Rattle.pf_client.specs.declared.client.LineRun.TheVariants.{On, Full, Starved}
use Rattle.pf_client.specs.declared.loaded.Loaded.{Loaded}

-- the lines of a script behind its first n can run: with what the files that they name hold, and how its queries are read
pub record CanRun (script : Script) (n : ℕ) (loaded : Loaded) : Type 0 where
  pub files : (name : List ℕ) → NamesFile (drop n (lines_of script)) name → IsKept loaded.files name
  pub lasts : HaveLast (lines_of script) loaded.files
  pub right : AreReadAs loaded.queries
  pub texts : Each (λ l. IsKeptFor loaded.queries l.line) (lines_of script)
  pub read : Each IsRead script.lines.items
  pub following : AllFollow [] (lines_of script)

-- why a client stopped, by how its last line ran
abbrev pub why_of : LineRun → Why
why_of On = at_end
why_of Full = at_full
why_of Starved = at_memory

-- text is the report of a legal journal that is woven from one client's script, which stopped for this cause, with failed tries of
-- this kind
pub record IsReport (limits : Limits) (held : Held) (lines : List Numbered) (AreTries : List ℕ → Type 0) (why : Why) (text : List ℕ) : Type 0 where
  pub journal : List Entry
  pub names : List (List ℕ)
  pub refused : List (List ℕ)
  pub readings : Readings
  pub rest : Rest
  pub legal : Legal limits names journal
  pub named : AreNames names journal
  pub woven : Weave (record { limits = limits; names = names; files = held; refused = refused; readings = readings }) journal (lines ∷ []) rest
  pub stopped : HaveStopped why rest.clients
  pub tries : AreTries rest.failed
  pub whole : text ≡ report (record { limits = limits; names = names; files = held; refused = refused; readings = readings }) journal (lines ∷ []) rest

-- the same for any cause
abbrev pub IsAnyReport : Limits → Held → List Numbered → (AreTries : List ℕ → Type 0) → (text : List ℕ) → Type 0
IsAnyReport limits held lines AreTries text = (why : Why) × IsReport limits held lines AreTries why text

-- what a client that stopped has still to say: what it holds, the journal and the actors' failed tries
abbrev pub left_text : Client → List ℕ
left_text c = c.out.items ++ (journal_text c.core.names c.core.journal ++ actors_from 0 c.core.failed)

-- the client of a number broke off on its way, with a core of this kind, and of what it had said a front was written
pub record BreaksOff (number : ℕ) (loaded : Loaded) (limits : Limits) (lines : List Numbered) (IsCore : CoreData → Type 0) (old new : Option (List ℕ)) : Type 0 where
  pub n : ℕ
  pub sent : List ℕ
  pub client : Client
  pub numbered : client.client ≡ number
  pub going : IsGoing loaded limits lines n sent client
  pub stands : Stands client.core
  pub core : IsCore client.core
  pub front : WritesFront old new (sent ++ client.out.items)
