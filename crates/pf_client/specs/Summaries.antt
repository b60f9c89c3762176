-- The sums of a session: what a tally counts, and how the session's client ended. This project's own.
use Rattle.std.specs.Prelude.{◌≡◌, ℕ, Bool, List, [], ◌∷◌}
use Rattle.pf_base.specs.declared.plain.Limits.{Limits}
use Rattle.pf_journal.specs.Legal.{AreNames, Legal, moments}
use Rattle.pf_journal.specs.Machine.{Entry}
use Rattle.pf_journal.specs.Rest.{Rest}
use Rattle.pf_journal.specs.Scripts.{Numbered}
use Rattle.pf_journal.specs.Summaries.{Tally, tally_of}
use Rattle.pf_journal.specs.Weave.{Weave}
use Rattle.pf_model.specs.Queries.{Readings}
use Rattle.pf_client.specs.Replays.{HaveStopped, Held, why_by}

-- a tally counts the answers of a legal journal that is woven from one client's script, with failed tries of this kind
pub record IsSummary (limits : Limits) (held : Held) (lines : List Numbered) (AreTries : List ℕ → Type 0) (full : Bool) (t : Tally) : Type 0 where
  pub journal : List Entry
  pub names : List (List ℕ)
  pub refused : List (List ℕ)
  pub readings : Readings
  pub rest : Rest
  pub legal : Legal limits names journal
  pub named : AreNames names journal
  pub woven : Weave (record { limits = limits; names = names; files = held; refused = refused; readings = readings }) journal (lines ∷ []) rest
  pub ended : HaveStopped (why_by full) rest.clients
  pub tries : AreTries rest.failed
  pub whole : t ≡ tally_of limits (moments journal)
