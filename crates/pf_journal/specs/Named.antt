-- Histories: a journal with the name of each entry's tenant beside the entry, so that the journal and its names stand in one list.
-- This project's own.
use Rattle.std.specs.Prelude.{◌≡◌, ℕ, Option, Some, None, List, map, slice_get}
use Rattle.pf_model.specs.Lists.{Each}
use Rattle.pf_journal.specs.Machine.{Entry, What, append, delete, ask, full, answer}

-- an entry, with its tenant's name where it has a tenant's number
pub record Named : Type 0 where
  pub entry : Entry
  pub name : Option (List ℕ)

-- that name, by the names of the tenants by number
abbrev pub name_in : (names : List (List ℕ)) → What → Option (List ℕ)
name_in names (append u batch vs entry) = slice_get names u
name_in names (delete u ms from to generation entry) = slice_get names u
name_in names (ask u asked pin generation floor) = slice_get names u
name_in names (full u outstanding) = slice_get names u
name_in names _ = None

abbrev pub named : (names : List (List ℕ)) → Entry → Named
named names e = record { entry = e; name = name_in names e.what }

-- the history of a journal, and the journal of a history
abbrev pub history : (names : List (List ℕ)) → List Entry → List Named
history names journal = map (named names) journal

abbrev pub journal_of : List Named → List Entry
journal_of xs = map (λ x. x.entry) xs

-- the names in a history are these
abbrev pub AreNamedBy : (names : List (List ℕ)) → List Named → Type 0
AreNamedBy names xs = Each (λ x. x.name ≡ name_in names x.entry.what) xs

-- the place of the query that an entry closes
abbrev pub closes_in : What → Option ℕ
closes_in (answer query code cached evaluated) = Some query
closes_in _ = None

abbrev pub closes_of : Named → Option ℕ
closes_of x = closes_in x.entry.what
