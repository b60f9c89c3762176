-- What a script names, how its files are read, and why a run's clients stopped: this project's own.
use Rattle.std.specs.Prelude.{◌≡◌, ℕ, ◌⊎◌, Bool, true, false, Option, Some, None, List, [], ◌∷◌}
use Rattle.pf_io.specs.Outside.{Rose, Holds}
use Rattle.pf_model.specs.Lists.{Each}
use Rattle.pf_journal.specs.Rest.{Client, Why, at_end, at_full, at_memory}
use Rattle.pf_journal.specs.Scripts.{Line, Numbered, ingest}

-- ---- what files hold

-- one reading of each file: bytes for every name
abbrev pub Held : Type 0
Held = List ℕ → List ℕ

-- the bytes are those that are told
abbrev pub Agree : (List ℕ → Option (List ℕ)) → Held → Type 0
Agree told held = (name : List ℕ) → Holds (told name) (held name)

-- the file that a line names, and those that lines name, in the order of the lines
abbrev pub file_of : Line → Option (List ℕ)
file_of (ingest tenant file time) = Some file
file_of _ = None

abbrev pub with_file : Option (List ℕ) → List (List ℕ) → List (List ℕ)
with_file None names = names
with_file (Some file) names = file ∷ names

abbrev pub files_of : List Numbered → List (List ℕ)
files_of [] = []
files_of (l ∷ ls) = with_file (file_of l.line) (files_of ls)

-- ---- how they are read

-- who reads these files in order comes to this one, since none before it is lost
abbrev pub Reaches : (List ℕ → Bool) → List (List ℕ) → List ℕ → Type 0
Reaches lost [] name = ⊥
Reaches lost (n ∷ ns) name = (n ≡ name) ⊎ ((lost n ≡ false) × Reaches lost ns name)

-- the last read failed, where it may have: the name is none that is sure, and the count of faults rose
pub record HasFailed (sure : List ℕ → Bool) (before after : ℕ) (failed : Bool) (name : List ℕ) : Type 0 where
  pub unsure : sure name ≡ false
  pub rose : Rose before after
  pub last : failed ≡ true

-- ---- what a run has

-- each client ran its whole script; or one met the full journal, and none lacked memory; or one lacked memory
abbrev pub HaveStopped : Why → List Client → Type 0
HaveStopped at_end clients = Each (λ c. c.why ≡ at_end) clients
HaveStopped at_full clients = (Each (λ c. c.why ≡ at_full → ⊥) clients → ⊥) × Each (λ c. c.why ≡ at_memory → ⊥) clients
HaveStopped at_memory clients = (Each (λ c. c.why ≡ at_memory → ⊥) clients) → ⊥

-- why clients that lacked no memory stopped, by whether one met the full journal
abbrev pub why_by : (full : Bool) → Why
why_by true = at_full
why_by false = at_end
