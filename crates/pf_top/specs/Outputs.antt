-- What a replay gives, and what of it is left to be written: this project's own.
use Rattle.std.specs.Prelude.{◌≡◌, ℕ, ◌⊎◌, Option, List, [], ◌∷◌}
use Rattle.pf_base.specs.Limits.{most_entries}
use Rattle.pf_base.specs.declared.plain.Limits.{Limits}
use Rattle.pf_journal.specs.Scripts.{Numbered}
use Rattle.pf_client.specs.Replays.{Agree, Held, files_of}
use Rattle.pf_client.specs.Sent.{WritesTo}
use Rattle.pf_top.specs.Commands.{IsReported}
use Rattle.pf_top.specs.Seen.{AllRead, FilesSeen, HopsSeen, Unread}

-- a run without options: ten minutes of window, a day of interval
abbrev pub default_limits : Limits
default_limits =
    record { outstanding = 100; window = 600000; interval = 86400000; shards = 4; extents = 256; journal = most_entries }

-- of a text of this kind all was written but what is left
abbrev pub Prints : (List ℕ → Type 0) → (old new : Option (List ℕ)) → (left : List ℕ) → Type 0
Prints IsText old new left = (text : List ℕ) × (IsText text × WritesTo old new text left)

-- a text with its status, once the script is read: over one reading of each file, which gave what is told, and these bytes
-- of the script
pub record IsReplay (limits : Limits) (hops : HopsSeen) (files : FilesSeen) (script bytes : List ℕ) (lines : List Numbered) (status : ℕ) (text : List ℕ) : Type 0 where
  pub held : Held
  pub agree : Agree files.told held
  pub same : held script ≡ bytes
  pub output : (AllRead files (files_of lines) × IsReported limits hops held (lines ∷ []) status text) ⊎ ((status ≡ 4) × Unread files (files_of lines) text)
