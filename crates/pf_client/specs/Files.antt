-- Files that were read: this project's own.
use Rattle.std.specs.Prelude.{◌≡◌, ◌≢◌, ℕ, ◌<◌, ◌≤◌, ◌⊎◌, Bool, false, cond, nat_lt, Option, Some, None, List, [], ◌∷◌, length}
use Rattle.std.specs.BTreeMap.{BTreeMap, get_by_text}
use Rattle.std.specs.Str.{bytes_eq}
use Rattle.std.specs.declared.alloc.Global.{Global}
use Rattle.std.specs.declared.string.String.{String}
use Rattle.pf_io.specs.Outside.{Holds, LongerThan}
use Rattle.pf_journal.specs.Scripts.{Line, Numbered, most_bytes}
use Rattle.pf_model.specs.Lists.{Each}
use Rattle.pf_client.specs.Replays.{HasFailed, Held, file_of}
use Rattle.pf_client.specs.declared.loaded.Content.{Content}
use Rattle.pf_client.specs.declared.loaded.Content.TheVariants.{Bytes, TooLong}
use Rattle.pf_client.specs.declared.loaded.LoadError.{LoadError}
use Rattle.pf_client.specs.declared.loaded.LoadError.TheVariants.{Unread, OutOfMemory}
use Rattle.pf_client.specs.declared.loaded.ReadFile.{ReadFile}

-- a line names a file
abbrev pub IsFile : Option (List ℕ) → List ℕ → Type 0
IsFile None name = ⊥
IsFile (Some file) name = file ≡ name

abbrev pub LineNames : Line → List ℕ → Type 0
LineNames line name = IsFile (file_of line) name

abbrev pub NamesFile : List Numbered → List ℕ → Type 0
NamesFile [] name = ⊥
NamesFile (l ∷ ls) name = LineNames l.line name ⊎ NamesFile ls name

-- files that were read, by name
abbrev pub Contents : Type 0
Contents = BTreeMap (String Global) ReadFile

-- what is kept of a file is of these bytes
abbrev pub HoldsContent : List ℕ → Content → Type 0
HoldsContent held (Bytes bytes) = (held ≡ bytes.items) × (length bytes.items ≤ most_bytes)
HoldsContent held TooLong = most_bytes < length held

-- the same where the bytes are told
abbrev pub TellsContent : Option (List ℕ) → Content → Type 0
TellsContent told (Bytes bytes) = Holds told bytes.items × (length bytes.items ≤ most_bytes)
TellsContent told TooLong = LongerThan told most_bytes

abbrev pub IsShort : Content → Type 0
IsShort (Bytes bytes) = length bytes.items ≤ most_bytes
IsShort TooLong = Unit {0}

-- what is kept under a name is what the file of this name holds
abbrev pub AreHeld : Held → Contents → Type 0
AreHeld held kept = (name : List ℕ) (file : ReadFile) → get_by_text kept name ≡ Some file → HoldsContent (held name) file.content

abbrev pub AreTold : (List ℕ → Option (List ℕ)) → Contents → Type 0
AreTold told kept = (name : List ℕ) (file : ReadFile) → get_by_text kept name ≡ Some file → TellsContent (told name) file.content

-- a file is kept under a name
pub record IsKept (kept : Contents) (name : List ℕ) : Type 0 where
  pub file : ReadFile
  pub there : get_by_text kept name ≡ Some file
  pub short : IsShort file.content

-- nothing is kept under a name that is lost
abbrev pub AreThere : (List ℕ → Bool) → Contents → Type 0
AreThere lost kept = (name : List ℕ) (file : ReadFile) → get_by_text kept name ≡ Some file → lost name ≡ false

-- no line behind the last that is noted with a file names it
abbrev pub HaveLast : List Numbered → Contents → Type 0
HaveLast lines kept = (name : List ℕ) (file : ReadFile) → get_by_text kept name ≡ Some file → Each (λ l. LineNames l.line name → l.number ≤ file.last) lines

-- this is kept under a name
pub record HasContent (kept : Contents) (name : List ℕ) (content : Content) : Type 0 where
  pub last : ℕ
  pub there : get_by_text kept name ≡ Some (record { content = content; last = last })

-- what was kept is kept
abbrev pub StayKept : Contents → Contents → Type 0
StayKept old new = (name : List ℕ) (file : ReadFile) → get_by_text old name ≡ Some file → HasContent new name file.content

-- a further line, of this number, names a file that is kept
pub record IsNoted (old : Contents) (name : List ℕ) (number : ℕ) (new : Contents) : Type 0 where
  pub file : ReadFile
  pub before : get_by_text old name ≡ Some file
  pub now : get_by_text new name ≡ Some (record { content = file.content; last = number })
  pub others : (other : List ℕ) → other ≢ name → get_by_text new other ≡ get_by_text old other

-- the files of these names were read, if they were not before, and the line that names them was noted
pub record IsLoaded (told : List ℕ → Option (List ℕ)) (lost : List ℕ → Bool) (old : Contents) (IsNamed : List ℕ → Type 0) (number : ℕ) (new : Contents) : Type 0 where
  pub held : AreTold told new
  pub present : AreThere lost new
  pub there : (name : List ℕ) → IsNamed name → IsKept new name
  pub still : StayKept old new
  pub lasts : (name : List ℕ) (file : ReadFile) → get_by_text new name ≡ Some file
      → (file.last ≡ number) ⊎ ((IsNamed name → ⊥) × (get_by_text old name ≡ Some file))

-- every file that lines name was read, and the last line that names it was noted
pub record AreLoaded (told : List ℕ → Option (List ℕ)) (lost : List ℕ → Bool) (old : Contents) (lines : List Numbered) (new : Contents) : Type 0 where
  pub held : AreTold told new
  pub present : AreThere lost new
  pub there : (name : List ℕ) → NamesFile lines name → IsKept new name
  pub still : StayKept old new
  pub lasts : HaveLast lines new

-- what is left of a file behind the line of a number: all, where a line behind names it
abbrev pub still_needed : ℕ → Option ReadFile → Option ReadFile
still_needed number None = None
still_needed number (Some file) = cond (nat_lt number file.last) (Some file) None

-- a file is let go behind the line of a number, unless a line behind names it, and the others are left
abbrev pub LetsGo : Contents → List ℕ → ℕ → Contents → Type 0
LetsGo old name number new =
    (other : List ℕ) → get_by_text new other ≡ cond (bytes_eq name other) (still_needed number (get_by_text old other)) (get_by_text old other)

-- the same of the file that a line names, if it names one
abbrev pub LetsGoOf : Contents → Option (List ℕ) → ℕ → Contents → Type 0
LetsGoOf old None number new = new ≡ old
LetsGoOf old (Some name) number new = LetsGo old name number new

-- a file that is needed was not read
abbrev pub IsUnread : (List ℕ → Type 0) → (List ℕ → Bool) → ℕ → ℕ → Bool → LoadError → Type 0
IsUnread IsNeeded sure before after failed (Unread name) = IsNeeded name × HasFailed sure before after failed name
IsUnread IsNeeded sure before after failed OutOfMemory = Unit {0}
