-- Queries and selectors that were read: this project's own.
use Rattle.std.specs.Arc.{arc_value}
use Rattle.std.specs.BTreeMap.{BTreeMap, get_by_text}
use Rattle.std.specs.Prelude.{◌≡◌, ℕ, Option, Some, None, option_and_then, option_map, List}
use Rattle.std.specs.declared.alloc.Global.{Global}
use Rattle.std.specs.declared.string.String.{String}
use Rattle.pf_model.specs.ErrorTexts.{QueryFault}
use Rattle.pf_match.specs.Tables.{AreTooBig}
use Rattle.pf_model.specs.Queries.{IsFaultOf, IsNoSelector, IsReading, IsSelector, Reading, Readings, lawful, no_selector, refused, selecting, selector}
use Rattle.pf_model.specs.Trees.{Tree}
use Rattle.pf_journal.specs.Rest.{Known}
use Rattle.pf_journal.specs.Scripts.{Line, delete, ask, instant}
use Rattle.pf_types.specs.Errors.{query_fault}
use Rattle.pf_client.specs.Files.{AreHeld}
use Rattle.pf_client.specs.declared.loaded.Loaded.{Loaded}
use Rattle.pf_client.specs.declared.queries.QueryRead.{QueryRead}
use Rattle.pf_client.specs.declared.queries.QueryRead.TheVariants as query
use Rattle.pf_client.specs.declared.queries.SelectorRead.{SelectorRead}
use Rattle.pf_client.specs.declared.queries.SelectorRead.TheVariants as chosen
use Rattle.pf_client.specs.declared.queries.TextRead.{TextRead}

-- what texts are read as, by text
abbrev pub Queries : Type 0
Queries = BTreeMap (String Global) TextRead

-- what a text is read as where a query stands is right, by the refused patterns
abbrev pub IsQueryRead : (refs : List (List ℕ)) → List ℕ → QueryRead → Type 0
IsQueryRead refs text (query.Lawful q) = IsReading refs text (lawful (arc_value q))
IsQueryRead refs text (query.Refused e) = (fault : QueryFault) × ((query_fault e ≡ Some fault) × IsFaultOf refs text fault)

-- what a tree is read as, as a deletion's selector
abbrev pub SelectsAs : (refs : List (List ℕ)) → Tree → SelectorRead → Type 0
SelectsAs refs tree (chosen.Built ms) = selecting refs tree ≡ selector (arc_value ms)
SelectsAs refs tree chosen.Refused = selecting refs tree ≡ no_selector

-- what a text is read as where a deletion's selector stands is right
abbrev pub IsSelectorRead : (refs : List (List ℕ)) → List ℕ → SelectorRead → Type 0
IsSelectorRead refs text (chosen.Built ms) = IsSelector refs text (arc_value ms)
IsSelectorRead refs text chosen.Refused = IsNoSelector refs text

abbrev pub IsReadAs : (refs : List (List ℕ)) → List ℕ → TextRead → Type 0
IsReadAs refs text read = IsQueryRead refs text read.query × IsSelectorRead refs text read.selector

abbrev pub AreReadBy : (refs : List (List ℕ)) → Queries → Type 0
AreReadBy refs kept = (text : List ℕ) (q : TextRead) → get_by_text kept text ≡ Some q → IsReadAs refs text q

-- the same for one list of refused patterns, which compile too big
pub record AreReadAs (kept : Queries) : Type 0 where
  pub refs : List (List ℕ)
  pub too_big : AreTooBig refs
  pub right : AreReadBy refs kept

-- how a query is read
abbrev pub query_reading : QueryRead → Option Reading
query_reading (query.Lawful q) = Some (lawful (arc_value q))
query_reading (query.Refused e) = option_map refused (query_fault e)

abbrev pub reading_in : TextRead → Option Reading
reading_in read = query_reading read.query

abbrev pub readings_in : Queries → Readings
readings_in kept text = option_and_then reading_in (get_by_text kept text)

-- a text was read
pub record IsTextKept (kept : Queries) (text : List ℕ) : Type 0 where
  pub read : TextRead
  pub there : get_by_text kept text ≡ Some read

-- the query or the selector of a line
abbrev pub text_in : Line → Option (List ℕ)
text_in (delete tenant from to words) = Some words
text_in (ask id tenant start end step words) = Some words
text_in (instant id tenant time words) = Some words
text_in _ = None

abbrev pub IsKept : Queries → Option (List ℕ) → Type 0
IsKept kept None = Unit {0}
IsKept kept (Some text) = IsTextKept kept text

-- that of a line was read
abbrev pub IsKeptFor : Queries → Line → Type 0
IsKeptFor kept line = IsKept kept (text_in line)

-- what was read stays
abbrev pub StayRead : Queries → Queries → Type 0
StayRead old new = (text : List ℕ) (q : TextRead) → get_by_text old text ≡ Some q → get_by_text new text ≡ Some q

-- a text was read, if it was not before
pub record IsTextRead (old : Queries) (text : List ℕ) (new : Queries) : Type 0 where
  pub read : TextRead
  pub there : get_by_text new text ≡ Some read
  pub still : StayRead old new

-- the text of a line was read
pub record IsLineRead (old : Queries) (line : Line) (new : Queries) : Type 0 where
  pub kept : IsKeptFor new line
  pub still : StayRead old new

-- what lines are judged by is what was loaded
pub record IsTold (known : Known) (loaded : Loaded) : Type 0 where
  pub held : AreHeld known.files loaded.files
  pub readings : known.readings ≡ readings_in loaded.queries
  pub right : AreReadBy known.refused loaded.queries

-- what was loaded first is told of what is left of it
abbrev pub IsPart : Loaded → Loaded → Type 0
IsPart first loaded = (known : Known) → IsTold known first → IsTold known loaded
