-- The words that the program is called with: this project's own.
use Rattle.std.specs.Char.{is_ascii_digit}
use Rattle.std.specs.List.{list_all}
use Rattle.std.specs.Prelude.{ℕ, ◌+◌, Bool, true, false, ◌&&◌, not, Option, Some, None, cond, option_map, List, [], ◌∷◌, codes, drop, map, nat_eq, nat_le, nat_lt, position, take}
use Rattle.std.specs.Option.{unwrap_or}
use Rattle.std.specs.Result.{result_ok}
use Rattle.std.specs.Str.{bytes_eq}
use Rattle.pf_base.specs.DurationScans.{duration_of}
use Rattle.pf_base.specs.LabelSets.{is_empty}
use Rattle.pf_base.specs.Limits.{most_entries}
use Rattle.pf_base.specs.declared.plain.Limits.{Limits}
use Rattle.pf_model.specs.Cuts.{Cut, only_if, ◌>>=◌}
use Rattle.pf_journal.specs.Scripts.{digits_onto, number_of}

-- ---- words

abbrev pub is_dashed : List ℕ → Bool
is_dashed [] = false
is_dashed (b ∷ bs) = nat_eq b 45

-- the options
pub data OptionName : Type 0 where
  of_limit : OptionName
  of_window : OptionName
  of_interval : OptionName
  of_shards : OptionName
  of_extents : OptionName
  of_journal : OptionName

abbrev pub option_name : List ℕ → Option OptionName
option_name name =
    cond (bytes_eq name (codes "limit")) (Some of_limit)
    (cond (bytes_eq name (codes "window")) (Some of_window)
    (cond (bytes_eq name (codes "interval")) (Some of_interval)
    (cond (bytes_eq name (codes "shards")) (Some of_shards)
    (cond (bytes_eq name (codes "extents")) (Some of_extents) (cond (bytes_eq name (codes "journal")) (Some of_journal) None)))))

-- a word where an option may stand
pub data Word : Type 0 where
  -- it doesn't begin with `-`, or is `-` alone
  plain : Word
  -- `--`: the words behind are no options
  last_dashes : Word
  -- `--NAME`, whose value is the next word, and `--NAME=VALUE`
  named : (name : OptionName) → Word
  valued : (name : OptionName) → (value : List ℕ) → Word

-- bytes up to their first `=`, and those behind it
abbrev pub cut_at_equals : List ℕ → Option Cut
cut_at_equals text = option_map (λ n. record { front = take n text; behind = drop (n + 1) text }) (position (λ b. nat_eq b 61) text)

-- what stands behind `--`, by its cut
abbrev pub option_word : List ℕ → Option Cut → Option Word
option_word text (Some c) = option_map (λ name. valued name c.behind) (option_name c.front)
option_word text None = option_map named (option_name text)

-- a word by what stands behind `--`, and behind `-`
abbrev pub behind_two : List ℕ → Option Word
behind_two [] = Some last_dashes
behind_two (b ∷ bs) = option_word (b ∷ bs) (cut_at_equals (b ∷ bs))

abbrev pub behind_one : List ℕ → Option Word
behind_one [] = Some plain
behind_one (b ∷ bs) = cond (nat_eq b 45) (behind_two bs) None

-- any other word that begins with `-` is none
abbrev pub word_of : List ℕ → Option Word
word_of [] = Some plain
word_of (b ∷ bs) = cond (nat_eq b 45) (behind_one bs) (Some plain)

-- ---- the parts of words: options with their values, and other words

pub data Part : Type 0 where
  option : (name : OptionName) → (value : List ℕ) → Part
  other : (word : List ℕ) → Part

abbrev pub with_part : Part → Option (List Part) → Option (List Part)
with_part part parts = option_map (λ ps. part ∷ ps) parts

-- those from a word on where an option may stand, by what the words behind give: where the first is a value, and where none waits
abbrev pub with_word : Word → List ℕ → List (List ℕ) → (OptionName → Option (List Part)) → Option (List Part) → Option (List Part)
with_word plain word words waiting parts = with_part (other word) parts
with_word last_dashes word words waiting parts = Some (map other words)
with_word (named name) word words waiting parts = waiting name
with_word (valued name value) word words waiting parts = with_part (option name value) parts

-- those of words, the first of which is the value of an option that waits for it
abbrev pub parts_of : (waiting : Option OptionName) → List (List ℕ) → Option (List Part)
parts_of None [] = Some []
parts_of (Some name) [] = None
parts_of None (word ∷ words) =
    word_of word >>= (λ w. with_word w word words (λ name. parts_of (Some name) words) (parts_of None words))
parts_of (Some name) (word ∷ words) = cond (is_dashed word) None (with_part (option name word) (parts_of None words))

abbrev pub is_same : OptionName → OptionName → Bool
is_same of_limit of_limit = true
is_same of_window of_window = true
is_same of_interval of_interval = true
is_same of_shards of_shards = true
is_same of_extents of_extents = true
is_same of_journal of_journal = true
is_same _ _ = false

abbrev pub values_of : OptionName → List Part → List (List ℕ)
values_of name [] = []
values_of name (option n value ∷ parts) = cond (is_same name n) (value ∷ values_of name parts) (values_of name parts)
values_of name (other word ∷ parts) = values_of name parts

abbrev pub others_of : List Part → List (List ℕ)
others_of [] = []
others_of (option name value ∷ parts) = others_of parts
others_of (other word ∷ parts) = word ∷ others_of parts

-- ---- `replay [options] SCRIPT`

-- what the words choose: the limits that they tell, and the name of a script; the window and the interval are in milliseconds
pub record Replay : Type 0 where
  pub limit : Option ℕ
  pub window : Option ℕ
  pub interval : Option ℕ
  pub shards : Option ℕ
  pub extents : Option ℕ
  pub journal : Option ℕ
  pub script : List ℕ

-- a number from a least to a greatest
abbrev pub number_within : (least most : ℕ) → List ℕ → Option ℕ
number_within least most value = number_of value >>= (λ n. only_if (nat_le least n && nat_le n most) n)

-- a duration of so many milliseconds or more
abbrev pub duration_from : (least : ℕ) → List ℕ → Option ℕ
duration_from least value = result_ok (duration_of value) >>= (λ n. only_if (nat_le least n) n)

-- what may be left out, and stands once at most
abbrev pub at_most_once : (List ℕ → Option ℕ) → List (List ℕ) → Option (Option ℕ)
at_most_once read [] = Some None
at_most_once read (value ∷ []) = option_map Some (read value)
at_most_once read (value ∷ (again ∷ values)) = None

abbrev pub exactly_one : List (List ℕ) → Option (List ℕ)
exactly_one (word ∷ []) = Some word
exactly_one _ = None

abbrev pub replay_of : List Part → Option Replay
replay_of parts = do
  limit ← at_most_once (number_within 1 10000) (values_of of_limit parts)
  window ← at_most_once (duration_from 0) (values_of of_window parts)
  interval ← at_most_once (duration_from 1000) (values_of of_interval parts)
  shards ← at_most_once (number_within 1 64) (values_of of_shards parts)
  extents ← at_most_once (number_within 1 4096) (values_of of_extents parts)
  journal ← at_most_once (number_within 1 most_entries) (values_of of_journal parts)
  script ← exactly_one (others_of parts)
  Some (record { limit = limit; window = window; interval = interval; shards = shards; extents = extents; journal = journal; script = script })

-- by the words behind the command
abbrev pub replay_behind : List (List ℕ) → Option Replay
replay_behind words = parts_of None words >>= replay_of

abbrev pub replay_words : List (List ℕ) → Option Replay
replay_words [] = None
replay_words (command ∷ words) = cond (bytes_eq command (codes "replay")) (replay_behind words) None

-- the limits that the words choose, and these where they choose none
abbrev pub limits_with : Limits → Replay → Limits
limits_with l r = record {
  outstanding = unwrap_or r.limit l.outstanding;
  window = unwrap_or r.window l.window;
  interval = unwrap_or r.interval l.interval;
  shards = unwrap_or r.shards l.shards;
  extents = unwrap_or r.extents l.extents;
  journal = unwrap_or r.journal l.journal;
}

-- ---- `eval FILE QUERY START END STEP`

-- an evaluation that words name: a query over a file, from a start to an end by a step in milliseconds
pub record Evaluation : Type 0 where
  pub file : List ℕ
  pub query : List ℕ
  pub start : ℕ
  pub end : ℕ
  pub step : ℕ

abbrev pub with_times : (file query : List ℕ) → Option ℕ → Option ℕ → Option ℕ → Option Evaluation
with_times file query (Some start) (Some end) (Some step) =
    Some (record { file = file; query = query; start = start; end = end; step = step })
with_times file query _ _ _ = None

-- neither FILE nor QUERY begins with `-`
abbrev pub evaluation_words : List (List ℕ) → Option Evaluation
evaluation_words (command ∷ (file ∷ (query ∷ (start ∷ (end ∷ (step ∷ [])))))) =
    cond (bytes_eq command (codes "eval") && (not (is_dashed file) && not (is_dashed query)))
    (with_times file query (number_of start) (number_of end) (number_of step)) None
evaluation_words _ = None

-- ---- `load SEED`

-- a number of one digit or more, below 2^64
unfoldable pub seed_of : List ℕ → Option ℕ
seed_of ds =
    only_if (not (is_empty ds) && list_all is_ascii_digit ds && nat_lt (digits_onto 0 ds) 18446744073709551616) (digits_onto 0 ds)

-- the seed of a generated session
abbrev pub load_words : List (List ℕ) → Option ℕ
load_words (command ∷ (seed ∷ [])) = cond (bytes_eq command (codes "load")) (seed_of seed) None
load_words _ = None
