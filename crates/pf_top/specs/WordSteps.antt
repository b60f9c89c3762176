-- How the words of a replay are taken one after another: this project's own. The private functions of the reader compute these;
-- what it answers is said by `Words` alone.
use Rattle.std.specs.Prelude.{ℕ, Option, Some, None, cond, option_map, List, [], ◌∷◌, nat_eq}
use Rattle.pf_base.specs.Limits.{most_entries}
use Rattle.pf_model.specs.Cuts.{only_if, ◌>>=◌}
use Rattle.pf_top.specs.Commands as commands
use Rattle.pf_top.specs.Words as words
use Rattle.pf_top.specs.Words.{OptionName, Word, plain, last_dashes, named, valued, of_limit, of_window, of_interval, of_shards, of_extents, of_journal, duration_from, is_dashed, number_within, word_of}
use Rattle.pf_top.specs.declared.options.Given.{Given as GivenCode}
use Rattle.pf_top.specs.declared.options.Name.{Name}
use Rattle.pf_top.specs.declared.options.Name.TheVariants as code
use Rattle.pf_top.specs.declared.options.Next.{Next as NextCode}
use Rattle.pf_top.specs.declared.options.Next.TheVariants as code_next
use Rattle.pf_top.specs.declared.options.Word.{Word as WordCode}
use Rattle.pf_top.specs.declared.options.Word.TheVariants as code_word
use Rattle.pf_top.specs.declared.words.Command.{Command}
use Rattle.pf_top.specs.declared.words.Command.TheVariants as code_command
use Rattle.pf_top.specs.declared.words.Evaluation.{Evaluation}
use Rattle.pf_top.specs.declared.words.Replay.{Replay}

-- what stands behind a `-` in front
abbrev pub behind_dash : List ℕ → Option (List ℕ)
behind_dash [] = None
behind_dash (b ∷ bs) = only_if (nat_eq b 45) bs

-- what the words so far choose
pub record Given : Type 0 where
  pub limit : Option ℕ
  pub window : Option ℕ
  pub interval : Option ℕ
  pub shards : Option ℕ
  pub extents : Option ℕ
  pub journal : Option ℕ
  pub script : Option (List ℕ)

-- what the next word may be: any, the value of an option, or one that is none
pub data Next : Type 0 where
  any : Next
  value_of : OptionName → Next
  other : Next

-- what may stand once
abbrev pub once : {X : Type 0} → Option X → Option X → Option X
once None now = now
once (Some before) now = None

abbrev pub with_option : Given → OptionName → List ℕ → Option Given
with_option g of_limit value = option_map (λ n. record g { limit = Some n }) (once g.limit (number_within 1 10000 value))
with_option g of_window value = option_map (λ n. record g { window = Some n }) (once g.window (duration_from 0 value))
with_option g of_interval value = option_map (λ n. record g { interval = Some n }) (once g.interval (duration_from 1000 value))
with_option g of_shards value = option_map (λ n. record g { shards = Some n }) (once g.shards (number_within 1 64 value))
with_option g of_extents value = option_map (λ n. record g { extents = Some n }) (once g.extents (number_within 1 4096 value))
with_option g of_journal value = option_map (λ n. record g { journal = Some n }) (once g.journal (number_within 1 most_entries value))

abbrev pub with_script : Given → List ℕ → Option Given
with_script g word = option_map (λ s. record g { script = Some s }) (once g.script (Some word))

abbrev pub before : Next → Option Given → Option (Given × Next)
before next given = option_map (λ g. (g, next)) given

-- a word that may be an option, and any word
abbrev pub with_word : Given → Word → List ℕ → Option (Given × Next)
with_word g plain word = before any (with_script g word)
with_word g last_dashes word = Some (g, other)
with_word g (named name) word = Some (g, value_of name)
with_word g (valued name value) word = before any (with_option g name value)

abbrev pub step : Given → Next → List ℕ → Option (Given × Next)
step g any word = word_of word >>= (λ w. with_word g w word)
step g (value_of name) word = cond (is_dashed word) None (before any (with_option g name word))
step g other word = before other (with_script g word)

abbrev pub read_all : Given → Next → List (List ℕ) → Option (Given × Next)
read_all g next [] = Some (g, next)
read_all g next (word ∷ words) = step g next word >>= (λ s. read_all s.0 s.1 words)

-- no option waits for its value, and a script is named
abbrev pub replay_by : Given → Option (List ℕ) → Next → Option words.Replay
replay_by g script (value_of name) = None
replay_by g None _ = None
replay_by g (Some script) _ =
    Some (record { limit = g.limit; window = g.window; interval = g.interval; shards = g.shards; extents = g.extents; journal = g.journal; script = script })

abbrev pub nothing_given : Given
nothing_given = record { limit = None; window = None; interval = None; shards = None; extents = None; journal = None; script = None }

-- ---- the values of the code

abbrev pub name_in : Name → OptionName
name_in code.Limit = of_limit
name_in code.Window = of_window
name_in code.Interval = of_interval
name_in code.Shards = of_shards
name_in code.Extents = of_extents
name_in code.Journal = of_journal

abbrev pub word_in : WordCode → Word
word_in code_word.Plain = plain
word_in code_word.LastDashes = last_dashes
word_in (code_word.Named name) = named (name_in name)
word_in (code_word.Valued name value) = valued (name_in name) value.now

abbrev pub next_in : NextCode → Next
next_in code_next.Any = any
next_in (code_next.ValueOf name) = value_of (name_in name)
next_in code_next.Other = other

abbrev pub given_in : GivenCode → Given
given_in g = record { limit = g.limit; window = g.window; interval = g.interval; shards = g.shards; extents = g.extents; journal = g.journal; script = option_map (λ s. s.now) g.script }

abbrev pub state_in : GivenCode × NextCode → Given × Next
state_in s = (given_in s.0, next_in s.1)

abbrev pub replay_in : Replay → words.Replay
replay_in r = record { limit = r.limit; window = r.window; interval = r.interval; shards = r.shards; extents = r.extents; journal = r.journal; script = r.script.now }

abbrev pub evaluation_in : Evaluation → words.Evaluation
evaluation_in e = record { file = e.file.now; query = e.query.now; start = e.start; end = e.end; step = e.step }

abbrev pub command_in : Command → commands.Command
command_in (code_command.Replay r) = commands.replay (replay_in r)
command_in (code_command.Evaluate e) = commands.evaluate (evaluation_in e)
command_in (code_command.Load seed) = commands.load seed
