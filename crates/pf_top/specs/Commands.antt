-- What the program prints, command by command: this project's own. A command is a constructor with its words read, the files
-- that it needs, and a relation of a text and its status.
use Rattle.std.specs.Prelude.{◌≡◌, ℕ, ◌⊎◌, Bool, true, false, Option, Some, None, option_map, Result, Ok, Err, List, [], ◌∷◌}
use Rattle.std.specs.Option.{option_or}
use Rattle.pf_base.specs.Batches.{BatchData}
use Rattle.pf_base.specs.Grids.{grid_of}
use Rattle.pf_base.specs.declared.plain.Limits.{Limits}
use Rattle.pf_gen.specs.Sessions.{session}
use Rattle.pf_match.specs.Tables.{AreTooBig}
use Rattle.pf_model.specs.Log.{batch_samples}
use Rattle.pf_model.specs.Queries.{IsReading, Reading, Readings}
use Rattle.pf_journal.specs.Asking.{asked_with}
use Rattle.pf_journal.specs.Evaluations.{evaluated_text}
use Rattle.pf_journal.specs.Files.{Gives, IsRefusedAs, FileRefusal}
use Rattle.pf_journal.specs.Legal.{Legal, AreNames}
use Rattle.pf_journal.specs.Machine.{Entry}
use Rattle.pf_journal.specs.Report.{report}
use Rattle.pf_journal.specs.Rest.{Rest, Why, at_end, at_full}
use Rattle.pf_journal.specs.Scripts.{Numbered, script_of}
use Rattle.pf_journal.specs.Summaries.{Tally, summary_text}
use Rattle.pf_journal.specs.Weave.{Weave}
use Rattle.pf_client.specs.Replays.{Agree, HaveStopped, Held, files_of}
use Rattle.pf_client.specs.Summaries.{IsSummary}
use Rattle.pf_client.specs.Tries.{AreSpared}
use Rattle.pf_top.specs.Pages.{page_in}
use Rattle.pf_top.specs.Refusals.{refused_file, refused_not_built, refused_script}
use Rattle.pf_top.specs.Seen.{AllRead, FilesSeen, HopsSeen, Unread}
use Rattle.pf_top.specs.Words.{Evaluation, Replay, evaluation_words, limits_with, load_words, replay_words}

pub data Command : Type 0 where
  replay : Replay → Command
  evaluate : Evaluation → Command
  load : (seed : ℕ) → Command

-- the one that the words name, where it is built
abbrev pub command_of : List (List ℕ) → Option Command
command_of words =
    option_or (option_map replay (replay_words words))
    (option_or (option_map evaluate (evaluation_words words)) (option_map load (load_words words)))

-- ---- the files of a command

abbrev pub reads_files : Option Command → Bool
reads_files None = false
reads_files (Some (replay r)) = true
reads_files (Some (evaluate e)) = true
reads_files (Some (load seed)) = false

abbrev pub script_files : Result (List Numbered) ℕ → List (List ℕ)
script_files (Err line) = []
script_files (Ok lines) = files_of lines

-- those that are needed, in the order in which they are read: a script, and what it names if it runs; or the file of an
-- evaluation
abbrev pub needed : Held → Option Command → List (List ℕ)
needed held None = []
needed held (Some (replay r)) = r.script ∷ script_files (script_of true (held r.script))
needed held (Some (evaluate e)) = e.file ∷ []
needed held (Some (load seed)) = []

-- ---- what each command prints, once its files are read: a text with its status

-- text is the report of a legal journal that is woven from the scripts, within these limits, by clients that stopped for this
-- cause; where each hop tells what it counts at most, failed tries are no more than what was left to count
pub record Reported (limits : Limits) (hops : HopsSeen) (held : Held) (scripts : List (List Numbered)) (why : Why) (text : List ℕ) : Type 0 where
  pub journal : List Entry
  pub names : List (List ℕ)
  pub refused : List (List ℕ)
  pub readings : Readings
  pub rest : Rest
  pub legal : Legal limits names journal
  pub named : AreNames names journal
  pub woven : Weave (record { limits = limits; names = names; files = held; refused = refused; readings = readings }) journal scripts rest
  pub stopped : HaveStopped why rest.clients
  pub spared : AreSpared hops.most hops.before rest.failed
  pub whole : text ≡ report (record { limits = limits; names = names; files = held; refused = refused; readings = readings }) journal scripts rest

-- 0: each client ran its whole script; 8: one met the full journal; 6, of which only a front need be written: any cause
abbrev pub IsReported : Limits → HopsSeen → Held → List (List Numbered) → ℕ → List ℕ → Type 0
IsReported limits hops held scripts status text =
    ((status ≡ 0) × Reported limits hops held scripts at_end text)
    ⊎ (((status ≡ 8) × Reported limits hops held scripts at_full text)
    ⊎ ((status ≡ 6) × ((why : Why) × Reported limits hops held scripts why text)))

-- the report of the script that is named, within the limits that are chosen; 3: its first line that is none, or 0 where it is
-- too long
abbrev pub ReplayTells : Limits → HopsSeen → Held → Replay → ℕ → List ℕ → Type 0
ReplayTells limits hops held r status text =
    ((lines : List Numbered) × ((script_of true (held r.script) ≡ Ok lines) × IsReported (limits_with limits r) hops held (lines ∷ []) status text))
    ⊎ ((status ≡ 3) × ((line : ℕ) × ((script_of true (held r.script) ≡ Err line) × (text ≡ refused_script 0 line))))

-- what is printed of a query over times, and the samples of a batch, with some patterns that compile too big
abbrev pub IsText : BatchData → (query : List ℕ) → (start end step : ℕ) → List ℕ → Type 0
IsText batch query start end step text =
    (refused : List (List ℕ)) × (AreTooBig refused × ((reading : Reading) × (IsReading refused query reading
    × (text ≡ evaluated_text (batch_samples batch.rows) (asked_with false (grid_of start end step) (Some reading))))))

abbrev pub IsEvaluationText : BatchData → Evaluation → List ℕ → Type 0
IsEvaluationText batch e text = IsText batch e.query e.start e.end e.step text

-- 0: the query over the samples of the file, which has these bytes; 3: at which line the file is refused
abbrev pub EvaluationTells : (bytes : List ℕ) → Evaluation → ℕ → List ℕ → Type 0
EvaluationTells bytes e status text =
    ((status ≡ 0) × ((batch : BatchData) × (Gives bytes 0 batch × IsEvaluationText batch e text)))
    ⊎ ((status ≡ 3) × ((refusal : FileRefusal) × (IsRefusedAs bytes 0 refusal × (text ≡ refused_file refusal))))

-- text sums up a legal journal that is woven from one script, whose client met the full journal or ran it whole, with failed tries
-- as above
abbrev pub IsSum : Limits → HopsSeen → Held → (seed queries : ℕ) → List Numbered → (full : Bool) → List ℕ → Type 0
IsSum limits hops held seed queries lines full text =
    (t : Tally) × (IsSummary limits held lines (AreSpared hops.most hops.before) full t × (text ≡ summary_text seed queries t))

-- 0: the client ran the whole script; 8: it met the full journal
abbrev pub IsSummed : Limits → HopsSeen → Held → (seed queries : ℕ) → List Numbered → ℕ → List ℕ → Type 0
IsSummed limits hops held seed queries lines status text =
    ((status ≡ 0) × IsSum limits hops held seed queries lines false text) ⊎ ((status ≡ 8) × IsSum limits hops held seed queries lines true text)

-- the sums of the generated session of a seed, over its pages, which asks a hundred queries
abbrev pub SessionTells : Limits → HopsSeen → (seed : ℕ) → ℕ → List ℕ → Type 0
SessionTells limits hops seed status text =
    (lines : List Numbered) × ((script_of false (session seed).script ≡ Ok lines)
    × IsSummed limits hops (page_in (session seed).files) seed 100 lines status text)

-- ---- what the program prints

-- by the command; 9: the words are of no form that is built
abbrev pub Tells : Limits → HopsSeen → Held → Option Command → ℕ → List ℕ → Type 0
Tells limits hops held None status text = (status ≡ 9) × (text ≡ refused_not_built)
Tells limits hops held (Some (replay r)) status text = ReplayTells limits hops held r status text
Tells limits hops held (Some (evaluate e)) status text = EvaluationTells (held e.file) e status text
Tells limits hops held (Some (load seed)) status text = SessionTells limits hops seed status text

-- a text with its status, over one reading of each file, which gave what is told: all files that are needed were read; or 4:
-- one was not
pub record Says (limits : Limits) (hops : HopsSeen) (files : FilesSeen) (command : Option Command) (status : ℕ) (text : List ℕ) : Type 0 where
  pub held : Held
  pub agree : Agree files.told held
  pub said : (AllRead files (needed held command) × Tells limits hops held command status text)
      ⊎ ((status ≡ 4) × Unread files (needed held command) text)
