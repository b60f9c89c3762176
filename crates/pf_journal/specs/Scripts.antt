-- The lines of a script, and the first line that is refused. This project's own; a query and a selector may be any text that
-- is not empty.
use Rattle.std.specs.Prelude.{ℕ, ◌+◌, ◌-◌, ◌*◌, Bool, true, false, ◌&&◌, not, Option, Some, None, Result, Ok, Err, cond, List, [], ◌∷◌, length, codes, nat_eq, nat_le, nat_lt}
use Rattle.std.specs.List.{list_all}
use Rattle.std.specs.Char.{is_ascii_digit}
use Rattle.std.specs.Str.{bytes_eq, is_utf8}
use Rattle.pf_base.specs.LabelSets.{is_empty, goes_on}
use Rattle.pf_base.specs.Limits.{greatest_time}
use Rattle.pf_base.specs.Tenants.{is_tenant}
use Rattle.pf_model.specs.Exposition.{file_lines, is_blank, are_blanks, is_word}
use Rattle.pf_model.specs.Cuts.{Cut, only_if, ◌>>=◌}

-- ---- lines

-- a line that names an ID has the number of the line that asked under it, beside the ID
pub data Line : Type 0 where
  -- take in a file for a tenant; samples without a time have this one, in milliseconds
  ingest : (tenant : List ℕ) → (file : List ℕ) → (time : ℕ) → Line
  -- delete a tenant's samples that a selector accepts, from a time to a time in milliseconds
  delete : (tenant : List ℕ) → (from : ℕ) → (to : ℕ) → (selector : List ℕ) → Line
  -- ask a query of a tenant, from a start to an end by a step in milliseconds, under an ID of the script's own
  ask : (id : List ℕ) → (tenant : List ℕ) → (start : ℕ) → (end : ℕ) → (step : ℕ) → (query : List ℕ) → Line
  -- ask an instant query of a tenant at a time in milliseconds
  instant : (id : List ℕ) → (tenant : List ℕ) → (time : ℕ) → (query : List ℕ) → Line
  -- cancel a query for a tenant
  cancel : (id : List ℕ) → (asked : ℕ) → (tenant : List ℕ) → Line
  -- answer a query
  answer : (id : List ℕ) → (asked : ℕ) → Line
  -- step lines: plan a query, keep what was evaluated of it, and let a worker take a job and be done with it
  plan : (id : List ℕ) → (asked : ℕ) → Line
  keep : (id : List ℕ) → (asked : ℕ) → Line
  take : (worker : ℕ) → Line
  done : (worker : ℕ) → Line

-- a line with its number, from 1
pub record Numbered : Type 0 where
  pub number : ℕ
  pub line : Line

-- ---- words

-- the word that begins some bytes, up to a blank, and what stands behind it
abbrev pub word_cut : List ℕ → Cut
word_cut [] = record { front = []; behind = [] }
word_cut (b ∷ bs) =
    cond (is_blank b) (record { front = []; behind = b ∷ bs })
    (record { front = b ∷ (word_cut bs).front; behind = (word_cut bs).behind })

abbrev pub past_blanks : List ℕ → List ℕ
past_blanks [] = []
past_blanks (b ∷ bs) = cond (is_blank b) (past_blanks bs) (b ∷ bs)

-- a word with a blank or more behind it, and what stands behind the blanks
abbrev pub next_word : List ℕ → Option Cut
next_word bytes =
    only_if (not (is_empty (word_cut bytes).front) && not (is_empty (word_cut bytes).behind))
    (record { front = (word_cut bytes).front; behind = past_blanks (word_cut bytes).behind })

-- what stands behind a word of its own
unfoldable pub behind_word : List ℕ → List ℕ → Option (List ℕ)
behind_word word bytes = do
  c ← next_word bytes
  only_if (bytes_eq c.front word) c.behind

-- one word and nothing else
abbrev pub only_word : List ℕ → Option (List ℕ)
only_word bytes = only_if (is_word bytes) bytes

-- bytes without the blanks at their end
abbrev pub without_blanks : List ℕ → List ℕ
without_blanks [] = []
without_blanks (b ∷ bs) = cond (are_blanks (b ∷ bs)) [] (b ∷ without_blanks bs)

-- what stands there without the blanks at its end, and not empty
unfoldable pub trimmed_text : List ℕ → Option (List ℕ)
trimmed_text bytes = only_if (not (is_empty (without_blanks bytes))) (without_blanks bytes)

-- ---- numbers and names

abbrev pub digits_onto : ℕ → List ℕ → ℕ
digits_onto n [] = n
digits_onto n (d ∷ ds) = digits_onto (n * 10 + (d - 48)) ds

-- the number of one digit or more, below 2^63
unfoldable pub number_of : List ℕ → Option ℕ
number_of ds =
    only_if (not (is_empty ds) && list_all is_ascii_digit ds && nat_lt (digits_onto 0 ds) 9223372036854775808) (digits_onto 0 ds)

-- an ID: 1 to 32 letters, digits or `_`
abbrev pub is_id : List ℕ → Bool
is_id bs = nat_le 1 (length bs) && nat_le (length bs) 32 && list_all goes_on bs

-- ---- the IDs of a script

-- an ID, the line that asked under it, and whether lines behind answer and keep it
pub record Issued : Type 0 where
  pub id : List ℕ
  pub line : ℕ
  pub answered : Bool
  pub kept : Bool

abbrev pub issued_as : List ℕ → List Issued → Option Issued
issued_as id [] = None
issued_as id (i ∷ is) = cond (bytes_eq i.id id) (Some i) (issued_as id is)

abbrev pub is_new : List ℕ → List Issued → Bool
is_new id [] = true
is_new id (i ∷ is) = not (bytes_eq i.id id) && is_new id is

abbrev pub issued_at : List ℕ → ℕ → Issued
issued_at id n = record { id = id; line = n; answered = false; kept = false }

abbrev pub answered_as : List ℕ → List Issued → List Issued
answered_as id [] = []
answered_as id (i ∷ is) =
    cond (bytes_eq i.id id) (record { id = i.id; line = i.line; answered = true; kept = i.kept } ∷ is) (i ∷ answered_as id is)

abbrev pub kept_as : List ℕ → List Issued → List Issued
kept_as id [] = []
kept_as id (i ∷ is) =
    cond (bytes_eq i.id id) (record { id = i.id; line = i.line; answered = i.answered; kept = true } ∷ is) (i ∷ kept_as id is)

-- the IDs behind a line
abbrev pub issued_after : ℕ → Line → List Issued → List Issued
issued_after n (ingest tenant file time) is = is
issued_after n (delete tenant from to selector) is = is
issued_after n (ask id tenant start end step query) is = issued_at id n ∷ is
issued_after n (instant id tenant time query) is = issued_at id n ∷ is
issued_after n (cancel id asked tenant) is = is
issued_after n (answer id asked) is = answered_as id is
issued_after n (plan id asked) is = is
issued_after n (keep id asked) is = kept_as id is
issued_after n (take worker) is = is
issued_after n (done worker) is = is

-- ---- the forms of lines

-- `ingest TENANT FILE`, or `ingest TENANT FILE at MS`
unfoldable pub file_at : List ℕ → Option Cut
file_at bytes = do
  file ← next_word bytes
  only_if (is_utf8 file.front) file

unfoldable pub ingest_at : List ℕ → List ℕ → Option Line
ingest_at tenant bytes = do
  file ← file_at bytes
  word ← behind_word (codes "at") file.behind
  time ← number_of word
  only_if (nat_le time greatest_time) (ingest tenant file.front time)

abbrev pub ingest_with : List ℕ → List ℕ → Option (List ℕ) → Option Line
ingest_with tenant bytes (Some file) = only_if (is_utf8 file) (ingest tenant file 0)
ingest_with tenant bytes None = ingest_at tenant bytes

unfoldable pub ingest_of : List ℕ → Option Line
ingest_of words = do
  tenant ← next_word words
  named ← only_if (is_tenant tenant.front) tenant.behind
  ingest_with tenant.front named (only_word named)

-- `delete TENANT FROM TO SELECTOR`
unfoldable pub delete_of : List ℕ → Option Line
delete_of words = do
  tenant ← next_word words
  from ← next_word tenant.behind
  to ← next_word from.behind
  first ← number_of from.front
  last ← number_of to.front
  selector ← trimmed_text to.behind
  only_if (is_tenant tenant.front) (delete tenant.front first last selector)

-- `ask ID TENANT START END STEP QUERY`, with an ID that is new
unfoldable pub ask_of : List Issued → List ℕ → Option Line
ask_of is words = do
  id ← next_word words
  tenant ← next_word id.behind
  first ← next_word tenant.behind
  last ← next_word first.behind
  by ← next_word last.behind
  start ← number_of first.front
  end ← number_of last.front
  step ← number_of by.front
  query ← trimmed_text by.behind
  only_if (is_id id.front && is_new id.front is && is_tenant tenant.front)
      (ask id.front tenant.front start end step query)

-- `instant ID TENANT TIME QUERY`, with an ID that is new
unfoldable pub instant_of : List Issued → List ℕ → Option Line
instant_of is words = do
  id ← next_word words
  tenant ← next_word id.behind
  at ← next_word tenant.behind
  time ← number_of at.front
  query ← trimmed_text at.behind
  only_if (is_id id.front && is_new id.front is && is_tenant tenant.front) (instant id.front tenant.front time query)

-- `cancel ID TENANT`, with an ID that was asked
unfoldable pub cancel_of : List Issued → List ℕ → Option Line
cancel_of is words = do
  id ← next_word words
  tenant ← only_word id.behind
  i ← issued_as id.front is
  only_if (is_tenant tenant) (cancel i.id i.line tenant)

-- one ID that was asked and not answered, as of `answer ID`
unfoldable pub unanswered_of : List Issued → List ℕ → Option Issued
unanswered_of is words = do
  id ← only_word words
  i ← issued_as id is
  only_if (not i.answered) i

unfoldable pub answer_of : List Issued → List ℕ → Option Line
answer_of is words = do
  i ← unanswered_of is words
  Some (answer i.id i.line)

-- `plan ID`
unfoldable pub plan_of : List Issued → List ℕ → Option Line
plan_of is words = do
  i ← unanswered_of is words
  Some (plan i.id i.line)

-- `keep ID`, once for each ID
unfoldable pub keep_of : List Issued → List ℕ → Option Line
keep_of is words = do
  i ← unanswered_of is words
  only_if (not i.kept) (keep i.id i.line)

-- `take W` and `done W`, W being 0 to 15
unfoldable pub worker_of : List ℕ → Option ℕ
worker_of words = do
  word ← only_word words
  worker ← number_of word
  only_if (nat_le worker 15) worker

unfoldable pub take_of : List ℕ → Option Line
take_of words = do
  worker ← worker_of words
  Some (take worker)

unfoldable pub done_of : List ℕ → Option Line
done_of words = do
  worker ← worker_of words
  Some (done worker)

-- the step lines, where they are allowed
abbrev pub step_with : List Issued → List ℕ → List ℕ → Option Line
step_with is verb words =
    cond (bytes_eq verb (codes "plan")) (plan_of is words)
    (cond (bytes_eq verb (codes "keep")) (keep_of is words)
    (cond (bytes_eq verb (codes "take")) (take_of words) (cond (bytes_eq verb (codes "done")) (done_of words) None)))

-- the line of a verb and what stands behind it
abbrev pub line_with : (steps : Bool) → List Issued → List ℕ → List ℕ → Option Line
line_with steps is verb words =
    cond (bytes_eq verb (codes "ingest")) (ingest_of words)
    (cond (bytes_eq verb (codes "delete")) (delete_of words)
    (cond (bytes_eq verb (codes "ask")) (ask_of is words)
    (cond (bytes_eq verb (codes "instant")) (instant_of is words)
    (cond (bytes_eq verb (codes "cancel")) (cancel_of is words)
    (cond (bytes_eq verb (codes "answer")) (answer_of is words) (cond steps (step_with is verb words) None))))))

unfoldable pub line_of : (steps : Bool) → List Issued → List ℕ → Option Line
line_of steps is bytes = do
  text ← only_if (is_utf8 bytes) bytes
  verb ← next_word text
  line_with steps is verb.front verb.behind

-- ---- scripts

-- empty lines, and lines that begin with `#`, are passed over; they are text like all others
abbrev pub is_passed : List ℕ → Bool
is_passed [] = true
is_passed (b ∷ bs) = nat_eq b 35 && is_utf8 (b ∷ bs)

abbrev pub with_line : Numbered → Result (List Numbered) ℕ → Result (List Numbered) ℕ
with_line l (Err n) = Err n
with_line l (Ok ls) = Ok (l ∷ ls)

-- a line and those behind it, or its number where it is none
abbrev pub read_line : ℕ → Option Line → (Line → Result (List Numbered) ℕ) → Result (List Numbered) ℕ
read_line n None behind = Err n
read_line n (Some l) behind = with_line (record { number = n; line = l }) (behind l)

-- the lines of a script from one of this number on, behind lines that issued these IDs, or the number of the first that is
-- refused; lines that are passed over are counted too
unfoldable pub lines_from : (steps : Bool) → ℕ → List Issued → List (List ℕ) → Result (List Numbered) ℕ
lines_from steps n is [] = Ok []
lines_from steps n is (l ∷ ls) =
    cond (is_passed l) (lines_from steps (n + 1) is ls)
    (read_line n (line_of steps is l) (λ x. lines_from steps (n + 1) (issued_after n x is) ls))

-- the greatest length of a script or a file, in bytes
abbrev pub most_bytes : ℕ
most_bytes = 67108864

-- the lines of a script, with step lines or without, or the number of the first that is refused: 0 where the script is too long
unfoldable pub script_of : (steps : Bool) → List ℕ → Result (List Numbered) ℕ
script_of steps bytes = cond (nat_le (length bytes) most_bytes) (lines_from steps 1 [] (file_lines bytes)) (Err 0)

-- a script with a step line is a stepped one
abbrev pub is_step : Line → Bool
is_step (plan id asked) = true
is_step (keep id asked) = true
is_step (take worker) = true
is_step (done worker) = true
is_step _ = false

abbrev pub is_stepped : List Numbered → Bool
is_stepped [] = false
is_stepped (l ∷ ls) = cond (is_step l.line) true (is_stepped ls)
