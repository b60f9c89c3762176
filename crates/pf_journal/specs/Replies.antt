-- The replies to a client's lines. This project's own.
use Rattle.std.specs.Prelude.{ℕ, ◌+◌, ◌||◌, Option, Some, None, Result, Err, List, [], ◌∷◌, ◌++◌, codes, cond, nat_eq, nat_lt}
use Rattle.std.specs.Fmt.{decimal}
use Rattle.std.specs.Str.{bytes_eq}
use Rattle.pf_base.specs.Limits.{greatest_time}
use Rattle.pf_base.specs.NumberTexts.{value_text}
use Rattle.pf_base.specs.declared.plain.Limits.{Limits}
use Rattle.pf_model.specs.Exposition.{bad_line, late_line, too_many}
use Rattle.pf_model.specs.Log.{Verdict, taken, too_old, repeated, differs}
use Rattle.pf_journal.specs.Asking.{Asked, ranged, at_once}
use Rattle.pf_journal.specs.Bodies.{body_text, cancelled_body, failed_body, full_body, memory_body, refused_body, tenants_body}
use Rattle.pf_journal.specs.Entered.{what_of}
use Rattle.pf_journal.specs.Files.{FileRefusal, at_line, too_long}
use Rattle.pf_journal.specs.Legal.{Moment}
use Rattle.pf_journal.specs.Machine.{What, append, delete, ask, full, answer, Open, answer_of, open_at}
use Rattle.pf_journal.specs.Rest.{Known, Told, refused_file, no_memory, journal_full, waiting, of_plan, of_take, of_done, of_keep, failed_five}
use Rattle.pf_journal.specs.Scripts.{Line}
use Rattle.pf_journal.specs.Scripts as script
use Rattle.pf_journal.specs.Steps.{Stop, by_cancel, by_tries, by_memory, planned, planned_before, plan_stopped, took, busy, stored, again, exhausted, lacked, gone, not_held, kept, outdated, keep_lacked, keep_failed, keep_waits, keep_stopped, unplanned}
use Rattle.pf_journal.specs.Turns.{Ran, Turn, asker_of, place_of}

-- words with one blank between them, and a line feed behind the last
abbrev pub line_text : List (List ℕ) → List ℕ
line_text [] = 10 ∷ []
line_text (w ∷ []) = w ++ (10 ∷ [])
line_text (w ∷ (v ∷ ws)) = w ++ (32 ∷ line_text (v ∷ ws))

-- the number of a line, its verb, and whom or what it names
abbrev pub reply_line : ℕ → List ℕ → List ℕ → List (List ℕ) → List ℕ
reply_line n verb name words = line_text (decimal n ∷ verb ∷ name ∷ words)

abbrev pub journal_words : List (List ℕ)
journal_words = codes "journal" ∷ codes "full" ∷ []

abbrev pub memory_words : List (List ℕ)
memory_words = codes "out" ∷ codes "of" ∷ codes "memory" ∷ []

abbrev pub tenants_words : List (List ℕ)
tenants_words = codes "too" ∷ codes "many" ∷ codes "tenants" ∷ []

-- ---- ingest

-- how many verdicts of each kind
abbrev pub count_taken : List Verdict → ℕ
count_taken [] = 0
count_taken (taken ∷ vs) = 1 + count_taken vs
count_taken (v ∷ vs) = count_taken vs

abbrev pub count_repeated : List Verdict → ℕ
count_repeated [] = 0
count_repeated (repeated ∷ vs) = 1 + count_repeated vs
count_repeated (v ∷ vs) = count_repeated vs

abbrev pub count_refused : List Verdict → ℕ
count_refused [] = 0
count_refused (too_old floor ∷ vs) = 1 + count_refused vs
count_refused (differs held ∷ vs) = 1 + count_refused vs
count_refused (v ∷ vs) = count_refused vs

-- a line for each refused row, which are counted from 0
abbrev pub refusal_text : ℕ → Verdict → List ℕ
refusal_text i taken = []
refusal_text i repeated = []
refusal_text i (too_old floor) =
    codes "  " ++ line_text (codes "sample" ∷ decimal i ∷ codes "too_old" ∷ decimal floor ∷ [])
refusal_text i (differs held) =
    codes "  " ++ line_text (codes "sample" ∷ decimal i ∷ codes "differs" ∷ value_text held ∷ [])

abbrev pub refusals_from : ℕ → List Verdict → List ℕ
refusals_from i [] = []
refusals_from i (v ∷ vs) = refusal_text i v ++ refusals_from (i + 1) vs

-- why a file is refused
abbrev pub refusal_words : FileRefusal → List (List ℕ)
refusal_words (at_line bad_line n) = codes "bad" ∷ codes "line" ∷ decimal n ∷ []
refusal_words (at_line late_line n) = codes "time" ∷ codes "too" ∷ codes "large" ∷ codes "line" ∷ decimal n ∷ []
refusal_words (at_line too_many n) = codes "too" ∷ codes "many" ∷ codes "samples" ∷ []
refusal_words too_long = codes "file" ∷ codes "too" ∷ codes "long" ∷ []

abbrev pub ingested : ℕ → List ℕ → ℕ → List Verdict → ℕ → List ℕ
ingested n tenant skipped vs entry =
    reply_line n (codes "ingest") tenant
    (codes "taken" ∷ decimal (count_taken vs) ∷ codes "repeated" ∷ decimal (count_repeated vs)
    ∷ codes "refused" ∷ decimal (count_refused vs) ∷ codes "skipped" ∷ decimal skipped ∷ codes "entry" ∷ decimal entry ∷ [])
    ++ refusals_from 0 vs

abbrev pub uningested_words : Told → List (List ℕ)
uningested_words (refused_file refusal) = refusal_words refusal
uningested_words journal_full = journal_words
uningested_words _ = memory_words

abbrev pub ingest_reply : ℕ → List ℕ → Told → Option What → List ℕ
ingest_reply n tenant told None = reply_line n (codes "ingest") tenant (uningested_words told)
ingest_reply n tenant told (Some (append u batch vs entry)) = ingested n tenant batch.skipped vs entry
ingest_reply n tenant told (Some _) = reply_line n (codes "ingest") tenant tenants_words

-- ---- delete

-- the range is refused, or else the selector; or the journal is full, or there is no memory
abbrev pub undeleted_words : ℕ → ℕ → Told → List (List ℕ)
undeleted_words from to journal_full = journal_words
undeleted_words from to no_memory = memory_words
undeleted_words from to _ =
    cond (nat_lt to from || nat_lt greatest_time to) (codes "bad" ∷ codes "range" ∷ []) (codes "bad" ∷ codes "selector" ∷ [])

abbrev pub delete_reply : ℕ → List ℕ → ℕ → ℕ → Told → Option What → List ℕ
delete_reply n tenant from to told None = reply_line n (codes "delete") tenant (undeleted_words from to told)
delete_reply n tenant from to told (Some (delete u ms from' to' generation entry)) =
    reply_line n (codes "delete") tenant (codes "generation" ∷ decimal generation ∷ codes "entry" ∷ decimal entry ∷ [])
delete_reply n tenant from to told (Some _) = reply_line n (codes "delete") tenant tenants_words

-- ---- ask and instant

abbrev pub refused_words : List ℕ → List (List ℕ)
refused_words code = codes "refused" ∷ code ∷ []

abbrev pub unasked_words : Told → List (List ℕ)
unasked_words journal_full = journal_words
unasked_words no_memory = refused_words (codes "507")
unasked_words _ = refused_words (codes "400")

-- the place of an ask is the number of entries before it
abbrev pub asked_words : Told → Option Moment → List (List ℕ)
asked_words told None = unasked_words told
asked_words told (Some x) = entered_words x.entry.what where
  entered_words : What → List (List ℕ)
  entered_words (ask u asked pin generation floor) = codes "pin" ∷ decimal pin ∷ codes "place" ∷ decimal (place_of x) ∷ []
  entered_words (full u outstanding) = refused_words (codes "429")
  entered_words _ = refused_words (codes "503")

abbrev pub ask_reply : ℕ → List ℕ → Told → Option Moment → List ℕ
ask_reply n id told mine = reply_line n (codes "ask") id (asked_words told mine)

-- ---- cancel

abbrev pub not_outstanding_words : List (List ℕ)
not_outstanding_words = codes "not" ∷ codes "outstanding" ∷ []

-- a query that is open was asked by another tenant, or was cancelled before
abbrev pub uncancelled_words : (tenant owner : List ℕ) → Option Moment → List (List ℕ)
uncancelled_words tenant owner None = codes "other" ∷ codes "tenant" ∷ owner ∷ []
uncancelled_words tenant owner (Some x) =
    cond (bytes_eq tenant owner) (codes "already" ∷ decimal (place_of x) ∷ []) (codes "other" ∷ codes "tenant" ∷ owner ∷ [])

abbrev pub unfound_words : (tenant owner : List ℕ) → Option What → (answered cancelled : Option Moment) → List (List ℕ)
unfound_words tenant owner (Some (ask u asked pin generation floor)) None cancelled = uncancelled_words tenant owner cancelled
unfound_words tenant owner _ answered cancelled = not_outstanding_words

abbrev pub cancel_words : (tenant : List ℕ) → Turn → Option Moment → List (List ℕ)
cancel_words tenant t None = unfound_words tenant (asker_of t.asking) (what_of t.asked) t.answered t.cancelled
cancel_words tenant t (Some x) = codes "done" ∷ []

-- ---- answer

-- a code, the steps that were cached and evaluated, and the body on a line of its own
abbrev pub answered : ℕ → List ℕ → List ℕ → ℕ → ℕ → List ℕ → List ℕ
answered n id code cached evaluated body =
    reply_line n (codes "answer") id
    (code ∷ codes "cached" ∷ decimal cached ∷ codes "evaluated" ∷ decimal evaluated ∷ [])
    ++ line_text (body ∷ [])

-- an answer without steps
abbrev pub unanswered : ℕ → List ℕ → List ℕ → List ℕ → List ℕ
unanswered n id code body = answered n id code 0 0 body

-- the body of the direct evaluation
abbrev pub query_body : Limits → Option Open → List ℕ
query_body l None = []
query_body l (Some o) = body_text o.asked (answer_of l o)

-- the job that failed five times
abbrev pub job_of : Told → ℕ
job_of (failed_five job) = job
job_of _ = 0

-- the body of an answer by its code
abbrev pub body_of : Limits → Told → (code : ℕ) → Option Open → List ℕ
body_of l told code o =
    cond (nat_eq code 503) cancelled_body
    (cond (nat_eq code 500) (failed_body (job_of told)) (cond (nat_eq code 507) memory_body (query_body l o)))

-- what the refusal of what was asked for says
abbrev pub refusal_of : Option (Result Asked (List ℕ)) → List ℕ
refusal_of (Some (Err text)) = text
refusal_of _ = []

abbrev pub asking_refusal : Known → Line → List ℕ
asking_refusal known (script.ask id tenant start end step query) = refusal_of (ranged known.readings start end step query)
asking_refusal known (script.instant id tenant time query) = refusal_of (at_once known.readings time query)
asking_refusal known _ = []

-- the answer of a refused ask
abbrev pub without_memory : ℕ → List ℕ → List ℕ
without_memory n id = unanswered n id (codes "507") memory_body

abbrev pub unasked : Known → ℕ → List ℕ → Line → Told → List ℕ
unasked known n id asking no_memory = without_memory n id
unasked known n id asking _ = unanswered n id (codes "400") (refused_body (asking_refusal known asking))

abbrev pub of_unasked : Known → ℕ → List ℕ → Option Ran → List ℕ
of_unasked known n id None = []
of_unasked known n id (Some r) = unasked known n id r.line.line r.told

abbrev pub refused_reply : Known → ℕ → List ℕ → Option Ran → Option What → List ℕ
refused_reply known n id asking None = of_unasked known n id asking
refused_reply known n id asking (Some (full u outstanding)) = unanswered n id (codes "429") full_body
refused_reply known n id asking (Some _) = unanswered n id (codes "503") tenants_body

abbrev pub unentered_reply : Known → ℕ → List ℕ → Turn → Told → List ℕ
unentered_reply known n id t (waiting jobs) = reply_line n (codes "answer") id (codes "waiting" ∷ decimal jobs ∷ [])
unentered_reply known n id t no_memory = without_memory n id
unentered_reply known n id t _ = refused_reply known n id t.asking (what_of t.asked)

abbrev pub answer_reply : Known → ℕ → List ℕ → Turn → Option Moment → List ℕ
answer_reply known n id t None = unentered_reply known n id t t.ran.told
answer_reply known n id t (Some x) = answered_by x.entry.what where
  answered_by : What → List ℕ
  answered_by (answer query code cached evaluated) =
      answered n id (decimal code) cached evaluated (body_of known.limits t.ran.told code (open_at query x.before.queries))
  answered_by _ = []

-- ---- step lines

abbrev pub plan_words : Told → List (List ℕ)
plan_words (of_plan (planned cached jobs)) = codes "cached" ∷ decimal cached ∷ codes "jobs" ∷ decimal jobs ∷ []
plan_words (of_plan planned_before) = codes "planned" ∷ []
plan_words (of_plan plan_stopped) = codes "stopped" ∷ []
plan_words _ = codes "refused" ∷ []

abbrev pub take_words : Turn → Told → List (List ℕ)
take_words t (of_take (took query job leg first last)) =
    asker_of t.asking ∷ codes "query" ∷ decimal query ∷ codes "job" ∷ decimal job ∷ codes "leg" ∷ decimal leg
    ∷ codes "first" ∷ decimal first ∷ codes "last" ∷ decimal last ∷ []
take_words t (of_take busy) = codes "busy" ∷ []
take_words t _ = codes "none" ∷ []

abbrev pub stop_words : Stop → List (List ℕ)
stop_words (by_cancel place) = codes "cancelled" ∷ decimal place ∷ []
stop_words (by_tries job) = codes "exhausted" ∷ decimal job ∷ []
stop_words by_memory = codes "starved" ∷ []

abbrev pub done_words : Told → List (List ℕ)
done_words (of_done stored) = codes "stored" ∷ []
done_words (of_done (again tries)) = codes "again" ∷ decimal tries ∷ []
done_words (of_done (exhausted job)) = codes "exhausted" ∷ decimal job ∷ []
done_words (of_done lacked) = codes "lacked" ∷ []
done_words (of_done (gone stop)) = codes "gone" ∷ stop_words stop
done_words (of_done not_held) = codes "not" ∷ codes "held" ∷ []
done_words _ = codes "empty" ∷ []

abbrev pub keep_words : Told → List (List ℕ)
keep_words (of_keep (kept steps)) = codes "steps" ∷ decimal steps ∷ []
keep_words (of_keep (outdated generation)) = codes "outdated" ∷ decimal generation ∷ []
keep_words (of_keep keep_lacked) = codes "no" ∷ codes "memory" ∷ []
keep_words (of_keep keep_failed) = codes "failed" ∷ []
keep_words (of_keep (keep_waits jobs)) = codes "waiting" ∷ decimal jobs ∷ []
keep_words (of_keep keep_stopped) = codes "stopped" ∷ []
keep_words (of_keep unplanned) = codes "unplanned" ∷ []
keep_words _ = codes "refused" ∷ []

-- ---- any line

abbrev pub reply_to : Known → Turn → ℕ → Line → List ℕ
reply_to known t n (script.ingest tenant file time) = ingest_reply n tenant t.ran.told (what_of t.mine)
reply_to known t n (script.delete tenant from to selector) = delete_reply n tenant from to t.ran.told (what_of t.mine)
reply_to known t n (script.ask id tenant start end step query) = ask_reply n id t.ran.told t.mine
reply_to known t n (script.instant id tenant time query) = ask_reply n id t.ran.told t.mine
reply_to known t n (script.cancel id asked tenant) =
    reply_line n (codes "cancel") id (cancel_words tenant t t.mine)
reply_to known t n (script.answer id asked) = answer_reply known n id t t.mine
reply_to known t n (script.plan id asked) = reply_line n (codes "plan") id (plan_words t.ran.told)
reply_to known t n (script.keep id asked) = reply_line n (codes "keep") id (keep_words t.ran.told)
reply_to known t n (script.take worker) =
    reply_line n (codes "take") (decimal worker) (take_words t t.ran.told)
reply_to known t n (script.done worker) = reply_line n (codes "done") (decimal worker) (done_words t.ran.told)

abbrev pub reply_of : Known → Turn → List ℕ
reply_of known t = reply_to known t t.ran.line.number t.ran.line.line
