-- What lines make of what is counted.
use Rattle.std.proofs.Common.{◌≡◌, ℕ, ◌+◌, Bool, true, false, Option, Some, None, Result, Ok, Err, IfOk, OnOk, List, [], ◌∷◌, ◌++◌, map, take, cond, count_by, fold, refl, sym, ap, ◌∙◌, append-nil}
use Rattle.pf_base.specs.declared.plain.By.{By}
use Rattle.pf_base.specs.declared.plain.Limits.{Limits}
use Rattle.pf_core.specs.Cores.{CoreData, machine_of, started_core}
use Rattle.pf_front.specs.Answers as answers
use Rattle.pf_front.specs.Answers.{IsInHands, IsOutcomeOf, IsReplied}
use Rattle.pf_front.specs.declared.answering.Reply.{Reply}
use Rattle.pf_front.specs.declared.outcome.Outcome.{Outcome}
use Rattle.pf_front.specs.declared.outcome.Outcome.TheVariants as outcome
use Rattle.pf_journal.proofs.Tallying.{tally-snoc}
use Rattle.pf_journal.specs.Entered.{Fits}
use Rattle.pf_journal.specs.Legal.{moments}
use Rattle.pf_journal.specs.Machine.{Entry, Machine, Open, What, append, delete, ask, full, no_tenant, cancel, answer, open_at}
use Rattle.pf_journal.specs.Rest.{Known, Told}
use Rattle.pf_journal.specs.Scripts as script
use Rattle.pf_journal.specs.Scripts.{Line, Numbered}
use Rattle.pf_journal.specs.Summaries.{Tally, asks, is_ask, nothing_counted, rows_answered, rows_of, tally_of, with_answer, with_entry}
use Rattle.pf_journal.specs.Turns.{Hand, Ran, Turn, ran_lines, asker_of}
use Rattle.pf_model.specs.Direct.{MatrixRow, Answer, gathered}
use Rattle.pf_model.specs.Lists.{Each}
use Rattle.pf_model.specs.declared.expr.Kind.{Kind}
use Rattle.pf_model.specs.declared.expr.Kind.TheVariants.{Scalar, Instant, Range, Text}
use Rattle.pf_report.specs.Bodies.{code_in, result_body}
use Rattle.pf_report.specs.Summaries.{rows_in}
use Rattle.pf_report.specs.declared.bodies.Body.{Body}
use Rattle.pf_script.specs.Lines.{Follows, line_of, lines_of, numbered_of}
use Rattle.pf_script.specs.declared.script.Line as code
use Rattle.pf_script.specs.declared.script.Line.TheVariants as code_line
use Rattle.pf_script.specs.declared.script.NumberedLine.{NumberedLine}
use Rattle.pf_script.specs.declared.script.Script.{Script}
use Rattle.pf_client.proofs.Answering.{outcome_code}
use Rattle.pf_client.proofs.Cancelling.{known_before}
use Rattle.pf_client.proofs.Driving.{IsMatchedAs, matched_as}
use Rattle.pf_client.specs.Asks.{AreKept, AskRuns, HaveSlots, outcome_body}
use Rattle.pf_client.specs.Clients.{Grows, IsKnown, IsStep, Naming, Runs, entries_by, entry_by, moment_with, naming, turn_by}
use Rattle.pf_client.specs.Going.{hands_last, last_first, own_of}
use Rattle.pf_client.specs.Hands.{HaveHands}
use Rattle.pf_client.specs.Queries.{IsTold}
use Rattle.pf_client.specs.Tallies.{AnswersNothing, Counts, CountsNothing, counted, with_answered}
use Rattle.pf_client.specs.declared.answers.Answered.{Answered}
use Rattle.pf_client.specs.declared.client.Client.{Client}
use Rattle.pf_client.specs.declared.client.LineRun.{LineRun}
use Rattle.pf_client.specs.declared.client.LineRun.TheVariants as run
use Rattle.pf_client.specs.declared.loaded.Loaded.{Loaded}

-- ---- what is counted of cores

counted_by : (old new : CoreData) (journal : List Entry) → new.limits ≡ old.limits → new.journal ≡ journal → counted new ≡ tally_of old.limits (moments journal)
counted_by old new journal limits is =
    ap (λ (l : Limits). tally_of l (moments new.journal)) limits ∙ ap (λ (es : List Entry). tally_of old.limits (moments es)) is

pub counted_same : (old new : CoreData) → new.limits ≡ old.limits → new.journal ≡ old.journal → counted new ≡ counted old
counted_same old new limits journal = counted_by old new old.journal limits journal

pub counted_as : (old new : CoreData) → new ≡ old → counted new ≡ counted old
counted_as old new is = ap counted is

counted_one : (old new : CoreData) (e : Entry) → new.limits ≡ old.limits → new.journal ≡ old.journal ++ e ∷ []
    → counted new ≡ with_entry old.limits (counted old) (machine_of old) e.what
counted_one old new e limits journal = counted_by old new (old.journal ++ e ∷ []) limits journal ∙ tally-snoc old.limits old.journal e

pub counted_first : (limits : Limits) (c : CoreData) → c ≡ started_core limits → counted c ≡ nothing_counted
counted_first limits c is = ap counted is

-- ---- answers

rows_of_result : (instant : Bool) (kind : Kind) (rows : List MatrixRow) → rows_in (result_body instant kind rows) ≡ rows
rows_of_result false kind rows = refl
rows_of_result true Scalar rows = refl
rows_of_result true Instant rows = refl
rows_of_result true Range rows = refl
rows_of_result true Text rows = refl

-- the rows of an answer are those of its body
rows_right : (l : Limits) (o : Open) (instant : Bool) (kind : Kind) (x : Outcome) → IsOutcomeOf l o x
    → rows_answered l (answers.code_in x) (Some o) ≡ rows_in (outcome_body instant kind x)
rows_right l o instant kind (outcome.Matrix rows) h = ap rows_of h.1 ∙ sym (rows_of_result instant kind rows)
rows_right l o instant kind (outcome.Failed step error) h = refl
rows_right l o instant kind outcome.Cancelled h = refl
rows_right l o instant kind (outcome.Exhausted job) h = refl
rows_right l o instant kind outcome.Starved h = refl

pub counted_reply : {before after : ℕ} (old new : CoreData) (by : By) (query : ℕ) (reply : Reply) (instant : Bool) (kind : Kind) (b : Body) → IsReplied before after old by query reply new
    → b ≡ outcome_body instant kind reply.outcome
    → counted new ≡ with_answered (counted old) (Some (record { cached = reply.cached; evaluated = reply.evaluated; body = b }))
counted_reply old new by query reply instant kind b r is =
    let same = r.works.history in
    let e : Entry = record { client = by.client; line = by.line; what = answer query reply.code reply.cached reply.evaluated } in
    let one = counted_one old new e (r.entered.limits ∙ same.limits) (r.entered.journal ∙ ap (λ (es : List Entry). es ++ e ∷ []) same.journal) in
    let coded : reply.code ≡ code_in b = r.is.coded ∙ (sym (outcome_code instant kind reply.outcome) ∙ ap code_in (sym is)) in
    let rows : rows_answered old.limits reply.code (open_at query (machine_of old).queries) ≡ rows_in b =
    ap (rows_answered old.limits reply.code) r.is_open
    ∙ (ap (λ (k : ℕ). rows_answered old.limits k (Some r.opened)) r.is.coded
    ∙ (rows_right old.limits r.opened instant kind reply.outcome r.is.outcome_of ∙ ap rows_in (sym is))) in
    one
    ∙ (ap (λ (k : ℕ). with_answer (counted old) k reply.cached reply.evaluated (rows_answered old.limits reply.code (open_at query (machine_of old).queries))) coded
    ∙ ap (with_answer (counted old) (code_in b) reply.cached reply.evaluated) rows)

pub counted_waits : {before after : ℕ} (old new : CoreData) (query jobs : ℕ) → IsInHands before after old query jobs new → counted new ≡ counted old
counted_waits old new query jobs h = counted_same old new h.works.history.limits h.works.history.journal

-- ---- lines that answer nothing

fits_nothing : (known : Known) (t : Turn) (line : Line) (q code c e : ℕ) → AnswersNothing line → Fits known (asker_of t.asking) t.asked line (answer q code c e) → ⊥
fits_nothing known t (script.ingest tenant file time) q code c e n fits = fits.0
fits_nothing known t (script.delete tenant from to selector) q code c e n fits = fits.0
fits_nothing known t (script.ask id tenant start end by query) q code c e n fits = fits.0
fits_nothing known t (script.instant id tenant time query) q code c e n fits = fits.0
fits_nothing known t (script.cancel id asked tenant) q code c e n fits = fits
fits_nothing known t (script.answer id asked) q code c e n fits = n
fits_nothing known t (script.plan id asked) q code c e n fits = fits
fits_nothing known t (script.keep id asked) q code c e n fits = fits
fits_nothing known t (script.take w) q code c e n fits = fits
fits_nothing known t (script.done w) q code c e n fits = fits

with_nothing : (limits : Limits) (tally : Tally) (m : Machine) (known : Known) (t : Turn) (line : Line) (what : What) → AnswersNothing line → Fits known (asker_of t.asking) t.asked line what
    → with_entry limits tally m what ≡ tally
with_nothing limits tally m known t line (append u b vs e) quiet fits = refl
with_nothing limits tally m known t line (delete u ms from to g e) quiet fits = refl
with_nothing limits tally m known t line (ask u a p g f) quiet fits = refl
with_nothing limits tally m known t line (full u k) quiet fits = refl
with_nothing limits tally m known t line (no_tenant name) quiet fits = refl
with_nothing limits tally m known t line (cancel k) quiet fits = refl
with_nothing limits tally m known t line (answer q code c e) quiet fits = absurd (fits_nothing known t line q code c e quiet fits)

step_counts : (known : Known) (n : Told → Naming) (old new : Client) (l : Numbered) (r : LineRun) → AnswersNothing l.line → IsStep known n old l r new
    → counted new.core ≡ counted old.core
step_counts known n old new l r quiet step =
    let turn = turn_by (n step.told) l step.told (moment_with (machine_of old.core) old.client l.number step.entered) in
    by turn step.entered step.journal (matched_as known turn (machine_of old.core) old.client l.number step.entered step.matched) where
      by : (t : Turn) (entered : Option What) → new.core.journal ≡ old.core.journal ++ entries_by old.client l.number entered → IsMatchedAs known t l.line entered
          → counted new.core ≡ counted old.core
      by t None journal h = counted_same old.core new.core step.limits (journal ∙ append-nil old.core.journal)
      by t (Some what) journal h =
          counted_one old.core new.core (entry_by old.client l.number what) step.limits journal
          ∙ with_nothing old.core.limits (counted old.core) (machine_of old.core) known t l.line what quiet h

empty : Told → Naming
empty told = record { hands = []; asking = None; asked = None; cancelled = None; answered = None }

pub plain_counts : (left : Loaded) (old new : Client) (l : Numbered) (r : LineRun) → ((known : Known) → IsTold known left → Runs known old l r new)
    → CountsNothing left old l new
plain_counts left old new l r runs quiet t loaded part limits lines n sent there follows going before known told kn =
    let step = runs known (part known told) empty kn in
    step_counts known empty old new l r quiet step ∙ before known told (known_before known old.core new.core step.more step.limits step.grown kn)

pub ask_counts : (left : Loaded) (old new : Client) (l : Numbered) (r : LineRun) → ((known : Known) → IsTold known left → AskRuns known old l r new)
    → CountsNothing left old l new
ask_counts left old new l r runs = plain_counts left old new l r (λ known told n kn. (runs known told n kn).step)

pub quiet_counts : {before after : ℕ} (left : Loaded) (old new : Client) (l : Numbered) → Grows before after old.core new.core
    → ((known : Known) (above : List Ran) (hands : List Hand) (done : List Numbered) → IsKnown known new.core → Each (λ e. e.client ≡ old.client) old.core.journal
    → HaveSlots known above (own_of old.client old.core) (machine_of old.core).count done old.slots → AreKept old.core old.slots → HaveHands old hands → Follows done l
    → IsStep known (naming (own_of old.client old.core) above hands l.line) old l run.On new)
    → CountsNothing left old l new
quiet_counts left old new l grows runs quiet t loaded part limits lines n sent there follows going before known told kn =
    let kb = known_before known old.core new.core grows.more grows.limits grows.names kn in
    let g = going known told kb in
    let above = last_first [] (ran_lines lines g.told) in
    let hands = hands_last [] (ran_lines lines g.told) in
    let step = runs known above hands (take n lines) kn g.has_told.alone g.slots g.kept g.hands follows in
    step_counts known (naming (own_of old.client old.core) above hands l.line) old new l run.On quiet step ∙ before known told kb

-- ---- lines that answer

pub answer_counts : {before after : ℕ} (left : Loaded) (old new : Client) (l : Numbered) (t t' : Tally) (a : Option Answered) → Grows before after old.core new.core
    → counted new.core ≡ with_answered (counted old.core) a → t' ≡ with_answered t a → Counts left old l t new t'
answer_counts left old new l t t' a grows is same loaded part limits lines n sent there follows going before known told kn =
    is ∙ (ap (λ (x : Tally). with_answered x a) (before known told (known_before known old.core new.core grows.more grows.limits grows.names kn)) ∙ sym same)

-- a line of the code that is no answer
pub not_answer : (line : code.Line) → ((id : List ℕ) (asked : ℕ) → line ≡ code_line.Answer id asked → ⊥) → AnswersNothing (line_of line)
not_answer (code_line.Ingest tenant file time) h = tt
not_answer (code_line.Delete tenant from to selector) h = tt
not_answer (code_line.Ask id tenant start end step query) h = tt
not_answer (code_line.Instant id tenant time query) h = tt
not_answer (code_line.Cancel id asked tenant) h = tt
not_answer (code_line.Answer id asked) h = h id asked refl
not_answer (code_line.Plan id asked) h = tt
not_answer (code_line.Keep id asked) h = tt
not_answer (code_line.Take worker) h = tt
not_answer (code_line.Done worker) h = tt

-- a call that ran such a line
pub plain_counts_if : {E : Type 0} (left : Loaded) (old new : Client) (l : Numbered) (result : Result LineRun E)
    → IfOk result (λ r. (known : Known) → IsTold known left → Runs known old l r new) → OnOk result (CountsNothing left old l new)
plain_counts_if left old new l (Ok r) runs = plain_counts left old new l r runs
plain_counts_if left old new l (Err e) runs = tt

pub ask_counts_if : {E : Type 0} (left : Loaded) (old new : Client) (l : Numbered) (result : Result LineRun E)
    → IfOk result (λ r. (known : Known) → IsTold known left → AskRuns known old l r new) → OnOk result (CountsNothing left old l new)
ask_counts_if left old new l (Ok r) runs = ask_counts left old new l r runs
ask_counts_if left old new l (Err e) runs = tt

-- ---- the lines that ask

pub asks_of : (script : Script) → asks (lines_of script) ≡ count_by (λ l. is_ask (line_of l.line)) script.lines.items
asks_of script = by 0 script.lines.items where
  by : (n : ℕ) (ls : List NumberedLine) → fold (λ (s : ℕ) (l : Numbered). s + cond (is_ask l.line) 1 0) n (map numbered_of ls)
      ≡ fold (λ (s : ℕ) (l : NumberedLine). s + cond (is_ask (line_of l.line)) 1 0) n ls
  by n [] = refl
  by n (l ∷ ls) = by (n + cond (is_ask (line_of l.line)) 1 0) ls
