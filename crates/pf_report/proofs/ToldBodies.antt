-- The texts of answers are those that the definitions give of what was told and entered.
use Rattle.std.proofs.Common.{◌≡◌, ℕ, Option, Some, None, Ok, Err, Bool, true, false, List, [], ◌∷◌, codes, refl, ap, sym, ◌∙◌}
use Rattle.std.specs.Fmt.{decimal, digits}
use Rattle.pf_base.specs.declared.plain.Limits.{Limits}
use Rattle.pf_base.specs.declared.plain.Row.{Row}
use Rattle.json.specs.Print.{escape_byte}
use Rattle.pf_model.specs.declared.expr.Kind.{Kind}
use Rattle.pf_model.specs.declared.expr.Kind.TheVariants as kinds
use Rattle.pf_model.specs.Direct.{Answer, MatrixRow, gathered, failed, direct}
use Rattle.pf_journal.specs.Asking.{Asked}
use Rattle.pf_journal.specs.Bodies.{body_text, memory_body, result_text}
use Rattle.pf_journal.specs.Entered.{what_of}
use Rattle.pf_journal.specs.Evaluations.{evaluated_text, evaluation_text}
use Rattle.pf_journal.specs.Legal.{Moment}
use Rattle.pf_journal.specs.Machine.{What, answer, full, no_tenant, Open, answer_of, code_of, open_at}
use Rattle.pf_journal.specs.Replies.{answer_reply, answered, asking_refusal, body_of, refused_reply, reply_line, unasked, unentered_reply}
use Rattle.pf_journal.specs.Rest.{Known, Told, nothing, no_memory, waiting, failed_five}
use Rattle.pf_journal.specs.Turns.{Ran, Turn}
use Rattle.pf_report.specs.Bodies.{answer_body, code_in, result_body, text_of_body}
use Rattle.pf_report.specs.declared.bodies.Body.{Body}
use Rattle.pf_report.specs.declared.bodies.Body.TheVariants.{Refused, Full, JobFailed, Cancelled, TooManyTenants, OutOfMemory}

-- ---- the body of a query's answer

result_is : (instant : Bool) (kind : Kind) (rows : List MatrixRow)
    → text_of_body (result_body instant kind rows) ≡ result_text instant kind rows
result_is false kind rows = refl
result_is true kinds.Scalar rows = refl
result_is true kinds.Instant rows = refl
result_is true kinds.Range rows = refl
result_is true kinds.Text rows = refl

pub text_is : (asked : Asked) (a : Answer) → text_of_body (answer_body asked.instant asked.kind a) ≡ body_text asked a
text_is asked (gathered rows) = result_is asked.instant asked.kind rows
text_is asked (failed step error) = refl

result_code : (instant : Bool) (kind : Kind) (rows : List MatrixRow) → code_in (result_body instant kind rows) ≡ 200
result_code false kind rows = refl
result_code true kinds.Scalar rows = refl
result_code true kinds.Instant rows = refl
result_code true kinds.Range rows = refl
result_code true kinds.Text rows = refl

pub code_is : (instant : Bool) (kind : Kind) (a : Answer) → code_in (answer_body instant kind a) ≡ code_of a
code_is instant kind (gathered rows) = result_code instant kind rows
code_is instant kind (failed step error) = refl

-- ---- the body of an answer by its code

body_by_code : (l : Limits) (told : Told) (o : Open) (a : Answer) → answer_of l o ≡ a
    → body_of l told (code_of a) (Some o) ≡ body_text o.asked a
body_by_code l told o (gathered rows) e = ap (body_text o.asked) e
body_by_code l told o (failed step error) e = ap (body_text o.asked) e

pub body_answered : (l : Limits) (told : Told) (o : Open)
    → text_of_body (answer_body o.asked.instant o.asked.kind (answer_of l o)) ≡ body_of l told (code_of (answer_of l o)) (Some o)
body_answered l told o = text_is o.asked (answer_of l o) ∙ sym (body_by_code l told o (answer_of l o) refl)

pub body_cancelled : (l : Limits) (told : Told) (o : Option Open) → text_of_body Cancelled ≡ body_of l told 503 o
body_cancelled l told o = refl

pub body_failed : (l : Limits) (job : ℕ) (o : Option Open) → text_of_body (JobFailed job) ≡ body_of l (failed_five job) 500 o
body_failed l job o = refl

pub body_lacks : (l : Limits) (told : Told) (o : Option Open) → text_of_body OutOfMemory ≡ body_of l told 507 o
body_lacks l told o = refl

-- the body for want of memory, computed
pub memory_is : memory_body ≡ codes "{\"status\":\"error\",\"errorType\":\"out_of_memory\",\"error\":\"out of memory\"}"
unfolding escape_byte
memory_is = refl

-- ---- answers

-- the reply to an answer, had its moment this entry
abbrev answered_as : Known → ℕ → List ℕ → Turn → Moment → What → List ℕ
answered_as known n id t x what =
    answer_reply known n id t
    (Some (record { before = x.before; entry = record { client = x.entry.client; line = x.entry.line; what = what } }))

pub answer_entered : (known : Known) (n : ℕ) (id : List ℕ) (t : Turn) (x : Moment) (query code cached evaluated : ℕ)
    → x.entry.what ≡ answer query code cached evaluated
    → answered n id (decimal code) cached evaluated (body_of known.limits t.ran.told code (open_at query x.before.queries))
    ≡ answer_reply known n id t (Some x)
answer_entered known n id t x query code cached evaluated e = ap (answered_as known n id t x) (sym e)

pub answer_waits : (known : Known) (n : ℕ) (id : List ℕ) (t : Turn) (jobs : ℕ) → t.ran.told ≡ waiting jobs
    → reply_line n (codes "answer") id (codes "waiting" ∷ decimal jobs ∷ []) ≡ answer_reply known n id t None
answer_waits known n id t jobs e = ap (unentered_reply known n id t) (sym e)

pub answer_lacks : (known : Known) (n : ℕ) (id : List ℕ) (t : Turn) → t.ran.told ≡ no_memory
    → answered n id (decimal 507) 0 0 (text_of_body OutOfMemory) ≡ answer_reply known n id t None
unfolding digits
answer_lacks known n id t e = ap (unentered_reply known n id t) (sym e)

-- of a refused ask
of_refused : (known : Known) (n : ℕ) (id : List ℕ) (t : Turn) → t.ran.told ≡ nothing
    → refused_reply known n id t.asking (what_of t.asked) ≡ answer_reply known n id t None
of_refused known n id t e = ap (unentered_reply known n id t) (sym e)

pub answer_filled : (known : Known) (n : ℕ) (id : List ℕ) (t : Turn) (u outstanding : ℕ)
    → t.ran.told ≡ nothing → what_of t.asked ≡ Some (full u outstanding)
    → answered n id (decimal 429) 0 0 (text_of_body Full) ≡ answer_reply known n id t None
unfolding digits
answer_filled known n id t u outstanding e a =
    ap (refused_reply known n id t.asking) (sym a) ∙ of_refused known n id t e

pub answer_unknown : (known : Known) (n : ℕ) (id : List ℕ) (t : Turn) (name : List ℕ)
    → t.ran.told ≡ nothing → what_of t.asked ≡ Some (no_tenant name)
    → answered n id (decimal 503) 0 0 (text_of_body TooManyTenants) ≡ answer_reply known n id t None
unfolding digits
answer_unknown known n id t name e a =
    ap (refused_reply known n id t.asking) (sym a) ∙ of_refused known n id t e

-- of an ask without an entry
of_unentered : (known : Known) (n : ℕ) (id : List ℕ) (t : Turn) (r : Ran)
    → t.ran.told ≡ nothing → what_of t.asked ≡ None → t.asking ≡ Some r
    → unasked known n id r.line.line r.told ≡ answer_reply known n id t None
of_unentered known n id t r e a k =
    ap (λ q. refused_reply known n id q None) (sym k) ∙ ap (refused_reply known n id t.asking) (sym a) ∙ of_refused known n id t e

pub answer_refused : (known : Known) (n : ℕ) (id : List ℕ) (t : Turn) (r : Ran)
    → t.ran.told ≡ nothing → what_of t.asked ≡ None → t.asking ≡ Some r → r.told ≡ nothing
    → answered n id (decimal 400) 0 0 (text_of_body (Refused (asking_refusal known r.line.line))) ≡ answer_reply known n id t None
unfolding digits
answer_refused known n id t r e a k m =
    ap (unasked known n id r.line.line) (sym m) ∙ of_unentered known n id t r e a k

pub answer_unasked : (known : Known) (n : ℕ) (id : List ℕ) (t : Turn) (r : Ran)
    → t.ran.told ≡ nothing → what_of t.asked ≡ None → t.asking ≡ Some r → r.told ≡ no_memory
    → answered n id (decimal 507) 0 0 (text_of_body OutOfMemory) ≡ answer_reply known n id t None
unfolding digits
answer_unasked known n id t r e a k m =
    ap (unasked known n id r.line.line) (sym m) ∙ of_unentered known n id t r e a k

-- ---- evaluations

pub evaluation_refused : (samples : List Row) (text : List ℕ)
    → evaluation_text (decimal (code_in (Refused text))) (text_of_body (Refused text)) ≡ evaluated_text samples (Some (Err text))
unfolding digits
evaluation_refused samples text = refl

pub evaluation_asked : (samples : List Row) (asked : Asked) (body : Body)
    → body ≡ answer_body asked.instant asked.kind (direct samples asked.query)
    → evaluation_text (decimal (code_in body)) (text_of_body body) ≡ evaluated_text samples (Some (Ok asked))
evaluation_asked samples asked body e =
    ap (λ b. evaluation_text (decimal (code_in b)) (text_of_body b)) e
    ∙ ap (λ c. evaluation_text (decimal c) (text_of_body (answer_body asked.instant asked.kind (direct samples asked.query))))
    (code_is asked.instant asked.kind (direct samples asked.query))
    ∙ ap (λ t. evaluation_text (decimal (code_of (direct samples asked.query))) t) (text_is asked (direct samples asked.query))
