-- The bodies of answers, told as this crate is told them. This project's own.
use Rattle.std.specs.Prelude.{ℕ, Bool, true, false, List, ◌++◌, codes}
use Rattle.std.specs.Fmt.{decimal}
use Rattle.pf_model.specs.Direct.{Answer, MatrixRow, gathered, failed}
use Rattle.pf_model.specs.ErrorTexts.{kind_text}
use Rattle.pf_model.specs.Json.{answer_text, matrix_text}
use Rattle.pf_model.specs.declared.cell.ErrorKind.{ErrorKind}
use Rattle.pf_model.specs.declared.expr.Kind.{Kind}
use Rattle.pf_model.specs.declared.expr.Kind.TheVariants as kinds
use Rattle.pf_journal.specs.Bodies.{cancelled_body, failed_body, full_body, journal_body, memory_body, refused_body, scalar_text, tenants_body, vector_text}
use Rattle.pf_report.specs.declared.bodies.Body.{Body}
use Rattle.pf_report.specs.declared.bodies.Body.TheVariants.{Matrix, Vector, Scalar, Failed, Refused, Full, JobFailed, Cancelled, TooManyTenants, JournalFull, OutOfMemory}

-- what an error at a step says
abbrev pub failure_text : ℕ → ErrorKind → List ℕ
failure_text step kind = codes "step " ++ (decimal step ++ (codes ": " ++ kind_text kind))

-- what a job that failed five times says
abbrev pub job_text : ℕ → List ℕ
job_text job = codes "job " ++ (decimal job ++ codes " failed 5 times")

-- the body of a query's result: an instant query has a vector or a scalar, any other a matrix
abbrev pub instant_body : Kind → List MatrixRow → Body
instant_body kinds.Scalar rows = Scalar rows
instant_body _ rows = Vector rows

abbrev pub result_body : (instant : Bool) → Kind → List MatrixRow → Body
result_body false kind rows = Matrix rows
result_body true kind rows = instant_body kind rows

-- the body of a query's answer
abbrev pub answer_body : (instant : Bool) → Kind → Answer → Body
answer_body instant kind (gathered rows) = result_body instant kind rows
answer_body instant kind (failed step error) = Failed step error

abbrev pub text_of_body : Body → List ℕ
text_of_body (Matrix rows) = matrix_text rows
text_of_body (Vector rows) = vector_text rows
text_of_body (Scalar rows) = scalar_text rows
text_of_body (Failed step kind) = answer_text (failed step kind)
text_of_body (Refused message) = refused_body message
text_of_body Full = full_body
text_of_body (JobFailed job) = failed_body job
text_of_body Cancelled = cancelled_body
text_of_body TooManyTenants = tenants_body
text_of_body JournalFull = journal_body
text_of_body OutOfMemory = memory_body

abbrev pub code_in : Body → ℕ
code_in (Matrix rows) = 200
code_in (Vector rows) = 200
code_in (Scalar rows) = 200
code_in (Failed step kind) = 422
code_in (Refused message) = 400
code_in Full = 429
code_in (JobFailed job) = 500
code_in Cancelled = 503
code_in TooManyTenants = 503
code_in JournalFull = 503
code_in OutOfMemory = 507
