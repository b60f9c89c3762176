-- The bodies of answers. Prometheus, HTTP API: Format overview, Instant vectors and Scalars; `canceled`, `internal` and
-- `unavailable` are Prometheus's words. The other words, the texts, the order of members, and that there are no blanks
-- outside strings, are this project's own.
use Rattle.std.specs.Fmt.{decimal}
use Rattle.std.specs.Prelude.{ℕ, Bool, true, false, List, [], ◌∷◌, ◌++◌, codes}
use Rattle.pf_model.specs.declared.expr.Kind.{Kind}
use Rattle.pf_model.specs.declared.expr.Kind.TheVariants.{Scalar}
use Rattle.pf_model.specs.Direct.{Answer, MatrixRow, gathered, failed}
use Rattle.pf_model.specs.ErrorTexts.{full_text, memory_text, tenants_text}
use Rattle.pf_model.specs.Json.{answer_text, error_text, labels_text, matrix_text, point_text}
use Rattle.pf_model.specs.Lists.{comma_joined}
use Rattle.pf_journal.specs.Asking.{Asked}

-- ---- results

-- `{"metric":{..},"value":[seconds,"value"]}`: a row of an instant query has one point
abbrev pub element_text : MatrixRow → List ℕ
element_text r =
    codes "{\"metric\":" ++ (labels_text r.labels ++ (codes ",\"value\":" ++ (comma_joined point_text r.points ++ codes "}")))

abbrev pub vector_text : List MatrixRow → List ℕ
vector_text rows =
    codes "{\"status\":\"success\",\"data\":{\"resultType\":\"vector\",\"result\":[" ++ (comma_joined element_text rows ++ codes "]}}")

-- `[seconds,"value"]`, or `[]` where there is no value
abbrev pub scalar_points : List MatrixRow → List ℕ
scalar_points [] = codes "[]"
scalar_points (r ∷ rs) = comma_joined point_text r.points

abbrev pub scalar_text : List MatrixRow → List ℕ
scalar_text rows =
    codes "{\"status\":\"success\",\"data\":{\"resultType\":\"scalar\",\"result\":" ++ (scalar_points rows ++ codes "}}")

abbrev pub instant_text : Kind → List MatrixRow → List ℕ
instant_text Scalar rows = scalar_text rows
instant_text _ rows = vector_text rows

-- a range query has a matrix, an instant query a vector or a scalar
abbrev pub result_text : (instant : Bool) → Kind → List MatrixRow → List ℕ
result_text false kind rows = matrix_text rows
result_text true kind rows = instant_text kind rows

-- the body of a query's answer
abbrev pub body_text : Asked → Answer → List ℕ
body_text asked (gathered rows) = result_text asked.instant asked.kind rows
body_text asked (failed t kind) = answer_text (failed t kind)

-- ---- errors

-- 400, with the text of the refusal
abbrev pub refused_body : List ℕ → List ℕ
refused_body text = error_text (codes "bad_data") text

-- 429
abbrev pub full_body : List ℕ
full_body = error_text (codes "too_many_requests") full_text

-- 500
abbrev pub failed_body : (job : ℕ) → List ℕ
failed_body job = error_text (codes "internal") (codes "job " ++ (decimal job ++ codes " failed 5 times"))

-- 503
abbrev pub cancelled_body : List ℕ
cancelled_body = error_text (codes "canceled") (codes "query was cancelled")

-- 503: a new tenant where as many are known as may be, and a full journal
abbrev pub tenants_body : List ℕ
tenants_body = error_text (codes "unavailable") tenants_text

abbrev pub journal_body : List ℕ
journal_body = error_text (codes "unavailable") (codes "journal full")

-- 507
abbrev pub memory_body : List ℕ
memory_body = error_text (codes "out_of_memory") memory_text
