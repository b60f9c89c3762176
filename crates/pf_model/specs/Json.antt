-- The bodies of answers. Prometheus, HTTP API: Format overview and Range vectors. That there are no blanks outside
-- strings, and the order of members, is this project's own.
use Rattle.std.specs.Prelude.{ℕ, ◌+◌, ◌/◌, ◌%◌, unsigned_abs, List, [], ◌∷◌, ◌++◌, codes, cond, nat_eq}
use Rattle.std.specs.Fmt.{decimal}
use Rattle.json.specs.Print.{quoted}
use Rattle.pf_base.specs.declared.plain.Sample.{Sample}
use Rattle.pf_base.specs.NumberTexts.{value_text}
use Rattle.pf_base.specs.LabelSets.{Pairs}
use Rattle.pf_model.specs.Direct.{MatrixRow, Answer, gathered, failed}
use Rattle.pf_model.specs.ErrorTexts.{kind_text}
use Rattle.pf_model.specs.Lists.{comma_joined}

-- `"name":"value"`
abbrev pub pair_text : List ℕ × List ℕ → List ℕ
pair_text p = quoted p.0 ++ (58 ∷ quoted p.1)

-- `{"name":"value",..}`
abbrev pub labels_text : Pairs → List ℕ
labels_text ls = 123 ∷ (comma_joined pair_text ls ++ (125 ∷ []))

-- three digits
abbrev pub three_digits : ℕ → List ℕ
three_digits n = (48 + n / 100) ∷ ((48 + (n / 10) % 10) ∷ ((48 + n % 10) ∷ []))

-- where thousandths are left, a point and their three digits
abbrev pub thousandths_text : ℕ → List ℕ
thousandths_text n = cond (nat_eq n 0) [] (46 ∷ three_digits n)

-- milliseconds as seconds, with three digits behind the point where they are not whole
abbrev pub seconds_text : ℕ → List ℕ
seconds_text t = decimal (t / 1000) ++ thousandths_text (t % 1000)

-- `[seconds,"value"]`; no step is below 0
abbrev pub point_text : Sample → List ℕ
point_text s = 91 ∷ (seconds_text (unsigned_abs s.time) ++ (44 ∷ (34 ∷ (value_text s.value ++ (34 ∷ (93 ∷ []))))))

-- `{"metric":{..},"values":[..]}`
abbrev pub row_text : MatrixRow → List ℕ
row_text r =
    codes "{\"metric\":" ++ (labels_text r.labels ++ (codes ",\"values\":[" ++ (comma_joined point_text r.points ++ codes "]}")))

abbrev pub matrix_text : List MatrixRow → List ℕ
matrix_text rows =
    codes "{\"status\":\"success\",\"data\":{\"resultType\":\"matrix\",\"result\":[" ++ (comma_joined row_text rows ++ codes "]}}")

-- `{"status":"error","errorType":..,"error":..}`
abbrev pub error_text : List ℕ → List ℕ → List ℕ
error_text kind message =
    codes "{\"status\":\"error\",\"errorType\":" ++ (quoted kind ++ (codes ",\"error\":" ++ (quoted message ++ codes "}")))

abbrev pub answer_text : Answer → List ℕ
answer_text (gathered rows) = matrix_text rows
answer_text (failed t kind) = error_text (codes "execution") (codes "step " ++ (decimal t ++ (codes ": " ++ kind_text kind)))
