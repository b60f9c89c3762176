-- A query is answered by its direct evaluation.
use Rattle.std.proofs.Common.{◌≡◌, ℕ, zero, suc, ◌<◌, Bool, true, false, ◌||◌, All, get_or, length, List, [], ◌∷◌, refl, sym, ap, ◌∙◌, arith, subst}
use Rattle.std.specs.List.{list_any}
use Rattle.std.specs.Str.{bytes_eq}
use Rattle.std.proofs.lemmas.Slice.Eq.{bytes_eq-Decides}
use Rattle.pf_base.specs.declared.plain.Row.{Row}
use Rattle.pf_model.specs.declared.cell.ErrorKind.{ErrorKind}
use Rattle.pf_model.specs.declared.expr.Kind.{Kind}
use Rattle.pf_model.specs.declared.expr.Kind.TheVariants.{Scalar, Instant, Range, Text}
use Rattle.pf_model.specs.Direct.{Answer, MatrixRow, direct, gathered, failed}
use Rattle.pf_journal.specs.Asking.{Asked}
use Rattle.pf_journal.specs.Bodies.{body_text, result_text}
use Rattle.pf_journal.specs.Machine.{code_of}
use Rattle.pf_report.specs.Bodies.{answer_body, code_in, result_body, text_of_body}
use Rattle.pf_report.specs.declared.bodies.Body.{Body}
use Rattle.pf_report.specs.declared.bodies.Body.TheVariants as body

-- ---- the patterns

-- each of some texts is among them
among : (texts : List (List ℕ)) (k : ℕ) (d : List ℕ) → k < length texts → list_any (λ p. bytes_eq p (get_or texts k d)) texts ≡ true
among [] k d h = absurd (omega (arith, h))
among (x ∷ xs) zero d h = ap (λ b. b || list_any (λ p. bytes_eq p x) xs) ((bytes_eq-Decides x x).1 refl)
among (x ∷ xs) (suc k) d h = behind (bytes_eq x (get_or xs k d)) (among xs k d (omega (arith, h))) where
  behind : {b : Bool} (a : Bool) → b ≡ true → (a || b) ≡ true
  behind true p = refl
  behind false p = p

pub all_among : (texts wanted : List (List ℕ)) → texts ≡ wanted → All (λ text. list_any (λ p. bytes_eq p text) texts ≡ true) wanted
all_among texts wanted is = subst (All (λ text. list_any (λ p. bytes_eq p text) texts ≡ true)) is (among texts)

-- ---- the body

pub has_result : (samples : List Row) (asked : Asked) (rows : List MatrixRow) (b : Body) → b ≡ result_body asked.instant asked.kind rows
    → direct samples asked.query ≡ gathered rows → b ≡ answer_body asked.instant asked.kind (direct samples asked.query)
has_result samples asked rows b is d = is ∙ ap (answer_body asked.instant asked.kind) (sym d)

pub has_failed : (samples : List Row) (asked : Asked) (step : ℕ) (kind : ErrorKind)
    → direct samples asked.query ≡ failed step kind → body.Failed step kind ≡ answer_body asked.instant asked.kind (direct samples asked.query)
has_failed samples asked step kind d = ap (answer_body asked.instant asked.kind) (sym d)

pub result_texts : (instant : Bool) (kind : Kind) (rows : List MatrixRow) → text_of_body (result_body instant kind rows) ≡ result_text instant kind rows
result_texts false kind rows = refl
result_texts true Scalar rows = refl
result_texts true Instant rows = refl
result_texts true Range rows = refl
result_texts true Text rows = refl

pub result_codes : (instant : Bool) (kind : Kind) (rows : List MatrixRow) → code_in (result_body instant kind rows) ≡ 200
result_codes false kind rows = refl
result_codes true Scalar rows = refl
result_codes true Instant rows = refl
result_codes true Range rows = refl
result_codes true Text rows = refl

texts : (asked : Asked) (a : Answer) → text_of_body (answer_body asked.instant asked.kind a) ≡ body_text asked a
texts asked (gathered rows) = result_texts asked.instant asked.kind rows
texts asked (failed step kind) = refl

codes : (asked : Asked) (a : Answer) → code_in (answer_body asked.instant asked.kind a) ≡ code_of a
codes asked (gathered rows) = result_codes asked.instant asked.kind rows
codes asked (failed step kind) = refl

-- the text and the code of an answer's body
pub body_texts : (asked : Asked) (a : Answer) (b : Body) → b ≡ answer_body asked.instant asked.kind a → text_of_body b ≡ body_text asked a
body_texts asked a b is = ap text_of_body is ∙ texts asked a

pub body_codes : (asked : Asked) (a : Answer) (b : Body) → b ≡ answer_body asked.instant asked.kind a → code_in b ≡ code_of a
body_codes asked a b is = ap code_in is ∙ codes asked a
