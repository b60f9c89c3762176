-- How what is asked is told from others where a model's value is of it: this project's own.
use Rattle.std.specs.Prelude.{◌≡◌, ℕ, zero, suc, Bool, List, refl}
use Rattle.std.specs.Coded.{Coded, code_by, coded×, coded_ℕ, coded_bool}
use Rattle.pf_base.specs.GridLists.{GridData}
use Rattle.pf_journal.specs.Asking.{Asked}
use Rattle.pf_model.specs.declared.expr.Kind.{Kind}
use Rattle.pf_model.specs.declared.expr.Kind.TheVariants.{Scalar, Instant, Range, Text}
use Rattle.pf_model.specs.Direct as direct
use Rattle.pf_model.proofs.TreeCode.{bytes_code, coded_tree}
use Rattle.pf_model.specs.Trees.{Tree}

abbrev pub kind_number : Kind → ℕ
kind_number Scalar = 0
kind_number Instant = 1
kind_number Range = 2
kind_number Text = 3

abbrev pub kind_at : ℕ → Kind
kind_at zero = Scalar
kind_at (suc zero) = Instant
kind_at (suc (suc zero)) = Range
kind_at (suc (suc (suc n))) = Text

pub kind_back : (k : Kind) → kind_at (kind_number k) ≡ k
kind_back Scalar = refl
kind_back Instant = refl
kind_back Range = refl
kind_back Text = refl

abbrev pub kind_code : Coded Kind
kind_code = code_by ℕ coded_ℕ kind_number kind_at kind_back

abbrev pub grid_code : Coded GridData
grid_code =
    code_by (ℕ × (ℕ × ℕ)) (coded× coded_ℕ (coded× coded_ℕ coded_ℕ)) (λ g. (g.start, (g.step, g.len)))
    (λ p. record { start = p.0; step = p.1.0; len = p.1.1 }) (λ _. refl)

abbrev pub query_code : Coded direct.GridQuery
query_code =
    code_by (Tree × GridData) (coded× coded_tree grid_code) (λ q. (q.tree, q.grid)) (λ p. record { tree = p.0; grid = p.1 }) (λ _. refl)

abbrev pub asked_code : Coded Asked
asked_code =
    code_by (direct.GridQuery × (Kind × (Bool × List ℕ))) (coded× query_code (coded× kind_code (coded× coded_bool bytes_code)))
    (λ a. (a.query, (a.kind, (a.instant, a.text)))) (λ p. record { query = p.0; kind = p.1.0; instant = p.1.1.0; text = p.1.1.1 })
    (λ _. refl)
