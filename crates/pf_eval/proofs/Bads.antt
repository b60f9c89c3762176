-- The first of two errors.
use Rattle.std.proofs.Common.{◌≡◌, ℕ, Option, Some, None, List, [], refl, sym, ap, ◌∙◌}
use Rattle.pf_model.specs.declared.cell.ErrorKind.{ErrorKind}
use Rattle.pf_columns.specs.Steps.{bad_in}
use Rattle.pf_eval.specs.Nodes.{first_of}

with_none : (o : Option ErrorKind) → o ≡ first_of o None
with_none None = refl
with_none (Some kind) = refl

pub none_right : (xs bs : List (Option ErrorKind)) (k : ℕ) → bs ≡ [] → bad_in xs k ≡ first_of (bad_in xs k) (bad_in bs k)
none_right xs bs k e = with_none (bad_in xs k) ∙ ap (λ ys. first_of (bad_in xs k) (bad_in ys k)) (sym e)

pub none_left : (xs bs : List (Option ErrorKind)) (k : ℕ) → xs ≡ [] → bad_in bs k ≡ first_of (bad_in xs k) (bad_in bs k)
none_left xs bs k e = ap (λ ys. first_of (bad_in ys k) (bad_in bs k)) (sym e)
