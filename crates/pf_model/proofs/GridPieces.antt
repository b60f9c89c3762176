-- The pieces of a grid make the grid, and a query's values over it are those over its pieces, one after another.
use Rattle.std.proofs.Common.{◌≡◌, ℕ, zero, suc, ◌+◌, ◌*◌, pos, List, [], ◌∷◌, ◌++◌, refl, ap, ◌∙◌, arith}
use Rattle.pf_base.specs.declared.plain.Row.{Row}
use Rattle.pf_base.specs.GridLists.{times_from}
use Rattle.pf_model.specs.Direct.{Evaluated, evaluated}
use Rattle.pf_model.specs.Evaluation.{eval}
use Rattle.pf_model.specs.Trees.{Tree}

pub times_of_pieces : (t step m n : ℕ) → times_from t step (m + n) ≡ times_from t step m ++ times_from (t + m * step) step n
times_of_pieces t step zero n =
    let count : zero + n ≡ n = omega arith in
    let start : t ≡ t + zero * step = omega arith in
    ap (times_from t step) count ∙ ap (λ u. times_from u step n) start
times_of_pieces t step (suc m) n =
    let count : suc m + n ≡ suc (m + n) = omega arith in
    let start : (t + step) + m * step ≡ t + suc m * step = omega arith in
    ap (times_from t step) count
    ∙ ap (λ ts. t ∷ ts) (times_of_pieces (t + step) step m n)
    ∙ ap (λ u. t ∷ (times_from (t + step) step m ++ times_from u step n)) start

pub evaluated_pieces : (samples : List Row) (query : Tree) (xs ys : List ℕ) → evaluated samples query (xs ++ ys) ≡ evaluated samples query xs ++ evaluated samples query ys
evaluated_pieces samples query [] ys = refl
evaluated_pieces samples query (t ∷ ts) ys =
    let here : Evaluated = record { time = t; cell = eval samples query (pos t) } in
    ap (λ rest. here ∷ rest) (evaluated_pieces samples query ts ys)
