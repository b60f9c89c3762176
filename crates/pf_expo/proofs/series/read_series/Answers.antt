use Rattle.std.proofs.Common.{◌≡◌, ℕ, true, List, [], ◌∷◌, length, eqb, refl, sym, arith}
use Rattle.std.proofs.lemmas.Bool.{eqb-true}
use Rattle.pf_expo.proofs.KnownLabels.{series_found}
use Rattle.pf_expo.proofs.series.read_series.Goals as goal

emptied : (bs : List ℕ) → true ≡ eqb (length bs) 0 → bs ≡ []
emptied [] e = refl
emptied (b ∷ bs) e = absurd (let g : length (b ∷ bs) ≡ 0 = eqb-true (length (b ∷ bs)) 0 (sym e) in omega (arith, g))

pub returns : goal.returns
returns c =
    series_found c.args.bytes.now c.in_ok-pairs.pairs.items c.in_ok-pairs.behind.now _ c.in_ok-pairs.ensures (emptied c.in_ok-pairs.behind.now c.if-not-is_empty.ensures) c.in_ok-labels.ensures
