-- The longest number, byte by byte.
use Rattle.std.proofs.Common.{◌≡◌, ◌∙◌, ℕ, suc, ◌+◌, ◌<◌, Option, Some, List, [], ◌∷◌, length, drop, get_or, cond, refl, sym, ap}
use Rattle.std.proofs.lemmas.List.{drop_more}
use Rattle.pf_lex.specs.Stages.{is_number, longest_from, stage_behind}
use Rattle.pf_lex.specs.declared.number.Stage.{Stage}
use Rattle.pf_lex.specs.declared.number.Stage.TheVariants.{Over}

pub over_left : (at : ℕ) (found : Option ℕ) (bs : List ℕ) → longest_from Over at found bs ≡ found
over_left at found [] = refl
over_left at found (b ∷ bs) = over_left (suc at) found bs

pub over_here : (s : Stage) (i : ℕ) (found : Option ℕ) (bs : List ℕ) (l : Option ℕ) → i < length bs → stage_behind s (get_or bs i 0) ≡ Over
    → longest_from s i found (drop i bs) ≡ l → found ≡ l
over_here s i found bs l lt e h =
    sym (over_left (suc i) found (drop (i + 1) bs))
    ∙ ap (λ t. longest_from t (suc i) (cond (is_number t) (Some (suc i)) found) (drop (i + 1) bs)) (sym e)
    ∙ ap (longest_from s i found) (sym (drop_more bs i 0 lt)) ∙ h
