-- The labels of other names, with and without the metric name among these.
use Rattle.std.proofs.Common.{◌≡◌, ℕ, Bool, true, false, cond, not, ◌||◌, List, [], ◌∷◌, refl, sym, ap, ◌∙◌}
use Rattle.std.specs.Str.{bytes_eq}
use Rattle.std.specs.Cmp.Lexicographic.{nat_list_eq_equiv}
use Rattle.pf_base.specs.LabelSets.{Pairs}
use Rattle.pf_base.specs.LabelChanges.{metric_name, is_among, left_out, others}

left_step : (names : List (List ℕ)) (p : List ℕ × List ℕ) (rest : Pairs) (b : Bool)
    → cond (not (b || is_among names p)) (p ∷ left_out names rest) (left_out names rest) ≡ left_out names (cond (not b) (p ∷ rest) rest)
left_step names p rest true = refl
left_step names p rest false = refl

pub left_without_name : (names : List (List ℕ)) (ps : Pairs) → left_out names (others metric_name ps) ≡ left_out (metric_name ∷ names) ps
left_without_name names [] = refl
left_without_name names (p ∷ ps) =
    ap (λ b. left_out names (cond (not b) (p ∷ others metric_name ps) (others metric_name ps))) (nat_list_eq_equiv.symm p.0 metric_name)
    ∙ sym (left_step names p (others metric_name ps) (bytes_eq metric_name p.0))
    ∙ ap (λ zs. cond (not (bytes_eq metric_name p.0 || is_among names p)) (p ∷ zs) zs) (left_without_name names ps)
