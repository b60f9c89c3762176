-- What is made of keys and buckets is made of the groups that they are.
use Rattle.std.proofs.Common.{◌≡◌, ℕ, List, [], ◌∷◌, ◌++◌, Bor, length, map, take, refl, sym, ap, ◌∙◌, arith}
use Rattle.std.specs.Prelude.{min}
use Rattle.std.proofs.lemmas.List.{take-map, take_min}
use Rattle.pf_base.specs.LabelSets.{Pairs}
use Rattle.pf_model.specs.declared.cell.Element.{Element}
use Rattle.pf_model.specs.Lists.{joined}
use Rattle.pf_agg.specs.Buckets.{grouped}

pub joined_grouped : (f : List Element → List Element) (ks : List Pairs) (bs : List (List Element)) → length bs ≡ length ks
    → joined f bs ≡ joined (λ g. f g.elements) (grouped ks bs)
joined_grouped f [] [] h = refl
joined_grouped f [] (b ∷ bs) h = absurd (omega (arith, h))
joined_grouped f (k ∷ ks) [] h = absurd (omega (arith, h))
joined_grouped f (k ∷ ks) (b ∷ bs) h = ap (λ es. f b ++ es) (joined_grouped f ks bs (omega (arith, h)))

pub first_copied : (most : ℕ) (es : List (Bor Element)) → map (λ e. e.now) (take (min most (length es)) es) ≡ take most (map (λ e. e.now) es)
first_copied most es = ap (map (λ e. e.now)) (take_min most es) ∙ sym (take-map (λ e. e.now) most es)
