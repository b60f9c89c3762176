-- `label_replace` and `label_join` change each label set by itself.
use Rattle.std.proofs.Common.{◌≡◌, ◌<◌, ℕ, true, Option, List, [], ◌∷◌, length, refl, ap, map, arith}
use Rattle.pf_base.specs.LabelSets.{Pairs}
use Rattle.pf_model.specs.declared.cell.Element.{Element}
use Rattle.pf_model.specs.declared.functions.InstantFn.{InstantFn}
use Rattle.pf_model.specs.declared.functions.InstantFn.TheVariants as function
use Rattle.pf_model.specs.InstantFunctions.{label_join, label_replace}
use Rattle.pf_math.specs.Relabelling.{IsOfEachLabels, is_relabelling, joined_labels, replaced}

-- unchanged labels
kept_is : (es : List Element) → es ≡ map (λ e. record { labels = e.labels; value = e.value }) es
kept_is [] = refl
kept_is (e ∷ es) = ap (λ fs. e ∷ fs) (kept_is es)

replace_is : (expand : List ℕ → List ℕ → Option (List ℕ)) (texts : List (List ℕ)) (es : List Element)
    → label_replace expand texts es ≡ map (λ e. record { labels = replaced expand texts e.labels; value = e.value }) es
replace_is expand [] es = kept_is es
replace_is expand (a ∷ []) es = kept_is es
replace_is expand (a ∷ b ∷ []) es = kept_is es
replace_is expand (a ∷ b ∷ c ∷ rest) es = refl

join_is : (texts : List (List ℕ)) (es : List Element)
    → label_join texts es ≡ map (λ e. record { labels = joined_labels texts e.labels; value = e.value }) es
join_is [] es = kept_is es
join_is (a ∷ []) es = kept_is es
join_is (a ∷ b ∷ rest) es = refl

-- fewer than three texts change nothing
pub few_kept : (expand : List ℕ → List ℕ → Option (List ℕ)) (texts : List (List ℕ)) (ls : Pairs) → length texts < 3 → ls ≡ replaced expand texts ls
few_kept expand [] ls h = refl
few_kept expand (a ∷ []) ls h = refl
few_kept expand (a ∷ b ∷ []) ls h = refl
few_kept expand (a ∷ b ∷ c ∷ rest) ls h = absurd (omega (arith, h))

pub each_labels_is : (f : InstantFn) → is_relabelling f ≡ true → IsOfEachLabels f
each_labels_is function.LabelReplace h b es = replace_is b.expand b.texts es
each_labels_is function.LabelJoin h b es = join_is b.texts es
each_labels_is function.Abs h b es = cc
each_labels_is function.Ceil h b es = cc
each_labels_is function.Floor h b es = cc
each_labels_is function.Sgn h b es = cc
each_labels_is function.Round h b es = cc
each_labels_is function.Clamp h b es = cc
each_labels_is function.ClampMin h b es = cc
each_labels_is function.ClampMax h b es = cc
each_labels_is function.Absent h b es = cc
each_labels_is function.Scalar h b es = cc
each_labels_is function.Vector h b es = cc
each_labels_is function.Time h b es = cc
each_labels_is function.Timestamp h b es = cc
