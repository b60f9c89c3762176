-- Texts joined by a separator: the first, and each other with the separator before it.
use Rattle.std.proofs.Common.{◌≡◌, ℕ, List, [], ◌∷◌, ◌++◌, sym, ap, ◌∙◌, append_assoc, append-nil, drop}
use Rattle.pf_base.specs.LabelSets.{Pairs, value_of}
use Rattle.pf_model.specs.Lists.{joined}
use Rattle.pf_math.specs.Relabelling.{joined_values}

module _ (separator : List ℕ) (labels : Pairs) where
  abbrev behind : List ℕ → List ℕ
  behind source = separator ++ value_of labels source

  first_is : (source : List ℕ) (sources : List (List ℕ)) → value_of labels source ++ joined behind sources ≡ joined_values separator (source ∷ sources) labels
  first_is source [] = append-nil (value_of labels source)
  first_is source (next ∷ sources) =
      ap (λ bytes. value_of labels source ++ bytes)
      (append_assoc separator (value_of labels next) (joined behind sources) ∙ ap (λ bytes. separator ++ bytes) (first_is next sources))

  pub begun : (bytes source : List ℕ) (rest sources : List (List ℕ)) → bytes ≡ value_of labels source → sources ≡ source ∷ rest
      → bytes ++ joined behind (drop 0 rest) ≡ joined_values separator sources labels
  begun bytes source rest sources h e =
      ap (λ bs. bs ++ joined behind rest) h ∙ first_is source rest ∙ sym (ap (λ ss. joined_values separator ss labels) e)
