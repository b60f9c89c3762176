-- Copies of lists whose elements were copied one by one.
use Rattle.std.proofs.Common.{◌≡◌, ℕ, List}
use Rattle.std.specs.List.{AllZip}
use Rattle.std.proofs.lemmas.List.Elements.{same_from_all_zip}
use Rattle.pf_model.specs.declared.expr.Matcher.{Matcher}

pub same_matchers : (xs ys : List Matcher) → AllZip (λ (x y : Matcher). y ≡ x) xs ys → ys ≡ xs
same_matchers xs ys h = same_from_all_zip _ xs ys h (λ x y p. p)

pub same_texts : (xs ys : List (List ℕ)) → AllZip (λ (x y : List ℕ). y ≡ x) xs ys → ys ≡ xs
same_texts xs ys h = same_from_all_zip _ xs ys h (λ x y p. p)
