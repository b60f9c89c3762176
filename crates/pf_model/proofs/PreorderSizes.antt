-- A tree has as many nodes as its size says.
use Rattle.std.proofs.Common.{◌≡◌, ◌∙◌, ◌+◌, ◌++◌, length, refl, ap, arith}
use Rattle.std.proofs.lemmas.List.{length-append}
use Rattle.pf_model.specs.Trees.{Tree, Trees, number, text, unary, binary, call, aggregate, select, subquery, none, more, preorder, all_preorder, size, sizes}

mutual
  pub preorder_size : (q : Tree) → length (preorder q) ≡ size q
  preorder_size (number v) = refl
  preorder_size (text bytes) = refl
  preorder_size (unary minus q) = let h : length (preorder q) ≡ size q = preorder_size q in omega (arith, h)
  preorder_size (binary op m l r) =
      let both : length (preorder l ++ preorder r) ≡ size l + size r = length-append (preorder l) (preorder r) ∙ ap (λ n. n + length (preorder r)) (preorder_size l) ∙ ap (λ n. size l + n) (preorder_size r) in
      omega (arith, both)
  preorder_size (call f args) = let h : length (all_preorder args) ≡ sizes args = preorder_sizes args in omega (arith, h)
  preorder_size (aggregate op g args) = let h : length (all_preorder args) ≡ sizes args = preorder_sizes args in omega (arith, h)
  preorder_size (select ms range mods) = refl
  preorder_size (subquery q range resolution mods) = let h : length (preorder q) ≡ size q = preorder_size q in omega (arith, h)

  pub preorder_sizes : (qs : Trees) → length (all_preorder qs) ≡ sizes qs
  preorder_sizes none = refl
  preorder_sizes (more q qs) =
      length-append (preorder q) (all_preorder qs) ∙ ap (λ n. n + length (all_preorder qs)) (preorder_size q) ∙ ap (λ n. size q + n) (preorder_sizes qs)
