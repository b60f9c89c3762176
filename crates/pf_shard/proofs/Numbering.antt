-- The numbers that one walk finds are those of the nodes in preorder.
use Rattle.std.proofs.Common.{◌≡◌, ℕ, ◌+◌, Bool, true, false, cond, List, [], ◌∷◌, ◌++◌, length, refl, sym, ap, ◌∙◌, arith}
use Rattle.pf_model.proofs.PreorderSizes.{preorder_size}
use Rattle.pf_model.specs.Sharding.{is_sharded, sharded_from, sharded_nodes}
use Rattle.pf_model.specs.Trees.{Tree, Trees, number, text, unary, binary, call, aggregate, select, subquery, none, more, preorder, all_preorder, size}
use Rattle.pf_shard.specs.Numbers.{all_numbers_in, numbers_in}

one_further : (b : Bool) (n : ℕ) (xs ys zs : List ℕ) → xs ≡ ys ++ zs → cond b (n ∷ xs) xs ≡ cond b (n ∷ ys) ys ++ zs
one_further true n xs ys zs h = ap (λ l. n ∷ l) h
one_further false n xs ys zs h = h

sharded_append : (n : ℕ) (xs ys : List Tree) → sharded_from n (xs ++ ys) ≡ sharded_from n xs ++ sharded_from (n + length xs) ys
sharded_append n [] ys = ap (λ k. sharded_from k ys) (omega arith)
sharded_append n (x ∷ xs) ys =
    let same : n + 1 + length xs ≡ n + length (x ∷ xs) = omega arith in
    one_further (is_sharded x) n (sharded_from (n + 1) (xs ++ ys)) (sharded_from (n + 1) xs) (sharded_from (n + length (x ∷ xs)) ys)
    (sharded_append (n + 1) xs ys ∙ ap (λ k. sharded_from (n + 1) xs ++ sharded_from k ys) same)

two_parts : (n : ℕ) (q : Tree) (behind : List Tree) → sharded_from n (preorder q ++ behind) ≡ sharded_from n (preorder q) ++ sharded_from (n + size q) behind
two_parts n q behind = sharded_append n (preorder q) behind ∙ ap (λ k. sharded_from n (preorder q) ++ sharded_from (n + k) behind) (preorder_size q)

own_first : (b : Bool) (n : ℕ) (xs : List ℕ) → cond b (n ∷ []) [] ++ xs ≡ cond b (n ∷ xs) xs
own_first true n xs = refl
own_first false n xs = refl

mutual
  found : (n : ℕ) (q : Tree) → numbers_in n q ≡ sharded_from n (preorder q)
  found n (number v) = refl
  found n (text bytes) = refl
  found n (unary minus q) = found (n + 1) q
  found n (binary op m l r) = (λ i. found (n + 1) l i ++ found (n + 1 + size l) r i) ∙ sym (two_parts (n + 1) l (preorder r))
  found n (call f args) = all_found (n + 1) args
  found n (aggregate op g args) =
      ap (λ xs. cond (is_sharded (aggregate op g args)) (n ∷ []) [] ++ xs) (all_found (n + 1) args)
      ∙ own_first (is_sharded (aggregate op g args)) n (sharded_from (n + 1) (all_preorder args))
  found n (select ms range mods) = refl
  found n (subquery q range resolution mods) = found (n + 1) q

  all_found : (n : ℕ) (qs : Trees) → all_numbers_in n qs ≡ sharded_from n (all_preorder qs)
  all_found n none = refl
  all_found n (more q qs) = (λ i. found n q i ++ all_found (n + size q) qs i) ∙ sym (two_parts n q (all_preorder qs))

pub numbers_are : (q : Tree) → numbers_in 0 q ≡ sharded_nodes q
numbers_are q = found 0 q
