-- Where selectors stand, and arguments of one form.
use Rattle.std.proofs.Common.{◌≡◌, ℕ, Bool, true, false, ◌||◌, List, [], ◌∷◌, ◌++◌, map, length, refl, sym, ap, ◌∙◌, nat_eq, ne_eqb, Some, None}
use Rattle.std.specs.List.{list_any}
use Rattle.pf_model.specs.declared.expr.Expr.{Expr}
use Rattle.pf_model.specs.Sharding.{is_one_plain, is_range_selector, is_selector}
use Rattle.pf_model.specs.Trees as tree
use Rattle.pf_model.specs.Trees.{Tree, Trees, all_preorder, preorder, tree_of, trees_of}
use Rattle.pf_resolve.specs.Forms.{any_has_selector, has_selector}

or_assoc : (a b c : Bool) → ((a || b) || c) ≡ (a || (b || c))
or_assoc true b c = refl
or_assoc false b c = refl

any_append : (p : Tree → Bool) (xs ys : List Tree) → list_any p (xs ++ ys) ≡ (list_any p xs || list_any p ys)
any_append p [] ys = refl
any_append p (x ∷ xs) ys = ap (λ b. p x || b) (any_append p xs ys) ∙ sym (or_assoc (p x) (list_any p xs) (list_any p ys))

mutual
  pub selectors_in : (t : Tree) → has_selector t ≡ list_any is_selector (preorder t)
  selectors_in (tree.number v) = refl
  selectors_in (tree.text bytes) = refl
  selectors_in (tree.unary minus arg) = selectors_in arg
  selectors_in (tree.binary op m a b) =
      ap (λ x. x || has_selector b) (selectors_in a) ∙ ap (λ x. list_any is_selector (preorder a) || x) (selectors_in b)
      ∙ sym (any_append is_selector (preorder a) (preorder b))
  selectors_in (tree.call f args) = selectors_among args
  selectors_in (tree.aggregate op g args) = selectors_among args
  selectors_in (tree.select ms range mods) = refl
  selectors_in (tree.subquery arg range resolution mods) = selectors_in arg

  selectors_among : (ts : Trees) → any_has_selector ts ≡ list_any is_selector (all_preorder ts)
  selectors_among tree.none = refl
  selectors_among (tree.more t ts) =
      ap (λ x. x || any_has_selector ts) (selectors_in t) ∙ ap (λ x. list_any is_selector (preorder t) || x) (selectors_among ts)
      ∙ sym (any_append is_selector (preorder t) (all_preorder ts))

two : (t u : Tree) (us : Trees) → is_range_selector (tree.more t (tree.more u us)) ≡ false
two (tree.number v) u us = refl
two (tree.text bytes) u us = refl
two (tree.unary minus arg) u us = refl
two (tree.binary op m a b) u us = refl
two (tree.call f args) u us = refl
two (tree.aggregate op g args) u us = refl
two (tree.select ms None mods) u us = refl
two (tree.select ms (Some range) mods) u us = refl
two (tree.subquery arg range resolution mods) u us = refl

-- other than one argument
not_equal : (m n : ℕ) → (m ≡ n → ⊥) → nat_eq m n ≡ false
not_equal m n h = ne_eqb m n h

pub not_one : (xs : List Expr) → (length xs ≡ 1 → ⊥) → nat_eq (length xs) 1 ≡ is_range_selector (trees_of (map tree_of xs))
not_one [] h = not_equal 0 1 h
not_one (x ∷ []) h = absurd (h refl)
not_one (x ∷ y ∷ xs) h = not_equal (length (x ∷ y ∷ xs)) 1 h ∙ sym (two (tree_of x) (tree_of y) (trees_of (map tree_of xs)))

pub not_one_plain : (xs : List Expr) → (length xs ≡ 1 → ⊥) → nat_eq (length xs) 1 ≡ is_one_plain (trees_of (map tree_of xs))
not_one_plain [] h = not_equal 0 1 h
not_one_plain (x ∷ []) h = absurd (h refl)
not_one_plain (x ∷ y ∷ xs) h = not_equal (length (x ∷ y ∷ xs)) 1 h
