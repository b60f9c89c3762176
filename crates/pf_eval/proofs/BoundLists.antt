-- The lists of series that a query's selectors take, and how nodes take them one after another.
use Rattle.std.proofs.Common.{◌≡◌, ℕ, Bool, true, false, ◌&&◌, List, [], ◌∷◌, ◌++◌, map, refl, ap, ◌∙◌}
use Rattle.std.proofs.lemmas.List.{map-append}
use Rattle.pf_base.specs.LabelSets.{Pairs}
use Rattle.pf_model.specs.declared.expr.Matcher.{Matcher}
use Rattle.pf_model.specs.Binding.{accepted_ids, bound_series, matchers_in}
use Rattle.pf_model.specs.Trees as tree
use Rattle.pf_model.specs.Trees.{Tree, Trees, all_preorder, preorder}
use Rattle.pf_eval.specs.Bound.{Begins, all_series_in, behind, series_in}

pub matchers_append : (xs ys : List Tree) → matchers_in (xs ++ ys) ≡ matchers_in xs ++ matchers_in ys
matchers_append [] ys = refl
matchers_append (tree.number v ∷ xs) ys = matchers_append xs ys
matchers_append (tree.text bytes ∷ xs) ys = matchers_append xs ys
matchers_append (tree.unary minus arg ∷ xs) ys = matchers_append xs ys
matchers_append (tree.binary op m a b ∷ xs) ys = matchers_append xs ys
matchers_append (tree.call f args ∷ xs) ys = matchers_append xs ys
matchers_append (tree.aggregate op g args ∷ xs) ys = matchers_append xs ys
matchers_append (tree.select ms range mods ∷ xs) ys = ap (λ zs. ms ∷ zs) (matchers_append xs ys)
matchers_append (tree.subquery arg range resolution mods ∷ xs) ys = matchers_append xs ys

module _ (ls : List Pairs) where
  abbrev ids : List Matcher → List ℕ
  ids ms = accepted_ids ms ls

  both : (xs ys : List Tree) → map ids (matchers_in (xs ++ ys)) ≡ map ids (matchers_in xs) ++ map ids (matchers_in ys)
  both xs ys = ap (map ids) (matchers_append xs ys) ∙ map-append ids (matchers_in xs) (matchers_in ys)

  mutual
    pub bound_is : (t : Tree) → bound_series t ls ≡ series_in t ls
    bound_is (tree.number v) = refl
    bound_is (tree.text bytes) = refl
    bound_is (tree.unary minus arg) = bound_is arg
    bound_is (tree.binary op m a b) = both (preorder a) (preorder b) ∙ (λ i. bound_is a i ++ bound_is b i)
    bound_is (tree.call f args) = all_bound args
    bound_is (tree.aggregate op g args) = all_bound args
    bound_is (tree.select ms range mods) = refl
    bound_is (tree.subquery arg range resolution mods) = bound_is arg

    all_bound : (ts : Trees) → map ids (matchers_in (all_preorder ts)) ≡ all_series_in ts ls
    all_bound tree.none = refl
    all_bound (tree.more t ts) = both (preorder t) (all_preorder ts) ∙ (λ i. bound_is t i ++ all_bound ts i)

pub begins_all : (xs : List (List ℕ)) → Begins xs xs
begins_all [] = tt
begins_all (x ∷ xs) = (refl, begins_all xs)

pub begins_left : (xs ys lists : List (List ℕ)) → Begins (xs ++ ys) lists → Begins xs lists
begins_left [] ys lists h = tt
begins_left (x ∷ xs) ys [] h = h
begins_left (x ∷ xs) ys (l ∷ ls) h = (h.0, begins_left xs ys ls h.1)

pub begins_right : (xs ys lists : List (List ℕ)) → Begins (xs ++ ys) lists → Begins ys (behind xs lists)
begins_right [] ys lists h = h
begins_right (x ∷ xs) ys [] h = absurd h
begins_right (x ∷ xs) ys (l ∷ ls) h = begins_right xs ys ls h.1

pub behind_both : (xs ys lists : List (List ℕ)) → behind (xs ++ ys) lists ≡ behind ys (behind xs lists)
behind_both [] ys lists = refl
behind_both (x ∷ xs) [] [] = refl
behind_both (x ∷ xs) (y ∷ ys) [] = refl
behind_both (x ∷ xs) ys (l ∷ ls) = behind_both xs ys ls

pub two_true : (a b : Bool) → (a && b) ≡ true → (a ≡ true) × (b ≡ true)
two_true true true h = (refl, refl)
two_true true false h = cc
two_true false b h = cc
