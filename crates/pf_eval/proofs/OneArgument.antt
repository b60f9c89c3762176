-- One argument, counted by its length.
use Rattle.std.specs.Prelude.{Vec}
use Rattle.std.proofs.Common.{◌≡◌, ℕ, suc, true, false, sym, ap, get_or, ◌∙◌, List, [], ◌∷◌, map, length, refl, nat_eq, ne_eqb, arith}
use Rattle.pf_model.specs.declared.expr.Expr.{Expr}
use Rattle.pf_model.specs.declared.expr.Expr.TheVariants as expr
use Rattle.pf_model.specs.declared.expr.Function.{Function}
use Rattle.pf_model.specs.declared.expr.Function.TheVariants as called
use Rattle.pf_model.specs.declared.functions.RangeFn.{RangeFn}
use Rattle.pf_model.specs.Built.{is_evaluated, is_one, is_range_argument}
use Rattle.pf_model.specs.Trees as tree
use Rattle.pf_model.specs.Trees.{tree_of, trees_of}
use Rattle.pf_model.proofs.TreeOf.{call_tree}

pub one_counted : (es : List Expr) → nat_eq (length es) 1 ≡ is_one (trees_of (map tree_of es))
one_counted [] = ne_eqb 0 1 (λ e. omega (arith, e))
one_counted (x ∷ []) = refl
one_counted (x ∷ y ∷ es) = ne_eqb (length (x ∷ y ∷ es)) 1 (λ e. let two : suc (suc (length es)) ≡ 1 = e in omega (arith, two))

pub one_tree : (es : List Expr) (x : Expr) → length es ≡ 1 → x ≡ get_or es 0 x → trees_of (map tree_of es) ≡ tree.more (tree_of x) tree.none
one_tree [] x n e = absurd (omega (arith, n))
one_tree (y ∷ []) x n e = ap (λ z. tree.more (tree_of z) tree.none) (sym e)
one_tree (y ∷ z ∷ es) x n e = absurd (omega (arith, n))

pub one_is : (es : List Expr) → is_one (trees_of (map tree_of es)) ≡ true → length es ≡ 1
one_is [] h = cc
one_is (x ∷ []) h = refl
one_is (x ∷ y ∷ es) h = cc

not_one : (es : List Expr) → (length es ≡ 1 → ⊥) → is_range_argument (trees_of (map tree_of es)) ≡ false
not_one [] h = refl
not_one (x ∷ []) h = absurd (h refl)
not_one (x ∷ y ∷ es) h = refl

pub range_not_one : (e : Expr) (f : Function) (r : RangeFn) (v : Vec Expr _) (n : ℕ) → e ≡ expr.Call f v → f ≡ called.Range r → n ≡ length v.items → (n ≡ 1 → ⊥)
    → nat_eq n 1 ≡ is_evaluated (tree_of e)
range_not_one e f r v n is ranged n_is h =
    ne_eqb n 1 h ∙ sym (not_one v.items (λ one. h (n_is ∙ one))) ∙ ap (λ g. is_evaluated (tree.call g (trees_of (map tree_of v.items)))) (sym ranged)
    ∙ ap is_evaluated (sym (ap tree_of is ∙ call_tree f v))
