-- The steps of going through operands from the left.
use Rattle.std.proofs.Common.{◌≡◌, ◌∙◌, sym, ap, refl, ℕ, suc, ◌+◌, ◌<◌, ◌≤◌, arith, add-one, List, [], ◌∷◌, drop, get_or, length, map, Option, None}
use Rattle.std.proofs.Math.Seq.{drop-cons}
use Rattle.std.proofs.lemmas.List.{drop_all}
use Rattle.std.specs.Option.{option_map, option_or}
use Rattle.pf_model.specs.declared.expr.Expr.{Expr}
use Rattle.pf_model.specs.declared.expr.Kind.{Kind}
use Rattle.pf_model.specs.Lists.{at}
use Rattle.pf_model.specs.Trees.{Tree, size, sizes, tree_of, trees_of}
use Rattle.pf_model.specs.Typing.{TypeFault, Wanted, only, first_wrong, kind_of}
use Rattle.pf_types.specs.declared.error.TypeError.{TypeError}
use Rattle.pf_types.specs.Faults.{all_from, capped, fault_from, fault_of}
use Rattle.pf_types.specs.Rules.{argument_fault}
use Rattle.pf_types.proofs.Faults.{both, map_or, or_none, or_or, or_second}
use Rattle.pf_types.proofs.NodeFaults.{more_from, none_from, wrong_from}

-- the trees from a place on
abbrev pub rest : List Expr → ℕ → List Tree
rest xs i = map tree_of (drop i xs)

pub rest_more : (xs : List Expr) (i : ℕ) (x : Expr) → i < length xs → x ≡ get_or xs i x → rest xs i ≡ tree_of x ∷ rest xs (i + 1)
rest_more xs i x h is =
    ap (map tree_of) (drop-cons xs i x h) ∙ ap (λ y. tree_of y ∷ rest xs (suc i)) (sym is)
    ∙ ap (λ k. tree_of x ∷ rest xs k) (sym (add-one i))

pub rest_none : (xs : List Expr) (i : ℕ) → length xs ≤ i → rest xs i ≡ []
rest_none xs i h = ap (map tree_of) (drop_all i xs h)

pub fault_more : (n : ℕ) (xs : List Expr) (i : ℕ) (x : Expr) → i < length xs → x ≡ get_or xs i x
    → all_from n (trees_of (rest xs i))
    ≡ option_or (fault_from n (tree_of x)) (all_from (capped (n + size (tree_of x))) (trees_of (rest xs (i + 1))))
fault_more n xs i x h is =
    ap (λ ts. all_from n (trees_of ts)) (rest_more xs i x h is) ∙ more_from n (tree_of x) (trees_of (rest xs (i + 1)))

-- behind a lawful operand
pub fault_step : (n next : ℕ) (xs : List Expr) (i : ℕ) (x : Expr) → i < length xs → x ≡ get_or xs i x
    → None ≡ fault_from n (tree_of x) → next ≡ capped (n + size (tree_of x))
    → all_from next (trees_of (rest xs (i + 1))) ≡ all_from n (trees_of (rest xs i))
fault_step n next xs i x h is p q =
    ap (λ k. all_from k (trees_of (rest xs (i + 1)))) q
    ∙ sym (fault_more n xs i x h is ∙ or_second (fault_from n (tree_of x)) (all_from (capped (n + size (tree_of x))) (trees_of (rest xs (i + 1)))) (sym p))

pub next_sum : (n next k m : ℕ) → next ≡ capped (n + k) → capped (next + m) ≡ capped (n + (k + m))
next_sum n next k m e = omega (arith, e)

pub next_step : (n next : ℕ) (xs : List Expr) (i : ℕ) (x : Expr) → i < length xs → x ≡ get_or xs i x
    → next ≡ capped (n + size (tree_of x))
    → capped (next + sizes (trees_of (rest xs (i + 1)))) ≡ capped (n + sizes (trees_of (rest xs i)))
next_step n next xs i x h is q =
    next_sum n next (size (tree_of x)) (sizes (trees_of (rest xs (i + 1)))) q
    ∙ sym (ap (λ ts. capped (n + sizes (trees_of ts))) (rest_more xs i x h is))

pub wrong_step : (n : ℕ) (ks : List Kind) (xs : List Expr) (i : ℕ) (x : Expr) (old new here : Option TypeError) (wanted : Option Kind) (k : Kind)
    → i < length xs → x ≡ get_or xs i x → wanted ≡ at ks i → k ≡ kind_of (tree_of x)
    → option_map fault_of here ≡ argument_fault n wanted k → new ≡ option_or old here
    → option_or (option_map fault_of new) (first_wrong n (map only (drop (i + 1) ks)) (rest xs (i + 1)))
    ≡ option_or (option_map fault_of old) (first_wrong n (map only (drop i ks)) (rest xs i))
wrong_step n ks xs i x old new here wanted k h is p q r s =
    ap (λ o. option_or (option_map fault_of o) (first_wrong n (map only (drop (i + 1) ks)) (rest xs (i + 1)))) s
    ∙ ap (λ o. option_or o (first_wrong n (map only (drop (i + 1) ks)) (rest xs (i + 1)))) (map_or fault_of old here)
    ∙ or_or (option_map fault_of old) (option_map fault_of here) (first_wrong n (map only (drop (i + 1) ks)) (rest xs (i + 1)))
    ∙ ap (option_or (option_map fault_of old))
    (both (r ∙ ap (λ w. argument_fault n w k) p ∙ ap (argument_fault n (at ks i)) q)
    (ap (λ j. first_wrong n (map only (drop j ks)) (rest xs (i + 1))) (add-one i))
    ∙ sym (ap (first_wrong n (map only (drop i ks))) (rest_more xs i x h is) ∙ wrong_from n ks i (tree_of x) (rest xs (i + 1))))

-- ---- behind the last operand

pub wrong_nil : (n : ℕ) (ws : List Wanted) → first_wrong n ws [] ≡ None
wrong_nil n [] = refl
wrong_nil n (w ∷ ws) = refl

pub wrong_end : (n : ℕ) (ws : List Wanted) (xs : List Expr) (i : ℕ) (o : Option TypeFault) → length xs ≤ i
    → option_or o (first_wrong n ws (rest xs i)) ≡ o
wrong_end n ws xs i o h = ap (λ es. option_or o (first_wrong n ws es)) (rest_none xs i h) ∙ ap (option_or o) (wrong_nil n ws) ∙ or_none o

pub fault_end : (n : ℕ) (xs : List Expr) (i : ℕ) → length xs ≤ i → all_from n (trees_of (rest xs i)) ≡ None
fault_end n xs i h = ap (λ ts. all_from n (trees_of ts)) (rest_none xs i h) ∙ none_from n

pub next_end : (n : ℕ) (xs : List Expr) (i : ℕ) → n < 4294967296 → length xs ≤ i → n ≡ capped (n + sizes (trees_of (rest xs i)))
next_end n xs i f h =
    let e : n ≡ capped (n + 0) = omega (arith, f) in e ∙ sym (ap (λ ts. capped (n + sizes (trees_of ts))) (rest_none xs i h))
