-- Arguments one after another, and the times that they read.
use Rattle.std.proofs.Common.{◌≡◌, ℕ, suc, ◌+◌, ◌*◌, ◌<◌, ◌≤◌, ℤ, pos, ◌-ℤ◌, true, List, map, length, drop, drop-cons, get_or, Option, Some, None, refl, sym, ap, ◌∙◌, arith}
use Rattle.std.specs.Int.{int_max, int_min}
use Rattle.std.specs.Cmp.{first_so, second_so}
use Rattle.std.proofs.lemmas.Int.{ints}
use Rattle.pf_model.specs.declared.expr.Expr.{Expr}
use Rattle.pf_model.specs.Evaluation.{multiples}
use Rattle.pf_model.specs.Reach.{Times, all_times_read, all_together, times_read, together}
use Rattle.pf_model.specs.Trees.{heights, more, tree_of, trees_of}
use Rattle.pf_resolve.specs.Bounds.{are_small, is_small}

min_assoc : (a b c : ℤ) → int_min (int_min a b) c ≡ int_min a (int_min b c)
min_assoc a b c = grind (arith, ints)

max_assoc : (a b c : ℤ) → int_max (int_max a b) c ≡ int_max a (int_max b c)
max_assoc a b c = grind (arith, ints)

pub together_assoc : (a b c : Option Times) → together (together a b) c ≡ together a (together b c)
together_assoc None b c = refl
together_assoc (Some a) None c = refl
together_assoc (Some a) (Some b) None = refl
together_assoc (Some a) (Some b) (Some c) =
    λ i. Some (record { earliest = min_assoc a.earliest b.earliest c.earliest i; latest = max_assoc a.latest b.latest c.latest i })

-- the first of the arguments that are left
pub first_left : (args : List Expr) (i : ℕ) (x : Expr) → i < length args → x ≡ get_or args i x
    → trees_of (map tree_of (drop i args)) ≡ more (tree_of x) (trees_of (map tree_of (drop (i + 1) args)))
first_left args i x h e =
    let n : suc i ≡ i + 1 = omega arith in
    ap (λ xs. trees_of (map tree_of xs)) (drop-cons args i x h)
    ∙ ap (λ k. more (tree_of (get_or args i x)) (trees_of (map tree_of (drop k args)))) n
    ∙ ap (λ y. more (tree_of y) (trees_of (map tree_of (drop (i + 1) args)))) (sym e)

module _ (args : List Expr) (i : ℕ) (x : Expr) (h : i < length args) (e : x ≡ get_or args i x) where
  pub small_first : are_small (trees_of (map tree_of (drop i args))) ≡ true → is_small (tree_of x) ≡ true
  small_first s = first_so (is_small (tree_of x)) (are_small (trees_of (map tree_of (drop (i + 1) args)))) (sym (ap are_small (first_left args i x h e)) ∙ s)

  pub small_left : are_small (trees_of (map tree_of (drop i args))) ≡ true → are_small (trees_of (map tree_of (drop (i + 1) args))) ≡ true
  small_left s = second_so (is_small (tree_of x)) (are_small (trees_of (map tree_of (drop (i + 1) args)))) (sym (ap are_small (first_left args i x h e)) ∙ s)

  pub room_left : (t : ℕ) → t + 17592186044416 * heights (trees_of (map tree_of (drop i args))) ≤ 2251799813685248
      → t + 17592186044416 * heights (trees_of (map tree_of (drop (i + 1) args))) ≤ 2251799813685248
  room_left t r =
      let n = ap heights (first_left args i x h e) in
      let m : heights (trees_of (map tree_of (drop (i + 1) args))) ≤ heights (more (tree_of x) (trees_of (map tree_of (drop (i + 1) args)))) = omega arith in
      omega (arith, n, m, r)

  pub read_left : (t : ℤ) (before now one : Option Times) → now ≡ together before one → one ≡ times_read (tree_of x) t
      → (all : Option Times) → together before (all_times_read (trees_of (map tree_of (drop i args))) t) ≡ all
      → together now (all_times_read (trees_of (map tree_of (drop (i + 1) args))) t) ≡ all
  read_left t before now one p q all r =
      let others = all_times_read (trees_of (map tree_of (drop (i + 1) args))) t in
      ap (λ o. together o others) (p ∙ ap (together before) q)
      ∙ together_assoc before (times_read (tree_of x) t) others
      ∙ ap (λ ts. together before (all_times_read ts t)) (sym (first_left args i x h e))
      ∙ r

-- a subquery's times, where its window's end and its step are other terms
pub over_window : (f : ℤ → Option Times) (step step' range : ℕ) (to to' : ℤ) → step ≡ step' → to ≡ to'
    → all_together (map f (multiples step (to -ℤ pos range) to)) ≡ all_together (map f (multiples step' (to' -ℤ pos range) to'))
over_window f step step' range to to' p q = λ i. all_together (map f (multiples (p i) (q i -ℤ pos range) (q i)))
