-- What a sort of entries gives: a block, with each sample as often.
use Rattle.std.proofs.Common.{◌≡◌, ℕ, suc, ℤ, Bool, true, false, cond, ◌&&◌, ◌||◌, List, [], ◌∷◌, map, refl, sym, ◌∙◌, arith, add-one}
use Rattle.std.specs.Prelude.{int_le, int_lt, nat_eq, nat_lt}
use Rattle.std.specs.List.Sorted.{IsPermutation, IsSorted}
use Rattle.std.specs.Ordering.{is_lt, nat_cmp, int_cmp, ordering_then}
use Rattle.std.specs.declared.cmp.Ordering.{Ordering}
use Rattle.std.specs.declared.cmp.Ordering.TheVariants.{Less, Equal, Greater}
use Rattle.std.proofs.lemmas.Int.{ints}
use Rattle.std.proofs.lemmas.Bool.Decides.{nat_tests}
use Rattle.std.proofs.lemmas.List.Sorted.{sum_by-IsPermutation}
use Rattle.std.proofs.lemmas.List.Recursion.{is_sum_by}
use Rattle.pf_base.specs.declared.plain.Sample.{Sample}
use Rattle.pf_block.specs.Blocks.{ascends, ascends_after, entry_of, is_upto}
use Rattle.pf_block.proofs.Merging.{once, times, times_more}
use Rattle.pf_block.proofs.Searches.{both}

abbrev Key : Type 0
Key = ℕ × (ℤ × ℤ)

abbrev pub key_cmp : Key → Key → Ordering
key_cmp a b = ordering_then (nat_cmp a.0 b.0) (ordering_then (int_cmp a.1.0 b.1.0) (int_cmp a.1.1 b.1.1))

not_less_by : (i j : ℕ) (s t v w : ℤ) (a b c : Bool) → nat_lt j i ≡ a → nat_eq j i ≡ b → int_lt t s ≡ c →
    is_lt (ordering_then (cond a Less (cond b Equal Greater)) (ordering_then (cond c Less (cond (int_lt s t) Greater Equal)) (int_cmp w v))) ≡ false → (nat_lt i j || (nat_eq i j && int_le s t)) ≡ true
not_less_by i j s t v w true b c p q r h = cc
not_less_by i j s t v w false false c p q r h = grind (arith, ints, nat_tests)
not_less_by i j s t v w false true true p q r h = cc
not_less_by i j s t v w false true false p q r h = grind (arith, ints, nat_tests)

not_less : (k l : Key) → is_lt (key_cmp l k) ≡ false → is_upto (entry_of k) (entry_of l) ≡ true
not_less k l h = not_less_by k.0 l.0 k.1.0 l.1.0 k.1.1 l.1.1 (nat_lt l.0 k.0) (nat_eq l.0 k.0) (int_lt l.1.0 k.1.0) refl refl refl h

tail_sorted : (x : Key) (xs : List Key) → IsSorted key_cmp (x ∷ xs) → IsSorted key_cmp xs
tail_sorted x xs s k d l h = let t = s (suc k) d (omega arith) (omega arith) in simp add-one (simp add-one at t)

after_sorted : (k : Key) (ks : List Key) → IsSorted key_cmp (k ∷ ks) → ascends_after (entry_of k) (map entry_of ks) ≡ true
after_sorted k [] s = refl
after_sorted k (l ∷ ks) s =
    both (is_upto (entry_of k) (entry_of l)) (ascends_after (entry_of l) (map entry_of ks)) (not_less k l (s 0 k (omega arith) (omega arith))) (after_sorted l ks (tail_sorted k (l ∷ ks) s))

pub sorted_ascends : (ks : List Key) → IsSorted key_cmp ks → ascends (map entry_of ks) ≡ true
sorted_ascends [] s = refl
sorted_ascends (k ∷ ks) s = after_sorted k ks s

pub sorted_times : (ks ls : List Key) → IsPermutation ks ls → (id : ℕ) (x : Sample) → times id x (map entry_of ls) ≡ times id x (map entry_of ks)
sorted_times ks ls p id x =
    let f : Key → ℕ = λ k. once id x (entry_of k) in
    is_sum_by (λ l. times id x (map entry_of l)) f refl (λ k l. times_more id x (entry_of k) (map entry_of l)) ls
    ∙ sum_by-IsPermutation f ks ls p
    ∙ sym (is_sum_by (λ l. times id x (map entry_of l)) f refl (λ k l. times_more id x (entry_of k) (map entry_of l)) ks)
