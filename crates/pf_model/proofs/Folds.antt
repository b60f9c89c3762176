-- What is put together over all shards is what is put together over all elements, whatever is put together: sums, numbers,
-- least and greatest values, and whether a test passes.
use Rattle.std.proofs.Common.{◌≡◌, ℕ, zero, suc, ◌<◌, ◌≤◌, Bool, true, false, cond, List, [], ◌∷◌, ◌++◌, map, refl, sym, ap, ◌∙◌, arith, nat_eq, mod-lt}
use Rattle.std.specs.List.{filter}
use Rattle.pf_base.specs.ShardHash.{shard_of}
use Rattle.pf_model.specs.declared.cell.Element.{Element}

-- the elements of a shard
abbrev pub in_shard : ℕ → ℕ → Element → Bool
in_shard n i e = nat_eq (shard_of e.labels n) i

-- `plus` puts two together, in any order, and `none` changes nothing
pub record Puts {M : Type 0} (none : M) (plus : M → M → M) : Type 0 where
  pub left : (x : M) → plus none x ≡ x
  pub assoc : (x y z : M) → plus (plus x y) z ≡ plus x (plus y z)
  pub comm : (x y : M) → plus x y ≡ plus y x

module _ {M : Type 0} (none : M) (plus : M → M → M) (laws : Puts none plus) where
  abbrev pub fold : List M → M
  fold [] = none
  fold (x ∷ xs) = plus x (fold xs)

  abbrev pub fold_below : (ℕ → M) → ℕ → M
  fold_below f zero = none
  fold_below f (suc n) = plus (fold_below f n) (f n)

  pub right : (x : M) → plus x none ≡ x
  right x = laws.comm x none ∙ laws.left x

  turned : (x y z : M) → plus x (plus y z) ≡ plus y (plus x z)
  turned x y z = sym (laws.assoc x y z) ∙ ap (λ a. plus a z) (laws.comm x y) ∙ laws.assoc y x z

  pub fold_append : (xs ys : List M) → fold (xs ++ ys) ≡ plus (fold xs) (fold ys)
  fold_append [] ys = sym (laws.left (fold ys))
  fold_append (x ∷ xs) ys = ap (plus x) (fold_append xs ys) ∙ sym (laws.assoc x (fold xs) (fold ys))

  pub below_alike : (f g : ℕ → M) → ((i : ℕ) → f i ≡ g i) → (n : ℕ) → fold_below f n ≡ fold_below g n
  below_alike f g h zero = refl
  below_alike f g h (suc n) = ap (λ x. plus x (f n)) (below_alike f g h n) ∙ ap (plus (fold_below g n)) (h n)

  below_none : (n : ℕ) → fold_below (λ i. none) n ≡ none
  below_none zero = refl
  below_none (suc n) = ap (λ x. plus x none) (below_none n) ∙ laws.left none

  -- one more at the place k
  abbrev IsMoreAt : M → ℕ → (ℕ → M) → (ℕ → M) → Type 0
  IsMoreAt v k f g = (i : ℕ) → g i ≡ cond (nat_eq k i) (plus v (f i)) (f i)

  past : (v : M) (k : ℕ) (f g : ℕ → M) → IsMoreAt v k f g → (n : ℕ) → n ≤ k → fold_below g n ≡ fold_below f n
  past v k f g more zero h = refl
  past v k f g more (suc n) h =
      let here : nat_eq k n ≡ false = grind arith in
      ap (λ x. plus x (g n)) (past v k f g more n (omega arith))
      ∙ ap (plus (fold_below f n)) (more n ∙ ap (λ b. cond b (plus v (f n)) (f n)) here)

  step : (v : M) (k n : ℕ) (f g : ℕ → M) → IsMoreAt v k f g → k < suc n → (k < n → fold_below g n ≡ plus v (fold_below f n))
      → (b : Bool) → nat_eq k n ≡ b → fold_below g (suc n) ≡ plus v (fold_below f (suc n))
  step v k n f g more h before true e =
      ap (λ x. plus x (g n)) (past v k f g more n (grind arith))
      ∙ ap (plus (fold_below f n)) (more n ∙ ap (λ b. cond b (plus v (f n)) (f n)) e)
      ∙ turned (fold_below f n) v (f n)
  step v k n f g more h before false e =
      ap (λ x. plus x (g n)) (before (grind arith))
      ∙ ap (plus (plus v (fold_below f n))) (more n ∙ ap (λ b. cond b (plus v (f n)) (f n)) e)
      ∙ laws.assoc v (fold_below f n) (f n)

  one_more : (v : M) (k : ℕ) (f g : ℕ → M) → IsMoreAt v k f g → (n : ℕ) → k < n → fold_below g n ≡ plus v (fold_below f n)
  one_more v k f g more zero h = absurd (omega arith)
  one_more v k f g more (suc n) h = step v k n f g more h (one_more v k f g more n) (nat_eq k n) refl

  fold_step : (w : Element → M) (e : Element) (rest : List Element) (b : Bool) → fold (map w (cond b (e ∷ rest) rest)) ≡ cond b (plus (w e) (fold (map w rest))) (fold (map w rest))
  fold_step w e rest true = refl
  fold_step w e rest false = refl

  pub fold_of_shards : (n : ℕ) → 0 < n → (w : Element → M) (es : List Element) → fold_below (λ i. fold (map w (filter (in_shard n i) es))) n ≡ fold (map w es)
  fold_of_shards n h w [] = below_none n
  fold_of_shards n h w (e ∷ es) =
      one_more (w e) (shard_of e.labels n) (λ i. fold (map w (filter (in_shard n i) es))) (λ i. fold (map w (filter (in_shard n i) (e ∷ es))))
      (λ i. fold_step w e (filter (in_shard n i) es) (in_shard n i e)) n (mod-lt _ h)
      ∙ ap (plus (w e)) (fold_of_shards n h w es)
