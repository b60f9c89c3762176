-- Reads of a series from blocks, from the newest on.
use Rattle.std.proofs.Common.{◌≡◌, ℕ, zero, suc, ◌-◌, ◌<◌, ◌≤◌, ℤ, Bool, true, false, List, [], ◌∷◌, ◌++◌, length, map, min, take, drop, get_or, refl, sym, ap, ◌∙◌, subst, arith, Some, Option}
use Rattle.std.specs.Prelude.{int_lt, int_le, nat_eq}
use Rattle.std.specs.List.{slice_get}
use Rattle.std.proofs.lemmas.Int.{ints}
use Rattle.pf_base.specs.declared.plain.Sample.{Sample}
use Rattle.pf_block.specs.Blocks.{Entries, samples_in}
use Rattle.pf_block.specs.Samples.{ends_at, is_within, last_of, later_of, merged_samples, rises, stretch_of, window_of}
use Rattle.pf_block.specs.Stacks.{joined_in, read_in, series_in}
use Rattle.pf_block.proofs.Canonical.{rises_front}
use Rattle.pf_block.proofs.MergedSamples.{merged_filter, parts_rise}
use Rattle.pf_block.proofs.Pairing.{drop_at}
use Rattle.std.proofs.lemmas.Bool.Decides.{nat_tests}
use Rattle.std.proofs.lemmas.List.{length-drop}
use Rattle.std.proofs.Math.Seq.{take-length}
use Rattle.pf_block.proofs.Searches.{last_is, window_rises}
use Rattle.pf_block.proofs.Series.{drop_rises, joined_is, series_parts, take_over}
use Rattle.pf_block.proofs.Stretches.{IsFront, before_front, ends_last, front_on, later_last, stretch_front, stretch_left, whole_front}

-- ---- a block and those behind it

module _ (id : ℕ) (bs : List Entries) (n m : ℕ) (b : Entries) (l : n < length bs) (h : b ≡ get_or bs n []) (e : m ≡ suc n) where
  behind_is : b ∷ drop m bs ≡ drop n bs
  behind_is = (λ i. h i ∷ drop (e i) bs) ∙ sym (drop_at n bs [] l)

  pub joined_next : samples_in id b ++ joined_in id (drop m bs) ≡ joined_in id (drop n bs)
  joined_next = ap (joined_in id) behind_is

  series_next : merged_samples (samples_in id b) (series_in id (drop m bs)) ≡ series_in id (drop n bs)
  series_next = ap (series_in id) behind_is

  module _ (a u : ℤ) (ws : List Sample) (w : ws ≡ window_of (samples_in id b) a u) (r : rises (series_in id bs) ≡ true) where
    pub window_next : merged_samples ws (window_of (series_in id (drop m bs)) a u) ≡ window_of (series_in id (drop n bs)) a u
    window_next =
        ap (λ x. merged_samples x (window_of (series_in id (drop m bs)) a u)) w
        ∙ merged_filter (is_within a u) (samples_in id b) (series_in id (drop m bs)) (ap rises series_next ∙ drop_rises id n bs r)
        ∙ ap (λ x. window_of x a u) series_next

    window_up : rises (merged_samples ws (window_of (series_in id (drop m bs)) a u)) ≡ true
    window_up = ap rises window_next ∙ window_rises a u (series_in id (drop n bs)) (drop_rises id n bs r)

    pub stretch_step : (run new : List Sample) → IsFront run (window_of (series_in id (drop m bs)) a u) → new ≡ stretch_of ws run → IsFront new (window_of (series_in id (drop n bs)) a u)
    stretch_step run new f q =
        subst (λ x. IsFront x (window_of (series_in id (drop n bs)) a u)) (sym q)
        (subst (λ x. IsFront (stretch_of ws run) x) window_next (stretch_front ws run (window_of (series_in id (drop m bs)) a u) window_up f))

    pub last_step : (o p q : Option Sample) → o ≡ slice_get ws (length ws - 1) → p ≡ last_of (window_of (series_in id (drop m bs)) a u) → q ≡ later_of o p → q ≡ last_of (window_of (series_in id (drop n bs)) a u)
    last_step o p q f g k =
        let up = parts_rise ws (window_of (series_in id (drop m bs)) a u) window_up in
        k ∙ (λ i. later_of ((f ∙ sym (last_is ws)) i) (g i)) ∙ later_last ws (window_of (series_in id (drop m bs)) a u) up.0 up.1 window_up ∙ ap last_of window_next

pub front_rises : (run whole : List Sample) → IsFront run whole → rises whole ≡ true → rises run ≡ true
front_rises run whole f r = rises_front run f.behind (ap rises f.whole ∙ r)

pub read_rises : (a u : ℤ) (xs ws : List Sample) → ws ≡ window_of xs a u → rises xs ≡ true → rises ws ≡ true
read_rises a u xs ws w r = ap rises w ∙ window_rises a u xs r

pub behind_rises : (id n : ℕ) (bs : List Entries) (a u : ℤ) (run : List Sample) → rises (series_in id bs) ≡ true → IsFront run (window_of (series_in id (drop n bs)) a u) → rises run ≡ true
behind_rises id n bs a u run r f = front_rises run (window_of (series_in id (drop n bs)) a u) f (window_rises a u (series_in id (drop n bs)) (drop_rises id n bs r))

none_behind : {X : Type 0} (n : ℕ) (xs : List X) → length xs ≤ n → drop n xs ≡ []
none_behind zero [] l = refl
none_behind zero (x ∷ xs) l = absurd (omega arith)
none_behind (suc n) [] l = refl
none_behind (suc n) (x ∷ xs) l = none_behind n xs (omega arith)

-- ---- a stretch

pub stretch_start : (id n : ℕ) (bs : List Entries) (a u : ℤ) → length bs ≤ n → IsFront [] (window_of (series_in id (drop n bs)) a u)
stretch_start id n bs a u l = subst (λ x. IsFront [] (window_of (series_in id x) a u)) (sym (none_behind n bs l)) (whole_front [])

module _ (id n : ℕ) (bs : List Entries) (run : List Sample) (a u b v : ℤ) (e : n ≡ 0) (f : IsFront run (window_of (series_in id (drop n bs)) a u)) (p : a ≡ b) (q : u ≡ v) (r : rises (series_in id bs) ≡ true) where
  all_front : IsFront run (window_of (series_in id bs) b v)
  all_front = subst (λ k. IsFront run (window_of (series_in id (drop k bs)) b v)) e (subst (λ t. IsFront run (window_of (series_in id (drop n bs)) b t)) q (subst (λ t. IsFront run (window_of (series_in id (drop n bs)) t u)) p f))

  pub stretch_read : run ++ window_of (series_in id bs) (ends_at b run) v ≡ window_of (series_in id bs) b v
  stretch_read = stretch_left b v (series_in id bs) run r (window_rises b v (series_in id bs) r) all_front

  pub stretch_none : run ≡ [] → window_of (series_in id bs) b v ≡ []
  stretch_none h = all_front.none h

-- ---- whether samples rise from block to block

pub joined_start : (id n : ℕ) (bs : List Entries) → length bs ≤ n → IsFront [] (joined_in id (drop n bs)) × (rises (joined_in id (drop n bs)) ≡ true)
joined_start id n bs l =
    let e = none_behind n bs l in (
      subst (λ x. IsFront [] (joined_in id x)) (sym e) (whole_front []),
      ap (λ x. rises (joined_in id x)) e,
    )

none_here : (ys : List Sample) → nat_eq (length ys) 0 ≡ true → ys ≡ []
none_here [] h = refl
none_here (y ∷ ys) h = let z : length (y ∷ ys) ≡ 0 = grind (arith, nat_tests) in absurd (omega (arith, z))

some_front : (ys whole : List Sample) → nat_eq (length ys) 0 ≡ false → IsFront ys (ys ++ whole)
some_front [] whole h = cc
some_front (y ∷ ys) whole h = front_on (y ∷ ys) whole y ys refl

module _ (id : ℕ) (bs : List Entries) (n m : ℕ) (b : Entries) (l : n < length bs) (h : b ≡ get_or bs n []) (e : m ≡ suc n) (ys run : List Sample) (w : ys ≡ samples_in id b) (f : IsFront run (joined_in id (drop m bs))) (r : rises (joined_in id (drop m bs)) ≡ true) (k : rises (ys ++ run) ≡ true) where
  pub joined_up : rises (joined_in id (drop n bs)) ≡ true
  joined_up = ap rises (sym (ap (λ x. x ++ joined_in id (drop m bs)) w ∙ joined_next id bs n m b l h e)) ∙ before_front ys run (joined_in id (drop m bs)) k f r

  pub joined_here : nat_eq (length ys) 0 ≡ false → IsFront ys (joined_in id (drop n bs))
  joined_here q = subst (λ x. IsFront ys x) (ap (λ x. x ++ joined_in id (drop m bs)) w ∙ joined_next id bs n m b l h e) (some_front ys (joined_in id (drop m bs)) q)

  pub joined_on : nat_eq (length ys) 0 ≡ true → IsFront run (joined_in id (drop n bs))
  joined_on z = let q = none_here ys z in subst (λ x. IsFront run x) (ap (λ x. x ++ joined_in id (drop m bs)) (sym q ∙ w) ∙ joined_next id bs n m b l h e) f

-- ---- the last of the first blocks and of those behind them

pub take_least : {X : Type 0} (n : ℕ) (xs : List X) → take (min n (length xs)) xs ≡ take n xs
take_least {X = X} n xs = by n xs where
  by : (n : ℕ) (xs : List X) → take (min n (length xs)) xs ≡ take n xs
  by zero xs = ap (λ m. take m xs) (least_zero (length xs)) where
    least_zero : (m : ℕ) → min 0 m ≡ 0
    least_zero m = omega arith
  by (suc n) [] = ap (λ m. take {A = X} m []) (least (suc n)) where
    least : (m : ℕ) → min m 0 ≡ 0
    least m = omega arith
  by (suc n) (x ∷ xs) = ap (λ m. take m (x ∷ xs)) (least n (length xs)) ∙ ap (λ l. x ∷ l) (by n xs) where
    least : (m k : ℕ) → min (suc m) (suc k) ≡ suc (min m k)
    least m k = omega arith

pub last_parts : (id n : ℕ) (bs : List Entries) (a u b v : ℤ) (o p q : Option Sample) → rises (series_in id bs) ≡ true → rises (joined_in id (take n bs)) ≡ true → a ≡ b → u ≡ v →
    o ≡ last_of (window_of (joined_in id (take n bs)) a u) → p ≡ last_of (window_of (series_in id (drop n bs)) a u) → q ≡ later_of o p → q ≡ last_of (window_of (series_in id bs) b v)
last_parts id n bs a u b v o p q r f x y g h k =
    let e = series_parts id n bs r f in
    let up : rises (merged_samples (joined_in id (take n bs)) (series_in id (drop n bs))) ≡ true = ap rises e ∙ r in
    let m = merged_filter (is_within a u) (joined_in id (take n bs)) (series_in id (drop n bs)) up in
    k ∙ (λ i. later_of (g i) (h i))
    ∙ later_last (window_of (joined_in id (take n bs)) a u) (window_of (series_in id (drop n bs)) a u) (window_rises a u (joined_in id (take n bs)) f) (window_rises a u (series_in id (drop n bs)) (drop_rises id n bs r))
    (ap rises m ∙ window_rises a u (merged_samples (joined_in id (take n bs)) (series_in id (drop n bs))) up)
    ∙ ap last_of (m ∙ ap (λ l. window_of l a u) e) ∙ (λ i. last_of (window_of (series_in id bs) (x i) (y i)))

-- ---- what a read finds

pub read_same : (v : Bool) (id : ℕ) (bs : List Entries) → (v ≡ true → rises (joined_in id bs) ≡ true) → read_in v id bs ≡ series_in id bs
read_same true id bs h = joined_is id bs (h refl)
read_same false id bs h = refl

pub front_all : (id n : ℕ) (bs : List Entries) → length bs ≤ n → rises (joined_in id (take n bs)) ≡ true → rises (joined_in id bs) ≡ true
front_all id n bs l r = ap (λ t. rises (joined_in id t)) (sym (take_over n bs l)) ∙ r

module _ {X : Type 0} (f : X → Entries) (id m n : ℕ) (xs : List X) (e : m ≡ min n (length xs)) where
  length_of : (g : X → Entries) (ys : List X) → length (map g ys) ≡ length ys
  length_of g [] = refl
  length_of g (y ∷ ys) = ap suc (length_of g ys)

  take_of : (g : X → Entries) (k : ℕ) (ys : List X) → map g (take k ys) ≡ take k (map g ys)
  take_of g zero ys = refl
  take_of g (suc k) [] = refl
  take_of g (suc k) (y ∷ ys) = ap (λ l. g y ∷ l) (take_of g k ys)

  drop_of : (g : X → Entries) (k : ℕ) (ys : List X) → map g (drop k ys) ≡ drop k (map g ys)
  drop_of g zero ys = refl
  drop_of g (suc k) [] = refl
  drop_of g (suc k) (y ∷ ys) = drop_of g k ys

  pub front_is : map f (take m xs) ≡ take m (map f xs)
  front_is = take_of f m xs

  least_is : take m (map f xs) ≡ take n (map f xs)
  least_is = ap (λ k. take k (map f xs)) (e ∙ ap (min n) (sym (length_of f xs))) ∙ take_least n (map f xs)

  pub front_read : rises (joined_in id (take n (map f xs))) ≡ true → rises (joined_in id (take m (map f xs))) ≡ true
  front_read r = ap (λ l. rises (joined_in id l)) least_is ∙ r

  pub behind_is_map : map f (take (length xs - m) (drop m xs)) ≡ drop m (map f xs)
  behind_is_map = ap (map f) (ap (λ k. take k (drop m xs)) (sym (length-drop m xs)) ∙ take-length (drop m xs)) ∙ drop_of f m xs

-- some first samples that are lent
pub stretch_lent : (v : Bool) (id : ℕ) (bs : List Entries) (rest : List Sample) (s : Sample) (t a u b z : ℤ) → v ≡ false → rest ++ window_of (series_in id bs) (ends_at a rest) u ≡ window_of (series_in id bs) a u →
    Some s ≡ slice_get rest (length rest - 1) → t ≡ s.time → a ≡ b → u ≡ z → rest ++ window_of (read_in v id bs) t z ≡ window_of (read_in v id bs) b z
stretch_lent v id bs rest s t a u b z e h g q x y =
    let k : t ≡ ends_at a rest = q ∙ ends_last a rest s (last_is rest ∙ sym g) in
    (λ i. rest ++ window_of (read_in (e i) id bs) (k i) (sym y i)) ∙ h ∙ (λ i. window_of (read_in (sym e i) id bs) (x i) (y i))

pub before_last : (a b s t : ℤ) → a ≡ s → b ≡ t → int_lt a b ≡ true → int_lt s t ≡ true
before_last a b s t p q h = sym (λ i. int_lt (p i) (q i)) ∙ h

pub not_later : (a b s t : ℤ) → a ≡ t → b ≡ s → int_lt a b ≡ false → int_le s t ≡ true
not_later a b s t p q h = turned s t (sym (λ i. int_lt (p i) (q i)) ∙ h) where
  turned : (s t : ℤ) → int_lt t s ≡ false → int_le s t ≡ true
  turned s t h = grind (arith, ints)
