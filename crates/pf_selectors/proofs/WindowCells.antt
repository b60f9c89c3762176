-- The samples of one label set among rows, each time once, are known by the values that are held.
use Rattle.std.proofs.Common.{◌≡◌, ℕ, ℤ, pos, negsuc, Bool, true, false, cond, ◌&&◌, nat_eq, Option, Some, None, List, [], ◌∷◌, map, refl, sym, ap, ◌∙◌, arith}
use Rattle.std.proofs.lemmas.Int.{ints}
use Rattle.std.proofs.lemmas.Bool.Decides.{nat_tests}
use Rattle.std.proofs.lemmas.Cmp.{int_ranked}
use Rattle.std.specs.Prelude.{int_lt, int_le, ◌<ℤ◌}
use Rattle.std.specs.List.{filter}
use Rattle.std.specs.Cmp.{first_so, second_so}
use Rattle.std.specs.Ordering.{MatchOrdering, int_cmp, int_eq, is_gt}
use Rattle.std.specs.declared.cmp.Ordering.{Ordering}
use Rattle.std.specs.declared.cmp.Ordering.TheVariants.{Less, Equal, Greater}
use Rattle.pf_base.specs.declared.plain.Row.{Row}
use Rattle.pf_base.specs.declared.plain.Sample.{Sample}
use Rattle.pf_base.specs.LabelSets.{Pairs}
use Rattle.pf_base.specs.Sorting.{ins, isort}
use Rattle.pf_block.proofs.Searches.{window_rises}
use Rattle.pf_block.specs.Samples.{is_within, put_sample, rises, rises_after, value_at, window_of}
use Rattle.pf_model.specs.Evaluation.{by_time, sample_of}
use Rattle.pf_model.specs.Log.{AreApart, held_value}
use Rattle.pf_model.specs.Selection.{same_labels}
use Rattle.pf_model.proofs.KeySets.{same_is}
use Rattle.pf_block.proofs.Keeping.{put_after_by, rises_put_by}

both : (a b : Bool) → a ≡ true → b ≡ true → (a && b) ≡ true
both a b h k = λ i. h i && k i

not_at : (a b t : ℤ) → int_lt a b ≡ true → int_lt a t ≡ false → int_eq b t ≡ false
not_at a b t h k = grind (arith, ints, h, k)

still : (a b t : ℤ) → int_lt a b ≡ true → int_lt a t ≡ false → int_lt b t ≡ false
still a b t h k = grind (arith, ints, h, k)

own_time : (a : ℤ) → int_eq a a ≡ true
own_time a = grind (arith, ints)

not_below : (a : ℤ) → int_lt a a ≡ false
not_below a = grind (arith, ints)

other_time : (a b : ℤ) → int_lt a b ≡ true → int_eq a b ≡ false
other_time a b h = grind (arith, ints, h)

level : (a b : ℤ) → int_lt a b ≡ false → int_lt b a ≡ false → a ≡ b
level a b h k = grind (arith, ints, h, k)

-- ---- samples in order are known by their values

none_before : (a t : ℤ) (xs : List Sample) → rises_after a xs ≡ true → int_lt a t ≡ false → value_at xs t ≡ None
none_before a t [] r h = refl
none_before a t (x ∷ xs) r h =
    let l = first_so (int_lt a x.time) (rises_after x.time xs) r in
    let s = second_so (int_lt a x.time) (rises_after x.time xs) r in
    λ i. cond (not_at a x.time t l h i) (Some x.value) (none_before x.time t xs s (still a x.time t l h) i)

here : (x : Sample) (xs : List Sample) → value_at (x ∷ xs) x.time ≡ Some x.value
here x xs = ap (λ b. cond b (Some x.value) (value_at xs x.time)) (own_time x.time)

begins : (x y : Sample) (xs ys : List Sample) → rises (y ∷ ys) ≡ true → value_at (x ∷ xs) x.time ≡ value_at (y ∷ ys) x.time → int_lt x.time y.time ≡ true → ⊥
begins x y xs ys r e l =
    let none = none_before x.time x.time (y ∷ ys) (both (int_lt x.time y.time) (rises_after y.time ys) l r) (not_below x.time) in
    let same : Some x.value ≡ None = sym (here x xs) ∙ e ∙ none in cc

same_time : (x y : Sample) (xs ys : List Sample) → rises (x ∷ xs) ≡ true → rises (y ∷ ys) ≡ true → ((t : ℤ) → value_at (x ∷ xs) t ≡ value_at (y ∷ ys) t) → (a b : Bool) → int_lt x.time y.time ≡ a → int_lt y.time x.time ≡ b → x.time ≡ y.time
same_time x y xs ys r s e true b p q = absurd (begins x y xs ys s (e x.time) p)
same_time x y xs ys r s e false true p q = absurd (begins y x ys xs r (sym (e y.time)) q)
same_time x y xs ys r s e false false p q = level x.time y.time p q

tail_at : (x y : Sample) (xs ys : List Sample) → x.time ≡ y.time → rises (x ∷ xs) ≡ true → rises (y ∷ ys) ≡ true → (t : ℤ) → value_at (x ∷ xs) t ≡ value_at (y ∷ ys) t → (b : Bool) → int_lt x.time t ≡ b → value_at xs t ≡ value_at ys t
tail_at x y xs ys o r s t e true p =
    sym (ap (λ b. cond b (Some x.value) (value_at xs t)) (other_time x.time t p)) ∙ e
    ∙ ap (λ b. cond b (Some y.value) (value_at ys t)) (ap (λ z. int_eq z t) (sym o) ∙ other_time x.time t p)
tail_at x y xs ys o r s t e false p = none_before x.time t xs r p ∙ sym (none_before y.time t ys s (ap (λ z. int_lt z t) (sym o) ∙ p))

some_is : (v w : ℤ) → Some v ≡ Some w → v ≡ w
some_is v w h = cc

behind : (x : Sample) (xs : List Sample) → rises (x ∷ xs) ≡ true → rises xs ≡ true
behind x [] r = refl
behind x (y ∷ ys) r = second_so (int_lt x.time y.time) (rises_after y.time ys) r

pub known : (xs ys : List Sample) → rises xs ≡ true → rises ys ≡ true → ((t : ℤ) → value_at xs t ≡ value_at ys t) → xs ≡ ys
known [] [] r s e = refl
known [] (y ∷ ys) r s e = let bad : None ≡ Some y.value = e y.time ∙ here y ys in cc
known (x ∷ xs) [] r s e = let bad : None ≡ Some x.value = sym (e x.time) ∙ here x xs in cc
known (x ∷ xs) (y ∷ ys) r s e =
    let o = same_time x y xs ys r s e (int_lt x.time y.time) (int_lt y.time x.time) refl refl in
    let v = some_is x.value y.value (sym (here x xs) ∙ e x.time ∙ ap (value_at (y ∷ ys)) o ∙ here y ys) in
    let t = known xs ys (behind x xs r) (behind y ys s) (λ t. tail_at x y xs ys o r s t (e t) (int_lt x.time t) refl) in
    λ i. record { time = o i; value = v i } ∷ t i

-- ---- a window's values

window_by : (from to t : ℤ) (x : Sample) (xs : List Sample) (b : Bool) → is_within from to x ≡ b → value_at (window_of xs from to) t ≡ cond (int_lt from t && int_le t to) (value_at xs t) None → (d : Bool) → int_eq x.time t ≡ d
    → value_at (cond b (x ∷ window_of xs from to) (window_of xs from to)) t ≡ cond (int_lt from t && int_le t to) (cond d (Some x.value) (value_at xs t)) None
window_by from to t x xs true w r true e =
    let o : x.time ≡ t = grind (arith, ints, e) in
    ap (λ d. cond d (Some x.value) (value_at (window_of xs from to) t)) e ∙ sym (ap (λ d. cond d (Some x.value) None) (ap (λ z. int_lt from z && int_le z to) (sym o) ∙ w))
window_by from to t x xs true w r false e = ap (λ d. cond d (Some x.value) (value_at (window_of xs from to) t)) e ∙ r
window_by from to t x xs false w r true e =
    let o : x.time ≡ t = grind (arith, ints, e) in
    let out : (int_lt from t && int_le t to) ≡ false = ap (λ z. int_lt from z && int_le z to) (sym o) ∙ w in
    r ∙ ap (λ d. cond d (value_at xs t) None) out ∙ sym (ap (λ d. cond d (Some x.value) None) out)
window_by from to t x xs false w r false e = r

pub window_value : (from to t : ℤ) (xs : List Sample) → value_at (window_of xs from to) t ≡ cond (int_lt from t && int_le t to) (value_at xs t) None
window_value from to t [] = none (int_lt from t && int_le t to) where
  none : (b : Bool) → ◌≡◌ {A = Option ℤ} None (cond b None None)
  none true = refl
  none false = refl
window_value from to t (x ∷ xs) = window_by from to t x xs (is_within from to x) refl (window_value from to t xs) (int_eq x.time t) refl

-- ---- the samples of rows, by insertion

gt_by : (a b : ℤ) (o : Ordering) → MatchOrdering o (a <ℤ b) (a ≡ b) (b <ℤ a) → is_gt o ≡ int_lt b a
gt_by a b Less m = grind (arith, ints, m)
gt_by a b Equal m = grind (arith, ints, m)
gt_by a b Greater m = grind (arith, ints, m)

placed : (s : Sample) (xs : List Sample) → ins by_time s xs ≡ put_sample s xs
placed s [] = refl
placed s (x ∷ xs) = λ i. cond (gt_by s.time x.time (int_cmp s.time x.time) (int_ranked s.time x.time (int_cmp s.time x.time) refl) i) (x ∷ placed s xs i) (s ∷ x ∷ xs)

-- ---- a sample put in (as pf_block's own lemmas, which are not public)

later : (a b : ℤ) → int_lt a b ≡ false → int_eq a b ≡ false → int_lt b a ≡ true
later a b h k = grind (arith, ints)

absent : (v : Bool) (z : ℤ) (o : Option ℤ) → cond v (Some z) o ≡ None → (v ≡ false) × (o ≡ None)
absent true z o h = cc
absent false z o h = (refl, h)

rises_after_put : (a : ℤ) (s : Sample) (xs : List Sample) → int_lt a s.time ≡ true → rises_after a xs ≡ true → value_at xs s.time ≡ None → rises_after a (put_sample s xs) ≡ true
rises_after_put a s [] l r n = both (int_lt a s.time) true l refl
rises_after_put a s (x ∷ xs) l r n =
    let c = absent (int_eq x.time s.time) x.value (value_at xs s.time) n in
    let t = second_so (int_lt a x.time) (rises_after x.time xs) r in
    put_after_by a s x xs (int_lt x.time s.time) refl l r c.0 t (λ e. rises_after_put x.time s xs e t c.1)

rises_put : (s : Sample) (xs : List Sample) → rises xs ≡ true → value_at xs s.time ≡ None → rises (put_sample s xs) ≡ true
rises_put s [] r n = refl
rises_put s (x ∷ xs) r n =
    let c = absent (int_eq x.time s.time) x.value (value_at xs s.time) n in
    rises_put_by s x xs (int_lt x.time s.time) refl c.0 r (λ e. rises_after_put x.time s xs e r c.1)

swap_by : (x s t : ℤ) (v w : ℤ) (o : Option ℤ) (a b : Bool) → int_eq x s ≡ false → int_eq x t ≡ a → int_eq s t ≡ b → cond a (Some v) (cond b (Some w) o) ≡ cond b (Some w) (cond a (Some v) o)
swap_by x s t v w o true true n p q = let bad : false ≡ true = sym n ∙ same in cc where
  same : int_eq x s ≡ true
  same = grind (arith, ints, p, q)
swap_by x s t v w o true false n p q = refl
swap_by x s t v w o false b n p q = refl

value_put_by : (s x : Sample) (xs : List Sample) (t : ℤ) (v : Bool) → int_eq x.time s.time ≡ false → value_at (put_sample s xs) t ≡ cond (int_eq s.time t) (Some s.value) (value_at xs t)
    → value_at (cond v (x ∷ put_sample s xs) (s ∷ x ∷ xs)) t ≡ cond (int_eq s.time t) (Some s.value) (value_at (x ∷ xs) t)
value_put_by s x xs t true n r = ap (λ o. cond (int_eq x.time t) (Some x.value) o) r ∙ swap_by x.time s.time t x.value s.value (value_at xs t) (int_eq x.time t) (int_eq s.time t) n refl refl
value_put_by s x xs t false n r = refl

value_put : (s : Sample) (xs : List Sample) (t : ℤ) → value_at xs s.time ≡ None → value_at (put_sample s xs) t ≡ cond (int_eq s.time t) (Some s.value) (value_at xs t)
value_put s [] t n = refl
value_put s (x ∷ xs) t n =
    let c = absent (int_eq x.time s.time) x.value (value_at xs s.time) n in
    value_put_by s x xs t (int_lt x.time s.time) c.0 (value_put s xs t c.1)

-- ---- the samples of one label set among rows

no_value : (b : Bool) → ◌≡◌ {A = Option ℤ} (cond b None None) None
no_value true = refl
no_value false = refl

pos_eq : (a b : ℕ) (d : Bool) → nat_eq a b ≡ d → int_eq (pos a) (pos b) ≡ d
pos_eq a b true h = grind (arith, ints, nat_tests, h)
pos_eq a b false h = grind (arith, ints, nat_tests, h)

neg_eq : (a b : ℕ) → int_eq (pos a) (negsuc b) ≡ false
neg_eq a b = grind (arith, ints)

module _ (l : Pairs) (q : Row → Bool) (p : ℕ → Bool) (tests : (r : Row) → q r ≡ (same_labels r.labels l && p r.time)) where
  abbrev pub samples_in : List Row → List Sample
  samples_in rows = isort by_time (map sample_of (filter q rows))

  pub record IsRead (rows : List Row) (xs : List Sample) : Type 0 where
    pub values : (u : ℕ) → value_at xs (pos u) ≡ cond (p u) (held_value rows l u) None
    pub low : (n : ℕ) → value_at xs (negsuc n) ≡ None
    pub rising : rises xs ≡ true

  value_taken : (r : Row) (rs : List Row) (xs : List Sample) (u : ℕ) (d : Bool) → nat_eq r.time u ≡ d → same_labels r.labels l ≡ true → p r.time ≡ true → value_at xs (pos u) ≡ cond (p u) (held_value rs l u) None
      → cond (int_eq (pos r.time) (pos u)) (Some r.value) (value_at xs (pos u)) ≡ cond (p u) (cond (same_labels r.labels l && nat_eq r.time u) (Some r.value) (held_value rs l u)) None
  value_taken r rs xs u true e s t v =
      let o : r.time ≡ u = grind (arith, nat_tests, e) in
      ap (λ d. cond d (Some r.value) (value_at xs (pos u))) (pos_eq r.time u true e)
      ∙ sym (λ i. cond ((ap p (sym o) ∙ t) i) (cond (both (same_labels r.labels l) (nat_eq r.time u) s e i) (Some r.value) (held_value rs l u)) None)
  value_taken r rs xs u false e s t v =
      ap (λ d. cond d (Some r.value) (value_at xs (pos u))) (pos_eq r.time u false e) ∙ v
      ∙ sym (λ i. cond (p u) (cond (s i && e i) (Some r.value) (held_value rs l u)) None)

  value_left : (r : Row) (rs : List Row) (u : ℕ) (s d : Bool) → same_labels r.labels l ≡ s → nat_eq r.time u ≡ d → (s && p r.time) ≡ false
      → cond (p u) (held_value rs l u) None ≡ cond (p u) (cond (s && d) (Some r.value) (held_value rs l u)) None
  value_left r rs u true true e f n =
      let o : r.time ≡ u = grind (arith, nat_tests, f) in
      let out : p u ≡ false = ap p (sym o) ∙ n in
      ap (λ b. cond b (held_value rs l u) None) out ∙ sym (ap (λ b. cond b (Some r.value) None) out)
  value_left r rs u true false e f n = refl
  value_left r rs u false d e f n = refl

  read_by : (r : Row) (rs : List Row) (b : Bool) → q r ≡ b → held_value rs r.labels r.time ≡ None → IsRead rs (samples_in rs) → IsRead (r ∷ rs) (isort by_time (map sample_of (cond b (r ∷ filter q rs) (filter q rs))))
  read_by r rs true e n h =
      let xs = samples_in rs in
      let s = sample_of r in
      let t = sym (tests r) ∙ e in
      let same = first_so (same_labels r.labels l) (p r.time) t in
      let fresh : value_at xs (pos r.time) ≡ None =
      h.values r.time ∙ ap (λ m. cond (p r.time) (held_value rs m r.time) None) (sym (same_is r.labels l same)) ∙ ap (λ o. cond (p r.time) o None) n ∙ no_value (p r.time) in
      record {
        values = λ u. ap (λ ys. value_at ys (pos u)) (placed s xs) ∙ value_put s xs (pos u) fresh
            ∙ value_taken r rs xs u (nat_eq r.time u) refl same (second_so (same_labels r.labels l) (p r.time) t) (h.values u);
        low = λ k. ap (λ ys. value_at ys (negsuc k)) (placed s xs) ∙ value_put s xs (negsuc k) fresh
            ∙ ap (λ d. cond d (Some r.value) (value_at xs (negsuc k))) (neg_eq r.time k) ∙ h.low k;
        rising = ap rises (placed s xs) ∙ rises_put s xs h.rising fresh;
      }
  read_by r rs false e n h = record {
    values = λ u. h.values u ∙ value_left r rs u (same_labels r.labels l) (nat_eq r.time u) refl refl (sym (tests r) ∙ e);
    low = h.low;
    rising = h.rising;
  }

  pub is_read : (rows : List Row) → AreApart rows → IsRead rows (samples_in rows)
  is_read [] a = record { values = λ u. sym (no_value (p u)); low = λ n. refl; rising = refl }
  is_read (r ∷ rs) a = read_by r rs (q r) refl a.0 (is_read rs a.1)

  -- the window of samples that hold the same values
  pub window_read : (from to : ℤ) → ((u : ℕ) → p u ≡ (int_lt from (pos u) && int_le (pos u) to)) → (rows : List Row) (xs : List Sample) → AreApart rows → rises xs ≡ true
      → ((u : ℕ) → value_at xs (pos u) ≡ held_value rows l u) → ((n : ℕ) → value_at xs (negsuc n) ≡ None) → samples_in rows ≡ window_of xs from to
  window_read from to e rows xs a r v w =
      let h = is_read rows a in
      known (samples_in rows) (window_of xs from to) h.rising (window_rises from to xs r) same where
        same : (t : ℤ) → value_at (samples_in rows) t ≡ value_at (window_of xs from to) t
        same (pos u) = (is_read rows a).values u ∙ (λ i. cond (e u i) (sym (v u) i) None) ∙ sym (window_value from to (pos u) xs)
        same (negsuc n) = (is_read rows a).low n ∙ sym (window_value from to (negsuc n) xs ∙ ap (λ o. cond (int_lt from (negsuc n) && int_le (negsuc n) to) o None) (w n) ∙ no_value _)
