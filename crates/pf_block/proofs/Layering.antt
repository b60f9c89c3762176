-- Blocks with what deletions left of them.
use Rattle.std.proofs.Common.{◌≡◌, ℕ, suc, ◌+◌, ◌<◌, ◌≤◌, ℤ, pos, Bool, true, false, cond, ◌&&◌, ◌||◌, not, List, [], ◌∷◌, length, drop, get_or, refl, sym, ap, ◌∙◌, arith, Option, Some, None}
use Rattle.std.specs.Prelude.{◌-ℤ◌, int_le, int_lt, nat_eq, nat_lt}
use Rattle.std.specs.BTreeMap.{get}
use Rattle.std.specs.List.{AllZip, filter, list_any}
use Rattle.std.specs.Cmp.{first_so, second_so}
use Rattle.std.specs.Map.{lookup}
use Rattle.std.specs.Ordering.{is_eq, nat_cmp}
use Rattle.std.proofs.lemmas.Int.{ints}
use Rattle.std.proofs.lemmas.Bool.Decides.{nat_tests}
use Rattle.pf_base.specs.declared.plain.Sample.{Sample}
use Rattle.pf_block.specs.Blocks.{Entries, ascends, ascends_after, is_upto, samples_in, same_sample, times_in}
use Rattle.pf_block.specs.Layers.{IsLayer, Parts, cut_by, has_time, is_spared, left, left_by, left_in, stays, stays_by}
use Rattle.pf_block.specs.Samples.{is_outside, is_within, rises, window_of}
use Rattle.pf_block.proofs.Canonical.{ascends_behind, ascends_lower, same_own}
use Rattle.pf_block.proofs.Merging.{times, times_more}
use Rattle.pf_block.proofs.Pairing.{drop_at}
use Rattle.pf_block.proofs.Parts.{member_has, spared_has}
use Rattle.pf_block.proofs.Searches.{both, rises_filter}

-- ---- filters

filter_same : (p q : ℕ × Sample → Bool) → ((e : ℕ × Sample) → p e ≡ q e) → (es : Entries) → filter p es ≡ filter q es
filter_same p q h [] = refl
filter_same p q h (e ∷ es) = let r = filter_same p q h es in (λ i. cond (h e i) (e ∷ r i) (r i))

filter_twice : (p q : ℕ × Sample → Bool) (es : Entries) → filter q (filter p es) ≡ filter (λ e. p e && q e) es
filter_twice p q [] = refl
filter_twice p q (e ∷ es) = by (p e) (filter_twice p q es) where
  by : (v : Bool) → filter q (filter p es) ≡ filter (λ e. p e && q e) es → filter q (cond v (e ∷ filter p es) (filter p es)) ≡ cond (v && q e) (e ∷ filter (λ e. p e && q e) es) (filter (λ e. p e && q e) es)
  by true h = ap (λ l. cond (q e) (e ∷ l) l) h
  by false h = h

-- ---- filters keep the order

module _ (p : ℕ × Sample → Bool) where
  filter_after : (a : ℕ × Sample) (es : Entries) → ascends_after a es ≡ true → ascends_after a (filter p es) ≡ true
  filter_after a [] h = refl
  filter_after a (e ∷ es) h =
      let f = first_so (is_upto a e) (ascends_after e es) h in
      let g = second_so (is_upto a e) (ascends_after e es) h in
      elim (p e) as (λ v. ascends_after a (cond v (e ∷ filter p es) (filter p es)) ≡ true) [
        | true ↦ both (is_upto a e) (ascends_after e (filter p es)) f (filter_after e es g)
        | false ↦ filter_after a es (ascends_lower a e es f g)
      ]

  pub filter_ascends : (es : Entries) → ascends es ≡ true → ascends (filter p es) ≡ true
  filter_ascends [] h = refl
  filter_ascends (e ∷ es) h = elim (p e) as (λ v. ascends (cond v (e ∷ filter p es) (filter p es)) ≡ true) [ true ↦ filter_after e es h | false ↦ filter_ascends es (ascends_behind e es h) ]

-- ---- a series without its samples at some times

one_spared : (m o q v : Bool) (s : Sample) (fs gs hs : List Sample) → (q ≡ true → v ≡ m) → fs ≡ cond v hs gs →
    cond (not m || o) (cond q (s ∷ fs) fs) fs ≡ cond v (cond q (cond o (s ∷ hs) hs) hs) (cond q (s ∷ gs) gs)
one_spared true true true true s fs gs hs h r = ap (λ l. s ∷ l) r
one_spared true false true true s fs gs hs h r = r
one_spared false true true false s fs gs hs h r = ap (λ l. s ∷ l) r
one_spared false false true false s fs gs hs h r = ap (λ l. s ∷ l) r
one_spared true o true false s fs gs hs h r = let e = h refl in cc
one_spared false o true true s fs gs hs h r = let e = h refl in cc
one_spared true true false true s fs gs hs h r = r
one_spared true true false false s fs gs hs h r = r
one_spared true false false true s fs gs hs h r = r
one_spared true false false false s fs gs hs h r = r
one_spared false true false true s fs gs hs h r = r
one_spared false true false false s fs gs hs h r = r
one_spared false false false true s fs gs hs h r = r
one_spared false false false false s fs gs hs h r = r

module _ (id : ℕ) (from to : ℤ) where
  cond_in : (k : ℕ) (v : Bool) (e : ℕ × Sample) (es : Entries) → samples_in k (cond v (e ∷ es) es) ≡ cond v (cond (nat_eq k e.0) (e.1 ∷ samples_in k es) (samples_in k es)) (samples_in k es)
  cond_in k true e es = refl
  cond_in k false e es = refl

  cond_filter : (v : Bool) (s : Sample) (xs : List Sample) → filter (is_outside from to) (cond v (s ∷ xs) xs) ≡ cond v (cond (is_outside from to s) (s ∷ filter (is_outside from to) xs) (filter (is_outside from to) xs)) (filter (is_outside from to) xs)
  cond_filter true s xs = refl
  cond_filter false s xs = refl

  same_id : (k i : ℕ) → nat_eq k i ≡ true → nat_eq k id ≡ nat_eq id i
  same_id k i h = grind (arith, nat_tests)

  cond_none : (v : Bool) → [] ≡ cond v (filter (is_outside from to) []) []
  cond_none true = refl
  cond_none false = refl

  pub spared_in : (k : ℕ) (es : Entries) → samples_in k (filter (is_spared id from to) es) ≡ cond (nat_eq k id) (filter (is_outside from to) (samples_in k es)) (samples_in k es)
  spared_in k [] = cond_none (nat_eq k id)
  spared_in k (e ∷ es) =
      cond_in k (is_spared id from to e) e (filter (is_spared id from to) es)
      ∙ one_spared (nat_eq id e.0) (is_outside from to e.1) (nat_eq k e.0) (nat_eq k id) e.1 (samples_in k (filter (is_spared id from to) es)) (samples_in k es) (filter (is_outside from to) (samples_in k es)) (same_id k e.0) (spared_in k es)
      ∙ ap (λ l. cond (nat_eq k id) l (cond (nat_eq k e.0) (e.1 ∷ samples_in k es) (samples_in k es))) (sym (cond_filter (nat_eq k e.0) e.1 (samples_in k es)))

-- ---- each entry is left whose time is among what is left of its series

abbrev is_there : Parts → Entries → ℕ × Sample → Bool
is_there parts es e = has_time (left_in parts es e.0) e.1.time

module _ (parts : Parts) (whole : Entries) where
  there_by : (e : ℕ × Sample) (o : Option (List Sample)) → 0 < times_in e.1 (samples_in e.0 whole) → stays_by o e.1.time ≡ has_time (left_by o (samples_in e.0 whole)) e.1.time
  there_by e None l = sym (member_has e.1 (samples_in e.0 whole) l)
  there_by e (Some ss) l = refl

  first_once : (e : ℕ × Sample) (es : Entries) → 0 < times e.0 e.1 (e ∷ es)
  first_once e es =
      let a : nat_eq e.0 e.0 ≡ true = grind (arith, nat_tests) in
      let b : same_sample e.1 e.1 ≡ true = same_own e.1 in
      let o : ◌≡◌ {A = ℕ} (cond (nat_eq e.0 e.0) (cond (same_sample e.1 e.1) 1 0) 0) 1 = (λ i. cond (a i) (cond (b i) 1 0) 0) in
      let m = times_more e.0 e.1 e es in
      omega (arith, o, m)

  fewer : (k : ℕ) (x : Sample) (e : ℕ × Sample) (es : Entries) → times k x es ≤ times k x (e ∷ es)
  fewer k x e es = let m = times_more k x e es in omega (arith, m)

  all_there : (es : Entries) → ((k : ℕ) (x : Sample) → times k x es ≤ times_in x (samples_in k whole)) → filter (stays parts) es ≡ filter (is_there parts whole) es
  all_there [] h = refl
  all_there (e ∷ es) h =
      let l : 0 < times_in e.1 (samples_in e.0 whole) = let a = first_once e es in let b = h e.0 e.1 in omega (arith, a, b) in
      let r = all_there es (λ k x. let a = fewer k x e es in let b = h k x in omega (arith, a, b)) in
      let t = there_by e (get nat_cmp parts e.0) l in
      (λ i. cond (t i) (e ∷ r i) (r i))

  pub left_there : left whole parts ≡ filter (is_there parts whole) whole
  left_there = all_there whole (λ k x. omega arith)

-- ---- nothing is deleted

all_stay : (es : Entries) → filter (λ e. true) es ≡ es
all_stay [] = refl
all_stay (e ∷ es) = ap (λ l. e ∷ l) (all_stay es)

pub none_cut : (parts : Parts) (es : Entries) → parts.entries ≡ [] → left es parts ≡ es
none_cut parts es h = filter_same (stays parts) (λ e. true) (λ e. ap (λ l. stays_by (lookup (λ k. is_eq (nat_cmp e.0 k)) l) e.1.time) h) es ∙ all_stay es

pub no_entries : {X : Type 0} (xs : List X) → length xs ≡ 0 → xs ≡ []
no_entries [] h = refl
no_entries (x ∷ xs) h = absurd (omega (arith, h))

pub new_layer : (parts : Parts) (es : Entries) → parts.entries ≡ [] → ascends es ≡ true → IsLayer es parts
new_layer parts es h a =
    let e = none_cut parts es h in
    record {
      sorted = ap ascends e ∙ a;
      series = λ id. ap (samples_in id) e ∙ sym (ap (λ l. left_by (lookup (λ k. is_eq (nat_cmp id k)) l) (samples_in id es)) h);
    }

-- ---- a copy

zip_lookup : (t : ℕ → Bool) (ps qs : List (ℕ × List Sample)) → AllZip (λ p q. (q.0 ≡ p.0) × (q.1 ≡ p.1)) ps qs → lookup t qs ≡ lookup t ps
zip_lookup t [] [] h = refl
zip_lookup t [] (q ∷ qs) h = absurd h
zip_lookup t (p ∷ ps) [] h = absurd h
zip_lookup t (p ∷ ps) (q ∷ qs) h = let r = zip_lookup t ps qs h.1 in (λ i. cond (t (h.0.0 i)) (Some (h.0.1 i)) (r i))

module _ (whole es : Entries) (parts copy : Parts) (h : IsLayer whole parts) (e : es ≡ whole) (z : AllZip (λ p q. (q.0 ≡ p.0) × (q.1 ≡ p.1)) parts.entries copy.entries) where
  pub copy_is : left es copy ≡ left whole parts
  copy_is = ap (λ l. left l copy) e ∙ filter_same (stays copy) (stays parts) (λ x. ap (λ o. stays_by o x.1.time) (zip_lookup (λ k. is_eq (nat_cmp x.0 k)) parts.entries copy.entries z)) whole

  pub copy_layer : IsLayer es copy
  copy_layer = record {
    sorted = ap ascends copy_is ∙ h.sorted;
    series = λ id. ap (samples_in id) copy_is ∙ h.series id
        ∙ (λ i. left_by (sym (zip_lookup (λ k. is_eq (nat_cmp id k)) parts.entries copy.entries z) i) (samples_in id (sym e i)));
  }

-- ---- a series cut

eq_cmp : (i k : ℕ) → is_eq (nat_cmp i k) ≡ nat_eq k i
eq_cmp i k = by (nat_lt i k) (nat_eq i k) refl refl where
  by : (v w : Bool) → nat_lt i k ≡ v → nat_eq i k ≡ w → is_eq (nat_cmp i k) ≡ nat_eq k i
  by v w p q = grind (arith, nat_tests)

module _ (whole : Entries) (parts news : Parts) (id : ℕ) (f t : ℤ) (h : IsLayer whole parts) (cut : List Sample) (c : cut ≡ filter (is_outside f t) (left_in parts whole id))
    (u : (q : ℕ) → get nat_cmp news q ≡ cond (is_eq (nat_cmp id q)) (Some cut) (get nat_cmp parts q)) where
  new_by : (k : ℕ) (v : Bool) → nat_eq k id ≡ v → left_by (cond v (Some cut) (get nat_cmp parts k)) (samples_in k whole) ≡ cond v (filter (is_outside f t) (left_in parts whole k)) (left_in parts whole k)
  new_by k true e = let i : id ≡ k = grind (arith, nat_tests) in c ∙ ap (λ j. filter (is_outside f t) (left_in parts whole j)) i
  new_by k false e = refl

  new_left : (k : ℕ) → left_in news whole k ≡ cond (nat_eq k id) (filter (is_outside f t) (left_in parts whole k)) (left_in parts whole k)
  new_left k = ap (λ o. left_by o (samples_in k whole)) (u k ∙ ap (λ v. cond v (Some cut) (get nat_cmp parts k)) (eq_cmp id k)) ∙ new_by k (nat_eq k id) refl

  and_true : (v : Bool) → v ≡ (v && true)
  and_true true = refl
  and_true false = refl

  there_new_by : (e : ℕ × Sample) (v : Bool) → nat_eq e.0 id ≡ v → nat_eq id e.0 ≡ v → has_time (cond v (filter (is_outside f t) (left_in parts whole e.0)) (left_in parts whole e.0)) e.1.time ≡ (is_there parts whole e && (not v || is_outside f t e.1))
  there_new_by e true p q = spared_has f t (left_in parts whole e.0) e.1.time
  there_new_by e false p q = and_true (is_there parts whole e)

  eq_back : (i k : ℕ) → nat_eq i k ≡ nat_eq k i
  eq_back i k = grind (arith, nat_tests)

  there_new : (e : ℕ × Sample) → is_there news whole e ≡ (is_there parts whole e && is_spared id f t e)
  there_new e =
      ap (λ l. has_time l e.1.time) (new_left e.0) ∙ there_new_by e (nat_eq e.0 id) refl (eq_back id e.0)
      ∙ ap (λ v. is_there parts whole e && (not v || is_outside f t e.1)) (eq_back e.0 id)

  pub cut_left : left whole news ≡ filter (is_spared id f t) (left whole parts)
  cut_left =
      left_there news whole ∙ filter_same (is_there news whole) (λ e. is_there parts whole e && is_spared id f t e) there_new whole
      ∙ sym (filter_twice (is_there parts whole) (is_spared id f t) whole) ∙ ap (filter (is_spared id f t)) (sym (left_there parts whole))

  pub cut_layer : IsLayer whole news
  cut_layer = record {
    sorted = ap ascends cut_left ∙ filter_ascends (is_spared id f t) (left whole parts) h.sorted;
    series = λ k.
        ap (samples_in k) cut_left ∙ spared_in id f t k (left whole parts)
        ∙ ap (λ l. cond (nat_eq k id) (filter (is_outside f t) l) l) (h.series k) ∙ sym (new_left k);
  }

-- ---- nothing of a series is deleted

spared_out : (f t x : ℤ) → (int_lt (f -ℤ pos 1) x && int_le x t) ≡ false → (int_lt x f || int_lt t x) ≡ true
spared_out f t x h = grind (arith, ints)

module _ (id : ℕ) (f t : ℤ) where
  none_by : (e : ℕ × Sample) (es : Entries) (v w : Bool) → nat_eq id e.0 ≡ v → is_within (f -ℤ pos 1) t e.1 ≡ w →
      window_of (cond v (e.1 ∷ samples_in id es) (samples_in id es)) (f -ℤ pos 1) t ≡ [] → (window_of (samples_in id es) (f -ℤ pos 1) t ≡ [] → filter (is_spared id f t) es ≡ es) →
      cond (not v || is_outside f t e.1) (e ∷ filter (is_spared id f t) es) (filter (is_spared id f t) es) ≡ e ∷ es
  none_by e es false w p q h r = ap (λ l. e ∷ l) (r h)
  none_by e es true true p q h r =
      let z : e.1 ∷ window_of (samples_in id es) (f -ℤ pos 1) t ≡ [] = sym (ap (λ v. cond v (e.1 ∷ window_of (samples_in id es) (f -ℤ pos 1) t) (window_of (samples_in id es) (f -ℤ pos 1) t)) q) ∙ h in
      cc
  none_by e es true false p q h r =
      let z : window_of (samples_in id es) (f -ℤ pos 1) t ≡ [] = sym (ap (λ v. cond v (e.1 ∷ window_of (samples_in id es) (f -ℤ pos 1) t) (window_of (samples_in id es) (f -ℤ pos 1) t)) q) ∙ h in
      ap (λ v. cond v (e ∷ filter (is_spared id f t) es) (filter (is_spared id f t) es)) (spared_out f t e.1.time q) ∙ ap (λ l. e ∷ l) (r z)

  pub none_spared : (es : Entries) → window_of (samples_in id es) (f -ℤ pos 1) t ≡ [] → filter (is_spared id f t) es ≡ es
  none_spared [] h = refl
  none_spared (e ∷ es) h = none_by e es (nat_eq id e.0) (is_within (f -ℤ pos 1) t e.1) refl refl h (none_spared es)

pub none_cut_by : (ids : List ℕ) (f t : ℤ) (es : Entries) → ((k : ℕ) → k < length ids → (d : ℕ) → window_of (samples_in (get_or ids k d) es) (f -ℤ pos 1) t ≡ []) → cut_by ids f t es ≡ es
none_cut_by [] f t es h = refl
none_cut_by (i ∷ is) f t es h =
    ap (cut_by is f t) (none_spared i f t es (h 0 (omega arith) 0)) ∙ none_cut_by is f t es (λ k l d. h (suc k) (omega (arith, l)) d)

pub free_cut : (ids : List ℕ) (f t a u : ℤ) (es whole : Entries) → whole ≡ es → a ≡ f -ℤ pos 1 → u ≡ t → ((k : ℕ) → k < length ids → (d : ℕ) → window_of (samples_in (get_or ids k d) whole) a u ≡ []) → cut_by ids f t es ≡ es
free_cut ids f t a u es whole e p q h = none_cut_by ids f t es (λ k l d. sym (λ i. window_of (samples_in (get_or ids k d) (e i)) (p i) (q i)) ∙ h k l d)

-- ---- several series cut

module _ (f t : ℤ) where
  -- what is left of a series
  abbrev pub spared_of : List ℕ → ℕ → List Sample → List Sample
  spared_of ids k xs = cond (list_any (nat_eq k) ids) (filter (is_outside f t) xs) xs

  twice : (xs : List Sample) → filter (is_outside f t) (filter (is_outside f t) xs) ≡ filter (is_outside f t) xs
  twice [] = refl
  twice (x ∷ xs) = by (is_outside f t x) refl (twice xs) where
    by : (v : Bool) → is_outside f t x ≡ v → filter (is_outside f t) (filter (is_outside f t) xs) ≡ filter (is_outside f t) xs →
        filter (is_outside f t) (cond v (x ∷ filter (is_outside f t) xs) (filter (is_outside f t) xs)) ≡ cond v (x ∷ filter (is_outside f t) xs) (filter (is_outside f t) xs)
    by true e h = ap (λ v. cond v (x ∷ filter (is_outside f t) (filter (is_outside f t) xs)) (filter (is_outside f t) (filter (is_outside f t) xs))) e ∙ ap (λ l. x ∷ l) h
    by false e h = h

  both_cut : (v w : Bool) (xs : List Sample) → cond w (filter (is_outside f t) (cond v (filter (is_outside f t) xs) xs)) (cond v (filter (is_outside f t) xs) xs) ≡ cond (v || w) (filter (is_outside f t) xs) xs
  both_cut true true xs = twice xs
  both_cut true false xs = refl
  both_cut false w xs = refl

  pub cut_in : (ids : List ℕ) (k : ℕ) (es : Entries) → samples_in k (cut_by ids f t es) ≡ spared_of ids k (samples_in k es)
  cut_in [] k es = refl
  cut_in (i ∷ is) k es =
      cut_in is k (filter (is_spared i f t) es) ∙ ap (spared_of is k) (spared_in i f t k es) ∙ both_cut (nat_eq k i) (list_any (nat_eq k) is) (samples_in k es)

  pub cut_ascends : (ids : List ℕ) (es : Entries) → ascends es ≡ true → ascends (cut_by ids f t es) ≡ true
  cut_ascends [] es h = h
  cut_ascends (i ∷ is) es h = cut_ascends is (filter (is_spared i f t) es) (filter_ascends (is_spared i f t) es h)

  filter_shorter : (p : ℕ × Sample → Bool) (es : Entries) → length (filter p es) ≤ length es
  filter_shorter p [] = omega arith
  filter_shorter p (e ∷ es) = let r = filter_shorter p es in elim (p e) as (λ v. length (cond v (e ∷ filter p es) (filter p es)) ≤ suc (length es)) [ true ↦ omega (arith, r) | false ↦ omega (arith, r) ]

  pub cut_shorter : (ids : List ℕ) (es : Entries) → length (cut_by ids f t es) ≤ length es
  cut_shorter [] es = omega arith
  cut_shorter (i ∷ is) es = let a = cut_shorter is (filter (is_spared i f t) es) in let b = filter_shorter (is_spared i f t) es in omega (arith, a, b)

  pub spared_rises : (id k : ℕ) (es : Entries) → rises (samples_in k es) ≡ true → rises (samples_in k (filter (is_spared id f t) es)) ≡ true
  spared_rises id k es r = ap rises (spared_in id f t k es) ∙ by (nat_eq k id) where
    by : (v : Bool) → rises (cond v (filter (is_outside f t) (samples_in k es)) (samples_in k es)) ≡ true
    by true = rises_filter (is_outside f t) (samples_in k es) r
    by false = r

pub cut_next : (ids : List ℕ) (k : ℕ) (f t : ℤ) (es new : Entries) → k < length ids → new ≡ filter (is_spared (get_or ids k 0) f t) es → cut_by (drop (k + 1) ids) f t new ≡ cut_by (drop k ids) f t es
cut_next ids k f t es new l e =
    let n : k + 1 ≡ suc k = omega arith in
    ap (λ m. cut_by (drop m ids) f t new) n ∙ ap (cut_by (drop (suc k) ids) f t) e ∙ sym (ap (λ x. cut_by x f t es) (drop_at k ids 0 l))
