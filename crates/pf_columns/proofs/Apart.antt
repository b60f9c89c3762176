-- The entries that are kept of the groups at a step stand for columns each of which is another.
use Rattle.std.proofs.Common.{◌≡◌, ◌<◌, ◌+◌, ℕ, zero, suc, ℤ, Bool, true, false, cond, nat_eq, Option, Some, None, List, [], ◌∷◌, ◌++◌, take, refl, sym, subst, arith}
use Rattle.std.proofs.lemmas.Bool.Decides.{nat_tests}
use Rattle.std.specs.Ordering.{is_gt}
use Rattle.pf_base.specs.Sorting.{ins, isort}
use Rattle.pf_model.specs.Lists.{Each, joined}
use Rattle.pf_model.specs.Merging.{below}
use Rattle.pf_columns.specs.Columns.{ColumnData}
use Rattle.pf_columns.specs.Ranks.{buckets_by, entries_at, entry, entry_cmp, places_of, ranked, value_at}
use Rattle.pf_columns.specs.declared.ranked.Entry.{Entry}
use Rattle.pf_columns.specs.declared.ranked.Rank.{Rank}
use Rattle.pf_columns.proofs.Below.{first_below}
use Rattle.pf_columns.proofs.Eaches.{each_append, each_at, each_below, each_both, each_ins, each_isort, each_joined, each_so, each_some, each_take}

-- ---- places

-- none of some places is p
abbrev pub AreOther : ℕ → List ℕ → Type 0
AreOther p qs = Each (λ q. nat_eq q p ≡ false) qs

abbrev pub PlacesApart : List ℕ → Type 0
PlacesApart [] = Unit {0}
PlacesApart (p ∷ ps) = AreOther p ps × PlacesApart ps

-- none of some places is one of others
abbrev pub AreDisjoint : List ℕ → List ℕ → Type 0
AreDisjoint ps qs = Each (λ p. AreOther p qs) ps

other_above : (i j : ℕ) → j < i → nat_eq i j ≡ false
other_above i j h = grind (arith, nat_tests, h)

other_below : (i j : ℕ) → j < i → nat_eq j i ≡ false
other_below i j h = grind (arith, nat_tests, h)

turned : (a b : ℕ) → nat_eq a b ≡ false → nat_eq b a ≡ false
turned a b h = grind (arith, nat_tests, h)

later : (g i j : ℕ) (os : List ℕ) → j < i → AreOther j (places_of g i os)
later g i j [] h = tt
later g i j (o ∷ os) h = each_some (λ q. nat_eq q j ≡ false) i (places_of g (i + 1) os) (nat_eq o g) (other_above i j h) (later g (i + 1) j os (omega (arith, h)))

places_by : (i : ℕ) (ps : List ℕ) (b : Bool) → AreOther i ps → PlacesApart ps → PlacesApart (cond b (i ∷ ps) ps)
places_by i ps true a s = (a, s)
places_by i ps false a s = s

places_apart : (g i : ℕ) (os : List ℕ) → PlacesApart (places_of g i os)
places_apart g i [] = tt
places_apart g i (o ∷ os) = places_by i (places_of g (i + 1) os) (nat_eq o g) (later g (i + 1) i os (omega arith)) (places_apart g (i + 1) os)

same_group : (o g h : ℕ) → nat_eq o g ≡ true → nat_eq o h ≡ true → (g ≡ h → ⊥) → ⊥
same_group o g h a b n = grind (arith, nat_tests, a, b, n)

disjoint_by : (o g h i : ℕ) (ps qs : List ℕ) (a b : Bool) → nat_eq o g ≡ a → nat_eq o h ≡ b → (g ≡ h → ⊥) → AreOther i ps → AreOther i qs → AreDisjoint ps qs
    → AreDisjoint (cond a (i ∷ ps) ps) (cond b (i ∷ qs) qs)
disjoint_by o g h i ps qs true true e f n x y d = absurd (same_group o g h e f n)
disjoint_by o g h i ps qs true false e f n x y d = (y, d)
disjoint_by o g h i ps qs false true e f n x y d =
    each_both (λ p. nat_eq i p ≡ false) (λ p. AreOther p qs) ps (each_so (λ p. nat_eq p i ≡ false) (λ p. nat_eq i p ≡ false) ps (λ p q. turned p i q) x) d
disjoint_by o g h i ps qs false false e f n x y d = d

places_disjoint : (g h i : ℕ) (os : List ℕ) → (g ≡ h → ⊥) → AreDisjoint (places_of g i os) (places_of h i os)
places_disjoint g h i [] n = tt
places_disjoint g h i (o ∷ os) n =
    disjoint_by o g h i (places_of g (i + 1) os) (places_of h (i + 1) os) (nat_eq o g) (nat_eq o h) refl refl n
    (later g (i + 1) i os (omega arith)) (later h (i + 1) i os (omega arith)) (places_disjoint g h (i + 1) os n)

-- ---- buckets

-- none of a bucket's places is in one behind it
abbrev pub BucketsApart : List (List ℕ) → Type 0
BucketsApart [] = Unit {0}
BucketsApart (b ∷ bs) = Each (λ p. Each (AreOther p) bs) b × BucketsApart bs

module _ (os : List ℕ) where
  -- from the group g on
  buckets_from : (g n : ℕ) → BucketsApart (below (λ j. places_of (g + j) 0 os) n)
  buckets_from g zero = tt
  buckets_from g (suc n) =
      let f : ℕ → List ℕ = λ j. places_of (g + j) 0 os in
      let more : ℕ → List ℕ = λ j. places_of (g + suc j) 0 os in
      let here : Each (λ p. (j : ℕ) → j < n → AreOther p (more j)) (f 0) =
      each_at (λ j p. AreOther p (more j)) n (f 0) (λ j h. places_disjoint (g + 0) (g + suc j) 0 os (λ q. omega (arith, q))) in
      let all : Each (λ p. Each (AreOther p) (below more n)) (f 0) =
      each_so (λ p. (j : ℕ) → j < n → AreOther p (more j)) (λ p. Each (AreOther p) (below more n)) (f 0) (λ p h. each_below (AreOther p) more n h) here in
      let rest : BucketsApart (below more n) = subst (λ (m : ℕ → List ℕ). BucketsApart (below m n)) (λ i j. places_of (moved g j i) 0 os) (buckets_from (g + 1) n) in
      subst BucketsApart (sym (first_below f n)) (all, rest) where
        moved : (a j : ℕ) → (a + 1) + j ≡ a + suc j
        moved a j = omega arith

  pub buckets_apart : (n : ℕ) → BucketsApart (buckets_by os n)
  buckets_apart n = subst (λ (m : ℕ → List ℕ). BucketsApart (below m n)) (λ i j. places_of (none j i) 0 os) (buckets_from 0 n) where
    none : (j : ℕ) → 0 + j ≡ j
    none j = omega arith

  pub each_apart : (n : ℕ) → Each PlacesApart (buckets_by os n)
  each_apart n = each_below PlacesApart (λ g. places_of g 0 os) n (λ g h. places_apart g 0 os)

-- ---- entries

abbrev pub AreOtherEntries : ℕ → List Entry → Type 0
AreOtherEntries p es = Each (λ e. nat_eq e.place p ≡ false) es

abbrev pub AreApart : List Entry → Type 0
AreApart [] = Unit {0}
AreApart (e ∷ es) = AreOtherEntries e.place es × AreApart es

apart_append : (ds es : List Entry) → AreApart ds → AreApart es → Each (λ d. AreOtherEntries d.place es) ds → AreApart (ds ++ es)
apart_append [] es a b h = b
apart_append (d ∷ ds) es a b h = (each_append (λ e. nat_eq e.place d.place ≡ false) ds es a.0 h.0, apart_append ds es a.1 b h.1)

apart_take : (n : ℕ) (es : List Entry) → AreApart es → AreApart (take n es)
apart_take zero es a = tt
apart_take (suc n) [] a = tt
apart_take (suc n) (e ∷ es) a = (each_take (λ f. nat_eq f.place e.place ≡ false) n es a.0, apart_take n es a.1)

apart_ins_by : (e f : Entry) (fs : List Entry) (b : Bool) → AreOtherEntries e.place (f ∷ fs) → AreApart (f ∷ fs) → AreApart (ins entry_cmp e fs)
    → AreApart (cond b (f ∷ ins entry_cmp e fs) (e ∷ f ∷ fs))
apart_ins_by e f fs true a s i = (each_ins (λ x. nat_eq x.place f.place ≡ false) entry_cmp e fs (turned f.place e.place a.0) s.0, i)
apart_ins_by e f fs false a s i = (a, s)

apart_ins : (e : Entry) (es : List Entry) → AreOtherEntries e.place es → AreApart es → AreApart (ins entry_cmp e es)
apart_ins e [] a s = (tt, tt)
apart_ins e (f ∷ fs) a s = apart_ins_by e f fs (is_gt (entry_cmp e f)) a s (apart_ins e fs a.1 s.1)

apart_isort : (es : List Entry) → AreApart es → AreApart (isort entry_cmp es)
apart_isort [] a = tt
apart_isort (e ∷ es) a = apart_ins e (isort entry_cmp es) (each_isort (λ f. nat_eq f.place e.place ≡ false) entry_cmp es a.0) (apart_isort es a.1)

module _ (r : Rank) (cs : List ColumnData) (k : ℕ) where
  entry_each : (Q : ℕ → Type 0) (i : ℕ) (o : Option ℤ) (es : List Entry) → Q i → Each (λ e. Q e.place) es → Each (λ e. Q e.place) (entry r i o ++ es)
  entry_each Q i None es q a = a
  entry_each Q i (Some v) es q a = (q, a)

  entries_each : (Q : ℕ → Type 0) (ps : List ℕ) → Each Q ps → Each (λ e. Q e.place) (entries_at r cs k ps)
  entries_each Q [] a = tt
  entries_each Q (p ∷ ps) a = entry_each Q p (value_at cs p k) (entries_at r cs k ps) a.0 (entries_each Q ps a.1)

  entry_apart : (i : ℕ) (o : Option ℤ) (es : List Entry) → AreOtherEntries i es → AreApart es → AreApart (entry r i o ++ es)
  entry_apart i None es a s = s
  entry_apart i (Some v) es a s = (a, s)

  entries_apart : (ps : List ℕ) → PlacesApart ps → AreApart (entries_at r cs k ps)
  entries_apart [] a = tt
  entries_apart (p ∷ ps) a = entry_apart p (value_at cs p k) (entries_at r cs k ps) (entries_each (λ q. nat_eq q p ≡ false) ps a.0) (entries_apart ps a.1)

  module _ (n : ℕ) where
    ranked_each : (Q : ℕ → Type 0) (ps : List ℕ) → Each Q ps → Each (λ e. Q e.place) (ranked r n cs k ps)
    ranked_each Q ps a =
        each_take (λ e. Q e.place) n (isort entry_cmp (entries_at r cs k ps)) (each_isort (λ e. Q e.place) entry_cmp (entries_at r cs k ps) (entries_each Q ps a))

    ranked_apart : (ps : List ℕ) → PlacesApart ps → AreApart (ranked r n cs k ps)
    ranked_apart ps a = apart_take n (isort entry_cmp (entries_at r cs k ps)) (apart_isort (entries_at r cs k ps) (entries_apart ps a))

    pub all_apart : (bs : List (List ℕ)) → Each PlacesApart bs → BucketsApart bs → AreApart (joined (ranked r n cs k) bs)
    all_apart [] a s = tt
    all_apart (b ∷ bs) a s =
        apart_append (ranked r n cs k b) (joined (ranked r n cs k) bs) (ranked_apart b a.0) (all_apart bs a.1 s.1)
        (ranked_each (λ p. AreOtherEntries p (joined (ranked r n cs k) bs)) b
        (each_so (λ p. Each (AreOther p) bs) (λ p. AreOtherEntries p (joined (ranked r n cs k) bs)) b
        (λ p h. each_joined (λ e. nat_eq e.place p ≡ false) (ranked r n cs k) bs (each_so (AreOther p) (λ c. AreOtherEntries p (ranked r n cs k c)) bs (λ c q. ranked_each (λ x. nat_eq x p ≡ false) c q) h))
        s.0))
