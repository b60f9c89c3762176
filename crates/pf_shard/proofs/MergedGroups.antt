-- The groups of two lists by rising keys, merged one after another.
use Rattle.std.proofs.Common.{◌≡◌, ◌+◌, ◌-◌, ◌<◌, ◌≤◌, ℕ, ℤ, pos, ◌+ℤ◌, Bool, true, false, cond, ◌||◌, List, [], ◌∷◌, ◌++◌, map, length, get_or, take, drop, refl, sym, ap, ◌∙◌, subst, append-nil, append_assoc, FitsSigned, to_z, of_z, arith}
use Rattle.std.specs.Int.{int_min, int_max, w128}
use Rattle.std.specs.List.{filter}
use Rattle.std.specs.Ordering.{is_eq, ordering_reverse}
use Rattle.std.specs.declared.cmp.Ordering.TheVariants.{Less, Equal, Greater}
use Rattle.std.proofs.lemmas.Int.{ints, to_z-of_z}
use Rattle.std.proofs.lemmas.List.{map-append, drop_more, drop_all, length-drop, take_all}
use Rattle.std.proofs.lemmas.List.Elements.{filter-append}
use Rattle.pf_base.specs.declared.plain.Partial.{Partial}
use Rattle.pf_base.specs.LabelSets.{Pairs}
use Rattle.pf_base.specs.LabelOrder.{labels_cmp, labels_exact, labels_total}
use Rattle.pf_model.specs.Cells.{distinct, placed}
use Rattle.pf_model.specs.Legs.{GroupPart}
use Rattle.pf_model.specs.Merging.{merged, merged_groups}
use Rattle.pf_model.specs.Selection.{same_labels}
use Rattle.pf_model.proofs.KeySets.{alike, distinct_ascends, distinct_in, same_self, same_turned, stands_in, or_turned}
use Rattle.pf_model.proofs.SelectorLabels.{AllAbove, Ascends, above_all, put_above}
use Rattle.pf_columns.specs.Columns.{AreRising}
use Rattle.pf_columns.proofs.Rising.{ascends}
use Rattle.pf_columns.specs.Partials.{keys_of, parts_of}

-- ---- what two know together, and one alone

abbrev made : ℤ → ℕ → ℤ → ℤ → Partial
made a b c d = record { sum = a; count = b; least = c; greatest = d }

nothing_more : (z : ℤ) → z +ℤ pos 0 ≡ z
nothing_more z = omega (arith, ints)

none_more : (n : ℕ) → n + 0 ≡ n
none_more n = omega arith

merged_one : (a : Partial) → merged (a ∷ []) ≡ a
merged_one a = λ i. made (nothing_more a.sum i) (none_more a.count i) a.least a.greatest

merged_two : (a b : Partial) → merged (a ∷ b ∷ []) ≡ record { sum = a.sum +ℤ b.sum; count = a.count + b.count; least = int_min a.least b.least; greatest = int_max a.greatest b.greatest }
merged_two a b = λ i. made (a.sum +ℤ nothing_more b.sum i) (a.count + none_more b.count i) (int_min a.least b.least) (int_max a.greatest b.greatest)

-- ---- what is known of a key

abbrev pub keys : List GroupPart → List Pairs
keys gs = map (λ (q : GroupPart). q.key) gs

abbrev pub has : Pairs → GroupPart → Bool
has k q = same_labels q.key k

abbrev pub those : Pairs → List GroupPart → List GroupPart
those k gs = filter (has k) gs

abbrev pub partials_in : List GroupPart → List Partial
partials_in gs = map (λ (q : GroupPart). q.partial) gs

abbrev pub known : Pairs → List GroupPart → List Partial
known k gs = partials_in (those k gs)

abbrev pub merged_at : List GroupPart → Pairs → GroupPart
merged_at gs k = record { key = k; partial = merged (known k gs) }

pub known_append : (k : Pairs) (xs ys : List GroupPart) → known k (xs ++ ys) ≡ known k xs ++ known k ys
known_append k xs ys = ap partials_in (filter-append (has k) xs ys) ∙ map-append (λ (q : GroupPart). q.partial) (those k xs) (those k ys)

none_known : (k : Pairs) (gs : List GroupPart) → AllAbove k (keys gs) → known k gs ≡ []
none_known k [] a = refl
none_known k (g ∷ gs) a =
    ap (λ b. partials_in (cond b (g ∷ those k gs) (those k gs))) (same_turned g.key k ∙ ap is_eq a.0) ∙ none_known k gs a.1

known_other : (l : Pairs) (g : GroupPart) (gs : List GroupPart) → same_labels l g.key ≡ false → known l (g ∷ gs) ≡ known l gs
known_other l g gs h = ap (λ b. partials_in (cond b (g ∷ those l gs) (those l gs))) (same_turned g.key l ∙ h)

known_same : (g : GroupPart) (gs : List GroupPart) → known g.key (g ∷ gs) ≡ g.partial ∷ known g.key gs
known_same g gs = ap (λ b. partials_in (cond b (g ∷ those g.key gs) (those g.key gs))) (same_self g.key)

-- ---- the first group of all

placed_above : (k l m : Pairs) (ms behind : List Pairs) (o : _) → labels_cmp k l ≡ Less → AllAbove k (m ∷ ms) → AllAbove k behind → AllAbove k (placed o l m ms behind)
placed_above k l m ms behind Less h a b = (h, a)
placed_above k l m ms behind Equal h a b = a
placed_above k l m ms behind Greater h a b = (a.0, b)

distinct_above : (k : Pairs) (ls : List Pairs) → AllAbove k ls → AllAbove k (distinct ls)
distinct_above k [] a = tt
distinct_above k (l ∷ ls) a = put_above k l (distinct ls) a.0 (distinct_above k ls a.1)

module _ (k : Pairs) (gs hs : List GroupPart) (others : (l : Pairs) → same_labels l k ≡ false → known l gs ≡ known l hs) where
  merged_behind : (ls : List Pairs) → AllAbove k ls → map (merged_at gs) ls ≡ map (merged_at hs) ls
  merged_behind [] a = refl
  merged_behind (l ∷ ls) a =
      let is = others l (same_turned l k ∙ ap is_eq a.0) in
      λ i. record { key = l; partial = merged (is i) } ∷ merged_behind ls a.1 i

  first_group : (p : Partial) → AllAbove k (keys hs) → ((x : Pairs) → stands_in x (keys gs) ≡ (same_labels x k || stands_in x (keys hs))) → merged (known k gs) ≡ p
      → merged_groups gs ≡ record { key = k; partial = p } ∷ merged_groups hs
  first_group p a s m =
      let above = distinct_above k (keys hs) a in
      let ks : distinct (keys gs) ≡ k ∷ distinct (keys hs) =
      alike (distinct (keys gs)) (k ∷ distinct (keys hs)) (distinct_ascends (keys gs)) (above, distinct_ascends (keys hs))
      (λ x. distinct_in x (keys gs) ∙ s x ∙ ap (λ b. same_labels x k || b) (sym (distinct_in x (keys hs)))) in
      ap (map (merged_at gs)) ks
      ∙ λ i. record { key = k; partial = m i } ∷ merged_behind (distinct (keys hs)) above i

pub above_append : (k : Pairs) (xs ys : List GroupPart) → AllAbove k (keys xs) → AllAbove k (keys ys) → AllAbove k (keys (xs ++ ys))
above_append k [] ys a b = b
above_append k (x ∷ xs) ys a b = (a.0, above_append k xs ys a.1 b)

or_same : (b c : Bool) → (b || (b || c)) ≡ (b || c)
or_same true c = refl
or_same false c = refl

in_middle : (x : Pairs) (xs : List GroupPart) (g : GroupPart) (ys : List GroupPart) → stands_in x (keys (xs ++ (g ∷ ys))) ≡ (same_labels x g.key || stands_in x (keys (xs ++ ys)))
in_middle x [] g ys = refl
in_middle x (y ∷ xs) g ys =
    ap (λ b. same_labels x y.key || b) (in_middle x xs g ys) ∙ or_turned (same_labels x y.key) (same_labels x g.key) (stands_in x (keys (xs ++ ys)))

other_in_middle : (l : Pairs) (xs : List GroupPart) (g : GroupPart) (ys : List GroupPart) → same_labels l g.key ≡ false → known l (xs ++ (g ∷ ys)) ≡ known l (xs ++ ys)
other_in_middle l xs g ys h =
    known_append l xs (g ∷ ys) ∙ ap (λ ps. known l xs ++ ps) (known_other l g ys h) ∙ sym (known_append l xs ys)

alone_in_middle : (xs : List GroupPart) (g : GroupPart) (ys : List GroupPart) → AllAbove g.key (keys xs) → AllAbove g.key (keys ys) → known g.key (xs ++ (g ∷ ys)) ≡ g.partial ∷ []
alone_in_middle xs g ys a b =
    known_append g.key xs (g ∷ ys) ∙ ap (λ ps. ps ++ known g.key (g ∷ ys)) (none_known g.key xs a)
    ∙ known_same g ys ∙ ap (λ ps. g.partial ∷ ps) (none_known g.key ys b)

-- the first list's group is below all others
pub take_first : (g : GroupPart) (gs : List GroupPart) → AllAbove g.key (keys gs) → merged_groups (g ∷ gs) ≡ g ∷ merged_groups gs
take_first g gs a =
    first_group g.key (g ∷ gs) gs (λ l h. known_other l g gs h) g.partial a (λ x. refl)
    (ap merged (alone_in_middle [] g gs tt a) ∙ merged_one g.partial)

-- the second list's group is
pub take_second : (xs : List GroupPart) (g : GroupPart) (ys : List GroupPart) → AllAbove g.key (keys xs) → AllAbove g.key (keys ys) → merged_groups (xs ++ (g ∷ ys)) ≡ g ∷ merged_groups (xs ++ ys)
take_second xs g ys a b =
    first_group g.key (xs ++ (g ∷ ys)) (xs ++ ys) (λ l h. other_in_middle l xs g ys h) g.partial (above_append g.key xs ys a b) (λ x. in_middle x xs g ys)
    (ap merged (alone_in_middle xs g ys a b) ∙ merged_one g.partial)

abbrev group : Pairs → Partial → GroupPart
group k a = record { key = k; partial = a }

-- both lists have a group of this key, which is below all others
pub take_both : (k : Pairs) (a b : Partial) (xs ys : List GroupPart) → AllAbove k (keys xs) → AllAbove k (keys ys)
    → merged_groups ((group k a ∷ xs) ++ (group k b ∷ ys)) ≡ group k (merged (a ∷ b ∷ [])) ∷ merged_groups (xs ++ ys)
take_both k a b xs ys h l =
    first_group k ((group k a ∷ xs) ++ (group k b ∷ ys)) (xs ++ ys)
    (λ m o. known_other m (group k a) (xs ++ (group k b ∷ ys)) o ∙ other_in_middle m xs (group k b) ys o)
    (merged (a ∷ b ∷ [])) (above_append k xs ys h l)
    (λ x. ap (λ c. same_labels x k || c) (in_middle x xs (group k b) ys) ∙ or_same (same_labels x k) (stands_in x (keys (xs ++ ys))))
    (ap merged (known_same (group k a) (xs ++ (group k b ∷ ys)) ∙ ap (λ ps. a ∷ ps) (alone_in_middle xs (group k b) ys h l)))

pub rising_merged : (gs : List GroupPart) → Ascends (keys gs) → merged_groups gs ≡ gs
rising_merged [] a = refl
rising_merged (g ∷ gs) a = take_first g gs a.0 ∙ ap (λ hs. g ∷ hs) (rising_merged gs a.1)

-- ---- over pairs of a key and a partial

abbrev Pair : Type 0
Pair = Pairs × Partial

part_keys : (ps : List Pair) → keys (parts_of ps) ≡ keys_of ps
part_keys [] = refl
part_keys (p ∷ ps) = ap (λ ks. p.0 ∷ ks) (part_keys ps)

above_parts : (k : Pairs) (ps : List Pair) → AllAbove k (keys_of ps) → AllAbove k (keys (parts_of ps))
above_parts k ps a = subst (AllAbove k) (sym (part_keys ps)) a

-- what is found, and what is left
abbrev pub left : List Pair → List Pair → List Pair → List GroupPart
left found xs ys = parts_of found ++ merged_groups (parts_of xs ++ parts_of ys)

one_more : (found : List Pair) (x : Pair) (gs : List GroupPart) → parts_of found ++ (group x.0 x.1 ∷ gs) ≡ parts_of (found ++ (x ∷ [])) ++ gs
one_more found x gs =
    sym (append_assoc (parts_of found) (group x.0 x.1 ∷ []) gs) ∙ ap (λ ps. ps ++ gs) (sym (map-append (λ (p : Pair). group p.0 p.1) found (x ∷ [])))

first_found : (found xs ys : List Pair) (x : Pair) → AllAbove x.0 (keys_of xs) → AllAbove x.0 (keys_of ys) → left found (x ∷ xs) ys ≡ left (found ++ (x ∷ [])) xs ys
first_found found xs ys x a b =
    let above = above_append x.0 (parts_of xs) (parts_of ys) (above_parts x.0 xs a) (above_parts x.0 ys b) in
    ap (λ gs. parts_of found ++ gs) (take_first (group x.0 x.1) (parts_of xs ++ parts_of ys) above)
    ∙ one_more found x (merged_groups (parts_of xs ++ parts_of ys))

second_found : (found xs ys : List Pair) (y : Pair) → AllAbove y.0 (keys_of xs) → AllAbove y.0 (keys_of ys) → left found xs (y ∷ ys) ≡ left (found ++ (y ∷ [])) xs ys
second_found found xs ys y a b =
    ap (λ gs. parts_of found ++ gs) (take_second (parts_of xs) (group y.0 y.1) (parts_of ys) (above_parts y.0 xs a) (above_parts y.0 ys b))
    ∙ one_more found y (merged_groups (parts_of xs ++ parts_of ys))

both_found : (found xs ys : List Pair) (k : Pairs) (a b : Partial) → AllAbove k (keys_of xs) → AllAbove k (keys_of ys)
    → left found ((k, a) ∷ xs) ((k, b) ∷ ys) ≡ left (found ++ ((k, merged (a ∷ b ∷ [])) ∷ [])) xs ys
both_found found xs ys k a b h l =
    ap (λ gs. parts_of found ++ gs) (take_both k a b (parts_of xs) (parts_of ys) (above_parts k xs h) (above_parts k ys l))
    ∙ one_more found (k, merged (a ∷ b ∷ [])) (merged_groups (parts_of xs ++ parts_of ys))

-- ---- the steps of the walk over both lists

pub record IsLeft (found xs ys : List Pair) (all : List GroupPart) : Type 0 where
  pub first : AreRising (keys_of xs)
  pub second : AreRising (keys_of ys)
  pub same : left found xs ys ≡ all

module _ (found new xs ys : List Pair) (i j : ℕ) (x y : Pair) (all : List GroupPart) (ih : i < length xs) (jh : j < length ys) (xe : x ≡ get_or xs i x) (ye : y ≡ get_or ys j y) where
  abbrev xs' : List Pair
  xs' = drop (i + 1) xs

  abbrev ys' : List Pair
  ys' = drop (j + 1) ys

  xs_are : drop i xs ≡ x ∷ xs'
  xs_are = drop_more xs i x ih ∙ ap (λ z. z ∷ xs') (sym xe)

  ys_are : drop j ys ≡ y ∷ ys'
  ys_are = drop_more ys j y jh ∙ ap (λ z. z ∷ ys') (sym ye)

  module _ (is : IsLeft found (drop i xs) (drop j ys) all) where
    firsts : AreRising (keys_of (x ∷ xs'))
    firsts = subst (λ zs. AreRising (keys_of zs)) xs_are is.first

    seconds : AreRising (keys_of (y ∷ ys'))
    seconds = subst (λ zs. AreRising (keys_of zs)) ys_are is.second

    pub less_step : labels_cmp x.0 y.0 ≡ Less → new ≡ found ++ (x ∷ []) → IsLeft new xs' (drop j ys) all
    less_step o n =
        let above : AllAbove x.0 (keys_of (drop j ys)) = subst (λ zs. AllAbove x.0 (keys_of zs)) (sym ys_are) (o, above_all x.0 y.0 (keys_of ys') o seconds.0) in
        record {
          first = firsts.1;
          second = is.second;
          same =
              ap (λ f. left f xs' (drop j ys)) n
              ∙ sym (first_found found xs' (drop j ys) x firsts.0 above)
              ∙ ap (λ zs. left found zs (drop j ys)) (sym xs_are)
              ∙ is.same;
        }

    pub greater_step : labels_cmp x.0 y.0 ≡ Greater → new ≡ found ++ (y ∷ []) → IsLeft new (drop i xs) ys' all
    greater_step o n =
        let turned : labels_cmp y.0 x.0 ≡ Less = labels_total.antisymm y.0 x.0 ∙ ap ordering_reverse o in
        let above : AllAbove y.0 (keys_of (drop i xs)) = subst (λ zs. AllAbove y.0 (keys_of zs)) (sym xs_are) (turned, above_all y.0 x.0 (keys_of xs') turned firsts.0) in
        record {
          first = is.first;
          second = seconds.1;
          same =
              ap (λ f. left f (drop i xs) ys') n
              ∙ sym (second_found found (drop i xs) ys' y above seconds.0)
              ∙ ap (λ zs. left found (drop i xs) zs) (sym ys_are)
              ∙ is.same;
        }

    pub equal_step : labels_cmp x.0 y.0 ≡ Equal → (p : Partial) → p ≡ merged (x.1 ∷ y.1 ∷ []) → new ≡ found ++ ((x.0, p) ∷ []) → IsLeft new xs' ys' all
    equal_step o p m n =
        let key : x.0 ≡ y.0 = labels_exact x.0 y.0 o in
        let above : AllAbove x.0 (keys_of ys') = subst (λ k. AllAbove k (keys_of ys')) (sym key) seconds.0 in
        record {
          first = firsts.1;
          second = seconds.1;
          same =
              ap (λ f. left f xs' ys') (n ∙ ap (λ q. found ++ ((x.0, q) ∷ [])) m)
              ∙ sym (both_found found xs' ys' x.0 x.1 y.1 firsts.0 above)
              ∙ ap (λ k. left found (x ∷ xs') ((k, y.1) ∷ ys')) key
              ∙ (λ i'. left found (sym xs_are i') (sym ys_are i'))
              ∙ is.same;
        }

rest_is : (xs : List Pair) (i : ℕ) → take (length xs - i) (drop i xs) ≡ drop i xs
rest_is xs i = let n = length-drop i xs in take_all (length xs - i) (drop i xs) (omega (arith, n))

abbrev cast : ℤ → ℤ
cast z = to_z w128 (of_z w128 z)

pub cast_sum : (x y : ℤ) → FitsSigned w128 x → FitsSigned w128 y → FitsSigned w128 (x +ℤ y) → cast (cast x +ℤ cast y) ≡ x +ℤ y
cast_sum x y f g h = (λ i. cast (to_z-of_z w128 x f i +ℤ to_z-of_z w128 y g i)) ∙ to_z-of_z w128 (x +ℤ y) h

pub together_is : (a b : Partial) (s l g : ℤ) → s ≡ a.sum +ℤ b.sum → l ≡ int_min a.least b.least → g ≡ int_max a.greatest b.greatest
    → record { sum = s; count = a.count + b.count; least = l; greatest = g } ≡ merged (a ∷ b ∷ [])
together_is a b s l g p q r = (λ i. made (p i) (a.count + b.count) (q i) (r i)) ∙ sym (merged_two a b)

-- one list is at its end, and what is left of the other follows
whole : (found new xs ys : List Pair) (all : List GroupPart) → IsLeft found xs ys all → xs ≡ [] → new ≡ found ++ ys → parts_of new ≡ all
whole found new xs ys all is e n =
    ap parts_of n ∙ map-append (λ (p : Pair). group p.0 p.1) found ys
    ∙ ap (λ gs. parts_of found ++ gs) (sym (rising_merged (parts_of ys) (subst Ascends (sym (part_keys ys)) (ascends (keys_of ys) is.second))))
    ∙ ap (λ zs. left found zs ys) (sym e) ∙ is.same

whole_first : (found new xs ys : List Pair) (all : List GroupPart) → IsLeft found xs ys all → ys ≡ [] → new ≡ found ++ xs → parts_of new ≡ all
whole_first found new xs ys all is e n =
    ap parts_of n ∙ map-append (λ (p : Pair). group p.0 p.1) found xs
    ∙ ap (λ gs. parts_of found ++ gs) (sym (rising_merged (parts_of xs) (subst Ascends (sym (part_keys xs)) (ascends (keys_of xs) is.first))))
    ∙ ap (λ gs. parts_of found ++ merged_groups gs) (sym (append-nil (parts_of xs)))
    ∙ ap (λ zs. left found xs zs) (sym e) ∙ is.same

pub second_left : (found two new xs ys : List Pair) (i j : ℕ) (all : List GroupPart) → IsLeft found (drop i xs) (drop j ys) all → length xs ≤ i
    → two ≡ found ++ take (length xs - i) (drop i xs) → new ≡ two ++ take (length ys - j) (drop j ys) → parts_of new ≡ all
second_left found two new xs ys i j all is h m n =
    let none : drop i xs ≡ [] = drop_all i xs h in
    let same : two ≡ found = m ∙ ap (λ zs. found ++ zs) (rest_is xs i ∙ none) ∙ append-nil found in
    whole found new (drop i xs) (drop j ys) all is none (n ∙ (λ k. same k ++ rest_is ys j k))

pub first_left : (found two new xs ys : List Pair) (i j : ℕ) (all : List GroupPart) → IsLeft found (drop i xs) (drop j ys) all → length ys ≤ j
    → two ≡ found ++ take (length xs - i) (drop i xs) → new ≡ two ++ take (length ys - j) (drop j ys) → parts_of new ≡ all
first_left found two new xs ys i j all is h m n =
    let none : drop j ys ≡ [] = drop_all j ys h in
    whole_first found new (drop i xs) (drop j ys) all is none
    (n ∙ ap (λ zs. two ++ zs) (rest_is ys j ∙ none) ∙ append-nil two ∙ m ∙ ap (λ zs. found ++ zs) (rest_is xs i))
