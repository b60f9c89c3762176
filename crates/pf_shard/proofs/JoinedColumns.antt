-- Columns of groups by rising keys, of which those of one key are joined: at each step the groups of both, merged.
use Rattle.std.proofs.Common.{◌≡◌, inl, inr, ◌+◌, ◌-◌, ◌≤◌, ℕ, zero, suc, min, Option, Some, None, List, [], ◌∷◌, ◌++◌, drop, length, take, refl, sym, ap, ◌∙◌, subst, append-nil, arith}
use Rattle.std.specs.Prelude.{MatchOption}
use Rattle.std.proofs.lemmas.List.{drop_all, length-drop, take_all}
use Rattle.std.specs.Option.{option_to_list}
use Rattle.std.specs.declared.cmp.Ordering.{Ordering}
use Rattle.std.specs.declared.cmp.Ordering.TheVariants.{Less, Equal, Greater}
use Rattle.pf_base.specs.declared.plain.Partial.{Partial}
use Rattle.pf_base.specs.LabelOrder.{labels_cmp, labels_exact}
use Rattle.pf_base.specs.LabelSets.{Pairs}
use Rattle.pf_model.specs.Legs.{GroupPart}
use Rattle.pf_model.specs.Lists.{Each}
use Rattle.pf_model.specs.Merging.{merged_groups}
use Rattle.pf_model.proofs.SelectorLabels.{AllAbove, above_all}
use Rattle.pf_columns.specs.Columns.{AreRising}
use Rattle.pf_shard.specs.Groups.{AreWithin, GroupColumnData, IsWithin, both, group, groups_in, keys_in, partial_in}
use Rattle.pf_shard.specs.JoinedGroups.{both_each, by_order, column_of_both, heads_cmp, into_columns, joined_columns}
use Rattle.pf_shard.proofs.KnownValues.{all_wider, both_none, both_within, min_left, take_drop}
use Rattle.pf_shard.proofs.MergedGroups.{above_append, keys, take_both, take_first, take_second}
use Rattle.pf_columns.proofs.JoinedRows.{turned}

abbrev Columns : Type 0
Columns = List GroupColumnData

abbrev Rise : Columns → Type 0
Rise cs = AreRising (keys_in cs)

abbrev Above : Pairs → Columns → Type 0
Above l cs = AllAbove l (keys_in cs)

-- ---- the next column

joined_none : (xs : Columns) → joined_columns xs [] ≡ xs
joined_none [] = refl
joined_none (a ∷ xs) = refl

less_by : (s : GroupColumnData) (xs ys : Columns) → heads_cmp (s ∷ xs) ys ≡ Less → joined_columns (s ∷ xs) ys ≡ s ∷ joined_columns xs ys
less_by s xs [] h = ap (λ cs. s ∷ cs) (sym (joined_none xs))
less_by s xs (b ∷ ys) h = ap (λ o. by_order o s b (joined_columns xs (b ∷ ys)) (joined_columns xs ys) (into_columns s xs (joined_columns xs) ys)) h

pub next_less : (s : GroupColumnData) (xs ys rest : Columns) → Less ≡ heads_cmp xs ys → xs ≡ s ∷ rest → joined_columns xs ys ≡ s ∷ joined_columns rest ys
next_less s xs ys rest h e =
    ap (λ cs. joined_columns cs ys) e ∙ less_by s rest ys (ap (λ cs. heads_cmp cs ys) (sym e) ∙ sym h)

none_by : (ys : Columns) → Less ≡ heads_cmp [] ys → joined_columns [] ys ≡ []
none_by [] h = refl
none_by (b ∷ ys) h = cc

next_none : (xs ys : Columns) → Less ≡ heads_cmp xs ys → xs ≡ [] → joined_columns xs ys ≡ []
next_none xs ys h e = ap (λ cs. joined_columns cs ys) e ∙ none_by ys (h ∙ ap (λ cs. heads_cmp cs ys) e)

empty : (xs : Columns) → length xs ≡ 0 → xs ≡ []
empty [] h = refl
empty (x ∷ xs) h = cc

pub less_by_pop : (o : Option GroupColumnData) (xs ys rest : Columns) (n m : ℕ) → n ≡ length xs → Less ≡ heads_cmp xs ys → xs ≡ option_to_list o ++ rest
    → MatchOption o ((n ≡ 0) × (m ≡ 0)) (λ _. m + 1 ≡ n) → MatchOption o (joined_columns xs ys ≡ []) (λ s. joined_columns xs ys ≡ s ∷ joined_columns rest ys)
less_by_pop None xs ys rest n m l h e p = next_none xs ys h (empty xs (sym l ∙ p.0))
less_by_pop (Some s) xs ys rest n m l h e p = next_less s xs ys rest h e

greater_by : (s : GroupColumnData) (xs ys : Columns) → heads_cmp xs (s ∷ ys) ≡ Greater → joined_columns xs (s ∷ ys) ≡ s ∷ joined_columns xs ys
greater_by s [] ys h = refl
greater_by s (a ∷ xs) ys h = ap (λ o. by_order o a s (joined_columns xs (s ∷ ys)) (joined_columns xs ys) (into_columns a xs (joined_columns xs) ys)) h

pub next_greater : (s : GroupColumnData) (xs ys rest : Columns) → Greater ≡ heads_cmp xs ys → ys ≡ s ∷ rest → joined_columns xs ys ≡ s ∷ joined_columns xs rest
next_greater s xs ys rest h e = ap (joined_columns xs) e ∙ greater_by s xs rest (ap (heads_cmp xs) (sym e) ∙ sym h)

pub next_equal : (a b : GroupColumnData) (xs ys xs' ys' : Columns) → Equal ≡ heads_cmp xs ys → xs ≡ a ∷ xs' → ys ≡ b ∷ ys' → joined_columns xs ys ≡ column_of_both a b ∷ joined_columns xs' ys'
next_equal a b xs ys xs' ys' h p q =
    (λ i. joined_columns (p i) (q i))
    ∙ ap (λ o. by_order o a b (joined_columns xs' (b ∷ ys')) (joined_columns xs' ys') (into_columns a xs' (joined_columns xs') ys'))
    ((λ i. heads_cmp (sym p i) (sym q i)) ∙ sym h)

-- those behind the first stay within their bounds
pub behind_within : (n : ℕ) (o : Option GroupColumnData) (xs rest : Columns) → xs ≡ option_to_list o ++ rest → AreWithin n xs → AreWithin n rest
behind_within n None xs rest e w = subst (AreWithin n) e w
behind_within n (Some c) xs rest e w = let all : AreWithin n (c ∷ rest) = subst (AreWithin n) e w in all.1

-- ---- they rise

module _ (l : Pairs) where
  ordered_above : (o : Ordering) (a b : GroupColumnData) (x y z : Columns) → labels_cmp l a.key ≡ Less → labels_cmp l b.key ≡ Less
      → Above l x → Above l y → Above l z → Above l (by_order o a b x y z)
  ordered_above Less a b x y z p q h i j = (p, h)
  ordered_above Equal a b x y z p q h i j = (p, i)
  ordered_above Greater a b x y z p q h i j = (q, j)

  into_above : (a : GroupColumnData) (xs : Columns) (rest : Columns → Columns) → ((ys : Columns) → Above l ys → Above l (rest ys)) → labels_cmp l a.key ≡ Less → Above l xs
      → (ys : Columns) → Above l ys → Above l (into_columns a xs rest ys)
  into_above a xs rest each p h [] g = (p, h)
  into_above a xs rest each p h (b ∷ ys) g =
      ordered_above (labels_cmp a.key b.key) a b (rest (b ∷ ys)) (rest ys) (into_columns a xs rest ys) p g.0 (each (b ∷ ys) g) (each ys g.1)
      (into_above a xs rest each p h ys g.1)

  joined_above : (xs : Columns) → Above l xs → (ys : Columns) → Above l ys → Above l (joined_columns xs ys)
  joined_above [] h ys g = g
  joined_above (a ∷ xs) h ys g = into_above a xs (joined_columns xs) (joined_above xs h.1) h.0 h.1 ys g

module _ (a : GroupColumnData) (xs : Columns) (rest : Columns → Columns) (h : Above a.key xs) (each : (l : Pairs) → Above l xs → (ys : Columns) → Above l ys → Above l (rest ys)) where
  ordered_rises : (b : GroupColumnData) (ys : Columns) (o : Ordering) → labels_cmp a.key b.key ≡ o → Rise (b ∷ ys)
      → Rise (rest (b ∷ ys)) → Rise (rest ys) → Rise (into_columns a xs rest ys)
      → Rise (by_order o a b (rest (b ∷ ys)) (rest ys) (into_columns a xs rest ys))
  ordered_rises b ys Less e g x y z = (each a.key h (b ∷ ys) (e, above_all a.key b.key (keys_in ys) e g.0), x)
  ordered_rises b ys Equal e g x y z =
      (each a.key h ys (subst (λ l. Above l ys) (sym (labels_exact a.key b.key e)) g.0), y)
  ordered_rises b ys Greater e g x y z =
      let below = turned a.key b.key e in
      let above : Above b.key xs = above_all b.key a.key (keys_in xs) below h in
      (into_above b.key a xs rest (each b.key above) below above ys g.0, z)

  into_rises : Rise xs → ((ys : Columns) → Rise ys → Rise (rest ys)) → (ys : Columns) → Rise ys → Rise (into_columns a xs rest ys)
  into_rises r rises [] g = (h, r)
  into_rises r rises (b ∷ ys) g =
      ordered_rises b ys (labels_cmp a.key b.key) refl g (rises (b ∷ ys) g) (rises ys g.1) (into_rises r rises ys g.1)

pub joined_rise : (xs : Columns) → Rise xs → (ys : Columns) → Rise ys → Rise (joined_columns xs ys)
joined_rise [] h ys g = g
joined_rise (a ∷ xs) h ys g = into_rises a xs (joined_columns xs) h.0 (λ l k. joined_above l xs k) h.1 (joined_rise xs h.1) ys g

-- ---- the walk over two columns' partials

both_each_none : (ps : List (Option Partial)) → both_each ps [] ≡ ps
both_each_none [] = refl
both_each_none (p ∷ ps) = refl

rest_is : {X : Type 0} (xs : List X) (i : ℕ) → take (length xs - i) (drop i xs) ≡ drop i xs
rest_is xs i = let n = length-drop i xs in take_all (length xs - i) (drop i xs) (omega (arith, n))

module _ (old known more : List (Option Partial)) (i : ℕ) (m : length known ≡ length old) (same : take i known ++ both_each (drop i known) (drop i more) ≡ both_each old more) where
  first_ends : length old ≤ i → known ++ drop i more ≡ both_each old more
  first_ends h =
      let none : drop i known ≡ [] = drop_all i known (omega (arith, m, h)) in
      let all : take i known ≡ known = take_all i known (omega (arith, m, h)) in
      (λ j. sym all j ++ both_each (sym none j) (drop i more)) ∙ same

  second_ends : length more ≤ i → known ++ drop i more ≡ both_each old more
  second_ends h =
      let none : drop i more ≡ [] = drop_all i more h in
      ap (λ ps. known ++ ps) none ∙ append-nil known ∙ sym (take_drop i known)
      ∙ ap (λ ps. take i known ++ ps) (sym (both_each_none (drop i known)) ∙ ap (both_each (drop i known)) (sym none))
      ∙ same

  both_end : (new : List (Option Partial)) → i ≡ min (length old) (length more) → new ≡ known ++ take (length more - i) (drop i more) → new ≡ both_each old more
  both_end new e n =
      n ∙ ap (λ ps. known ++ ps) (rest_is more i)
      ∙ elim (min_left (length old) (length more)) [
        | inl h ↦ first_ends (omega (arith, e, h))
        | inr h ↦ second_ends (omega (arith, e, h))
      ]

pub all_added : (old known more new : List (Option Partial)) (i c : ℕ) → length known ≡ length old → c ≡ min (length old) (length more) → i ≤ c → c ≤ i
    → take i known ++ both_each (drop i known) (drop i more) ≡ both_each old more → new ≡ known ++ take (length more - c) (drop c more) → new ≡ both_each old more
all_added old known more new i c m e a b same n =
    let at : i ≡ c = omega (arith, a, b) in
    both_end old known more i m same new (at ∙ e) (n ∙ ap (λ d. known ++ take (length more - d) (drop d more)) (sym at))

-- ---- they stay within their bounds

each_within : (m n : ℕ) (ps qs : List (Option Partial)) → Each (IsWithin m) ps → Each (IsWithin n) qs → Each (IsWithin (m + n)) (both_each ps qs)
each_within m n [] qs h k = all_wider n (m + n) qs (omega arith) k
each_within m n (p ∷ ps) [] h k = all_wider m (m + n) (p ∷ ps) (omega arith) h
each_within m n (p ∷ ps) (q ∷ qs) h k = (both_within m n p q h.0 k.0, each_within m n ps qs h.1 k.1)

pub columns_wider : (m n : ℕ) (cs : Columns) → m ≤ n → AreWithin m cs → AreWithin n cs
columns_wider m n [] h w = tt
columns_wider m n (c ∷ cs) h w = (all_wider m n c.partials h w.0, columns_wider m n cs h w.1)

module _ (m n : ℕ) where
  ordered_within : (o : Ordering) (a b : GroupColumnData) (x y z : Columns) → Each (IsWithin m) a.partials → Each (IsWithin n) b.partials
      → AreWithin (m + n) x → AreWithin (m + n) y → AreWithin (m + n) z → AreWithin (m + n) (by_order o a b x y z)
  ordered_within Less a b x y z p q h i j = (all_wider m (m + n) a.partials (omega arith) p, h)
  ordered_within Equal a b x y z p q h i j = (each_within m n a.partials b.partials p q, i)
  ordered_within Greater a b x y z p q h i j = (all_wider n (m + n) b.partials (omega arith) q, j)

  into_within : (a : GroupColumnData) (xs : Columns) (rest : Columns → Columns) → ((ys : Columns) → AreWithin n ys → AreWithin (m + n) (rest ys))
      → Each (IsWithin m) a.partials → AreWithin m xs → (ys : Columns) → AreWithin n ys → AreWithin (m + n) (into_columns a xs rest ys)
  into_within a xs rest each p h [] g = (all_wider m (m + n) a.partials (omega arith) p, columns_wider m (m + n) xs (omega arith) h)
  into_within a xs rest each p h (b ∷ ys) g =
      ordered_within (labels_cmp a.key b.key) a b (rest (b ∷ ys)) (rest ys) (into_columns a xs rest ys) p g.0 (each (b ∷ ys) g) (each ys g.1)
      (into_within a xs rest each p h ys g.1)

  pub joined_within : (xs : Columns) → AreWithin m xs → (ys : Columns) → AreWithin n ys → AreWithin (m + n) (joined_columns xs ys)
  joined_within [] h ys g = columns_wider n (m + n) ys (omega arith) g
  joined_within (a ∷ xs) h ys g = into_within a xs (joined_columns xs) (joined_within xs h.1) h.0 h.1 ys g

-- ---- the groups of a step

each_at : (ps qs : List (Option Partial)) (k : ℕ) → partial_in (both_each ps qs) k ≡ both (partial_in ps k) (partial_in qs k)
each_at [] qs k = refl
each_at (p ∷ ps) [] k = sym (both_none (partial_in (p ∷ ps) k))
each_at (p ∷ ps) (q ∷ qs) zero = refl
each_at (p ∷ ps) (q ∷ qs) (suc k) = each_at ps qs k

module _ (k : ℕ) where
  abbrev here : Columns → List GroupPart
  here cs = groups_in cs k

  above_by : (l m : Pairs) (o : Option Partial) (gs : List GroupPart) → labels_cmp l m ≡ Less → AllAbove l (keys gs) → AllAbove l (keys (group m o ++ gs))
  above_by l m None gs h a = a
  above_by l m (Some p) gs h a = (h, a)

  pub above_here : (l : Pairs) (cs : Columns) → Above l cs → AllAbove l (keys (here cs))
  above_here l [] a = tt
  above_here l (c ∷ cs) a = above_by l c.key (partial_in c.partials k) (here cs) a.0 (above_here l cs a.1)

  less_groups : (l : Pairs) (o : Option Partial) (gs hs : List GroupPart) → AllAbove l (keys gs) → AllAbove l (keys hs)
      → group l o ++ merged_groups (gs ++ hs) ≡ merged_groups ((group l o ++ gs) ++ hs)
  less_groups l None gs hs a b = refl
  less_groups l (Some p) gs hs a b = sym (take_first (record { key = l; partial = p }) (gs ++ hs) (above_append l gs hs a b))

  greater_groups : (l : Pairs) (o : Option Partial) (gs hs : List GroupPart) → AllAbove l (keys gs) → AllAbove l (keys hs)
      → group l o ++ merged_groups (gs ++ hs) ≡ merged_groups (gs ++ (group l o ++ hs))
  greater_groups l None gs hs a b = refl
  greater_groups l (Some p) gs hs a b = sym (take_second gs (record { key = l; partial = p }) hs a b)

  equal_groups : (l : Pairs) (o p : Option Partial) (gs hs : List GroupPart) → AllAbove l (keys gs) → AllAbove l (keys hs)
      → group l (both o p) ++ merged_groups (gs ++ hs) ≡ merged_groups ((group l o ++ gs) ++ (group l p ++ hs))
  equal_groups l None p gs hs a b = greater_groups l p gs hs a b
  equal_groups l (Some o) None gs hs a b = less_groups l (Some o) gs hs a b
  equal_groups l (Some o) (Some p) gs hs a b = sym (take_both l o p gs hs a b)

  module _ (a : GroupColumnData) (xs : Columns) (rest : Columns → Columns) (h : Above a.key xs) where
    ordered_groups : (b : GroupColumnData) (ys : Columns) (o : Ordering) → labels_cmp a.key b.key ≡ o → Rise (b ∷ ys)
        → here (rest (b ∷ ys)) ≡ merged_groups (here xs ++ here (b ∷ ys))
        → here (rest ys) ≡ merged_groups (here xs ++ here ys)
        → here (into_columns a xs rest ys) ≡ merged_groups (here (a ∷ xs) ++ here ys)
        → here (by_order o a b (rest (b ∷ ys)) (rest ys) (into_columns a xs rest ys)) ≡ merged_groups (here (a ∷ xs) ++ here (b ∷ ys))
    ordered_groups b ys Less e g x y z =
        ap (λ gs. group a.key (partial_in a.partials k) ++ gs) x
        ∙ less_groups a.key (partial_in a.partials k) (here xs) (here (b ∷ ys)) (above_here a.key xs h) (above_here a.key (b ∷ ys) (e, above_all a.key b.key (keys_in ys) e g.0))
    ordered_groups b ys Equal e g x y z =
        let same : a.key ≡ b.key = labels_exact a.key b.key e in
        (λ i. group a.key (each_at a.partials b.partials k i) ++ y i)
        ∙ equal_groups a.key (partial_in a.partials k) (partial_in b.partials k) (here xs) (here ys) (above_here a.key xs h)
        (above_here a.key ys (subst (λ l. Above l ys) (sym same) g.0))
        ∙ ap (λ l. merged_groups (here (a ∷ xs) ++ (group l (partial_in b.partials k) ++ here ys))) same
    ordered_groups b ys Greater e g x y z =
        let below = turned a.key b.key e in
        ap (λ gs. group b.key (partial_in b.partials k) ++ gs) z
        ∙ greater_groups b.key (partial_in b.partials k) (here (a ∷ xs)) (here ys) (above_here b.key (a ∷ xs) (below, above_all b.key a.key (keys_in xs) below h)) (above_here b.key ys g.0)

    into_groups : Rise xs → here (a ∷ xs) ≡ merged_groups (here (a ∷ xs)) → ((ys : Columns) → Rise ys → here (rest ys) ≡ merged_groups (here xs ++ here ys))
        → (ys : Columns) → Rise ys → here (into_columns a xs rest ys) ≡ merged_groups (here (a ∷ xs) ++ here ys)
    into_groups r own each [] g = own ∙ ap merged_groups (sym (append-nil (here (a ∷ xs))))
    into_groups r own each (b ∷ ys) g =
        ordered_groups b ys (labels_cmp a.key b.key) refl g (each (b ∷ ys) g) (each ys g.1) (into_groups r own each ys g.1)

  -- the groups of rising keys stand as they are merged
  alone_by : (l : Pairs) (o : Option Partial) (gs : List GroupPart) → AllAbove l (keys gs) → gs ≡ merged_groups gs → group l o ++ gs ≡ merged_groups (group l o ++ gs)
  alone_by l None gs a e = e
  alone_by l (Some p) gs a e = ap (λ hs. record { key = l; partial = p } ∷ hs) e ∙ sym (take_first (record { key = l; partial = p }) gs a)

  pub alone : (cs : Columns) → Rise cs → here cs ≡ merged_groups (here cs)
  alone [] r = refl
  alone (c ∷ cs) r = alone_by c.key (partial_in c.partials k) (here cs) (above_here c.key cs r.0) (alone cs r.1)

  pub joined_groups : (xs : Columns) → Rise xs → (ys : Columns) → Rise ys → here (joined_columns xs ys) ≡ merged_groups (here xs ++ here ys)
  joined_groups [] h ys g = alone ys g
  joined_groups (a ∷ xs) h ys g = into_groups a xs (joined_columns xs) h.0 h.1 (alone (a ∷ xs) h) (joined_groups xs h.1) ys g
