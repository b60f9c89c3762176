-- Lists of ids divided by shard, and the list of a leg among those of all.
use Rattle.std.proofs.Common.{◌≡◌, ◌<◌, ◌≤◌, ◌+◌, ◌*◌, inl, inr, ℕ, zero, suc, Bool, true, cond, nat_eq, All, Some, List, [], ◌∷◌, ◌++◌, length, map, take, drop, get_or, refl, sym, ap, ◌∙◌, subst, arith, append_assoc, mod-lt, zero-mul}
use Rattle.std.specs.Prelude.{slice_set}
use Rattle.std.specs.List.{filter, list_any}
use Rattle.std.proofs.Math.ListN.{get_or-append}
use Rattle.std.proofs.Math.Nat.{suc-mul}
use Rattle.std.proofs.lemmas.Grind.{take_at_read}
use Rattle.std.proofs.lemmas.List.{drop_more, length-append}
use Rattle.std.proofs.lemmas.List.Elements.{filter-append}
use Rattle.pf_base.specs.LabelSets.{Pairs}
use Rattle.pf_base.specs.ShardHash.{shard_of}
use Rattle.pf_columns.proofs.Below.{in_below, length_below}
use Rattle.pf_columns.proofs.GroupColumns.{below_alike, put_is}
use Rattle.pf_index.proofs.Entries.{ids_within}
use Rattle.pf_model.specs.declared.expr.Matcher.{Matcher}
use Rattle.pf_model.specs.Binding.{accepted_ids, bound_series, selectors_of}
use Rattle.pf_model.specs.Legs.{LegsData}
use Rattle.pf_model.specs.Lists.{at, joined}
use Rattle.pf_model.specs.Merging.{below}
use Rattle.pf_model.specs.Sharding.{is_covered, is_selector, is_shardable, sharded_nodes}
use Rattle.pf_model.specs.Trees.{Tree, preorder}
use Rattle.pf_shard.specs.Bound.{AreBoundOver, IsBoundOver, ids_in_shard, leg_series, node_matchers}
use Rattle.pf_shard.specs.Lawful.{IsLawful, ResolvedData, ResolvedLegs, legs_data}
use Rattle.pf_eval.proofs.BoundLists.{two_true}
use Rattle.pf_eval.proofs.ShardedNodes.{node_selectors}

-- one more id
kept_last : (p : ℕ → Bool) (ids more : List ℕ) (id : ℕ) → more ≡ ids ++ (id ∷ []) → filter p more ≡ filter p ids ++ cond (p id) (id ∷ []) []
kept_last p ids more id is = ap (filter p) is ∙ filter-append p ids (id ∷ [])

pub shard_more : (labels : List Pairs) (ids : List ℕ) (n i id shard : ℕ) (before after : List (List ℕ)) → i < length ids → id ≡ get_or ids i id
    → shard ≡ shard_of (get_or labels id []) n → shard < n → before ≡ below (λ k. ids_in_shard k n labels (take i ids)) n
    → after ≡ slice_set before shard (get_or before shard [] ++ (id ∷ [])) → after ≡ below (λ k. ids_in_shard k n labels (take (i + 1) ids)) n
shard_more labels ids n i id shard before after h q o w b a =
    let f : ℕ → List ℕ = λ k. ids_in_shard k n labels (take i ids) in
    let more : take (i + 1) ids ≡ take i ids ++ (id ∷ []) = (take_at_read ids i id h).1 ∙ ap (λ x. take i ids ++ (x ∷ [])) (sym q) in
    a ∙ ap (λ xs. slice_set xs shard (get_or xs shard [] ++ (id ∷ []))) b ∙ put_is f n shard id w
    ∙ below_alike (λ k. f k ++ cond (nat_eq shard k) (id ∷ []) []) (λ k. ids_in_shard k n labels (take (i + 1) ids)) n
    (λ k. ap (λ s. f k ++ cond (nat_eq s k) (id ∷ []) []) o
    ∙ sym (kept_last (λ x. nat_eq (shard_of (get_or labels x []) n) k) (take i ids) (take (i + 1) ids) id more))

pub shard_below : (l : Pairs) (n shard : ℕ) → 1 ≤ n → shard ≡ shard_of l n → shard < n
shard_below l n shard h e = subst (λ k. k < n) (sym e) (mod-lt _ (omega (arith, h)))

pub none_in_shard : (labels : List Pairs) (n : ℕ) → below (λ shard. []) n ≡ below (λ k. ids_in_shard k n labels []) n
none_in_shard labels n = refl

-- ---- the lists of all selectors

abbrev pub divided : List Pairs → ℕ → List ℕ → List (List ℕ)
divided labels n ids = below (λ k. ids_in_shard k n labels ids) n

pub divided_more : {X : Type 0} (items : X → List ℕ) (labels : List Pairs) (n : ℕ) (xs : List X) (i : ℕ) (x : X) (found lists after : List (List ℕ)) → i < length xs → x ≡ get_or xs i x
    → lists ≡ divided labels n (items x) → after ≡ found ++ lists
    → after ++ joined (divided labels n) (map items (drop (i + 1) xs)) ≡ found ++ joined (divided labels n) (map items (drop i xs))
divided_more items labels n xs i x found lists after h q l a =
    let rest = map items (drop (i + 1) xs) in
    ap (λ ys. ys ++ joined (divided labels n) rest) (a ∙ ap (λ ys. found ++ ys) l)
    ∙ append_assoc found (divided labels n (items x)) (joined (divided labels n) rest)
    ∙ ap (λ y. found ++ (divided labels n (items y) ++ joined (divided labels n) rest)) q
    ∙ ap (λ ys. found ++ joined (divided labels n) (map items ys)) (sym (drop_more xs i x h))

joined_map : {X Y Z : Type 0} (f : Y → List Z) (g : X → Y) (xs : List X) → joined (λ x. f (g x)) xs ≡ joined f (map g xs)
joined_map f g [] = refl
joined_map f g (x ∷ xs) = ap (λ ys. f (g x) ++ ys) (joined_map f g xs)

-- the lists of the legs are those of the query's selectors, divided
pub legs_divided : (labels : List Pairs) (q : Tree) (n : ℕ) → is_covered q ≡ true
    → leg_series (record { query = q; nodes = sharded_nodes q; shards = n }) labels ≡ joined (divided labels n) (bound_series q labels)
legs_divided labels q n h =
    joined_map (λ ms. divided labels n (accepted_ids ms labels)) (λ m. node_matchers (at (preorder q) m)) (sharded_nodes q)
    ∙ ap (joined (λ ms. divided labels n (accepted_ids ms labels))) (node_selectors q h)
    ∙ joined_map (divided labels n) (λ ms. accepted_ids ms labels) (selectors_of q)

covered_query : (q : Tree) → is_shardable q ≡ true → is_covered q ≡ true
covered_query q h = (two_true (list_any is_selector (preorder q)) (is_covered q) h).1

divided_by : (legs : LegsData) (labels : List Pairs) (lists : List (List ℕ)) → legs.nodes ≡ sharded_nodes legs.query → is_shardable legs.query ≡ true
    → lists ≡ joined (divided labels legs.shards) (bound_series legs.query labels) → lists ≡ leg_series legs labels
divided_by legs labels lists is h e =
    e ∙ sym (legs_divided labels legs.query legs.shards (covered_query legs.query h))
    ∙ ap (λ ns. leg_series (record { query = legs.query; nodes = ns; shards = legs.shards }) labels) (sym is)

-- the series of legs of nodes
pub series_bound : (legs : LegsData) (labels : List Pairs) (lists : List (List ℕ)) → IsLawful legs → (legs.nodes ≡ [] → ⊥)
    → lists ≡ joined (divided labels legs.shards) (bound_series legs.query labels) → lists ≡ leg_series legs labels
series_bound legs labels lists lawful some e = elim lawful [
  | inl none ↦ absurd (some none)
  | inr h ↦ divided_by legs labels lists h.nodes h.shardable e
]

pub none_bound : (legs : LegsData) (labels : List Pairs) → legs.nodes ≡ [] → [] ≡ leg_series legs labels
none_bound legs labels e = ap (λ ns. leg_series (record { query = legs.query; nodes = ns; shards = legs.shards }) labels) (sym e)

-- the ids of selectors are within
pub lists_within : {X : Type 0} (items : X → List ℕ) (ls : List Pairs) (mss : List (List Matcher)) (xs : List X) → map items xs ≡ map (λ ms. accepted_ids ms ls) mss
    → All (λ x. All (λ id. id < length ls) (items x)) xs
lists_within items ls mss [] e = λ k d h. absurd (omega (arith, h))
lists_within items ls [] (x ∷ xs) e = cc
lists_within {X = X} items ls (ms ∷ mss) (x ∷ xs) e =
    let first : items x ≡ accepted_ids ms ls = cc in
    let rest : map items xs ≡ map (λ m. accepted_ids m ls) mss = cc in
    λ k d h. by k d h first (lists_within items ls mss xs rest) where
      by : (k : ℕ) (d : X) → k < length (x ∷ xs) → items x ≡ accepted_ids ms ls → All (λ y. All (λ id. id < length ls) (items y)) xs → All (λ id. id < length ls) (items (get_or (x ∷ xs) k d))
      by zero d h f r = subst (All (λ id. id < length ls)) (sym f) (ids_within ms ls)
      by (suc k) d h f r = r k d (omega (arith, h))

-- ---- the list of a leg

get_below : {X : Type 0} (f : ℕ → X) (n i : ℕ) (rest : List X) (d : X) → i < n → get_or (below f n ++ rest) i d ≡ f i
get_below f n i rest d h = get_or-append (below f n) rest d i (subst (λ m. i < m) (sym (length_below f n)) h) ∙ in_below f n i d h

get_behind : {X : Type 0} (xs rest : List X) (n m i : ℕ) (d : X) → length xs ≡ n → m ≡ n + i → get_or (xs ++ rest) m d ≡ get_or rest i d
get_behind [] rest n m i d e s = let is : m ≡ i = omega (arith, e, s) in ap (λ k. get_or rest k d) is
get_behind (x ∷ xs) rest n zero i d e s = absurd (omega (arith, e, s))
get_behind (x ∷ xs) rest zero (suc m) i d e s = absurd (omega (arith, e))
get_behind (x ∷ xs) rest (suc n) (suc m) i d e s = get_behind xs rest n m i d (omega (arith, e)) (omega (arith, s))

-- the place of one of n in the list of one of some
pub get_joined : {X Y : Type 0} (f : X → ℕ → Y) (n : ℕ) (xs : List X) (p i m : ℕ) (x : X) (d : Y) → i < n → at xs p ≡ Some x → m ≡ p * n + i
    → get_or (joined (λ y. below (f y) n) xs) m d ≡ f x i
get_joined f n [] p i m x d h a e = cc
get_joined f n (y ∷ ys) zero i m x d h a e =
    let is : y ≡ x = cc in
    let place : m ≡ i = omega (arith, e) in
    ap (λ k. get_or (below (f y) n ++ joined (λ z. below (f z) n) ys) k d) place ∙ get_below (f y) n i (joined (λ z. below (f z) n) ys) d h ∙ ap (λ z. f z i) is
get_joined f n (y ∷ ys) (suc p) i m x d h a e =
    let more : suc p * n ≡ p * n + n = suc-mul p n in
    get_behind (below (f y) n) (joined (λ z. below (f z) n) ys) n m (p * n + i) d (length_below (f y) n) (omega (arith, e, more))
    ∙ get_joined f n ys p i (p * n + i) x d h a refl

pub length_joined : {X Y : Type 0} (f : X → ℕ → Y) (n : ℕ) (xs : List X) → length (joined (λ y. below (f y) n) xs) ≡ length xs * n
length_joined f n [] = sym (zero-mul n)
length_joined f n (x ∷ xs) =
    let more : suc (length xs) * n ≡ length xs * n + n = suc-mul (length xs) n in
    let rest = length_joined f n xs in
    let here = length_below (f x) n in
    let both = length-append (below (f x) n) (joined (λ y. below (f y) n) xs) in
    omega (arith, more, rest, here, both)

-- ---- legs with the series that they read

with_found : (r : ResolvedData) (nodes : List ℕ) (n : ℕ) (labels : List Pairs) (found lists : List (List ℕ))
    → IsLawful (record { query = r.query; nodes = nodes; shards = n }) → (nodes ≡ [] → ⊥) → IsBoundOver r labels → lists ≡ r.series
    → found ≡ joined (divided labels n) lists → AreBoundOver (record { resolved = r; nodes = nodes; shards = n; series = found }) labels
with_found r nodes n labels found lists lawful some bound read e = record {
  resolved = bound;
  series = series_bound (record { query = r.query; nodes = nodes; shards = n }) labels found lawful some (e ∙ ap (joined (divided labels n)) (read ∙ bound.series));
}

pub bound_by : (legs : ResolvedLegs) (r : ResolvedData) (nodes : List ℕ) (n : ℕ) (labels : List Pairs) (found lists : List (List ℕ))
    → legs ≡ record { resolved = r; nodes = nodes; shards = n; series = [] } → IsLawful (legs_data legs) → (legs.nodes ≡ [] → ⊥) → IsBoundOver r labels
    → lists ≡ r.series → found ≡ joined (divided labels n) lists → AreBoundOver (record legs { series = found }) labels
bound_by legs r nodes n labels found lists is lawful some bound read e =
    subst (λ (x : ResolvedLegs). IsLawful (legs_data x) → (x.nodes ≡ [] → ⊥) → AreBoundOver (record x { series = found }) labels) (sym is)
    (λ l s. with_found r nodes n labels found lists l s bound read e) lawful some
