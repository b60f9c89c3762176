-- The parts of all legs of a query are those of the shards of each aggregation that is evaluated shard by shard, in preorder.
use Rattle.std.proofs.Common.{◌≡◌, inl, inr, ◌<◌, ◌≤◌, ◌+◌, ◌-◌, ◌*◌, ℕ, zero, suc, ℤ, Bool, true, false, cond, Option, None, Some, List, [], ◌∷◌, ◌++◌, drop, length, map, take, refl, sym, ap, ◌∙◌, subst, arith}
use Rattle.std.specs.Cmp.{second_so}
use Rattle.std.specs.List.{filter, list_any, slice_get}
use Rattle.std.proofs.Math.Nat.{suc-mul}
use Rattle.std.proofs.lemmas.List.{length-drop, length-map}
use Rattle.pf_base.specs.declared.plain.Row.{Row}
use Rattle.pf_model.specs.Binding.{patterns_of}
use Rattle.pf_model.specs.Legs.{LegsData, PartData, leg_part, node_part, of_shard}
use Rattle.pf_model.specs.Lists.{Each, at}
use Rattle.pf_model.specs.Merging.{below}
use Rattle.pf_model.specs.Sharding.{is_covered, is_mergeable, is_selector, is_sharded, sharded_from, sharded_nodes}
use Rattle.pf_model.specs.Trees as tree
use Rattle.pf_model.specs.Trees.{Tree, preorder}
use Rattle.pf_model.proofs.LegParts.{leg_parts, leg_parts_are}
use Rattle.pf_columns.proofs.Below.{first_below}
use Rattle.pf_selectors.specs.declared.times.Times.{Times}
use Rattle.pf_selectors.specs.Times.{time_at}
use Rattle.pf_shard.specs.declared.parts.Part.{Part}
use Rattle.pf_shard.specs.declared.parts.Part.TheVariants.{Whole, Groups}
use Rattle.pf_shard.specs.Groups.{GroupStepsData, groups_at}
use Rattle.pf_shard.specs.Bound.{AreEvaluable}
use Rattle.pf_shard.specs.Lawful.{AreSharded, IsLawful, ResolvedData, ResolvedLegs, leg_count, legs_data}
use Rattle.pf_shard.specs.LegParts.{FitsNodes, part_at}
use Rattle.pf_eval.specs.Merged.{AreOfShards, Holds, IsGroups, IsMerged, sharded_in}
use Rattle.pf_eval.proofs.BoundLegs.{all_among}
use Rattle.pf_eval.proofs.BoundLists.{two_true}
use Rattle.pf_eval.proofs.GivenParts.{all_there}

-- ---- lists

slices : {X Y : Type 0} (f : X → Y) (g : ℕ → Y) (n : ℕ) (xs : List X) → n ≤ length xs → ((i : ℕ) (x : X) → slice_get xs i ≡ Some x → f x ≡ g i) → map f (take n xs) ≡ below g n
slices f g zero xs h v = refl
slices f g (suc n) [] h v = absurd (omega (arith, h))
slices f g (suc n) (x ∷ xs) h v =
    (λ i. v 0 x refl i ∷ slices f (λ j. g (suc j)) n xs (omega (arith, h)) (λ j y e. v (suc j) y e) i)
    ∙ sym (first_below g n)

get_drop : {X : Type 0} (m i : ℕ) (xs : List X) (x : X) → slice_get (drop m xs) i ≡ Some x → slice_get xs (m + i) ≡ Some x
get_drop zero i xs x h = (let same : 0 + i ≡ i = omega arith in ap (slice_get xs) same) ∙ h
get_drop (suc m) zero [] x h = cc
get_drop (suc m) (suc i) [] x h = cc
get_drop (suc m) i (y ∷ xs) x h =
    (let same : suc m + i ≡ suc (m + i) = omega arith in ap (slice_get (y ∷ xs)) same) ∙ get_drop m i xs x h

drop_none : {X : Type 0} (n : ℕ) → drop {A = X} n [] ≡ []
drop_none zero = refl
drop_none (suc n) = refl

drop_both : {X : Type 0} (m n : ℕ) (xs : List X) → drop m (drop n xs) ≡ drop (n + m) xs
drop_both m zero xs = let same : 0 + m ≡ m = omega arith in ap (λ k. drop k xs) (sym same)
drop_both m (suc n) [] = drop_none m ∙ sym (drop_none (suc n + m))
drop_both m (suc n) (x ∷ xs) = drop_both m n xs ∙ (let same : suc n + m ≡ suc (n + m) = omega arith in ap (λ k. drop k (x ∷ xs)) (sym same))

get_map : {X Y : Type 0} (f : X → Y) (xs : List X) (i : ℕ) (x : X) → slice_get xs i ≡ Some x → slice_get (map f xs) i ≡ Some (f x)
get_map f [] zero x h = cc
get_map f [] (suc i) x h = cc
get_map f (y ∷ xs) zero x h = let same : y ≡ x = (λ k. unwrap y (h k)) in ap (λ z. Some (f z)) same where
  unwrap : {Z : Type 0} → Z → Option Z → Z
  unwrap z None = z
  unwrap z (Some w) = w
get_map f (y ∷ xs) (suc i) x h = get_map f xs i x h

-- ---- the nodes by their numbers

-- the node that stands at a place among those that are evaluated shard by shard, by its number from m on
pub record IsNode (m : ℕ) (all : List Tree) (j : ℕ) (t : Tree) : Type 0 where
  pub place : ℕ
  pub number : at (sharded_from m all) j ≡ Some (m + place)
  pub tree : at all place ≡ Some t
  pub sharded : is_sharded t ≡ true

one_further : (m place : ℕ) → (m + 1) + place ≡ m + suc place
one_further m place = omega arith

node_by : (m : ℕ) (x : Tree) (xs : List Tree) (j : ℕ) (t : Tree) (b : Bool) → is_sharded x ≡ b → ((i : ℕ) → at (filter is_sharded xs) i ≡ Some t → IsNode (m + 1) xs i t)
    → at (cond b (x ∷ filter is_sharded xs) (filter is_sharded xs)) j ≡ Some t → IsNode m (x ∷ xs) j t
node_by m x xs zero t true e go h =
    let own : m ≡ m + 0 = omega arith in
    record {
      place = 0;
      number = ap (λ b. at (cond b (m ∷ sharded_from (m + 1) xs) (sharded_from (m + 1) xs)) 0) e ∙ ap Some own;
      tree = h;
      sharded = (let same : x ≡ t = same_of x t h in ap is_sharded (sym same)) ∙ e;
    } where
      unwrap : Tree → Option Tree → Tree
      unwrap z None = z
      unwrap z (Some w) = w

      same_of : (x t : Tree) → Some x ≡ Some t → x ≡ t
      same_of x t h = λ k. unwrap x (h k)
node_by m x xs (suc j) t true e go h =
    let is = go j h in
    record {
      place = suc is.place;
      number = ap (λ b. at (cond b (m ∷ sharded_from (m + 1) xs) (sharded_from (m + 1) xs)) (suc j)) e ∙ is.number ∙ ap Some (one_further m is.place);
      tree = is.tree;
      sharded = is.sharded;
    }
node_by m x xs j t false e go h =
    let is = go j h in
    record {
      place = suc is.place;
      number = ap (λ b. at (cond b (m ∷ sharded_from (m + 1) xs) (sharded_from (m + 1) xs)) j) e ∙ is.number ∙ ap Some (one_further m is.place);
      tree = is.tree;
      sharded = is.sharded;
    }

node_at : (m : ℕ) (all : List Tree) (j : ℕ) (t : Tree) → at (filter is_sharded all) j ≡ Some t → IsNode m all j t
node_at m [] zero t h = cc
node_at m [] (suc j) t h = cc
node_at m (x ∷ xs) j t h = node_by m x xs j t (is_sharded x) refl (λ i e. node_at (m + 1) xs i t e) h

from_start : (place : ℕ) → 0 + place ≡ place
from_start place = omega arith

many_by : (m : ℕ) (x : Tree) (xs : List Tree) (b : Bool) → length (sharded_from (m + 1) xs) ≡ length (filter is_sharded xs)
    → length (cond b (m ∷ sharded_from (m + 1) xs) (sharded_from (m + 1) xs)) ≡ length (cond b (x ∷ filter is_sharded xs) (filter is_sharded xs))
many_by m x xs true e = ap suc e
many_by m x xs false e = e

as_many : (m : ℕ) (all : List Tree) → length (sharded_from m all) ≡ length (filter is_sharded all)
as_many m [] = refl
as_many m (x ∷ xs) = many_by m x xs (is_sharded x) (as_many (m + 1) xs)

-- ---- the parts of nodes one after another

holds_all : (shards : ℕ) (ts : List Tree) (groups : List GroupStepsData) → length groups ≡ length ts * shards → Holds shards ts groups
holds_all shards [] groups h = tt
holds_all shards (t ∷ ts) groups h =
    let all : length groups ≡ length ts * shards + shards = h ∙ suc-mul (length ts) shards in
    let first : shards ≤ length groups = omega (arith, all) in
    let many = length-drop shards groups in
    let left : length (drop shards groups) ≡ length ts * shards = omega (arith, many, all) in
    (first, holds_all shards ts (drop shards groups) left)

module _ (query : Tree) (first : ℕ) (more : List ℕ) (shards : ℕ) (samples : List Row) (times : Times) (e : first ∷ more ≡ sharded_nodes query) (groups : List GroupStepsData)
    (values : (i : ℕ) (g : GroupStepsData) → slice_get groups i ≡ Some g → (k : ℕ) → k < times.len → groups_at g k ≡ leg_part samples (record { query = query; nodes = first ∷ more; shards = shards }) i (time_at times k)) where
  abbrev legs : LegsData
  legs = record { query = query; nodes = first ∷ more; shards = shards }

  parts_by : (place number : ℕ) (t : Tree) (u : ℤ) → is_sharded t ≡ true → at (first ∷ more) place ≡ Some number → at (preorder query) number ≡ Some t
      → leg_parts samples legs place u ≡ below (λ i. node_part (Some t) (of_shard i shards samples) u) shards
  parts_by place number (tree.aggregate op g (tree.more arg tree.none)) u s n q =
      leg_parts_are query first more shards samples u place number op g arg tree.none n q
  parts_by place number (tree.aggregate op g tree.none) u s n q = let no : false ≡ true = (two_true (is_mergeable op) false s).1 in cc
  parts_by place number (tree.aggregate op g (tree.more arg (tree.more x xs))) u s n q = let no : false ≡ true = (two_true (is_mergeable op) false s).1 in cc
  parts_by place number t u s n q = cc

  one_node : (place : ℕ) (t : Tree) → at (sharded_in query) place ≡ Some t → place * shards + shards ≤ length groups → (k : ℕ) → k < times.len
      → map (λ p. groups_at p k) (take shards (drop (place * shards) groups)) ≡ below (λ i. node_part (Some t) (of_shard i shards samples) (time_at times k)) shards
  one_node place t a w k h =
      let is = node_at 0 (preorder query) place t a in
      slices (λ p. groups_at p k) (λ i. leg_part samples legs (place * shards + i) (time_at times k)) shards (drop (place * shards) groups)
      (let many = length-drop (place * shards) groups in omega (arith, many, w))
      (λ i g there. values (place * shards + i) g (get_drop (place * shards) i groups g there) k h)
      ∙ parts_by place is.place t (time_at times k) is.sharded
      (ap (λ ns. at ns place) e ∙ is.number ∙ ap Some (from_start is.place)) is.tree

  all_nodes : (ts : List Tree) (place : ℕ) → ((j : ℕ) (t : Tree) → at ts j ≡ Some t → at (sharded_in query) (place + j) ≡ Some t)
      → place * shards + length ts * shards ≤ length groups → AreOfShards samples shards times ts (drop (place * shards) groups)
  all_nodes [] place f w = tt
  all_nodes (t ∷ ts) place f w =
      let here : at (sharded_in query) place ≡ Some t = (let own : place ≡ place + 0 = omega arith in ap (at (sharded_in query)) own) ∙ f 0 t refl in
      let next : place * shards + shards ≡ suc place * shards = sym (suc-mul place shards) in
      let room : place * shards + shards ≤ length groups = room_for (length ts) w in (
        λ k h. one_node place t here room k h,
        subst (AreOfShards samples shards times ts) (sym (drop_both shards (place * shards) groups ∙ ap (λ n. drop n groups) next))
            (all_nodes ts (suc place) (λ j u a. (let same : suc place + j ≡ place + suc j = omega arith in ap (at (sharded_in query)) same) ∙ f (suc j) u a) (rest_for (length ts) w)),
      ) where
        room_for : (n : ℕ) → place * shards + suc n * shards ≤ length groups → place * shards + shards ≤ length groups
        room_for n w = let own = suc-mul n shards in omega (arith, w, own)

        rest_for : (n : ℕ) → place * shards + suc n * shards ≤ length groups → suc place * shards + n * shards ≤ length groups
        rest_for n w = let own = suc-mul n shards in let next = suc-mul place shards in omega (arith, w, own, next)

  pub of_shards : length groups ≡ length (first ∷ more) * shards → AreOfShards samples shards times (sharded_in query) groups
  of_shards h =
      let many : length (sharded_in query) ≡ length (first ∷ more) = sym (as_many 0 (preorder query)) ∙ ap length (sym e) in
      let none : 0 * shards ≡ 0 = omega arith in
      subst (AreOfShards samples shards times (sharded_in query)) (ap (λ n. drop n groups) none)
      (all_nodes (sharded_in query) 0 (λ j t a. ap (at (sharded_in query)) (from_start j) ∙ a)
      (let w : length (sharded_in query) * shards ≡ length groups = ap (λ n. n * shards) many ∙ sym h in omega (arith, none, w)))

pub holds_legs : (query : Tree) (nodes : List ℕ) (shards : ℕ) (groups : List GroupStepsData) → nodes ≡ sharded_nodes query → length groups ≡ length nodes * shards → Holds shards (sharded_in query) groups
holds_legs query nodes shards groups e h =
    holds_all shards (sharded_in query) groups (h ∙ ap (λ n. n * shards) (ap length e ∙ as_many 0 (preorder query)))

-- ---- the parts as groups

pub values_of_groups : (len : ℕ) (value : ℕ → ℕ → PartData) (parts : List Part) (groups : List GroupStepsData) → parts ≡ map Groups groups
    → ((i : ℕ) (p : Part) → slice_get parts i ≡ Some p → (k : ℕ) → k < len → part_at p k ≡ value i k)
    → (i : ℕ) (g : GroupStepsData) → slice_get groups i ≡ Some g → (k : ℕ) → k < len → groups_at g k ≡ value i k
values_of_groups len value parts groups e v i g h k l = v i (Groups g) (ap (λ ps. slice_get ps i) e ∙ get_map Groups groups i g h) k l

-- ---- lawful legs

pub each_last : {X : Type 0} (P : X → Type 0) (xs : List X) (x : X) → Each P (xs ++ (x ∷ [])) → P x
each_last P [] x h = h.0
each_last P (y ∷ ys) x h = each_last P ys x h.1

pub lawful_sharded : (l : LegsData) → (l.nodes ≡ [] → ⊥) → IsLawful l → AreSharded l
lawful_sharded l n (inl e) = absurd (n e)
lawful_sharded l n (inr s) = s

pub count_is : (q : Tree) (ns : List ℕ) (shards : ℕ) → (ns ≡ [] → ⊥) → leg_count (record { query = q; nodes = ns; shards = shards }) ≡ length ns * shards
count_is q [] shards n = absurd (n refl)
count_is q (m ∷ ms) shards n = refl

fits_one : (ns : List ℕ) → (ns ≡ [] → ⊥) → (p : Part) → FitsNodes ns p → IsGroups p
fits_one [] n p h = absurd (n refl)
fits_one (m ∷ ms) n (Whole steps) h = h
fits_one (m ∷ ms) n (Groups groups) h = tt

pub fits_all : (ns : List ℕ) → (ns ≡ [] → ⊥) → (ps : List Part) → Each (FitsNodes ns) ps → Each IsGroups ps
fits_all ns n [] h = tt
fits_all ns n (p ∷ ps) h = (fits_one ns n p h.0, fits_all ns n ps h.1)

module _ (legs : ResolvedLegs) (r : ResolvedData) (shards : ℕ) (re : r ≡ legs.resolved) (se : shards ≡ legs.shards) (sharded : AreSharded (legs_data legs))
    (groups : List GroupStepsData) (parts : List Part) (pe : parts ≡ map Groups groups) (many : length parts ≡ length legs.nodes * legs.shards) where
  many_groups : length groups ≡ length legs.nodes * legs.shards
  many_groups = sym (ap length pe ∙ length-map groups Groups) ∙ many

  pub root_merged : AreEvaluable legs.resolved → IsMerged r.query shards groups r.patterns
  root_merged e =
      let own : IsMerged legs.resolved.query legs.shards groups legs.resolved.patterns = record {
        evaluated = e.evaluated;
        covered = second_so (list_any is_selector (preorder legs.resolved.query)) (is_covered legs.resolved.query) sharded.shardable;
        patterns = all_there (patterns_of legs.resolved.query) legs.resolved.patterns (all_among legs.resolved.patterns (patterns_of legs.resolved.query) e.patterns);
        enough = holds_legs legs.resolved.query legs.nodes legs.shards groups sharded.nodes many_groups;
      } in
      subst (λ q. IsMerged q.query shards groups q.patterns) (sym re) (subst (λ n. IsMerged legs.resolved.query n groups legs.resolved.patterns) (sym se) own)

  pub root_positive : 0 < shards
  root_positive = let s = sharded.several in omega (arith, s, se)

  pub root_few : shards ≤ 64
  root_few = let s = sharded.most in omega (arith, s, se)

  module _ (samples : List Row) (times : Times) (time : ℕ → ℤ) (len : ℕ) (le : times.len ≡ len) (te : (k : ℕ) → k < len → time_at times k ≡ time k)
      (values : (i : ℕ) (p : Part) → slice_get parts i ≡ Some p → (k : ℕ) → k < len → part_at p k ≡ leg_part samples (legs_data legs) i (time k)) where
    own_values : (i : ℕ) (g : GroupStepsData) → slice_get groups i ≡ Some g → (k : ℕ) → k < times.len → groups_at g k ≡ leg_part samples (legs_data legs) i (time_at times k)
    own_values i g h k l =
        let within : k < len = subst (λ n. k < n) le l in
        values_of_groups len (λ j m. leg_part samples (legs_data legs) j (time m)) parts groups pe values i g h k within
        ∙ ap (leg_part samples (legs_data legs) i) (sym (te k within))

    of_by : (ns : List ℕ) → ns ≡ sharded_nodes legs.resolved.query → (ns ≡ [] → ⊥) → length groups ≡ length ns * legs.shards
        → ((i : ℕ) (g : GroupStepsData) → slice_get groups i ≡ Some g → (k : ℕ) → k < times.len → groups_at g k ≡ leg_part samples (record { query = legs.resolved.query; nodes = ns; shards = legs.shards }) i (time_at times k))
        → AreOfShards samples legs.shards times (sharded_in legs.resolved.query) groups
    of_by [] e n m v = absurd (n refl)
    of_by (first ∷ more) e n m v = of_shards legs.resolved.query first more legs.shards samples times e groups v m

    pub root_of : (legs.nodes ≡ [] → ⊥) → AreOfShards samples shards times (sharded_in r.query) groups
    root_of n =
        subst (λ q. AreOfShards samples shards times (sharded_in q.query) groups) (sym re)
        (subst (λ s. AreOfShards samples s times (sharded_in legs.resolved.query) groups) (sym se)
        (of_by legs.nodes sharded.nodes n many_groups own_values))
