-- The node and the series of a leg, where a query is evaluated shard by shard.
use Rattle.std.proofs.Common.{◌≡◌, ◌<◌, ◌≤◌, ◌+◌, ◌*◌, ◌/◌, ◌%◌, inl, inr, ℕ, zero, suc, ℤ, true, All, Some, Option, List, [], ◌∷◌, length, get_or, refl, sym, ap, ◌∙◌, subst, arith, mod-lt}
use Rattle.std.proofs.Math.Nat.{div-lt_iff_lt-mul}
use Rattle.std.proofs.lemmas.List.Elements.{All-filter}
use Rattle.std.proofs.lemmas.Nat.{div-add-mod'}
use Rattle.pf_base.specs.declared.plain.Row.{Row}
use Rattle.pf_base.specs.LabelSets.{Pairs}
use Rattle.pf_index.proofs.Entries.{ids_within}
use Rattle.pf_model.specs.declared.expr.Matcher.{Matcher}
use Rattle.pf_model.specs.Binding.{accepted_ids}
use Rattle.pf_model.specs.Built.{is_evaluated}
use Rattle.pf_model.specs.Legs.{leg_part, node_part, numbered, of_shard}
use Rattle.pf_model.specs.Lists.{at}
use Rattle.pf_model.specs.Sharding.{is_sharded}
use Rattle.pf_model.specs.Trees.{Tree, height, preorder}
use Rattle.pf_shard.specs.Bound.{AreBoundOver, node_matchers, shard_ids}
use Rattle.pf_shard.specs.Lawful.{AreSharded, IsLawful, ResolvedLegs, leg_count, legs_data}
use Rattle.pf_eval.proofs.ShardLists.{get_joined, length_joined}
use Rattle.pf_eval.proofs.ShardedNodes.{IsNode, IsReady, node_ready}

at_get : {X : Type 0} (xs : List X) (k : ℕ) (d : X) → k < length xs → at xs k ≡ Some (get_or xs k d)
at_get [] k d h = absurd (omega (arith, h))
at_get (x ∷ xs) zero d h = refl
at_get (x ∷ xs) (suc k) d h = at_get xs k d (omega (arith, h))

at_within : {X : Type 0} (xs : List X) (k : ℕ) (x : X) → at xs k ≡ Some x → k < length xs
at_within [] k x h = cc
at_within (y ∷ xs) zero x h = omega arith
at_within (y ∷ xs) (suc k) x h = let w = at_within xs k x h in omega (arith, w)

one_only : {X : Type 0} (o : Option X) (x y : X) → o ≡ Some x → o ≡ Some y → x ≡ y
one_only o x y e f = let is : Some x ≡ Some y = sym e ∙ f in cc

count_by : (ns : List ℕ) (q : Tree) (n : ℕ) → (ns ≡ [] → ⊥) → leg_count (record { query = q; nodes = ns; shards = n }) ≡ length ns * n
count_by [] q n h = absurd (h refl)
count_by (m ∷ ns) q n h = refl

part_by : (samples : List Row) (ns : List ℕ) (q : Tree) (n leg : ℕ) (t : ℤ) → (ns ≡ [] → ⊥)
    → leg_part samples (record { query = q; nodes = ns; shards = n }) leg t ≡ node_part (numbered q (at ns (leg / n))) (of_shard (leg % n) n samples) t
part_by samples [] q n leg t h = absurd (h refl)
part_by samples (m ∷ ns) q n leg t h = refl

-- the ids of a shard are within
pub shard_within : (shard n : ℕ) (ms : List Matcher) (ls : List Pairs) (ids : List ℕ) → ids ≡ shard_ids shard n ms ls → All (λ id. id < length ls) ids
shard_within shard n ms ls ids e = subst (All (λ id. id < length ls)) (sym e) (All-filter _ (λ id. id < length ls) (accepted_ids ms ls) (ids_within ms ls))

module _ (legs : ResolvedLegs) (labels : List Pairs) (lawful : IsLawful (legs_data legs)) (some : legs.nodes ≡ [] → ⊥) (bound : AreBoundOver legs labels)
    (leg : ℕ) (within : leg < leg_count (legs_data legs)) where
  abbrev query : Tree
  query = legs.resolved.query

  abbrev n : ℕ
  n = legs.shards

  are_sharded : AreSharded (legs_data legs)
  are_sharded = elim lawful [ inl none ↦ absurd (some none) | inr h ↦ h ]

  pub some_shards : 0 < n
  some_shards = let h = are_sharded.several in omega (arith, h)

  counted : leg < length legs.nodes * n
  counted = subst (λ m. leg < m) (count_by legs.nodes query n some) within

  pub place_within : leg / n < length legs.nodes
  place_within = (div-lt_iff_lt-mul some_shards).1 counted

  module _ (number : ℕ) (is : number ≡ get_or legs.nodes (leg / n) number) where
    number_at : at legs.nodes (leg / n) ≡ Some number
    number_at = at_get legs.nodes (leg / n) number place_within ∙ ap Some (sym is)

    its_node : IsNode (preorder query) (IsReady 64) number
    its_node = node_ready query 64 bound.resolved.evaluated bound.resolved.low (leg / n) number (ap (λ ns. at ns (leg / n)) (sym are_sharded.nodes) ∙ number_at)

    pub number_within : number < length (preorder query)
    number_within = at_within (preorder query) number its_node.node its_node.stands

    module _ (t : Tree) (stands : at (preorder query) number ≡ Some t) where
      same : its_node.node ≡ t
      same = one_only (at (preorder query) number) its_node.node t its_node.stands stands

      pub leg_sharded : is_sharded t ≡ true
      leg_sharded = subst (λ x. is_sharded x ≡ true) same its_node.sharded

      ready : (is_evaluated t ≡ true) × (height t ≤ 64)
      ready = subst (IsReady 64) same its_node.holds leg_sharded

      pub leg_evaluated : is_evaluated t ≡ true
      leg_evaluated = ready.0

      pub leg_low : height t ≤ 64
      leg_low = ready.1

      -- the leg is the node over its shard
      pub leg_is_node : (samples : List Row) (u : ℤ) → node_part (Some t) (of_shard (leg % n) n samples) u ≡ leg_part samples (legs_data legs) leg u
      leg_is_node samples u =
          sym (part_by samples legs.nodes query n leg u some
          ∙ ap (λ o. node_part (numbered query o) (of_shard (leg % n) n samples) u) number_at
          ∙ ap (λ o. node_part o (of_shard (leg % n) n samples) u) stands)

      pub leg_reads : (d : List ℕ) → get_or legs.series leg d ≡ shard_ids (leg % n) n (node_matchers (Some t)) labels
      leg_reads d =
          let whole : leg ≡ leg / n * n + leg % n = sym (div-add-mod' leg n) in
          ap (λ xs. get_or xs leg d) bound.series
          ∙ get_joined (λ m shard. shard_ids shard n (node_matchers (numbered query (Some m))) labels) n legs.nodes (leg / n) (leg % n) leg number d
          (mod-lt _ some_shards) number_at whole
          ∙ ap (λ o. shard_ids (leg % n) n (node_matchers o) labels) stands

  pub series_within : leg < length legs.series
  series_within =
      let many : length legs.series ≡ length legs.nodes * n
      = ap length bound.series ∙ length_joined (λ m shard. shard_ids shard n (node_matchers (numbered query (Some m))) labels) n legs.nodes in
      subst (λ m. leg < m) (sym many) counted
