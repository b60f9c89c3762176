-- What the nodes of a query are merged from: what all shards know of each aggregation that is evaluated shard by shard, one
-- aggregation after another in preorder: this project's own.
use Rattle.std.specs.Prelude.{◌≡◌, ◌<◌, ◌≤◌, ℕ, true, Some, List, [], ◌∷◌, filter, map, length, take, drop}
use Rattle.pf_base.specs.declared.plain.Row.{Row}
use Rattle.pf_model.specs.Built.{are_arguments, is_evaluated}
use Rattle.pf_model.specs.Binding.{patterns_in}
use Rattle.pf_model.specs.Legs.{node_part, of_shard}
use Rattle.pf_model.specs.Merging.{below}
use Rattle.pf_model.specs.Sharding.{are_covered, is_covered, is_sharded}
use Rattle.pf_model.specs.Trees.{Tree, Trees, all_preorder, preorder}
use Rattle.pf_selectors.specs.declared.times.Times.{Times}
use Rattle.pf_selectors.specs.Times.{time_at}
use Rattle.pf_shard.specs.declared.parts.Part.{Part}
use Rattle.pf_shard.specs.declared.parts.Part.TheVariants.{Whole, Groups}
use Rattle.pf_shard.specs.Groups.{GroupStepsData, groups_at}
use Rattle.pf_eval.specs.Bound.{AreThere}

abbrev pub IsGroups : Part → Type 0
IsGroups (Whole steps) = ⊥
IsGroups (Groups groups) = Unit {0}

-- the aggregations that are evaluated shard by shard
abbrev pub sharded_in : Tree → List Tree
sharded_in t = filter is_sharded (preorder t)

abbrev pub all_sharded_in : Trees → List Tree
all_sharded_in ts = filter is_sharded (all_preorder ts)

-- there are parts of all shards of each
abbrev pub Holds : ℕ → List Tree → List GroupStepsData → Type 0
Holds shards [] parts = Unit {0}
Holds shards (node ∷ nodes) parts = (shards ≤ length parts) × Holds shards nodes (drop shards parts)

-- what is behind these
abbrev pub behind_shards : ℕ → List Tree → List GroupStepsData → List GroupStepsData
behind_shards shards [] parts = parts
behind_shards shards (node ∷ nodes) parts = behind_shards shards nodes (drop shards parts)

-- they are what each shard of these samples knows
abbrev pub AreOfShards : List Row → ℕ → Times → List Tree → List GroupStepsData → Type 0
AreOfShards samples shards times [] parts = Unit {0}
AreOfShards samples shards times (node ∷ nodes) parts =
    ((k : ℕ) → k < times.len → map (λ p. groups_at p k) (take shards parts) ≡ below (λ i. node_part (Some node) (of_shard i shards samples) (time_at times k)) shards)
    × AreOfShards samples shards times nodes (drop shards parts)

-- a query whose selectors all stand in such aggregations, with parts of these and patterns, and queries of this kind
pub record IsMerged (t : Tree) (shards : ℕ) (parts : List GroupStepsData) (texts : List (List ℕ)) : Type 0 where
  pub evaluated : is_evaluated t ≡ true
  pub covered : is_covered t ≡ true
  pub patterns : AreThere (patterns_in (preorder t)) texts
  pub enough : Holds shards (sharded_in t) parts

pub record AreMerged (ts : Trees) (shards : ℕ) (parts : List GroupStepsData) (texts : List (List ℕ)) : Type 0 where
  pub evaluated : are_arguments ts ≡ true
  pub covered : are_covered ts ≡ true
  pub patterns : AreThere (patterns_in (all_preorder ts)) texts
  pub enough : Holds shards (all_sharded_in ts) parts
