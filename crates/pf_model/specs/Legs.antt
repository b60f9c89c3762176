-- What a leg of a sharded query stands for: this project's own, after Mimir's query sharding.
use Rattle.std.specs.Prelude.{ℕ, ◌/◌, ◌%◌, ℤ, Option, Some, None, List, [], ◌∷◌, map, filter, length, nat_eq}
use Rattle.pf_base.specs.declared.plain.Partial.{Partial}
use Rattle.pf_base.specs.declared.plain.Row.{Row}
use Rattle.pf_base.specs.LabelSets.{Pairs}
use Rattle.pf_base.specs.ShardHash.{shard_of}
use Rattle.pf_model.specs.declared.cell.Element.{Element}
use Rattle.pf_model.specs.declared.cell.ErrorKind.{ErrorKind}
use Rattle.pf_model.specs.declared.cell.StepCell.{StepCell}
use Rattle.pf_model.specs.declared.cell.StepCell.TheVariants.{Good, Bad}
use Rattle.pf_model.specs.Aggregation.{groups, group_key}
use Rattle.pf_model.specs.Cells.{values_of}
use Rattle.pf_model.specs.Clauses.{Grouped}
use Rattle.pf_model.specs.Evaluation.{eval}
use Rattle.pf_model.specs.Lists.{at}
use Rattle.pf_model.specs.Micros.{least, greatest, total}
use Rattle.pf_model.specs.Trees as tree
use Rattle.pf_model.specs.Trees.{Tree, preorder}

-- a query's legs: one for each node and shard, or where there is no node one for the whole query
pub record LegsData : Type 0 where
  pub query : Tree
  pub nodes : List ℕ
  pub shards : ℕ

-- a key and what one shard knows of its group
pub record GroupPart : Type 0 where
  pub key : Pairs
  pub partial : Partial

-- what a leg is at a step: the whole cell; the groups of a shard by key; an error
pub data PartData : Type 0 where
  whole : List Element → PartData
  grouped : List GroupPart → PartData
  bad : ErrorKind → PartData

abbrev pub whole_part : StepCell → PartData
whole_part (Good es) = whole es
whole_part (Bad kind) = bad kind

-- the exact sum, the number, the least and the greatest of a group
abbrev pub partial_of : List ℤ → Partial
partial_of vs = record { sum = total vs; count = length vs; least = least vs; greatest = greatest vs }

abbrev pub partials : Grouped → List Element → List GroupPart
partials g es =
    map (λ found. record { key = found.key; partial = partial_of (values_of found.elements) })
    (groups (group_key g.without g.labels) es)

abbrev pub grouped_part : Grouped → StepCell → PartData
grouped_part g (Good es) = grouped (partials g es)
grouped_part g (Bad kind) = bad kind

-- the rows of a shard
abbrev pub of_shard : ℕ → ℕ → List Row → List Row
of_shard shard shards samples = filter (λ r. nat_eq (shard_of r.labels shards) shard) samples

-- a node leg: the node's argument over the samples of the shard
abbrev pub node_part : Option Tree → List Row → ℤ → PartData
node_part (Some (tree.aggregate op g (tree.more arg args))) samples t = grouped_part g (eval samples arg t)
node_part _ samples t = grouped []

-- the node of a number in preorder
abbrev pub numbered : Tree → Option ℕ → Option Tree
numbered query None = None
numbered query (Some n) = at (preorder query) n

abbrev pub node_of : LegsData → ℕ → Option Tree
node_of legs leg = numbered legs.query (at legs.nodes (leg / legs.shards))

-- the value of a leg at a time
abbrev pub leg_part : List Row → LegsData → ℕ → ℤ → PartData
leg_part samples legs leg t = by_nodes legs.nodes where
  by_nodes : List ℕ → PartData
  by_nodes [] = whole_part (eval samples legs.query t)
  by_nodes (n ∷ ns) = node_part (node_of legs leg) (of_shard (leg % legs.shards) legs.shards samples) t
