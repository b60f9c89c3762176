-- What a query that is evaluated over a snapshot has, and what its legs read: this project's own.
use Rattle.std.specs.Prelude.{◌≡◌, ◌≤◌, ℕ, true, Option, Some, None, List, [], ◌∷◌, filter, nat_eq, slice_index_or}
use Rattle.pf_base.specs.LabelSets.{Pairs}
use Rattle.pf_base.specs.ShardHash.{shard_of}
use Rattle.pf_model.specs.declared.expr.Matcher.{Matcher}
use Rattle.pf_model.specs.Binding.{accepted_ids, bound_series, patterns_of, selectors_of}
use Rattle.pf_model.specs.Built.{is_evaluated}
use Rattle.pf_model.specs.Legs.{LegsData, numbered}
use Rattle.pf_model.specs.Lists.{joined}
use Rattle.pf_model.specs.Merging.{below}
use Rattle.pf_model.specs.Trees.{Tree, height}
use Rattle.pf_shard.specs.Lawful.{ResolvedData, ResolvedLegs, legs_data}

-- it is evaluated and not too high, and has the series of its selectors, where the label sets by id are these, and its patterns
pub record IsBoundOver (r : ResolvedData) (labels : List Pairs) : Type 0 where
  pub evaluated : is_evaluated r.query ≡ true
  pub low : height r.query ≤ 64
  pub series : r.series ≡ bound_series r.query labels
  pub patterns : r.patterns ≡ patterns_of r.query

-- what legs need of their query alone: it is evaluated and not too high, and has its patterns
pub record AreEvaluable (r : ResolvedData) : Type 0 where
  pub evaluated : is_evaluated r.query ≡ true
  pub low : height r.query ≤ 64
  pub patterns : r.patterns ≡ patterns_of r.query

-- those ids whose label sets are in a shard
abbrev pub ids_in_shard : ℕ → ℕ → List Pairs → List ℕ → List ℕ
ids_in_shard shard shards labels ids = filter (λ id. nat_eq (shard_of (slice_index_or labels id []) shards) shard) ids

-- the ids of a shard's series among those that matchers accept, in label order
abbrev pub shard_ids : ℕ → ℕ → List Matcher → List Pairs → List ℕ
shard_ids shard shards ms labels = ids_in_shard shard shards labels (accepted_ids ms labels)

-- the matchers of a node's first selector, the only one of a node that is evaluated shard by shard
abbrev pub first_selector : List (List Matcher) → List Matcher
first_selector [] = []
first_selector (ms ∷ rest) = ms

abbrev pub node_matchers : Option Tree → List Matcher
node_matchers None = []
node_matchers (Some node) = first_selector (selectors_of node)

-- for each node and each shard the series that the leg reads
abbrev pub leg_series : LegsData → List Pairs → List (List ℕ)
leg_series legs labels =
    joined (λ n. below (λ shard. shard_ids shard legs.shards (node_matchers (numbered legs.query (Some n))) labels) legs.shards) legs.nodes

-- legs over a snapshot whose label sets by id are these
pub record AreBoundOver (legs : ResolvedLegs) (labels : List Pairs) : Type 0 where
  pub resolved : IsBoundOver legs.resolved labels
  pub series : legs.series ≡ leg_series (legs_data legs) labels
