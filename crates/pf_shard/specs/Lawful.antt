-- The legs of a query over a snapshot, and which are lawful: this project's own.
use Rattle.std.specs.Prelude.{◌≡◌, ◌⊎◌, ℕ, ◌*◌, ◌≤◌, true, List, [], ◌∷◌, length, refl}
use Rattle.std.specs.Coded.{Coded, code_by, coded×, coded_ℕ}
use base.Stored.{coded_list}
use Rattle.pf_model.specs.Legs.{LegsData}
use Rattle.pf_model.specs.Sharding.{is_shardable, sharded_nodes}
use Rattle.pf_model.proofs.TreeCode.{coded_tree}
use Rattle.pf_model.specs.Trees.{Tree}

-- a query, the series of each of its selectors, and the texts of its patterns
pub record ResolvedData : Type 0 where
  pub query : Tree
  pub series : List (List ℕ)
  pub patterns : List (List ℕ)

abbrev pub lists_code : Coded (List (List ℕ))
lists_code = coded_list (coded_list coded_ℕ)

abbrev pub resolved_code : Coded ResolvedData
resolved_code =
    code_by (Tree × (List (List ℕ) × List (List ℕ))) (coded× coded_tree (coded× lists_code lists_code))
    (λ r. (r.query, (r.series, r.patterns))) (λ p. record { query = p.0; series = p.1.0; patterns = p.1.1 }) (λ _. refl)

-- legs with their query, and for each leg of a node the series that it reads
pub record ResolvedLegs : Type 0 where
  pub resolved : ResolvedData
  pub nodes : List ℕ
  pub shards : ℕ
  pub series : List (List ℕ)

abbrev pub legs_code : Coded ResolvedLegs
legs_code =
    code_by (ResolvedData × (List ℕ × (ℕ × List (List ℕ))))
    (coded× resolved_code (coded× (coded_list coded_ℕ) (coded× coded_ℕ lists_code)))
    (λ l. (l.resolved, (l.nodes, (l.shards, l.series)))) (λ p. record { resolved = p.0; nodes = p.1.0; shards = p.1.1.0; series = p.1.1.1 }) (λ _. refl)

abbrev pub legs_data : ResolvedLegs → LegsData
legs_data l = record { query = l.resolved.query; nodes = l.nodes; shards = l.shards }

-- the query is evaluated at each of its nodes that can be, over some shards
pub record AreSharded (legs : LegsData) : Type 0 where
  pub shardable : is_shardable legs.query ≡ true
  pub nodes : legs.nodes ≡ sharded_nodes legs.query
  pub several : 2 ≤ legs.shards
  pub most : legs.shards ≤ 64
  pub few : length legs.nodes * legs.shards ≤ 256

abbrev pub IsLawful : LegsData → Type 0
IsLawful legs = (legs.nodes ≡ []) ⊎ AreSharded legs

-- one leg where there is no node, else one for each node and shard
abbrev pub leg_count : LegsData → ℕ
leg_count legs = by legs.nodes where
  by : List ℕ → ℕ
  by [] = 1
  by (n ∷ ns) = length (n ∷ ns) * legs.shards
