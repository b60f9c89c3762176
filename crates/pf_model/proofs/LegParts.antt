-- The legs of one node are that node over each shard, in order.
use Rattle.std.proofs.Common.{◌≡◌, ℕ, zero, suc, ◌+◌, ◌*◌, ◌%◌, ◌<◌, ℤ, List, ◌∷◌, ◌++◌, [], Some, refl, ap, ◌∙◌, arith}
use Rattle.std.proofs.lemmas.Nat.{div-mul-add, mod-mul-add}
use Rattle.pf_base.specs.declared.plain.Row.{Row}
use Rattle.pf_model.specs.declared.functions.AggOp.{AggOp}
use Rattle.pf_model.specs.Clauses.{Grouped}
use Rattle.pf_model.specs.Legs.{LegsData, PartData, leg_part, node_part, numbered, of_shard}
use Rattle.pf_model.specs.Lists.{at}
use Rattle.pf_model.specs.Merging.{below}
use Rattle.pf_model.specs.Trees as tree
use Rattle.pf_model.specs.Trees.{Tree, Trees, preorder}

-- the parts of all shards of an aggregation, at a time
abbrev pub shard_parts : AggOp → Grouped → Tree → List Row → ℕ → ℤ → List PartData
shard_parts op g arg samples n t =
    below (λ i. node_part (Some (tree.aggregate op g (tree.more arg tree.none))) (of_shard i n samples) t) n

-- the parts of the legs of one node, which stand together
abbrev pub leg_parts : List Row → LegsData → ℕ → ℤ → List PartData
leg_parts samples legs place t = below (λ i. leg_part samples legs (place * legs.shards + i) t) legs.shards

below_within : {X : Type 0} (f g : ℕ → X) (n : ℕ) → ((i : ℕ) → i < n → f i ≡ g i) → below f n ≡ below g n
below_within f g zero h = refl
below_within f g (suc n) h =
    ap (λ zs. zs ++ (f n ∷ [])) (below_within f g n (λ i l. h i (omega (arith, l)))) ∙ ap (λ x. below g n ++ (x ∷ [])) (h n (omega arith))

-- where there are nodes, the legs at a place are those of the node that stands there
pub leg_parts_are : (query : Tree) (first : ℕ) (more : List ℕ) (shards : ℕ) (samples : List Row) (t : ℤ) (place number : ℕ) (op : AggOp) (g : Grouped) (arg : Tree) (args : Trees)
    → at (first ∷ more) place ≡ Some number → at (preorder query) number ≡ Some (tree.aggregate op g (tree.more arg args))
    → leg_parts samples (record { query = query; nodes = first ∷ more; shards = shards }) place t ≡ shard_parts op g arg samples shards t
leg_parts_are query first more shards samples t place number op g arg args e k =
    below_within (λ i. leg_part samples (record { query = query; nodes = first ∷ more; shards = shards }) (place * shards + i) t)
    (λ i. node_part (Some (tree.aggregate op g (tree.more arg tree.none))) (of_shard i shards samples) t) shards
    (λ i l. ap (λ d. node_part (numbered query (at (first ∷ more) d)) (of_shard ((place * shards + i) % shards) shards samples) t) (div-mul-add place shards i l)
    ∙ ap (λ o. node_part (numbered query o) (of_shard ((place * shards + i) % shards) shards samples) t) e
    ∙ ap (λ o. node_part o (of_shard ((place * shards + i) % shards) shards samples) t) k
    ∙ ap (λ r. node_part (Some (tree.aggregate op g (tree.more arg tree.none))) (of_shard r shards samples) t) (mod-mul-add place shards i l))
