-- The legs of a rewritten query are lawful.
use Rattle.std.proofs.Common.{◌≡◌, inl, inr, ℕ, ◌*◌, ◌≤◌, Bool, true, false, cond, ◌&&◌, List, [], length, refl, nat_lt, nat_le, arith}
use Rattle.std.proofs.lemmas.Bool.Decides.{nat_tests}
use Rattle.std.specs.Cmp.{first_so, second_so}
use Rattle.pf_model.specs.Sharding.{is_shardable, legs_over, sharded_nodes}
use Rattle.pf_model.specs.Trees.{Tree}
use Rattle.pf_shard.specs.Lawful.{IsLawful}

module _ (q : Tree) (n : ℕ) (most : n ≤ 64) where
  abbrev all : List ℕ
  all = sharded_nodes q

  abbrev few : Bool
  few = nat_le (length all * n) 256

  by : (b : Bool) → (is_shardable q && nat_lt 1 n && few) ≡ b → IsLawful (record { query = q; nodes = cond b all []; shards = n })
  by false e = inl refl
  by true e =
      let front = first_so (is_shardable q && nat_lt 1 n) few e in
      let last = second_so (is_shardable q && nat_lt 1 n) few e in
      let more = second_so (is_shardable q) (nat_lt 1 n) front in
      inr (record {
        shardable = first_so (is_shardable q) (nat_lt 1 n) front;
        nodes = refl;
        several = grind (arith, nat_tests, more);
        most = most;
        few = grind (arith, nat_tests, last);
      })

  pub rewritten_lawful : IsLawful (record { query = q; nodes = legs_over q n; shards = n })
  rewritten_lawful = by (is_shardable q && nat_lt 1 n && few) refl
