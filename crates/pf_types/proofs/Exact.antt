-- In a tree of at most 2^32 nodes no number is past those of u32.
use Rattle.std.proofs.Common.{◌≡◌, ◌∙◌, sym, ap, refl, ℕ, ◌+◌, ◌<◌, ◌≤◌, arith, List, [], ◌∷◌, ◌++◌, Option, None, Some}
use Rattle.std.specs.Option.{option_map}
use Rattle.pf_model.specs.declared.expr.Kind.{Kind}
use Rattle.pf_model.specs.Trees.{Tree, Trees, number, text, unary, binary, call, aggregate, select, subquery, none, more, Node, nodes, all_nodes, size, sizes}
use Rattle.pf_model.specs.Typing.{TypeFault, fault_at, first_fault, unless}
use Rattle.pf_types.specs.Faults.{capped_fault, capped_result, fault_from}
use Rattle.pf_types.proofs.Faults.{or_none, both, first_append, fault_among, below, all_below, among_append, among_one, node}
use Rattle.pf_types.proofs.NodeFaults.{kept}

pub exact_one : (n : ℕ) (t : Tree) → n < 4294967296 → fault_among (node n t ∷ []) ≡ first_fault (node n t ∷ [])
exact_one n t h = among_one n t ∙ ap (λ k. fault_at k t) (kept n h) ∙ sym (or_none (fault_at n t))

pub exact_append : (xs ys : List Node) → fault_among xs ≡ first_fault xs → fault_among ys ≡ first_fault ys
    → fault_among (xs ++ ys) ≡ first_fault (xs ++ ys)
exact_append xs ys p q = among_append xs ys ∙ both p q ∙ sym (first_append xs ys)

pub exact_last : (xs : List Node) (n : ℕ) (t : Tree) → fault_among xs ≡ first_fault xs → n < 4294967296
    → fault_among (xs ++ (node n t ∷ [])) ≡ first_fault (xs ++ (node n t ∷ []))
exact_last xs n t p h = exact_append xs (node n t ∷ []) p (exact_one n t h)

mutual
  pub exact_below : (n : ℕ) (t : Tree) → n + size t ≤ 4294967296 → below n t ≡ first_fault (nodes n t)
  exact_below n (number v) h = exact_one n (number v) (omega (arith, h))
  exact_below n (text s) h = exact_one n (text s) (omega (arith, h))
  exact_below n (unary minus e) h =
      exact_last (nodes (n + 1) e) n (unary minus e) (exact_below (n + 1) e (omega (arith, h))) (omega (arith, h))
  exact_below n (binary op m a b) h =
      exact_append (nodes (n + 1) a) _ (exact_below (n + 1) a (omega (arith, h)))
      (exact_last (nodes (n + 1 + size a) b) n (binary op m a b) (exact_below (n + 1 + size a) b (omega (arith, h))) (omega (arith, h)))
  exact_below n (call f args) h =
      exact_last (all_nodes (n + 1) args) n (call f args) (all_exact (n + 1) args (omega (arith, h))) (omega (arith, h))
  exact_below n (aggregate op g args) h =
      exact_last (all_nodes (n + 1) args) n (aggregate op g args) (all_exact (n + 1) args (omega (arith, h))) (omega (arith, h))
  exact_below n (select ms range mods) h = exact_one n (select ms range mods) (omega (arith, h))
  exact_below n (subquery e range resolution mods) h =
      exact_last (nodes (n + 1) e) n (subquery e range resolution mods) (exact_below (n + 1) e (omega (arith, h))) (omega (arith, h))

  pub all_exact : (n : ℕ) (ts : Trees) → n + sizes ts ≤ 4294967296 → all_below n ts ≡ first_fault (all_nodes n ts)
  all_exact n none h = refl
  all_exact n (more t ts) h =
      exact_append (nodes n t) (all_nodes (n + size t) ts) (exact_below n t (omega (arith, h))) (all_exact (n + size t) ts (omega (arith, h)))

pub capped_unless : (x : Option TypeFault) (k : Kind) → unless (option_map capped_fault x) k ≡ capped_result (unless x k)
capped_unless None k = refl
capped_unless (Some f) k = refl

pub exact_from : (n : ℕ) (t : Tree) → n + size t ≤ 4294967296 → fault_from n t ≡ first_fault (nodes n t)
unfolding fault_from
exact_from n t h = exact_below n t h
