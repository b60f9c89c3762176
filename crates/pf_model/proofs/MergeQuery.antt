-- A query whose selectors all stand in sharded aggregations has its value from the merged parts of these, errors included.
use Rattle.std.proofs.Common.{◌≡◌, ℕ, zero, suc, ◌+◌, ◌<◌, ℤ, Bool, true, false, cond, ◌&&◌, ◌||◌, List, [], ◌∷◌, ◌++◌, length, Option, Some, refl, sym, ap, ◌∙◌, arith}
use Rattle.pf_base.specs.declared.plain.Row.{Row}
use Rattle.pf_model.specs.declared.cell.StepCell.{StepCell}
use Rattle.pf_model.specs.declared.cell.StepCell.TheVariants.{Good}
use Rattle.pf_model.specs.declared.expr.Function.{Function}
use Rattle.pf_model.specs.declared.expr.Function.TheVariants as function
use Rattle.pf_model.specs.declared.functions.AggOp.{AggOp}
use Rattle.pf_model.specs.declared.functions.InstantFn.TheVariants as instant
use Rattle.pf_model.specs.Clauses.{Grouped}
use Rattle.pf_model.specs.Evaluation.{called, eval, outcome, outcomes}
use Rattle.pf_model.specs.Lists.{at}
use Rattle.pf_model.specs.Merging.{merged_cell}
use Rattle.pf_model.specs.Outcomes.{Outcome, scalar, elements, ranges, text, bad, aggregation, first_bad, of_cell, operation, signed, step_cell}
use Rattle.pf_model.specs.Sharding.{are_covered, is_covered, is_mergeable, is_one_plain, is_sharded}
use Rattle.pf_model.specs.Trees as tree
use Rattle.pf_model.specs.Trees.{Tree, Trees, preorder, all_preorder, size, sizes}
use Rattle.pf_model.proofs.LegParts.{shard_parts}
use Rattle.pf_model.proofs.PreorderSizes.{preorder_size}
use Rattle.pf_model.proofs.MergeLaw.{and_left, and_right, merges}

-- ---- the value of a query from merged parts

-- the merged cell of a sharded aggregation of a query
abbrev pub cell_at : Option Tree → List Row → ℕ → ℤ → StepCell
cell_at (Some (tree.aggregate op g (tree.more arg args))) samples shards t = merged_cell op (shard_parts op g arg samples shards t)
cell_at _ samples shards t = Good []

-- what a node is from the merged cells of the sharded aggregations, by their numbers in preorder; the node's own is n
abbrev mutual
  pub merged_outcome : (ℕ → StepCell) → ℕ → Tree → ℤ → Outcome
  merged_outcome cells n (tree.number v) t = scalar (Some v)
  merged_outcome cells n (tree.text bytes) t = text bytes
  merged_outcome cells n (tree.unary minus arg) t = signed minus (merged_outcome cells (n + 1) arg t)
  merged_outcome cells n (tree.binary op m left right) t =
      operation op m (merged_outcome cells (n + 1) left t) (merged_outcome cells (n + 1 + size left) right t)
  merged_outcome cells n (tree.call f args) t = called [] f args (merged_outcomes cells (n + 1) args t) t
  merged_outcome cells n (tree.aggregate op g args) t =
      cond (is_sharded (tree.aggregate op g args)) (of_cell (cells n)) (aggregation op g (merged_outcomes cells (n + 1) args t))
  merged_outcome cells n (tree.select ms range mods) t = elements []
  merged_outcome cells n (tree.subquery arg range resolution mods) t = elements []

  pub merged_outcomes : (ℕ → StepCell) → ℕ → Trees → ℤ → List Outcome
  merged_outcomes cells n tree.none t = []
  merged_outcomes cells n (tree.more arg args) t = merged_outcome cells n arg t ∷ merged_outcomes cells (n + size arg) args t

-- the value of a query whose selectors all stand in sharded aggregations, from the merged parts of these
abbrev pub merged_value : Tree → List Row → ℕ → ℤ → StepCell
merged_value query samples shards t =
    step_cell (merged_outcome (λ n. cell_at (at (preorder query) n) samples shards t) 0 query t)

-- it is the value over all samples
abbrev pub MergesQueries : Type 0
MergesQueries =
    (query : Tree) (samples : List Row) (shards : ℕ) (t : ℤ) → 0 < shards → is_covered query ≡ true
    → merged_value query samples shards t ≡ eval samples query t

-- ---- the places of nodes

-- the first and the further ones of a list
at_first : (xs ys : List Tree) (k : ℕ) → k < length xs → at (xs ++ ys) k ≡ at xs k
at_first [] ys k h = absurd (omega (arith, h))
at_first (x ∷ xs) ys zero h = refl
at_first (x ∷ xs) ys (suc k) h = at_first xs ys k (omega (arith, h))

at_further : (xs ys : List Tree) (m k : ℕ) → length xs ≡ m → at (xs ++ ys) (m + k) ≡ at ys k
at_further [] ys m k h =
    let place : m + k ≡ k = omega (arith, h) in
    ap (at ys) place
at_further (x ∷ xs) ys zero k h = absurd (omega (arith, h))
at_further (x ∷ xs) ys (suc m) k h =
    let place : suc m + k ≡ suc (m + k) = omega arith in
    ap (at (x ∷ (xs ++ ys))) place ∙ at_further xs ys m k (omega (arith, h))

module _ (all : List Tree) where
  -- a list of trees stands in the whole list, from a place on
  abbrev IsAt : ℕ → List Tree → ℕ → Type 0
  IsAt n xs m = (k : ℕ) → k < m → at all (n + k) ≡ at xs k

  behind : (n m : ℕ) (x : Tree) (rest : List Tree) → IsAt n (x ∷ rest) (1 + m) → IsAt (n + 1) rest m
  behind n m x rest h k l =
      let place : n + 1 + k ≡ n + suc k = omega arith in
      ap (at all) place ∙ h (suc k) (omega (arith, l))

  first_part : (n m l : ℕ) (xs ys : List Tree) → length xs ≡ m → IsAt n (xs ++ ys) (m + l) → IsAt n xs m
  first_part n m l xs ys e h k i = h k (omega (arith, i)) ∙ at_first xs ys k (omega (arith, i, e))

  further_part : (n m l : ℕ) (xs ys : List Tree) → length xs ≡ m → IsAt n (xs ++ ys) (m + l) → IsAt (n + m) ys l
  further_part n m l xs ys e h k i =
      let place : n + m + k ≡ n + (m + k) = omega arith in
      ap (at all) place ∙ h (m + k) (omega (arith, i)) ∙ at_further xs ys m k e

-- ---- calls

-- a call reads samples of its own only where its argument is a selector
same_called : (samples : List Row) (f : Function) (args : Trees) (os : List Outcome) (t : ℤ) → are_covered args ≡ true
    → called [] f args os t ≡ called samples f args os t
same_called samples (function.Range f) args os t h = refl
same_called samples (function.Instant instant.Timestamp) tree.none os t h = refl
same_called samples (function.Instant instant.Timestamp) (tree.more (tree.number v) qs) os t h = refl
same_called samples (function.Instant instant.Timestamp) (tree.more (tree.text bytes) qs) os t h = refl
same_called samples (function.Instant instant.Timestamp) (tree.more (tree.unary minus q) qs) os t h = refl
same_called samples (function.Instant instant.Timestamp) (tree.more (tree.binary op m l r) qs) os t h = refl
same_called samples (function.Instant instant.Timestamp) (tree.more (tree.call f args) qs) os t h = refl
same_called samples (function.Instant instant.Timestamp) (tree.more (tree.aggregate op g args) qs) os t h = refl
same_called samples (function.Instant instant.Timestamp) (tree.more (tree.select ms range mods) qs) os t h = cc
same_called samples (function.Instant instant.Timestamp) (tree.more (tree.subquery q range resolution mods) qs) os t h = refl
same_called samples (function.Instant instant.Abs) args os t h = refl
same_called samples (function.Instant instant.Ceil) args os t h = refl
same_called samples (function.Instant instant.Floor) args os t h = refl
same_called samples (function.Instant instant.Sgn) args os t h = refl
same_called samples (function.Instant instant.Round) args os t h = refl
same_called samples (function.Instant instant.Clamp) args os t h = refl
same_called samples (function.Instant instant.ClampMin) args os t h = refl
same_called samples (function.Instant instant.ClampMax) args os t h = refl
same_called samples (function.Instant instant.Absent) args os t h = refl
same_called samples (function.Instant instant.Scalar) args os t h = refl
same_called samples (function.Instant instant.Vector) args os t h = refl
same_called samples (function.Instant instant.Time) args os t h = refl
same_called samples (function.Instant instant.LabelReplace) args os t h = refl
same_called samples (function.Instant instant.LabelJoin) args os t h = refl

-- ---- aggregations

-- a cell and back
pub first_again : (os : List Outcome) (o : Outcome) → of_cell (step_cell o) ≡ o → of_cell (step_cell (first_bad os o)) ≡ first_bad os o
first_again [] o h = h
first_again (scalar v ∷ os) o h = first_again os o h
first_again (elements es ∷ os) o h = first_again os o h
first_again (ranges from to ss ∷ os) o h = first_again os o h
first_again (text bytes ∷ os) o h = first_again os o h
first_again (bad kind ∷ os) o h = refl

module _ (samples : List Row) (shards : ℕ) (positive : 0 < shards) (t : ℤ) (query : Tree) where
  abbrev cells : ℕ → StepCell
  cells n = cell_at (at (preorder query) n) samples shards t

  sharded : (n : ℕ) (op : AggOp) (g : Grouped) (args : Trees) → at (preorder query) n ≡ Some (tree.aggregate op g args)
      → is_mergeable op ≡ true → is_one_plain args ≡ true → of_cell (cells n) ≡ outcome samples (tree.aggregate op g args) t
  sharded n op g (tree.more arg tree.none) e m p =
      ap (λ o. of_cell (cell_at o samples shards t)) e
      ∙ ap of_cell (merges op g arg samples t shards m positive p)
      ∙ first_again (outcomes samples (tree.more arg tree.none) t) _ refl
  sharded n op g (tree.more arg (tree.more x xs)) e m p = cc
  sharded n op g tree.none e m p = cc

  aggregate_by : (n : ℕ) (op : AggOp) (g : Grouped) (args : Trees) (b : Bool) → (is_mergeable op && is_one_plain args) ≡ b
      → at (preorder query) n ≡ Some (tree.aggregate op g args) → ((is_mergeable op && is_one_plain args) || are_covered args) ≡ true
      → (are_covered args ≡ true → merged_outcomes cells (n + 1) args t ≡ outcomes samples args t)
      → cond b (of_cell (cells n)) (aggregation op g (merged_outcomes cells (n + 1) args t)) ≡ outcome samples (tree.aggregate op g args) t
  aggregate_by n op g args true is e h go =
      sharded n op g args e (and_left (is_mergeable op) (is_one_plain args) is) (and_right (is_mergeable op) (is_one_plain args) is)
  aggregate_by n op g args false is e h go =
      ap (aggregation op g) (go (sym (ap (λ b. b || are_covered args) is) ∙ h))

  mutual
    merged_is : (n : ℕ) (q : Tree) → IsAt (preorder query) n (preorder q) (size q) → is_covered q ≡ true
        → merged_outcome cells n q t ≡ outcome samples q t
    merged_is n (tree.number v) s h = refl
    merged_is n (tree.text bytes) s h = refl
    merged_is n (tree.unary minus q) s h =
        ap (signed minus) (merged_is (n + 1) q (behind (preorder query) n (size q) (tree.unary minus q) (preorder q) s) h)
    merged_is n (tree.binary op m l r) s h =
        let under = behind (preorder query) n (size l + size r) (tree.binary op m l r) (preorder l ++ preorder r) s in
        ap (λ o. operation op m o (merged_outcome cells (n + 1 + size l) r t))
        (merged_is (n + 1) l (first_part (preorder query) (n + 1) (size l) (size r) (preorder l) (preorder r) (preorder_size l) under) (and_left (is_covered l) (is_covered r) h))
        ∙ ap (operation op m (outcome samples l t))
        (merged_is (n + 1 + size l) r (further_part (preorder query) (n + 1) (size l) (size r) (preorder l) (preorder r) (preorder_size l) under) (and_right (is_covered l) (is_covered r) h))
    merged_is n (tree.call f args) s h =
        ap (λ os. called [] f args os t) (all_merged (n + 1) args (behind (preorder query) n (sizes args) (tree.call f args) (all_preorder args) s) h)
        ∙ same_called samples f args (outcomes samples args t) t h
    merged_is n (tree.aggregate op g args) s h =
        let place : n ≡ n + 0 = omega arith in
        aggregate_by n op g args (is_mergeable op && is_one_plain args) refl
        (ap (at (preorder query)) place ∙ s 0 (omega arith)) h
        (λ c. all_merged (n + 1) args (behind (preorder query) n (sizes args) (tree.aggregate op g args) (all_preorder args) s) c)
    merged_is n (tree.select ms range mods) s h = cc
    merged_is n (tree.subquery q range resolution mods) s h = cc

    all_merged : (n : ℕ) (qs : Trees) → IsAt (preorder query) n (all_preorder qs) (sizes qs) → are_covered qs ≡ true
        → merged_outcomes cells n qs t ≡ outcomes samples qs t
    all_merged n tree.none s h = refl
    all_merged n (tree.more q qs) s h =
        ap (λ o. o ∷ merged_outcomes cells (n + size q) qs t)
        (merged_is n q (first_part (preorder query) n (size q) (sizes qs) (preorder q) (all_preorder qs) (preorder_size q) s) (and_left (is_covered q) (are_covered qs) h))
        ∙ ap (λ os. outcome samples q t ∷ os)
        (all_merged (n + size q) qs (further_part (preorder query) n (size q) (sizes qs) (preorder q) (all_preorder qs) (preorder_size q) s) (and_right (is_covered q) (are_covered qs) h))

pub queries_merge : MergesQueries
queries_merge query samples shards t positive h =
    ap step_cell (merged_is samples shards positive t query 0 query (λ k l. ap (at (preorder query)) (from_start k)) h) where
      from_start : (k : ℕ) → 0 + k ≡ k
      from_start k = omega arith
