-- The nodes of a query that are evaluated shard by shard: each is evaluated, and has one selector; these are all the query's.
use Rattle.std.proofs.Common.{◌≡◌, ◌≤◌, ◌+◌, ℕ, zero, suc, Bool, true, false, cond, ◌&&◌, ◌||◌, not, Some, None, List, [], ◌∷◌, ◌++◌, map, refl, sym, ap, ◌∙◌, append-nil, arith}
use Rattle.pf_model.specs.declared.expr.BinaryOp.{BinaryOp}
use Rattle.pf_model.specs.declared.expr.Function.TheVariants as called
use Rattle.pf_model.specs.declared.expr.Matcher.{Matcher}
use Rattle.pf_model.specs.declared.functions.AggOp.{AggOp}
use Rattle.pf_model.specs.declared.functions.RangeFn.{RangeFn}
use Rattle.pf_model.specs.Binding.{matchers_in, selectors_of}
use Rattle.pf_model.specs.Built.{are_arguments, is_evaluated, is_lawful_call, is_range, is_range_argument, is_string}
use Rattle.pf_model.specs.Clauses.{Grouped}
use Rattle.pf_model.specs.Lists.{Each, at}
use Rattle.pf_model.specs.Sharding.{are_covered, are_literals, is_covered, is_elementwise, is_literal, is_mergeable, is_one_plain, is_over_series, is_plain, is_range_selector, is_sharded, sharded_from, sharded_nodes}
use Rattle.pf_model.specs.Trees as tree
use Rattle.pf_model.specs.Trees.{Tree, Trees, all_preorder, height, heights, preorder}
use Rattle.pf_model.specs.Words.{is_set_operator}
use Rattle.pf_shard.specs.Bound.{first_selector, node_matchers}
use Rattle.pf_eval.specs.Plain.{first_matchers, plain_matchers}
use Rattle.pf_eval.proofs.BoundLists.{matchers_append, two_true}
use Rattle.pf_eval.proofs.GivenParts.{evaluated_arguments}

-- ---- the operands of a plain operator

-- the left one is a literal and the right one plain, or the other way round
abbrev pub AreOperands : Bool → Tree → Tree → Type 0
AreOperands true a b = is_plain b ≡ true
AreOperands false a b = (is_plain a ≡ true) × (is_literal b ≡ true)

abbrev Choice : Bool → Bool → Bool → Bool → Type 0
Choice true p q v = v ≡ true
Choice false p q v = (p ≡ true) × (q ≡ true)

choose : (p q b v : Bool) → (b ≡ true → p ≡ false) → ((p && q) || (b && v)) ≡ true → Choice b p q v
choose true q true v n h = let no : true ≡ false = n refl in cc
choose false q true v n h = h
choose true true false v n h = (refl, refl)
choose true false false v n h = cc
choose false q false v n h = cc

literal_not_plain : (t : Tree) → is_literal t ≡ true → is_plain t ≡ false
literal_not_plain (tree.number v) h = refl
literal_not_plain (tree.unary minus (tree.number v)) h = refl
literal_not_plain t h = cc

operands_by : (a b : Tree) (l : Bool) → is_literal a ≡ l → ((is_plain a && is_literal b) || (l && is_plain b)) ≡ true → AreOperands l a b
operands_by a b true e h = choose (is_plain a) (is_literal b) true (is_plain b) (λ k. literal_not_plain a e) h
operands_by a b false e h = choose (is_plain a) (is_literal b) false (is_plain b) (λ k. literal_not_plain a (e ∙ k)) h

pub plain_operands : (op : BinaryOp) (a b : Tree)
    → (not (is_set_operator op.sign) && ((is_plain a && is_literal b) || (is_literal a && is_plain b))) ≡ true → AreOperands (is_literal a) a b
plain_operands op a b h =
    operands_by a b (is_literal a) refl
    (two_true (not (is_set_operator op.sign)) ((is_plain a && is_literal b) || (is_literal a && is_plain b)) h).1

-- ---- the one selector of a plain expression

literal_selects : (t : Tree) → is_literal t ≡ true → matchers_in (preorder t) ≡ []
literal_selects (tree.number v) h = refl
literal_selects (tree.unary minus (tree.number v)) h = refl
literal_selects t h = cc

literals_select : (ts : Trees) → are_literals ts ≡ true → matchers_in (all_preorder ts) ≡ []
literals_select tree.none h = refl
literals_select (tree.more a ts) h =
    let w = two_true (is_literal a) (are_literals ts) h in
    matchers_append (preorder a) (all_preorder ts) ∙ λ i. literal_selects a w.0 i ++ literals_select ts w.1 i

range_selects : (f : RangeFn) (args : Trees) → is_range_selector args ≡ true → matchers_in (all_preorder args) ≡ first_matchers args ∷ []
range_selects f (tree.more (tree.select ms (Some range) mods) tree.none) h = refl
range_selects f args h = cc

operand_selects : (a b : Tree) (l : Bool) → is_literal a ≡ l → AreOperands l a b
    → (is_plain a ≡ true → selectors_of a ≡ plain_matchers a ∷ []) → (is_plain b ≡ true → selectors_of b ≡ plain_matchers b ∷ [])
    → matchers_in (preorder a ++ preorder b) ≡ cond l (plain_matchers b) (plain_matchers a) ∷ []
operand_selects a b true e h f g = matchers_append (preorder a) (preorder b) ∙ λ i. literal_selects a e i ++ g h i
operand_selects a b false e h f g = matchers_append (preorder a) (preorder b) ∙ λ i. f h.0 i ++ literal_selects b h.1 i

pub one_selector : (t : Tree) → is_plain t ≡ true → selectors_of t ≡ plain_matchers t ∷ []
one_selector (tree.number v) h = cc
one_selector (tree.text bytes) h = cc
one_selector (tree.unary minus arg) h = one_selector arg h
one_selector (tree.binary op m a b) h = operand_selects a b (is_literal a) refl (plain_operands op a b h) (one_selector a) (one_selector b)
one_selector (tree.call (called.Range f) args) h = range_selects f args (two_true (is_over_series f) (is_range_selector args) h).1
one_selector (tree.call (called.Instant f) tree.none) h = cc
one_selector (tree.call (called.Instant f) (tree.more a rest)) h =
    let w = two_true (is_elementwise f && is_plain a) (are_literals rest) h in
    matchers_append (preorder a) (all_preorder rest)
    ∙ λ i. one_selector a (two_true (is_elementwise f) (is_plain a) w.0).1 i ++ literals_select rest w.1 i
one_selector (tree.aggregate op g args) h = cc
one_selector (tree.select ms range mods) h = refl
one_selector (tree.subquery arg range resolution mods) h = cc

-- ---- the selectors of the nodes that are evaluated shard by shard

abbrev with_node : Tree → List (List Matcher) → List (List Matcher)
with_node t rest = cond (is_sharded t) (node_matchers (Some t) ∷ rest) rest

abbrev sharded_in : List Tree → List (List Matcher)
sharded_in [] = []
sharded_in (t ∷ ts) = with_node t (sharded_in ts)

append_by : (b : Bool) (x : List Matcher) (xs ys zs : List (List Matcher)) → zs ≡ xs ++ ys → cond b (x ∷ zs) zs ≡ cond b (x ∷ xs) xs ++ ys
append_by true x xs ys zs e = ap (λ ms. x ∷ ms) e
append_by false x xs ys zs e = e

sharded_append : (xs ys : List Tree) → sharded_in (xs ++ ys) ≡ sharded_in xs ++ sharded_in ys
sharded_append [] ys = refl
sharded_append (x ∷ xs) ys = append_by (is_sharded x) (node_matchers (Some x)) (sharded_in xs) (sharded_in ys) (sharded_in (xs ++ ys)) (sharded_append xs ys)

literal_unsharded : (t : Tree) → is_literal t ≡ true → sharded_in (preorder t) ≡ []
literal_unsharded (tree.number v) h = refl
literal_unsharded (tree.unary minus (tree.number v)) h = refl
literal_unsharded t h = cc

literals_unsharded : (ts : Trees) → are_literals ts ≡ true → sharded_in (all_preorder ts) ≡ []
literals_unsharded tree.none h = refl
literals_unsharded (tree.more a ts) h =
    let w = two_true (is_literal a) (are_literals ts) h in
    sharded_append (preorder a) (all_preorder ts) ∙ λ i. literal_unsharded a w.0 i ++ literals_unsharded ts w.1 i

range_unsharded : (args : Trees) → is_range_selector args ≡ true → sharded_in (all_preorder args) ≡ []
range_unsharded (tree.more (tree.select ms (Some range) mods) tree.none) h = refl
range_unsharded args h = cc

operand_unsharded : (a b : Tree) (l : Bool) → is_literal a ≡ l → AreOperands l a b
    → (is_plain a ≡ true → sharded_in (preorder a) ≡ []) → (is_plain b ≡ true → sharded_in (preorder b) ≡ []) → sharded_in (preorder a ++ preorder b) ≡ []
operand_unsharded a b true e h f g = sharded_append (preorder a) (preorder b) ∙ λ i. literal_unsharded a e i ++ g h i
operand_unsharded a b false e h f g = sharded_append (preorder a) (preorder b) ∙ λ i. f h.0 i ++ literal_unsharded b h.1 i

plain_unsharded : (t : Tree) → is_plain t ≡ true → sharded_in (preorder t) ≡ []
plain_unsharded (tree.number v) h = cc
plain_unsharded (tree.text bytes) h = cc
plain_unsharded (tree.unary minus arg) h = plain_unsharded arg h
plain_unsharded (tree.binary op m a b) h = operand_unsharded a b (is_literal a) refl (plain_operands op a b h) (plain_unsharded a) (plain_unsharded b)
plain_unsharded (tree.call (called.Range f) args) h = range_unsharded args (two_true (is_over_series f) (is_range_selector args) h).1
plain_unsharded (tree.call (called.Instant f) tree.none) h = cc
plain_unsharded (tree.call (called.Instant f) (tree.more a rest)) h =
    let w = two_true (is_elementwise f && is_plain a) (are_literals rest) h in
    sharded_append (preorder a) (all_preorder rest)
    ∙ λ i. plain_unsharded a (two_true (is_elementwise f) (is_plain a) w.0).1 i ++ literals_unsharded rest w.1 i
plain_unsharded (tree.aggregate op g args) h = cc
plain_unsharded (tree.select ms range mods) h = refl
plain_unsharded (tree.subquery arg range resolution mods) h = cc

-- a list of one is its first
first_alone : (xs : List (List Matcher)) (ms : List Matcher) → xs ≡ ms ∷ [] → first_selector xs ∷ [] ≡ xs
first_alone xs ms e = ap (λ ys. first_selector ys ∷ []) e ∙ sym e

-- the selector of a node
pub argument_matchers : (op : AggOp) (g : Grouped) (arg : Tree) → is_plain arg ≡ true
    → node_matchers (Some (tree.aggregate op g (tree.more arg tree.none))) ≡ plain_matchers arg
argument_matchers op g arg h =
    ap first_selector (ap matchers_in (append-nil (preorder arg)) ∙ one_selector arg h)

one_covered : (op : AggOp) (g : Grouped) (args : Trees) → is_one_plain args ≡ true
    → node_matchers (Some (tree.aggregate op g args)) ∷ sharded_in (all_preorder args) ≡ matchers_in (all_preorder args)
one_covered op g tree.none h = cc
one_covered op g (tree.more a (tree.more b rest)) h = cc
one_covered op g (tree.more a tree.none) h =
    ap (λ zs. node_matchers (Some (tree.aggregate op g (tree.more a tree.none))) ∷ sharded_in zs) (append-nil (preorder a))
    ∙ ap (λ zs. node_matchers (Some (tree.aggregate op g (tree.more a tree.none))) ∷ zs) (plain_unsharded a h)
    ∙ first_alone (matchers_in (preorder a ++ [])) (plain_matchers a) (ap matchers_in (append-nil (preorder a)) ∙ one_selector a h)

aggregate_by : (op : AggOp) (g : Grouped) (args : Trees) (b : Bool) → (is_mergeable op && is_one_plain args) ≡ b → (b || are_covered args) ≡ true
    → (are_covered args ≡ true → sharded_in (all_preorder args) ≡ matchers_in (all_preorder args))
    → cond b (node_matchers (Some (tree.aggregate op g args)) ∷ sharded_in (all_preorder args)) (sharded_in (all_preorder args)) ≡ matchers_in (all_preorder args)
aggregate_by op g args true e h f = one_covered op g args (two_true (is_mergeable op) (is_one_plain args) e).1
aggregate_by op g args false e h f = f h

mutual
  covered_selectors : (t : Tree) → is_covered t ≡ true → sharded_in (preorder t) ≡ selectors_of t
  covered_selectors (tree.number v) h = refl
  covered_selectors (tree.text bytes) h = refl
  covered_selectors (tree.unary minus arg) h = covered_selectors arg h
  covered_selectors (tree.binary op m a b) h =
      let w = two_true (is_covered a) (is_covered b) h in
      sharded_append (preorder a) (preorder b) ∙ (λ i. covered_selectors a w.0 i ++ covered_selectors b w.1 i) ∙ sym (matchers_append (preorder a) (preorder b))
  covered_selectors (tree.call f args) h = all_covered args h
  covered_selectors (tree.aggregate op g args) h = aggregate_by op g args (is_mergeable op && is_one_plain args) refl h (all_covered args)
  covered_selectors (tree.select ms range mods) h = cc
  covered_selectors (tree.subquery arg range resolution mods) h = cc

  all_covered : (ts : Trees) → are_covered ts ≡ true → sharded_in (all_preorder ts) ≡ matchers_in (all_preorder ts)
  all_covered tree.none h = refl
  all_covered (tree.more a ts) h =
      let w = two_true (is_covered a) (are_covered ts) h in
      sharded_append (preorder a) (all_preorder ts) ∙ (λ i. covered_selectors a w.0 i ++ all_covered ts w.1 i) ∙ sym (matchers_append (preorder a) (all_preorder ts))

-- ---- nodes by their numbers

module _ (all : List Tree) where
  -- some trees stand in the whole list from a place on
  abbrev StandFrom : ℕ → List Tree → Type 0
  StandFrom n ts = (k : ℕ) → at all (n + k) ≡ at ts k

  head_at : (n : ℕ) (t : Tree) (ts : List Tree) → StandFrom n (t ∷ ts) → at all n ≡ Some t
  head_at n t ts h = let is : n ≡ n + 0 = omega arith in ap (at all) is ∙ h 0

  tail_at : (n : ℕ) (t : Tree) (ts : List Tree) → StandFrom n (t ∷ ts) → StandFrom (n + 1) ts
  tail_at n t ts h = λ k. let is : n + 1 + k ≡ n + suc k = omega arith in ap (at all) is ∙ h (suc k)

  numbers_by : (n : ℕ) (t : Tree) (ns : List ℕ) (rest : List (List Matcher)) (b : Bool) → at all n ≡ Some t
      → map (λ m. node_matchers (at all m)) ns ≡ rest
      → map (λ m. node_matchers (at all m)) (cond b (n ∷ ns) ns) ≡ cond b (node_matchers (Some t) ∷ rest) rest
  numbers_by n t ns rest true e h = λ i. node_matchers (e i) ∷ h i
  numbers_by n t ns rest false e h = h

  numbers_in : (n : ℕ) (ts : List Tree) → StandFrom n ts → map (λ m. node_matchers (at all m)) (sharded_from n ts) ≡ sharded_in ts
  numbers_in n [] h = refl
  numbers_in n (t ∷ ts) h =
      numbers_by n t (sharded_from (n + 1) ts) (sharded_in ts) (is_sharded t) (head_at n t ts h) (numbers_in (n + 1) ts (tail_at n t ts h))

  -- a node that is evaluated shard by shard, by its number
  pub record IsNode (Q : Tree → Type 0) (n : ℕ) : Type 0 where
    pub node : Tree
    pub stands : at all n ≡ Some node
    pub sharded : is_sharded node ≡ true
    pub holds : Q node

  node_by : (Q : Tree → Type 0) (n : ℕ) (t : Tree) (ns : List ℕ) (b : Bool) (p m : ℕ) → is_sharded t ≡ b → at all n ≡ Some t → Q t
      → ((q : ℕ) → at ns q ≡ Some m → IsNode Q m) → at (cond b (n ∷ ns) ns) p ≡ Some m → IsNode Q m
  node_by Q n t ns true zero m s e q f h = let is : n ≡ m = cc in record { node = t; stands = ap (at all) (sym is) ∙ e; sharded = s; holds = q }
  node_by Q n t ns true (suc p) m s e q f h = f p h
  node_by Q n t ns false p m s e q f h = f p h

  nodes_in : (Q : Tree → Type 0) (n : ℕ) (ts : List Tree) → StandFrom n ts → Each Q ts → (p m : ℕ) → at (sharded_from n ts) p ≡ Some m → IsNode Q m
  nodes_in Q n [] s q p m h = cc
  nodes_in Q n (t ∷ ts) s q p m h =
      node_by Q n t (sharded_from (n + 1) ts) (is_sharded t) p m refl (head_at n t ts s) q.0
      (λ r e. nodes_in Q (n + 1) ts (tail_at n t ts s) q.1 r m e) h

from_first : (all : List Tree) → StandFrom all 0 all
from_first all = λ k. let is : 0 + k ≡ k = omega arith in ap (at all) is

-- for each node its selector: those of the query
pub node_selectors : (q : Tree) → is_covered q ≡ true → map (λ n. node_matchers (at (preorder q) n)) (sharded_nodes q) ≡ selectors_of q
node_selectors q h = numbers_in (preorder q) 0 (preorder q) (from_first (preorder q)) ∙ covered_selectors q h

-- ---- what is evaluated

-- a sharded node is evaluated, and at most so high
abbrev pub IsReady : ℕ → Tree → Type 0
IsReady h t = is_sharded t ≡ true → (is_evaluated t ≡ true) × (height t ≤ h)

each_append : {X : Type 0} (Q : X → Type 0) (xs ys : List X) → Each Q xs → Each Q ys → Each Q (xs ++ ys)
each_append Q [] ys a b = b
each_append Q (x ∷ xs) ys a b = (a.0, each_append Q xs ys a.1 b)

string_ready : (t : Tree) (n : ℕ) → is_string t ≡ true → Each (IsReady n) (preorder t)
string_ready (tree.text bytes) n h = (λ e. cc, tt)
string_ready t n h = cc

argument_ready : (t : Tree) (n : ℕ) (s : Bool) → is_string t ≡ s → (s || is_evaluated t) ≡ true → (is_evaluated t ≡ true → Each (IsReady n) (preorder t)) → Each (IsReady n) (preorder t)
argument_ready t n true e h f = string_ready t n e
argument_ready t n false e h f = f h

mutual
  tree_ready : (t : Tree) (n : ℕ) → is_evaluated t ≡ true → height t ≤ n → Each (IsReady n) (preorder t)
  tree_ready (tree.number v) n h l = (λ e. cc, tt)
  tree_ready (tree.text bytes) n h l = (λ e. cc, tt)
  tree_ready (tree.unary minus arg) n h l = (λ e. cc, tree_ready arg n h (omega (arith, l)))
  tree_ready (tree.binary op m a b) n h l =
      let w = two_true (is_evaluated a) (is_evaluated b) (two_true _ (is_evaluated a && is_evaluated b) h).1 in
      (λ e. cc, each_append (IsReady n) (preorder a) (preorder b) (tree_ready a n w.0 (omega (arith, l))) (tree_ready b n w.1 (omega (arith, l))))
  tree_ready (tree.call (called.Range f) args) n h l = (λ e. cc, range_argument_ready args n h (omega (arith, l)))
  tree_ready (tree.call (called.Instant f) args) n h l =
      (λ e. cc, trees_ready args n (two_true (is_lawful_call f args) (are_arguments args) h).1 (omega (arith, l)))
  tree_ready (tree.aggregate op g args) n h l = (λ e. (h, l), trees_ready args n (evaluated_arguments args h) (omega (arith, l)))
  tree_ready (tree.select ms range mods) n h l = (λ e. cc, tt)
  tree_ready (tree.subquery arg range resolution mods) n h l = cc

  trees_ready : (ts : Trees) (n : ℕ) → are_arguments ts ≡ true → heights ts ≤ n → Each (IsReady n) (all_preorder ts)
  trees_ready tree.none n h l = tt
  trees_ready (tree.more a ts) n h l =
      let w = two_true (is_string a || is_evaluated a) (are_arguments ts) h in
      each_append (IsReady n) (preorder a) (all_preorder ts)
      (argument_ready a n (is_string a) refl w.0 (λ e. tree_ready a n e (omega (arith, l)))) (trees_ready ts n w.1 (omega (arith, l)))

  range_argument_ready : (ts : Trees) (n : ℕ) → is_range_argument ts ≡ true → heights ts ≤ n → Each (IsReady n) (all_preorder ts)
  range_argument_ready tree.none n h l = cc
  range_argument_ready (tree.more a (tree.more b ts)) n h l = cc
  range_argument_ready (tree.more a tree.none) n h l = each_append (IsReady n) (preorder a) [] (range_ready a n h (omega (arith, l))) tt

  range_ready : (t : Tree) (n : ℕ) → is_range t ≡ true → height t ≤ n → Each (IsReady n) (preorder t)
  range_ready (tree.select ms (Some range) mods) n h l = (λ e. cc, tt)
  range_ready (tree.subquery arg range resolution mods) n h l = (λ e. cc, tree_ready arg n (two_true (is_evaluated arg) _ h).0 (omega (arith, l)))
  range_ready (tree.number v) n h l = cc
  range_ready (tree.text bytes) n h l = cc
  range_ready (tree.unary minus arg) n h l = cc
  range_ready (tree.binary op m a b) n h l = cc
  range_ready (tree.call f args) n h l = cc
  range_ready (tree.aggregate op g args) n h l = cc
  range_ready (tree.select ms None mods) n h l = cc

-- each node of a query that is evaluated
pub node_ready : (q : Tree) (n : ℕ) → is_evaluated q ≡ true → height q ≤ n → (p m : ℕ) → at (sharded_nodes q) p ≡ Some m → IsNode (preorder q) (IsReady n) m
node_ready q n h l p m e = nodes_in (preorder q) (IsReady n) 0 (preorder q) (from_first (preorder q)) (tree_ready q n h l) p m e
