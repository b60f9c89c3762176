-- What the nodes of a query are merged from, one after another.
use Rattle.std.proofs.Common.{◌≡◌, ◌<◌, ◌≤◌, ◌+◌, ℕ, ℤ, Bool, true, false, cond, not, ◌&&◌, ◌||◌, List, [], ◌∷◌, ◌++◌, drop, length, map, take, Some, refl, sym, ap, ◌∙◌, subst}
use Rattle.std.specs.List.{filter}
use Rattle.std.proofs.lemmas.List.Elements.{filter-append}
use Rattle.pf_base.specs.declared.plain.Row.{Row}
use Rattle.pf_model.specs.declared.expr.BinaryOp.{BinaryOp}
use Rattle.pf_model.specs.declared.expr.Function.TheVariants as called
use Rattle.pf_model.specs.declared.functions.AggOp.{AggOp}
use Rattle.pf_model.specs.declared.functions.InstantFn.{InstantFn}
use Rattle.pf_model.specs.declared.functions.InstantFn.TheVariants as instant
use Rattle.pf_model.specs.Binding.{pattern_of, patterns_in}
use Rattle.pf_model.specs.Built.{is_string}
use Rattle.pf_model.specs.Clauses.{Grouped, Matched}
use Rattle.pf_model.specs.Evaluation.{beside, instant_outcome, outcome, outcomes}
use Rattle.pf_model.specs.Legs.{node_part, of_shard}
use Rattle.pf_model.specs.Merging.{below, merged_cell}
use Rattle.pf_model.specs.Outcomes.{Outcome, aggregation, text, instant_call, of_cell, operation}
use Rattle.pf_model.specs.Sharding.{are_covered, are_literals, is_covered, is_elementwise, is_literal, is_mergeable, is_one_plain, is_over_series, is_plain, is_range_selector, is_sharded}
use Rattle.pf_model.specs.Trees as tree
use Rattle.pf_model.specs.Trees.{Tree, Trees, all_preorder, preorder}
use Rattle.pf_model.specs.Words.{is_set_operator}
use Rattle.pf_model.proofs.MergeLaw.{merges}
use Rattle.pf_selectors.specs.declared.times.Times.{Times}
use Rattle.pf_selectors.specs.Times.{time_at}
use Rattle.pf_shard.specs.Groups.{GroupStepsData, groups_at}
use Rattle.pf_eval.specs.Bound.{AreThere}
use Rattle.pf_eval.specs.Merged.{AreMerged, AreOfShards, Holds, IsMerged, all_sharded_in, behind_shards, sharded_in}
use Rattle.pf_eval.proofs.BoundLists.{two_true}
use Rattle.pf_eval.proofs.BoundNodes.{left_evaluated, right_evaluated}
use Rattle.pf_eval.proofs.GivenParts.{aggregated_evaluated, argument_evaluated, arguments_evaluated, called_evaluated, first_there, second_there, there_left, there_right}
use Rattle.pf_model.proofs.MergeQuery.{first_again}

abbrev Parts : Type 0
Parts = List GroupStepsData

-- ---- parts one after another

module _ (shards : ℕ) where
  holds_left : (xs ys : List Tree) (ps : Parts) → Holds shards (xs ++ ys) ps → Holds shards xs ps
  holds_left [] ys ps h = tt
  holds_left (x ∷ xs) ys ps h = (h.0, holds_left xs ys (drop shards ps) h.1)

  holds_right : (xs ys : List Tree) (ps : Parts) → Holds shards (xs ++ ys) ps → Holds shards ys (behind_shards shards xs ps)
  holds_right [] ys ps h = h
  holds_right (x ∷ xs) ys ps h = holds_right xs ys (drop shards ps) h.1

  behind_both : (xs ys : List Tree) (ps : Parts) → behind_shards shards (xs ++ ys) ps ≡ behind_shards shards ys (behind_shards shards xs ps)
  behind_both [] ys ps = refl
  behind_both (x ∷ xs) ys ps = behind_both xs ys (drop shards ps)

  module _ (samples : List Row) (times : Times) where
    of_left : (xs ys : List Tree) (ps : Parts) → AreOfShards samples shards times (xs ++ ys) ps → AreOfShards samples shards times xs ps
    of_left [] ys ps h = tt
    of_left (x ∷ xs) ys ps h = (h.0, of_left xs ys (drop shards ps) h.1)

    of_right : (xs ys : List Tree) (ps : Parts) → AreOfShards samples shards times (xs ++ ys) ps → AreOfShards samples shards times ys (behind_shards shards xs ps)
    of_right [] ys ps h = h
    of_right (x ∷ xs) ys ps h = of_right xs ys (drop shards ps) h.1

both_sharded : (xs ys : List Tree) → filter is_sharded (xs ++ ys) ≡ filter is_sharded xs ++ filter is_sharded ys
both_sharded xs ys = filter-append is_sharded xs ys

-- ---- plain queries have no aggregation

either_true : (a b : Bool) → (a || b) ≡ true → a ≡ false → b ≡ true
either_true true b h e = cc
either_true false b h e = h

literal_none : (q : Tree) → is_literal q ≡ true → filter is_sharded (preorder q) ≡ []
literal_none (tree.number v) h = refl
literal_none (tree.unary minus (tree.number v)) h = refl
literal_none q h = cc

literals_none : (qs : Trees) → are_literals qs ≡ true → filter is_sharded (all_preorder qs) ≡ []
literals_none tree.none h = refl
literals_none (tree.more q qs) h =
    let w = two_true (is_literal q) (are_literals qs) h in
    both_sharded (preorder q) (all_preorder qs) ∙ (λ i. literal_none q w.0 i ++ literals_none qs w.1 i)

range_none : (qs : Trees) → is_range_selector qs ≡ true → filter is_sharded (all_preorder qs) ≡ []
range_none (tree.more (tree.select ms (Some range) mods) tree.none) h = refl
range_none qs h = cc

module _ (a b : Tree) (first : is_plain a ≡ true → filter is_sharded (preorder a) ≡ []) (second : is_plain b ≡ true → filter is_sharded (preorder b) ≡ []) where
  operands_by : (x : Bool) → (is_plain a && is_literal b) ≡ x → (x || (is_literal a && is_plain b)) ≡ true → filter is_sharded (preorder a ++ preorder b) ≡ []
  operands_by true e h =
      let w = two_true (is_plain a) (is_literal b) e in
      both_sharded (preorder a) (preorder b) ∙ (λ i. first w.0 i ++ literal_none b w.1 i)
  operands_by false e h =
      let w = two_true (is_literal a) (is_plain b) h in
      both_sharded (preorder a) (preorder b) ∙ (λ i. literal_none a w.0 i ++ second w.1 i)

plain_none : (q : Tree) → is_plain q ≡ true → filter is_sharded (preorder q) ≡ []
plain_none (tree.number v) h = cc
plain_none (tree.text bytes) h = cc
plain_none (tree.unary minus q) h = plain_none q h
plain_none (tree.binary op m a b) h =
    let w = two_true (not (is_set_operator op.sign)) ((is_plain a && is_literal b) || (is_literal a && is_plain b)) h in
    operands_by a b (plain_none a) (plain_none b) (is_plain a && is_literal b) refl w.1
plain_none (tree.call (called.Range f) args) h = range_none args (two_true (is_over_series f) (is_range_selector args) h).1
plain_none (tree.call (called.Instant f) tree.none) h = cc
plain_none (tree.call (called.Instant f) (tree.more q qs)) h =
    let w = two_true (is_elementwise f && is_plain q) (are_literals qs) h in
    both_sharded (preorder q) (all_preorder qs) ∙ (λ i. plain_none q (two_true (is_elementwise f) (is_plain q) w.0).1 i ++ literals_none qs w.1 i)
plain_none (tree.aggregate op g args) h = cc
plain_none (tree.select ms range mods) h = refl
plain_none (tree.subquery q range resolution mods) h = cc

-- ---- what the nodes are merged from

module _ (shards : ℕ) (ps : Parts) (texts : List (List ℕ)) where
  abbrev Merged : Tree → Type 0
  Merged t = IsMerged t shards ps texts

  abbrev AllMerged : Trees → Type 0
  AllMerged ts = AreMerged ts shards ps texts

  pub operand_merged : (t : Tree) (minus : Bool) (a : Tree) → t ≡ tree.unary minus a → Merged t → Merged a
  operand_merged t minus a is h =
      let g : Merged (tree.unary minus a) = subst Merged is h in
      record { evaluated = g.evaluated; covered = g.covered; patterns = g.patterns; enough = g.enough }

  module _ (t : Tree) (op : BinaryOp) (m : Matched) (a b : Tree) (is : t ≡ tree.binary op m a b) where
    sharded_operands : sharded_in t ≡ sharded_in a ++ sharded_in b
    sharded_operands = ap sharded_in is ∙ both_sharded (preorder a) (preorder b)

    module _ (h : Merged t) where
      there : AreThere (patterns_in (preorder a ++ preorder b)) texts
      there = (subst Merged is h).patterns

      covers : (is_covered a ≡ true) × (is_covered b ≡ true)
      covers = two_true (is_covered a) (is_covered b) (ap is_covered (sym is) ∙ h.covered)

      held : Holds shards (sharded_in a ++ sharded_in b) ps
      held = subst (λ xs. Holds shards xs ps) sharded_operands h.enough

      pub left_merged : Merged a
      left_merged = record {
        evaluated = left_evaluated t op m a b is h.evaluated;
        covered = covers.0;
        patterns = first_there (preorder a) (preorder b) texts there;
        enough = holds_left shards (sharded_in a) (sharded_in b) ps held;
      }

      pub right_merged : (rest : Parts) → rest ≡ behind_shards shards (sharded_in a) ps → IsMerged b shards rest texts
      right_merged rest r = record {
        evaluated = right_evaluated t op m a b is h.evaluated;
        covered = covers.1;
        patterns = second_there (preorder a) (preorder b) texts there;
        enough = subst (Holds shards (sharded_in b)) (sym r) (holds_right shards (sharded_in a) (sharded_in b) ps held);
      }

    pub behind_operands : (rest last : Parts) → rest ≡ behind_shards shards (sharded_in a) ps → last ≡ behind_shards shards (sharded_in b) rest → last ≡ behind_shards shards (sharded_in t) ps
    behind_operands rest last r l =
        l ∙ ap (behind_shards shards (sharded_in b)) r ∙ sym (behind_both shards (sharded_in a) (sharded_in b) ps)
        ∙ ap (λ xs. behind_shards shards xs ps) (sym sharded_operands)

    module _ (samples : List Row) (times : Times) (o : AreOfShards samples shards times (sharded_in t) ps) where
      of_both : AreOfShards samples shards times (sharded_in a ++ sharded_in b) ps
      of_both = subst (λ xs. AreOfShards samples shards times xs ps) sharded_operands o

      pub of_first : AreOfShards samples shards times (sharded_in a) ps
      of_first = of_left shards samples times (sharded_in a) (sharded_in b) ps of_both

      pub of_second : (rest : Parts) → rest ≡ behind_shards shards (sharded_in a) ps → AreOfShards samples shards times (sharded_in b) rest
      of_second rest r = subst (AreOfShards samples shards times (sharded_in b)) (sym r) (of_right shards samples times (sharded_in a) (sharded_in b) ps of_both)

  module _ (t : Tree) (f : InstantFn) (ts : Trees) (is : t ≡ tree.call (called.Instant f) ts) (h : Merged t) where
    call_merged : Merged (tree.call (called.Instant f) ts)
    call_merged = subst Merged is h

    pub called_patterns : AreThere (pattern_of (called.Instant f) ts) texts
    called_patterns = there_left (pattern_of (called.Instant f) ts) (patterns_in (all_preorder ts)) texts call_merged.patterns

    pub called_merged : AllMerged ts
    called_merged = record {
      evaluated = called_evaluated t f ts is h.evaluated;
      covered = call_merged.covered;
      patterns = there_right (pattern_of (called.Instant f) ts) (patterns_in (all_preorder ts)) texts call_merged.patterns;
      enough = call_merged.enough;
    }

  -- ---- arguments one after another

  module _ (ts rest : Trees) (a : Tree) (is : ts ≡ tree.more a rest) where
    all_sharded : all_sharded_in ts ≡ sharded_in a ++ all_sharded_in rest
    all_sharded = ap all_sharded_in is ∙ both_sharded (preorder a) (all_preorder rest)

    module _ (h : AllMerged ts) where
      all_there : AreThere (patterns_in (preorder a ++ all_preorder rest)) texts
      all_there = (subst AllMerged is h).patterns

      all_cover : (is_covered a ≡ true) × (are_covered rest ≡ true)
      all_cover = two_true (is_covered a) (are_covered rest) (ap are_covered (sym is) ∙ h.covered)

      all_held : Holds shards (sharded_in a ++ all_sharded_in rest) ps
      all_held = subst (λ xs. Holds shards xs ps) all_sharded h.enough

      pub first_merged : is_string a ≡ false → Merged a
      first_merged s = record {
        evaluated = argument_evaluated ts rest a is s h.evaluated;
        covered = all_cover.0;
        patterns = first_there (preorder a) (all_preorder rest) texts all_there;
        enough = holds_left shards (sharded_in a) (all_sharded_in rest) ps all_held;
      }

      pub rest_merged : (left : Parts) → left ≡ behind_shards shards (sharded_in a) ps → AreMerged rest shards left texts
      rest_merged left r = record {
        evaluated = arguments_evaluated ts rest a is h.evaluated;
        covered = all_cover.1;
        patterns = second_there (preorder a) (all_preorder rest) texts all_there;
        enough = subst (Holds shards (all_sharded_in rest)) (sym r) (holds_right shards (sharded_in a) (all_sharded_in rest) ps all_held);
      }

    pub behind_first : (left : Parts) → left ≡ behind_shards shards (sharded_in a) ps → behind_shards shards (all_sharded_in rest) left ≡ behind_shards shards (all_sharded_in ts) ps
    behind_first left r =
        ap (behind_shards shards (all_sharded_in rest)) r ∙ sym (behind_both shards (sharded_in a) (all_sharded_in rest) ps)
        ∙ ap (λ xs. behind_shards shards xs ps) (sym all_sharded)

    module _ (samples : List Row) (times : Times) (o : AreOfShards samples shards times (all_sharded_in ts) ps) where
      of_all : AreOfShards samples shards times (sharded_in a ++ all_sharded_in rest) ps
      of_all = subst (λ xs. AreOfShards samples shards times xs ps) all_sharded o

      pub of_one : AreOfShards samples shards times (sharded_in a) ps
      of_one = of_left shards samples times (sharded_in a) (all_sharded_in rest) ps of_all

      pub of_rest : (left : Parts) → left ≡ behind_shards shards (sharded_in a) ps → AreOfShards samples shards times (all_sharded_in rest) left
      of_rest left r = subst (AreOfShards samples shards times (all_sharded_in rest)) (sym r) (of_right shards samples times (sharded_in a) (all_sharded_in rest) ps of_all)

  pub text_behind : (a : Tree) (bytes : List ℕ) → a ≡ tree.text bytes → ps ≡ behind_shards shards (sharded_in a) ps
  text_behind a bytes e = ap (λ x. behind_shards shards (sharded_in x) ps) (sym e)

  -- ---- aggregations

  module _ (t : Tree) (op : AggOp) (g : Grouped) (ts : Trees) (is : t ≡ tree.aggregate op g ts) where
    whole_by : (b : Bool) → (is_mergeable op && is_one_plain ts) ≡ b → b ≡ false
        → cond b (tree.aggregate op g ts ∷ all_sharded_in ts) (all_sharded_in ts) ≡ all_sharded_in ts
    whole_by true e f = cc
    whole_by false e f = refl

    pub whole_sharded : (is_mergeable op && is_one_plain ts) ≡ false → sharded_in t ≡ all_sharded_in ts
    whole_sharded e = ap sharded_in is ∙ whole_by (is_mergeable op && is_one_plain ts) refl e

    pub aggregated_merged : (is_mergeable op && is_one_plain ts) ≡ false → Merged t → AllMerged ts
    aggregated_merged e h =
        let a : Merged (tree.aggregate op g ts) = subst Merged is h in
        record {
          evaluated = aggregated_evaluated t op g ts is h.evaluated;
          covered = either_true (is_mergeable op && is_one_plain ts) (are_covered ts) a.covered e;
          patterns = a.patterns;
          enough = subst (λ xs. Holds shards xs ps) (whole_sharded e) h.enough;
        }

one_none : (ts : Trees) → is_one_plain ts ≡ true → all_sharded_in ts ≡ []
one_none tree.none h = cc
one_none (tree.more a tree.none) h = both_sharded (preorder a) [] ∙ (λ i. plain_none a h i ++ [])
one_none (tree.more a (tree.more b ts)) h = cc

module _ (shards : ℕ) (t : Tree) (op : AggOp) (g : Grouped) (ts : Trees) (is : t ≡ tree.aggregate op g ts) (sharded : (is_mergeable op && is_one_plain ts) ≡ true) where
  pub mergeable : is_mergeable op ≡ true
  mergeable = (two_true (is_mergeable op) (is_one_plain ts) sharded).0

  plain : is_one_plain ts ≡ true
  plain = (two_true (is_mergeable op) (is_one_plain ts) sharded).1

  alone_by : (b : Bool) → b ≡ true → cond b (tree.aggregate op g ts ∷ all_sharded_in ts) (all_sharded_in ts) ≡ tree.aggregate op g ts ∷ []
  alone_by true e = ap (λ xs. tree.aggregate op g ts ∷ xs) (one_none ts plain)
  alone_by false e = cc

  alone : sharded_in t ≡ tree.aggregate op g ts ∷ []
  alone = ap sharded_in is ∙ alone_by (is_mergeable op && is_one_plain ts) sharded

  pub alone_held : (ps : Parts) → Holds shards (sharded_in t) ps → shards ≤ length ps
  alone_held ps h = (subst (λ xs. Holds shards xs ps) alone h).0

  pub alone_behind : (ps last : Parts) → last ≡ drop shards ps → last ≡ behind_shards shards (sharded_in t) ps
  alone_behind ps last l = l ∙ ap (λ xs. behind_shards shards xs ps) (sym alone)

  merged_one : (qs : Trees) → is_one_plain qs ≡ true → (samples : List Row) (u : ℤ) → 0 < shards
      → of_cell (merged_cell op (below (λ i. node_part (Some (tree.aggregate op g qs)) (of_shard i shards samples) u) shards)) ≡ outcome samples (tree.aggregate op g qs) u
  merged_one tree.none h samples u p = cc
  merged_one (tree.more a tree.none) h samples u p =
      ap of_cell (merges op g a samples u shards mergeable p h)
      ∙ first_again (outcomes samples (tree.more a tree.none) u) _ refl
  merged_one (tree.more a (tree.more b qs)) h samples u p = cc

  pub alone_value : (samples : List Row) (times : Times) (ps : Parts) → 0 < shards → AreOfShards samples shards times (sharded_in t) ps → (k : ℕ) → k < times.len
      → of_cell (merged_cell op (map (λ p. groups_at p k) (take shards ps))) ≡ outcome samples t (time_at times k)
  alone_value samples times ps p o k h =
      let one : AreOfShards samples shards times (tree.aggregate op g ts ∷ []) ps = subst (λ xs. AreOfShards samples shards times xs ps) alone o in
      ap (λ parts. of_cell (merged_cell op parts)) (one.0 k h)
      ∙ merged_one ts plain samples (time_at times k) p
      ∙ ap (λ q. outcome samples q (time_at times k)) (sym is)

-- ---- calls read no samples of their own

pub covered_called : (samples : List Row) (f : InstantFn) (ts : Trees) → are_covered ts ≡ true → (os : List Outcome) (t : ℤ)
    → instant_outcome samples f ts os t ≡ instant_call f (beside samples ts os t) os
covered_called samples instant.Timestamp tree.none h os t = refl
covered_called samples instant.Timestamp (tree.more (tree.number v) qs) h os t = refl
covered_called samples instant.Timestamp (tree.more (tree.text bytes) qs) h os t = refl
covered_called samples instant.Timestamp (tree.more (tree.unary minus q) qs) h os t = refl
covered_called samples instant.Timestamp (tree.more (tree.binary op m l r) qs) h os t = refl
covered_called samples instant.Timestamp (tree.more (tree.call f args) qs) h os t = refl
covered_called samples instant.Timestamp (tree.more (tree.aggregate op g args) qs) h os t = refl
covered_called samples instant.Timestamp (tree.more (tree.select ms range mods) qs) h os t = cc
covered_called samples instant.Timestamp (tree.more (tree.subquery q range resolution mods) qs) h os t = refl
covered_called samples instant.Abs args h os t = refl
covered_called samples instant.Ceil args h os t = refl
covered_called samples instant.Floor args h os t = refl
covered_called samples instant.Sgn args h os t = refl
covered_called samples instant.Round args h os t = refl
covered_called samples instant.Clamp args h os t = refl
covered_called samples instant.ClampMin args h os t = refl
covered_called samples instant.ClampMax args h os t = refl
covered_called samples instant.Absent args h os t = refl
covered_called samples instant.Scalar args h os t = refl
covered_called samples instant.Vector args h os t = refl
covered_called samples instant.Time args h os t = refl
covered_called samples instant.LabelReplace args h os t = refl
covered_called samples instant.LabelJoin args h os t = refl

-- ---- nodes from their parts

pub operands_meant : (samples : List Row) (u : ℤ) (q : Tree) (op : BinaryOp) (m : Matched) (a b : Tree) (n x y : Outcome) → q ≡ tree.binary op m a b
    → n ≡ operation op m x y → x ≡ outcome samples a u → y ≡ outcome samples b u → n ≡ outcome samples q u
operands_meant samples u q op m a b n x y is e f g =
    e ∙ (λ i. operation op m (f i) (g i)) ∙ ap (λ r. outcome samples r u) (sym is)

pub aggregated_meant : (samples : List Row) (u : ℤ) (q : Tree) (op : AggOp) (g : Grouped) (ts : Trees) (n : Outcome) (os : List Outcome) → q ≡ tree.aggregate op g ts
    → n ≡ aggregation op g os → os ≡ outcomes samples ts u → n ≡ outcome samples q u
aggregated_meant samples u q op g ts n os is e f =
    e ∙ ap (aggregation op g) f ∙ ap (λ r. outcome samples r u) (sym is)

module _ (shards : ℕ) (ps : Parts) (t : Tree) (ts : Trees) (same : sharded_in t ≡ all_sharded_in ts) where
  pub same_behind : (last : Parts) → last ≡ behind_shards shards (all_sharded_in ts) ps → last ≡ behind_shards shards (sharded_in t) ps
  same_behind last l = l ∙ ap (λ xs. behind_shards shards xs ps) (sym same)

  pub same_of : (samples : List Row) (times : Times) → AreOfShards samples shards times (sharded_in t) ps → AreOfShards samples shards times (all_sharded_in ts) ps
  same_of samples times o = subst (λ xs. AreOfShards samples shards times xs ps) same o
