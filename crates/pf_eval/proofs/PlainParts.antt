-- What the parts of a plain expression are given, and what it is over the samples of a shard from what they are.
use Rattle.std.proofs.Common.{◌≡◌, ◌<◌, ◌≤◌, ◌+◌, max, ℕ, ℤ, Bool, true, false, cond, ◌&&◌, Some, List, [], ◌∷◌, ◌++◌, length, map, drop, get_or, refl, sym, ap, ◌∙◌, subst, append-nil, arith}
use Rattle.std.proofs.lemmas.List.{drop_all}
use Rattle.std.specs.List.{list_all}
use Rattle.pf_base.specs.declared.plain.Row.{Row}
use Rattle.pf_base.specs.LabelSets.{is_label_name}
use Rattle.pf_model.specs.declared.cell.StepCell.{StepCell}
use Rattle.pf_model.specs.declared.expr.BinaryOp.{BinaryOp}
use Rattle.pf_model.specs.declared.expr.Expr.{Expr}
use Rattle.pf_model.specs.declared.expr.Function.TheVariants as called
use Rattle.pf_model.specs.declared.functions.AggOp.{AggOp}
use Rattle.pf_model.specs.declared.functions.InstantFn.{InstantFn}
use Rattle.pf_model.specs.declared.functions.InstantFn.TheVariants as function
use Rattle.pf_model.specs.declared.functions.RangeFn.{RangeFn}
use Rattle.pf_model.specs.Binding.{pattern_of}
use Rattle.pf_model.specs.Built.{are_arguments, is_evaluated, is_lawful_call, is_range, is_string}
use Rattle.pf_model.specs.Clauses.{Grouped, Matched}
use Rattle.pf_model.specs.Evaluation.{eval, outcome, outcomes}
use Rattle.pf_model.specs.Legs.{PartData, grouped_part, node_part}
use Rattle.pf_model.specs.Outcomes.{Outcome}
use Rattle.pf_model.specs.Sharding.{are_literals, is_elementwise, is_first_plain, is_literal, is_mergeable, is_one_plain, is_over_series, is_plain, is_plain_call, is_range_selector, is_sharded}
use Rattle.pf_model.specs.Trees as tree
use Rattle.pf_model.specs.Trees.{Tree, Trees, height, heights, tree_of, trees_of}
use Rattle.pf_selectors.specs.declared.times.Times.{Times}
use Rattle.pf_shard.specs.Bound.{node_matchers}
use Rattle.pf_eval.specs.Bound.{AreThere, HasRoom}
use Rattle.pf_eval.specs.Nodes.{is_text, texts_in}
use Rattle.pf_eval.specs.Plain.{IsPlainAt, is_number, plain_matchers}
use Rattle.pf_eval.specs.Strings.{strings_in}
use Rattle.pf_eval.specs.declared.node.Node.{Node}
use Rattle.pf_eval.specs.declared.node.Node.TheVariants as node
use Rattle.pf_eval.proofs.BoundLists.{two_true}
use Rattle.pf_eval.proofs.BoundNodes.{args_more, left_evaluated, right_evaluated}
use Rattle.pf_eval.proofs.GivenParts.{room_one, room_within}
use Rattle.pf_eval.proofs.ShardedNodes.{AreOperands, argument_matchers, plain_operands}

-- ---- literals

pub sign_literal : (t : Tree) (minus : Bool) (a : Tree) → t ≡ tree.unary minus a → is_number a ≡ is_literal t
sign_literal t minus a is = by a ∙ ap is_literal (sym is) where
  by : (x : Tree) → is_number x ≡ is_literal (tree.unary minus x)
  by (tree.number v) = refl
  by x = refl

pub number_literal : (t : Tree) (minus : Bool) (a : Tree) → t ≡ tree.unary minus a → is_literal t ≡ true → is_literal a ≡ true
number_literal t minus a is h = by a (ap is_literal (sym is) ∙ h) where
  by : (x : Tree) → is_literal (tree.unary minus x) ≡ true → is_literal x ≡ true
  by (tree.number v) k = refl
  by x k = cc

literal_no_string : (t : Tree) → is_literal t ≡ true → is_string t ≡ false
literal_no_string (tree.text bytes) h = cc
literal_no_string t h = refl

plain_no_string : (t : Tree) → is_plain t ≡ true → is_string t ≡ false
plain_no_string (tree.text bytes) h = cc
plain_no_string t h = refl

-- the kinds of queries that are never plain
pub other_kind : (e : Expr) (t : Tree) → tree_of e ≡ t → is_plain t ≡ false → is_plain (tree_of e) ≡ true → ⊥
other_kind e t is f h = let no : false ≡ true = sym f ∙ ap is_plain (sym is) ∙ h in cc

-- ---- the parts of operators

pub operand_plain : (t : Tree) (minus : Bool) (a : Tree) (times : Times) → t ≡ tree.unary minus a → IsPlainAt t times → IsPlainAt a times
operand_plain t minus a times is h =
    let g : IsPlainAt (tree.unary minus a) times = subst (λ x. IsPlainAt x times) is h in
    record { plain = g.plain; evaluated = g.evaluated; room = room_within (height a) (1 + height a) times (omega arith) g.room }

module _ (t : Tree) (op : BinaryOp) (m : Matched) (a b : Tree) (times : Times) (is : t ≡ tree.binary op m a b) (h : IsPlainAt t times) where
  given : IsPlainAt (tree.binary op m a b) times
  given = subst (λ x. IsPlainAt x times) is h

  operands : AreOperands (is_literal a) a b
  operands = plain_operands op a b given.plain

  pub operator_named : list_all is_label_name m.include ≡ true
  operator_named = (two_true (list_all is_label_name m.include) (is_evaluated a && is_evaluated b) given.evaluated).0

  pub right_plain : is_literal a ≡ true → IsPlainAt b times
  right_plain l = record {
    plain = subst (λ x. AreOperands x a b) l operands;
    evaluated = right_evaluated t op m a b is h.evaluated;
    room = room_within (height b) (1 + max (height a) (height b)) times (omega arith) given.room;
  }

  pub left_plain : is_literal a ≡ false → IsPlainAt a times
  left_plain l = record {
    plain = (subst (λ x. AreOperands x a b) l operands).0;
    evaluated = left_evaluated t op m a b is h.evaluated;
    room = room_within (height a) (1 + max (height a) (height b)) times (omega arith) given.room;
  }

  pub right_literal : is_literal a ≡ false → is_literal b ≡ true
  right_literal l = (subst (λ x. AreOperands x a b) l operands).1

pub right_matchers : (t : Tree) (op : BinaryOp) (m : Matched) (a b : Tree) → t ≡ tree.binary op m a b → is_literal a ≡ true → plain_matchers t ≡ plain_matchers b
right_matchers t op m a b is l = ap plain_matchers is ∙ ap (λ x. cond x (plain_matchers b) (plain_matchers a)) l

pub left_matchers : (t : Tree) (op : BinaryOp) (m : Matched) (a b : Tree) → t ≡ tree.binary op m a b → is_literal a ≡ false → plain_matchers t ≡ plain_matchers a
left_matchers t op m a b is l = ap plain_matchers is ∙ ap (λ x. cond x (plain_matchers b) (plain_matchers a)) l

-- ---- calls over a range selector

one_selector : (es : List Expr) → is_range_selector (trees_of (map tree_of es)) ≡ true → length es ≡ 1
one_selector [] h = cc
one_selector (x ∷ []) h = refl
one_selector (x ∷ y ∷ es) h = absurd (many (tree_of x) (tree_of y) (trees_of (map tree_of es)) h) where
  many : (a b : Tree) (ts : Trees) → is_range_selector (tree.more a (tree.more b ts)) ≡ true → ⊥
  many (tree.select ms (Some range) mods) b ts k = cc
  many a b ts k = cc

pub one_tree : (es : List Expr) (e : Expr) → length es ≡ 1 → e ≡ get_or es 0 e → trees_of (map tree_of es) ≡ tree.more (tree_of e) tree.none
one_tree [] e n is = absurd (omega (arith, n))
one_tree (x ∷ []) e n is = ap (λ y. tree.more (tree_of y) tree.none) (sym is)
one_tree (x ∷ y ∷ es) e n is = absurd (omega (arith, n))

module _ (t : Tree) (f : RangeFn) (es : List Expr) (times : Times) (is : t ≡ tree.call (called.Range f) (trees_of (map tree_of es))) (h : IsPlainAt t times) where
  abbrev args : Trees
  args = trees_of (map tree_of es)

  range_given : IsPlainAt (tree.call (called.Range f) args) times
  range_given = subst (λ x. IsPlainAt x times) is h

  selects : is_range_selector args ≡ true
  selects = (two_true (is_over_series f) (is_range_selector args) range_given.plain).1

  pub ranged_one : length es ≡ 1
  ranged_one = one_selector es selects

  pub ranged_room : HasRoom 1 times
  ranged_room = room_one t times h.room

  module _ (e : Expr) (first : e ≡ get_or es 0 e) where
    one : args ≡ tree.more (tree_of e) tree.none
    one = one_tree es e ranged_one first

    pub ranged_selector : is_range_selector (tree.more (tree_of e) tree.none) ≡ true
    ranged_selector = ap is_range_selector (sym one) ∙ selects

    pub ranged_evaluated : is_range (tree_of e) ≡ true
    ranged_evaluated = ap (λ x. is_evaluated (tree.call (called.Range f) x)) (sym one) ∙ range_given.evaluated

    pub ranged_tree : t ≡ tree.call (called.Range f) (tree.more (tree_of e) tree.none)
    ranged_tree = is ∙ ap (tree.call (called.Range f)) one

-- ---- calls of a function of elements

strings_of_literals : (ts : Trees) → are_literals ts ≡ true → strings_in ts ≡ []
strings_of_literals tree.none h = refl
strings_of_literals (tree.more (tree.text bytes) ts) h = cc
strings_of_literals (tree.more a ts) h = strings_of_literals ts (two_true (is_literal a) (are_literals ts) h).1

strings_behind : (a : Tree) (ts : Trees) → is_plain a ≡ true → are_literals ts ≡ true → strings_in (tree.more a ts) ≡ []
strings_behind (tree.text bytes) ts p h = cc
strings_behind a ts p h = strings_of_literals ts h

evaluated_first : (a : Tree) (ts : Trees) → is_plain a ≡ true → are_arguments (tree.more a ts) ≡ true → is_evaluated a ≡ true
evaluated_first (tree.text bytes) ts p h = cc
evaluated_first a ts p h = (two_true (is_evaluated a) (are_arguments ts) h).0

no_pattern : (f : InstantFn) (ts : Trees) → is_elementwise f ≡ true → pattern_of (called.Instant f) ts ≡ []
no_pattern function.LabelReplace ts h = cc
no_pattern f ts h = refl

some_argument : (f : InstantFn) (es : List Expr) → is_plain_call (called.Instant f) (trees_of (map tree_of es)) (is_first_plain (trees_of (map tree_of es))) ≡ true → 0 < length es
some_argument f [] h = cc
some_argument f (x ∷ es) h = omega arith

pub first_and_rest : (es : List Expr) (e : Expr) → 0 < length es → e ≡ get_or es 0 e → trees_of (map tree_of es) ≡ tree.more (tree_of e) (trees_of (map tree_of (drop 1 es)))
first_and_rest es e n is = args_more es 0 e n is

module _ (t : Tree) (f : InstantFn) (es : List Expr) (times : Times) (is : t ≡ tree.call (called.Instant f) (trees_of (map tree_of es))) (h : IsPlainAt t times) where
  abbrev all : Trees
  all = trees_of (map tree_of es)

  call_given : IsPlainAt (tree.call (called.Instant f) all) times
  call_given = subst (λ x. IsPlainAt x times) is h

  pub call_some : 0 < length es
  call_some = some_argument f es call_given.plain

  pub call_lawful : is_lawful_call f all ≡ true
  call_lawful = (two_true (is_lawful_call f all) (are_arguments all) call_given.evaluated).0

  module _ (e : Expr) (first : e ≡ get_or es 0 e) where
    abbrev rest : Trees
    rest = trees_of (map tree_of (drop 1 es))

    both : all ≡ tree.more (tree_of e) rest
    both = first_and_rest es e call_some first

    tests : ((is_elementwise f && is_plain (tree_of e)) ≡ true) × (are_literals rest ≡ true)
    tests =
        two_true (is_elementwise f && is_plain (tree_of e)) (are_literals rest)
        (ap (λ x. is_plain_call (called.Instant f) x (is_first_plain x)) (sym both) ∙ call_given.plain)

    plains : (is_elementwise f ≡ true) × (is_plain (tree_of e) ≡ true)
    plains = two_true (is_elementwise f) (is_plain (tree_of e)) tests.0

    pub call_literals : are_literals rest ≡ true
    call_literals = tests.1

    pub call_first : IsPlainAt (tree_of e) times
    call_first = record {
      plain = plains.1;
      evaluated = evaluated_first (tree_of e) rest plains.1 (ap are_arguments (sym both) ∙ (two_true (is_lawful_call f all) (are_arguments all) call_given.evaluated).1);
      room = room_within (height (tree_of e)) (1 + max (height (tree_of e)) (heights rest)) times (omega arith)
          (subst (λ x. HasRoom (1 + heights x) times) both call_given.room);
    }

    pub call_strings : strings_in all ≡ []
    call_strings = ap strings_in both ∙ strings_behind (tree_of e) rest plains.1 call_literals

    pub call_patterns : AreThere (pattern_of (called.Instant f) all) []
    call_patterns = subst (λ x. AreThere x []) (sym (no_pattern f all plains.0)) tt

    pub call_matchers : plain_matchers t ≡ plain_matchers (tree_of e)
    call_matchers = ap plain_matchers is ∙ ap (λ x. plain_matchers (tree.call (called.Instant f) x)) both

    pub call_outcomes : (samples : List Row) (u : ℤ) (o : Outcome) (os : List Outcome) → o ≡ outcome samples (tree_of e) u → os ≡ o ∷ outcomes samples rest u → os ≡ outcomes samples all u
    call_outcomes samples u o os e1 e2 = e2 ∙ ap (λ x. x ∷ outcomes samples rest u) e1 ∙ ap (λ x. outcomes samples x u) (sym both)

-- ---- nodes one after another

pub no_texts : (ns : List Node) (n : Node) → texts_in ns ≡ [] → is_text n ≡ false → texts_in (ns ++ (n ∷ [])) ≡ []
no_texts [] (node.Scalar s) e h = refl
no_texts [] (node.Vector s) e h = refl
no_texts [] (node.Text t) e h = cc
no_texts (node.Scalar s ∷ ns) n e h = no_texts ns n e h
no_texts (node.Vector s ∷ ns) n e h = no_texts ns n e h
no_texts (node.Text t ∷ ns) n e h = cc

-- where no argument is left
pub all_done : {X : Type 0} (f : X → Outcome) (samples : List Row) (t : ℤ) (ns : List X) (es : List Expr) (i : ℕ) (os : List Outcome) → length es ≤ i
    → map f ns ++ outcomes samples (trees_of (map tree_of (drop i es))) t ≡ os → map f ns ≡ os
all_done f samples t ns es i os l h =
    sym (append-nil (map f ns)) ∙ ap (λ xs. map f ns ++ outcomes samples (trees_of (map tree_of xs)) t) (sym (drop_all i es l)) ∙ h

pub literal_first : (ts : Trees) (a : Tree) (rest : Trees) → ts ≡ tree.more a rest → are_literals ts ≡ true → is_literal a ≡ true
literal_first ts a rest is h = (two_true (is_literal a) (are_literals rest) (ap are_literals (sym is) ∙ h)).0

pub literal_rest : (ts : Trees) (a : Tree) (rest : Trees) → ts ≡ tree.more a rest → are_literals ts ≡ true → are_literals rest ≡ true
literal_rest ts a rest is h = (two_true (is_literal a) (are_literals rest) (ap are_literals (sym is) ∙ h)).1

-- ---- a whole plain expression, and the argument of an aggregation

pub plain_at : (t : Tree) (times : Times) → is_plain t ≡ true → is_evaluated t ≡ true → height t ≤ 64 → HasRoom 64 times → IsPlainAt t times
plain_at t times p e h r = record { plain = p; evaluated = e; room = room_within (height t) 64 times h r }

one_plain : (es : List Expr) → is_one_plain (trees_of (map tree_of es)) ≡ true → length es ≡ 1
one_plain [] h = cc
one_plain (x ∷ []) h = refl
one_plain (x ∷ y ∷ es) h = cc

module _ (t : Tree) (op : AggOp) (g : Grouped) (es : List Expr) (is : t ≡ tree.aggregate op g (trees_of (map tree_of es))) (h : is_sharded t ≡ true) where
  one_argument : is_one_plain (trees_of (map tree_of es)) ≡ true
  one_argument = (two_true (is_mergeable op) (is_one_plain (trees_of (map tree_of es))) (ap is_sharded (sym is) ∙ h)).1

  pub sharded_one : length es ≡ 1
  sharded_one = one_plain es one_argument

  module _ (e : Expr) (first : e ≡ get_or es 0 e) where
    argument : trees_of (map tree_of es) ≡ tree.more (tree_of e) tree.none
    argument = one_tree es e sharded_one first

    pub sharded_tree : t ≡ tree.aggregate op g (tree.more (tree_of e) tree.none)
    sharded_tree = is ∙ ap (tree.aggregate op g) argument

    pub argument_plain : is_plain (tree_of e) ≡ true
    argument_plain = ap is_one_plain (sym argument) ∙ one_argument

    pub argument_evaluated : is_evaluated t ≡ true → is_evaluated (tree_of e) ≡ true
    argument_evaluated v = (two_true (is_evaluated (tree_of e)) true (ap is_evaluated (sym sharded_tree) ∙ v)).0

    pub argument_low : height t ≤ 64 → height (tree_of e) ≤ 64
    argument_low l =
        let is : height t ≡ 1 + max (height (tree_of e)) 0 = ap height sharded_tree in
        omega (arith, l, is)

    pub argument_selects : node_matchers (Some t) ≡ plain_matchers (tree_of e)
    argument_selects = ap (λ x. node_matchers (Some x)) sharded_tree ∙ argument_matchers op g (tree_of e) argument_plain

    -- what the node is over some rows
    pub part_of_argument : (samples : List Row) (u : ℤ) (s : StepCell) (p : PartData) → s ≡ eval samples (tree_of e) u → p ≡ grouped_part g s → p ≡ node_part (Some t) samples u
    part_of_argument samples u s p e1 e2 = e2 ∙ ap (grouped_part g) e1 ∙ ap (λ x. node_part (Some x) samples u) (sym sharded_tree)
