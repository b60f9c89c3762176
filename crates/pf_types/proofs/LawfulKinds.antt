-- A query of lawful kinds whose names and times are within their bounds is one that is evaluated.
use Rattle.std.proofs.Common.{◌≡◌, ℕ, ◌+◌, Bool, true, false, ◌&&◌, ◌||◌, not, cond, Option, Some, None, List, [], ◌∷◌, ◌++◌, refl, sym, ap, ◌∙◌, arith, true≢false, zero, suc}
use Rattle.std.specs.Prelude.{◌-◌, length, map, max, nat_eq, nat_le, replicate}
use Rattle.std.specs.List.{list_all}
use Rattle.std.proofs.lemmas.Bool.Decides.{nat_tests}
use Rattle.std.specs.Option.{option_or}
use Rattle.pf_base.specs.LabelSets.{is_label_name}
use Rattle.pf_model.specs.Cuts.{only_if}
use Rattle.pf_model.specs.declared.expr.BinaryOp.{BinaryOp}
use Rattle.pf_model.specs.declared.expr.Function.TheVariants as called
use Rattle.pf_model.specs.declared.expr.Kind.{Kind}
use Rattle.pf_model.specs.declared.expr.Kind.TheVariants.{Scalar, Instant, Range, Text}
use Rattle.pf_model.specs.declared.functions.AggOp.{AggOp}
use Rattle.pf_model.specs.declared.functions.AggOp.TheVariants as aggregation
use Rattle.pf_model.specs.declared.functions.InstantFn.{InstantFn}
use Rattle.pf_model.specs.declared.functions.InstantFn.TheVariants as function
use Rattle.pf_model.specs.Built.{are_arguments, are_evaluated, are_near, is_absent_call, is_distance, is_evaluated, is_joining, is_lawful_call, is_one, is_range, is_range_argument, is_replacing, is_resolution, is_string, name_labels}
use Rattle.pf_model.specs.Evaluation.{resolution_or_minute}
use Rattle.pf_model.specs.Trees as tree
use Rattle.pf_model.specs.Trees.{Tree, Trees, Node, all_nodes, nodes, postorder, size}
use Rattle.pf_model.specs.Typing.{Wanted, admits, aggregation_wants, arguments, asked_fault, fault_at, first_fault, first_wrong, function_kind, has_bad_name, has_wrong_count, joint_kind, kind_of, list_of, names_label, only, operands, operator_wants, scalar_or_instant, wants}
use Rattle.pf_model.specs.Words.{is_set_operator}

-- ---- names and times

abbrev pub near_range : Option ℕ → Bool
near_range None = true
near_range (Some range) = is_distance range

abbrev mutual
  pub is_bounded : Tree → Bool
  is_bounded (tree.number v) = true
  is_bounded (tree.text bytes) = true
  is_bounded (tree.unary minus e) = is_bounded e
  is_bounded (tree.binary op m a b) = list_all is_label_name m.include && (is_bounded a && is_bounded b)
  is_bounded (tree.call f args) = are_bounded args
  is_bounded (tree.aggregate op g args) = are_bounded args
  is_bounded (tree.select ms range mods) = name_labels ms && (near_range range && are_near mods)
  is_bounded (tree.subquery e range resolution mods) =
      is_bounded e && (is_distance range && (is_resolution (resolution_or_minute resolution) && are_near mods))

  pub are_bounded : Trees → Bool
  are_bounded tree.none = true
  are_bounded (tree.more e es) = is_bounded e && are_bounded es

-- ---- truth values and options

pub left_of : (a b : Bool) → (a && b) ≡ true → a ≡ true
left_of true b h = refl
left_of false b h = h

pub right_of : (a b : Bool) → (a && b) ≡ true → b ≡ true
right_of true b h = h
right_of false true h = refl
right_of false false h = h

pub both_of : (a b : Bool) → a ≡ true → b ≡ true → (a && b) ≡ true
both_of true b p q = q
both_of false b p q = p

pub given : {A : Type 0} → false ≡ true → A
given h = absurd (true≢false (sym h))

pub not_false : (b : Bool) → not b ≡ false → b ≡ true
not_false true h = refl
not_false false h = sym h

abbrev is_some_of : {A : Type 0} → Option A → Bool
is_some_of None = false
is_some_of (Some x) = true

pub none_is_some : {A B : Type 0} (x : A) → Some x ≡ None → B
none_is_some x h = absurd (true≢false (ap is_some_of h))

first_none : {A : Type 0} (a b : Option A) → option_or a b ≡ None → a ≡ None
first_none None b h = refl
first_none (Some x) b h = h

second_none : {A : Type 0} (a b : Option A) → option_or a b ≡ None → b ≡ None
second_none None b h = h
second_none (Some x) b h = none_is_some x h

not_given : {A : Type 0} (b : Bool) (x : A) → only_if b x ≡ None → b ≡ false
not_given false x h = refl
not_given true x h = none_is_some x h

-- ---- the faults of a node

count_of : (n : ℕ) (t : Tree) → fault_at n t ≡ None → has_wrong_count t ≡ false
count_of n t h = not_given (has_wrong_count t) _ (first_none _ _ h)

kinds_of : (n : ℕ) (t : Tree) → fault_at n t ≡ None → first_wrong n (wants t) (operands t) ≡ None
kinds_of n t h = first_none (first_wrong n (wants t) (operands t)) _ (second_none _ _ h)

names_of : (n : ℕ) (t : Tree) → fault_at n t ≡ None → has_bad_name t ≡ false
names_of n t h = not_given (has_bad_name t) _ (first_none _ _ (second_none (first_wrong n (wants t) (operands t)) _ (second_none _ _ h)))

first_of_append : (xs ys : List Node) → first_fault (xs ++ ys) ≡ None → first_fault xs ≡ None
first_of_append [] ys h = refl
first_of_append (x ∷ xs) ys h =
    (λ i. option_or (first_none (fault_at x.number x.tree) _ h i) (first_of_append xs ys (second_none (fault_at x.number x.tree) _ h) i))

second_of_append : (xs ys : List Node) → first_fault (xs ++ ys) ≡ None → first_fault ys ≡ None
second_of_append [] ys h = h
second_of_append (x ∷ xs) ys h = second_of_append xs ys (second_none (fault_at x.number x.tree) _ h)

-- the fault of a node that stands alone
of_node : (n : ℕ) (t : Tree) → first_fault (record { number = n; tree = t } ∷ []) ≡ None → fault_at n t ≡ None
of_node n t h = first_none _ _ h

-- ---- what a tree of a kind is

abbrev suits : Kind → Tree → Bool
suits Scalar t = is_evaluated t
suits Instant t = is_evaluated t
suits Range t = is_range t
suits Text t = is_string t

abbrev AllSuit : Trees → Type 0
AllSuit tree.none = Unit {0}
AllSuit (tree.more e es) = (suits (kind_of e) e ≡ true) × AllSuit es

accepted : (n : ℕ) (w : Wanted) (ws : List Wanted) (e : Tree) (es : List Tree) → first_wrong n (w ∷ ws) (e ∷ es) ≡ None
    → admits w (kind_of e) ≡ true
accepted n w ws e es h = not_false (admits w (kind_of e)) (not_given (not (admits w (kind_of e))) _ (first_none _ _ h))

others_accepted : (n : ℕ) (w : Wanted) (ws : List Wanted) (e : Tree) (es : List Tree) → first_wrong n (w ∷ ws) (e ∷ es) ≡ None
    → first_wrong n ws es ≡ None
others_accepted n w ws e es h = second_none (only_if (not (admits w (kind_of e))) _) (first_wrong n ws es) h

abbrev either : (w : Wanted) → Type 0
either w = (k : Kind) → admits w k ≡ true → admits scalar_or_instant k ≡ true

instant_either : either (only Instant)
instant_either Scalar h = refl
instant_either Instant h = refl
instant_either Range h = h
instant_either Text h = h

scalar_either : either (only Scalar)
scalar_either Scalar h = refl
scalar_either Instant h = refl
scalar_either Range h = h
scalar_either Text h = h

operator_either : (op : BinaryOp) → either (operator_wants op)
operator_either op = by (is_set_operator op.sign) where
  by : (b : Bool) → either (cond b (only Instant) scalar_or_instant)
  by true = instant_either
  by false = λ k h. h

evaluated_of : (k : Kind) (t : Tree) → admits scalar_or_instant k ≡ true → suits k t ≡ true → is_evaluated t ≡ true
evaluated_of Scalar t h s = s
evaluated_of Instant t h s = s
evaluated_of Range t h s = given h
evaluated_of Text t h s = given h

range_of : (k : Kind) (t : Tree) → admits (only Range) k ≡ true → suits k t ≡ true → is_range t ≡ true
range_of Scalar t h s = given h
range_of Instant t h s = given h
range_of Range t h s = s
range_of Text t h s = given h

string_of : (k : Kind) (t : Tree) → admits (only Text) k ≡ true → suits k t ≡ true → is_string t ≡ true
string_of Scalar t h s = given h
string_of Instant t h s = given h
string_of Range t h s = given h
string_of Text t h s = s

not_string : (t : Tree) → is_evaluated t ≡ true → is_string t ≡ false
not_string (tree.text bytes) h = sym h
not_string _ h = refl

-- ---- signs and operators

of_sign : (k : Kind) (minus : Bool) (e : Tree) → admits scalar_or_instant k ≡ true → suits k e ≡ true → suits k (tree.unary minus e) ≡ true
of_sign Scalar minus e h s = s
of_sign Instant minus e h s = s
of_sign Range minus e h s = given h
of_sign Text minus e h s = given h

joint_suits : (k l : Kind) (t : Tree) → is_evaluated t ≡ true → suits (joint_kind k l) t ≡ true
joint_suits Scalar Scalar t h = h
joint_suits Scalar Instant t h = h
joint_suits Scalar Range t h = h
joint_suits Scalar Text t h = h
joint_suits Instant l t h = h
joint_suits Range l t h = h
joint_suits Text l t h = h

-- ---- lists of arguments

-- as many as are wanted
same_count : (t : Tree) → has_wrong_count t ≡ false → nat_eq (length (wants t)) (length (operands t)) ≡ true
same_count t h = not_false (nat_eq (length (wants t)) (length (operands t))) h

or_right : (a b : Bool) → b ≡ true → (a || b) ≡ true
or_right true b p = refl
or_right false b p = p

or_left : (a b : Bool) → a ≡ true → (a || b) ≡ true
or_left true b p = refl
or_left false b p = given p

abbrev is_no_range : Kind → Bool
is_no_range Range = false
is_no_range _ = true

argument_of : (k l : Kind) (e : Tree) → is_no_range k ≡ true → admits (only k) l ≡ true → suits l e ≡ true
    → (is_string e || is_evaluated e) ≡ true
argument_of Scalar l e n h s = or_right (is_string e) (is_evaluated e) (evaluated_of l e (scalar_either l h) s)
argument_of Instant l e n h s = or_right (is_string e) (is_evaluated e) (evaluated_of l e (instant_either l h) s)
argument_of Range l e n h s = given n
argument_of Text l e n h s = or_left (is_string e) (is_evaluated e) (string_of l e h s)

abbrev no_ranges : List Kind → Bool
no_ranges ks = list_all is_no_range ks

-- arguments of which none is to be a range are strings, and queries that are evaluated
arguments_of : (n : ℕ) (ks : List Kind) (es : Trees) → no_ranges ks ≡ true → length (map only ks) ≡ length (list_of es)
    → first_wrong n (map only ks) (list_of es) ≡ None → AllSuit es → are_arguments es ≡ true
arguments_of n ks tree.none r c h s = refl
arguments_of n [] (tree.more e es) r c h s = absurd (omega (arith, c))
arguments_of n (k ∷ ks) (tree.more e es) r c h s =
    both_of (is_string e || is_evaluated e) (are_arguments es)
    (argument_of k (kind_of e) e (left_of (is_no_range k) (no_ranges ks) r) (accepted n (only k) (map only ks) e (list_of es) h) s.0)
    (arguments_of n ks es (right_of (is_no_range k) (no_ranges ks) r) (omega (arith, c)) (others_accepted n (only k) (map only ks) e (list_of es) h) s.1)

abbrev is_value : Kind → Bool
is_value Scalar = true
is_value Instant = true
is_value Range = false
is_value Text = false

abbrev are_values : List Kind → Bool
are_values ks = list_all is_value ks

value_either : (k : Kind) → is_value k ≡ true → either (only k)
value_either Scalar h = scalar_either
value_either Instant h = instant_either
value_either Range h = given h
value_either Text h = given h

values_of : (n : ℕ) (ks : List Kind) (es : Trees) → are_values ks ≡ true → length (map only ks) ≡ length (list_of es)
    → first_wrong n (map only ks) (list_of es) ≡ None → AllSuit es → are_evaluated es ≡ true
values_of n ks tree.none r c h s = refl
values_of n [] (tree.more e es) r c h s = absurd (omega (arith, c))
values_of n (k ∷ ks) (tree.more e es) r c h s =
    both_of (is_evaluated e) (are_evaluated es)
    (evaluated_of (kind_of e) e (value_either k (left_of (is_value k) (are_values ks) r) (kind_of e) (accepted n (only k) (map only ks) e (list_of es) h)) s.0)
    (values_of n ks es (right_of (is_value k) (are_values ks) r) (omega (arith, c)) (others_accepted n (only k) (map only ks) e (list_of es) h) s.1)

counted : (m n : ℕ) → nat_eq m n ≡ true → m ≡ n
counted m n h = grind (arith, nat_tests, h)

-- ---- calls

replacing : (v : Tree) (a b c d : List ℕ) → is_string v ≡ false → is_label_name a ≡ true
    → is_replacing (tree.more v (tree.more (tree.text a) (tree.more (tree.text b) (tree.more (tree.text c) (tree.more (tree.text d) tree.none))))) ≡ true
replacing v a b c d h g = both_of (not (is_string v)) (is_label_name a) (ap not h) g

replaced : (v a b c d : Tree) → is_string v ≡ false → is_string a ≡ true → names_label a ≡ true → is_string b ≡ true
    → is_string c ≡ true → is_string d ≡ true
    → is_replacing (tree.more v (tree.more a (tree.more b (tree.more c (tree.more d tree.none))))) ≡ true
replaced v (tree.text a) (tree.text b) (tree.text c) (tree.text d) h p g q r s = replacing v a b c d h g
replaced v (tree.text a) (tree.text b) (tree.text c) _ h p g q r s = given s
replaced v (tree.text a) (tree.text b) _ d h p g q r s = given r
replaced v (tree.text a) _ c d h p g q r s = given q
replaced v _ b c d h p g q r s = given p

abbrev are_strings : Trees → Bool
are_strings tree.none = true
are_strings (tree.more e es) = is_string e && are_strings es

joined : (v a : Tree) (es : Trees) → is_string v ≡ false → is_string a ≡ true → names_label a ≡ true
    → is_joining (tree.more v (tree.more a es)) ≡ true
joined v (tree.text a) es h p g = both_of (not (is_string v)) (is_label_name a) (ap not h) g
joined v _ es h p g = given p

absent_call : (es : Trees) → are_bounded es ≡ true → is_absent_call es ≡ true
absent_call (tree.more (tree.select ms range mods) es) h =
    left_of (name_labels ms) (near_range range && are_near mods)
    (left_of (name_labels ms && (near_range range && are_near mods)) (are_bounded es) h)
absent_call _ h = refl

-- the kinds of the first five arguments, where so many are wanted
replace_lawful : (n : ℕ) (es : Trees) → fault_at n (tree.call (called.Instant function.LabelReplace) es) ≡ None → AllSuit es
    → is_replacing es ≡ true
replace_lawful n tree.none h s = absurd (true≢false (count_of n (tree.call (called.Instant function.LabelReplace) tree.none) h))
replace_lawful n (tree.more v tree.none) h s =
    absurd (true≢false (count_of n (tree.call (called.Instant function.LabelReplace) (tree.more v tree.none)) h))
replace_lawful n (tree.more v (tree.more a tree.none)) h s =
    absurd (true≢false (count_of n (tree.call (called.Instant function.LabelReplace) (tree.more v (tree.more a tree.none))) h))
replace_lawful n (tree.more v (tree.more a (tree.more b tree.none))) h s =
    absurd (true≢false (count_of n (tree.call (called.Instant function.LabelReplace) (tree.more v (tree.more a (tree.more b tree.none)))) h))
replace_lawful n (tree.more v (tree.more a (tree.more b (tree.more c tree.none)))) h s =
    absurd (true≢false
    (count_of n (tree.call (called.Instant function.LabelReplace) (tree.more v (tree.more a (tree.more b (tree.more c tree.none))))) h))
replace_lawful n (tree.more v (tree.more a (tree.more b (tree.more c (tree.more d tree.none))))) h s =
    replaced v a b c d (not_string v (evaluated_of (kind_of v) v (instant_either (kind_of v) first) s.0))
    (string_of (kind_of a) a (accepted n (only Text) (only Text ∷ only Text ∷ only Text ∷ []) a (b ∷ c ∷ d ∷ []) behind_first) s.1.0)
    (left_of (names_label a) (names_label c && true) (not_false (names_label a && (names_label c && true)) (names_of n whole h)))
    (string_of (kind_of b) b (accepted n (only Text) (only Text ∷ only Text ∷ []) b (c ∷ d ∷ []) behind_second) s.1.1.0)
    (string_of (kind_of c) c (accepted n (only Text) (only Text ∷ []) c (d ∷ []) behind_third) s.1.1.1.0)
    (string_of (kind_of d) d (accepted n (only Text) [] d [] behind_fourth) s.1.1.1.1.0) where
      whole : Tree
      whole = tree.call (called.Instant function.LabelReplace) (tree.more v (tree.more a (tree.more b (tree.more c (tree.more d tree.none)))))

      all : first_wrong n (only Instant ∷ only Text ∷ only Text ∷ only Text ∷ only Text ∷ []) (v ∷ a ∷ b ∷ c ∷ d ∷ []) ≡ None
      all = kinds_of n (tree.call (called.Instant function.LabelReplace) (tree.more v (tree.more a (tree.more b (tree.more c (tree.more d tree.none)))))) h

      first : admits (only Instant) (kind_of v) ≡ true
      first = accepted n (only Instant) (only Text ∷ only Text ∷ only Text ∷ only Text ∷ []) v (a ∷ b ∷ c ∷ d ∷ []) all

      behind_first : first_wrong n (only Text ∷ only Text ∷ only Text ∷ only Text ∷ []) (a ∷ b ∷ c ∷ d ∷ []) ≡ None
      behind_first = others_accepted n (only Instant) (only Text ∷ only Text ∷ only Text ∷ only Text ∷ []) v (a ∷ b ∷ c ∷ d ∷ []) all

      behind_second : first_wrong n (only Text ∷ only Text ∷ only Text ∷ []) (b ∷ c ∷ d ∷ []) ≡ None
      behind_second = others_accepted n (only Text) (only Text ∷ only Text ∷ only Text ∷ []) a (b ∷ c ∷ d ∷ []) behind_first

      behind_third : first_wrong n (only Text ∷ only Text ∷ []) (c ∷ d ∷ []) ≡ None
      behind_third = others_accepted n (only Text) (only Text ∷ only Text ∷ []) b (c ∷ d ∷ []) behind_second

      behind_fourth : first_wrong n (only Text ∷ []) (d ∷ []) ≡ None
      behind_fourth = others_accepted n (only Text) (only Text ∷ []) c (d ∷ []) behind_third
replace_lawful n (tree.more v (tree.more a (tree.more b (tree.more c (tree.more d (tree.more e es)))))) h s =
    given (sym longer ∙ same_count whole (count_of n whole h)) where
      whole : Tree
      whole = tree.call (called.Instant function.LabelReplace) (tree.more v (tree.more a (tree.more b (tree.more c (tree.more d (tree.more e es))))))

      longer : nat_eq 5 (suc (suc (suc (suc (suc (suc (length (list_of es)))))))) ≡ false
      longer = grind (arith, nat_tests)

kinds_of_strings : (n k : ℕ) (es : Trees) → length (map only (replicate k Text)) ≡ length (list_of es)
    → first_wrong n (map only (replicate k Text)) (list_of es) ≡ None → AllSuit es → are_strings es ≡ true
kinds_of_strings n k tree.none c h s = refl
kinds_of_strings n zero (tree.more e es) c h s = absurd (omega (arith, c))
kinds_of_strings n (suc k) (tree.more e es) c h s =
    both_of (is_string e) (are_strings es)
    (string_of (kind_of e) e (accepted n (only Text) (map only (replicate k Text)) e (list_of es) h) s.0)
    (kinds_of_strings n k es (omega (arith, c)) (others_accepted n (only Text) (map only (replicate k Text)) e (list_of es) h) s.1)

join_lawful_by : (n k : ℕ) (v a : Tree) (es : Trees)
    → length (map only (replicate k Text)) ≡ length (list_of (tree.more a es))
    → first_wrong n (only Instant ∷ map only (replicate k Text)) (v ∷ a ∷ list_of es) ≡ None
    → names_label a ≡ true → AllSuit (tree.more v (tree.more a es)) → is_joining (tree.more v (tree.more a es)) ≡ true
join_lawful_by n k v a es c h g s =
    joined v a es
    (not_string v (evaluated_of (kind_of v) v (instant_either (kind_of v) (accepted n (only Instant) (map only (replicate k Text)) v (a ∷ list_of es) h)) s.0))
    (left_of (is_string a) (are_strings es)
    (kinds_of_strings n k (tree.more a es) c (others_accepted n (only Instant) (map only (replicate k Text)) v (a ∷ list_of es) h) s.1))
    g

join_lawful : (n : ℕ) (es : Trees) → fault_at n (tree.call (called.Instant function.LabelJoin) es) ≡ None → AllSuit es
    → is_joining es ≡ true
join_lawful n tree.none h s = absurd (true≢false (count_of n (tree.call (called.Instant function.LabelJoin) tree.none) h))
join_lawful n (tree.more v tree.none) h s =
    absurd (true≢false (count_of n (tree.call (called.Instant function.LabelJoin) (tree.more v tree.none)) h))
join_lawful n (tree.more v (tree.more a es)) h s =
    join_lawful_by n (max 3 (length (list_of (tree.more v (tree.more a es))) - 1)) v a es
    (omega (arith, counted _ _ (same_count whole (count_of n whole h))))
    (kinds_of n whole h)
    (left_of (names_label a) _ (not_false _ (names_of n whole h)))
    s where
      whole : Tree
      whole = tree.call (called.Instant function.LabelJoin) (tree.more v (tree.more a es))

timestamp_lawful : (n : ℕ) (es : Trees) → fault_at n (tree.call (called.Instant function.Timestamp) es) ≡ None → is_one es ≡ true
timestamp_lawful n tree.none h = absurd (true≢false (count_of n (tree.call (called.Instant function.Timestamp) tree.none) h))
timestamp_lawful n (tree.more e tree.none) h = refl
timestamp_lawful n (tree.more e (tree.more a es)) h = given (sym longer ∙ same_count whole (count_of n whole h)) where
  whole : Tree
  whole = tree.call (called.Instant function.Timestamp) (tree.more e (tree.more a es))

  longer : nat_eq 1 (suc (suc (length (list_of es)))) ≡ false
  longer = grind (arith, nat_tests)

lawful_call : (n : ℕ) (f : InstantFn) (es : Trees) → are_bounded es ≡ true → fault_at n (tree.call (called.Instant f) es) ≡ None
    → AllSuit es → is_lawful_call f es ≡ true
lawful_call n function.LabelReplace es b h s = replace_lawful n es h s
lawful_call n function.LabelJoin es b h s = join_lawful n es h s
lawful_call n function.Absent es b h s = absent_call es b
lawful_call n function.Timestamp es b h s = timestamp_lawful n es h
lawful_call n _ es b h s = refl

no_range_texts : (k : ℕ) → no_ranges (replicate k Text) ≡ true
no_range_texts zero = refl
no_range_texts (suc k) = no_range_texts k

no_range_round : (b : Bool) → no_ranges (Instant ∷ cond b [] (Scalar ∷ [])) ≡ true
no_range_round true = refl
no_range_round false = refl

wants_no_range : (f : InstantFn) (n : ℕ) → no_ranges (arguments f n) ≡ true
wants_no_range function.Round n = no_range_round (nat_le n 1)
wants_no_range function.LabelJoin n = no_range_texts (max 3 (n - 1))
wants_no_range _ n = refl

kind_of_call : (f : InstantFn) (t : Tree) → is_evaluated t ≡ true → suits (function_kind (called.Instant f)) t ≡ true
kind_of_call function.Scalar t h = h
kind_of_call function.Time t h = h
kind_of_call _ t h = h

instant_suits : (n : ℕ) (f : InstantFn) (es : Trees) → are_bounded es ≡ true → fault_at n (tree.call (called.Instant f) es) ≡ None
    → AllSuit es → suits (function_kind (called.Instant f)) (tree.call (called.Instant f) es) ≡ true
instant_suits n f es b h s =
    kind_of_call f (tree.call (called.Instant f) es)
    (both_of (is_lawful_call f es) (are_arguments es) (lawful_call n f es b h s)
    (arguments_of n (arguments f (length (list_of es))) es (wants_no_range f (length (list_of es)))
    (counted _ _ (same_count (tree.call (called.Instant f) es) (count_of n (tree.call (called.Instant f) es) h)))
    (kinds_of n (tree.call (called.Instant f) es) h) s))

range_suits : (n : ℕ) (f : _) (es : Trees) → fault_at n (tree.call (called.Range f) es) ≡ None → AllSuit es
    → is_range_argument es ≡ true
range_suits n f tree.none h s = absurd (true≢false (count_of n (tree.call (called.Range f) tree.none) h))
range_suits n f (tree.more e tree.none) h s =
    range_of (kind_of e) e (accepted n (only Range) [] e [] (kinds_of n (tree.call (called.Range f) (tree.more e tree.none)) h)) s.0
range_suits n f (tree.more e (tree.more a es)) h s = given (sym longer ∙ same_count whole (count_of n whole h)) where
  whole : Tree
  whole = tree.call (called.Range f) (tree.more e (tree.more a es))

  longer : nat_eq 1 (suc (suc (length (list_of es)))) ≡ false
  longer = grind (arith, nat_tests)

-- ---- aggregations

values_wanted : (op : AggOp) → are_values (aggregation_wants op) ≡ true
values_wanted aggregation.Topk = refl
values_wanted aggregation.Bottomk = refl
values_wanted aggregation.Quantile = refl
values_wanted _ = refl

-- ---- all trees

mutual
  suiting : (n : ℕ) (t : Tree) → is_bounded t ≡ true → first_fault (nodes n t) ≡ None → suits (kind_of t) t ≡ true
  suiting n (tree.number v) b h = refl
  suiting n (tree.text bytes) b h = refl
  suiting n (tree.unary minus e) b h =
      of_sign (kind_of e) minus e
      (accepted n scalar_or_instant [] e []
      (kinds_of n (tree.unary minus e) (of_node n (tree.unary minus e) (second_of_append (nodes (n + 1) e) _ h))))
      (suiting (n + 1) e b (first_of_append (nodes (n + 1) e) _ h))
  suiting n (tree.binary op m l r) b h =
      joint_suits (kind_of l) (kind_of r) (tree.binary op m l r)
      (both_of (list_all is_label_name m.include) (is_evaluated l && is_evaluated r)
      (left_of (list_all is_label_name m.include) (is_bounded l && is_bounded r) b)
      (both_of (is_evaluated l) (is_evaluated r)
      (evaluated_of (kind_of l) l (operator_either op (kind_of l) (accepted n (operator_wants op) (operator_wants op ∷ []) l (r ∷ []) kinds))
      (suiting (n + 1) l (left_of (is_bounded l) (is_bounded r) inner) (first_of_append (nodes (n + 1) l) _ h)))
      (evaluated_of (kind_of r) r
      (operator_either op (kind_of r)
      (accepted n (operator_wants op) [] r [] (others_accepted n (operator_wants op) (operator_wants op ∷ []) l (r ∷ []) kinds)))
      (suiting (n + 1 + size l) r (right_of (is_bounded l) (is_bounded r) inner) (first_of_append (nodes (n + 1 + size l) r) _ behind))))) where
        inner : (is_bounded l && is_bounded r) ≡ true
        inner = right_of (list_all is_label_name m.include) (is_bounded l && is_bounded r) b

        behind : first_fault (nodes (n + 1 + size l) r ++ (record { number = n; tree = tree.binary op m l r } ∷ [])) ≡ None
        behind = second_of_append (nodes (n + 1) l) _ h

        kinds : first_wrong n (operator_wants op ∷ operator_wants op ∷ []) (l ∷ r ∷ []) ≡ None
        kinds = kinds_of n (tree.binary op m l r) (of_node n (tree.binary op m l r) (second_of_append (nodes (n + 1 + size l) r) _ behind))
  suiting n (tree.call (called.Range f) args) b h =
      range_suits n f args (of_node n (tree.call (called.Range f) args) (second_of_append (all_nodes (n + 1) args) _ h))
      (all_suiting (n + 1) args b (first_of_append (all_nodes (n + 1) args) _ h))
  suiting n (tree.call (called.Instant f) args) b h =
      instant_suits n f args b (of_node n (tree.call (called.Instant f) args) (second_of_append (all_nodes (n + 1) args) _ h))
      (all_suiting (n + 1) args b (first_of_append (all_nodes (n + 1) args) _ h))
  suiting n (tree.aggregate op g args) b h =
      values_of n (aggregation_wants op) args (values_wanted op)
      (counted _ _ (same_count (tree.aggregate op g args) (count_of n (tree.aggregate op g args) fault)))
      (kinds_of n (tree.aggregate op g args) fault)
      (all_suiting (n + 1) args b (first_of_append (all_nodes (n + 1) args) _ h)) where
        fault : fault_at n (tree.aggregate op g args) ≡ None
        fault = of_node n (tree.aggregate op g args) (second_of_append (all_nodes (n + 1) args) _ h)
  suiting n (tree.select ms None mods) b h = right_of (name_labels ms) (are_near mods) b
  suiting n (tree.select ms (Some range) mods) b h = b
  suiting n (tree.subquery e range resolution mods) b h =
      both_of (is_evaluated e) (is_distance range && (is_resolution (resolution_or_minute resolution) && are_near mods))
      (evaluated_of (kind_of e) e
      (instant_either (kind_of e)
      (accepted n (only Instant) [] e []
      (kinds_of n (tree.subquery e range resolution mods)
      (of_node n (tree.subquery e range resolution mods) (second_of_append (nodes (n + 1) e) _ h)))))
      (suiting (n + 1) e (left_of (is_bounded e) (is_distance range && (is_resolution (resolution_or_minute resolution) && are_near mods)) b)
      (first_of_append (nodes (n + 1) e) _ h)))
      (right_of (is_bounded e) (is_distance range && (is_resolution (resolution_or_minute resolution) && are_near mods)) b)

  all_suiting : (n : ℕ) (es : Trees) → are_bounded es ≡ true → first_fault (all_nodes n es) ≡ None → AllSuit es
  all_suiting n tree.none b h = tt
  all_suiting n (tree.more e es) b h = (
    suiting n e (left_of (is_bounded e) (are_bounded es) b) (first_of_append (nodes n e) _ h),
    all_suiting (n + size e) es (right_of (is_bounded e) (are_bounded es) b) (second_of_append (nodes n e) _ h),
  )

-- a query whose kinds are lawful is evaluated
pub lawful_is_evaluated : (t : Tree) → is_bounded t ≡ true → asked_fault t ≡ None → is_evaluated t ≡ true
lawful_is_evaluated t b h =
    evaluated_of (kind_of t) t
    (not_false (admits scalar_or_instant (kind_of t)) (not_given (not (admits scalar_or_instant (kind_of t))) _ (second_none (first_fault (postorder t)) _ h)))
    (suiting 0 t b (first_none (first_fault (postorder t)) _ h))
