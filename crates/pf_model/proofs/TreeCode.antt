-- How a tree is told from others where a model's value holds one: a code, which no contract cites. This project's own.
use Rattle.std.specs.Prelude.{◌≡◌, ℕ, ℤ, Bool, true, false, cond, nat_eq, List, [], ◌∷◌, Option}
use Rattle.std.specs.Coded.{coded×, coded_option, code_by}
use Rattle.std.specs.Str.{bytes_eq}
use mathlib.Core.Path.{refl, sym, ap, subst}
use base.Stored.{Gv, gnil, gnum, gcons, num, Coded, coded_ℕ, coded_ℤ, coded_bool, coded_list}
use Rattle.pf_model.specs.declared.expr.At.{At}
use Rattle.pf_model.specs.declared.expr.At.TheVariants as at
use Rattle.pf_model.specs.declared.expr.BinaryOp.{BinaryOp}
use Rattle.pf_model.specs.declared.expr.Function.{Function}
use Rattle.pf_model.specs.declared.expr.Function.TheVariants as called
use Rattle.pf_model.specs.declared.expr.Matcher.{Matcher}
use Rattle.pf_model.specs.declared.expr.MatchSign.{MatchSign}
use Rattle.pf_model.specs.declared.expr.MatchSign.TheVariants as match
use Rattle.pf_model.specs.declared.expr.Mods.{Mods}
use Rattle.pf_model.specs.declared.expr.Side.{Side}
use Rattle.pf_model.specs.declared.expr.Side.TheVariants as side
use Rattle.pf_model.specs.declared.functions.AggOp.{AggOp}
use Rattle.pf_model.specs.declared.functions.AggOp.TheVariants as aggregation
use Rattle.pf_model.specs.declared.functions.InstantFn.TheVariants as instant
use Rattle.pf_model.specs.declared.functions.RangeFn.TheVariants as ranged
use Rattle.pf_model.specs.declared.functions.Sign.{Sign}
use Rattle.pf_model.specs.declared.functions.Sign.TheVariants as operator
use Rattle.pf_model.specs.Clauses.{Grouped, Matched}
use Rattle.pf_model.specs.Trees.{Tree, Trees, number, text, unary, binary, call, aggregate, select, subquery, none, more}
use Rattle.pf_model.specs.Words.{functions, function_name, aggregation_word, operator_text, match_text}

-- ---- words and signs are told by their texts

abbrev pub named_in : {A : Type 0} → (A → List ℕ) → A → List A → List ℕ → A
named_in name otherwise [] word = otherwise
named_in name otherwise (x ∷ xs) word = cond (bytes_eq (name x) word) x (named_in name otherwise xs word)

abbrev pub bytes_code : Coded (List ℕ)
bytes_code = coded_list coded_ℕ

abbrev pub all_operators : List Sign
all_operators = operator.Add ∷ operator.Sub ∷ operator.Mul ∷ operator.Div ∷ operator.Rem ∷ operator.Equal ∷ operator.NotEqual ∷ operator.Less ∷ operator.LessOrEqual ∷ operator.Greater ∷ operator.GreaterOrEqual ∷ operator.And ∷ operator.Or ∷ operator.Unless ∷ []

pub operator_back : (x : Sign) → named_in operator_text operator.Add all_operators (operator_text x) ≡ x
operator_back operator.Add = refl
operator_back operator.Sub = refl
operator_back operator.Mul = refl
operator_back operator.Div = refl
operator_back operator.Rem = refl
operator_back operator.Equal = refl
operator_back operator.NotEqual = refl
operator_back operator.Less = refl
operator_back operator.LessOrEqual = refl
operator_back operator.Greater = refl
operator_back operator.GreaterOrEqual = refl
operator_back operator.And = refl
operator_back operator.Or = refl
operator_back operator.Unless = refl

abbrev pub operator_code : Coded Sign
operator_code = code_by (List ℕ) bytes_code operator_text (named_in operator_text operator.Add all_operators) operator_back

abbrev pub all_aggregations : List AggOp
all_aggregations = aggregation.Sum ∷ aggregation.Avg ∷ aggregation.Min ∷ aggregation.Max ∷ aggregation.Count ∷ aggregation.Group ∷ aggregation.Topk ∷ aggregation.Bottomk ∷ aggregation.Quantile ∷ []

pub aggregation_back : (x : AggOp) → named_in aggregation_word aggregation.Sum all_aggregations (aggregation_word x) ≡ x
aggregation_back aggregation.Sum = refl
aggregation_back aggregation.Avg = refl
aggregation_back aggregation.Min = refl
aggregation_back aggregation.Max = refl
aggregation_back aggregation.Count = refl
aggregation_back aggregation.Group = refl
aggregation_back aggregation.Topk = refl
aggregation_back aggregation.Bottomk = refl
aggregation_back aggregation.Quantile = refl

abbrev pub aggregation_code : Coded AggOp
aggregation_code = code_by (List ℕ) bytes_code aggregation_word (named_in aggregation_word aggregation.Sum all_aggregations) aggregation_back

abbrev pub all_matchs : List MatchSign
all_matchs = match.Equal ∷ match.NotEqual ∷ match.Like ∷ match.NotLike ∷ []

pub match_back : (x : MatchSign) → named_in match_text match.Equal all_matchs (match_text x) ≡ x
match_back match.Equal = refl
match_back match.NotEqual = refl
match_back match.Like = refl
match_back match.NotLike = refl

abbrev pub match_code : Coded MatchSign
match_code = code_by (List ℕ) bytes_code match_text (named_in match_text match.Equal all_matchs) match_back

pub function_back : (x : Function) → named_in function_name (called.Range ranged.Increase) functions (function_name x) ≡ x
function_back (called.Range ranged.Increase) = refl
function_back (called.Range ranged.Rate) = refl
function_back (called.Range ranged.Delta) = refl
function_back (called.Range ranged.Irate) = refl
function_back (called.Range ranged.Idelta) = refl
function_back (called.Range ranged.Changes) = refl
function_back (called.Range ranged.Resets) = refl
function_back (called.Range ranged.AvgOverTime) = refl
function_back (called.Range ranged.SumOverTime) = refl
function_back (called.Range ranged.MinOverTime) = refl
function_back (called.Range ranged.MaxOverTime) = refl
function_back (called.Range ranged.CountOverTime) = refl
function_back (called.Range ranged.LastOverTime) = refl
function_back (called.Range ranged.PresentOverTime) = refl
function_back (called.Range ranged.AbsentOverTime) = refl
function_back (called.Instant instant.Abs) = refl
function_back (called.Instant instant.Ceil) = refl
function_back (called.Instant instant.Floor) = refl
function_back (called.Instant instant.Sgn) = refl
function_back (called.Instant instant.Round) = refl
function_back (called.Instant instant.Clamp) = refl
function_back (called.Instant instant.ClampMin) = refl
function_back (called.Instant instant.ClampMax) = refl
function_back (called.Instant instant.Absent) = refl
function_back (called.Instant instant.Scalar) = refl
function_back (called.Instant instant.Vector) = refl
function_back (called.Instant instant.Time) = refl
function_back (called.Instant instant.Timestamp) = refl
function_back (called.Instant instant.LabelReplace) = refl
function_back (called.Instant instant.LabelJoin) = refl

abbrev pub function_code : Coded Function
function_code = code_by (List ℕ) bytes_code function_name (named_in function_name (called.Range ranged.Increase) functions) function_back

-- ---- records are told by their fields

abbrev pub binary_code : Coded BinaryOp
binary_code =
    code_by (Sign × Bool) (coded× operator_code coded_bool) (λ op. (op.sign, op.with_bool))
    (λ p. record { sign = p.0; with_bool = p.1 }) (λ _. refl)

abbrev pub side_number : Side → ℕ
side_number side.One = 0
side_number side.Left = 1
side_number side.Right = 2

abbrev pub side_of_number : ℕ → Side
side_of_number n = cond (nat_eq n 0) side.One (cond (nat_eq n 1) side.Left side.Right)

pub side_back : (s : Side) → side_of_number (side_number s) ≡ s
side_back side.One = refl
side_back side.Left = refl
side_back side.Right = refl

abbrev pub side_code : Coded Side
side_code = code_by ℕ coded_ℕ side_number side_of_number side_back

abbrev pub labels_code : Coded (List (List ℕ))
labels_code = coded_list bytes_code

abbrev pub matched_code : Coded Matched
matched_code =
    code_by ((Bool × List (List ℕ)) × (Side × List (List ℕ)))
    (coded× (coded× coded_bool labels_code) (coded× side_code labels_code))
    (λ m. ((m.on, m.labels), (m.side, m.include)))
    (λ p. record { on = p.0.0; labels = p.0.1; side = p.1.0; include = p.1.1 }) (λ _. refl)

abbrev pub grouped_code : Coded Grouped
grouped_code =
    code_by (Bool × List (List ℕ)) (coded× coded_bool labels_code) (λ g. (g.without, g.labels))
    (λ p. record { without = p.0; labels = p.1 }) (λ _. refl)

abbrev pub matcher_code : Coded Matcher
matcher_code =
    code_by (List ℕ × (MatchSign × List ℕ)) (coded× bytes_code (coded× match_code bytes_code))
    (λ m. (m.label, (m.sign, m.text))) (λ p. record { label = p.0; sign = p.1.0; text = p.1.1 }) (λ _. refl)

abbrev pub matchers_code : Coded (List Matcher)
matchers_code = coded_list matcher_code

abbrev pub at_pair : At → ℕ × ℕ
at_pair (at.Time millis) = (0, millis)
at_pair at.Start = (1, 0)
at_pair at.End = (2, 0)

abbrev pub at_of_pair : ℕ × ℕ → At
at_of_pair p = cond (nat_eq p.0 0) (at.Time p.1) (cond (nat_eq p.0 1) at.Start at.End)

pub at_back : (a : At) → at_of_pair (at_pair a) ≡ a
at_back (at.Time millis) = refl
at_back at.Start = refl
at_back at.End = refl

abbrev pub at_code : Coded At
at_code = code_by (ℕ × ℕ) (coded× coded_ℕ coded_ℕ) at_pair at_of_pair at_back

abbrev pub mods_code : Coded Mods
mods_code =
    code_by (Option At × ℤ) (coded× (coded_option at_code) coded_ℤ) (λ m. (m.at, m.offset))
    (λ p. record { at = p.0; offset = p.1 }) (λ _. refl)

abbrev pub range_code : Coded (Option ℕ)
range_code = coded_option coded_ℕ

-- ---- trees are told by their nodes

abbrev pub head : Gv → Gv
head gnil = gnil
head (gnum n) = gnil
head (gcons a b) = a

abbrev pub tail : Gv → Gv
tail gnil = gnil
tail (gnum n) = gnil
tail (gcons a b) = b

abbrev pub IsCons : Gv → Type 0
IsCons gnil = ⊥
IsCons (gnum n) = ⊥
IsCons (gcons a b) = Unit {0}

abbrev pub Holds : Bool → Type 0
Holds true = Unit {0}
Holds false = ⊥

-- the first part is this number
abbrev pub Has : ℕ → Gv → Type 0
Has n g = Holds (nat_eq n (num (head g)))

abbrev mutual
  pub tree_gv : Tree → Gv
  tree_gv (number z) = gcons (gnum 0) (coded_ℤ.code z)
  tree_gv (text bytes) = gcons (gnum 1) (bytes_code.code bytes)
  tree_gv (unary m e) = gcons (gnum 2) (gcons (coded_bool.code m) (tree_gv e))
  tree_gv (binary op m a b) =
      gcons (gnum 3) (gcons (binary_code.code op) (gcons (matched_code.code m) (gcons (tree_gv a) (tree_gv b))))
  tree_gv (call f es) = gcons (gnum 4) (gcons (function_code.code f) (trees_gv es))
  tree_gv (aggregate op g es) = gcons (gnum 5) (gcons (aggregation_code.code op) (gcons (grouped_code.code g) (trees_gv es)))
  tree_gv (select ms range mods) =
      gcons (gnum 6) (gcons (matchers_code.code ms) (gcons (range_code.code range) (mods_code.code mods)))
  tree_gv (subquery e range resolution mods) =
      gcons (gnum 7) (gcons (tree_gv e) (gcons (gnum range) (gcons (range_code.code resolution) (mods_code.code mods))))

  pub trees_gv : Trees → Gv
  trees_gv none = gnil
  trees_gv (more e es) = gcons (tree_gv e) (trees_gv es)

mutual
  pub tree_inj : (x y : Tree) → tree_gv x ≡ tree_gv y → x ≡ y
  tree_inj (number z) (number w) p = ap number (coded_ℤ.inj z w (ap tail p))
  tree_inj (number z) y p = absurd (subst (Has 0) p tt)
  tree_inj (text b) (text c) p = ap text (bytes_code.inj b c (ap tail p))
  tree_inj (text b) y p = absurd (subst (Has 1) p tt)
  tree_inj (unary m e) (unary n f) p =
      λ i. unary (coded_bool.inj m n (ap (λ g. head (tail g)) p) i) (tree_inj e f (ap (λ g. tail (tail g)) p) i)
  tree_inj (unary m e) y p = absurd (subst (Has 2) p tt)
  tree_inj (binary op m a b) (binary oq n c d) p =
      λ i. binary (binary_code.inj op oq (ap (λ g. head (tail g)) p) i)
      (matched_code.inj m n (ap (λ g. head (tail (tail g))) p) i)
      (tree_inj a c (ap (λ g. head (tail (tail (tail g)))) p) i) (tree_inj b d (ap (λ g. tail (tail (tail (tail g)))) p) i)
  tree_inj (binary op m a b) y p = absurd (subst (Has 3) p tt)
  tree_inj (call f es) (call h fs) p =
      λ i. call (function_code.inj f h (ap (λ g. head (tail g)) p) i) (trees_inj es fs (ap (λ g. tail (tail g)) p) i)
  tree_inj (call f es) y p = absurd (subst (Has 4) p tt)
  tree_inj (aggregate op g es) (aggregate oq h fs) p =
      λ i. aggregate (aggregation_code.inj op oq (ap (λ g. head (tail g)) p) i)
      (grouped_code.inj g h (ap (λ g. head (tail (tail g))) p) i) (trees_inj es fs (ap (λ g. tail (tail (tail g))) p) i)
  tree_inj (aggregate op g es) y p = absurd (subst (Has 5) p tt)
  tree_inj (select ms r mods) (select ns s nods) p =
      λ i. select (matchers_code.inj ms ns (ap (λ g. head (tail g)) p) i)
      (range_code.inj r s (ap (λ g. head (tail (tail g))) p) i) (mods_code.inj mods nods (ap (λ g. tail (tail (tail g))) p) i)
  tree_inj (select ms r mods) y p = absurd (subst (Has 6) p tt)
  tree_inj (subquery e n r mods) (subquery f m s nods) p =
      λ i. subquery (tree_inj e f (ap (λ g. head (tail g)) p) i) (ap (λ g. num (head (tail (tail g)))) p i)
      (range_code.inj r s (ap (λ g. head (tail (tail (tail g)))) p) i)
      (mods_code.inj mods nods (ap (λ g. tail (tail (tail (tail g)))) p) i)
  tree_inj (subquery e n r mods) y p = absurd (subst (Has 7) p tt)

  pub trees_inj : (x y : Trees) → trees_gv x ≡ trees_gv y → x ≡ y
  trees_inj none none p = λ i. none
  trees_inj none (more f fs) p = absurd (subst IsCons (sym p) tt)
  trees_inj (more e es) none p = absurd (subst IsCons p tt)
  trees_inj (more e es) (more f fs) p = λ i. more (tree_inj e f (ap head p) i) (trees_inj es fs (ap tail p) i)

abbrev pub coded_tree : Coded Tree
coded_tree = record { code = tree_gv; inj = tree_inj }
