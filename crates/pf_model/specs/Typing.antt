-- The kinds of queries, and the first node that breaks a rule. Prometheus, Querying basics: Expression language data types;
-- Operators; Functions. The faults and their order are this project's own.
use Rattle.std.specs.Prelude.{ℕ, ◌-◌, ◌*◌, ◌&&◌, ◌||◌, max, Bool, true, false, not, cond, List, [], ◌∷◌, ◌++◌, drop, length, map, replicate, take, nat_eq, nat_le, nat_lt, Option, Some, None, Result, Ok, Err, unwrap_or}
use Rattle.std.specs.List.{list_all, list_any}
use Rattle.std.specs.Option.{option_or}
use Rattle.std.specs.Str.{bytes_eq}
use Rattle.pf_base.specs.LabelSets.{is_label_name}
use Rattle.pf_base.specs.Limits.{minute, most_steps}
use Rattle.pf_model.specs.Cuts.{only_if}
use Rattle.pf_model.specs.declared.expr.BinaryOp.{BinaryOp}
use Rattle.pf_model.specs.declared.expr.Function.{Function}
use Rattle.pf_model.specs.declared.expr.Function.TheVariants as called
use Rattle.pf_model.specs.declared.expr.Kind.{Kind}
use Rattle.pf_model.specs.declared.expr.Kind.TheVariants.{Scalar, Instant, Range, Text}
use Rattle.pf_model.specs.declared.functions.AggOp.{AggOp}
use Rattle.pf_model.specs.declared.functions.AggOp.TheVariants as aggregation
use Rattle.pf_model.specs.declared.functions.InstantFn.{InstantFn}
use Rattle.pf_model.specs.declared.functions.InstantFn.TheVariants as function
use Rattle.pf_model.specs.Canonical.{is_one}
use Rattle.pf_model.specs.Clauses.{Matched}
use Rattle.pf_model.specs.Grammar.{is_nil}
use Rattle.pf_model.specs.Trees.{Tree, Trees, number, text, unary, binary, call, aggregate, select, subquery, none, more, Node, postorder}
use Rattle.pf_model.specs.Words.{is_comparison, is_set_operator}

abbrev pub same_kind : Kind → Kind → Bool
same_kind Scalar Scalar = true
same_kind Instant Instant = true
same_kind Range Range = true
same_kind Text Text = true
same_kind _ _ = false

-- ---- the kind of a query whose operands break no rule

abbrev pub function_kind : Function → Kind
function_kind (called.Range f) = Instant
function_kind (called.Instant function.Scalar) = Scalar
function_kind (called.Instant function.Time) = Scalar
function_kind (called.Instant _) = Instant

-- of two scalars a scalar, else a vector
abbrev pub joint_kind : Kind → Kind → Kind
joint_kind Scalar Scalar = Scalar
joint_kind _ _ = Instant

abbrev pub kind_of : Tree → Kind
kind_of (number micros) = Scalar
kind_of (text bytes) = Text
kind_of (unary minus e) = kind_of e
kind_of (binary op matching a b) = joint_kind (kind_of a) (kind_of b)
kind_of (call f args) = function_kind f
kind_of (aggregate op grouping args) = Instant
kind_of (select ms None mods) = Instant
kind_of (select ms (Some range) mods) = Range
kind_of (subquery e range resolution mods) = Range

-- ---- what a node wants of its operands

-- one kind, or a scalar or an instant vector
pub data Wanted : Type 0 where
  only : Kind → Wanted
  scalar_or_instant : Wanted

abbrev pub admits : Wanted → Kind → Bool
admits (only k) found = same_kind k found
admits scalar_or_instant found = same_kind Scalar found || same_kind Instant found

abbrev pub named_kind : Wanted → Kind
named_kind (only k) = k
named_kind scalar_or_instant = Instant

-- what a function wants of its arguments, where so many are given
abbrev pub arguments : InstantFn → ℕ → List Kind
arguments function.Abs n = Instant ∷ []
arguments function.Ceil n = Instant ∷ []
arguments function.Floor n = Instant ∷ []
arguments function.Sgn n = Instant ∷ []
arguments function.Round n = Instant ∷ cond (nat_le n 1) [] (Scalar ∷ [])
arguments function.Clamp n = Instant ∷ Scalar ∷ Scalar ∷ []
arguments function.ClampMin n = Instant ∷ Scalar ∷ []
arguments function.ClampMax n = Instant ∷ Scalar ∷ []
arguments function.Absent n = Instant ∷ []
arguments function.Scalar n = Instant ∷ []
arguments function.Vector n = Scalar ∷ []
arguments function.Time n = []
arguments function.Timestamp n = Instant ∷ []
arguments function.LabelReplace n = Instant ∷ Text ∷ Text ∷ Text ∷ Text ∷ []
arguments function.LabelJoin n = Instant ∷ replicate (max 3 (n - 1)) Text

abbrev pub function_wants : Function → ℕ → List Kind
function_wants (called.Range f) n = Range ∷ []
function_wants (called.Instant f) n = arguments f n

abbrev pub aggregation_wants : AggOp → List Kind
aggregation_wants aggregation.Topk = Scalar ∷ Instant ∷ []
aggregation_wants aggregation.Bottomk = Scalar ∷ Instant ∷ []
aggregation_wants aggregation.Quantile = Scalar ∷ Instant ∷ []
aggregation_wants _ = Instant ∷ []

abbrev pub operator_wants : BinaryOp → Wanted
operator_wants op = cond (is_set_operator op.sign) (only Instant) scalar_or_instant

abbrev pub list_of : Trees → List Tree
list_of none = []
list_of (more e es) = e ∷ list_of es

abbrev pub operands : Tree → List Tree
operands (number micros) = []
operands (text bytes) = []
operands (unary minus e) = e ∷ []
operands (binary op matching a b) = a ∷ b ∷ []
operands (call f args) = list_of args
operands (aggregate op grouping args) = list_of args
operands (select ms range mods) = []
operands (subquery e range resolution mods) = e ∷ []

abbrev pub wants : Tree → List Wanted
wants (number micros) = []
wants (text bytes) = []
wants (unary minus e) = scalar_or_instant ∷ []
wants (binary op matching a b) = operator_wants op ∷ operator_wants op ∷ []
wants (call f args) = map only (function_wants f (length (list_of args)))
wants (aggregate op grouping args) = map only (aggregation_wants op)
wants (select ms range mods) = []
wants (subquery e range resolution mods) = only Instant ∷ []

-- ---- the rules of one node in order

-- which rule is broken at the node of this preorder number
pub data TypeFault : Type 0 where
  arg_count : (at : ℕ) → TypeFault
  wrong : (at : ℕ) → (wanted : Kind) → (found : Kind) → TypeFault
  bad_name : (at : ℕ) → TypeFault
  bool_needed : (at : ℕ) → TypeFault
  bad_matching : (at : ℕ) → TypeFault
  subquery_too_fine : (at : ℕ) → TypeFault

abbrev pub has_wrong_count : Tree → Bool
has_wrong_count t = not (nat_eq (length (wants t)) (length (operands t)))

-- the first operand from the left that is not of a wanted kind
abbrev pub first_wrong : ℕ → List Wanted → List Tree → Option TypeFault
first_wrong n [] es = None
first_wrong n (w ∷ ws) [] = None
first_wrong n (w ∷ ws) (e ∷ es) =
    option_or (only_if (not (admits w (kind_of e))) (wrong n (named_kind w) (kind_of e))) (first_wrong n ws es)

-- the arguments that name labels: the target, and the source or the sources
abbrev pub label_arguments : Function → List Tree → List Tree
label_arguments (called.Range f) args = []
label_arguments (called.Instant function.LabelReplace) args = take 1 (drop 1 args) ++ take 1 (drop 3 args)
label_arguments (called.Instant function.LabelJoin) args = take 1 (drop 1 args) ++ drop 3 args
label_arguments (called.Instant _) args = []

abbrev pub names_label : Tree → Bool
names_label (text bytes) = is_label_name bytes
names_label _ = false

abbrev pub has_bad_name : Tree → Bool
has_bad_name (call f args) = not (list_all names_label (label_arguments f (list_of args)))
has_bad_name _ = false

-- a comparison of two scalars without `bool`
abbrev pub lacks_bool : Tree → Bool
lacks_bool (binary op matching a b) =
    is_comparison op.sign && same_kind Scalar (kind_of a) && same_kind Scalar (kind_of b) && not op.with_bool
lacks_bool _ = false

abbrev pub has_common : List (List ℕ) → List (List ℕ) → Bool
has_common ls ms = list_any (λ l. list_any (bytes_eq l) ms) ls

-- labels or grouping where not both operands are vectors, grouping on a set operator, or a label both in `on` and in the
-- grouping's list
abbrev pub mismatches : BinaryOp → Matched → (vectors : Bool) → Bool
mismatches op m vectors =
    (not vectors && not (is_nil m.labels && is_one m.side))
    || (is_set_operator op.sign && not (is_one m.side))
    || (m.on && has_common m.labels m.include)

abbrev pub has_bad_matching : Tree → Bool
has_bad_matching (binary op m a b) = mismatches op m (same_kind Instant (kind_of a) && same_kind Instant (kind_of b))
has_bad_matching _ = false

-- the range is over 11,000 resolutions; an absent one is a minute
abbrev pub is_too_fine : Tree → Bool
is_too_fine (subquery e range resolution mods) = nat_lt (most_steps * unwrap_or resolution minute) range
is_too_fine _ = false

abbrev pub fault_at : ℕ → Tree → Option TypeFault
fault_at n t =
    option_or (only_if (has_wrong_count t) (arg_count n))
    (option_or (first_wrong n (wants t) (operands t))
    (option_or (only_if (has_bad_name t) (bad_name n))
    (option_or (only_if (lacks_bool t) (bool_needed n))
    (option_or (only_if (has_bad_matching t) (bad_matching n)) (only_if (is_too_fine t) (subquery_too_fine n))))))

-- ---- the answers

-- the fault of the first node that breaks a rule
abbrev pub first_fault : List Node → Option TypeFault
first_fault [] = None
first_fault (n ∷ ns) = option_or (fault_at n.number n.tree) (first_fault ns)

abbrev pub unless : Option TypeFault → Kind → Result Kind TypeFault
unless None k = Ok k
unless (Some f) k = Err f

-- the kind of a query, or the fault of the first node in post-order that breaks a rule
abbrev pub typing : Tree → Result Kind TypeFault
typing t = unless (first_fault (postorder t)) (kind_of t)

-- what is asked is a scalar or an instant vector
abbrev pub asked_fault : Tree → Option TypeFault
asked_fault t =
    option_or (first_fault (postorder t)) (only_if (not (admits scalar_or_instant (kind_of t))) (wrong 0 Instant (kind_of t)))
