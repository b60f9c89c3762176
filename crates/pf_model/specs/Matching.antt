-- Binary operators and the matching of vectors. Prometheus, Operators: Binary operators, Vector matching. The order of the
-- errors, and that they come also where a pair gives no element, are this project's own.
use Rattle.std.specs.Prelude.{ℕ, ℤ, pos, int_lt, int_le, Bool, true, false, not, ◌&&◌, ◌||◌, cond, Option, Some, None, List, [], ◌∷◌, ◌++◌, map, filter}
use Rattle.std.specs.List.{list_any}
use Rattle.std.specs.Ordering.{int_eq}
use Rattle.pf_base.specs.Arithmetic.{sum_of, difference, product, quotient, remainder}
use Rattle.pf_base.specs.LabelSets.{Pairs, value_of}
use Rattle.pf_base.specs.LabelChanges.{metric_name, kept, left_out, with_value}
use Rattle.pf_model.specs.declared.cell.Element.{Element}
use Rattle.pf_model.specs.declared.cell.StepCell.{StepCell}
use Rattle.pf_model.specs.declared.cell.StepCell.TheVariants.{Bad}
use Rattle.pf_model.specs.declared.cell.ErrorKind.TheVariants.{DoubleOnOneSide, ManyToMany, GroupingNotUnique}
use Rattle.pf_model.specs.declared.expr.BinaryOp.{BinaryOp}
use Rattle.pf_model.specs.declared.expr.Side.{Side}
use Rattle.pf_model.specs.declared.expr.Side.TheVariants as side
use Rattle.pf_model.specs.declared.functions.Sign.{Sign}
use Rattle.pf_model.specs.declared.functions.Sign.TheVariants.{Add, Sub, Mul, Div, Rem, Equal, NotEqual, Less, LessOrEqual, Greater, GreaterOrEqual, And, Or, Unless}
use Rattle.pf_model.specs.Cells.{element, without_name, has_equal, cell_of}
use Rattle.pf_model.specs.Clauses.{Matched}
use Rattle.pf_model.specs.Lists.{joined}
use Rattle.pf_model.specs.Micros.{one}
use Rattle.pf_model.specs.Selection.{same_labels}

-- a comparison's value: 1 or 0 with `bool`, else one of the operands, and none where it doesn't hold
abbrev pub compared : Bool → ℤ → Bool → Option ℤ
compared true operand holds = Some (cond holds one (pos 0))
compared false operand holds = cond holds (Some operand) None

-- the value of an operator at two operands; `filtered` is the operand that a comparison without `bool` keeps
abbrev pub operated : BinaryOp → ℤ → ℤ → ℤ → Option ℤ
operated op filtered a b = by_sign op.sign where
  by_sign : Sign → Option ℤ
  by_sign Add = Some (sum_of a b)
  by_sign Sub = Some (difference a b)
  by_sign Mul = Some (product a b)
  by_sign Div = quotient a b
  by_sign Rem = remainder a b
  by_sign Equal = compared op.with_bool filtered (int_eq a b)
  by_sign NotEqual = compared op.with_bool filtered (not (int_eq a b))
  by_sign Less = compared op.with_bool filtered (int_lt a b)
  by_sign LessOrEqual = compared op.with_bool filtered (int_le a b)
  by_sign Greater = compared op.with_bool filtered (int_lt b a)
  by_sign GreaterOrEqual = compared op.with_bool filtered (int_le b a)
  by_sign And = None
  by_sign Or = None
  by_sign Unless = None

-- arithmetic drops the metric name, and so does `bool`
abbrev pub is_arithmetic : Sign → Bool
is_arithmetic Add = true
is_arithmetic Sub = true
is_arithmetic Mul = true
is_arithmetic Div = true
is_arithmetic Rem = true
is_arithmetic sign = false

abbrev pub result_labels : BinaryOp → Pairs → Pairs
result_labels op labels = cond (is_arithmetic op.sign || op.with_bool) (without_name labels) labels

-- two scalars, of which none may have a value
abbrev pub of_scalars : BinaryOp → Option ℤ → Option ℤ → Option ℤ
of_scalars op (Some a) (Some b) = operated op a a b
of_scalars op a b = None

-- a scalar beside a vector; a comparison keeps the vector's value
abbrev pub scalar_left : BinaryOp → Option ℤ → List Element → List Element
scalar_left op None es = []
scalar_left op (Some a) es = joined (λ e. element (result_labels op e.labels) (operated op e.value a e.value)) es

abbrev pub scalar_right : BinaryOp → List Element → Option ℤ → List Element
scalar_right op es None = []
scalar_right op es (Some b) = joined (λ e. element (result_labels op e.labels) (operated op e.value e.value b)) es

-- what has to be equal for two elements to match
abbrev pub matching_key : Matched → Pairs → Pairs
matching_key m labels = cond m.on (kept m.labels labels) (left_out (metric_name ∷ m.labels) labels)

abbrev pub keys_of : Matched → List Element → List Pairs
keys_of m es = map (λ e. matching_key m e.labels) es

abbrev pub has_match : Matched → List Element → Element → Bool
has_match m es e = list_any (same_labels (matching_key m e.labels)) (keys_of m es)

-- a left and a right element of equal keys
pub record Pair : Type 0 where
  pub left : Element
  pub right : Element

abbrev pub matches_of : Matched → List Element → Element → List Pair
matches_of m rights l =
    map (λ r. record { left = l; right = r })
    (filter (λ r. same_labels (matching_key m l.labels) (matching_key m r.labels)) rights)

abbrev pub pairs_of : Matched → List Element → List Element → List Pair
pairs_of m lefts rights = joined (matches_of m rights) lefts

-- the labels of the many side, with those of the list taken from the one side
abbrev pub taking : List (List ℕ) → Pairs → Pairs → Pairs
taking [] one_side many = many
taking (name ∷ names) one_side many = taking names one_side (with_value name (value_of one_side name) many)

-- the labels of a pair, before the metric name is dropped
abbrev pub pair_labels : Matched → Pair → Pairs
pair_labels m p = by_side m.side where
  by_side : Side → Pairs
  by_side side.One = cond m.on (kept m.labels p.left.labels) (left_out m.labels p.left.labels)
  by_side side.Left = taking m.include p.right.labels p.left.labels
  by_side side.Right = taking m.include p.left.labels p.right.labels

-- the elements of the one side
abbrev pub one_side : Side → List Element → List Element → List Element
one_side side.One lefts rights = rights
one_side side.Left lefts rights = rights
one_side side.Right lefts rights = lefts

abbrev pub is_grouping : Side → Bool
is_grouping side.One = false
is_grouping s = true

-- two left elements have equal keys that a right one has
abbrev pub many_to_many : Matched → List Element → List Element → Bool
many_to_many m lefts rights = has_equal (keys_of m (filter (has_match m rights) lefts))

-- arithmetic and comparison: the first error, or an element for each pair with a value
abbrev pub joined_pairs : BinaryOp → Matched → List Element → List Element → StepCell
joined_pairs op m lefts rights =
    let pairs = pairs_of m lefts rights in
    cond (has_equal (keys_of m (one_side m.side lefts rights))) (Bad DoubleOnOneSide)
    (cond (not (is_grouping m.side) && many_to_many m lefts rights) (Bad ManyToMany)
    (cond (is_grouping m.side && has_equal (map (λ p. result_labels op (pair_labels m p)) pairs)) (Bad GroupingNotUnique)
    (cell_of (joined (λ p. element (result_labels op (pair_labels m p)) (operated op p.left.value p.left.value p.right.value)) pairs))))

-- the value of an operator at two vectors
abbrev pub join : BinaryOp → Matched → List Element → List Element → StepCell
join op m lefts rights = by_sign op.sign where
  by_sign : Sign → StepCell
  by_sign And = cell_of (filter (has_match m rights) lefts)
  by_sign Or = cell_of (lefts ++ filter (λ r. not (has_match m lefts r)) rights)
  by_sign Unless = cell_of (filter (λ l. not (has_match m rights l)) lefts)
  by_sign sign = joined_pairs op m lefts rights
