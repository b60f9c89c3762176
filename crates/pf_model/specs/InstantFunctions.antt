-- The functions of instant vectors, scalars and texts. Prometheus, Query functions. The forms in whole micros are this
-- project's own.
use Rattle.std.specs.Prelude.{ℕ, ◌*◌, ℤ, pos, neg_ℤ, ◌+ℤ◌, ◌*ℤ◌, int_lt, unsigned_abs, Bool, true, false, ◌&&◌, not, cond, Option, Some, None, List, [], ◌∷◌, ◌++◌, map, filter, nat_eq, count_by}
use Rattle.std.specs.Int.{int_min, int_max}
use Rattle.std.specs.Str.{bytes_eq}
use Rattle.pf_base.specs.Arithmetic.{clamp}
use Rattle.pf_base.specs.LabelSets.{Pairs, value_of}
use Rattle.pf_base.specs.LabelChanges.{metric_name, with_value}
use Rattle.pf_model.specs.declared.cell.Element.{Element}
use Rattle.pf_model.specs.declared.expr.Matcher.{Matcher}
use Rattle.pf_model.specs.declared.expr.MatchSign.{MatchSign}
use Rattle.pf_model.specs.declared.expr.MatchSign.TheVariants as match_sign
use Rattle.pf_model.specs.declared.functions.InstantFn.{InstantFn}
use Rattle.pf_model.specs.declared.functions.InstantFn.TheVariants.{Abs, Ceil, Floor, Sgn, Round, Clamp, ClampMin, ClampMax, Absent, Scalar, Vector, Time, Timestamp, LabelReplace, LabelJoin}
use Rattle.pf_model.specs.Cells.{element, without_name}
use Rattle.pf_model.specs.Lists.{joined}
use Rattle.pf_model.specs.Micros.{one, seconds, cut_down}

-- what a call has beside its vector: the time, the scalars and the texts in order (a scalar may have no value), what the
-- pattern of `label_replace` makes of a value and a replacement, where it matches the whole value, and the labels of
-- `absent`
pub record Beside : Type 0 where
  pub time : ℤ
  pub scalars : List (Option ℤ)
  pub texts : List (List ℕ)
  pub expand : List ℕ → List ℕ → Option (List ℕ)
  pub absent : Pairs

-- to whole units, down and up
abbrev pub floor : ℤ → ℤ
floor v = clamp (cut_down v 1000000 *ℤ one)

abbrev pub ceil : ℤ → ℤ
ceil v = neg_ℤ (floor (neg_ℤ v))

abbrev pub sign_of : ℤ → ℤ
sign_of v = cond (int_lt (pos 0) v) one (cond (int_lt v (pos 0)) (neg_ℤ one) (pos 0))

-- to the nearest multiple, ties upward; there is none of 0
abbrev pub rounded : ℕ → ℤ → Option ℤ
rounded s v = cond (nat_eq s 0) None (Some (clamp (cut_down (pos 2 *ℤ v +ℤ pos s) (2 * s) *ℤ pos s)))

-- moved into the bounds, and nothing where they are crossed
abbrev pub bounded : ℤ → ℤ → ℤ → Option ℤ
bounded lo hi v = cond (int_lt hi lo) None (Some (int_max lo (int_min v hi)))

-- a function of one value and its scalars; a scalar without a value gives nothing
abbrev pub round_by : List (Option ℤ) → ℤ → Option ℤ
round_by [] v = rounded 1000000 v
round_by (None ∷ rest) v = None
round_by (Some s ∷ rest) v = rounded (unsigned_abs s) v

abbrev pub clamp_by : List (Option ℤ) → ℤ → Option ℤ
clamp_by (Some lo ∷ Some hi ∷ rest) v = bounded lo hi v
clamp_by scalars v = None

abbrev pub with_scalar : (ℤ → ℤ → ℤ) → List (Option ℤ) → ℤ → Option ℤ
with_scalar f (Some s ∷ rest) v = Some (f s v)
with_scalar f scalars v = None

-- a value for each element, which then has no metric name
abbrev pub each_value : (ℤ → Option ℤ) → List Element → List Element
each_value f es = joined (λ e. element (without_name e.labels) (f e.value)) es

-- the scalar that a call begins with
abbrev pub first_scalar : List (Option ℤ) → Option ℤ
first_scalar [] = None
first_scalar (s ∷ rest) = s

-- the value of a vector of exactly one element
abbrev pub only_value : List Element → Option ℤ
only_value (e ∷ []) = Some e.value
only_value es = None

abbrev pub absent_of : Pairs → List Element → List Element
absent_of labels [] = element labels (Some one)
absent_of labels (e ∷ es) = []

-- the texts with a separator between them
abbrev pub joined_by : List ℕ → List (List ℕ) → List ℕ
joined_by separator [] = []
joined_by separator (t ∷ []) = t
joined_by separator (t ∷ u ∷ us) = t ++ (separator ++ joined_by separator (u ∷ us))

-- a new value of one label, where there is one; the empty value takes the label out
abbrev pub relabelled : List ℕ → Option (List ℕ) → Pairs → Pairs
relabelled name None labels = labels
relabelled name (Some value) labels = with_value name value labels

abbrev pub each_label : List ℕ → (Pairs → Option (List ℕ)) → List Element → List Element
each_label name value es = map (λ e. record { labels = relabelled name (value e.labels) e.labels; value = e.value }) es

-- the texts are the target, the replacement, the source and the pattern
abbrev pub label_replace : (List ℕ → List ℕ → Option (List ℕ)) → List (List ℕ) → List Element → List Element
label_replace expand (target ∷ replacement ∷ source ∷ rest) es =
    each_label target (λ labels. expand (value_of labels source) replacement) es
label_replace expand texts es = es

-- the texts are the target, the separator and the sources
abbrev pub label_join : List (List ℕ) → List Element → List Element
label_join (target ∷ separator ∷ sources) es =
    each_label target (λ labels. Some (joined_by separator (map (value_of labels) sources))) es
label_join texts es = es

-- the elements that a function gives of a vector; a scalar is an element without labels, or none
abbrev pub instant_function : InstantFn → Beside → List Element → List Element
instant_function Abs b es = each_value (λ v. Some (pos (unsigned_abs v))) es
instant_function Ceil b es = each_value (λ v. Some (ceil v)) es
instant_function Floor b es = each_value (λ v. Some (floor v)) es
instant_function Sgn b es = each_value (λ v. Some (sign_of v)) es
instant_function Round b es = each_value (round_by b.scalars) es
instant_function Clamp b es = each_value (clamp_by b.scalars) es
instant_function ClampMin b es = each_value (with_scalar int_max b.scalars) es
instant_function ClampMax b es = each_value (with_scalar int_min b.scalars) es
instant_function Absent b es = absent_of b.absent es
instant_function Scalar b es = element [] (only_value es)
instant_function Vector b es = element [] (first_scalar b.scalars)
instant_function Time b es = element [] (Some (seconds b.time))
instant_function Timestamp b es = each_value (λ v. Some (seconds b.time)) es
instant_function LabelReplace b es = label_replace b.expand b.texts es
instant_function LabelJoin b es = label_join b.texts es

-- the label that a matcher gives to `absent`: one named by no other matcher, with `=`, and not the metric name
abbrev pub is_equal_sign : MatchSign → Bool
is_equal_sign match_sign.Equal = true
is_equal_sign s = false

abbrev pub names_alone : List Matcher → Matcher → Bool
names_alone ms m = nat_eq (count_by (λ n. bytes_eq n.label m.label) ms) 1

abbrev pub is_absent_label : List Matcher → Matcher → Bool
is_absent_label ms m = is_equal_sign m.sign && names_alone ms m && not (bytes_eq m.label metric_name)

-- the labels of `absent` where its vector is a selector; an empty value is no label
abbrev pub with_matchers : List Matcher → Pairs → Pairs
with_matchers [] labels = labels
with_matchers (m ∷ ms) labels = with_value m.label m.text (with_matchers ms labels)

abbrev pub absent_labels : List Matcher → Pairs
absent_labels ms = with_matchers (filter (is_absent_label ms) ms) []
