-- The functions of each element by itself. Prometheus, Query functions.
use Rattle.std.specs.Prelude.{◌≡◌, ℤ, pos, unsigned_abs, Bool, true, false, Option, Some, None, List}
use Rattle.std.specs.Int.{int_max, int_min}
use Rattle.pf_model.specs.declared.cell.Element.{Element}
use Rattle.pf_model.specs.declared.functions.InstantFn.{InstantFn}
use Rattle.pf_model.specs.declared.functions.InstantFn.TheVariants.{Abs, Ceil, Floor, Sgn, Round, Clamp, ClampMin, ClampMax, Timestamp}
use Rattle.pf_model.specs.InstantFunctions.{Beside, bounded, ceil, clamp_by, each_value, floor, instant_function, round_by, rounded, sign_of, with_scalar}
use Rattle.pf_model.specs.Micros.{seconds}
use Rattle.pf_math.specs.declared.values.Change.{Change}
use Rattle.pf_math.specs.declared.values.Change.TheVariants as change

abbrev pub is_each_value : InstantFn → Bool
is_each_value Abs = true
is_each_value Ceil = true
is_each_value Floor = true
is_each_value Sgn = true
is_each_value Round = true
is_each_value Clamp = true
is_each_value ClampMin = true
is_each_value ClampMax = true
is_each_value Timestamp = true
is_each_value f = false

-- the value that a function gives of an element's value, by its scalars and the evaluation's time
abbrev pub value_by : InstantFn → List (Option ℤ) → ℤ → ℤ → Option ℤ
value_by Abs scalars time v = Some (pos (unsigned_abs v))
value_by Ceil scalars time v = Some (ceil v)
value_by Floor scalars time v = Some (floor v)
value_by Sgn scalars time v = Some (sign_of v)
value_by Round scalars time v = round_by scalars v
value_by Clamp scalars time v = clamp_by scalars v
value_by ClampMin scalars time v = with_scalar int_max scalars v
value_by ClampMax scalars time v = with_scalar int_min scalars v
value_by Timestamp scalars time v = Some (seconds time)
value_by f scalars time v = None

-- what a change gives of a value
abbrev pub changed : Change → ℤ → Option ℤ
changed change.Abs v = Some (pos (unsigned_abs v))
changed change.Ceil v = Some (ceil v)
changed change.Floor v = Some (floor v)
changed change.Sgn v = Some (sign_of v)
changed (change.Round to) v = rounded (unsigned_abs to) v
changed (change.Clamp low high) v = bounded low high v
changed (change.ClampMin low) v = Some (int_max low v)
changed (change.ClampMax high) v = Some (int_min high v)
changed (change.Put value) v = Some value
changed change.Remove v = None

-- the function of a vector is this function of each value
abbrev pub IsOfEachValue : InstantFn → Type 0
IsOfEachValue f = (b : Beside) (es : List Element) → instant_function f b es ≡ each_value (value_by f b.scalars b.time) es
