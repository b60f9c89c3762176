-- The functions of range vectors: what each gives of the samples of one series. Prometheus, Query functions. The forms in
-- whole micros, each quotient cut toward zero, and the order of the steps of `increase`, `rate` and `delta` are this
-- project's own. Times are in milliseconds.
use Rattle.std.specs.Prelude.{ℕ, ◌+◌, ◌-◌, ℤ, pos, ◌+ℤ◌, ◌-ℤ◌, ◌*ℤ◌, int_lt, int_le, int_div, Bool, true, false, ◌&&◌, not, cond, Option, Some, None, List, [], ◌∷◌, map, length}
use Rattle.std.specs.Int.{int_min}
use Rattle.std.specs.Ordering.{int_eq}
use Rattle.pf_base.specs.declared.plain.Sample.{Sample}
use Rattle.pf_base.specs.Arithmetic.{clamp}
use Rattle.pf_model.specs.Micros.{one, units, least, greatest, total, mean}
use Rattle.pf_model.specs.declared.functions.RangeFn.{RangeFn}
use Rattle.pf_model.specs.declared.functions.RangeFn.TheVariants.{Increase, Rate, Delta, Irate, Idelta, Changes, Resets, AvgOverTime, SumOverTime, MinOverTime, MaxOverTime, CountOverTime, LastOverTime, PresentOverTime, AbsentOverTime}

-- the first and the last sample, and all but the last; of no samples one that no series has
abbrev pub no_sample : Sample
no_sample = record { time = pos 0; value = pos 0 }

abbrev pub first : List Sample → Sample
first [] = no_sample
first (s ∷ ss) = s

abbrev pub last : List Sample → Sample
last [] = no_sample
last (s ∷ []) = s
last (s ∷ r ∷ rs) = last (r ∷ rs)

abbrev pub but_last : List Sample → List Sample
but_last [] = []
but_last (s ∷ []) = []
but_last (s ∷ r ∷ rs) = s ∷ but_last (r ∷ rs)

abbrev pub values : List Sample → List ℤ
values ss = map (λ s. s.value) ss

-- nothing of fewer than one sample, and of fewer than two
abbrev pub of_one : List Sample → ℤ → Option ℤ
of_one [] value = None
of_one (s ∷ ss) value = Some value

abbrev pub of_two : List Sample → ℤ → Option ℤ
of_two [] value = None
of_two (s ∷ []) value = None
of_two (s ∷ r ∷ rs) value = Some value

-- how many samples are so related to the one before
abbrev pub steps_with : (ℤ → ℤ → Bool) → List Sample → ℕ
steps_with related [] = 0
steps_with related (s ∷ []) = 0
steps_with related (s ∷ r ∷ rs) = cond (related s.value r.value) 1 0 + steps_with related (r ∷ rs)

-- the values that were lost where a counter began anew
abbrev pub lost : List Sample → ℤ
lost [] = pos 0
lost (s ∷ []) = pos 0
lost (s ∷ r ∷ rs) = cond (int_lt r.value s.value) s.value (pos 0) +ℤ lost (r ∷ rs)

-- the last difference, and that of a counter
abbrev pub last_step : List Sample → ℤ
last_step ss = (last ss).value -ℤ (last (but_last ss)).value

abbrev pub last_growth : List Sample → ℤ
last_growth ss = cond (int_lt (last ss).value (last (but_last ss)).value) (last ss).value (last_step ss)

-- the time from the first sample to the last, and between two on average
abbrev pub span : List Sample → ℤ
span ss = (last ss).time -ℤ (first ss).time

abbrev pub spacing : List Sample → ℤ
spacing ss = int_div (span ss) (pos (length ss - 1))

-- the difference of the last value and the first, and what a counter grew by
abbrev pub change : List Sample → ℤ
change ss = clamp ((last ss).value -ℤ (first ss).value)

abbrev pub growth : List Sample → ℤ
growth ss = clamp ((last ss).value -ℤ (first ss).value +ℤ lost ss)

-- a gap at an end of the window is kept where it is below 1.1 times the average, else it is half the average
abbrev pub gap : ℤ → ℤ → ℤ
gap average g = cond (int_lt (pos 10 *ℤ g) (pos 11 *ℤ average)) g (int_div average (pos 2))

-- the gaps of the window from `from` to `to`
abbrev pub start_gap : List Sample → ℤ → ℤ
start_gap ss from = gap (spacing ss) ((first ss).time -ℤ from)

abbrev pub end_gap : List Sample → ℤ → ℤ
end_gap ss to = gap (spacing ss) (to -ℤ (last ss).time)

-- a counter that grows reaches back no further than to where it would be zero
abbrev pub counter_gap : List Sample → ℤ → ℤ
counter_gap ss from =
    cond (int_lt (pos 0) (growth ss) && int_le (pos 0) (first ss).value)
    (int_min (start_gap ss from) (int_div (span ss *ℤ (first ss).value) (growth ss)))
    (start_gap ss from)

-- the time that is covered with both gaps, and for a counter
abbrev pub covered : List Sample → ℤ → ℤ → ℤ
covered ss from to = span ss +ℤ start_gap ss from +ℤ end_gap ss to

abbrev pub counter_covered : List Sample → ℤ → ℤ → ℤ
counter_covered ss from to = span ss +ℤ counter_gap ss from +ℤ end_gap ss to

-- the value of a function of the samples of one series in a window (from, to], by time; without one it gives nothing.
-- `absent_over_time` is asked of all series' samples at once.
abbrev pub range_function : RangeFn → List Sample → ℤ → ℤ → Option ℤ
range_function Increase ss from to = of_two ss (clamp (int_div (growth ss *ℤ counter_covered ss from to) (span ss)))
range_function Rate ss from to =
    of_two ss (clamp (int_div (growth ss *ℤ counter_covered ss from to *ℤ pos 1000) (span ss *ℤ (to -ℤ from))))
range_function Delta ss from to = of_two ss (clamp (int_div (change ss *ℤ covered ss from to) (span ss)))
range_function Irate ss from to =
    of_two ss (clamp (int_div (last_growth ss *ℤ pos 1000) ((last ss).time -ℤ (last (but_last ss)).time)))
range_function Idelta ss from to = of_two ss (clamp (last_step ss))
range_function Changes ss from to = of_one ss (units (steps_with (λ v w. not (int_eq v w)) ss))
range_function Resets ss from to = of_one ss (units (steps_with (λ v w. int_lt w v) ss))
range_function AvgOverTime ss from to = of_one ss (mean (values ss))
range_function SumOverTime ss from to = of_one ss (clamp (total (values ss)))
range_function MinOverTime ss from to = of_one ss (least (values ss))
range_function MaxOverTime ss from to = of_one ss (greatest (values ss))
range_function CountOverTime ss from to = of_one ss (units (length ss))
range_function LastOverTime ss from to = of_one ss (last ss).value
range_function PresentOverTime ss from to = of_one ss one
range_function AbsentOverTime [] from to = Some one
range_function AbsentOverTime (s ∷ ss) from to = None

-- the functions that keep the metric name
abbrev pub keeps_name : RangeFn → Bool
keeps_name LastOverTime = true
keeps_name f = false
