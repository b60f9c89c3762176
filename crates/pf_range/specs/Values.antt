-- What is kept of the values of a window.
use Rattle.std.specs.Prelude.{ℤ, Option, Some, None, List, [], ◌∷◌, length}
use Rattle.pf_base.specs.declared.plain.Sample.{Sample}
use Rattle.pf_model.specs.Micros.{greatest, least, one, total}
use Rattle.pf_model.specs.RangeFunctions.{values}
use Rattle.pf_range.specs.declared.values.Extremes.{Extremes}
use Rattle.pf_range.specs.declared.values.Sum.{Sum}

abbrev pub sum_of : List Sample → Sum
sum_of ss = record { total = total (values ss); count = length ss }

abbrev pub extremes_of : List Sample → Extremes
extremes_of ss = record { least = least (values ss); greatest = greatest (values ss) }

-- one unit of no sample
abbrev pub absent : List Sample → Option ℤ
absent [] = Some one
absent (s ∷ ss) = None
