-- The ends of a window, as they are kept.
use Rattle.std.specs.Prelude.{ℤ, ◌+ℤ◌, ◌-ℤ◌, List, length}
use Rattle.pf_base.specs.declared.plain.Sample.{Sample}
use Rattle.pf_model.specs.RangeFunctions.{first, last, lost}
use Rattle.pf_range.specs.declared.ends.Counter.{Counter}
use Rattle.pf_range.specs.declared.ends.Ends.{Ends}

abbrev pub ends_of : List Sample → Ends
ends_of ss = record { first = first ss; last = last ss; count = length ss }

-- what a counter grew by, before it is clamped
abbrev pub grown : List Sample → ℤ
grown ss = (last ss).value -ℤ (first ss).value +ℤ lost ss

abbrev pub counter_of : List Sample → Counter
counter_of ss = record { first = first ss; last = last ss; count = length ss; growth = grown ss }
