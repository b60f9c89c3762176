-- Windows of samples by rising time, in milliseconds.
use Rattle.std.specs.Prelude.{◌≡◌, ◌≤◌, ℤ, pos, negsuc, ◌≤ℤ◌, true, List, length}
use Rattle.std.specs.List.{list_all}
use Rattle.pf_base.specs.declared.plain.Sample.{Sample}
use Rattle.pf_block.specs.Samples.{is_within, rises}

-- a time at most 2^50 in size
abbrev pub IsTime : ℤ → Type 0
IsTime t = (negsuc 1125899906842623 ≤ℤ t) × (t ≤ℤ pos 1125899906842624)

-- the samples of a window (after, upto]
pub record IsWindow (after upto : ℤ) (ss : List Sample) : Type 0 where
  pub rising : rises ss ≡ true
  pub within : list_all (is_within after upto) ss ≡ true
  pub left : IsTime after
  pub right : IsTime upto

-- not more samples than there are times in such a window
abbrev pub IsFew : List Sample → Type 0
IsFew ss = length ss ≤ 2251799813685248
