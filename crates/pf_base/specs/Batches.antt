-- What an exposition file gives: this project's own.
use Rattle.std.specs.Prelude.{List, ℕ}
use Rattle.pf_base.specs.declared.plain.Row.{Row}

-- its rows in order, and the number of lines whose value is no number
pub record BatchData : Type 0 where
  pub rows : List Row
  pub skipped : ℕ
