-- Values of labels, byte by byte.
use Rattle.std.proofs.Common.{Option, Some, None, List, ℕ, ◌++◌}
use Rattle.pf_expo.specs.Scans.{Cut}

-- bytes before a value's rest
abbrev pub with_bytes : List ℕ → Option Cut → Option Cut
with_bytes bs None = None
with_bytes bs (Some c) = Some (bs ++ c.0, c.1)
