-- The heads of points, as they are kept: this project's own.
use Rattle.std.specs.Prelude.{◌≡◌, ◌≤◌, ℕ, take}
use Rattle.pf_report.specs.Points.{head_text}
use Rattle.pf_report.specs.declared.heads.Head.TheInside.{Inside}

-- the milliseconds
abbrev pub head_time : Inside → ℕ
head_time h = h.time

-- its text stands in front of its bytes
abbrev pub IsHead : Inside → Type 0
IsHead h = (h.len ≤ 32) × (take h.len h.bytes ≡ head_text h.time)
