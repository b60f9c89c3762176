use Rattle.std.proofs.Common.{◌≡◌, ◌++◌, map, take, drop}
use Rattle.pf_columns.specs.Ranks.{kept_values}
use Rattle.pf_columns.proofs.ranked.kept_values.Given as goal

abbrev pub invariant-loop-i : goal.invariant-loop-i
invariant-loop-i l =
    take l.i l.values.items ++ kept_values (map (λ r. r.items) l.rows) l.place l.i (drop l.i l.values.items)
    ≡ kept_values (map (λ r. r.items) l.rows) l.place 0 l.fn.values.items
