use Rattle.std.proofs.Common.{◌≡◌, drop, map, string_bytes}
use Rattle.pf_match.specs.Meaning.{is_listed}
use Rattle.pf_match.proofs.table.is_among.Given as goal

abbrev pub invariant-loop-other : goal.invariant-loop-other
invariant-loop-other l = is_listed (map string_bytes (drop l.other-index l.texts)) l.text ≡ is_listed (map string_bytes l.texts) l.text
