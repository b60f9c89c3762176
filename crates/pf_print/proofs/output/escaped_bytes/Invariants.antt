use Rattle.std.proofs.Common.{◌≡◌, take}
use Rattle.pf_model.specs.Canonical.{string_bytes_of}
use Rattle.pf_print.proofs.output.escaped_bytes.Given as goal

abbrev pub invariant-loop-byte : goal.invariant-loop-byte
invariant-loop-byte l = l.bytes.items ≡ string_bytes_of (take l.byte-index l.byte-items)
