use Rattle.std.proofs.Common.{◌≡◌, drop}
use Rattle.pf_io.specs.InMemory.{contents, held}
use Rattle.pf_io.proofs.memory_files.bytes_of.Given as goal

abbrev pub invariant-loop-file_name : goal.invariant-loop-file_name
invariant-loop-file_name l = held (contents (drop l.file_name-index l.files)) l.name ≡ held (contents l.files) l.name
