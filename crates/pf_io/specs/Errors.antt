-- The texts of errors. This project's own.
use Rattle.std.specs.Prelude.{ℕ, List, codes}
use Rattle.pf_io.specs.declared.outside.ReadError.{ReadError}
use Rattle.pf_io.specs.declared.outside.ReadError.TheVariants.{Failed, TooLong, OutOfMemory}

-- why a file was not read
abbrev pub read_error_text : ReadError → List ℕ
read_error_text Failed = codes "not read"
read_error_text TooLong = codes "too long"
read_error_text OutOfMemory = codes "out of memory"
