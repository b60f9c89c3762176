use Rattle.std.proofs.Common.{◌≡◌}
use Rattle.pf_parse.specs.Reading.{run, start}
use Rattle.pf_parse.specs.Shown.{lexemes_of}
use Rattle.pf_parse.specs.Stacks.{mode_of}
use Rattle.pf_parse.proofs.Past.{from}
use Rattle.pf_parse.proofs.reader.read.Given as goal

abbrev pub invariant-loop-i : goal.invariant-loop-i
invariant-loop-i l =
    from l.text l.tokens l.i (record { mode = mode_of l.mode; stack = l.stack }) ≡ run start (lexemes_of l.text l.tokens)
