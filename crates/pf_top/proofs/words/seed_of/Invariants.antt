use Rattle.std.proofs.Common.{◌≡◌, ◌<◌, drop}
use Rattle.std.specs.Char.{is_ascii_digit}
use Rattle.std.specs.List.{list_all}
use Rattle.pf_journal.specs.Scripts.{digits_onto}
use Rattle.pf_top.proofs.words.seed_of.Given as goal

abbrev pub invariant-loop-digit : goal.invariant-loop-digit
invariant-loop-digit l = record {
  digits : list_all is_ascii_digit (drop l.digit-index l.digits) ≡ list_all is_ascii_digit l.digits;
  within : l.number < 18446744073709551616;
  number : digits_onto l.number (drop l.digit-index l.digits) ≡ digits_onto 0 l.digits;
}
