-- Worked examples of what is counted of a small journal, and of the line that is printed, computed.
use Rattle.std.proofs.Common.{◌≡◌, ℤ, pos, negsuc, Some, List, [], ◌∷◌, refl, codes}
use Rattle.std.specs.Fmt.{digits}
use Rattle.pf_base.specs.declared.plain.Sample.{Sample}
use Rattle.pf_journal.proofs.Examples.{at_line, grid, limits_of, line, up_over}
use Rattle.pf_journal.proofs.Sessions.{ask_up, cancel_journal, ingest_up, ingested_up}
use Rattle.pf_journal.specs.Legal.{moments}
use Rattle.pf_journal.specs.Machine.{Entry, ask, answer}
use Rattle.pf_journal.specs.Scripts as script
use Rattle.pf_journal.specs.Summaries.{asks, nothing_counted, summary_text, tally_of, with_micros}

-- a query over three steps, one of which was cached, and one that lacked memory
abbrev journal : List Entry
journal =
    ingested_up ∷ at_line 2 (ask 0 (up_over (grid 60000 60000 3)) 1 0 (Some 0)) ∷ at_line 3 (answer 1 200 1 2)
    ∷ at_line 4 (ask 0 (up_over (grid 60000 60000 3)) 1 0 (Some 0)) ∷ at_line 5 (answer 3 507 0 2) ∷ []

of_two : tally_of (limits_of 100 4000000) (moments journal) ≡ record { ok = 1; cached = 1; evaluated = 4; elements = 3; sum = 3000000 }
of_two = refl

-- a query that was cancelled has no points
of_cancelled : tally_of (limits_of 100 4000000) (moments cancel_journal) ≡ record { ok = 0; cached = 0; evaluated = 1; elements = 0; sum = 0 }
of_cancelled = refl

of_none : tally_of (limits_of 100 4000000) (moments (ingested_up ∷ [])) ≡ nothing_counted
of_none = refl

-- micros below zero
abbrev point : ℤ → Sample
point v = record { time = pos 0; value = v }

below_zero : with_micros 0 (point (negsuc 1)) ≡ 18446744073709551614
below_zero = refl

above_again : with_micros 18446744073709551614 (point (pos 5)) ≡ 3
above_again = refl

-- the lines `ask` of a script
two_lines : asks (ingest_up ∷ ask_up ∷ line 3 (script.instant (codes "r") (codes "acme") 0 (codes "up")) ∷ line 4 (script.answer (codes "q") 2) ∷ []) ≡ 1
two_lines = refl

of_seven : summary_text 7 100 (record { ok = 100; cached = 24790; evaluated = 11310; elements = 768930; sum = 400160988031819 })
    ≡ codes "load 7 queries 100 ok 100 steps 36100 cached 24790 evaluated 11310 elements 768930 sum 400160988031819\n"
unfolding digits
of_seven = refl
