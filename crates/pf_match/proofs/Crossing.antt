-- Threads may share a pattern: it may be sent to another, and be lent to several. Two parts of what `regex` compiles are
-- shown by themselves, as the search for the whole would not end: the tree, which holds itself, and the needles.
use denote.Param.Send.{IsSend, IsSync, sendable}
use Rattle.std.proofs.Crossing.{crosses}
use Rattle.regex_hir.proofs.hir.Hir.TheLaws.TheKnot as knot
use Rattle.regex_hir.specs.contracts.hir.Hir as Hir
use Rattle.regex_literal.specs.contracts.prefilter.Prefilter as Prefilter
use Rattle.regex.specs.contracts.string.regex.Regex as Regex
use Rattle.pf_match.specs.contracts.pattern.Pattern as Pattern

Hir-send : IsSend Hir.the_field.row
Hir-send = search (crosses, knot.crosses, sendable) depth 60 fits 20000

Hir-sync : IsSync Hir.the_field.row
Hir-sync = search (crosses, knot.crosses, sendable) depth 60 fits 20000

Prefilter-send : IsSend Prefilter.the_field.row
Prefilter-send = search (crosses, sendable) depth 60 fits 100000

Prefilter-sync : IsSync Prefilter.the_field.row
Prefilter-sync = search (crosses, sendable) depth 60 fits 100000

Regex-send : IsSend Regex.the_field.row
Regex-send = search (Hir-send, Prefilter-send, crosses, sendable) depth 60 fits 100000

Regex-sync : IsSync Regex.the_field.row
Regex-sync = search (Hir-sync, Prefilter-sync, crosses, sendable) depth 60 fits 100000

pub Pattern-send : IsSend Pattern.the_row
Pattern-send = search (Regex-send, Regex-sync, crosses, sendable) depth 40 fits 20000

pub Pattern-sync : IsSync Pattern.the_row
Pattern-sync = search (Regex-send, Regex-sync, crosses, sendable) depth 40 fits 20000

-- for a search over a type that holds patterns
pub ruleset patterns_cross = (Pattern-send, Pattern-sync)
