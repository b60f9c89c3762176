use Rattle.std.proofs.Common.{◌≡◌, ◌++◌, string_bytes}
use Rattle.pf_gen.specs.Draws.{behind}
use Rattle.pf_gen.specs.Sessions.{all_below, drawn_line}
use Rattle.pf_gen.proofs.pages.push_series.Given as goal

abbrev pub invariant-loop-minute : goal.invariant-loop-minute
invariant-loop-minute l = record {
  text : string_bytes l.out ≡ string_bytes l.initial.out ++ all_below (drawn_line l.initial.draws.state l.series) l.minute;
  state : l.draws.state ≡ behind l.minute l.initial.draws.state;
}
