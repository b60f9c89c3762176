use Rattle.std.proofs.Common.{◌≡◌, ◌*◌, string_bytes}
use Rattle.pf_gen.specs.Draws.{behind}
use Rattle.pf_gen.specs.Sessions.{all_below, drawn_series}
use Rattle.pf_gen.proofs.pages.page_of.Given as goal

abbrev pub invariant-loop-series : goal.invariant-loop-series
invariant-loop-series l = record {
  text : string_bytes l.page ≡ all_below (drawn_series l.initial.draws.state) l.series;
  state : l.draws.state ≡ behind (l.series * 721) l.initial.draws.state;
}
