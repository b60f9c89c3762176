use Rattle.std.proofs.Common.{◌≡◌, ◌++◌, ◌*◌, string_bytes}
use Rattle.pf_gen.specs.Draws.{behind}
use Rattle.pf_gen.specs.Sessions.{all_below, numbered_lines}
use Rattle.pf_gen.proofs.script.push_queries.Given as goal

abbrev pub invariant-loop-number : goal.invariant-loop-number
invariant-loop-number l = record {
  text : string_bytes l.out ≡ string_bytes l.initial.out ++ all_below (numbered_lines l.initial.draws.state) l.number;
  state : l.draws.state ≡ behind (l.number * 2) l.initial.draws.state;
}
