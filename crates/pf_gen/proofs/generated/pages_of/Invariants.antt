use Rattle.std.proofs.Common.{◌≡◌, ◌*◌, map}
use Rattle.pf_gen.specs.Draws.{behind}
use Rattle.pf_gen.specs.Sessions.{pages_below}
use Rattle.pf_gen.proofs.generated.pages_of.Given as goal

abbrev pub invariant-loop-tenant : goal.invariant-loop-tenant
invariant-loop-tenant l = record {
  pages : map (λ f. (f.0, f.1.items)) l.pages.items ≡ pages_below l.initial.draws.state l.tenant;
  state : l.draws.state ≡ behind (l.tenant * 72100) l.initial.draws.state;
}
