use Rattle.std.proofs.Common.{ℕ, List, map, take}
use Rattle.pf_match.specs.Tables.{Agrees}
use Rattle.pf_model.specs.Lists.{Each}
use Rattle.pf_script.specs.Lines.{numbered_of}
use Rattle.pf_client.specs.Queries.{AreReadBy, IsKeptFor}
use Rattle.pf_client.proofs.queries.read_queries.Given as goal

abbrev pub invariant-loop-line : goal.invariant-loop-line
invariant-loop-line l = record {
  right : (refs : List (List ℕ)) → Agrees l.patterns refs → AreReadBy refs l.queries;
  kept : Each (λ x. IsKeptFor l.queries x.line) (map numbered_of (take l.line-index l.script.lines.items));
}
