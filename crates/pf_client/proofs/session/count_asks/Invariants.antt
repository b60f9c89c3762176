use Rattle.std.specs.Prelude.{◌≡◌, ◌≤◌, count_by, take}
use Rattle.pf_journal.specs.Summaries.{is_ask}
use Rattle.pf_script.specs.Lines.{line_of}
use Rattle.pf_client.proofs.session.count_asks.Given as goal

abbrev pub invariant-loop-line : goal.invariant-loop-line
invariant-loop-line l = record {
  many : l.asks ≡ count_by (λ x. is_ask (line_of x.line)) (take l.line-index l.lines);
  few : l.asks ≤ l.line-index;
}
