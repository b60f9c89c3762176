use Rattle.std.proofs.Common.{rules}
use Rattle.pf_client.proofs.TextReads.{all_kept, read_more}
use Rattle.pf_client.proofs.queries.read_queries.Goals as goal

pub loop-line-preserved : goal.loop-line-preserved
loop-line-preserved c = record {
  right = λ refs agrees.
      let read = c.in_ok-read_line.ensures in
      read.right refs agrees (c.loop-line.invariant.right refs (read.still refs agrees));
  kept = read_more c.args.script.now.lines.items c.loop-line.line-index c.line-item.result c.loop-line.queries c.read_line.new.queries
      (search rules) (search rules) c.loop-line.invariant.kept (search rules);
}

pub returns : goal.returns
returns c = (
  record { refs = _; too_big = c.refused.ensures.expressions; right = c.loop-line.invariant.right _ c.refused.ensures.agrees },
  all_kept c.args.script.now.lines.items c.loop-line.line-index c.loop-line.queries (search rules) c.loop-line.invariant.kept,
)
