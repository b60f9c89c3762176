use Rattle.std.proofs.Common.{arith}
use Rattle.pf_block.specs.Indexes.{listed}
use Rattle.pf_block.proofs.PostingLists.{hits_more, hits_all}
use Rattle.pf_block.proofs.index.note_all.Goals as goal

pub loop-i-preserved : goal.loop-i-preserved
loop-i-preserved c = λ q r.
    hits_more c.args.id q r c.args.labels.now c.loop-i.i (listed c.args.names.now q r) (listed c.loop-i.names q r) (listed c.note.new.names q r) c.name.result.now c.value.result.now
    (omega arith) c.name.ensures c.value.ensures (c.loop-i.invariant q r) (c.in_ok-note.ensures q r)

pub returns-clause-listed : goal.returns-clause-listed
returns-clause-listed c = λ q r.
    hits_all c.args.id q r c.args.labels.now c.loop-i.i (listed c.args.names.now q r) (listed c.loop-i.names q r) c.count-i-end.ensures.labels.rising (omega arith) (c.loop-i.invariant q r)
