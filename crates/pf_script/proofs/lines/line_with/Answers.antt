use Rattle.pf_script.proofs.Asked.{idle_after}
use Rattle.pf_script.proofs.lines.line_with.Goals as goal

pub returns-then-eq-clause-issued : goal.returns-then-eq-clause-issued
returns-then-eq-clause-issued c = idle_after c.ingest_of.result c.args.number _ c.ingest_of.ensures.idle

pub returns-then-eq-2-clause-issued : goal.returns-then-eq-2-clause-issued
returns-then-eq-2-clause-issued c = idle_after c.delete_of.result c.args.number _ c.delete_of.ensures.idle

pub returns-then-eq-5-clause-issued : goal.returns-then-eq-5-clause-issued
returns-then-eq-5-clause-issued c = idle_after c.cancel_of.result c.args.number _ c.cancel_of.ensures.idle
