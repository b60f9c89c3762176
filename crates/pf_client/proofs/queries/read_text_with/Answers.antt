use Rattle.std.proofs.Common.{rules}
use Rattle.pf_client.proofs.TextReads.{refused_right}
use Rattle.pf_client.proofs.queries.read_text_with.Goals as goal

pub returns-then-is_fault-clause-right : goal.returns-then-is_fault-clause-right
returns-then-is_fault-clause-right c refs agrees = refused_right refs c.args.text.now c.in-Err.error (search rules) (c.in-Err.ensures.refused refs)
