use Rattle.std.proofs.Common.{◌-◌, ◌/◌, ap, arith, get_or}
use Rattle.std.specs.Prelude.{nat_lt}
use Rattle.pf_block.proofs.Walks.{takes_last}
use Rattle.pf_block.proofs.stack.takes_in.Goals as goal

pub returns-else-count-kept : goal.returns-else-count-kept
returns-else-count-kept c =
    takes_last c.args.sizes.now c.args.kept c.args.count c.args.top.now _ (omega arith) (omega arith)
    (ap (λ n. nat_lt (get_or c.args.sizes.now (c.args.count - 1) 0 / 2) n) c.rows.ensures.rows)
