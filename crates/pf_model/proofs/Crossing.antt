-- Threads may share matchers and the tree of a query: they may be sent to another, and be lent to several. The tree, which holds
-- itself, is shown by itself.
use denote.Param.Send.{IsSend, IsSync, sendable}
use Rattle.std.proofs.Crossing.{crosses}
use Rattle.pf_match.proofs.Crossing.{patterns_cross}
use Rattle.pf_model.proofs.expr.Expr.TheLaws.TheKnot as knot
use Rattle.pf_model.specs.contracts.expr.Expr as Expr
use Rattle.pf_model.specs.contracts.matchers.Matchers as Matchers

pub Matchers-send : IsSend Matchers.the_row
Matchers-send = search (patterns_cross, crosses, sendable) depth 60 fits 20000

pub Matchers-sync : IsSync Matchers.the_row
Matchers-sync = search (patterns_cross, crosses, sendable) depth 60 fits 20000

-- for a search over a type that holds matchers
pub ruleset matchers_cross = (Matchers-send, Matchers-sync)

pub Expr-send : IsSend Expr.the_field.row
Expr-send = search (crosses, knot.crosses, sendable) depth 60 fits 20000

pub Expr-sync : IsSync Expr.the_field.row
Expr-sync = search (crosses, knot.crosses, sendable) depth 60 fits 20000

-- for a search over a type that holds a tree
pub ruleset tree_crosses = (Expr-send, Expr-sync)
