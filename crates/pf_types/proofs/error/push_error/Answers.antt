use Rattle.pf_types.proofs.error.push_error.Goals as goal

pub returns-in-ArgCount-clause-ok : goal.returns-in-ArgCount-clause-ok
returns-in-ArgCount-clause-ok c = rw c.in-ArgCount.is c.push_node.ensures.ok

pub returns-in-BadMatching-clause-ok : goal.returns-in-BadMatching-clause-ok
returns-in-BadMatching-clause-ok c = rw c.in-BadMatching.is c.push_node-in-BadMatching.ensures.ok
