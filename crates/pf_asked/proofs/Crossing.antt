-- Threads may share what is asked: it may be sent to another, and be lent to several.
use denote.Param.Send.{IsSend, IsSync, sendable}
use Rattle.std.proofs.Crossing.{crosses}
use Rattle.pf_asked.specs.contracts.asked.Asked as Asked
use Rattle.pf_match.proofs.Crossing.{patterns_cross}
use Rattle.pf_model.proofs.Crossing.{matchers_cross, tree_crosses}

pub Asked-send : IsSend Asked.the_row
Asked-send = search (tree_crosses, matchers_cross, patterns_cross, crosses, sendable) depth 60 fits 20000

pub Asked-sync : IsSync Asked.the_row
Asked-sync = search (tree_crosses, matchers_cross, patterns_cross, crosses, sendable) depth 60 fits 20000

-- for a search over a type that holds what is asked
pub ruleset asked_cross = (Asked-send, Asked-sync)
