-- Threads may share legs and what they are over runs: they may be sent to another, and be lent to several.
use denote.Param.Send.{IsSend, IsSync, sendable}
use Rattle.std.proofs.Crossing.{crosses}
use Rattle.pf_match.proofs.Crossing.{patterns_cross}
use Rattle.pf_model.proofs.Crossing.{tree_crosses}
use Rattle.pf_shard.specs.contracts.groups.GroupColumn as GroupColumn
use Rattle.pf_shard.specs.contracts.groups.GroupSteps as GroupSteps
use Rattle.pf_shard.specs.contracts.legs.Legs as Legs
use Rattle.pf_shard.specs.contracts.legs.Resolved as Resolved

pub Resolved-send : IsSend Resolved.the_row
Resolved-send = search (tree_crosses, patterns_cross, crosses, sendable) depth 60 fits 20000

pub Resolved-sync : IsSync Resolved.the_row
Resolved-sync = search (tree_crosses, patterns_cross, crosses, sendable) depth 60 fits 20000

pub Legs-send : IsSend Legs.the_row
Legs-send = search (Resolved-send, Resolved-sync, crosses, sendable) depth 60 fits 20000

pub Legs-sync : IsSync Legs.the_row
Legs-sync = search (Resolved-send, Resolved-sync, crosses, sendable) depth 60 fits 20000

-- for a search over a type that holds legs
pub ruleset legs_cross = (Resolved-send, Resolved-sync, Legs-send, Legs-sync)

GroupColumn-send : IsSend GroupColumn.the_row
GroupColumn-send = search (crosses, sendable) depth 60 fits 20000

GroupColumn-sync : IsSync GroupColumn.the_row
GroupColumn-sync = search (crosses, sendable) depth 60 fits 20000

pub GroupSteps-send : IsSend GroupSteps.the_row
GroupSteps-send = search (GroupColumn-send, crosses, sendable) depth 60 fits 20000

pub GroupSteps-sync : IsSync GroupSteps.the_row
GroupSteps-sync = search (GroupColumn-sync, crosses, sendable) depth 60 fits 20000

-- for a search over a type that holds groups
pub ruleset groups_cross = (GroupSteps-send, GroupSteps-sync)
