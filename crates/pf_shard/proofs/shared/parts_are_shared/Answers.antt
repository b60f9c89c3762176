use denote.Param.Send.{sendable}
use Rattle.std.proofs.Crossing.{crosses}
use Rattle.pf_columns.proofs.Crossing.{steps_cross}
use Rattle.pf_shard.proofs.Crossing.{groups_cross}
use Rattle.pf_shard.proofs.shared.parts_are_shared.Goals as goal

pub is_shared-requires-send-T : goal.is_shared-requires-send-T
is_shared-requires-send-T c κs = search (groups_cross, steps_cross, crosses, sendable) depth 60 fits 20000

pub is_shared-requires-sync-T : goal.is_shared-requires-sync-T
is_shared-requires-sync-T c κs = search (groups_cross, steps_cross, crosses, sendable) depth 60 fits 20000
