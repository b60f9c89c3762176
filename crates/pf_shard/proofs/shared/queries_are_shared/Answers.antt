use denote.Param.Send.{sendable}
use Rattle.pf_shard.proofs.Crossing.{legs_cross}
use Rattle.pf_shard.proofs.shared.queries_are_shared.Goals as goal

pub is_shared-requires-send-T : goal.is_shared-requires-send-T
is_shared-requires-send-T c κs = search (legs_cross, sendable)

pub is_shared-requires-sync-T : goal.is_shared-requires-sync-T
is_shared-requires-sync-T c κs = search (legs_cross, sendable)
