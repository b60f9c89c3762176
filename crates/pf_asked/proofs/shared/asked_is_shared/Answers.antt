use denote.Param.Send.{sendable}
use Rattle.pf_asked.proofs.Crossing.{asked_cross}
use Rattle.pf_asked.proofs.shared.asked_is_shared.Goals as goal

pub is_shared-requires-send-T : goal.is_shared-requires-send-T
is_shared-requires-send-T c κs = search (asked_cross, sendable)

pub is_shared-requires-sync-T : goal.is_shared-requires-sync-T
is_shared-requires-sync-T c κs = search (asked_cross, sendable)
