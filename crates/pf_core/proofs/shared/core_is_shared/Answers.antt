use denote.Param.Send.{sendable}
use Rattle.pf_core.proofs.Crossing.{core_crosses}
use Rattle.pf_core.proofs.shared.core_is_shared.Goals as goal

pub is_shared-requires-send-T : goal.is_shared-requires-send-T
is_shared-requires-send-T c κs = search (core_crosses, sendable)

pub is_shared-requires-sync-T : goal.is_shared-requires-sync-T
is_shared-requires-sync-T c κs = search (core_crosses, sendable)
