use denote.Param.Send.{sendable}
use Rattle.pf_model.proofs.Crossing.{matchers_cross}
use Rattle.pf_model.proofs.shared.matchers_are_shared.Goals as goal

pub is_shared-requires-send-T : goal.is_shared-requires-send-T
is_shared-requires-send-T c κs = search (matchers_cross, sendable)

pub is_shared-requires-sync-T : goal.is_shared-requires-sync-T
is_shared-requires-sync-T c κs = search (matchers_cross, sendable)
