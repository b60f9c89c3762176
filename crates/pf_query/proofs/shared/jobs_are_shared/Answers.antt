use denote.Param.Send.{sendable}
use Rattle.pf_query.proofs.Crossing.{jobs_cross}
use Rattle.pf_query.proofs.shared.jobs_are_shared.Goals as goal

pub is_shared-requires-send-T : goal.is_shared-requires-send-T
is_shared-requires-send-T c κs = search (jobs_cross, sendable)

pub is_shared-requires-sync-T : goal.is_shared-requires-sync-T
is_shared-requires-sync-T c κs = search (jobs_cross, sendable)

pub is_shared-requires-2-send-T : goal.is_shared-requires-2-send-T
is_shared-requires-2-send-T c κs = search (jobs_cross, sendable)

pub is_shared-requires-2-sync-T : goal.is_shared-requires-2-sync-T
is_shared-requires-2-sync-T c κs = search (jobs_cross, sendable)
