-- Threads may share jobs and the table: they may be sent to another, and be lent to several.
use denote.Param.Send.{IsSend, IsSync, sendable}
use Rattle.std.proofs.Crossing.{crosses}
use Rattle.std.proofs.MapsCrossing.{crosses as maps_cross}
use Rattle.pf_block.specs.contracts.snap.Snap as Snap
use Rattle.pf_columns.proofs.Crossing.{steps_cross}
use Rattle.pf_extent.specs.contracts.done.DoneCells as DoneCells
use Rattle.pf_query.specs.contracts.job.Held as Held
use Rattle.pf_query.specs.contracts.job.Job as Job
use Rattle.pf_query.specs.contracts.queues.Queues as Queues
use Rattle.pf_query.specs.contracts.table.Table as Table
use Rattle.pf_query.specs.contracts.work.Work as Work
use Rattle.pf_shard.proofs.Crossing.{groups_cross, legs_cross}

pub Snap-send : IsSend Snap.the_row
Snap-send = search (maps_cross, crosses, sendable) depth 60 fits 20000

pub Snap-sync : IsSync Snap.the_row
Snap-sync = search (maps_cross, crosses, sendable) depth 60 fits 20000

pub Job-send : IsSend Job.the_field.row
Job-send = search (Snap-send, Snap-sync, legs_cross, crosses, sendable) depth 60 fits 20000

pub Job-sync : IsSync Job.the_field.row
Job-sync = search (Snap-send, Snap-sync, legs_cross, crosses, sendable) depth 60 fits 20000

pub Held-send : IsSend Held.the_field.row
Held-send = search (Snap-send, Snap-sync, legs_cross, crosses, sendable) depth 60 fits 20000

pub Held-sync : IsSync Held.the_field.row
Held-sync = search (Snap-send, Snap-sync, legs_cross, crosses, sendable) depth 60 fits 20000

pub Queues-send : IsSend Queues.the_field.row
Queues-send = search (Job-send, crosses, sendable) depth 60 fits 20000

pub Queues-sync : IsSync Queues.the_field.row
Queues-sync = search (Job-sync, crosses, sendable) depth 60 fits 20000

-- for a search over a type that holds jobs
pub ruleset jobs_cross = (Snap-send, Snap-sync, Job-send, Job-sync, Held-send, Held-sync, Queues-send, Queues-sync)

DoneCells-send : IsSend DoneCells.the_field.row
DoneCells-send = search (crosses, sendable) depth 60 fits 20000

DoneCells-sync : IsSync DoneCells.the_field.row
DoneCells-sync = search (crosses, sendable) depth 60 fits 20000

Work-send : IsSend Work.the_row
Work-send = search (DoneCells-send, legs_cross, groups_cross, steps_cross, crosses, sendable) depth 60 fits 20000

Work-sync : IsSync Work.the_row
Work-sync = search (DoneCells-sync, legs_cross, groups_cross, steps_cross, crosses, sendable) depth 60 fits 20000

pub Table-send : IsSend Table.the_field.row
Table-send = search (Work-send, Queues-send, maps_cross, crosses, sendable) depth 60 fits 20000

pub Table-sync : IsSync Table.the_field.row
Table-sync = search (Work-sync, Queues-sync, maps_cross, crosses, sendable) depth 60 fits 20000

-- for a search over a type that holds the table
pub ruleset table_cross = (Table-send, Table-sync)
