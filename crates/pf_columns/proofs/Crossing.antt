-- Threads may share what a vector is at each step: it may be sent to another, and be lent to several.
use denote.Param.Send.{IsSend, IsSync, sendable}
use Rattle.std.proofs.Crossing.{crosses}
use Rattle.pf_columns.specs.contracts.column.Column as Column
use Rattle.pf_columns.specs.contracts.steps.StepCells as StepCells

pub Column-send : IsSend Column.the_row
Column-send = search (crosses, sendable) depth 60 fits 20000

pub Column-sync : IsSync Column.the_row
Column-sync = search (crosses, sendable) depth 60 fits 20000

pub StepCells-send : IsSend StepCells.the_row
StepCells-send = search (Column-send, crosses, sendable) depth 60 fits 20000

pub StepCells-sync : IsSync StepCells.the_row
StepCells-sync = search (Column-sync, crosses, sendable) depth 60 fits 20000

-- for a search over a type that holds steps
pub ruleset steps_cross = (StepCells-send, StepCells-sync)
