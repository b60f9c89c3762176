-- The entries of the journal as the code has them, seen as those of the journal machine. This project's own.
use Rattle.std.specs.Arc.{arc_value}
use Rattle.pf_journal.specs.Machine as machine
use Rattle.pf_core.specs.declared.entry.Entry.{Entry}
use Rattle.pf_core.specs.declared.entry.What.{What}
use Rattle.pf_core.specs.declared.entry.What.TheVariants.{Append, Delete, Ask, Full, NoTenant, Cancel, Answer}

abbrev pub what_of : What → machine.What
what_of (Append tenant batch verdicts) =
    machine.append tenant (arc_value batch) (arc_value verdicts).list (arc_value verdicts).entry
what_of (Delete tenant matchers from to deleted) =
    machine.delete tenant (arc_value matchers) from to deleted.generation deleted.entry
what_of (Ask tenant asked pin generation floor) = machine.ask tenant (arc_value asked) pin generation floor
what_of (Full tenant outstanding) = machine.full tenant outstanding
what_of (NoTenant name) = machine.no_tenant name
what_of (Cancel query) = machine.cancel query
what_of (Answer query code cached evaluated) = machine.answer query code cached evaluated

abbrev pub entry_of : Entry → machine.Entry
entry_of e = record { client = e.by.client; line = e.by.line; what = what_of e.what }
