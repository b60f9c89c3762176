-- Threads may share the core: it may be sent to another, and be lent to several.
use denote.Param.Send.{IsSend, IsSync, sendable}
use Rattle.std.proofs.Crossing.{crosses}
use Rattle.std.proofs.MapsCrossing.{crosses as maps_cross}
use Rattle.pf_model.proofs.Crossing.{matchers_cross}
use Rattle.pf_asked.proofs.Crossing.{asked_cross}
use Rattle.pf_query.proofs.Crossing.{jobs_cross, table_cross}
use Rattle.lru.proofs.Crosses.{Deed-send, Deed-sync, KeyRef-send, KeyRef-sync, List-send, List-sync}
use Rattle.pf_core.specs.contracts.entry.Entry as Entry
use Rattle.pf_core.specs.contracts.query.Query as Query
use Rattle.pf_core.specs.contracts.session.Core as Core
use Rattle.pf_core.specs.contracts.tenants.Tenants as Tenants
use Rattle.pf_extent.specs.contracts.key.Key as Key
use Rattle.pf_extent.specs.contracts.list.List as Extents
use Rattle.pf_results.specs.contracts.results.Results as Results
use Rattle.pf_store.specs.contracts.tenant_log.Pin as Pin
use Rattle.pf_store.specs.contracts.tenant_log.TenantLog as TenantLog

Pin-send : IsSend Pin.the_row
Pin-send = search (jobs_cross, crosses, sendable) depth 60 fits 20000

Pin-sync : IsSync Pin.the_row
Pin-sync = search (jobs_cross, crosses, sendable) depth 60 fits 20000

TenantLog-send : IsSend TenantLog.the_row
TenantLog-send = search (jobs_cross, crosses, sendable) depth 60 fits 20000

TenantLog-sync : IsSync TenantLog.the_row
TenantLog-sync = search (jobs_cross, crosses, sendable) depth 60 fits 20000

Tenants-send : IsSend Tenants.the_row
Tenants-send = search (TenantLog-send, maps_cross, crosses, sendable) depth 60 fits 20000

Tenants-sync : IsSync Tenants.the_row
Tenants-sync = search (TenantLog-sync, maps_cross, crosses, sendable) depth 60 fits 20000

Query-send : IsSend Query.the_field.row
Query-send = search (Pin-send, asked_cross, crosses, sendable) depth 60 fits 20000

Query-sync : IsSync Query.the_field.row
Query-sync = search (Pin-sync, asked_cross, crosses, sendable) depth 60 fits 20000

Entry-send : IsSend Entry.the_field.row
Entry-send = search (asked_cross, matchers_cross, crosses, sendable) depth 60 fits 20000

Entry-sync : IsSync Entry.the_field.row
Entry-sync = search (asked_cross, matchers_cross, crosses, sendable) depth 60 fits 20000

Key-send : IsSend Key.the_row
Key-send = search (crosses, sendable) depth 60 fits 20000

Key-sync : IsSync Key.the_row
Key-sync = search (crosses, sendable) depth 60 fits 20000

Extents-send : IsSend Extents.the_row
Extents-send = search (crosses, sendable) depth 60 fits 20000

Extents-sync : IsSync Extents.the_row
Extents-sync = search (crosses, sendable) depth 60 fits 20000

Results-send : IsSend Results.the_row
Results-send = search (Key-send, Key-sync, Extents-send, KeyRef-send, List-send, Deed-send, maps_cross, crosses, sendable) depth 60 fits 20000

Results-sync : IsSync Results.the_row
Results-sync = search (Key-sync, Extents-sync, KeyRef-sync, List-sync, Deed-sync, maps_cross, crosses, sendable) depth 60 fits 20000

pub Core-send : IsSend Core.the_row
Core-send = search (Results-send, Tenants-send, Query-send, Entry-send, table_cross, maps_cross, crosses, sendable) depth 60 fits 20000

pub Core-sync : IsSync Core.the_row
Core-sync = search (Results-sync, Tenants-sync, Query-sync, Entry-sync, table_cross, maps_cross, crosses, sendable) depth 60 fits 20000

-- for a search over a type that holds the core
pub ruleset core_crosses = (Core-send, Core-sync)
