use Rattle.std.proofs.Common.{◌≡◌, ◌++◌, string_bytes}
use Rattle.pf_gen.specs.Sessions.{all_below, ingest_line}
use Rattle.pf_gen.proofs.script.push_ingests.Given as goal

abbrev pub invariant-loop-tenant : goal.invariant-loop-tenant
invariant-loop-tenant l = string_bytes l.out ≡ string_bytes l.initial.out ++ all_below ingest_line l.tenant
