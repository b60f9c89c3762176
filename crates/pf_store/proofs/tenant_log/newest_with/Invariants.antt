use Rattle.std.proofs.Common.{◌≡◌, drop}
use Rattle.pf_model.specs.Log.{newest_with}
use Rattle.pf_store.proofs.tenant_log.newest_with.Given as goal

abbrev pub invariant-loop-row : goal.invariant-loop-row
invariant-loop-row l = newest_with l.newest (drop l.row-index l.rows) ≡ newest_with l.fn.newest l.rows
