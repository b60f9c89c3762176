use Rattle.std.specs.Prelude.{◌≡◌, take}
use Rattle.pf_client.proofs.drive.failures.Given as goal

abbrev pub invariant-loop-actor : goal.invariant-loop-actor
invariant-loop-actor l = l.failed.items ≡ take l.actor l.core.failed
