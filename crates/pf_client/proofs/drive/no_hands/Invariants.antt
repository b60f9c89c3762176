use Rattle.std.specs.Prelude.{◌≡◌, None, replicate}
use Rattle.pf_client.proofs.drive.no_hands.Given as goal

abbrev pub invariant-loop-worker : goal.invariant-loop-worker
invariant-loop-worker l = l.hands.items ≡ replicate l._worker None
