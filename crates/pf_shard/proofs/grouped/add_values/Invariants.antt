use Rattle.pf_shard.proofs.KnownValues.{IsAdding}
use Rattle.pf_shard.proofs.grouped.add_values.Given as goal

abbrev pub invariant-loop-i : goal.invariant-loop-i
invariant-loop-i l = IsAdding l.initial.known.items l.known.items l.values l.i
