use Rattle.std.proofs.Common.{◌≡◌, ◌<◌, ℕ, [], get_or}
use Rattle.pf_block.specs.Blocks.{samples_in}
use Rattle.pf_block.specs.Samples.{window_of}
use Rattle.pf_block.proofs.layer.Layer.is_free_of.Given as goal

abbrev pub invariant-loop-id : goal.invariant-loop-id
invariant-loop-id l = (k : ℕ) → k < l.id-index → (d : ℕ) → window_of (samples_in (get_or l.series k d) l.self) l.after l.upto ≡ []
