use Rattle.std.proofs.Common.{None, ◌∙◌}
use Rattle.pf_columns.specs.Steps.{bad_in}
use Rattle.pf_columns.proofs.Below.{read_below}
use Rattle.pf_shard.specs.JoinedGroups.{first_of}
use Rattle.pf_shard.proofs.merging.first_bads.Goals as goal

pub returns : goal.returns
returns c = λ k h.
    read_below None c.in_ok-found.found.items (λ j. first_of (bad_in c.deref.result.now j) (bad_in c.deref-2.result.now j)) c.args.len k c.in_ok-found.ensures h
    ∙ (λ i. first_of (bad_in (c.deref.ensures.value i) k) (bad_in (c.deref-2.ensures.value i) k))
