use Rattle.std.proofs.Common.{◌≡◌, true, map, sym, ap, ◌∙◌, subst}
use Rattle.pf_block.specs.Blocks.{ascends, entry_of}
use Rattle.pf_block.proofs.Merging.{times}
use Rattle.pf_block.proofs.SortedEntries.{sorted_ascends, sorted_times}
use Rattle.pf_block.proofs.block.Block.of.Goals as goal

pub sorted-requires : goal.sorted-requires
sorted-requires c = subst (λ l. ascends (map entry_of l) ≡ true) (sym c.deref.ensures.value) (sorted_ascends c.sort_unstable.new.self.items c.sort_unstable.ensures.sorted)

pub returns-clause-samples : goal.returns-clause-samples
returns-clause-samples c = λ id x.
    ap (times id x) (c.in_ok-block.ensures ∙ ap (map entry_of) c.deref.ensures.value)
    ∙ sorted_times c.args.entries.items c.sort_unstable.new.self.items c.sort_unstable.ensures.permutation id x

pub returns-clause-ascends : goal.returns-clause-ascends
returns-clause-ascends c =
    ap ascends (c.in_ok-block.ensures ∙ ap (map entry_of) c.deref.ensures.value) ∙ sorted_ascends c.sort_unstable.new.self.items c.sort_unstable.ensures.sorted
