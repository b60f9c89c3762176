use Rattle.std.proofs.Common.{◌+◌, ◌<◌, length, map, get_or, sym, ap, ◌∙◌, subst}
use Rattle.std.specs.List.{All}
use Rattle.std.proofs.lemmas.List.Sorted.{All-permutation}
use Rattle.pf_block.specs.LabelOrders.{ids_by_label}
use Rattle.pf_block.proofs.OrderedIds.{rise_least, sorted_ids}
use Rattle.pf_block.proofs.ordering.sorted.Goals as goal

pub ranks_of-requires-clause-above : goal.ranks_of-requires-clause-above
ranks_of-requires-clause-above c = rise_least c.args.first c.args.ids.now c.requires.rising

pub ids_at-requires-clause-within : goal.ids_at-requires-clause-within
ids_at-requires-clause-within c =
    subst (All (λ rank. rank < length c.args.layer.now)) (sym c.deref.ensures.value)
    (All-permutation (λ rank. rank < length c.args.layer.now) c.in_ok-ranks.ranks.items c.sort_unstable.new.self.items c.sort_unstable.ensures.permutation c.in_ok-ranks.ensures.within)

pub returns : goal.returns
returns c =
    sorted_ids c.args.layer.now c.args.first c.args.ids.now c.in_ok-ranks.ranks.items c.sort_unstable.new.self.items c.in_ok-found.found.items c.in_ok-ranks.ensures.within
    c.in_ok-ranks.ensures.places c.sort_unstable.ensures.permutation c.sort_unstable.ensures.sorted
    (c.in_ok-found.ensures ∙ ap (map (λ rank. c.args.first + get_or (ids_by_label c.args.layer.now) rank 0)) c.deref.ensures.value)
