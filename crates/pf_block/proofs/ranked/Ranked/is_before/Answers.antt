use Rattle.std.proofs.Common.{◌≡◌, ◌<◌, [], is_lt, length, get_or, sym, ap, ◌∙◌, subst}
use Rattle.pf_base.specs.LabelOrder.{labels_cmp}
use Rattle.pf_block.proofs.OrderedIds.{ranked_less}
use Rattle.pf_block.proofs.ranked.Ranked.is_before.Goals as goal

pub returns : goal.returns
returns c =
    ranked_less c.self.inside.index c.self.inside.by_label.items c.self.inside.ranks.items c.self.inside.hashes.items c.args.id c.args.other c.index.result.now c.index-2.result.now c.self.invariant c.count-count.ensures.apart
    (subst (λ ls. c.args.id < length ls) (sym c.self.view_is) c.requires.first) (subst (λ ls. c.args.other < length ls) (sym c.self.view_is) c.requires.second) c.index.ensures c.index-2.ensures
    ∙ ap (λ ls. is_lt (labels_cmp (get_or ls c.args.id []) (get_or ls c.args.other []))) c.self.view_is
