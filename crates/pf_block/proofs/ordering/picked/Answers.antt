use Rattle.std.proofs.Common.{◌+◌, ◌<◌, false, filter, length, map, get_or, sym, ap, ◌∙◌, subst}
use Rattle.pf_block.specs.LabelOrders.{ids_by_label}
use Rattle.pf_block.proofs.OrderedIds.{picked_ids, rise_least}
use Rattle.pf_block.proofs.ordering.picked.Goals as goal

pub marks-requires : goal.marks-requires
marks-requires c = rise_least c.args.first c.args.ids.now c.requires.rising

pub returns : goal.returns
returns c =
    picked_ids c.args.layer.now c.args.first c.args.ids.now c.in_ok-found.found.items c.in_ok-marks.marks.items c.requires.rising c.requires.within
    (λ k l. c.in_ok-marks.ensures.1 k (subst (λ n. k < n) (sym (c.count.ensures.value ∙ ap length c.index.ensures)) l))
    (c.in_ok-found.ensures ∙ ap (λ marks. map (λ id. c.args.first + id) (filter (λ id. get_or marks id false) (ids_by_label c.args.layer.now))) c.deref.ensures.value)
