use Rattle.std.proofs.Common.{◌≡◌, ◌<◌, true, length, sym, ap, ◌∙◌, subst}
use Rattle.std.specs.List.{All}
use Rattle.pf_block.specs.LabelOrders.{in_label_order, rise_from}
use Rattle.pf_index.proofs.Entries.{accepted_within, ids_within}
use Rattle.pf_index.proofs.Ordered.{accepted_ordered, accepted_rises}
use Rattle.pf_index.proofs.selection.select.Goals as goal

pub in_label_order-requires-clause-rising : goal.in_label_order-requires-clause-rising
in_label_order-requires-clause-rising c =
    subst (λ ids. rise_from 0 ids ≡ true) (sym (c.deref.ensures.value ∙ c.in_ok-ids.ensures)) (accepted_rises c.args.matchers.now c.args.snap.now.labels)

pub in_label_order-requires-clause-within : goal.in_label_order-requires-clause-within
in_label_order-requires-clause-within c =
    subst (All (λ id. id < length c.args.snap.now.labels)) (sym (c.deref.ensures.value ∙ c.in_ok-ids.ensures)) (accepted_within c.args.matchers.now c.args.snap.now.labels)

pub returns-clause-accepted : goal.returns-clause-accepted
returns-clause-accepted c =
    c.in_ok-ids-2.ensures ∙ ap (in_label_order c.args.snap.now.labels) (c.deref.ensures.value ∙ c.in_ok-ids.ensures) ∙ sym (accepted_ordered c.args.matchers.now c.args.snap.now.labels)

pub returns-clause-within : goal.returns-clause-within
returns-clause-within c =
    subst (All (λ id. id < length c.args.snap.now.labels))
    (sym (c.in_ok-ids-2.ensures ∙ ap (in_label_order c.args.snap.now.labels) (c.deref.ensures.value ∙ c.in_ok-ids.ensures) ∙ sym (accepted_ordered c.args.matchers.now c.args.snap.now.labels)))
    (ids_within c.args.matchers.now c.args.snap.now.labels)
