use Rattle.std.proofs.Common.{◌≡◌, length, ap, sym, ◌∙◌}
use Rattle.std.specs.Arc.{arc_value}
use Rattle.std.specs.List.{filter}
use Rattle.std.proofs.lemmas.Result.{IfOk-weaker}
use Rattle.pf_base.proofs.LabelFacts.{labels_filter}
use Rattle.pf_base.proofs.LabelSteps.{all_chosen, chosen_are}
use Rattle.pf_base.proofs.labels.changes.chosen.Goals as goal

pub returns-then-size-count : goal.returns-then-size-count
returns-then-size-count g c =
    let count = c.count-count.ensures.value ∙ ap length (c.deref-2.ensures ∙ c.labels.view_is) in
    let size = c.size_of_chosen-size.ensures ∙ ap (λ ps. length (filter (λ p. g.C.Choice.is_chosen c.args.choice.now p.0) ps)) (c.deref.ensures ∙ c.labels.view_is) in
    c.in_ok-clone.ensures
    ∙ sym (all_chosen (λ name. g.C.Choice.is_chosen c.args.choice.now name) c.args.labels.now (sym size ∙ c.if-size-count.true ∙ count))

pub of-requires : goal.of-requires
of-requires g c =
    labels_filter (λ p. g.C.Choice.is_chosen c.args.choice.now p.0) (arc_value c.labels.inside.pairs) c.in_ok-with_chosen.field-0 c.labels.invariant
    (chosen_are (λ name. g.C.Choice.is_chosen c.args.choice.now name) (arc_value c.labels.inside.pairs) c.in_ok-with_chosen.field-0 c.in_ok-empty.empty c.deref-4.result.now c.count-count.result
    c.in_ok-with_chosen.ensures.pairs c.in_ok-empty.ensures c.deref-4.ensures (c.count-count.ensures.value ∙ ap length c.deref-2.ensures))

pub returns : goal.returns
returns g c =
    IfOk-weaker c.of.result (λ l. l ≡ c.in_ok-with_chosen.field-0) (λ l. l ≡ filter (λ p. g.C.Choice.is_chosen c.args.choice.now p.0) c.args.labels.now)
    (λ l h. h ∙ chosen_are (λ name. g.C.Choice.is_chosen c.args.choice.now name) c.args.labels.now c.in_ok-with_chosen.field-0 c.in_ok-empty.empty c.deref-4.result.now c.count-count.result
    c.in_ok-with_chosen.ensures.pairs c.in_ok-empty.ensures (c.deref-4.ensures ∙ c.labels.view_is) (c.count-count.ensures.value ∙ ap length (c.deref-2.ensures ∙ c.labels.view_is)))
    c.of.ensures
