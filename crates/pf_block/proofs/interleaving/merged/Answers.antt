use Rattle.std.proofs.Common.{map, sym, ap, ◌++◌, ◌∙◌}
use Rattle.std.specs.Arc.{arc_value}
use Rattle.std.proofs.lemmas.Bool.{eqb-true}
use Rattle.std.proofs.lemmas.List.{nil_from_length}
use Rattle.pf_block.specs.IndexStacks.{joined}
use Rattle.pf_block.specs.LabelOrders.{in_label_order}
use Rattle.pf_block.proofs.Interleaved.{none_before, none_behind, other_way}
use Rattle.pf_block.proofs.interleaving.merged.Goals as goal

pub returns-then-is_empty : goal.returns-then-is_empty
returns-then-is_empty c =
    none_behind (joined (map arc_value c.args.layers.now)) c.args.first.items c.args.second.items c.requires.first
    (nil_from_length c.args.second.items (sym c.args.second.ok.0 ∙ eqb-true _ 0 (sym c.is_empty.ensures ∙ c.if-is_empty.true)))

pub returns-then-is_empty-2 : goal.returns-then-is_empty-2
returns-then-is_empty-2 c =
    none_before (joined (map arc_value c.args.layers.now)) c.args.first.items c.args.second.items c.requires.second
    (nil_from_length c.args.first.items (sym c.args.first.ok.0 ∙ eqb-true _ 0 (sym c.is_empty-2.ensures ∙ c.if-is_empty-2.true)))

pub returns : goal.returns
returns c =
    other_way (joined (map arc_value c.args.layers.now)) c.args.first.items c.args.second.items c.in_ok-found-2.found.items
    (c.in_ok-found-2.ensures ∙ (λ i. in_label_order (joined (map arc_value c.args.layers.now)) (c.deref-2.ensures.value i ++ c.deref-3.ensures.value i)))
