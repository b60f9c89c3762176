use Rattle.std.proofs.Common.{◌≡◌, ◌-◌, ◌<◌, ◌^◌, ◌++◌, true, length, map, take, drop, sym, ap, ◌∙◌, subst}
use Rattle.std.specs.Arc.{arc_value}
use Rattle.std.proofs.lemmas.List.{append-nil}
use Rattle.pf_block.specs.Blocks.{entries_of, entry_of, labels_with}
use Rattle.pf_block.specs.IndexStacks.{AreBehind}
use Rattle.pf_block.specs.Snaps.{are_apart}
use Rattle.pf_block.proofs.Numbering.{behind_known, part_timed}
use Rattle.pf_block.proofs.snap.numbered.Goals as goal

pub noted-requires-clause-timed : goal.noted-requires-clause-timed
noted-requires-clause-timed c = part_timed _ _ c.args.rows.now c.requires

pub noted-requires-clause-behind : goal.noted-requires-clause-behind
noted-requires-clause-behind c =
    let whole = arc_value c.args.index.now in
    let none : c.deref-3.result.now ++ c.new.result ≡ c.deref-2.result.now = (λ i. c.deref-3.ensures i ++ c.new.ensures i) ∙ append-nil whole ∙ sym c.deref-2.ensures in
    record {
      apart = subst (λ x. are_apart x ≡ true) (sym none) c.count-count.ensures.apart;
      few = subst (λ x. length x < 2 ^ 32) (sym none) c.count-count.ensures.few;
    }

pub with-requires : goal.with-requires
with-requires c = subst (λ x. AreBehind x c.in_ok-new.new) (c.deref-3.ensures ∙ sym c.deref-4.ensures) c.in_ok-new.ensures.behind

pub returns-clause-entries : goal.returns-clause-entries
returns-clause-entries c =
    let whole = arc_value c.args.index.now in
    let none : c.deref-3.result.now ++ c.new.result ≡ whole = (λ i. c.deref-3.ensures i ++ c.new.ensures i) ∙ append-nil whole in
    let place = c.len-place.result in
    let rows : take (length c.args.rows.now - place) (drop place c.args.rows.now) ≡ drop place c.args.rows.now = behind_known c.args.rows.now place in
    c.in_ok-new.ensures.entries
    ∙ ap (λ x. map entry_of c.in_ok-entries.entries.items ++ x) ((λ i. entries_of (none i) (rows i)) ∙ (λ i. entries_of (sym c.deref.ensures i) (drop (c.len-place.ensures i) c.args.rows.now)))
    ∙ c.in_ok-entries.ensures.entries ∙ ap (λ x. entries_of x c.args.rows.now) c.deref.ensures

pub returns-clause-labels : goal.returns-clause-labels
returns-clause-labels c =
    let whole = arc_value c.args.index.now in
    let none : c.deref-3.result.now ++ c.new.result ≡ whole = (λ i. c.deref-3.ensures i ++ c.new.ensures i) ∙ append-nil whole in
    let place = c.len-place.result in
    let rows : take (length c.args.rows.now - place) (drop place c.args.rows.now) ≡ drop place c.args.rows.now = behind_known c.args.rows.now place in
    c.in_ok-new-2.ensures.ok ∙ c.in_ok-with.ensures ∙ ap (λ x. x ++ c.in_ok-new.new) (c.deref-4.ensures ∙ sym c.deref-3.ensures)
    ∙ c.in_ok-new.ensures.labels
    ∙ (λ i. labels_with (none i) (rows i)) ∙ (λ i. labels_with (sym c.deref.ensures i) (drop (c.len-place.ensures i) c.args.rows.now))
    ∙ c.in_ok-entries.ensures.labels ∙ ap (λ x. labels_with x c.args.rows.now) c.deref.ensures
