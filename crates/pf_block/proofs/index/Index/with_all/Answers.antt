use Rattle.std.proofs.Common.{◌≡◌, ◌++◌, ◌∷◌, [], true, length, get_or, take, sym, ap, ◌∙◌, subst, arith, append_assoc}
use Rattle.std.proofs.lemmas.List.{take_more}
use Rattle.std.proofs.Math.Seq.{take-length}
use Rattle.pf_block.specs.SeriesIds.{id_of}
use Rattle.pf_block.specs.Snaps.{are_apart}
use Rattle.pf_block.proofs.Joining.{apart_next}
use Rattle.pf_block.proofs.index.Index.with_all.Goals as goal

pub with-requires : goal.with-requires
with-requires c =
    let items = c.deref-labels-items.result.now in
    let same = c.deref-labels-items.ensures.value ∙ c.others.view_is in
    let apart : are_apart (c.args.self ++ items) ≡ true = subst (λ l. are_apart (c.args.self ++ l) ≡ true) (sym same) c.requires in
    ap (λ x. id_of x c.loop-labels.index) (c.in_ok-clone.ensures ∙ c.labels-item.is)
    ∙ ap (id_of (get_or items c.loop-labels.labels-index c.labels-item.result)) c.loop-labels.invariant
    ∙ apart_next c.args.self items c.loop-labels.labels-index c.labels-item.result apart (omega arith)

pub loop-labels-preserved : goal.loop-labels-preserved
loop-labels-preserved c =
    let items = c.deref-labels-items.result.now in
    c.in_ok-index.ensures.value
    ∙ ap (λ l. l ++ c.in_ok-clone.field-0 ∷ []) c.loop-labels.invariant
    ∙ append_assoc c.args.self (take c.loop-labels.labels-index items) (c.in_ok-clone.field-0 ∷ [])
    ∙ ap (λ x. c.args.self ++ (take c.loop-labels.labels-index items ++ x ∷ [])) (c.in_ok-clone.ensures ∙ c.labels-item.is)
    ∙ ap (λ x. c.args.self ++ x) (sym (take_more items c.loop-labels.labels-index c.labels-item.result (omega arith)))

pub returns : goal.returns
returns c =
    let items = c.deref-labels-items.result.now in
    let e : c.loop-labels.labels-index ≡ length items = omega arith in
    c.loop-labels.invariant ∙ ap (λ x. c.args.self ++ x) (ap (λ n. take n items) e ∙ take-length items ∙ c.deref-labels-items.ensures.value ∙ c.others.view_is)
