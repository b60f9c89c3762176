use Rattle.std.proofs.Common.{◌≡◌, cond, refl, ap, ◌∙◌, sym}
use Rattle.std.specs.Arc.{arc_value}
use Rattle.std.proofs.lemmas.Result.{IfOk-weaker}
use Rattle.pf_base.specs.LabelChanges.{others, with_value}
use Rattle.pf_base.specs.LabelOrder.{pair_cmp}
use Rattle.pf_base.specs.Sorting.{ins}
use Rattle.pf_base.proofs.Put.{labels_put, filled}
use Rattle.pf_base.proofs.labels.Labels.with.Goals as goal

pub of-requires : goal.of-requires
of-requires c =
    let ps = arc_value c.self.inside.pairs in
    labels_put c.args.name.now c.args.value.now ps (others c.args.name.now ps) c.in_ok-put.field-0 c.self.invariant c.requires
    (filled c.args.value.now c.if-is_empty.ensures) refl
    (c.in_ok-put.ensures.pairs ∙ ap (λ qs. ins pair_cmp (c.args.name.now, c.args.value.now) (others c.args.name.now qs)) c.deref.ensures)
    c.in_ok-put.ensures.few

pub returns : goal.returns
returns c =
    let name = c.args.name.now in
    let value = c.args.value.now in
    let ps = c.args.self.now in
    IfOk-weaker c.of.result (λ l. l ≡ c.in_ok-put.field-0) (λ l. l ≡ with_value name value ps)
    (λ l h. h ∙ c.in_ok-put.ensures.pairs ∙ ap (λ qs. ins pair_cmp (name, value) (others name qs)) (c.deref.ensures ∙ c.self.view_is)
    ∙ sym (ap (λ b. cond b (others name ps) (ins pair_cmp (name, value) (others name ps))) (filled value c.if-is_empty.ensures)))
    c.of.ensures
