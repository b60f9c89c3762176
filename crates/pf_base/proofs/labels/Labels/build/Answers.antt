use Rattle.std.proofs.Common.{◌≤◌, length, ap, ◌∙◌, sym, arith}
use Rattle.pf_base.specs.LabelBuild.{bad_name}
use Rattle.pf_base.specs.LabelWalk.{repeated_name}
use Rattle.pf_base.proofs.LabelFacts.{is_labels}
use Rattle.pf_base.proofs.LeastRepeated.{built}
use Rattle.pf_base.proofs.labels.Labels.build.Goals as goal

pub of-requires : goal.of-requires
of-requires c =
    let packed = c.in_ok-pack.ensures ∙ c.deref-3.ensures.value in
    let short : length c.in_ok-pack.field-0 ≤ 64 = omega (arith, ap length packed) in
    is_labels c.args.pairs.items c.in_ok-sorted.sorted.items c.in_ok-pack.field-0
    (ap bad_name (sym c.deref.ensures.value) ∙ c.in_default.ensures)
    c.in_ok-sorted.ensures
    (ap repeated_name (sym c.deref-2.ensures.value) ∙ c.in_default-repeated_at.ensures)
    (packed ∙ c.with_values-kept.ensures)
    short

pub returns : goal.returns
returns c =
    built c.args.pairs.items c.in_ok-sorted.sorted.items c.with_values-kept.result.items _
    (ap bad_name (sym c.deref.ensures.value) ∙ c.in_default.ensures)
    c.in_ok-sorted.ensures
    (ap repeated_name (sym c.deref-2.ensures.value) ∙ c.in_default-repeated_at.ensures)
    c.with_values-kept.ensures
    (omega arith)
    (c.in_ok-of.ensures ∙ c.in_ok-pack.ensures ∙ c.deref-3.ensures.value)
