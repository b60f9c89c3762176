use Rattle.std.proofs.Common.{rules, ◌≡◌, ap, ◌∙◌}
use Rattle.std.specs.Option.{option_copied}
use Rattle.pf_model.specs.Cells.{cell_of}
use Rattle.pf_math.specs.Arguments.{beside, expansion}
use Rattle.pf_math.specs.Relabelling.{labels_by}
use Rattle.pf_math.proofs.Instants.{relabelled_cell_is}
use Rattle.pf_math.proofs.functions.relabelled_cell.Goals as goal

pub returns : goal.returns
returns c =
    let texts : c.deref.result.now ≡ c.args.args.now.texts = search rules in
    let pattern : option_copied c.pattern_of.result ≡ c.args.args.now.pattern = search rules in
    c.in_ok-cell.ensures
    ∙ ap cell_of c.in_ok-found.ensures
    ∙ relabelled_cell_is c.args.f (beside c.args.args.now) c.args.elements.now c.in_ok-relabelling.relabelling (c.in_ok-relabelling.ensures.law c.requires.function)
    (λ ls. c.in_ok-relabelling.ensures.labels ls ∙ λ i. labels_by c.args.f (expansion (pattern i)) (texts i) ls)
