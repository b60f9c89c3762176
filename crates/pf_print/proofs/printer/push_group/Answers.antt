use Rattle.std.proofs.Common.{sym, ap, codes, ◌++◌}
use Rattle.pf_model.specs.Canonical.{group_text, names_text}
use Rattle.pf_print.proofs.Pushes.{pushed, pushed_as, on_ok}
use Rattle.pf_print.proofs.printer.push_group.Goals as goal

pub returns-in_ok-push-in-Left : goal.returns-in_ok-push-in-Left
returns-in_ok-push-in-Left c =
    let o = c.args.out.now in
    let i = c.args.include.now in
    on_ok c.push_labels.result
    (λ h. pushed_as o _ (codes " group_left " ++ names_text i) (group_text c.args.side i)
    (pushed o c.push.new.self _ (codes " group_left ") (names_text i) c.in_ok-push-in-Left.ensures h)
    (ap (λ s. group_text s i) (sym c.in-Left.is)))
    c.push_labels.ensures

pub returns-in_ok-push-in-Right : goal.returns-in_ok-push-in-Right
returns-in_ok-push-in-Right c =
    let o = c.args.out.now in
    let i = c.args.include.now in
    on_ok c.push_labels-in-Right.result
    (λ h. pushed_as o _ (codes " group_right " ++ names_text i) (group_text c.args.side i)
    (pushed o c.push-in-Right.new.self _ (codes " group_right ") (names_text i) c.in_ok-push-in-Right.ensures h)
    (ap (λ s. group_text s i) (sym c.in-Right.is)))
    c.push_labels-in-Right.ensures
