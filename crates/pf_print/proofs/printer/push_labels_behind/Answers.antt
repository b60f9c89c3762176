use Rattle.std.proofs.Common.{◌∙◌, ◌+◌, ◌++◌, sym, codes, take}
use Rattle.std.specs.List.{slice_index_or}
use Rattle.pf_model.specs.Lists.{all_behind}
use Rattle.pf_print.proofs.Pushes.{pushed, pushed_as}
use Rattle.pf_print.proofs.Separated.{labels_next}
use Rattle.pf_print.proofs.printer.push_labels_behind.Goals as goal

pub loop-label-preserved : goal.loop-label-preserved
loop-label-preserved c =
    let o = c.args.out.now in
    let s = codes ", " in
    let xs = c.args.labels.now in
    let i = c.loop-label.label-index in
    let x = c.label-item.result in
    pushed_as o _ (all_behind s (take i xs) ++ (s ++ slice_index_or xs i x)) (all_behind s (take (i + 1) xs))
    (pushed o c.loop-label.out _ (all_behind s (take i xs)) (s ++ slice_index_or xs i x) c.loop-label.invariant
    (pushed c.loop-label.out c.push.new.self _ s (slice_index_or xs i x) c.in_ok-push.ensures
    (pushed_as c.push.new.self _ c.as_str.result.now (slice_index_or xs i x) c.in_ok-push-2.ensures
    (c.as_str.ensures ∙ c.label-item.is))))
    (sym (labels_next s xs i x c.loop-label-test.true))
