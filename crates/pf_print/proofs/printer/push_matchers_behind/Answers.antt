use Rattle.std.proofs.Common.{◌+◌, ◌++◌, sym, ap, codes, map, take}
use Rattle.std.specs.List.{slice_index_or}
use Rattle.pf_model.specs.Lists.{all_behind}
use Rattle.pf_model.specs.Canonical.{matcher_text}
use Rattle.pf_print.proofs.Pushes.{pushed, pushed_as}
use Rattle.pf_print.proofs.Separated.{mapped_next}
use Rattle.pf_print.proofs.printer.push_matchers_behind.Goals as goal

pub loop-matcher-preserved : goal.loop-matcher-preserved
loop-matcher-preserved c =
    let o = c.args.out.now in
    let s = codes "," in
    let xs = c.args.matchers.now in
    let i = c.loop-matcher.matcher-index in
    let x = c.matcher-item.result in
    let y = matcher_text (slice_index_or xs i x) in
    pushed_as o _ (all_behind s (map matcher_text (take i xs)) ++ (s ++ y)) (all_behind s (map matcher_text (take (i + 1) xs)))
    (pushed o c.loop-matcher.out _ (all_behind s (map matcher_text (take i xs))) (s ++ y) c.loop-matcher.invariant
    (pushed c.loop-matcher.out c.push.new.self _ s y c.in_ok-push.ensures
    (pushed_as c.push.new.self _ (matcher_text x) y c.in_ok-push_matcher.ensures (ap matcher_text c.matcher-item.is))))
    (sym (mapped_next s matcher_text xs i x c.loop-matcher-test.true))
