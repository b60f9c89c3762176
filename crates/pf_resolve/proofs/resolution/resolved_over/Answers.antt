use Rattle.std.proofs.Common.{◌≡◌, ◌+◌, ◌-◌, ◌*◌, ap, ◌∙◌}
use Rattle.pf_model.specs.Binding.{patterns_of, selectors_of}
use Rattle.pf_model.specs.Built.{is_evaluated}
use Rattle.pf_model.specs.Resolving.{resolved}
use Rattle.pf_model.specs.Trees.{height, tree_of}
use Rattle.pf_resolve.proofs.Kept.{same_evaluated, same_height, same_patterns, same_selectors}
use Rattle.pf_resolve.proofs.resolution.resolved_over.Goals as goal

pub returns : goal.returns
returns c =
    let start = c.start.result in
    let end = c.at-last.result in
    let t = tree_of c.args.expr.now in
    let whole : tree_of c.resolve.result ≡ resolved start end t = c.resolve.ensures.tree ∙ ap (resolved start end) c.in_ok-copy.ensures in
    let g = c.args.grid.now in
    record {
      tree = whole ∙ ap (λ n. resolved n end t) c.start.ensures.value ∙ ap (λ n. resolved g.start n t) c.at-last.ensures.value
          ∙ ap (λ n. resolved g.start (g.start + (n - 1) * g.step) t) c.len.ensures.value;
      evaluated = ap is_evaluated whole ∙ same_evaluated start end c.start.ensures.within c.at-last.ensures.within t;
      selectors = ap selectors_of whole ∙ same_selectors start end t;
      patterns = ap patterns_of whole ∙ same_patterns start end t;
      height = ap height whole ∙ same_height start end t;
    }
