use Rattle.std.proofs.Common.{ap, ◌∙◌}
use Rattle.pf_model.specs.Trees.{tree_of}
use Rattle.pf_resolve.specs.Settled.{is_settled}
use Rattle.pf_resolve.proofs.Settling.{same, settled}
use Rattle.pf_resolve.proofs.resolution.resolve.Goals as goal

pub returns : goal.returns
returns c = record {
  tree = c.put_in.ensures;
  settled = ap is_settled c.put_in.ensures ∙ settled c.args.start c.args.end (tree_of c.args.expr);
  same = λ h. c.put_in.ensures ∙ same c.args.start c.args.end (tree_of c.args.expr) h;
}
