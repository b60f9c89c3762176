use Rattle.std.proofs.Common.{◌+◌, ◌++◌, drop, map, ap, ◌∙◌, arith}
use Rattle.pf_model.specs.Trees.{tree_of, trees_of}
use Rattle.pf_eval.specs.Nodes.{all_meant, node_at, texts_in}
use Rattle.pf_eval.proofs.BoundNodes.{args_more, pushed_outcome}
use Rattle.pf_eval.proofs.PlainParts.{all_done, literal_first, literal_rest, no_texts}
use Rattle.pf_eval.proofs.plain.with_literals.Goals as goal

pub literal-requires : goal.literal-requires
literal-requires c = literal_first _ _ _ (args_more _ _ _ c.loop-arg-test.true c.arg-item.is) c.loop-arg.invariant.literals

pub loop-arg-preserved : goal.loop-arg-preserved
loop-arg-preserved c =
    let is = args_more _ _ _ c.loop-arg-test.true c.arg-item.is in
    let left = trees_of (map tree_of (drop (c.loop-arg.arg-index + 1) c.args.args.now)) in
    let n = c.in_ok-literal.field-0 in
    record {
      literals = literal_rest _ _ _ is c.loop-arg.invariant.literals;
      texts = ap texts_in c.in_ok-push-2.ensures.items ∙ no_texts c.loop-arg.nodes.items n c.loop-arg.invariant.texts c.in_ok-literal.ensures.kind;
      nodes = λ samples t k h.
          ap (λ ns. map (λ m. node_at m k) ns ++ all_meant samples left t) c.in_ok-push-2.ensures.items
          ∙ pushed_outcome samples t (λ m. node_at m k) c.loop-arg.nodes.items n _ left _ is (c.in_ok-literal.ensures.node samples t k h)
          ∙ c.loop-arg.invariant.nodes samples t k h;
    }

pub returns-clause-nodes : goal.returns-clause-nodes
returns-clause-nodes c = λ samples t k h.
    all_done (λ n. node_at n k) samples t c.loop-arg.nodes.items c.args.args.now c.loop-arg.arg-index _ (omega (arith, c.loop-arg-test.false)) (c.loop-arg.invariant.nodes samples t k h)
