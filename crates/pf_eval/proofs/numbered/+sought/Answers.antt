use Rattle.std.proofs.Common.{◌≡◌, ◌-◌, ◌+◌, ◌++◌, suc, drop, arith, refl, sym, ap, ◌∙◌}
use Rattle.std.proofs.lemmas.Bool.Decides.{nat_tests}
use Rattle.pf_model.specs.Trees as tree
use Rattle.pf_model.specs.Trees.{preorder, tree_of}
use Rattle.pf_model.proofs.TreeOf.{binary_tree, subquery_tree, unary_tree}
use Rattle.pf_eval.specs.declared.numbered.Search.TheVariants.{Found}
use Rattle.pf_eval.proofs.NumberedNodes.{all_of, among_first, behind_first, behind_node, first_of_all, found_left, left_behind}
use Rattle.pf_eval.proofs.numbered.+sought.Goals as goal

pub sought-returns-in-Unary : goal.sought-returns-in-Unary
sought-returns-in-Unary t c =
    let a = tree_of c.deref.result.now in
    let is : tree_of c.args.query.now ≡ tree.unary c.in-Unary.minus a
    = ap tree_of c.in-Unary.is ∙ unary_tree c.in-Unary.minus c.in-Unary.arg ∙ ap (λ x. tree.unary c.in-Unary.minus (tree_of x)) (sym c.deref.ensures) in
    let place : c.args.number ≡ suc (c.args.number - 1) = grind (arith, nat_tests, c.if-number-eq0.false) in
    behind_node (tree.unary c.in-Unary.minus a) (preorder a) (preorder (tree_of c.args.query.now)) c.args.number (c.args.number - 1) c.sought.result (ap preorder is) place c.sought.ensures

pub sought-returns-in-Found : goal.sought-returns-in-Found
sought-returns-in-Found t c =
    let a = tree_of c.deref-in-Binary.result.now in
    let b = tree_of c.in-Binary.right.value in
    let top = tree.binary c.in-Binary.op c.in-Binary.matching a b in
    let is : tree_of c.args.query.now ≡ top
    = ap tree_of c.in-Binary.is ∙ binary_tree c.in-Binary.op c.in-Binary.matching c.in-Binary.left c.in-Binary.right
    ∙ ap (λ x. tree.binary c.in-Binary.op c.in-Binary.matching (tree_of x) b) (sym c.deref-in-Binary.ensures) in
    let place : c.args.number ≡ suc (c.args.number - 1) = grind (arith, nat_tests, c.if-number-eq0.false) in
    behind_node top (preorder a ++ preorder b) (preorder (tree_of c.args.query.now)) c.args.number (c.args.number - 1) (Found c.in-Found.node) (ap preorder is) place
    (among_first (preorder a) (preorder b) (preorder a ++ preorder b) (c.args.number - 1) (tree_of c.in-Found.node.now) refl c.in-Found.ensures)

pub sought-returns-in-Behind : goal.sought-returns-in-Behind
sought-returns-in-Behind t c =
    let a = tree_of c.deref-in-Binary.result.now in
    let b = tree_of c.deref-in-Behind.result.now in
    let top = tree.binary c.in-Binary.op c.in-Binary.matching a b in
    let is : tree_of c.args.query.now ≡ top
    = ap tree_of c.in-Binary.is ∙ binary_tree c.in-Binary.op c.in-Binary.matching c.in-Binary.left c.in-Binary.right
    ∙ ap (λ x. tree.binary c.in-Binary.op c.in-Binary.matching (tree_of x) (tree_of c.in-Binary.right.value)) (sym c.deref-in-Binary.ensures)
    ∙ ap (λ x. tree.binary c.in-Binary.op c.in-Binary.matching a (tree_of x)) (sym c.deref-in-Behind.ensures) in
    let place : c.args.number ≡ suc (c.args.number - 1) = grind (arith, nat_tests, c.if-number-eq0.false) in
    behind_node top (preorder a ++ preorder b) (preorder (tree_of c.args.query.now)) c.args.number (c.args.number - 1) c.sought-in-Behind.result (ap preorder is) place
    (behind_first (preorder a) (preorder b) (preorder a ++ preorder b) (c.args.number - 1) c.in-Behind.further c.sought-in-Behind.result refl c.in-Behind.ensures c.sought-in-Behind.ensures)

pub sought-returns-in-Subquery : goal.sought-returns-in-Subquery
sought-returns-in-Subquery t c =
    let a = tree_of c.deref-in-Subquery.result.now in
    let top = tree.subquery a c.in-Subquery.range c.in-Subquery.resolution c.in-Subquery.mods in
    let is : tree_of c.args.query.now ≡ top
    = ap tree_of c.in-Subquery.is ∙ subquery_tree c.in-Subquery.arg c.in-Subquery.range c.in-Subquery.resolution c.in-Subquery.mods
    ∙ ap (λ x. tree.subquery (tree_of x) c.in-Subquery.range c.in-Subquery.resolution c.in-Subquery.mods) (sym c.deref-in-Subquery.ensures) in
    let place : c.args.number ≡ suc (c.args.number - 1) = grind (arith, nat_tests, c.if-number-eq0.false) in
    behind_node top (preorder a) (preorder (tree_of c.args.query.now)) c.args.number (c.args.number - 1) c.sought-in-Subquery.result (ap preorder is) place c.sought-in-Subquery.ensures

pub sought_among-returns-in-Found : goal.sought_among-returns-in-Found
sought_among-returns-in-Found t c =
    let es = c.args.args.now in
    let i = c.loop-arg.arg-index in
    let e = c.arg-item.result in
    found_left (all_of es) (all_of (drop i es)) (preorder (tree_of e)) (all_of (drop (i + 1) es)) c.args.number c.loop-arg.further (tree_of c.in-Found.node.now)
    (first_of_all es i e c.loop-arg-test.true c.arg-item.is) c.loop-arg.invariant c.in-Found.ensures

pub sought_among-loop-arg-preserved : goal.sought_among-loop-arg-preserved
sought_among-loop-arg-preserved t c =
    let es = c.args.args.now in
    let i = c.loop-arg.arg-index in
    let e = c.arg-item.result in
    left_behind (all_of es) (all_of (drop i es)) (preorder (tree_of e)) (all_of (drop (i + 1) es)) c.args.number c.loop-arg.further c.in-Behind.left
    (first_of_all es i e c.loop-arg-test.true c.arg-item.is) c.loop-arg.invariant c.in-Behind.ensures
