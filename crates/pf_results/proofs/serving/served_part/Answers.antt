use Rattle.std.proofs.Common.{rules, ◌≡◌, ◌∙◌, ◌+◌, ◌-◌, ◌/◌, ◌≤◌, Some, true, ap, arith, drop, length, subst, sym, take}
use Rattle.pf_extent.specs.Steps.{IsKept, extent_at, has_step}
use Rattle.pf_model.specs.Trees.{tree_of}
use Rattle.pf_results.proofs.ServedParts.{part_within, served_is}
use Rattle.pf_results.proofs.serving.served_part.Goals as goal

pub part-requires-2 : goal.part-requires-2
part-requires-2 c =
    let e = c.in-Some.extent.now in
    let t = c.at-time.ensures.value in
    subst (λ n. n + c.count_usable-count.result ≤ length e.cells) (sym (c.place_of.ensures ∙ ap (λ u. (u - e.first) / e.step) t))
    (part_within c.args.list.now (tree_of c.args.expr.now) c.args.asker.now c.args.run c.args.from c.count_usable-count.result e
    (subst IsKept c.extents-apart.ensures.value c.extents-apart.ensures.kept) c.requires.spaced (search rules) c.requires.step
    (subst (λ u. extent_at u c.args.list.now ≡ Some e) t c.in-Some.ensures.found) c.in-Some.ensures.lawful
    (subst (λ u. has_step u e ≡ true) t c.in-Some.ensures.has) (let n = c.if-count-eq0.false in omega (arith, n)) c.count_usable-count.ensures.within
    c.count_usable-count.ensures.last)

pub returns : goal.returns
returns c =
    let e = c.in-Some.extent.now in
    let t = c.at-time.ensures.value in
    served_is c.args.list.now (tree_of c.args.expr.now) c.args.asker.now c.args.run c.args.from c.count_usable-count.result e
    (subst IsKept c.extents-apart.ensures.value c.extents-apart.ensures.kept) c.requires.spaced (search rules) c.requires.step
    (subst (λ u. extent_at u c.args.list.now ≡ Some e) t c.in-Some.ensures.found) c.in-Some.ensures.lawful
    (subst (λ u. has_step u e ≡ true) t c.in-Some.ensures.has) (let n = c.if-count-eq0.false in omega (arith, n)) c.count_usable-count.ensures.within
    c.count_usable-count.ensures.last c.count_usable-count.ensures.usable _ c.part.ensures
    (c.in_ok-part.ensures ∙ ap (λ n. take c.count_usable-count.result (drop n e.cells)) (c.place_of.ensures ∙ ap (λ u. (u - e.first) / e.step) t))
