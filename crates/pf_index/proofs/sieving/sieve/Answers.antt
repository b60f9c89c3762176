use Rattle.std.proofs.Common.{◌<◌, length, sym, ◌∙◌, arith}
use Rattle.std.proofs.lemmas.List.Filters.{FiltersInPlace-more_no, FiltersInPlace-more_set}
use Rattle.pf_index.specs.Sieving.{holds_of}
use Rattle.pf_index.proofs.Sieved.{rest_within}
use Rattle.pf_index.proofs.sieving.sieve.Goals as goal

pub of-requires-clause-within : goal.of-requires-clause-within
of-requires-clause-within c =
    let f = c.loop-i.invariant.held in
    rest_within (λ id. id < length c.args.snap.now.labels) (holds_of c.args.matcher.now c.args.snap.now.labels) c.args.ids.now.items c.loop-i.ids.items c.loop-i.kept c.loop-i.i c.index-id.result.now f
    (omega (arith, f.long, c.len-i-end.ensures, c.loop-i-test.true)) c.index-id.ensures c.requires.within

pub loop-i-preserved : goal.loop-i-preserved
loop-i-preserved c = elim c.if-of.branch [
  | goal.then-of w ↦ rw (w.ids-is, w.kept-is) (record {
    same = c.of.ensures.same ∙ c.loop-i.invariant.same;
    known = c.of.ensures.known;
    held = FiltersInPlace-more_set c.loop-i.invariant.held (omega (arith, c.loop-i.invariant.held.long, c.len-i-end.ensures, c.loop-i-test.true)) (sym c.of.ensures.value ∙ w.if-of.true) c.index-id.ensures;
  })
  | goal.else-of w ↦ rw (w.ids-is, w.kept-is) (record {
    same = c.of.ensures.same ∙ c.loop-i.invariant.same;
    known = c.of.ensures.known;
    held = FiltersInPlace-more_no c.loop-i.invariant.held (omega (arith, c.loop-i.invariant.held.long, c.len-i-end.ensures, c.loop-i-test.true)) (sym c.of.ensures.value ∙ w.if-of.false) c.index-id.ensures;
  })
]
