use Rattle.std.proofs.Common.{◌≡◌, ℕ, cond, length, get_or, Some, None, nat_eq, refl, sym, ap, ◌∙◌, arith}
use Rattle.std.specs.List.{list_any}
use Rattle.pf_block.proofs.PostingLists.{noted_next}
use Rattle.pf_index.proofs.sieving.note.Goals as goal

pub loop-id-init : goal.loop-id-init
loop-id-init c = record {
  goes = (tt, tt);
  count = refl;
  noted = λ k l. ap (λ ids. cond (list_any (nat_eq k) ids) (Some c.args.verdict) (get_or c.args.known.now.items k None)) c.into_iter-id-iterator.ensures.into_iter_gives;
}

pub loop-id-preserved : goal.loop-id-preserved
loop-id-preserved c = record {
  goes = (tt, tt);
  count = c.loop-id.invariant.count;
  noted = λ k l.
      noted_next k c.in-Some.id c.next.new.self (Some c.args.verdict) (get_or c.loop-id.known.items k None) (get_or c.loop-id.known.items k None)
      (λ e. let m = c.loop-id.invariant.count in let n = c.len.ensures in let o = c.if-place-len.false in absurd (omega (arith, e, l, m, n, o))) (λ n. refl)
      ∙ ap (λ ids. cond (list_any (nat_eq k) ids) (Some c.args.verdict) (get_or c.loop-id.known.items k None)) (sym c.in-Some.ensures.steps)
      ∙ c.loop-id.invariant.noted k l;
}

pub returns-clause-noted : goal.returns-clause-noted
returns-clause-noted c = λ k l.
    ap (λ ids. cond (list_any (nat_eq k) ids) (Some c.args.verdict) (get_or c.loop-id.known.items k None)) (sym c.in-None.ensures.steps.0) ∙ c.loop-id.invariant.noted k l
