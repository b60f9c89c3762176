use Rattle.std.proofs.Common.{◌≡◌, ◌+◌, ◌++◌, ◌∷◌, [], ◌∙◌, length, refl, sym, arith, ap}
use Rattle.std.proofs.lemmas.List.{length-append}
use Rattle.pf_block.proofs.Handing.{id_there, met, passed, ids_kept, labels_kept}
use Rattle.pf_block.proofs.rows.new_labels.Goals as goal
use Rattle.pf_block.proofs.rows.new_labels.Goals.{then-ids-i+in_ok-clone+in_ok-push, else-ids-i}

pub bounds-ids-i : goal.bounds-ids-i
bounds-ids-i c = id_there c.args.snap.now.labels c.loop-i.new.items c.args.rows.now c.args.ids.now c.loop-i.i (omega arith) c.requires c.loop-i.invariant.ids

pub loop-i-preserved : goal.loop-i-preserved
loop-i-preserved c =
    let rows = c.args.rows.now in
    let ids = c.args.ids.now in
    let old = c.loop-i.new.items in
    let more = c.if-ids-i.new.items in
    let i = c.loop-i.i in
    elim c.if-ids-i.branch [
      | then-ids-i+in_ok-clone+in_ok-push w ↦
          let items : more ≡ old ++ w.index-rows-i.result.labels ∷ [] = ap (λ v. v.items) w.new-is ∙ w.in_ok-push.ensures.items ∙ ap (λ x. old ++ x ∷ []) w.in_ok-clone.ensures ∙ ap (λ x. old ++ x.labels ∷ []) (sym w.index-rows-i.is) in
          let m = met c.args.snap.now.labels old rows ids i (omega arith) c.requires c.loop-i.invariant.ids more c.loop-i.next w.index-rows-i.result w.index-rows-i.is c.loop-i.invariant.next w.if-ids-i.true items in
          record {
            next = let n = c.loop-i.invariant.next in let a = ap length items in omega (arith, w.next-is, n, a, length-append c.args.snap.now.labels more, length-append c.args.snap.now.labels old, length-append old (w.index-rows-i.result.labels ∷ []));
            few = let n = c.loop-i.invariant.few in omega (arith, w.next-is, n);
            ids = ids_kept c.args.snap.now.labels old rows ids i (omega arith) c.requires c.loop-i.invariant.ids more (i + 1) m refl;
            labels = labels_kept c.args.snap.now.labels old rows ids i (omega arith) c.requires c.loop-i.invariant.ids more _ (i + 1) m refl c.loop-i.invariant.labels;
          }
      | else-ids-i w ↦
          let items : more ≡ old = ap (λ v. v.items) w.new-is in
          let m = passed c.args.snap.now.labels old rows ids i (omega arith) c.requires c.loop-i.invariant.ids c.loop-i.next c.loop-i.invariant.next w.if-ids-i.false ∙ ap (λ x. c.args.snap.now.labels ++ x) (sym items) in
          record {
            next = w.next-is ∙ c.loop-i.invariant.next ∙ ap (λ x. length (c.args.snap.now.labels ++ x)) (sym items);
            few = let n = c.loop-i.invariant.few in omega (arith, w.next-is, n);
            ids = ids_kept c.args.snap.now.labels old rows ids i (omega arith) c.requires c.loop-i.invariant.ids more (i + 1) m refl;
            labels = labels_kept c.args.snap.now.labels old rows ids i (omega arith) c.requires c.loop-i.invariant.ids more _ (i + 1) m refl c.loop-i.invariant.labels;
          }
    ]
