use Rattle.std.proofs.Common.{◌≡◌, ℕ, ◌+◌, ◌++◌, ◌∷◌, ◌∙◌, append-nil, ap, subst, sym, arith, drop, length, ◌<◌, List, [], map, true}
use Rattle.pf_base.specs.declared.plain.Row.{Row}
use Rattle.pf_block.specs.Snaps.{are_timed}
use Rattle.pf_model.specs.Log.{Verdict, is_taken, taken_rows, verdicts_on}
use Rattle.pf_store.specs.Verdicts.{verdict_of}
use Rattle.pf_store.proofs.Judging.{at_end, drop_at, map_more, judged_more, taken_more, timed_more, timed_rest, fresh_more}
use Rattle.pf_store.proofs.judged.judge_rows.Goals as goal

pub loop-row-preserved : goal.loop-row-preserved
loop-row-preserved c =
    let r : Row = c.row-item.result in
    let i : ℕ = c.loop-row.row-index in
    let rows : List Row = c.args.rows.now in
    let rest : List Row = drop (i + 1) rows in
    let tk : List Row = c.loop-row.taken.rows.items in
    let new : List Row = c.judge.new.taken.rows.items in
    let v : Verdict = verdict_of c.in_ok-judge.field-0 in
    let vs : List Verdict = map verdict_of c.loop-row.list.items in
    let l : i < length rows = omega arith in
    let d : drop i rows ≡ r ∷ rest = drop_at rows i r l c.row-item.is in
    let h = c.in_ok-judge.ensures in
    let k = c.loop-row.invariant in
    let m : map verdict_of c.push.new.self.items ≡ vs ++ v ∷ [] = map_more verdict_of c.loop-row.list.items c.push.new.self.items c.in_ok-judge.field-0 c.in_ok-push.ensures.items in
    let t : are_timed (r ∷ rest) ≡ true = subst (λ n. are_timed n ≡ true) d k.rest in
    record {
      found = h.found;
      ids = h.ids;
      gives = h.gives;
      judged = λ xs f.
          ap (λ n. n ++ verdicts_on c.args.floor (xs ++ new) rest) m
          ∙ judged_more c.args.floor xs r rest rows tk new v vs (h.verdict xs f) h.rows (subst (λ n. vs ++ verdicts_on c.args.floor (xs ++ tk) n ≡ verdicts_on c.args.floor xs rows) d (k.judged xs f));
      took = λ xs f.
          taken_more c.args.floor xs r rest rows tk new v (h.verdict xs f) h.rows
          (subst (λ n. tk ++ taken_rows n (verdicts_on c.args.floor (xs ++ tk) n) ≡ taken_rows rows (verdicts_on c.args.floor xs rows)) d (k.took xs f));
      fresh = fresh_more c.args.snap.now tk new r (is_taken v) c.requires.alike h.rows k.fresh h.fresh;
      timed = timed_more tk new r rest (is_taken v) h.rows k.timed t;
      rest = timed_rest r rest t;
    }

pub returns-clause-list : goal.returns-clause-list
returns-clause-list c =
    let vs : List Verdict = map verdict_of c.loop-row.list.items in
    λ xs f.
    sym (append-nil vs)
    ∙ ap (λ n. vs ++ verdicts_on c.args.floor (xs ++ c.loop-row.taken.rows.items) n) (sym (at_end c.args.rows.now c.loop-row.row-index (omega arith)))
    ∙ c.loop-row.invariant.judged xs f

pub returns-clause-taken : goal.returns-clause-taken
returns-clause-taken c =
    let tk : List Row = c.loop-row.taken.rows.items in
    λ xs f.
    sym (append-nil tk)
    ∙ ap (λ n. tk ++ taken_rows n (verdicts_on c.args.floor (xs ++ tk) n)) (sym (at_end c.args.rows.now c.loop-row.row-index (omega arith)))
    ∙ c.loop-row.invariant.took xs f
