use Rattle.std.proofs.Common.{◌≡◌, ◌++◌, List, map, drop, true}
use Rattle.pf_base.specs.declared.plain.Row.{Row}
use Rattle.pf_block.specs.Snaps.{are_new, are_timed}
use Rattle.pf_model.specs.Log.{taken_rows, verdicts_on}
use Rattle.pf_store.specs.Keys.{AreIds, Finds, Gives}
use Rattle.pf_store.specs.Standing.{StandsFor}
use Rattle.pf_store.specs.Verdicts.{verdict_of}
use Rattle.pf_store.proofs.judged.judge_rows.Given as goal

abbrev pub invariant-loop-row : goal.invariant-loop-row
invariant-loop-row l = record {
  found : Finds l.taken.series l.taken.values l.taken.rows.items;
  ids : AreIds l.snap l.taken.series;
  gives : Gives l.snap l.taken.series l.taken.rows.items l.taken.ids.items l.taken.given.ids.items l.taken.given.next l.taken.last;
  judged : (xs : List Row) → StandsFor l.snap xs → map verdict_of l.list.items ++ verdicts_on l.floor (xs ++ l.taken.rows.items) (drop l.row-index l.rows) ≡ verdicts_on l.floor xs l.rows;
  took : (xs : List Row) → StandsFor l.snap xs →
      l.taken.rows.items ++ taken_rows (drop l.row-index l.rows) (verdicts_on l.floor (xs ++ l.taken.rows.items) (drop l.row-index l.rows)) ≡ taken_rows l.rows (verdicts_on l.floor xs l.rows);
  fresh : are_new l.snap l.taken.rows.items ≡ true;
  timed : are_timed l.taken.rows.items ≡ true;
  rest : are_timed (drop l.row-index l.rows) ≡ true;
}
