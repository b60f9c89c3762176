use Rattle.std.proofs.Common.{rules, ◌∙◌, List, ap, subst, sym}
use Rattle.pf_base.specs.Grids.{points}
use Rattle.pf_model.specs.Direct.{Step}
use Rattle.pf_model.specs.Lists.{Each}
use Rattle.pf_model.specs.Trees.{tree_of}
use Rattle.pf_split.specs.Pieces.{pieces_of, steps_of}
use Rattle.pf_results.specs.Truth.{IsValue}
use Rattle.pf_results.proofs.Pieced.{few_found, one_query, over_more, over_none, same_key, steps_all, values_over, woven_all}
use Rattle.pf_results.proofs.results.Results.find_all.Goals as goal

pub loop-piece-init : goal.loop-piece-init
loop-piece-init c = record {
  goes = (tt, tt);
  key = one_query c.args.key.now;
  found = over_none c.args.self.now c.args.key.now (tree_of c.args.expr.now) c.args.asker.now c.args.interval c.args.grid.now c.requires.step
      (ap steps_of (sym c.pieces-piece-items.ensures.pieces) ∙ c.pieces-piece-items.ensures.all) c.into_iter-piece-iterator.result (search rules)
      c.new.result.items c.new-2.result.items c.new.ensures.items c.new-2.ensures.items;
}

pub loop-piece-preserved : goal.loop-piece-preserved
loop-piece-preserved c =
    let same = c.loop-piece.invariant.key in record {
      goes = (tt, tt);
      key = record { tenant = same.tenant; text = same.text; step = same.step };
      found = over_more c.args.self.now c.args.key.now (tree_of c.args.expr.now) c.args.asker.now
          (pieces_of c.args.interval c.args.grid.now.step (points c.args.grid.now)) c.loop-piece.piece-iterator c.next.new.self c.in-Some.piece c.args.grid.now.len
          c.loop-piece.found.cached.items c.in_ok-found.found.cached.items c.loop-piece.found.runs.items c.in_ok-found.found.runs.items _
          c.loop-piece.invariant.found (search rules) (same_key c.args.key.now c.loop-piece.key c.in-Some.piece.interval same) c.in_ok-found.ensures.cached
          c.in_ok-found.ensures.whole c.in_ok-found.ensures.runs c.in_ok-found.ensures.all c.in_ok-found.ensures.woven;
    }

pub returns-clause-woven : goal.returns-clause-woven
returns-clause-woven c =
    woven_all c.args.self.now c.args.key.now (tree_of c.args.expr.now) c.args.asker.now
    (pieces_of c.args.interval c.args.grid.now.step (points c.args.grid.now)) c.loop-piece.piece-iterator c.args.grid.now.len
    c.loop-piece.found.cached.items c.loop-piece.found.runs.items c.loop-piece.invariant.found (search rules)

pub returns-clause-values : goal.returns-clause-values
returns-clause-values c = λ log_rules logs h asker w text.
    subst (λ (ss : List Step). Each (IsValue log_rules (logs c.args.key.now.tenant) c.args.asker.now (tree_of c.args.expr.now)) ss)
    (sym (steps_all c.args.self.now c.args.key.now (tree_of c.args.expr.now) c.args.asker.now
    (pieces_of c.args.interval c.args.grid.now.step (points c.args.grid.now)) c.loop-piece.piece-iterator c.args.grid.now.len
    c.loop-piece.found.cached.items c.loop-piece.found.runs.items c.loop-piece.invariant.found (search rules)))
    (values_over c.args.self.now c.args.key.now (tree_of c.args.expr.now) c.args.asker.now c.kept_cells.ensures log_rules c.args.interval logs h asker w text
    (pieces_of c.args.interval c.args.grid.now.step (points c.args.grid.now)))

pub returns-clause-few : goal.returns-clause-few
returns-clause-few c = λ log_rules logs h asker w text.
    let found = c.loop-piece.invariant.found in
    few_found c.args.self.now c.args.key.now (tree_of c.args.expr.now) c.args.asker.now c.kept_steps.ensures log_rules c.args.interval logs h asker w text
    (pieces_of c.args.interval c.args.grid.now.step (points c.args.grid.now)) (points c.args.grid.now)
    (ap steps_of (sym c.pieces-piece-items.ensures.pieces) ∙ c.pieces-piece-items.ensures.all) c.loop-piece.found.cached.items found.whole
    (steps_all c.args.self.now c.args.key.now (tree_of c.args.expr.now) c.args.asker.now
    (pieces_of c.args.interval c.args.grid.now.step (points c.args.grid.now)) c.loop-piece.piece-iterator c.args.grid.now.len
    c.loop-piece.found.cached.items c.loop-piece.found.runs.items found (search rules))
