use Rattle.std.proofs.Common.{rules, ◌≡◌, ◌∙◌, List, [], subst, sym}
use Rattle.lru.specs.LruCache.{LruCache}
use Rattle.pf_base.specs.Grids.{points}
use Rattle.pf_extent.specs.Steps.{Extents}
use Rattle.pf_extent.specs.declared.key.Key.{Key}
use Rattle.pf_split.specs.Pieces.{pieces_of}
use Rattle.pf_split.specs.declared.splitting.Piece.{Piece}
use Rattle.pf_results.specs.Truth.{AreAllSpaced, AreTrue}
use Rattle.pf_results.proofs.Pieced.{same_key, touched_all, touched_all_spaced, touched_all_true, touched_next}
use Rattle.pf_results.proofs.results.Results.touch_all.Goals as goal

pub loop-piece-preserved : goal.loop-piece-preserved
loop-piece-preserved c =
    let same = c.loop-piece.invariant.key in record {
      goes = (tt, tt);
      key = record { tenant = same.tenant; text = same.text; step = same.step };
      used = touched_next c.args.key.now c.loop-piece.piece-iterator c.next.new.self c.loop-piece.self-inside.cache c.touch.new.self _ c.in-Some.piece
          (search rules) (same_key c.args.key.now c.loop-piece.key c.in-Some.piece.interval same) c.touch.ensures
          ∙ c.loop-piece.invariant.used;
    }

pub invariant_of-self : goal.invariant_of-self
invariant_of-self c =
    let all : List Piece = pieces_of c.args.interval c.args.grid.now.step (points c.args.grid.now) in
    let none : c.loop-piece.piece-iterator ≡ [] = search rules in
    let same : c.args.self.now ≡ c.self.inside.cache = search rules in
    subst (λ (d : LruCache Key Extents). AreAllSpaced d.entries)
    (sym (touched_all c.args.key.now all c.loop-piece.piece-iterator c.args.self.now c.loop-piece.self-inside.cache c.loop-piece.invariant.used none))
    (touched_all_spaced c.args.key.now all c.args.self.now
    (subst (λ (d : LruCache Key Extents). AreAllSpaced d.entries) (sym same) c.self.invariant))

pub returns-clause-kept : goal.returns-clause-kept
returns-clause-kept c = λ log_rules logs h.
    let all : List Piece = pieces_of c.args.interval c.args.grid.now.step (points c.args.grid.now) in
    let none : c.loop-piece.piece-iterator ≡ [] = search rules in
    subst (λ (d : LruCache Key Extents). AreTrue log_rules c.args.interval logs d.entries)
    (sym (touched_all c.args.key.now all c.loop-piece.piece-iterator c.args.self.now c.loop-piece.self-inside.cache c.loop-piece.invariant.used none))
    (touched_all_true log_rules c.args.interval logs c.args.key.now all c.args.self.now h)
