use Rattle.std.proofs.Common.{pos, sym, ap, ◌∙◌, arith}
use Rattle.std.proofs.lemmas.Int.{ints}
use Rattle.pf_block.specs.Snaps.{samples_of}
use Rattle.pf_block.proofs.Searches.{none_at, held_from, valued, series_rises, series_timed}
use Rattle.pf_block.proofs.Stacking.{lawful_at}
use Rattle.pf_block.proofs.snap.Snap.held.Goals as goal

pub returns-then-time-gt-MAXT : goal.returns-then-time-gt-MAXT
returns-then-time-gt-MAXT c = sym (none_at _ (samples_of c.args.self.now c.args.id) (grind (arith, ints)) (series_timed (samples_of c.args.self.now c.args.id) (lawful_at c.args.self.now c.args.id c.series_count-count.ensures.snap c.requires)))

pub returns-in_err-sample : goal.returns-in_err-sample
returns-in_err-sample c =
    c.from_residual.ensures ∙ sym (ap valued c.in_err-sample.was)
    ∙ held_from (pos c.args.time) _ _ (samples_of c.args.self.now c.args.id) c.last.result (series_rises (samples_of c.args.self.now c.args.id) (lawful_at c.args.self.now c.args.id c.series_count-count.ensures.snap c.requires)) (omega (arith, ints)) (omega (arith, ints)) c.last.ensures

pub returns : goal.returns
returns c =
    sym (ap valued c.in_ok-sample.was)
    ∙ held_from (pos c.args.time) _ _ (samples_of c.args.self.now c.args.id) c.last.result (series_rises (samples_of c.args.self.now c.args.id) (lawful_at c.args.self.now c.args.id c.series_count-count.ensures.snap c.requires)) (omega (arith, ints)) (omega (arith, ints)) c.last.ensures
