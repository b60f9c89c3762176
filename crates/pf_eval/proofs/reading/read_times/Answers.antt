use Rattle.pf_selectors.specs.Times.{time_at}
use Rattle.pf_eval.proofs.ReadTimes.{all_within, fixed_read, fixed_start, moved_first, moved_read}
use Rattle.pf_eval.proofs.reading.read_times.Goals as goal

pub returns-in-Some-clause-start : goal.returns-in-Some-clause-start
returns-in-Some-clause-start c =
    fixed_start c.args.mods c.in-Some.millis c.fixed_times.result c.args.times.now.start c.in-Some.ensures c.fixed_times.ensures.start

pub returns-in-Some-clause-times : goal.returns-in-Some-clause-times
returns-in-Some-clause-times c = λ k h.
    fixed_read c.args.mods c.in-Some.millis c.fixed_times.result (time_at c.args.times.now k) k c.in-Some.ensures c.fixed_times.ensures.start c.fixed_times.ensures.step c.fixed_times.ensures.list

pub returns-in-Some-clause-within : goal.returns-in-Some-clause-within
returns-in-Some-clause-within c =
    all_within c.args.mods c.fixed_times.result c.args.times.now c.requires.near c.requires.room c.fixed_times.ensures.len
    (λ k h. fixed_read c.args.mods c.in-Some.millis c.fixed_times.result (time_at c.args.times.now k) k c.in-Some.ensures c.fixed_times.ensures.start c.fixed_times.ensures.step c.fixed_times.ensures.list)

pub returns-in-None-clause-start : goal.returns-in-None-clause-start
returns-in-None-clause-start c = moved_first c.args.mods c.moved_times.result c.args.times.now c.in-None.ensures c.moved_times.ensures.start

pub returns-in-None-clause-times : goal.returns-in-None-clause-times
returns-in-None-clause-times c = λ k h.
    moved_read c.args.mods c.moved_times.result c.args.times.now k c.in-None.ensures c.moved_times.ensures.start c.moved_times.ensures.step c.moved_times.ensures.list

pub returns-in-None-clause-within : goal.returns-in-None-clause-within
returns-in-None-clause-within c =
    all_within c.args.mods c.moved_times.result c.args.times.now c.requires.near c.requires.room c.moved_times.ensures.len
    (λ k h. moved_read c.args.mods c.moved_times.result c.args.times.now k c.in-None.ensures c.moved_times.ensures.start c.moved_times.ensures.step c.moved_times.ensures.list)
