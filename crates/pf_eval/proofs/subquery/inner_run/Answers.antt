use Rattle.pf_eval.proofs.ReadTimes.{inner_room, some_resolution, starts_within}
use Rattle.pf_eval.proofs.subquery.inner_run.Goals as goal

pub multiples_over-requires-clause-some : goal.multiples_over-requires-clause-some
multiples_over-requires-clause-some c = some_resolution c.args.resolution c.requires.resolution

pub multiples_over-requires-clause-starts : goal.multiples_over-requires-clause-starts
multiples_over-requires-clause-starts c =
    starts_within c.args.mods c.read_times-read.result c.args.times.now c.args.range c.requires.near c.requires.room c.requires.range
    c.read_times-read.ensures.len c.read_times-read.ensures.times

pub returns-clause-run : goal.returns-clause-run
returns-clause-run c = record {
  within = c.read_times-read.ensures.within;
  starts = starts_within c.args.mods c.read_times-read.result c.args.times.now c.args.range c.requires.near c.requires.room c.requires.range
      c.read_times-read.ensures.len c.read_times-read.ensures.times;
  multiples = c.in_ok-at.ensures;
}

pub returns-clause-room : goal.returns-clause-room
returns-clause-room c = λ levels.
    inner_room levels c.args.mods c.args.range c.args.resolution c.args.times.now c.read_times-read.result c.in_ok-at.at c.requires.near c.requires.range
    c.read_times-read.ensures.start c.read_times-read.ensures.len c.read_times-read.ensures.times c.in_ok-at.ensures
