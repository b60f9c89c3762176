use Rattle.std.proofs.Common.{Ok, Err}
use Rattle.pf_columns.proofs.GroupKeys.{searched}
use Rattle.pf_columns.proofs.groups.place_in.Goals as goal

pub returns-in-Ok : goal.returns-in-Ok
returns-in-Ok c =
    searched c.args.sets.now c.args.labels.now (Ok c.in-Ok.place) c.requires.rising c.requires.there c.in-Ok.ensures.bound c.in-Ok.ensures.position

pub returns-in-Err : goal.returns-in-Err
returns-in-Err c =
    searched c.args.sets.now c.args.labels.now (Err c.in-Err.place) c.requires.rising c.requires.there c.in-Err.ensures.bound c.in-Err.ensures.position
