use Rattle.pf_selectors.specs.Times.{time_at}
use Rattle.pf_eval.proofs.InstantSteps.{absent_given, scalar_given, time_given, vector_given}
use Rattle.pf_eval.proofs.instant.of_arguments.Goals as goal

pub returns-in-Absent-clause-value : goal.returns-in-Absent-clause-value
returns-in-Absent-clause-value c =
    absent_given c.absent.result c.args.f c.args.times.now.len c.args.labels (time_at c.args.times.now) c.args.args c.in-Absent.is c.absent.ensures.value

pub returns-in-Scalar-clause-value : goal.returns-in-Scalar-clause-value
returns-in-Scalar-clause-value c =
    scalar_given c.scalar.result c.args.f c.args.times.now.len c.args.labels (time_at c.args.times.now) c.args.args c.in-Scalar.is c.scalar.ensures.value

pub returns-in-Vector-clause-value : goal.returns-in-Vector-clause-value
returns-in-Vector-clause-value c =
    vector_given c.vector.result c.args.f c.args.times.now.len c.args.labels (time_at c.args.times.now) c.args.args c.in-Vector.is c.vector.ensures.value

pub returns-in-Time-clause-value : goal.returns-in-Time-clause-value
returns-in-Time-clause-value c =
    time_given c.time.result c.args.f c.args.times.now.len c.args.labels (time_at c.args.times.now) c.args.args c.in-Time.is c.time.ensures.value
