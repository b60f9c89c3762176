use Rattle.std.proofs.Common.{refl}
use Rattle.pf_eval.proofs.Moments.{scalar_moment, vector_moment}
use Rattle.pf_eval.proofs.subquery.moments_of.Goals as goal

pub returns-in-Vector : goal.returns-in-Vector
returns-in-Vector c = λ k. vector_moment c.args.inner c.in-Vector.steps k c.in-Vector.is

pub returns-in-Scalar : goal.returns-in-Scalar
returns-in-Scalar c = λ k. scalar_moment c.args.inner c.in-Scalar.scalars _ k c.in-Scalar.is c.new.ensures.items refl
