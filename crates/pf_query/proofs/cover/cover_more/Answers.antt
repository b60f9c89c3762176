use Rattle.pf_query.proofs.Covering.{cover_more}
use Rattle.pf_query.proofs.cover.cover_more.Goals as goal

pub returns : goal.returns
returns c = cover_more
