use Rattle.std.proofs.Common.{subst}
use Rattle.pf_client.specs.Queries.{IsQueryRead}
use Rattle.pf_top.proofs.Printed.{query_printed, refusal_printed}
use Rattle.pf_top.proofs.evaluation.text_over.Goals as goal

pub returns-in_ok-text-in-Lawful : goal.returns-in_ok-text-in-Lawful
returns-in_ok-text-in-Lawful c refs query start end step big h gridded =
    query_printed refs c.args.batch.now query start end step c.args.grid c.in-Lawful.query _ c.in_ok-text-in-Lawful.ensures
    big (subst (IsQueryRead refs query) c.in-Lawful.is h) gridded

pub returns-in_ok-text-in-Refused : goal.returns-in_ok-text-in-Refused
returns-in_ok-text-in-Refused c refs query start end step big h gridded =
    refusal_printed refs c.args.batch.now query start end step c.args.grid c.in-Refused.error _ c.in_ok-text-in-Refused.ensures
    big (subst (IsQueryRead refs query) c.in-Refused.is h) gridded
