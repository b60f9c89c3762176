use Rattle.pf_script.proofs.LineTexts.{ingest_found}
use Rattle.pf_script.proofs.lines.ingest_of.Goals as goal

pub returns-clause-exact : goal.returns-clause-exact
returns-clause-exact c =
    ingest_found c.args.words.now c.in-Some.tenant.now c.in-Some.named.now _ _ c.in-Some-timed_file.file.now _ _ c.in-Some.ensures c.in_ok-tenant.ensures c.tenant.view_is c.in-Some-timed_file.ensures.exact c.in_ok-of.ensures
