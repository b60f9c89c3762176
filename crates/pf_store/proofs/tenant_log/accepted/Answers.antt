use Rattle.std.proofs.Common.{ap, ◌∙◌, nat_eq}
use Rattle.std.specs.List.{list_any}
use Rattle.pf_index.proofs.Members.{any_selected}
use Rattle.pf_store.proofs.tenant_log.accepted.Goals as goal

pub returns : goal.returns
returns c = λ id h. ap (list_any (nat_eq id)) c.in_ok-ids.ensures.accepted ∙ any_selected c.args.matchers.now c.args.snap.now.labels id h
