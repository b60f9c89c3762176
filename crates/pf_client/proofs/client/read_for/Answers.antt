use Rattle.std.proofs.Common.{rules}
use Rattle.pf_client.proofs.Cases.{if_ok_map}
use Rattle.pf_client.proofs.client.read_for.Goals as goal

pub returns-clause-read : goal.returns-clause-read
returns-clause-read c =
    if_ok_map _ _ c.read_content-read.result
    (λ r h held are. h (held c.args.name.now) (are c.args.name.now c.index-file.result.now (search rules)))
    c.read_content-read.ensures.read
