use Rattle.std.proofs.Common.{rules}
use Rattle.pf_top.proofs.Printed.{times_printed}
use Rattle.pf_client.proofs.Cases.{if_ok_map}
use Rattle.pf_top.proofs.evaluation.evaluation_of.Goals as goal

pub returns-in-Ok : goal.returns-in-Ok
returns-in-Ok c =
    if_ok_map _ _ c.text_over.result
    (λ t h. h c.in_ok-read.ensures.0 c.args.named.now.query.now c.args.named.now.start c.args.named.now.end c.args.named.now.step c.in_ok-read.ensures.1.0 c.in_ok-read.ensures.1.1.0 (search rules))
    c.text_over.ensures

pub returns : goal.returns
returns c =
    if_ok_map _ _ c.refused_grid.result
    (λ t told. times_printed c.in_ok-read.ensures.0 c.args.batch.now c.args.named.now.query.now c.args.named.now.start c.args.named.now.end c.args.named.now.step c.in-Err.error c.in_ok-read.read.query _
    told c.in_ok-read.ensures.1.0 c.in_ok-read.ensures.1.1.0 (search rules))
    c.refused_grid.ensures
