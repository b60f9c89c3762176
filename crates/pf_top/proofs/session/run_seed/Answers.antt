use Rattle.std.proofs.Common.{rules, ◌∙◌, map}
use Rattle.pf_gen.specs.Sessions.{Session}
use Rattle.pf_script.specs.Lines.{lines_of}
use Rattle.pf_client.proofs.Cases.{if_ok_map}
use Rattle.pf_top.specs.Seen.{hops_seen}
use Rattle.pf_top.proofs.SessionLaws.{seed_summed}
use Rattle.pf_top.proofs.SessionScripts.{generated_refused}
use Rattle.pf_top.proofs.session.run_seed.Goals as goal

pub returns-in-Ok : goal.returns-in-Ok
returns-in-Ok g c =
    let made : Session = record { files = map (λ f. (f.0, f.1.items)) c.generated.inside.files.items; script = c.generated.inside.script } in
    if_ok_map _ _ c.run_pages.result
    (λ o sum. seed_summed c.args.limits (hops_seen g.H.Hop.most g.H.Hop.faults c.args.hops.now) c.args.seed made c.as_bytes.result.now (lines_of c.in-Ok.script) o.status o.text.items (c.generated.view_is ∙ c.in_ok-generated.ensures)
    (search rules) (search rules) sum)
    c.run_pages.ensures

-- the script of a seed's session is read
pub unreachable-requires : goal.unreachable-requires
unreachable-requires g c =
    let made : Session = record { files = map (λ f. (f.0, f.1.items)) c.generated.inside.files.items; script = c.generated.inside.script } in
    generated_refused c.args.seed made c.as_bytes.result.now c.in-Err-Line.field-0-0 (c.generated.view_is ∙ c.in_ok-generated.ensures) (search rules) (search rules)
