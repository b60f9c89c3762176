use Rattle.std.proofs.Common.{rules, Some, inl, refl}
use Rattle.pf_client.proofs.Cases.{if_ok_map}
use Rattle.pf_client.proofs.Texts.{short_by}
use Rattle.pf_top.specs.Commands.{evaluate}
use Rattle.pf_top.specs.Seen.{files_seen}
use Rattle.pf_top.specs.WordSteps.{evaluation_in}
use Rattle.pf_top.proofs.OutputLaws.{evaluation_said, unread_said}
use Rattle.pf_top.proofs.driver.evaluate_file.Goals as goal

pub evaluate_content-requires : goal.evaluate_content-requires
evaluate_content-requires g c = short_by (g.F.Files.told c.args.files.now c.args.named.now.file.now) c.in-Ok.content (search rules)

pub returns-in-Ok : goal.returns-in-Ok
returns-in-Ok g c =
    let f = g.F.Files in
    let seen = files_seen f.told f.sure f.lost f.faults f.failed c.args.files.now c.read_file.new.files in
    if_ok_map _ _ c.evaluate_content.result
    (λ o output limits hops. evaluation_said limits hops seen (evaluation_in c.args.named.now) c.in-Ok.content o.status o.text.items (search rules) (search rules) (search rules) output)
    c.evaluate_content.ensures

pub returns-in-Err-Failed : goal.returns-in-Err-Failed
returns-in-Err-Failed g c =
    let f = g.F.Files in
    let seen = files_seen f.told f.sure f.lost f.faults f.failed c.args.files.now c.read_file.new.files in
    if_ok_map _ _ c.unread.result
    (λ o p limits hops. unread_said limits hops seen (Some (evaluate (evaluation_in c.args.named.now))) c.args.named.now.file.now o.status o.text.items (λ held. inl refl) (search rules) p)
    c.unread.ensures
