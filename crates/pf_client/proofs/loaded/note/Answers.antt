use Rattle.std.proofs.Common.{rules, sym}
use Rattle.pf_client.proofs.Texts.{noted}
use Rattle.pf_client.specs.declared.loaded.ReadFile.{ReadFile}
use Rattle.pf_client.proofs.loaded.note.Goals as goal

pub returns-in-Some-clause-noted : goal.returns-in-Some-clause-noted
returns-in-Some-clause-noted c =
    let file : ReadFile = record { content = c.in-Some.file.now.content; last = c.args.number } in
    λ e. noted c.args.loaded.now (c.get_mut.follows.lender file) c.args.name.now c.in-Some.file.now c.args.number (sym c.in-Some.ensures.value)
    ((c.get_mut.follows.holds file).3 (search rules))
