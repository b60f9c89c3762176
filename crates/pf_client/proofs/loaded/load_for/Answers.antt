use Rattle.pf_client.proofs.Texts.{loaded_none, no_file}
use Rattle.pf_client.proofs.loaded.load_for.Goals as goal

pub returns-in_default-clause-ok : goal.returns-in_default-clause-ok
returns-in_default-clause-ok g c =
    loaded_none (g.F.Files.told c.args.files.now) (g.F.Files.lost c.args.files.now) c.args.loaded.now c.args.line.now.line c.args.line.now.number
    c.requires.held c.requires.there (no_file c.args.line.now.line c.in_default.not-Ingest)
