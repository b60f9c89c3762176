use Rattle.std.proofs.Common.{rules, refl}
use Rattle.pf_client.proofs.Texts.{loaded_noted, loaded_read}
use Rattle.pf_client.proofs.loaded.load_one.Goals as goal

pub returns-in_ok-insert-in-Ok-clause-ok : goal.returns-in_ok-insert-in-Ok-clause-ok
returns-in_ok-insert-in-Ok-clause-ok g c =
    loaded_read c.args.loaded.now c.insert.new.loaded c.args.name.now (record { content = c.in-Ok.content; last = c.args.number }) (search rules) (search rules)
    (g.F.Files.told c.args.files.now) (g.F.Files.lost c.args.files.now) c.args.number c.requires.held c.requires.there (search rules) (search rules) (search rules) refl

pub returns-then-note-clause-ok : goal.returns-then-note-clause-ok
returns-then-note-clause-ok g c =
    loaded_noted (g.F.Files.told c.args.files.now) (g.F.Files.lost c.args.files.now) c.args.loaded.now c.args.name.now c.args.number c.note.new.loaded
    c.requires.held c.requires.there (search rules)
