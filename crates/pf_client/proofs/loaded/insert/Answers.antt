use Rattle.std.proofs.Common.{rules, Some}
use Rattle.std.specs.String.{string_bytes}
use Rattle.pf_client.proofs.Texts.{other_text}
use Rattle.pf_client.proofs.loaded.insert.Goals as goal

pub returns-clause-others : goal.returns-clause-others
returns-clause-others c other d =
    other_text (string_bytes c.in_ok-from_str.field-0) c.args.name.now other c.args.loaded.now c.insert.new.self (Some c.args.file) (search rules) c.in_ok-insert.ensures.updates d
