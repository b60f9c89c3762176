use Rattle.std.proofs.Common.{rules, Some, ◌≡◌, subst}
use Rattle.std.specs.BTreeMap.{get_by_text}
use Rattle.std.specs.String.{string_bytes}
use Rattle.pf_match.proofs.Tables.{other_text}
use Rattle.pf_match.proofs.table.insert.Goals as goal

pub returns-clause-added : goal.returns-clause-added
returns-clause-added c = subst (λ text. get_by_text c.insert.new.self text ≡ Some c.args.pattern) (search rules) c.in_ok-insert.ensures.updates.1

pub returns-clause-others : goal.returns-clause-others
returns-clause-others c other d =
    other_text (string_bytes c.in_ok-from_str.field-0) c.args.text.now other c.args.built.now c.insert.new.self (Some c.args.pattern) (search rules) c.in_ok-insert.ensures.updates d
