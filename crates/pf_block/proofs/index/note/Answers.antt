use Rattle.std.proofs.Common.{rules, ◌++◌, ◌∷◌, [], cond, ap, ◌∙◌}
use Rattle.std.specs.String.{string_bytes}
use Rattle.std.specs.Str.{bytes_eq}
use Rattle.pf_block.specs.Indexes.{listed_in}
use Rattle.pf_block.proofs.PostingLists.{note_is, note_new}
use Rattle.pf_block.proofs.index.note.Goals as goal

pub returns-in-Some : goal.returns-in-Some
returns-in-Some c =
    note_is c.args.name.now c.args.value.now c.args.id c.args.names.now (c.get_mut.follows.lender c.note_value.new.values) c.note_value.new.values ((c.get_mut.follows.holds c.note_value.new.values).3 (search rules))
    (λ r. c.in_ok-note_value.ensures r ∙ ap (λ o. listed_in o r ++ cond (bytes_eq c.args.value.now r) (c.args.id ∷ []) []) c.in-Some.ensures.value)

pub returns : goal.returns
returns c =
    note_new c.args.name.now (string_bytes c.in_ok-from_str.field-0) c.args.value.now c.args.id c.args.names.now c.get_mut.follows.lender-at-none c.insert.new.self c.new-values.result c.note_value-2.new.values
    c.get_mut.follows.holds-at-none c.in_ok-from_str.ensures.ok c.in_ok-insert.ensures.updates c.new-values.ensures.empty c.in_ok-note_value-2.ensures c.in_default.ensures.value
