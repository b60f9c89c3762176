use Rattle.std.proofs.Common.{rules, ◌++◌, ◌∷◌, [], ap, ◌∙◌}
use Rattle.std.specs.String.{string_bytes}
use Rattle.pf_block.specs.Indexes.{listed_by}
use Rattle.pf_block.proofs.PostingLists.{noted, noted_new}
use Rattle.pf_block.proofs.index.note_value.Goals as goal

pub returns-in-Some : goal.returns-in-Some
returns-in-Some c =
    noted c.args.value.now c.args.id c.args.values.now (c.get_mut.follows.lender c.push.new.self) c.push.new.self ((c.get_mut.follows.holds c.push.new.self).3 (search rules))
    (c.in_ok-push.ensures.items ∙ ap (λ o. listed_by o ++ c.args.id ∷ []) c.in-Some.ensures.value)

pub returns : goal.returns
returns c =
    noted_new c.args.value.now (string_bytes c.in_ok-from_str.field-0) c.args.id c.args.values.now c.get_mut.follows.lender-at-none c.insert.new.self c.push-2.new.self c.new-ids.result.items
    c.get_mut.follows.holds-at-none c.in_ok-from_str.ensures.ok c.in_ok-insert.ensures.updates c.in_ok-push-2.ensures.items c.new-ids.ensures.items c.in_default.ensures.value
