use Rattle.std.proofs.Common.{arith}
use Rattle.std.proofs.Common.{◌≡◌, ◌∙◌, None, ap, sym}
use Rattle.std.proofs.lemmas.Grind.{common_steps}
use Rattle.std.specs.HashMap.{get, hash_map_len}
use Rattle.pf_base.specs.LabelOrder.{labels_eq}
use Rattle.pf_block.specs.SeriesIds.{id_of}
use Rattle.pf_store.proofs.Giving.{gives_met}
use Rattle.pf_store.proofs.Numbers.{finds_number, ids_number, one_more}
use Rattle.pf_store.proofs.taken.TakenRows.searched.Goals as goal

pub returns-clause-found : goal.returns-clause-found
returns-clause-found c =
    let absent : get labels_eq c.args.self.now.series c.in_ok-clone.field-0 ≡ None = ap (get labels_eq c.args.self.now.series) c.in_ok-clone.ensures ∙ sym c.in_default.ensures.value in
    finds_number c.args.self.now.series c.insert.new.self c.in_ok-clone.field-0 _ c.in_ok-insert.ensures.updates c.args.self.now.values c.args.self.now.rows.items c.requires.found absent c.len.ensures.len
    (one_more (hash_map_len c.insert.new.self) (hash_map_len c.args.self.now.series) c.in_ok-insert.field-0 c.in_ok-insert.ensures.len (c.in_ok-insert.ensures.old ∙ absent))

pub returns-clause-ids : goal.returns-clause-ids
returns-clause-ids c =
    ids_number c.args.self.now.series c.insert.new.self c.in_ok-clone.field-0 _ c.in_ok-insert.ensures.updates c.args.snap.now c.requires.ids
    (c.find.ensures ∙ ap (λ l. id_of l c.args.snap.now.labels) (sym c.in_ok-clone.ensures))

pub returns-clause-known : goal.returns-clause-known
returns-clause-known c = grind (arith, common_steps)

pub returns-clause-rows : goal.returns-clause-rows
returns-clause-rows c = grind (arith, common_steps)

pub returns-clause-gives : goal.returns-clause-gives
returns-clause-gives c =
    let absent : get labels_eq c.args.self.now.series c.in_ok-clone.field-0 ≡ None = ap (get labels_eq c.args.self.now.series) c.in_ok-clone.ensures ∙ sym c.in_default.ensures.value in
    let more = one_more (hash_map_len c.insert.new.self) (hash_map_len c.args.self.now.series) c.in_ok-insert.field-0 c.in_ok-insert.ensures.len (c.in_ok-insert.ensures.old ∙ absent) in
    let id = c.find.ensures ∙ ap (λ l. id_of l c.args.snap.now.labels) (sym c.in_ok-clone.ensures) in
    gives_met c.args.snap.now c.args.self.now.series c.args.self.now.values c.args.self.now.rows.items c.args.self.now.ids.items c.args.self.now.given.ids.items c.args.self.now.given.next c.args.self.now.last c.requires.gives c.requires.found
    c.insert.new.self c.in_ok-clone.field-0 _ c.in_ok-insert.ensures.updates absent c.len.ensures.len more id _ c.in_ok-push.ensures.items
