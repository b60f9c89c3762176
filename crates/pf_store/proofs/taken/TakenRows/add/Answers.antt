use Rattle.std.proofs.Common.{arith}
use Rattle.std.proofs.Common.{◌∙◌, ap}
use Rattle.std.proofs.lemmas.Grind.{common_steps}
use Rattle.pf_model.specs.Log.{compared}
use Rattle.pf_store.proofs.Giving.{gives_copy}
use Rattle.pf_store.proofs.Numbers.{finds_copy}
use Rattle.pf_store.proofs.taken.TakenRows.add.Goals as goal

pub returns-clause-found : goal.returns-clause-found
returns-clause-found c =
    finds_copy c.args.self.now.series c.args.self.now.values c.insert.new.self c.args.self.now.rows.items c.push-2.new.self.items c.args.row.now c.in_ok-copy.copy c.args.numbered
    c.in_ok-copy.ensures c.in_ok-push-2.ensures.items c.requires.found c.requires.known c.in_default.ensures.value c.in_ok-insert.ensures.updates

pub returns-in-Some-clause-verdict : goal.returns-in-Some-clause-verdict
returns-in-Some-clause-verdict c =
    c.compared.ensures
    ∙ ap (λ o. compared o c.args.row.now.value) (c.in-Some.ensures.value ∙ c.requires.found.held c.args.row.now.labels c.args.numbered c.requires.known c.args.row.now.time)

pub returns-clause-verdict : goal.returns-clause-verdict
returns-clause-verdict c =
    ap (λ o. compared o c.args.row.now.value) (c.in_default.ensures.value ∙ c.requires.found.held c.args.row.now.labels c.args.numbered c.requires.known c.args.row.now.time)

pub returns-clause-rows : goal.returns-clause-rows
returns-clause-rows c = grind (arith, common_steps)

pub returns-clause-series : goal.returns-clause-series
returns-clause-series c = grind (arith, common_steps)

pub give-requires : goal.give-requires
give-requires c = let b = c.requires.found.below c.args.row.now.labels c.args.numbered c.requires.known in omega (arith, b, c.requires.count)

pub returns-clause-gives : goal.returns-clause-gives
returns-clause-gives c = λ snap g.
    gives_copy snap c.args.self.now.series c.args.self.now.values c.args.self.now.rows.items c.args.self.now.ids.items c.args.self.now.given.ids.items c.args.self.now.given.next c.args.self.now.last g c.requires.found
    c.args.row.now c.in_ok-copy.copy c.args.numbered c.requires.known _ _ c.in_ok-id.id _ _ c.in_ok-copy.ensures c.in_ok-push-2.ensures.items c.in_ok-push.ensures.items c.in_ok-id.ensures.id c.in_ok-id.ensures.ids c.in_ok-id.ensures.next
