use Rattle.std.proofs.Common.{arith}
use Rattle.std.proofs.Common.{◌∙◌, rules, refl, sym}
use Rattle.std.proofs.lemmas.Grind.{common_steps}
use Rattle.pf_query.proofs.Tabled.{are_same, closed_table, known_tenant, none_is_held, none_waits, table_same}
use Rattle.pf_query.proofs.table.Table.close.Goals as goal

pub drop_some_waiting-requires-clause-known : goal.drop_some_waiting-requires-clause-known
drop_some_waiting-requires-clause-known c = known_tenant c.args.self.now c.args.query c.in-Some.entry c.requires (search rules)

pub drop_some_hands-requires-clause-known : goal.drop_some_hands-requires-clause-known
drop_some_hands-requires-clause-known c = known_tenant c.args.self.now c.args.query c.in-Some.entry c.requires (search rules)

pub drop_some_waiting-requires-clause-none : goal.drop_some_waiting-requires-clause-none
drop_some_waiting-requires-clause-none c h = none_waits c.args.self.now c.args.query c.in-Some.entry c.requires (search rules) (sym c.may_wait-waits.ensures ∙ h)

pub drop_some_hands-requires-clause-none : goal.drop_some_hands-requires-clause-none
drop_some_hands-requires-clause-none c h =
    none_is_held c.args.self.now c.args.query c.in-Some.entry c.requires (search rules) _ c.drop_some_waiting.ensures.dropped (sym c.may_be_in_hand-is_in_hand.ensures ∙ h)

pub returns-in_default-clause-table : goal.returns-in_default-clause-table
returns-in_default-clause-table c = table_same c.args.self.now _ c.requires c.requires.queues (are_same _ _ refl) (λ p. search rules)

pub returns-clause-table : goal.returns-clause-table
returns-clause-table c =
    closed_table c.args.self.now _ c.args.query c.in-Some.entry c.drop_some_waiting.new.self c.requires (search rules) c.in-Some.ensures.updates.0
    c.drop_some_waiting.ensures.dropped c.drop_some_hands.ensures.dropped c.drop_some_hands.ensures.queues

pub returns-clause-closed : goal.returns-clause-closed
returns-clause-closed c = grind (arith, common_steps)
