use Rattle.std.proofs.Common.{◌∙◌, rules, refl, subst, sym}
use Rattle.pf_query.specs.Jobs.{hand_of, has_hand}
use Rattle.pf_query.specs.Tables.{Goes, IsTable, hands_of}
use Rattle.pf_query.specs.declared.table.Table.{Table}
use Rattle.pf_query.proofs.Finishing.{again_is, again_table, back_room, goes_table, tried_goes, tried_goes_table, untried_goes}
use Rattle.pf_query.proofs.Tabled.{table_same}
use Rattle.pf_query.proofs.table.Table.fail.Goals as goal
use Rattle.pf_query.proofs.table.Table.fail.Goals.{then-release, else-release}

pub returns-in-Some-stop-clause-failed : goal.returns-in-Some-stop-clause-failed
returns-in-Some-stop-clause-failed c =
    let old = c.args.self.now in
    let held = c.args.held in
    let mid : Table = record { entries = old.entries; queues = c.release.new.self } in elim c.if-release.branch [
      | then-release w ↦
          let new : Table = record { entries = w.count_try.new.entries; queues = c.release.new.self } in
          subst (λ (t : Table). Goes old held c.in-Some-stop.why (has_hand (hand_of held) (hands_of old held.head.tenant)) t) (sym w.self-is)
          (tried_goes old held c.in-Some.state (search rules) c.requires mid new c.in-Some-stop.why (search rules) (λ p. refl) c.release.ensures.released
          w.count_try.ensures refl (sym c.release.ensures.found ∙ w.if-release.true) c.release.ensures.tries)
      | else-release w ↦
          subst (λ (t : Table). Goes old held c.in-Some-stop.why (has_hand (hand_of held) (hands_of old held.head.tenant)) t) (sym w.self-is)
          (untried_goes old held c.in-Some.state (search rules) c.requires mid c.in-Some-stop.why (search rules) (λ p. refl) c.release.ensures.released
          (sym c.release.ensures.found ∙ w.if-release.false) c.release.ensures.tries)
    ]

pub returns-in-Some-stop-clause-table : goal.returns-in-Some-stop-clause-table
returns-in-Some-stop-clause-table c =
    let old = c.args.self.now in
    let held = c.args.held in
    let mid : Table = record { entries = old.entries; queues = c.release.new.self } in elim c.if-release.branch [
      | then-release w ↦
          let new : Table = record { entries = w.count_try.new.entries; queues = c.release.new.self } in
          subst IsTable (sym w.self-is)
          (tried_goes_table old held c.in-Some.state (search rules) c.requires mid new c.in-Some-stop.why (search rules) (λ p. refl) c.release.ensures.released
          w.count_try.ensures refl c.release.ensures.queues)
      | else-release w ↦
          subst IsTable (sym w.self-is)
          (goes_table old held c.in-Some.state (search rules) c.requires mid c.in-Some-stop.why (search rules) (λ p. refl) c.release.ensures.released
          c.release.ensures.queues)
    ]

pub returns-then-not-put_back-clause-table : goal.returns-then-not-put_back-clause-table
returns-then-not-put_back-clause-table c =
    table_same c.args.self.now _ c.requires c.put_back.ensures.queues (c.put_back.ensures.unchanged (search rules)) (λ p. refl)

pub put_back-requires-2 : goal.put_back-requires-2
put_back-requires-2 c = back_room c.args.self.now c.args.held c.in-Some.state (search rules) c.requires (search rules) (search rules)

pub returns-clause-failed : goal.returns-clause-failed
returns-clause-failed c =
    again_is c.args.self.now c.args.held c.in-Some.state (search rules) c.requires (search rules) (search rules) _ _ refl (search rules)
    (c.put_back.ensures.back (search rules)) c.put_back-2.ensures (search rules)

pub returns-clause-table : goal.returns-clause-table
returns-clause-table c =
    again_table c.args.self.now c.args.held c.in-Some.state (search rules) c.requires (search rules) (search rules) _ _ refl (search rules)
    (c.put_back.ensures.back (search rules)) c.put_back-2.ensures c.put_back.ensures.queues
