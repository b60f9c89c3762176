use Rattle.std.proofs.Common.{rules, refl, true}
use Rattle.pf_client.proofs.Asking.{step_refused}
use Rattle.pf_client.proofs.FileReads.{bad_grid, refused_slot}
use Rattle.pf_client.proofs.Steps.{grows_same}
use Rattle.pf_model.specs.ErrorTexts.{grid_text}
use Rattle.pf_journal.specs.Scripts as script
use Rattle.pf_client.specs.declared.slots.Slot.TheVariants as slot
use Rattle.pf_client.proofs.client.Client.instant.Goals as goal

pub returns-in_ok-refuse_ask-in-Err-clause-runs : goal.returns-in_ok-refuse_ask-in-Err-clause-runs
returns-in_ok-refuse_ask-in-Err-clause-runs c known readings n k =
    let refused = bad_grid true (known.readings c.args.query.now) _ c.in-Err.error (search rules) in
    step_refused known n c.args.self.now c.refuse_ask.new.self (search rules) c.args.number c.args.id.now c.args.tenant.now
    (script.instant c.args.id.now c.args.tenant.now c.args.time c.args.query.now) (refl, refl)
    (grid_text c.in-Err.error) (slot.BadGrid c.in-Err.error) (search rules) refused
    (refused_slot known (script.instant c.args.id.now c.args.tenant.now c.args.time c.args.query.now) (grid_text c.in-Err.error) refused) (search rules) (search rules)

pub returns-in_ok-refuse_ask-in-Err-clause-grows : goal.returns-in_ok-refuse_ask-in-Err-clause-grows
returns-in_ok-refuse_ask-in-Err-clause-grows c = grows_same c.args.self.now.core _ (search rules)
