-- How what is kept of a planned query is told from others where a model's value is of it: this project's own.
use Rattle.std.specs.Prelude.{ℕ, Bool, List, refl}
use Rattle.std.specs.Coded.{Coded, code_by, coded×, coded_bool, coded_list, coded_ℕ}
use Rattle.pf_base.specs.GridLists.{GridData}
use Rattle.pf_shard.specs.Lawful.{ResolvedLegs, legs_code}
use Rattle.pf_asked.specs.Codes.{grid_code}
use Rattle.pf_query.specs.Works.{WorkData}
use Rattle.pf_extent.specs.contracts.done.DoneCells as done
use Rattle.pf_query.specs.contracts.slot.Slot as slot
use Rattle.pf_extent.specs.declared.done.DoneCells.{DoneCells}
use Rattle.pf_query.specs.declared.slot.Slot.{Slot}

abbrev pub work_code : Coded WorkData
work_code =
    code_by (ResolvedLegs × (List GridData × (List Slot × (List DoneCells × (ℕ × (Bool × Bool))))))
    (coded× legs_code (coded× (coded_list grid_code) (coded× (coded_list slot.the_row.coded)
    (coded× (coded_list done.the_row.coded) (coded× coded_ℕ (coded× coded_bool coded_bool))))))
    (λ w. (w.legs, (w.runs, (w.slots, (w.cached, (w.cached_steps, (w.offered, w.given)))))))
    (λ p. record { legs = p.0; runs = p.1.0; slots = p.1.1.0; cached = p.1.1.1.0; cached_steps = p.1.1.1.1.0; offered = p.1.1.1.1.1.0; given = p.1.1.1.1.1.1 })
    (λ _. refl)
