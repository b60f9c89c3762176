use Rattle.std.proofs.Common.{◌-◌, ◌∙◌, length, sym}
use Rattle.std.specs.Prelude.{slice_get}
use Rattle.pf_store.proofs.Giving.{last_same}
use Rattle.pf_store.proofs.taken.TakenRows.ends_with.Goals as goal

pub returns-in-Some : goal.returns-in-Some
returns-in-Some c = λ h n k.
    last_same c.args.self.now.series c.args.self.now.rows.items c.in-Some.row.now c.args.labels.now n
    (c.in-Some.ensures.value ∙ (λ i. slice_get (c.deref.ensures.value i) (length (c.deref.ensures.value i) - 1))) (sym c.eq.ensures ∙ h) k
