use Rattle.std.proofs.Common.{◌≡◌, ◌+◌, ℕ, List, subst, sym, ◌∙◌, arith}
use Rattle.std.specs.Arc.{arc_value}
use Rattle.pf_block.specs.Snaps.{without_rows}
use Rattle.pf_model.specs.Log.{Change, Rules, log_without}
use Rattle.pf_store.specs.Standing.{AreAccepted, IsAlike, IsLog, LogData, deleted_after}
use Rattle.pf_store.specs.declared.tenant_log.Deleted.{Deleted}
use Rattle.pf_store.proofs.Logs.{shrinks, shrinks_deleted}
use Rattle.pf_store.proofs.Deletions.{alike_without}
use Rattle.pf_store.proofs.tenant_log.TenantLog.delete.Goals as goal

pub invariant_of-self : goal.invariant_of-self
invariant_of-self c =
    let snap : arc_value c.in_ok-self-inside.field-0 ≡ without_rows (arc_value c.self.inside.snap) c.in_ok-series.series.items c.args.from c.args.to =
    c.in_ok-self-inside.ensures ∙ (λ i. without_rows (c.deref-2.ensures i) (c.deref-3.ensures.value i) c.args.from c.args.to) in
    record {
      aged = omega (arith, c.in_ok-entries.ensures, c.self.invariant.aged);
      alike = subst IsAlike (sym snap) (alike_without (arc_value c.self.inside.snap) c.in_ok-series.series.items c.args.from c.args.to c.self.invariant.alike);
    }

pub returns-clause-deleted : goal.returns-clause-deleted
returns-clause-deleted c =
    let d : LogData = record { window = c.self.inside.window; entries = c.self.inside.entries; newest = c.self.inside.newest; generation = c.self.inside.generation; snap = arc_value c.self.inside.snap } in
    let w : AreAccepted c.args.matchers.now d.snap c.in_ok-series.series.items = subst (λ s. AreAccepted c.args.matchers.now s c.in_ok-series.series.items) c.deref.ensures c.in_ok-series.ensures in
    subst (λ e. (rules : Rules) (log : List Change) → IsLog rules e log → ◌≡◌ {A = Deleted} (record { generation = d.generation + 1; entry = c.in_ok-entries.entries }) (deleted_after rules (log_without log c.args.matchers.now c.args.from c.args.to))) c.self.view_is
    (λ rules log k. (λ i. record { generation = d.generation + 1; entry = c.in_ok-entries.ensures i }) ∙ shrinks_deleted rules d log c.args.matchers.now c.in_ok-series.series.items c.args.from c.args.to k c.self.invariant.alike w)

pub returns-clause-stands : goal.returns-clause-stands
returns-clause-stands c =
    let d : LogData = record { window = c.self.inside.window; entries = c.self.inside.entries; newest = c.self.inside.newest; generation = c.self.inside.generation; snap = arc_value c.self.inside.snap } in
    let ids : List ℕ = c.in_ok-series.series.items in
    let w : AreAccepted c.args.matchers.now d.snap ids = subst (λ s. AreAccepted c.args.matchers.now s ids) c.deref.ensures c.in_ok-series.ensures in
    let snap : arc_value c.in_ok-self-inside.field-0 ≡ without_rows d.snap ids c.args.from c.args.to =
    c.in_ok-self-inside.ensures ∙ (λ i. without_rows (c.deref-2.ensures i) (c.deref-3.ensures.value i) c.args.from c.args.to) in
    let new : LogData = record { window = d.window; entries = c.in_ok-entries.entries; newest = d.newest; generation = d.generation + 1; snap = arc_value c.in_ok-self-inside.field-0 } in
    let cut : LogData = record { window = d.window; entries = d.entries + 1; newest = d.newest; generation = d.generation + 1; snap = without_rows d.snap ids c.args.from c.args.to } in
    let p : new ≡ cut = (λ i. record { window = d.window; entries = c.in_ok-entries.ensures i; newest = d.newest; generation = d.generation + 1; snap = snap i }) in
    λ rules log k.
    subst (λ x. IsLog rules x (log_without log c.args.matchers.now c.args.from c.args.to)) (sym p)
    (shrinks rules d log c.args.matchers.now ids c.args.from c.args.to (subst (λ e. IsLog rules e log) (sym c.self.view_is) k) c.self.invariant.alike w)
