use Rattle.std.proofs.Common.{◌≡◌, ◌+◌, ◌<◌, List, length, subst, sym, ap, ◌∙◌, arith, map, true}
use Rattle.std.proofs.lemmas.Bool.Decides.{nat_tests}
use Rattle.std.proofs.lemmas.Grind.{common_steps}
use Rattle.std.specs.Arc.{arc_value}
use Rattle.pf_base.specs.declared.plain.Row.{Row}
use Rattle.pf_block.specs.Snaps.{are_new, with_rows}
use Rattle.pf_model.specs.Log.{Change, Rules, Verdict, log_with, verdicts_of, verdicts_on, taken_rows, floor_below, newest_with}
use Rattle.pf_store.proofs.Logs.{none_verdicts, none_stands, some_verdicts, some_stands}
use Rattle.pf_store.proofs.Snapshots.{alike_with}
use Rattle.pf_store.proofs.tenant_log.TenantLog.append.Goals as goal
use Rattle.pf_store.specs.Standing.{LogData, IsAlike, IsLog, StandsFor, verdicts_after}
use Rattle.pf_store.specs.Verdicts.{VerdictsData, verdict_of}

pub returns-then-is_empty-clause-verdicts : goal.returns-then-is_empty-clause-verdicts
returns-then-is_empty-clause-verdicts c =
    let d : LogData = record { window = c.self.inside.window; entries = c.self.inside.entries; newest = c.self.inside.newest; generation = c.self.inside.generation; snap = arc_value c.self.inside.snap } in
    let vs : List Verdict = map verdict_of c.in_ok-judged.judged.list.items in
    let tk : List Row = c.in_ok-judged.judged.taken.items in
    let rows : List Row = c.args.batch.now.rows in
    let same : c.deref-2.result.now ≡ rows = c.deref-2.ensures.value ∙ ap (λ b. b.rows) c.batch.view_is in
    let f : (xs : List Row) → StandsFor d.snap xs → vs ≡ verdicts_on (floor_below d.window d.newest) xs rows =
    (λ xs s. c.in_ok-judged.ensures.list xs (subst (λ n. StandsFor n xs) (sym c.deref.ensures) s) ∙ (λ i. verdicts_on (c.floor_below.ensures i) xs (same i))) in
    let g : (xs : List Row) → StandsFor d.snap xs → tk ≡ taken_rows rows (verdicts_on (floor_below d.window d.newest) xs rows) =
    (λ xs s. c.in_ok-judged.ensures.taken xs (subst (λ n. StandsFor n xs) (sym c.deref.ensures) s) ∙ (λ i. taken_rows (same i) (verdicts_on (c.floor_below.ensures i) xs (same i)))) in
    let z : length tk ≡ 0 = grind (arith, nat_tests, c.is_empty.ensures, c.if-is_empty.true) in
    subst (λ e. (rules : Rules) (log : List Change) → IsLog rules e log → ◌≡◌ {A = VerdictsData} (record { list = vs; entry = c.self.inside.entries }) (verdicts_after rules log rows)) c.self.view_is
    (λ rules log k. none_verdicts rules d log k rows vs tk f g z)

pub returns-then-is_empty-clause-stands : goal.returns-then-is_empty-clause-stands
returns-then-is_empty-clause-stands c =
    let d : LogData = record { window = c.self.inside.window; entries = c.self.inside.entries; newest = c.self.inside.newest; generation = c.self.inside.generation; snap = arc_value c.self.inside.snap } in
    let vs : List Verdict = map verdict_of c.in_ok-judged.judged.list.items in
    let tk : List Row = c.in_ok-judged.judged.taken.items in
    let rows : List Row = c.args.batch.now.rows in
    let same : c.deref-2.result.now ≡ rows = c.deref-2.ensures.value ∙ ap (λ b. b.rows) c.batch.view_is in
    let f : (xs : List Row) → StandsFor d.snap xs → vs ≡ verdicts_on (floor_below d.window d.newest) xs rows =
    (λ xs s. c.in_ok-judged.ensures.list xs (subst (λ n. StandsFor n xs) (sym c.deref.ensures) s) ∙ (λ i. verdicts_on (c.floor_below.ensures i) xs (same i))) in
    let g : (xs : List Row) → StandsFor d.snap xs → tk ≡ taken_rows rows (verdicts_on (floor_below d.window d.newest) xs rows) =
    (λ xs s. c.in_ok-judged.ensures.taken xs (subst (λ n. StandsFor n xs) (sym c.deref.ensures) s) ∙ (λ i. taken_rows (same i) (verdicts_on (c.floor_below.ensures i) xs (same i)))) in
    let z : length tk ≡ 0 = grind (arith, nat_tests, c.is_empty.ensures, c.if-is_empty.true) in
    subst (λ e. (rules : Rules) (log : List Change) → IsLog rules e log → IsLog rules e (log_with log rows (verdicts_of rules log rows))) c.self.view_is
    (λ rules log k. none_stands rules d log k rows vs tk f g z)

pub invariant_of-self : goal.invariant_of-self
invariant_of-self c =
    let snap : arc_value c.in_ok-self-inside.field-0 ≡ with_rows (arc_value c.self.inside.snap) c.in_ok-judged.judged.taken.items =
    c.in_ok-self-inside.ensures ∙ (λ i. with_rows (c.deref-3.ensures i) (c.deref-4.ensures.value i)) in
    record {
      aged = omega (arith, c.in_ok-entries.ensures, c.self.invariant.aged);
      alike = subst IsAlike (sym snap) (alike_with (arc_value c.self.inside.snap) c.in_ok-judged.judged.taken.items c.self.invariant.alike);
    }

pub returns-clause-verdicts : goal.returns-clause-verdicts
returns-clause-verdicts c =
    let d : LogData = record { window = c.self.inside.window; entries = c.self.inside.entries; newest = c.self.inside.newest; generation = c.self.inside.generation; snap = arc_value c.self.inside.snap } in
    let vs : List Verdict = map verdict_of c.in_ok-judged.judged.list.items in
    let tk : List Row = c.in_ok-judged.judged.taken.items in
    let rows : List Row = c.args.batch.now.rows in
    let same : c.deref-2.result.now ≡ rows = c.deref-2.ensures.value ∙ ap (λ b. b.rows) c.batch.view_is in
    let f : (xs : List Row) → StandsFor d.snap xs → vs ≡ verdicts_on (floor_below d.window d.newest) xs rows =
    (λ xs s. c.in_ok-judged.ensures.list xs (subst (λ n. StandsFor n xs) (sym c.deref.ensures) s) ∙ (λ i. verdicts_on (c.floor_below.ensures i) xs (same i))) in
    let g : (xs : List Row) → StandsFor d.snap xs → tk ≡ taken_rows rows (verdicts_on (floor_below d.window d.newest) xs rows) =
    (λ xs s. c.in_ok-judged.ensures.taken xs (subst (λ n. StandsFor n xs) (sym c.deref.ensures) s) ∙ (λ i. taken_rows (same i) (verdicts_on (c.floor_below.ensures i) xs (same i)))) in
    let z : 0 < length tk = grind (arith, nat_tests, c.is_empty.ensures, c.if-is_empty.false) in
    let n : are_new d.snap tk ≡ true = subst (λ s. are_new s tk ≡ true) c.deref.ensures c.in_ok-judged.ensures.fresh in
    subst (λ e. (rules : Rules) (log : List Change) → IsLog rules e log → ◌≡◌ {A = VerdictsData} (record { list = vs; entry = c.in_ok-entries.entries }) (verdicts_after rules log rows)) c.self.view_is
    (λ rules log k. (λ i. record { list = vs; entry = c.in_ok-entries.ensures i }) ∙ some_verdicts rules d log k rows vs tk f g z c.self.invariant.alike n)

pub returns-clause-stands : goal.returns-clause-stands
returns-clause-stands c =
    let d : LogData = record { window = c.self.inside.window; entries = c.self.inside.entries; newest = c.self.inside.newest; generation = c.self.inside.generation; snap = arc_value c.self.inside.snap } in
    let vs : List Verdict = map verdict_of c.in_ok-judged.judged.list.items in
    let tk : List Row = c.in_ok-judged.judged.taken.items in
    let rows : List Row = c.args.batch.now.rows in
    let same : c.deref-2.result.now ≡ rows = c.deref-2.ensures.value ∙ ap (λ b. b.rows) c.batch.view_is in
    let f : (xs : List Row) → StandsFor d.snap xs → vs ≡ verdicts_on (floor_below d.window d.newest) xs rows =
    (λ xs s. c.in_ok-judged.ensures.list xs (subst (λ n. StandsFor n xs) (sym c.deref.ensures) s) ∙ (λ i. verdicts_on (c.floor_below.ensures i) xs (same i))) in
    let g : (xs : List Row) → StandsFor d.snap xs → tk ≡ taken_rows rows (verdicts_on (floor_below d.window d.newest) xs rows) =
    (λ xs s. c.in_ok-judged.ensures.taken xs (subst (λ n. StandsFor n xs) (sym c.deref.ensures) s) ∙ (λ i. taken_rows (same i) (verdicts_on (c.floor_below.ensures i) xs (same i)))) in
    let z : 0 < length tk = grind (arith, nat_tests, c.is_empty.ensures, c.if-is_empty.false) in
    let n : are_new d.snap tk ≡ true = subst (λ s. are_new s tk ≡ true) c.deref.ensures c.in_ok-judged.ensures.fresh in
    let snap : arc_value c.in_ok-self-inside.field-0 ≡ with_rows d.snap tk = c.in_ok-self-inside.ensures ∙ (λ i. with_rows (c.deref-3.ensures i) (c.deref-4.ensures.value i)) in
    let newest : c.newest_with-self-inside.result ≡ newest_with d.newest tk = c.newest_with-self-inside.ensures ∙ (λ i. newest_with d.newest (c.deref-6.ensures.value i)) in
    let new : LogData = record { window = d.window; entries = c.in_ok-entries.entries; newest = c.newest_with-self-inside.result; generation = d.generation; snap = arc_value c.in_ok-self-inside.field-0 } in
    let grown : LogData = record { window = d.window; entries = d.entries + 1; newest = newest_with d.newest tk; generation = d.generation; snap = with_rows d.snap tk } in
    let p : new ≡ grown = (λ i. record { window = d.window; entries = c.in_ok-entries.ensures i; newest = newest i; generation = d.generation; snap = snap i }) in
    subst (λ e. (rules : Rules) (log : List Change) → IsLog rules e log → IsLog rules new (log_with log rows (verdicts_of rules log rows))) c.self.view_is
    (λ rules log k. subst (λ x. IsLog rules x (log_with log rows (verdicts_of rules log rows))) (sym p) (some_stands rules d log k rows vs tk f g z c.self.invariant.alike n))

pub returns-clause-window : goal.returns-clause-window
returns-clause-window c = grind (arith, common_steps)

pub returns-clause-refused : goal.returns-clause-refused
returns-clause-refused c = grind (arith, common_steps)
