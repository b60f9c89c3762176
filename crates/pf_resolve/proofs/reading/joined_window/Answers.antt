use Rattle.std.proofs.Common.{◌≡◌, ◌-◌, ◌≤ℤ◌, ℤ, pos, ◌-ℤ◌, ◌*ℤ◌, sym, subst, ◌∙◌, rules, arith, w64, to_z, of_z}
use Rattle.std.proofs.lemmas.Grind.{common_steps}
use Rattle.std.proofs.lemmas.Int.{ints}
use Rattle.pf_model.specs.Evaluation.{read_time}
use Rattle.pf_model.specs.Micros.{cut_down}
use Rattle.pf_resolve.proofs.Rising.{read_rises, times_rise}
use Rattle.pf_resolve.proofs.reading.joined_window.Goals as goal

pub returns-clause-order : goal.returns-clause-order
returns-clause-order c =
    let d = c.args.step in
    let n = c.count_of-count.result in
    let low : ℤ = to_z w64 (of_z w64 c.args.from) in
    let high : ℤ = to_z w64 (of_z w64 c.args.to) in
    let read : ℤ → ℤ = read_time c.args.mods in
    let from : low ≡ c.args.from = first_of (search rules, grind (arith, common_steps)) in
    let to : high ≡ c.args.to = first_of (search rules, grind (arith, common_steps)) in
    let early : to_z w64 (of_z w64 c.multiple-early.result) ≡ c.multiple-early.result = first_of (search rules, grind (arith, common_steps)) in
    let late : to_z w64 (of_z w64 c.multiple-late.result) ≡ c.multiple-late.result = first_of (search rules, grind (arith, common_steps)) in
    let first : to_z w64 (of_z w64 c.read_time-first.result) ≡ c.read_time-first.result = first_of (search rules, grind (arith, common_steps)) in
    let places = times_rise d (cut_down high d -ℤ pos (n - 1)) (cut_down high d -ℤ pos 0) (omega (arith, ints)) in
    let reads : read (to_z w64 (of_z w64 c.multiple-early.result)) ≤ℤ read (to_z w64 (of_z w64 c.multiple-late.result)) =
    read_rises c.args.mods (to_z w64 (of_z w64 c.multiple-early.result)) (to_z w64 (of_z w64 c.multiple-late.result))
    (subst (λ x. x ≤ℤ to_z w64 (of_z w64 c.multiple-late.result)) (sym (early ∙ c.multiple-early.ensures.value))
    (subst (λ x. ((cut_down high d -ℤ pos (n - 1)) *ℤ pos d) ≤ℤ x) (sym (late ∙ c.multiple-late.ensures.value)) places)) in
    let a = first ∙ c.read_time-first.ensures.value in
    let b = c.read_time-last.ensures.value in
    let s = c.window_start-start.ensures.value in
    omega (arith, ints, reads, a, b, s)
