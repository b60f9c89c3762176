use Rattle.std.proofs.Common.{◌≡◌, ◌+◌, ◌-◌, sym, ap, ◌∙◌, arith, w64, length, take, drop}
use Rattle.std.specs.List.{filter}
use Rattle.std.specs.Arc.{arc_value}
use Rattle.std.proofs.lemmas.Int.{ints, to_z-of_z}
use Rattle.std.proofs.lemmas.List.{length-take}
use Rattle.pf_block.specs.Blocks.{samples_in}
use Rattle.pf_block.specs.Layers.{labelled}
use Rattle.pf_block.specs.Samples.{is_outside, rises}
use Rattle.pf_block.proofs.Parts.{copied_part, without_end, without_front}
use Rattle.pf_block.proofs.Searches.{rises_filter}
use Rattle.pf_block.proofs.part.Part.without.Goals as goal

pub returns-then-first-eq0 : goal.returns-then-first-eq0
returns-then-first-eq0 c =
    let i = c.self.inside in
    let all = samples_in i.id (arc_value i.block) in
    let ss = c.samples-samples.result.now in
    let e : c.in-Some.passed ≡ i.passed + c.count_until-behind.result = omega arith in
    ap (λ b. take (i.count - c.count_until-behind.result) (drop c.in-Some.passed (samples_in i.id b))) c.in_ok-try_clone.ensures
    ∙ ap (λ n. take (i.count - c.count_until-behind.result) (drop n all)) e
    ∙ without_front all ss i.passed i.count c.count_until-first.result c.count_until-behind.result c.args.from _ c.args.to _ (c.samples-samples.ensures.value ∙ sym c.self.view_is) (ap rises c.samples-samples.ensures.value ∙ c.samples-samples.ensures.rises)
    c.requires.to (omega (arith, ints)) c.count_until-first.ensures.value c.count_until-behind.ensures.value (to_z-of_z w64 c.args.to c.ranges.to) c.if-first-eq0.true
    ∙ ap (filter (is_outside c.args.from c.args.to)) c.samples-samples.ensures.value

pub invariant_of-result : goal.invariant_of-result
invariant_of-result c =
    let i = c.self.inside in
    let all = samples_in i.id (arc_value i.block) in
    let ss = c.samples-samples.result.now in
    let e : c.in-Some.passed ≡ i.passed + c.count_until-behind.result = omega arith in
    ap rises (ap (λ b. take (i.count - c.count_until-behind.result) (drop c.in-Some.passed (samples_in i.id b))) c.in_ok-try_clone.ensures
    ∙ ap (λ n. take (i.count - c.count_until-behind.result) (drop n all)) e
    ∙ without_front all ss i.passed i.count c.count_until-first.result c.count_until-behind.result c.args.from _ c.args.to _ (c.samples-samples.ensures.value ∙ sym c.self.view_is) (ap rises c.samples-samples.ensures.value ∙ c.samples-samples.ensures.rises)
    c.requires.to (omega (arith, ints)) c.count_until-first.ensures.value c.count_until-behind.ensures.value (to_z-of_z w64 c.args.to c.ranges.to) c.if-first-eq0.true
    ∙ ap (filter (is_outside c.args.from c.args.to)) c.samples-samples.ensures.value)
    ∙ rises_filter (is_outside c.args.from c.args.to) c.args.self.now c.samples-samples.ensures.rises

pub returns-then-behind-samples : goal.returns-then-behind-samples
returns-then-behind-samples c =
    let i = c.self.inside in
    let all = samples_in i.id (arc_value i.block) in
    let ss = c.samples-samples.result.now in
    ap (λ b. take c.count_until-first.result (drop i.passed (samples_in i.id b))) c.in_ok-try_clone-2.ensures
    ∙ without_end all ss i.passed i.count c.count_until-first.result c.count_until-behind.result c.args.from _ c.args.to _ (c.samples-samples.ensures.value ∙ sym c.self.view_is) (ap rises c.samples-samples.ensures.value ∙ c.samples-samples.ensures.rises)
    c.requires.to (omega (arith, ints)) c.count_until-first.ensures.value c.count_until-behind.ensures.value (to_z-of_z w64 c.args.to c.ranges.to) (omega (arith, c.if-behind-samples.true)) c.count_until-first.ensures.within
    ∙ ap (filter (is_outside c.args.from c.args.to)) c.samples-samples.ensures.value

pub invariant_of-result-then-behind-samples : goal.invariant_of-result-then-behind-samples
invariant_of-result-then-behind-samples c =
    let i = c.self.inside in
    let all = samples_in i.id (arc_value i.block) in
    let ss = c.samples-samples.result.now in
    ap rises (ap (λ b. take c.count_until-first.result (drop i.passed (samples_in i.id b))) c.in_ok-try_clone-2.ensures
    ∙ without_end all ss i.passed i.count c.count_until-first.result c.count_until-behind.result c.args.from _ c.args.to _ (c.samples-samples.ensures.value ∙ sym c.self.view_is) (ap rises c.samples-samples.ensures.value ∙ c.samples-samples.ensures.rises)
    c.requires.to (omega (arith, ints)) c.count_until-first.ensures.value c.count_until-behind.ensures.value (to_z-of_z w64 c.args.to c.ranges.to) (omega (arith, c.if-behind-samples.true)) c.count_until-first.ensures.within
    ∙ ap (filter (is_outside c.args.from c.args.to)) c.samples-samples.ensures.value)
    ∙ rises_filter (is_outside c.args.from c.args.to) c.args.self.now c.samples-samples.ensures.rises

pub returns : goal.returns
returns c =
    let id = c.self.inside.id in
    let ss = c.samples-samples.result.now in
    copied_part id c.rows-count.result (arc_value c.in_ok-new.field-0) (filter (is_outside c.args.from c.args.to) ss)
    (c.in_ok-new.ensures.ok ∙ c.in_ok-block.ensures ∙ (λ i. labelled id (filter (is_outside (to_z-of_z w64 c.args.from c.ranges.from i) (to_z-of_z w64 c.args.to c.ranges.to i)) ss)))
    (c.rows-count.ensures.rows ∙ ap length (sym c.in_ok-new.ensures.ok))
    ∙ ap (filter (is_outside c.args.from c.args.to)) c.samples-samples.ensures.value

pub invariant_of-result-2 : goal.invariant_of-result-2
invariant_of-result-2 c =
    let id = c.self.inside.id in
    let ss = c.samples-samples.result.now in
    ap rises (copied_part id c.rows-count.result (arc_value c.in_ok-new.field-0) (filter (is_outside c.args.from c.args.to) ss)
    (c.in_ok-new.ensures.ok ∙ c.in_ok-block.ensures ∙ (λ i. labelled id (filter (is_outside (to_z-of_z w64 c.args.from c.ranges.from i) (to_z-of_z w64 c.args.to c.ranges.to i)) ss)))
    (c.rows-count.ensures.rows ∙ ap length (sym c.in_ok-new.ensures.ok))
    ∙ ap (filter (is_outside c.args.from c.args.to)) c.samples-samples.ensures.value)
    ∙ rises_filter (is_outside c.args.from c.args.to) c.args.self.now c.samples-samples.ensures.rises

pub overflow_sub-result : goal.overflow_sub-result
overflow_sub-result c =
    let i = c.self.inside in
    omega (arith, ap length c.samples-samples.ensures.value, ap length c.self.view_is, length-take i.count (drop i.passed (samples_in i.id (arc_value i.block))), c.count_until-behind.ensures.within)

pub outside-requires : goal.outside-requires
outside-requires c = ap rises c.samples-samples.ensures.value ∙ c.samples-samples.ensures.rises
