use Rattle.std.proofs.Common.{◌≡◌, ◌-◌, suc, sym, ◌∙◌, ap, arith, to_z, of_z, w64, rules}
use Rattle.std.specs.Prelude.{int_le}
use Rattle.std.proofs.lemmas.Int.{to_z-of_z}
use Rattle.pf_block.specs.Samples.{until}
use Rattle.pf_block.proofs.Parts.{has_last, none_has}
use Rattle.pf_block.proofs.layer.has_time.Goals as goal

pub returns-then-count-gt0 : goal.returns-then-count-gt0
returns-then-count-gt0 c =
    let t = c.args.time in
    let ss = c.args.samples.now in
    let n = c.count_until-count.result - 1 in
    let v : c.count_until-count.result ≡ until t ss = c.count_until-count.ensures.value ∙ ap (λ u. until u ss) (to_z-of_z w64 t c.ranges.time) in
    let z : suc n ≡ until t ss = omega (arith, v, c.if-count-gt0.true) in
    ap (λ x. int_le (to_z w64 (of_z w64 t)) (to_z w64 (of_z w64 x.time))) (sym c.index-samples-count.is)
    ∙ (λ j. int_le (to_z-of_z w64 t c.ranges.time j) (to_z-of_z w64 c.index-samples-count.result.time (search rules) j))
    ∙ ap (λ x. int_le t x.time) c.index-samples-count.is
    ∙ sym (has_last t ss n c.index-samples-count.result c.requires z)

pub returns-else-count-gt0 : goal.returns-else-count-gt0
returns-else-count-gt0 c =
    let t = c.args.time in
    let ss = c.args.samples.now in
    let v : c.count_until-count.result ≡ until t ss = c.count_until-count.ensures.value ∙ ap (λ u. until u ss) (to_z-of_z w64 t c.ranges.time) in
    let f = none_has t ss c.requires (omega (arith, v, c.if-count-gt0.false)) in
    search (rules, f, c.if-count-gt0.false)
