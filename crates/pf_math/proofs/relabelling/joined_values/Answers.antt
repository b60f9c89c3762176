use Rattle.std.proofs.Common.{arith}
use Rattle.std.proofs.Common.{rules, ◌≡◌, ◌∷◌, string_bytes}
use Rattle.std.proofs.lemmas.Grind.{common_steps}
use Rattle.pf_base.specs.LabelSets.{value_of}
use Rattle.pf_math.proofs.JoinedValues.{begun}
use Rattle.pf_math.proofs.relabelling.joined_values.Goals as goal

pub loop-source-init : goal.loop-source-init
loop-source-init c =
    let bytes : string_bytes c.push_str.new.self ≡ value_of c.args.labels.now c.in-Some.first.now = search rules in
    let list : c.args.sources.now ≡ c.in-Some.first.now ∷ c.in-Some.rest.now = search rules in
    begun c.args.separator.now c.args.labels.now _ c.in-Some.first.now c.in-Some.rest.now c.args.sources.now bytes list

pub loop-source-preserved : goal.loop-source-preserved
loop-source-preserved c = grind (arith, common_steps)
