use Rattle.std.proofs.Common.{ap, sym, ◌∙◌}
use Rattle.std.proofs.Common.{arith}
use Rattle.std.proofs.lemmas.Grind.{common_steps}
use Rattle.std.proofs.lemmas.Result.{err_from_is_err_and}
use Rattle.pf_match.proofs.Searches.{built_is_read_as, is_pattern_of, pattern_fault}
use Rattle.pf_match.proofs.pattern.Pattern.build.Goals as goal
use Rattle.pf_match.specs.Meaning.{anchored}

pub invariant_of-result : goal.invariant_of-result
invariant_of-result c =
    let made = c.in_ok-engine.ensures in
    let source = made.source ∙ c.as_str.ensures.value ∙ c.in_ok-source.ensures in
    rw c.in_ok-regex.ensures
    (built_is_read_as c.in_ok-engine.engine _ (source ∙ ap anchored (sym c.in_ok-text.ensures.ok)) made.config made.read)

pub returns-clause-read : goal.returns-clause-read
returns-clause-read c =
    let made = c.in_ok-engine.ensures in
    let source = made.source ∙ c.as_str.ensures.value ∙ c.in_ok-source.ensures in
    is_pattern_of c.args.text.now _ _ (built_is_read_as c.in_ok-engine.engine _ source made.config made.read)

pub returns-clause-built : goal.returns-clause-built
returns-clause-built c = grind (arith, common_steps)

pub returns-in_err-engine-clause-refused : goal.returns-in_err-engine-clause-refused
returns-in_err-engine-clause-refused c =
    let p = err_from_is_err_and c.from_residual-in_err-engine.result c.from_residual-in_err-engine.ensures.1 in
    let fault = c.in_err-engine.ensures in
    let source = c.as_str.ensures.value ∙ c.in_ok-source.ensures in
    rw (p.1, p.2) (pattern_fault c.args.text.now _ _ source fault.by_grammar fault.kind)
