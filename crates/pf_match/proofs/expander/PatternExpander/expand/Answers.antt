use Rattle.std.proofs.Common.{arith}
use Rattle.std.proofs.Common.{option_map, ap, sym, ◌∙◌}
use Rattle.std.proofs.lemmas.Grind.{common_steps}
use Rattle.pf_match.proofs.Searches.{expand_of, written_by}
use Rattle.pf_match.proofs.expander.PatternExpander.expand.Goals as goal
use Rattle.pf_match.proofs.expander.PatternExpander.expand.Goals.{in-Some+in_ok-expand-in-Some, in-None}
use Rattle.pf_match.specs.Meaning.{written_at}
use Rattle.regex.specs.Strings.{matcher_names}

pub returns-clause-value : goal.returns-clause-value
returns-clause-value c =
    let kept = c.self.invariant in
    let value = c.args.text.now in
    let template = c.self.inside.template.now in
    let written = option_map (written_at (matcher_names c.self.inside.matcher) value template) in
    let expanded = expand_of c.self.inside.text.now _ _ value template (λ k. (c.type_inv.text k).fits) kept.0 in
    elim c.match-captures.branch [
      | in-Some+in_ok-expand-in-Some w ↦
          let found = w.in-Some.ensures.found in
          let out = written_by value found.0 w.in-Some.groups c.self.inside.pieces _ template found.2 kept.1 in
          rw (w.result-is, w.in_ok-expand-in-Some.ensures.value, w.new-out.ensures.bytes, out) (ap written (sym found.1) ∙ rw (← c.self.view_is) expanded)
      | in-None w ↦ rw w.result-is (ap written (sym w.in-None.ensures.found) ∙ rw (← c.self.view_is) expanded)
    ]

pub returns-clause-same : goal.returns-clause-same
returns-clause-same c = grind (arith, common_steps)
