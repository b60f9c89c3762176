use Rattle.std.proofs.Common.{None, ◌≡◌, [], ap, sym, ◌∙◌, rules, arith}
use Rattle.std.proofs.lemmas.Grind.{common_steps}
use Rattle.pf_columns.specs.Steps.{bad_in}
use Rattle.pf_columns.proofs.Below.{read_below}
use Rattle.pf_selectors.specs.Subqueries.{bad_over}
use Rattle.pf_selectors.proofs.MomentErrors.{none_over}
use Rattle.pf_selectors.proofs.moments.window_bads.Goals as goal

pub returns-then-is_empty : goal.returns-then-is_empty
returns-then-is_empty c = λ k h.
    let none : c.args.bads.now ≡ [] = first_of (search rules, grind (arith, common_steps)) in
    ap (λ bs. bad_in bs k) c.new.ensures.items
    ∙ none_over c.args.range c.args.at.now c.args.times.now k
    ∙ ap (λ bs. bad_over c.args.range c.args.at.now c.args.times.now bs k) (sym none)

pub returns : goal.returns
returns c = λ k h. read_below None _ (bad_over c.args.range c.args.at.now c.args.times.now c.args.bads.now) c.args.times.now.len k c.in_ok-found.ensures h
