use Rattle.std.proofs.Common.{rules, ◌≡◌, ◌∷◌, [], length, refl, sym, ap, ◌∙◌, subst, arith}
use Rattle.std.specs.Vec.Iter.{into_iter_items}
use Rattle.pf_eval.specs.Arguments.{Splits}
use Rattle.pf_eval.proofs.SplitArguments.{begun, nothing_left}
use Rattle.pf_eval.proofs.arguments.split.Goals as goal

pub loop-arg-init : goal.loop-arg-init
loop-arg-init c = (
  subst (Splits c.args.len c.args.args.items _) (sym (ap into_iter_items c.into_iter-arg-iterator.ensures.into_iter_gives ∙ c.into_iter-rest.ensures.rest))
      (begun c.args.len c.args.args.items _ c.new.ensures.items refl c.new-2.ensures.items c.new-3.ensures.items),
  search rules,
)

pub loop-arg-preserved : goal.loop-arg-preserved
loop-arg-preserved c =
    let l = c.loop-arg in
    let steps : into_iter_items l.arg-iterator ≡ c.in-Some.arg ∷ into_iter_items c.next.new.self = c.in-Some.ensures.steps.0 in (
      c.in_ok-splitting.ensures c.args.args.items (into_iter_items c.next.new.self)
          (subst (Splits c.args.len c.args.args.items l.splitting) steps l.invariant.0),
      let was = l.invariant.1 in
          let gone = c.in-Some.ensures.steps.1 in
          let short = ap length steps in
          omega arith,
    )

pub returns : goal.returns
returns c =
    let l = c.loop-arg in
    let none = c.in-None.ensures.steps in
    let empty : into_iter_items l.arg-iterator ≡ [] = nothing_left _ (sym l.invariant.1 ∙ none.0) in
    subst (Splits c.args.len c.args.args.items l.splitting) empty l.invariant.0
