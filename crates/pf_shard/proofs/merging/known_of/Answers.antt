use Rattle.std.proofs.Common.{◌≡◌, ◌∷◌, [], length, sym, ap, ◌∙◌, subst, arith}
use Rattle.std.specs.Vec.Iter.{into_iter_items}
use Rattle.pf_shard.proofs.MergedShards.{AreLeft, groups_known, nothing_left, one_less, room_left}
use Rattle.pf_shard.proofs.merging.known_of.Goals as goal

pub loop-part-preserved : goal.loop-part-preserved
loop-part-preserved c =
    let l = c.loop-part in
    let behind = into_iter_items c.next.new.self in
    let steps : into_iter_items l.part-iterator ≡ c.in-Some.part ∷ behind = c.in-Some.ensures.steps.0 in
    record {
      done =
          one_less c.args.len c.args.parts.items l.found.columns c.in_ok-found.found.columns l.found.bads c.in_ok-found.found.bads c.in-Some.part behind
          c.with_shard.ensures.part c.with_shard.ensures.within c.in_ok-found.ensures.columns c.in_ok-found.ensures.bads
          (subst (λ ps. AreLeft c.args.len c.args.parts.items l.found.columns l.found.bads ps) steps l.invariant.done);
      left =
          let was = l.invariant.left in
          let gone = c.in-Some.ensures.steps.1 in
          let short = ap length steps in
          omega arith;
    }

pub returns-clause-within : goal.returns-clause-within
returns-clause-within c = room_left _ _ _ _ _ c.loop-part.invariant.done c.requires

pub returns-clause-groups : goal.returns-clause-groups
returns-clause-groups c =
    let none = c.in-None.ensures.steps in
    let empty : into_iter_items c.loop-part.part-iterator ≡ [] = nothing_left _ (sym c.loop-part.invariant.left ∙ none.0) in
    λ k h. groups_known _ _ _ _ _ empty c.loop-part.invariant.done k h
