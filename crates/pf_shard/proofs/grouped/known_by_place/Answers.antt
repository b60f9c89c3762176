use Rattle.std.proofs.Common.{rules, ◌≡◌, ◌<◌, ◌≤◌, [], length, get_or, subst, ap, sym, ◌∙◌, arith}
use Rattle.std.specs.Prelude.{slice_set}
use Rattle.pf_columns.proofs.Below.{length_below}
use Rattle.pf_shard.specs.Groups.{with_values}
use Rattle.pf_shard.proofs.KnownGroups.{known_more}
use Rattle.pf_shard.proofs.KnownValues.{lists_wider}
use Rattle.pf_shard.proofs.grouped.known_by_place.Goals as goal

pub add-requires-clause-place : goal.add-requires-clause-place
add-requires-clause-place c =
    let here : c.loop-i.i < length c.args.columns.now = search rules in
    let many : length c.loop-i.found ≡ c.args.count = ap length c.loop-i.invariant.known ∙ length_below _ c.args.count in
    subst (λ n. get_or c.args.places.now c.loop-i.i 0 < n) (sym many) (c.requires.inside c.loop-i.i 0 (subst (λ n. c.loop-i.i < n) (sym c.requires.alike) here))

pub add-requires-clause-within : goal.add-requires-clause-within
add-requires-clause-within c =
    let here : c.loop-i.i < length c.args.columns.now = search rules in
    lists_wider c.loop-i.i 4294967295 c.loop-i.found (omega (arith, here, c.requires.few)) c.loop-i.invariant.within

pub loop-i-preserved : goal.loop-i-preserved
loop-i-preserved c =
    let here : c.loop-i.i < length c.args.columns.now = search rules in
    let before = c.loop-i.found in
    let place = get_or c.args.places.now c.loop-i.i 0 in
    record {
      known =
          known_more c.args.len c.args.places.now c.args.columns.now c.args.count c.loop-i.i c.index-columns-i.result before c.add.new.self
          c.requires.alike here (c.requires.inside c.loop-i.i 0 (subst (λ n. c.loop-i.i < n) (sym c.requires.alike) here)) c.index-columns-i.is c.loop-i.invariant.known
          (c.add.ensures.values
          ∙ ap (λ vs. slice_set before place (with_values (get_or before place []) vs)) (c.deref.ensures.value ∙ ap (λ d. d.values) c.column.view_is));
      within = c.add.ensures.within c.loop-i.i c.loop-i.invariant.within;
    }

pub returns-clause-within : goal.returns-clause-within
returns-clause-within c =
    let end : c.loop-i.i ≤ length c.args.columns.now = search rules in
    lists_wider c.loop-i.i 4294967295 c.loop-i.found (omega (arith, end, c.requires.few)) c.loop-i.invariant.within
