use Rattle.std.proofs.Common.{rules, ◌≡◌, ◌<◌, ◌≤◌, List, [], map, length, get_or, take, take_all, subst, ap, sym, ◌∙◌, arith}
use Rattle.std.specs.Prelude.{slice_set}
use Rattle.std.proofs.lemmas.List.{get_or-map, length-map}
use Rattle.pf_model.specs.Lists.{Each}
use Rattle.pf_model.specs.Merging.{below}
use Rattle.pf_columns.specs.Columns.{ColumnData}
use Rattle.pf_columns.specs.Groups.{those_of}
use Rattle.pf_columns.proofs.Below.{length_below}
use Rattle.pf_shard.specs.Groups.{IsWithin, known_over, with_values}
use Rattle.pf_shard.proofs.KnownGroups.{known_more}
use Rattle.pf_shard.proofs.KnownValues.{all_wider, each_wider}
use Rattle.pf_selectors.specs.SeriesColumns.{series_column}
use Rattle.pf_eval.proofs.summed.known_series.Goals as goal

pub loop-i-init : goal.loop-i-init
loop-i-init c = record { known = c.in_ok-known.ensures.known; within = c.in_ok-known.ensures.within }

pub add-requires-clause-place : goal.add-requires-clause-place
add-requires-clause-place c =
    let here : c.loop-i.i < length c.args.ids.now = search rules in
    let many : length c.loop-i.known ≡ c.args.count = ap length c.loop-i.invariant.known ∙ length_below _ c.args.count in
    subst (λ n. get_or c.args.places.now c.loop-i.i 0 < n) (sym many) (c.requires.within c.loop-i.i 0 (subst (λ n. c.loop-i.i < n) (sym c.requires.alike) here))

pub add-requires-clause-within : goal.add-requires-clause-within
add-requires-clause-within c =
    let here : c.loop-i.i < length c.args.ids.now = search rules in
    let least : c.loop-i.i ≤ 4294967295 = omega (arith, here, c.requires.few) in
    each_wider (λ ps. Each (IsWithin c.loop-i.i) ps) (λ ps. Each (IsWithin 4294967295) ps) (λ ps h. all_wider c.loop-i.i 4294967295 ps least h) c.loop-i.known c.loop-i.invariant.within

pub loop-i-preserved : goal.loop-i-preserved
loop-i-preserved c =
    let i = c.loop-i.i in
    let ids = c.args.ids.now in
    let places = c.args.places.now in
    let column = series_column c.args.snap.now c.args.times.now in
    let columns : List ColumnData = map column ids in
    let here : i < length ids = search rules in
    let many : length columns ≡ length ids = length-map ids column in
    let before = c.loop-i.known in
    let place = get_or places i 0 in
    let this : ColumnData = column (get_or ids i 0) in
    record {
      known =
          known_more c.args.times.now.len places columns c.args.count i this before c.add.new.self
          (c.requires.alike ∙ sym many) (subst (λ n. i < n) (sym many) here) (c.requires.within i 0 (subst (λ n. i < n) (sym c.requires.alike) here))
          (sym (get_or-map column ids i 0 this here)) c.loop-i.invariant.known
          (c.add.ensures.values ∙ ap (λ vs. slice_set before place (with_values (get_or before place []) vs)) (c.deref.ensures.value ∙ c.in_ok-read_values.ensures));
      within = c.add.ensures.within i c.loop-i.invariant.within;
    }

pub returns-clause-known : goal.returns-clause-known
returns-clause-known c =
    let ids = c.args.ids.now in
    let places = c.args.places.now in
    let column = series_column c.args.snap.now c.args.times.now in
    let columns : List ColumnData = map column ids in
    let end : length ids ≤ c.loop-i.i = c.loop-i-test.false in
    let all_places : take c.loop-i.i places ≡ places = take_all c.loop-i.i places (subst (λ n. n ≤ c.loop-i.i) (sym c.requires.alike) end) in
    let all_columns : take c.loop-i.i columns ≡ columns = take_all c.loop-i.i columns (subst (λ n. n ≤ c.loop-i.i) (sym (length-map ids column)) end) in
    c.loop-i.invariant.known ∙ (λ j. below (λ g. known_over c.args.times.now.len (those_of g (all_places j) (all_columns j))) c.args.count)

pub returns-clause-within : goal.returns-clause-within
returns-clause-within c =
    let end : c.loop-i.i ≤ length c.args.ids.now = search rules in
    let least : c.loop-i.i ≤ 4294967295 = omega (arith, end, c.requires.few) in
    each_wider (λ ps. Each (IsWithin c.loop-i.i) ps) (λ ps. Each (IsWithin 4294967295) ps) (λ ps h. all_wider c.loop-i.i 4294967295 ps least h) c.loop-i.known c.loop-i.invariant.within
