use Rattle.std.proofs.Common.{◌≡◌, ◌<◌, length, map, get_or, subst, sym, ap, ◌∙◌}
use Rattle.std.specs.List.{All}
use Rattle.pf_model.specs.Cells.{distinct}
use Rattle.pf_columns.specs.Groups.{GroupsData, place_in}
use Rattle.pf_columns.proofs.NumberedKeys.{length_map, numbered_groups}
use Rattle.pf_columns.proofs.groups.GroupIds.of_numbered.Goals as goal

pub places_by-requires : goal.places_by-requires
places_by-requires c =
    let keys = c.args.keys.items in
    let of = c.deref.ensures.value ∙ ap (λ (g : GroupsData). g.of) (c.places.view_is ∙ c.in_ok-places.ensures) in
    let long : length c.deref.result.now ≡ length keys = ap length of ∙ length_map (place_in (distinct keys)) keys in
    subst (λ m. All (λ n. n < m) c.args.numbers.now) (sym long) c.requires.within

pub returns : goal.returns
returns c =
    let numbers = c.args.numbers.now in
    let places = c.in_ok-of.ensures ∙ ap (λ os. map (λ n. get_or os n 0) numbers) (c.deref.ensures.value ∙ ap (λ (g : GroupsData). g.of) c.places.view_is) in
    λ all e h.
    ap (λ (g : GroupsData). record { keys = g.keys; of = c.in_ok-of.of.items }) c.places.view_is
    ∙ numbered_groups c.args.keys.items all numbers c.in_ok-of.of.items c.in_ok-places.places c.requires.within c.in_ok-places.ensures places e h
