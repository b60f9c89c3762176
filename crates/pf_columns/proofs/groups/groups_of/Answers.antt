use Rattle.std.proofs.Common.{◌≡◌, true, None, map, subst, sym, ap, ◌∙◌}
use Rattle.std.specs.List.{All, list_any}
use Rattle.pf_model.specs.Cells.{distinct}
use Rattle.pf_model.specs.Selection.{same_labels}
use Rattle.pf_columns.specs.Columns.{AreRising}
use Rattle.pf_columns.specs.Groups.{place_in}
use Rattle.pf_columns.specs.Steps.{rise_above}
use Rattle.pf_columns.proofs.GroupKeys.{all_distinct, all_stand, distinct_rising}
use Rattle.pf_columns.proofs.Rising.{rise_is}
use Rattle.pf_columns.proofs.groups.groups_of.Goals as goal

pub own_places-requires : goal.own_places-requires
own_places-requires c =
    subst AreRising (sym c.deref-then-are_rising.ensures.value)
    (rise_is c.args.all.items (ap (rise_above None) (sym c.deref.ensures.value) ∙ sym c.if-are_rising.ensures))

pub returns-then-are_rising : goal.returns-then-are_rising
returns-then-are_rising c =
    let all = c.args.all.items in
    let rising = rise_is all (ap (rise_above None) (sym c.deref.ensures.value) ∙ sym c.if-are_rising.ensures) in
    let same = all_distinct all rising in
    let places : c.in_ok-of.of.items ≡ map (place_in all) all = c.in_ok-of.ensures ∙ ap (λ ls. map (place_in ls) ls) c.deref-then-are_rising.ensures.value in
    λ i. record { keys = same i; of = (places ∙ ap (λ ls. map (place_in ls) all) same) i }

pub places_in-requires-clause-rising : goal.places_in-requires-clause-rising
places_in-requires-clause-rising c =
    subst AreRising (sym (c.deref-3.ensures.value ∙ c.in_ok-keys.ensures)) (distinct_rising c.deref-2.result.now)

pub places_in-requires-clause-there : goal.places_in-requires-clause-there
places_in-requires-clause-there c =
    let all = c.args.all.items in
    let keys = c.deref-3.ensures.value ∙ c.in_ok-keys.ensures ∙ ap distinct c.deref-2.ensures.value in
    subst (λ ks. All (λ l. list_any (same_labels l) ks ≡ true) c.deref-4.result.now) (sym keys)
    (subst (All (λ l. list_any (same_labels l) (distinct all) ≡ true)) (sym c.deref-4.ensures.value) (all_stand all))
