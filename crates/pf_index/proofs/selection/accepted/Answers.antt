use Rattle.std.proofs.Common.{◌≡◌, ◌<◌, ℕ, List, Bor, true, length, map, sym, ap, ◌∙◌, subst, arith}
use Rattle.std.proofs.lemmas.Bool.{eqb-false}
use Rattle.std.proofs.lemmas.List.{length-map}
use Rattle.std.specs.List.{All}
use Rattle.pf_index.specs.Listing.{accepted_in, listed_in, listed_values}
use Rattle.pf_index.specs.Sieving.{holds_of}
use Rattle.pf_index.proofs.Covered.{accepted_has, all_listed_accepted, listed_holds, listed_within}
use Rattle.pf_index.proofs.selection.accepted.Goals as goal

pub sieved-requires-clause-within : goal.sieved-requires-clause-within
sieved-requires-clause-within c =
    subst (All (λ id. id < length c.args.snap.now.labels)) (sym c.in_ok-ids.ensures) (listed_within c.as_str.result.now (map (λ x. x.now) c.deref.result.now) c.args.snap.now.labels)

pub sieved-requires-clause-listed : goal.sieved-requires-clause-listed
sieved-requires-clause-listed c = λ d.
    let ls = c.args.snap.now.labels in
    let m = c.matcher-matcher.result.now in
    let values : map (λ x. x.now) c.deref.result.now ≡ listed_values m = ap (map (λ x. x.now)) c.deref.ensures.value ∙ c.in_ok-values.ensures in
    let ids : c.in_ok-ids.ids.items ≡ listed_in m.label (listed_values m) ls = c.in_ok-ids.ensures ∙ (λ i. listed_in (c.as_str.ensures i) (values i) ls) in
    subst (λ x. All (λ id. holds_of x ls id ≡ true) c.in_ok-ids.ids.items) (c.matcher-matcher.ensures d)
    (subst (All (λ id. holds_of m ls id ≡ true)) (sym ids) (listed_holds m ls c.series_count-count.ensures.labels))

pub returns-then-not-is_empty : goal.returns-then-not-is_empty
returns-then-not-is_empty c =
    let ms = c.args.matchers.now in
    let ls = c.args.snap.now.labels in
    let m = c.matcher-matcher.result.now in
    let read : List (Bor (List ℕ)) → List (List ℕ) = λ vs. map (λ x. x.now) vs in
    let values : List (Bor (List ℕ)) = c.in_ok-values.values.items in
    let some = eqb-false _ _ (sym c.if-not-is_empty.ensures) in
    let n : length (read values) ≡ length values = length-map values (λ x. x.now) in
    let ids : c.in_ok-ids.ids.items ≡ listed_in m.label (read values) ls = c.in_ok-ids.ensures ∙ (λ i. listed_in (c.as_str.ensures i) (read (c.deref.ensures.value i)) ls) in
    c.in_ok-found.ensures ∙ ap (accepted_in ms ls) ids
    ∙ all_listed_accepted ms ls m.label (read values)
    (accepted_has ms c.in-Some.place m (read values) c.in-Some.ensures (c.matcher-matcher.ensures m) c.in_ok-values.ensures (omega (arith, n, some)))
