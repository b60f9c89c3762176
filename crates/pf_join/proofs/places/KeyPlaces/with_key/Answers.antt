use Rattle.std.proofs.Common.{◌≡◌, rules, drop, not, ap, ◌∙◌}
use Rattle.std.specs.List.{filter}
use Rattle.std.specs.Ordering.{is_gt, is_lt}
use Rattle.pf_base.specs.LabelOrder.{labels_cmp}
use Rattle.pf_join.specs.KeyPlaces.{key_of}
use Rattle.pf_join.proofs.Finding.{found_is}
use Rattle.pf_join.proofs.places.KeyPlaces.with_key.Goals as goal

pub returns-clause-places : goal.returns-clause-places
returns-clause-places c =
    let k = c.args.key.now in
    let all : c.deref.result.now ≡ c.args.self.now = search rules in
    let again : c.deref-2.result.now ≡ c.deref.result.now = search rules in
    c.upto_key.ensures
    ∙ ap (filter (λ x. not (is_gt (labels_cmp x.key k))))
    (c.behind-entries.ensures.items ∙ ap (drop c.lesser-count.result) again ∙ c.lesser-count.ensures.rest ∙ ap (filter (λ x. not (is_lt (labels_cmp x.key k)))) all)
    ∙ found_is key_of k c.args.self.now
