use Rattle.std.proofs.Common.{◌≡◌, rules, not, ap, ◌∙◌}
use Rattle.std.specs.List.{filter}
use Rattle.std.specs.Ordering.{is_gt, is_lt}
use Rattle.pf_base.specs.LabelOrder.{labels_cmp}
use Rattle.pf_join.specs.KeyedElements.{key_of}
use Rattle.pf_join.proofs.Finding.{found_is}
use Rattle.pf_join.proofs.keys.KeyIndex.with_key.Goals as goal

pub returns : goal.returns
returns c =
    let k = c.args.key.now in
    let all : c.deref.result.now ≡ c.args.self.now = search rules in
    c.upto_key.ensures
    ∙ ap (filter (λ x. not (is_gt (labels_cmp x.key k))))
    (c.from_key-behind.ensures.items ∙ ap (filter (λ x. not (is_lt (labels_cmp x.key k)))) all)
    ∙ found_is key_of k c.args.self.now
