use Rattle.std.proofs.Common.{◌++◌, ◌∷◌, [], arith, ◌∙◌}
use Rattle.std.specs.String.{string_bytes}
use Rattle.pf_base.specs.LabelPacking.{IsPacked}
use Rattle.pf_base.proofs.LabelPacking.{as_seen, few_as, one_more, pairs_are, repacked}
use Rattle.pf_base.proofs.labels.packed.PackedPairs.with_pair.Goals as goal

packed : (c : goal.After-hash_with) → IsPacked (c.args.self ++ (c.args.name.now, c.args.value.now) ∷ []) (string_bytes c.push_str-2.new.self) c.push-2.new.self.items c.hash_with.result
packed c =
    one_more c.args.self (string_bytes c.self.inside.text) c.self.inside.bounds.items c.args.name.now c.args.value.now
    (string_bytes c.push_str.new.self) (string_bytes c.push_str-2.new.self) c.push.new.self.items c.push-2.new.self.items
    c.self.inside.hash c.len-middle.result c.len-end.result c.hash_with.result
    (as_seen _ c.args.self (string_bytes c.self.inside.text) c.self.inside.bounds.items c.self.inside.hash c.self.invariant c.self.view_is)
    c.utf8.name c.utf8.value
    c.in_ok-push_str.ensures.bytes
    (c.len-middle.ensures ∙ c.push_str.new.self.bytes.ok.0)
    c.in_ok-push_str-2.ensures.bytes
    (c.len-end.ensures ∙ c.push_str-2.new.self.bytes.ok.0)
    (omega (arith, c.self.inside.bounds.ok.0))
    c.in_ok-push.ensures.items
    c.in_ok-push-2.ensures.items
    c.hash_with.ensures

pub invariant_of-result : goal.invariant_of-result
invariant_of-result c =
    repacked (c.args.self ++ (c.args.name.now, c.args.value.now) ∷ []) (string_bytes c.push_str-2.new.self) c.push-2.new.self.items c.hash_with.result (packed c)

pub returns-clause-pairs : goal.returns-clause-pairs
returns-clause-pairs c =
    pairs_are (c.args.self ++ (c.args.name.now, c.args.value.now) ∷ []) (string_bytes c.push_str-2.new.self) c.push-2.new.self.items (packed c).text_is (packed c).bounds_are

pub returns-clause-few : goal.returns-clause-few
returns-clause-few c = let p = packed c in let n = returns-clause-pairs c in few_as n p.few
