use Rattle.std.proofs.Common.{◌≡◌, ◌<◌, List, map, take, length, get_or, Bor, Vec, Global, subst, ap, sym, ◌∙◌}
use Rattle.std.proofs.lemmas.List.{length-map}
use Rattle.pf_model.specs.declared.cell.Element.{Element}
use Rattle.pf_agg.specs.Buckets.{those_of}
use Rattle.pf_agg.proofs.GroupElements.{bucket_more}
use Rattle.pf_columns.proofs.Below.{length_below}
use Rattle.pf_agg.proofs.groups.buckets_of.Goals as goal

abbrev bucket : Vec (Bor Element) Global → List Element
bucket b = map (λ c. c.now) b.items

pub put_element-requires : goal.put_element-requires
put_element-requires c =
    let i = c.loop-i.i in
    let os = c.args.places.now in
    let many : length c.loop-i.found.items ≡ c.args.count =
    sym (length-map c.loop-i.found.items bucket) ∙ ap length c.loop-i.invariant ∙ length_below (λ g. those_of g (take i os) (take i c.args.elements.now)) c.args.count in
    subst (λ n. get_or os i 0 < n) (sym many) (c.requires.within i 0 (subst (λ n. i < n) (sym c.requires.alike) c.loop-i-test.true))

pub loop-i-preserved : goal.loop-i-preserved
loop-i-preserved c =
    let i = c.loop-i.i in
    let os = c.args.places.now in
    bucket_more os c.args.elements.now c.args.count i c.index-elements-i.result (map bucket c.loop-i.found.items) (map bucket c.put_element.new.buckets.items)
    c.requires.alike c.loop-i-test.true (c.requires.within i 0 (subst (λ n. i < n) (sym c.requires.alike) c.loop-i-test.true)) c.index-elements-i.is c.loop-i.invariant c.in_ok-put_element.ensures
