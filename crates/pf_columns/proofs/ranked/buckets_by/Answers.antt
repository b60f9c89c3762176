use Rattle.std.proofs.Common.{◌≡◌, ◌<◌, ℕ, List, map, take, length, get_or, Vec, Global, subst, ap, sym, ◌∙◌}
use Rattle.std.proofs.lemmas.List.{length-map}
use Rattle.pf_columns.specs.Ranks.{places_of}
use Rattle.pf_columns.proofs.Below.{length_below}
use Rattle.pf_columns.proofs.PlaceBuckets.{place_more}
use Rattle.pf_columns.proofs.ranked.buckets_by.Goals as goal

abbrev bucket : Vec ℕ Global → List ℕ
bucket b = b.items

pub put_place-requires : goal.put_place-requires
put_place-requires c =
    let i = c.loop-i.i in
    let os = c.args.of.now in
    let many : length c.loop-i.found.items ≡ c.args.count =
    sym (length-map c.loop-i.found.items bucket) ∙ ap length c.loop-i.invariant ∙ length_below (λ g. places_of g 0 (take i os)) c.args.count in
    subst (λ n. get_or os i 0 < n) (sym many) (c.requires i 0 c.loop-i-test.true)

pub loop-i-preserved : goal.loop-i-preserved
loop-i-preserved c =
    let i = c.loop-i.i in
    place_more c.args.of.now c.args.count i (map bucket c.loop-i.found.items) (map bucket c.put_place.new.buckets.items)
    c.loop-i-test.true (c.requires i 0 c.loop-i-test.true) c.loop-i.invariant c.in_ok-put_place.ensures
