use Rattle.std.proofs.Common.{◌≡◌, ◌<◌, ◌++◌, ℕ, List, map, ap, get_or, length, sym, ◌∙◌, arith}
use Rattle.std.proofs.lemmas.List.{get_or-map, length-map}
use Rattle.pf_base.specs.LabelSets.{Pairs}
use Rattle.pf_columns.specs.Columns.{ColumnData}
use Rattle.pf_model.specs.Clauses.{Matched}
use Rattle.pf_model.specs.Matching.{matching_key}
use Rattle.pf_eval.specs.Zipped.{between, column_keys, pair_by, partners, zipped_with}
use Rattle.pf_eval.proofs.LoopSteps.{joined_more}
use Rattle.pf_eval.proofs.pairing.zipped.Goals as goal

-- the key at a place is that of the column there
key_at : (m : Matched) (cs : List ColumnData) (keys : List Pairs) (i : ℕ) (key : Pairs) (left : ColumnData) → keys ≡ column_keys m cs → i < length cs
    → key ≡ get_or keys i key → left ≡ get_or cs i left → key ≡ matching_key m left.labels
key_at m cs keys i key left all h is found =
    is ∙ ap (λ ks. get_or ks i key) all ∙ get_or-map (λ d. matching_key m d.labels) cs i left key h ∙ ap (λ d. matching_key m d.labels) (sym found)

pub bounds-keys-i : goal.bounds-keys-i
bounds-keys-i c =
    let m = c.args.matching.now in
    let n = length-map c.args.lefts.now (λ d. matching_key m d.labels) in
    let same = ap length c.requires.keys in
    let h = c.loop-i-test.true in omega (arith, n, same, h)

pub push_pairs-requires-clause-key : goal.push_pairs-requires-clause-key
push_pairs-requires-clause-key c =
    key_at c.args.matching.now c.args.lefts.now c.args.keys.now c.loop-i.i c.index-keys-i.result c.index-lefts-i.result c.requires.keys c.loop-i-test.true
    c.index-keys-i.is c.index-lefts-i.is

pub loop-i-preserved : goal.loop-i-preserved
loop-i-preserved c =
    let m = c.args.matching.now in
    let op = c.args.op in
    let rs = c.args.rights.now in
    let left = c.index-lefts-i.result in
    let key : c.index-keys-i.result ≡ matching_key m left.labels =
    key_at m c.args.lefts.now c.args.keys.now c.loop-i.i c.index-keys-i.result left c.requires.keys c.loop-i-test.true c.index-keys-i.is c.index-lefts-i.is in
    let matches : map (λ d. d.now) c.deref.result.now ≡ partners m (matching_key m left.labels) rs =
    ap (map (λ d. d.now)) c.deref.ensures.value ∙ c.in_ok-others.ensures m c.requires.places
    ∙ ap (λ k. partners m k rs) key in
    joined_more (zipped_with (between op) op m c.args.len rs) c.args.lefts.now c.loop-i.i left c.loop-i.found.items c.push_pairs.new.found.items
    c.loop-i-test.true c.index-lefts-i.is
    (c.in_ok-push_pairs.ensures ∙ ap (λ ds. c.loop-i.found.items ++ map (pair_by (between op) op m c.args.len left) ds) matches)
    c.loop-i.invariant
