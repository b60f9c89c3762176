use Rattle.std.proofs.Common.{arith, sym, ◌∙◌}
use Rattle.std.specs.String.{string_bytes}
use Rattle.pf_base.proofs.LabelPacking.{counted, name_stands, Stands}
use Rattle.pf_base.specs.LabelSets.{name_at}
use Rattle.pf_base.proofs.labels.packed.PackedPairs.name.Goals as goal

stands : (c : goal.After-as_str) → Stands c.as_str.result.now (name_at c.args.self.now c.args.i) c.index.result.now c.index-2.result.now
stands c =
    name_stands _ c.args.self.now (string_bytes c.self.inside.text) c.self.inside.bounds.items c.as_str.result.now c.self.inside.hash c.args.i c.index.result.now c.index-2.result.now
    c.self.invariant c.self.view_is c.as_str.ensures.value c.requires c.index.ensures c.index-2.ensures

pub index-requires : goal.index-requires
index-requires c =
    let n = counted _ c.args.self.now (string_bytes c.self.inside.text) c.self.inside.bounds.items c.self.inside.hash c.self.invariant c.self.view_is in
    omega (arith, n)

pub index-requires-2 : goal.index-requires-2
index-requires-2 c =
    let n = counted _ c.args.self.now (string_bytes c.self.inside.text) c.self.inside.bounds.items c.self.inside.hash c.self.invariant c.self.view_is in
    omega (arith, n)

pub range-requires-clause-start_le_end : goal.range-requires-clause-start_le_end
range-requires-clause-start_le_end c = (stands c).rises

pub range-requires-clause-start_boundary : goal.range-requires-clause-start_boundary
range-requires-clause-start_boundary c = λ _. (stands c).starts

pub range-requires-clause-end_boundary : goal.range-requires-clause-end_boundary
range-requires-clause-end_boundary c = (stands c).ends

pub returns : goal.returns
returns c =
    let s =
    name_stands _ c.args.self.now (string_bytes c.self.inside.text) c.self.inside.bounds.items c.as_str.result.now c.self.inside.hash c.args.i c.index.result.now c.index-2.result.now
    c.self.invariant c.self.view_is c.as_str.ensures.value c.requires c.index.ensures c.index-2.ensures in
    c.range.ensures.value ∙ sym s.part_is
