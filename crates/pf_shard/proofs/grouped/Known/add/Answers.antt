use Rattle.std.proofs.Common.{◌<◌, ◌+◌, List, [], map, length, get_or, Option, Vec, Global, ap, sym, subst, ◌∙◌, arith}
use Rattle.std.specs.Prelude.{slice_set}
use Rattle.std.proofs.lemmas.List.{get_or-map, length-map, map-set}
use Rattle.pf_base.specs.declared.plain.Partial.{Partial}
use Rattle.pf_model.specs.Lists.{Each}
use Rattle.pf_shard.specs.Groups.{IsWithin, with_values}
use Rattle.pf_shard.proofs.KnownValues.{each_set, each_unmap, lists_wider, read_each}
use Rattle.pf_shard.proofs.grouped.Known.add.Goals as goal

abbrev items : Vec (Option Partial) Global → List (Option Partial)
items v = v.items

pub add_values-requires : goal.add_values-requires
add_values-requires c =
    let xs = c.self.inside.lists.items in
    let within = each_unmap (λ ps. Each (IsWithin 4294967295) ps) items xs (subst (Each (λ ps. Each (IsWithin 4294967295) ps)) (sym c.self.view_is) c.requires.within) in
    read_each (λ v. Each (IsWithin 4294967295) (items v)) xs c.args.place c.index_mut.result.now within
    (subst (λ n. c.args.place < n) (ap length (sym c.self.view_is) ∙ length-map xs items) c.requires.place) c.index_mut.ensures.value

pub returns-clause-values : goal.returns-clause-values
returns-clause-values c =
    let xs = c.self.inside.lists.items in
    let i = c.args.place in
    let vs = c.args.values.now in
    let here : i < length xs = subst (λ n. i < n) (ap length (sym c.self.view_is) ∙ length-map xs items) c.requires.place in
    let added =
    c.add_values.ensures.values
    ∙ ap (λ v. with_values (items v) vs) c.index_mut.ensures.value
    ∙ ap (λ ps. with_values ps vs) (sym (get_or-map items xs i c.index_mut.result.now [] here)) in
    map-set items xs i c.add_values.new.known
    ∙ ap (slice_set (map items xs) i) added
    ∙ ap (λ pss. slice_set pss i (with_values (get_or pss i []) vs)) c.self.view_is

pub returns-clause-within : goal.returns-clause-within
returns-clause-within c = λ n w.
    let xs = c.self.inside.lists.items in
    let i = c.args.place in
    let here : i < length xs = subst (λ n. i < n) (ap length (sym c.self.view_is) ∙ length-map xs items) c.requires.place in
    let before = subst (Each (λ ps. Each (IsWithin n) ps)) (sym c.self.view_is) w in
    let old = read_each (λ v. Each (IsWithin n) (items v)) xs i c.index_mut.result.now (each_unmap (λ ps. Each (IsWithin n) ps) items xs before) here c.index_mut.ensures.value in
    subst (Each (λ ps. Each (IsWithin (n + 1)) ps)) (sym (map-set items xs i c.add_values.new.known))
    (each_set (λ ps. Each (IsWithin (n + 1)) ps) (map items xs) i (items c.add_values.new.known) (lists_wider n (n + 1) (map items xs) (omega arith) before) (c.add_values.ensures.within n old))
