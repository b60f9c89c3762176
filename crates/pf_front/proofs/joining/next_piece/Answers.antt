use Rattle.std.proofs.Common.{rules, ◌≡◌, length, ℕ, ◌+◌, List, nat_lt, refl, sym, subst}
use Rattle.pf_front.proofs.Walks.{IsWalked, some_next, walked_all, walked_more, walked_none}
use Rattle.pf_front.specs.Spans.{AllCells}
use Rattle.pf_front.proofs.joining.next_piece.Goals as goal

pub loop-done-init : goal.loop-done-init
loop-done-init c =
    subst (λ (parts : List AllCells). IsWalked c.in-Some.piece.run c.next.new.self c.args.left.now.cached.items c.args.left.now.evaluated.items
    c.args.left.now.cached.items c.args.left.now.evaluated.items 0 parts) (sym c.new-parts.ensures.items)
    (walked_none c.args.pieces.now c.in-Some.piece c.next.new.self c.args.left.now.cached.items c.args.left.now.evaluated.items c.in-Some.ensures.steps
    c.requires.line c.requires.woven c.requires.whole)

pub next_cells-span-requires : goal.next_cells-span-requires
next_cells-span-requires c =
    some_next c.in-Some.piece.run c.next.new.self c.args.left.now.cached.items c.args.left.now.evaluated.items c.loop-done.left.cached.items c.loop-done.left.evaluated.items
    c.loop-done.done c.loop-done.parts.items c.loop-done.invariant (search rules) c.at.result c.at.ensures.value

pub loop-done-preserved : goal.loop-done-preserved
loop-done-preserved c =
    let more =
    walked_more c.in-Some.piece.run c.next.new.self c.args.left.now.cached.items c.args.left.now.evaluated.items c.loop-done.left.cached.items c.loop-done.left.evaluated.items
    c.loop-done.done c.loop-done.parts.items c.loop-done.invariant (search rules) c.at.result c.at.ensures.value c.next_cells-span.new.left.cached.items
    c.next_cells-span.new.left.evaluated.items c.next_cells-span.result c.next_cells-span.ensures in
    subst (λ (n : ℕ). IsWalked c.in-Some.piece.run c.next.new.self c.args.left.now.cached.items c.args.left.now.evaluated.items
    c.next_cells-span.new.left.cached.items c.next_cells-span.new.left.evaluated.items (c.loop-done.done + n) c.push.new.self.items) (sym c.len-done.ensures.value)
    (subst (λ (parts : List AllCells). IsWalked c.in-Some.piece.run c.next.new.self c.args.left.now.cached.items c.args.left.now.evaluated.items
    c.next_cells-span.new.left.cached.items c.next_cells-span.new.left.evaluated.items (c.loop-done.done + c.next_cells-span.result.run.len) parts)
    (sym c.in_ok-push.ensures.items) more)

pub returns : goal.returns
returns c =
    let now : c.len-2.result ≡ length c.loop-done.left.evaluated.items = search rules in
    let then : c.len-before.result ≡ length c.args.left.now.evaluated.items = search rules in
    walked_all c.args.pieces.now c.in-Some.piece c.next.new.self c.args.left.now.cached.items c.args.left.now.evaluated.items c.loop-done.left.cached.items
    c.loop-done.left.evaluated.items c.loop-done.done c.loop-done.parts.items _ c.in-Some.ensures.steps c.loop-done.invariant (search rules) refl
    c.in_ok-cells.ensures (λ i. nat_lt (now i) (then i))
