use Rattle.std.proofs.Common.{◌≡◌, ◌++◌, true, sym, ap, ◌∙◌, subst}
use Rattle.pf_block.specs.Snaps.{are_apart}
use Rattle.pf_block.proofs.index.Index.copied.Goals as goal

pub with_all-requires : goal.with_all-requires
with_all-requires c =
    subst (λ l. are_apart (l ++ c.args.self.now) ≡ true) (sym c.new-index.ensures) (subst (λ l. are_apart l ≡ true) c.self.view_is c.self.invariant.apart)

pub returns : goal.returns
returns c = c.in_ok-copy.ensures ∙ ap (λ x. x ++ c.args.self.now) c.new-index.ensures
