use Rattle.std.proofs.Common.{◌≡◌, sym, ◌∙◌, subst, arith, IfOk}
use Rattle.std.specs.Arc.{arc_value}
use Rattle.pf_block.specs.Blocks.{merged}
use Rattle.pf_block.proofs.Layering.{no_entries, none_cut}
use Rattle.pf_block.proofs.layer.Layer.merged.Goals as goal

pub returns-then-len-eq0 : goal.returns-then-len-eq0
returns-then-len-eq0 c =
    subst (λ x. IfOk c.merged.result (λ b. b ≡ merged x c.args.top.now))
    (c.deref.ensures ∙ sym (none_cut c.self.inside.parts (arc_value c.self.inside.block) (no_entries c.self.inside.parts.entries (omega (arith, c.len.ensures.len, c.if-len-eq0.true)))) ∙ c.self.view_is) c.merged.ensures
