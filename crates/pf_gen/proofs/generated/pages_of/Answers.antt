use Rattle.std.proofs.Common.{rules, ap, ◌∙◌, ℕ, Vec, Global}
use Rattle.pf_base.specs.declared.text.Text.{Text}
use Rattle.pf_gen.proofs.Counting.{behind_group, with_page}
use Rattle.pf_gen.specs.Draws.{behind}
use Rattle.pf_gen.specs.Sessions.{page_of}
use Rattle.pf_gen.proofs.generated.pages_of.Goals as goal

pub loop-tenant-preserved : goal.loop-tenant-preserved
loop-tenant-preserved c = record {
  pages = with_page (λ (f : Text × Vec ℕ Global). (f.0, f.1.items)) c.loop-tenant.pages.items c.in_ok-page_by.field-0 c.push.new.self.items
      c.args.draws.now.state c.loop-tenant.tenant c.loop-tenant.invariant.pages c.in_ok-push.ensures.items
      (c.in_ok-page_by.ensures.page ∙ ap (λ s. page_of s c.loop-tenant.tenant) c.loop-tenant.invariant.state);
  state = search rules ∙ ap (behind 72100) c.loop-tenant.invariant.state ∙ behind_group 72100 _ _;
}
