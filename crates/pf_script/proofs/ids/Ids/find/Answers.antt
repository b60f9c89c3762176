use Rattle.std.proofs.Common.{◌∙◌, sym}
use Rattle.pf_script.proofs.IdLists.{finds}
use Rattle.pf_script.proofs.ids.Ids.find.Goals as goal

pub returns : goal.returns
returns c = finds c.args.id.now c.args.self.now.asked.entries c.copied.result (sym (c.copied.ensures ∙ c.get.ensures.value))
