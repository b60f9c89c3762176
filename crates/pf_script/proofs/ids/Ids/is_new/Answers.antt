use Rattle.std.proofs.Common.{◌∙◌, ap, not, sym}
use Rattle.pf_script.proofs.IdLists.{new_found}
use Rattle.pf_script.proofs.ids.Ids.is_new.Goals as goal

pub returns : goal.returns
returns c = ap not c.contains_key.ensures ∙ sym (new_found c.args.id.now c.args.self.now.asked.entries)
