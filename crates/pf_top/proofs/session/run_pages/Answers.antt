use Rattle.std.proofs.Common.{rules, Some, false, map}
use Rattle.pf_client.proofs.Cases.{if_ok_map}
use Rattle.pf_top.proofs.SessionLaws.{nothing_there, nothing_told, told_held}
use Rattle.pf_top.specs.Pages.{page_in}
use Rattle.pf_top.proofs.session.run_pages.Goals as goal

pub load_all-requires-clause-held : goal.load_all-requires-clause-held
load_all-requires-clause-held g c = nothing_told (λ name. Some (page_in (map (λ f. (f.0, f.1.items)) c.args.pages.items) name)) c.new-contents.result (search rules)

pub load_all-requires-clause-there : goal.load_all-requires-clause-there
load_all-requires-clause-there g c = nothing_there (λ name. false) c.new-contents.result (search rules)

pub returns-in-Ok : goal.returns-in-Ok
returns-in-Ok g c =
    if_ok_map _ _ c.run_loaded.result (λ o run. run _ (told_held _ c.load_all.new.loaded (search rules))) c.run_loaded.ensures
