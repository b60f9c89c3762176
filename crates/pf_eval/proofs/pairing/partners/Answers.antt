use Rattle.std.proofs.Common.{ap, ◌∙◌}
use Rattle.pf_join.specs.KeyPlaces.{places_with, those_at}
use Rattle.pf_eval.proofs.JoinedCells.{partners_found}
use Rattle.pf_eval.proofs.pairing.partners.Goals as goal

pub returns : goal.returns
returns c m e =
    let key = c.args.key.now in
    let cs = c.args.columns.now in
    c.in_ok-found.ensures ∙ ap (those_at cs) (c.with_key-near.ensures.places ∙ ap (places_with key) e) ∙ partners_found m key cs
