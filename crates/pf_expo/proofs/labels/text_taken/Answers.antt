use Rattle.std.proofs.Common.{◌≡◌, ◌∙◌, Some, Global, Vec, ℕ, ap, sym, subst}
use Rattle.std.proofs.lemmas.Str.{IsUtf8-had}
use Rattle.std.specs.Str.{IsUtf8}
use Rattle.pf_expo.proofs.Texts.{kept_text, no_text}
use Rattle.pf_expo.proofs.labels.text_taken.Goals as goal

pub returns-in-Ok : goal.returns-in-Ok
returns-in-Ok c =
    let u : IsUtf8 c.in-Ok.text.bytes.items = IsUtf8-had _ c.in-Ok.text.ok in
    let e : c.in-Ok.text.bytes ≡ c.args.bytes = c.in-Ok.ensures.ok in
    let P = λ (v : Vec ℕ Global). IsUtf8 v.items in
    kept_text c.args.bytes.items c.args.bytes.items (subst P e u) ∙ ap Some (sym (c.take.ensures ∙ ap (λ (v : Vec ℕ Global). v.items) e))

pub returns : goal.returns
returns c = no_text c.args.bytes.items c.args.bytes.items (λ u. let h = c.in-Err.ensures.succeeds u in cc)
