use Rattle.std.proofs.Common.{◌≡◌, ◌∙◌, ap, List, [], ◌∷◌, ◌++◌, map, Option, Some}
use Rattle.std.proofs.lemmas.List.{map-append}
use Rattle.pf_model.specs.Trees.{Tree, tree_of}
use Rattle.pf_model.specs.declared.expr.Expr.{Expr}
use Rattle.pf_parse.specs.Held.{with_argument}
use Rattle.pf_parse.proofs.held.with_argument.Goals as goal

with_next : (es new : List Expr) (b e : Expr) (args : Option (List Tree)) (arg : Option Tree) (ts : List Tree) (t : Tree) → args ≡ Some ts → arg ≡ Some t
    → map tree_of es ≡ ts → tree_of b ≡ t → e ≡ b → new ≡ es ++ (e ∷ []) → Some (map tree_of new) ≡ with_argument args arg
with_next es new b e args arg ts t p q m f g n =
    let last : tree_of e ≡ t = ap tree_of g ∙ f in
    rw (p, q) (ap Some (ap (map tree_of) n ∙ map-append tree_of es (e ∷ []) ∙ (ap (λ (xs : List Tree). xs ++ (tree_of e ∷ [])) m ∙ ap (λ (x : Tree). ts ++ (x ∷ [])) last)))

pub returns : goal.returns
returns c =
    with_next c.args-2.inside.exprs.items c.push.new.self.items c.arg.inside.expr.value c.into_inner.result c.args.args c.args.arg c.in-Some.args c.in-Some-arg.arg
    c.in-Some.is c.in-Some-arg.is c.args-2.view_is c.arg.view_is c.into_inner.ensures c.in_ok-push.ensures.items
