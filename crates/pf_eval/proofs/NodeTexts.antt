-- The texts among nodes are the strings among their trees.
use Rattle.std.proofs.Common.{◌≡◌, ℕ, false, List, [], ◌∷◌, ◌++◌, refl, sym, ap, ◌∙◌, append_assoc}
use Rattle.pf_model.specs.Built.{is_string}
use Rattle.pf_model.specs.Trees as tree
use Rattle.pf_model.specs.Trees.{Tree, Trees}
use Rattle.pf_eval.specs.Nodes.{is_text, texts_in}
use Rattle.pf_eval.specs.Strings.{strings_in}
use Rattle.pf_eval.specs.declared.node.Node.{Node}
use Rattle.pf_eval.specs.declared.node.Node.TheVariants as node
use Rattle.pf_eval.proofs.CalledParts.{query_more, string_more}

texts_append : (xs ys : List Node) → texts_in (xs ++ ys) ≡ texts_in xs ++ texts_in ys
texts_append [] ys = refl
texts_append (node.Scalar s ∷ xs) ys = texts_append xs ys
texts_append (node.Vector s ∷ xs) ys = texts_append xs ys
texts_append (node.Text t ∷ xs) ys = ap (λ ts. t ∷ ts) (texts_append xs ys)

no_text : (n : Node) → is_text n ≡ false → texts_in (n ∷ []) ≡ []
no_text (node.Scalar s) h = refl
no_text (node.Vector s) h = refl
no_text (node.Text t) h = cc

module _ (ns : List Node) (ts rest : Trees) (a : Tree) (is : ts ≡ tree.more a rest) where
  pushed : (n : Node) (own : List (List ℕ)) → texts_in (n ∷ []) ≡ own → own ++ strings_in rest ≡ strings_in ts
      → texts_in (ns ++ (n ∷ [])) ++ strings_in rest ≡ texts_in ns ++ strings_in ts
  pushed n own e f =
      ap (λ xs. xs ++ strings_in rest) (texts_append ns (n ∷ [])) ∙ append_assoc (texts_in ns) (texts_in (n ∷ [])) (strings_in rest)
      ∙ ap (λ xs. texts_in ns ++ (xs ++ strings_in rest)) e ∙ ap (λ xs. texts_in ns ++ xs) f

  pub string_pushed : (n : Node) (bytes : List ℕ) → n ≡ node.Text bytes → a ≡ tree.text bytes
      → texts_in (ns ++ (n ∷ [])) ++ strings_in rest ≡ texts_in ns ++ strings_in ts
  string_pushed n bytes e f = pushed n (bytes ∷ []) (ap (λ m. texts_in (m ∷ [])) e) (sym (string_more ts rest a bytes is f))

  pub query_pushed : (n : Node) → is_text n ≡ false → is_string a ≡ false
      → texts_in (ns ++ (n ∷ [])) ++ strings_in rest ≡ texts_in ns ++ strings_in ts
  query_pushed n e f = pushed n [] (no_text n e) (sym (query_more ts rest a is f))
