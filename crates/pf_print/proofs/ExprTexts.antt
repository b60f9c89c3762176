-- The canonical text of each variant of a query.
use Rattle.std.proofs.Common.{◌≡◌, ◌∙◌, sym, refl, ap, ℕ, Bool, List, [], ◌∷◌, ◌++◌, map, Option, codes}
use Rattle.std.proofs.lemmas.List.{append_assoc}
use Rattle.std.specs.Prelude.{Box, Vec}
use Rattle.pf_model.specs.Lists.{separated}
use Rattle.pf_model.proofs.TreeOf.{unary_tree, binary_tree, call_tree, aggregate_tree, select_tree, subquery_tree}
use Rattle.pf_model.specs.Canonical.{bool_text, canonical, canonicals, group_text, grouping_text, in_brackets, keys_text}
use Rattle.pf_model.specs.Clauses.{Grouped, Matched}
use Rattle.pf_model.specs.declared.expr.BinaryOp.{BinaryOp}
use Rattle.pf_model.specs.declared.expr.Expr.{Expr}
use Rattle.pf_model.specs.declared.expr.Expr.TheVariants as expr
use Rattle.pf_model.specs.declared.expr.Function.{Function}
use Rattle.pf_model.specs.declared.expr.Matcher.{Matcher}
use Rattle.pf_model.specs.declared.expr.Mods.{Mods}
use Rattle.pf_model.specs.declared.functions.AggOp.{AggOp}
use Rattle.pf_model.specs.Trees.{trees_of, tree_of}
use Rattle.pf_model.specs.Words.{aggregation_word, function_name, operator_text}
use Rattle.pf_print.specs.Printed.{aggregate_text, args_text, call_text, expr_text, operator_between, right_text, select_text, subquery_text, unary_text}

texts : (es : List Expr) → canonicals (trees_of (map tree_of es)) ≡ map expr_text es
texts [] = refl
texts (e ∷ es) = ap (λ ts. expr_text e ∷ ts) (texts es)

pub unary_is : (minus : Bool) (b : Box Expr _) → unary_text minus b.value ≡ expr_text (expr.Unary minus b)
unary_is minus b = sym (ap canonical (unary_tree minus b))

between_onto : (op : BinaryOp) (m : Matched) (y : List ℕ)
    → operator_between op m ++ y
    ≡ codes " "
    ++ (operator_text op.sign ++ (bool_text op.with_bool ++ (keys_text m ++ (group_text m.side m.include ++ (codes " " ++ y)))))
between_onto op m y =
    let s = operator_text op.sign in
    let b = bool_text op.with_bool in
    let k = keys_text m in
    let g = group_text m.side m.include in
    append_assoc (codes " ") (s ++ (b ++ (k ++ (g ++ codes " ")))) y
    ∙ ap (λ z. codes " " ++ z)
    (append_assoc s (b ++ (k ++ (g ++ codes " "))) y
    ∙ ap (λ z. s ++ z)
    (append_assoc b (k ++ (g ++ codes " ")) y
    ∙ ap (λ z. b ++ z) (append_assoc k (g ++ codes " ") y ∙ ap (λ z. k ++ z) (append_assoc g (codes " ") y))))

pub binary_is : (op : BinaryOp) (m : Matched) (a b : Box Expr _)
    → in_brackets (expr_text a.value) ++ right_text op m b.value ≡ expr_text (expr.Binary op m a b)
binary_is op m a b =
    ap (λ z. in_brackets (expr_text a.value) ++ z) (between_onto op m (in_brackets (expr_text b.value)))
    ∙ sym (ap canonical (binary_tree op m a b))

pub call_is : (f : Function) (v : Vec Expr _) → call_text f v.items ≡ expr_text (expr.Call f v)
call_is f v =
    sym (ap canonical (call_tree f v) ∙ ap (λ ts. function_name f ++ in_brackets (separated (codes ", ") ts)) (texts v.items))

pub aggregate_is : (op : AggOp) (g : Grouped) (v : Vec Expr _) → aggregate_text op g v.items ≡ expr_text (expr.Aggregate op g v)
aggregate_is op g v =
    ap (λ z. aggregation_word op ++ z) (append_assoc (grouping_text g) (codes " ") (args_text v.items))
    ∙ sym
    (ap canonical (aggregate_tree op g v)
    ∙ ap (λ ts. aggregation_word op ++ (grouping_text g ++ (codes " " ++ in_brackets (separated (codes ", ") ts)))) (texts v.items))

pub select_is : (s : List Matcher) (range : Option ℕ) (mods : Mods) → select_text s range mods ≡ expr_text (expr.Select s range mods)
select_is s range mods = sym (ap canonical (select_tree s range mods))

pub subquery_is : (b : Box Expr _) (range : ℕ) (resolution : Option ℕ) (mods : Mods)
    → subquery_text b.value range resolution mods ≡ expr_text (expr.Subquery b range resolution mods)
subquery_is b range resolution mods = sym (ap canonical (subquery_tree b range resolution mods))
