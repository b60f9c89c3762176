-- The first fault of a query's tree, by its variants, with numbers and operands as the code holds them.
use Rattle.std.proofs.Common.{◌≡◌, ◌∙◌, sym, ap, ℕ, ℤ, ◌+◌, ◌<◌, Bool, List, length, map, Option, None}
use Rattle.std.proofs.lemmas.List.{length-map}
use Rattle.std.specs.Prelude.{Box, Vec}
use Rattle.std.specs.Option.{option_or}
use Rattle.pf_model.specs.declared.expr.BinaryOp.{BinaryOp}
use Rattle.pf_model.specs.declared.expr.Expr.{Expr}
use Rattle.pf_model.specs.declared.expr.Expr.TheVariants as expr
use Rattle.pf_model.specs.declared.expr.Function.{Function}
use Rattle.pf_model.specs.declared.expr.Kind.{Kind}
use Rattle.pf_model.specs.declared.expr.Kind.TheVariants.{Instant}
use Rattle.pf_model.specs.declared.expr.Matcher.{Matcher}
use Rattle.pf_model.specs.declared.expr.Mods.{Mods}
use Rattle.pf_model.specs.declared.functions.AggOp.{AggOp}
use Rattle.pf_model.specs.Clauses.{Grouped, Matched}
use Rattle.pf_model.specs.Trees.{size, tree_of}
use Rattle.pf_model.specs.Typing.{only, scalar_or_instant, kind_of, function_wants, aggregation_wants}
use Rattle.pf_model.proofs.TreeOf.{number_tree, text_tree, unary_tree, binary_tree, call_tree, aggregate_tree, select_tree, subquery_tree}
use Rattle.pf_types.specs.Faults.{capped, fault_from}
use Rattle.pf_types.specs.Rules.{operand_fault, operation_fault, fineness_fault, name_fault, arguments_fault}
use Rattle.pf_types.proofs.Faults.{both}
use Rattle.pf_types.proofs.NodeFaults.{number_from, text_from, select_from, unary_from, binary_from, subquery_from, call_from, aggregate_from}

pub number_is : (n : ℕ) (e : Expr) (v : ℤ) → e ≡ expr.Number v → fault_from n (tree_of e) ≡ None
number_is n e v is = ap (fault_from n) (ap tree_of is ∙ number_tree v) ∙ number_from n v

pub text_is : (n : ℕ) (e : Expr) (s : List ℕ) → e ≡ expr.Text s → fault_from n (tree_of e) ≡ None
text_is n e s is = ap (fault_from n) (ap tree_of is ∙ text_tree s) ∙ text_from n s

pub select_is : (n : ℕ) (e : Expr) (s : List Matcher) (range : Option ℕ) (mods : Mods) → e ≡ expr.Select s range mods
    → fault_from n (tree_of e) ≡ None
select_is n e s range mods is = ap (fault_from n) (ap tree_of is ∙ select_tree s range mods) ∙ select_from n s range mods

pub unary_is : (n next : ℕ) (e arg : Expr) (minus : Bool) (b : Box Expr _) → e ≡ expr.Unary minus b
    → n < 4294967296 → next ≡ capped (n + 1) → arg ≡ b.value
    → fault_from n (tree_of e) ≡ option_or (fault_from next (tree_of arg)) (operand_fault n scalar_or_instant (kind_of (tree_of arg)))
unary_is n next e arg minus b is h p q =
    ap (fault_from n) (ap tree_of is ∙ unary_tree minus b) ∙ unary_from n minus (tree_of b.value) h
    ∙ sym (both (ap (λ k. fault_from k (tree_of arg)) p ∙ ap (λ x. fault_from (capped (n + 1)) (tree_of x)) q)
    (ap (λ x. operand_fault n scalar_or_instant (kind_of (tree_of x))) q))

pub binary_is : (n next second : ℕ) (e left right : Expr) (op : BinaryOp) (m : Matched) (a b : Box Expr _)
    → e ≡ expr.Binary op m a b → n < 4294967296
    → next ≡ capped (n + 1) → left ≡ a.value → second ≡ capped (next + size (tree_of left)) → right ≡ b.value
    → fault_from n (tree_of e)
    ≡ option_or (fault_from next (tree_of left))
    (option_or (fault_from second (tree_of right)) (operation_fault n op m (kind_of (tree_of left)) (kind_of (tree_of right))))
binary_is n next second e left right op m a b is h p q r s =
    ap (fault_from n) (ap tree_of is ∙ binary_tree op m a b) ∙ binary_from n op m (tree_of a.value) (tree_of b.value) h
    ∙ sym (both (ap (λ k. fault_from k (tree_of left)) p ∙ ap (λ x. fault_from (capped (n + 1)) (tree_of x)) q)
    (both (ap (λ k. fault_from k (tree_of right)) (r ∙ ap (λ k. capped (k + size (tree_of left))) p)
    ∙ ap (λ x. fault_from (capped (capped (n + 1) + size (tree_of x))) (tree_of right)) q
    ∙ ap (λ x. fault_from (capped (capped (n + 1) + size (tree_of a.value))) (tree_of x)) s)
    (ap (λ x. operation_fault n op m (kind_of (tree_of x)) (kind_of (tree_of right))) q
    ∙ ap (λ x. operation_fault n op m (kind_of (tree_of a.value)) (kind_of (tree_of x))) s)))

pub subquery_is : (n next : ℕ) (e arg : Expr) (b : Box Expr _) (range : ℕ) (resolution : Option ℕ) (mods : Mods)
    → e ≡ expr.Subquery b range resolution mods → n < 4294967296 → next ≡ capped (n + 1) → arg ≡ b.value
    → fault_from n (tree_of e)
    ≡ option_or (fault_from next (tree_of arg))
    (option_or (operand_fault n (only Instant) (kind_of (tree_of arg))) (fineness_fault n range resolution))
subquery_is n next e arg b range resolution mods is h p q =
    ap (fault_from n) (ap tree_of is ∙ subquery_tree b range resolution mods)
    ∙ subquery_from n (tree_of b.value) range resolution mods h
    ∙ sym (both (ap (λ k. fault_from k (tree_of arg)) p ∙ ap (λ x. fault_from (capped (n + 1)) (tree_of x)) q)
    (ap (λ x. option_or (operand_fault n (only Instant) (kind_of (tree_of x))) (fineness_fault n range resolution)) q))

pub call_is : (n : ℕ) (e : Expr) (f : Function) (v : Vec Expr _) (wants : List Kind) (es : List Expr)
    → e ≡ expr.Call f v → n < 4294967296 → wants ≡ function_wants f (length es) → es ≡ v.items
    → fault_from n (tree_of e) ≡ option_or (arguments_fault n wants (map tree_of es)) (name_fault n f (map tree_of es))
call_is n e f v wants es is h p q =
    ap (fault_from n) (ap tree_of is ∙ call_tree f v) ∙ call_from n f (map tree_of v.items) h
    ∙ sym (ap (λ ws. option_or (arguments_fault n ws (map tree_of es)) (name_fault n f (map tree_of es)))
    (p ∙ ap (function_wants f) (sym (length-map es tree_of)))
    ∙ ap (λ xs. option_or (arguments_fault n (function_wants f (length (map tree_of xs))) (map tree_of xs)) (name_fault n f (map tree_of xs))) q)

pub aggregate_is : (n : ℕ) (e : Expr) (op : AggOp) (g : Grouped) (v : Vec Expr _) (wants : List Kind) (es : List Expr)
    → e ≡ expr.Aggregate op g v → n < 4294967296 → wants ≡ aggregation_wants op → es ≡ v.items
    → fault_from n (tree_of e) ≡ arguments_fault n wants (map tree_of es)
aggregate_is n e op g v wants es is h p q =
    ap (fault_from n) (ap tree_of is ∙ aggregate_tree op g v) ∙ aggregate_from n op g (map tree_of v.items) h
    ∙ sym (ap (λ ws. arguments_fault n ws (map tree_of es)) p ∙ ap (λ xs. arguments_fault n (aggregation_wants op) (map tree_of xs)) q)
