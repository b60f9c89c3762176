-- The first fault of a tree, from those of its operands and the rules of its node.
use Rattle.std.proofs.Common.{◌≡◌, ◌∙◌, sym, ap, refl, ℕ, ℤ, zero, suc, ◌+◌, ◌<◌, arith, drop, not, nat_eq, Bool, Option, None, List, [], ◌∷◌, length, map}
use Rattle.std.proofs.lemmas.List.{length-map}
use Rattle.std.specs.Option.{option_or}
use Rattle.pf_model.specs.Cuts.{only_if}
use Rattle.pf_model.specs.declared.expr.BinaryOp.{BinaryOp}
use Rattle.pf_model.specs.declared.expr.Function.{Function}
use Rattle.pf_model.specs.declared.expr.Kind.{Kind}
use Rattle.pf_model.specs.declared.expr.Kind.TheVariants.{Instant}
use Rattle.pf_model.specs.declared.expr.Matcher.{Matcher}
use Rattle.pf_model.specs.declared.expr.Mods.{Mods}
use Rattle.pf_model.specs.declared.functions.AggOp.{AggOp}
use Rattle.pf_model.specs.Clauses.{Grouped, Matched}
use Rattle.pf_model.specs.Lists.{at}
use Rattle.pf_model.specs.Trees.{Tree, Trees, number, text, select, unary, binary, call, aggregate, subquery, none, more, nodes, all_nodes, size, trees_of}
use Rattle.pf_model.specs.Typing.{TypeFault, arg_count, only, scalar_or_instant, fault_at, first_wrong, kind_of, list_of, operator_wants, function_wants, aggregation_wants}
use Rattle.pf_types.specs.Faults.{all_from, capped, fault_from}
use Rattle.pf_types.specs.Rules.{argument_fault, operand_fault, bool_fault, operation_fault, fineness_fault, name_fault, arguments_fault}
use Rattle.pf_types.proofs.Faults.{or_none, or_or, both, among_append, among_last, same_below, below_capped, all_capped}

pub list_of_trees : (ts : List Tree) → list_of (trees_of ts) ≡ ts
list_of_trees [] = refl
list_of_trees (t ∷ ts) = ap (λ us. t ∷ us) (list_of_trees ts)

pub kept : (n : ℕ) → n < 4294967296 → capped n ≡ n
kept n h = omega (arith, h)

-- a node's own fault
pub unary_at : (n : ℕ) (minus : Bool) (e : Tree) → fault_at n (unary minus e) ≡ operand_fault n scalar_or_instant (kind_of e)
unary_at n minus e = or_none _ ∙ or_none _

pub unary_from : (n : ℕ) (minus : Bool) (e : Tree) → n < 4294967296
    → fault_from n (unary minus e) ≡ option_or (fault_from (capped (n + 1)) e) (operand_fault n scalar_or_instant (kind_of e))
unfolding fault_from all_from
unary_from n minus e h =
    among_last (nodes (n + 1) e) n (unary minus e)
    ∙ both (below_capped (n + 1) e) (ap (λ k. fault_at k (unary minus e)) (kept n h) ∙ unary_at n minus e)

pub binary_at : (n : ℕ) (op : BinaryOp) (m : Matched) (a b : Tree)
    → fault_at n (binary op m a b) ≡ operation_fault n op m (kind_of a) (kind_of b)
binary_at n op m a b =
    both (ap (option_or (operand_fault n (operator_wants op) (kind_of a))) (or_none _)) (ap (option_or (bool_fault n op (kind_of a) (kind_of b))) (or_none _))
    ∙ or_or (operand_fault n (operator_wants op) (kind_of a)) (operand_fault n (operator_wants op) (kind_of b)) _

pub second_capped : (n k : ℕ) → capped (n + 1 + k) ≡ capped (capped (capped (n + 1) + k))
second_capped n k = omega arith

pub binary_from : (n : ℕ) (op : BinaryOp) (m : Matched) (a b : Tree) → n < 4294967296
    → fault_from n (binary op m a b)
    ≡ option_or (fault_from (capped (n + 1)) a)
    (option_or (fault_from (capped (capped (n + 1) + size a)) b) (operation_fault n op m (kind_of a) (kind_of b)))
unfolding fault_from all_from
binary_from n op m a b h =
    among_append (nodes (n + 1) a) _
    ∙ both (below_capped (n + 1) a)
    (among_last (nodes (n + 1 + size a) b) n (binary op m a b)
    ∙ both (same_below (n + 1 + size a) (capped (capped (n + 1) + size a)) b (second_capped n (size a)))
    (ap (λ k. fault_at k (binary op m a b)) (kept n h) ∙ binary_at n op m a b))

pub subquery_from : (n : ℕ) (e : Tree) (range : ℕ) (resolution : Option ℕ) (mods : Mods) → n < 4294967296
    → fault_from n (subquery e range resolution mods)
    ≡ option_or (fault_from (capped (n + 1)) e)
    (option_or (operand_fault n (only Instant) (kind_of e)) (fineness_fault n range resolution))
unfolding fault_from all_from
subquery_from n e range resolution mods h =
    among_last (nodes (n + 1) e) n (subquery e range resolution mods)
    ∙ both (below_capped (n + 1) e)
    (ap (λ k. fault_at k (subquery e range resolution mods)) (kept n h)
    ∙ ap (λ x. option_or x (fineness_fault n range resolution)) (or_none (operand_fault n (only Instant) (kind_of e))))

-- the number of arguments, and then their kinds
abbrev pub kinds_fault : ℕ → List Kind → List Tree → Option TypeFault
kinds_fault n ks es = option_or (only_if (not (nat_eq (length ks) (length es))) (arg_count n)) (first_wrong n (map only ks) es)

pub call_at : (n : ℕ) (f : Function) (args : Trees)
    → fault_at n (call f args)
    ≡ option_or (kinds_fault n (function_wants f (length (list_of args))) (list_of args)) (name_fault n f (list_of args))
call_at n f args =
    both (ap (λ k. only_if (not (nat_eq k (length (list_of args)))) (arg_count n)) (length-map (function_wants f (length (list_of args))) only))
    (ap (option_or (first_wrong n (map only (function_wants f (length (list_of args)))) (list_of args))) (or_none (name_fault n f (list_of args))))
    ∙ sym (or_or _ (first_wrong n (map only (function_wants f (length (list_of args)))) (list_of args)) (name_fault n f (list_of args)))

pub aggregate_at : (n : ℕ) (op : AggOp) (g : Grouped) (args : Trees)
    → fault_at n (aggregate op g args) ≡ kinds_fault n (aggregation_wants op) (list_of args)
aggregate_at n op g args =
    both (ap (λ k. only_if (not (nat_eq k (length (list_of args)))) (arg_count n)) (length-map (aggregation_wants op) only))
    (or_none (first_wrong n (map only (aggregation_wants op)) (list_of args)))

pub call_from : (n : ℕ) (f : Function) (ts : List Tree) → n < 4294967296
    → fault_from n (call f (trees_of ts)) ≡ option_or (arguments_fault n (function_wants f (length ts)) ts) (name_fault n f ts)
unfolding fault_from all_from
call_from n f ts h =
    among_last (all_nodes (n + 1) (trees_of ts)) n (call f (trees_of ts))
    ∙ both (all_capped (n + 1) (trees_of ts))
    (ap (λ k. fault_at k (call f (trees_of ts))) (kept n h) ∙ call_at n f (trees_of ts)
    ∙ ap (λ es. option_or (kinds_fault n (function_wants f (length es)) es) (name_fault n f es)) (list_of_trees ts))
    ∙ sym (or_or (all_from (capped (n + 1)) (trees_of ts)) (kinds_fault n (function_wants f (length ts)) ts) (name_fault n f ts))

pub aggregate_from : (n : ℕ) (op : AggOp) (g : Grouped) (ts : List Tree) → n < 4294967296
    → fault_from n (aggregate op g (trees_of ts)) ≡ arguments_fault n (aggregation_wants op) ts
unfolding fault_from all_from
aggregate_from n op g ts h =
    among_last (all_nodes (n + 1) (trees_of ts)) n (aggregate op g (trees_of ts))
    ∙ both (all_capped (n + 1) (trees_of ts))
    (ap (λ k. fault_at k (aggregate op g (trees_of ts))) (kept n h) ∙ aggregate_at n op g (trees_of ts)
    ∙ ap (kinds_fault n (aggregation_wants op)) (list_of_trees ts))

-- ---- operands in order

pub more_from : (n : ℕ) (t : Tree) (ts : Trees)
    → all_from n (more t ts) ≡ option_or (fault_from n t) (all_from (capped (n + size t)) ts)
unfolding fault_from all_from
more_from n t ts = among_append (nodes n t) (all_nodes (n + size t) ts) ∙ both refl (all_capped (n + size t) ts)

pub wrong_from : (n : ℕ) (ks : List Kind) (i : ℕ) (e : Tree) (es : List Tree)
    → first_wrong n (map only (drop i ks)) (e ∷ es)
    ≡ option_or (argument_fault n (at ks i) (kind_of e)) (first_wrong n (map only (drop (suc i) ks)) es)
wrong_from n [] zero e es = refl
wrong_from n [] (suc i) e es = refl
wrong_from n (k ∷ ks) zero e es = refl
wrong_from n (k ∷ ks) (suc i) e es = wrong_from n ks i e es

-- ---- nodes without operands

pub number_from : (n : ℕ) (v : ℤ) → fault_from n (number v) ≡ None
unfolding fault_from
number_from n v = refl

pub text_from : (n : ℕ) (s : List ℕ) → fault_from n (text s) ≡ None
unfolding fault_from
text_from n s = refl

pub select_from : (n : ℕ) (ms : List Matcher) (range : Option ℕ) (mods : Mods) → fault_from n (select ms range mods) ≡ None
unfolding fault_from
select_from n ms range mods = refl

pub none_from : (n : ℕ) → all_from n none ≡ None
unfolding all_from
none_from n = refl
