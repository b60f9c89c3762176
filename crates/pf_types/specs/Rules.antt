-- The rules of one node, by the kinds of its operands: this project's own.
use Rattle.std.specs.Prelude.{ℕ, ◌+◌, ◌*◌, ◌&&◌, not, Option, None, Some, unwrap_or, List, ◌++◌, length, map, replicate, nat_eq, nat_lt}
use Rattle.std.specs.List.{list_all}
use Rattle.std.specs.Option.{option_or}
use Rattle.pf_base.specs.Limits.{minute, most_steps}
use Rattle.pf_model.specs.Cuts.{only_if}
use Rattle.pf_model.specs.declared.expr.BinaryOp.{BinaryOp}
use Rattle.pf_model.specs.declared.expr.Function.{Function}
use Rattle.pf_model.specs.declared.expr.Kind.{Kind}
use Rattle.pf_model.specs.declared.expr.Kind.TheVariants.{Scalar, Instant, Text}
use Rattle.pf_model.specs.Clauses.{Matched}
use Rattle.pf_model.specs.Trees.{Tree, trees_of}
use Rattle.pf_model.specs.Typing.{TypeFault, arg_count, wrong, bad_name, bool_needed, bad_matching, subquery_too_fine, Wanted, only, admits, named_kind, operator_wants, first_wrong, same_kind, label_arguments, names_label, mismatches}
use Rattle.pf_model.specs.Words.{is_comparison}
use Rattle.pf_types.specs.Faults.{all_from, capped}
use Rattle.pf_types.specs.declared.arguments.Wants.{Wants}

abbrev pub operand_fault : ℕ → Wanted → Kind → Option TypeFault
operand_fault n w k = only_if (not (admits w k)) (wrong n (named_kind w) k)

-- an argument at a place of this wanted kind, or past the last one that is wanted
abbrev pub argument_fault : ℕ → Option Kind → Kind → Option TypeFault
argument_fault n None k = None
argument_fault n (Some w) k = operand_fault n (only w) k

abbrev pub name_fault : ℕ → Function → List Tree → Option TypeFault
name_fault n f args = only_if (not (list_all names_label (label_arguments f args))) (bad_name n)

abbrev pub bool_fault : ℕ → BinaryOp → (left right : Kind) → Option TypeFault
bool_fault n op a b =
    only_if (is_comparison op.sign && same_kind Scalar a && same_kind Scalar b && not op.with_bool) (bool_needed n)

abbrev pub matching_fault : ℕ → BinaryOp → Matched → (left right : Kind) → Option TypeFault
matching_fault n op m a b = only_if (mismatches op m (same_kind Instant a && same_kind Instant b)) (bad_matching n)

-- a binary operator's node
abbrev pub operation_fault : ℕ → BinaryOp → Matched → (left right : Kind) → Option TypeFault
operation_fault n op m a b =
    option_or (operand_fault n (operator_wants op) a)
    (option_or (operand_fault n (operator_wants op) b) (option_or (bool_fault n op a b) (matching_fault n op m a b)))

abbrev pub fineness_fault : ℕ → ℕ → Option ℕ → Option TypeFault
fineness_fault n range resolution = only_if (nat_lt (most_steps * unwrap_or resolution minute) range) (subquery_too_fine n)

-- the kinds of a call's arguments
abbrev pub wanted_kinds : Wants → List Kind
wanted_kinds w = w.kinds.now ++ replicate w.texts Text

-- the arguments of a call and the nodes below them, before their names
abbrev pub arguments_fault : ℕ → List Kind → List Tree → Option TypeFault
arguments_fault n ks args =
    option_or (all_from (capped (n + 1)) (trees_of args))
    (option_or (only_if (not (nat_eq (length ks) (length args))) (arg_count n)) (first_wrong n (map only ks) args))
