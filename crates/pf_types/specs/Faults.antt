-- What an error says of a tree, with numbers as a u32 can hold them: this project's own.
use Rattle.std.specs.Prelude.{ℕ, min, Option, None, Some, Result, Ok, Err}
use Rattle.std.specs.Option.{option_map}
use Rattle.pf_model.specs.declared.expr.Kind.{Kind}
use Rattle.pf_model.specs.Trees.{Tree, Trees, all_nodes, nodes}
use Rattle.pf_model.specs.Typing.{TypeFault, arg_count, wrong, bad_name, bool_needed, bad_matching, subquery_too_fine, first_fault}
use Rattle.pf_types.specs.declared.error.TypeError.{TypeError}
use Rattle.pf_types.specs.declared.error.TypeError.TheVariants as error

abbrev pub fault_of : TypeError → TypeFault
fault_of (error.ArgCount n) = arg_count n
fault_of (error.Wrong n k found) = wrong n k found
fault_of (error.BadName n) = bad_name n
fault_of (error.BoolNeeded n) = bool_needed n
fault_of (error.BadMatching n) = bad_matching n
fault_of (error.SubqueryTooFine n) = subquery_too_fine n

-- what a check answered
abbrev pub seen : Result Kind TypeError → Result Kind TypeFault
seen (Ok k) = Ok k
seen (Err e) = Err (fault_of e)

-- the fault that a rule's check found
abbrev pub fault_in : {X : Type 0} → Result X TypeError → Option TypeFault
fault_in (Ok x) = None
fault_in (Err e) = Some (fault_of e)

-- a number past the greatest u32 is that one
abbrev pub capped : ℕ → ℕ
capped n = min n 4294967295

abbrev pub capped_fault : TypeFault → TypeFault
capped_fault (arg_count n) = arg_count (capped n)
capped_fault (wrong n k found) = wrong (capped n) k found
capped_fault (bad_name n) = bad_name (capped n)
capped_fault (bool_needed n) = bool_needed (capped n)
capped_fault (bad_matching n) = bad_matching (capped n)
capped_fault (subquery_too_fine n) = subquery_too_fine (capped n)

abbrev pub capped_result : Result Kind TypeFault → Result Kind TypeFault
capped_result (Ok k) = Ok k
capped_result (Err f) = Err (capped_fault f)

-- the first fault of a tree whose nodes are numbered from this number on
unfoldable pub fault_from : ℕ → Tree → Option TypeFault
fault_from n t = option_map capped_fault (first_fault (nodes n t))

-- the same of some trees in order
unfoldable pub all_from : ℕ → Trees → Option TypeFault
all_from n ts = option_map capped_fault (first_fault (all_nodes n ts))
