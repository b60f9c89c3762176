-- The texts of errors and refusals. `bad_data`, `execution` and `unavailable` are Prometheus's words; the others, and the
-- texts, are this project's own.
use Rattle.std.specs.Fmt.{decimal}
use Rattle.std.specs.Prelude.{ℕ, List, ◌++◌, codes}
use Rattle.pf_base.specs.declared.grid.GridError.{GridError}
use Rattle.pf_base.specs.declared.grid.GridError.TheVariants.{ZeroStep, TimeTooLarge, EndBeforeStart, TooManySteps}
use Rattle.pf_model.specs.declared.cell.ErrorKind.{ErrorKind}
use Rattle.pf_model.specs.declared.cell.ErrorKind.TheVariants.{DoubleLabels, DoubleOnOneSide, ManyToMany, GroupingNotUnique}
use Rattle.pf_model.specs.declared.expr.Kind.{Kind}
use Rattle.pf_model.specs.declared.expr.Kind.TheVariants.{Scalar, Instant, Range, Text}
use Rattle.pf_model.specs.Parsing.{Refusal, too_long, bad_token, too_deep, unexpected, unknown_name, time_too_large, too_tall}
use Rattle.pf_model.specs.Typing.{TypeFault, arg_count, wrong, bad_name, bool_needed, bad_matching, subquery_too_fine}

abbrev pub kind_text : ErrorKind → List ℕ
kind_text DoubleLabels = codes "two elements have equal labels"
kind_text DoubleOnOneSide = codes "two elements of the one side match"
kind_text ManyToMany = codes "many elements match many"
kind_text GroupingNotUnique = codes "grouping is not unique"

abbrev pub grid_text : GridError → List ℕ
grid_text ZeroStep = codes "zero step"
grid_text TimeTooLarge = codes "time too large"
grid_text EndBeforeStart = codes "end before start"
grid_text TooManySteps = codes "too many steps"

abbrev pub full_text : List ℕ
full_text = codes "too many outstanding requests"

abbrev pub tenants_text : List ℕ
tenants_text = codes "too many tenants"

-- ---- kinds of queries

abbrev pub kind_name : Kind → List ℕ
kind_name Scalar = codes "scalar"
kind_name Instant = codes "instant vector"
kind_name Range = codes "range vector"
kind_name Text = codes "string"

abbrev pub node_text : ℕ → List ℕ → List ℕ
node_text n what = codes "node " ++ (decimal n ++ what)

abbrev pub fault_text : TypeFault → List ℕ
fault_text (arg_count n) = node_text n (codes ": wrong number of arguments")
fault_text (wrong n wanted found) =
    node_text n (codes ": wanted " ++ (kind_name wanted ++ (codes ", found " ++ kind_name found)))
fault_text (bad_name n) = node_text n (codes ": bad label name")
fault_text (bool_needed n) = node_text n (codes ": bool needed")
fault_text (bad_matching n) = node_text n (codes ": bad matching")
fault_text (subquery_too_fine n) = node_text n (codes ": subquery too fine")

-- ---- queries

abbrev pub refusal_text : Refusal → List ℕ
refusal_text too_long = codes "query too long"
refusal_text (bad_token at) = codes "bad token at " ++ decimal at
refusal_text (too_deep at) = codes "nested too deep at " ++ decimal at
refusal_text (unexpected at) = codes "unexpected at " ++ decimal at
refusal_text (unknown_name at) = codes "unknown function at " ++ decimal at
refusal_text (time_too_large at) = codes "time too large at " ++ decimal at
refusal_text too_tall = codes "expression too tall"

-- why a query is refused: by the grammar, for its kinds, for a pattern, or for a selector that accepts the empty text;
-- selectors and calls of `label_replace` are counted together from 0, in preorder
pub data QueryFault : Type 0 where
  of_grammar : Refusal → QueryFault
  of_kinds : TypeFault → QueryFault
  refused_pattern : (which : ℕ) → QueryFault
  empty_selector : (which : ℕ) → QueryFault

abbrev pub query_text : QueryFault → List ℕ
query_text (of_grammar refusal) = refusal_text refusal
query_text (of_kinds fault) = fault_text fault
query_text (refused_pattern which) = codes "pattern " ++ (decimal which ++ codes " refused")
query_text (empty_selector which) = codes "selector " ++ (decimal which ++ codes " is empty")

abbrev pub memory_text : List ℕ
memory_text = codes "out of memory"
