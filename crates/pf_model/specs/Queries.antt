-- How the queries and the selectors of scripts are read. Prometheus, Querying basics: Time series selectors, whose rule it is
-- that a selector refuses the empty text; the order of refusals is this project's own.
use Rattle.std.specs.Prelude.{◌≡◌, ℕ, pos, ◌+◌, ◌⊎◌, Bool, true, false, ◌&&◌, not, cond, Option, Some, None, List, [], ◌∷◌}
use Rattle.std.specs.List.{filter, list_all}
use Rattle.std.specs.Option.{is_none}
use Rattle.std.specs.Ordering.{int_eq}
use Rattle.pf_match.specs.Meaning.{is_pattern, is_refused}
use Rattle.pf_model.specs.declared.expr.Function.{Function}
use Rattle.pf_model.specs.declared.expr.Function.TheVariants as called
use Rattle.pf_model.specs.declared.expr.Matcher.{Matcher}
use Rattle.pf_model.specs.declared.expr.Mods.{Mods}
use Rattle.pf_model.specs.declared.functions.InstantFn.TheVariants as function
use Rattle.pf_model.specs.ErrorTexts.{QueryFault, of_grammar, of_kinds, refused_pattern, empty_selector}
use Rattle.pf_model.specs.Parsing.{Refusal, Parses, Refuses}
use Rattle.pf_model.specs.Selection.{accepts_empty, all_meant, any_refused}
use Rattle.pf_model.specs.Trees.{Tree, Trees, call, more, select, preorder}
use Rattle.pf_model.specs.Trees as trees
use Rattle.pf_model.specs.Typing.{asked_fault}

-- ---- patterns and empty selectors

abbrev pub is_label_replace : Function → Bool
is_label_replace (called.Range f) = false
is_label_replace (called.Instant function.LabelReplace) = true
is_label_replace (called.Instant _) = false

-- selectors and calls of `label_replace` are counted together from 0, in preorder
abbrev pub is_counted : Tree → Bool
is_counted (select ms range mods) = true
is_counted (call f args) = is_label_replace f
is_counted _ = false

abbrev pub counted_in : List Tree → List Tree
counted_in ts = filter is_counted ts

abbrev pub counted : Tree → List Tree
counted tree = counted_in (preorder tree)

-- a selector that accepts the empty text
abbrev pub is_empty_selector : Tree → Bool
is_empty_selector (select ms range mods) = accepts_empty ms
is_empty_selector _ = false

-- the pattern of `label_replace`, its fifth argument, is refused
abbrev pub is_fifth_refused : (refused : List (List ℕ)) → Trees → Bool
is_fifth_refused refused (more vector (more target (more replacement (more source (more (trees.text pattern) args))))) = is_refused refused pattern
is_fifth_refused refused args = false

-- a pattern of a node is refused
abbrev pub has_refused : (refused : List (List ℕ)) → Tree → Bool
has_refused refused (select ms range mods) = any_refused refused ms
has_refused refused (call f args) = is_label_replace f && is_fifth_refused refused args
has_refused refused _ = false

-- the first fault among these nodes, of which the first has this number: a refused pattern or an empty selector, and of both at
-- one node the pattern
abbrev pub bind_fault_from : (refused : List (List ℕ)) → ℕ → List Tree → Option QueryFault
bind_fault_from refused n [] = None
bind_fault_from refused n (t ∷ ts) =
    cond (has_refused refused t) (Some (refused_pattern n))
    (cond (is_empty_selector t) (Some (empty_selector n)) (bind_fault_from refused (n + 1) ts))

abbrev pub bind_fault : (refused : List (List ℕ)) → Tree → Option QueryFault
bind_fault refused tree = bind_fault_from refused 0 (counted tree)

-- the number of the first empty selector, where the first of these nodes has this one
abbrev pub first_empty_from : ℕ → List Tree → Option ℕ
first_empty_from n [] = None
first_empty_from n (t ∷ ts) = cond (is_empty_selector t) (Some n) (first_empty_from (n + 1) ts)

abbrev pub first_empty : Tree → Option ℕ
first_empty tree = first_empty_from 0 (counted tree)

-- the pattern of `label_replace`, its fifth argument, is an expression
abbrev pub is_fifth_meant : Trees → Bool
is_fifth_meant (more vector (more target (more replacement (more source (more (trees.text pattern) args))))) = is_pattern pattern
is_fifth_meant args = true

-- the patterns of a counted node have a meaning
abbrev pub is_meant_node : Tree → Bool
is_meant_node (select ms range mods) = all_meant ms
is_meant_node (call f args) = cond (is_label_replace f) (is_fifth_meant args) true
is_meant_node _ = true

abbrev pub are_meant : List Tree → Bool
are_meant ts = list_all is_meant_node ts

-- all patterns of a query have a meaning, and no selector is empty
pub record IsBindable (tree : Tree) : Type 0 where
  pub meant : are_meant (counted tree) ≡ true
  pub selects : first_empty tree ≡ None

-- ---- queries

-- a text is a query whose kinds are lawful
pub record IsQuery (text : List ℕ) (tree : Tree) : Type 0 where
  pub parses : Parses text tree
  pub kinds : asked_fault tree ≡ None

-- a query's text is read as a tree, or refused
pub data Reading : Type 0 where
  lawful : Tree → Reading
  refused : QueryFault → Reading

-- a text is refused for this fault, by the refused patterns that are expressions
abbrev pub IsFaultOf : (refused : List (List ℕ)) → List ℕ → QueryFault → Type 0
IsFaultOf refs text (of_grammar refusal) = Refuses text refusal
IsFaultOf refs text (of_kinds fault) = (tree : Tree) × (Parses text tree × (asked_fault tree ≡ Some fault))
IsFaultOf refs text (refused_pattern which) = (tree : Tree) × (IsQuery text tree × (bind_fault refs tree ≡ Some (refused_pattern which)))
IsFaultOf refs text (empty_selector which) = (tree : Tree) × (IsQuery text tree × (bind_fault refs tree ≡ Some (empty_selector which)))

-- a text has one tree, so its reading is given by it and the refused patterns
abbrev pub IsReading : (refused : List (List ℕ)) → List ℕ → Reading → Type 0
IsReading refs text (lawful tree) = IsQuery text tree × (bind_fault refs tree ≡ None)
IsReading refs text (refused fault) = IsFaultOf refs text fault

-- neither `@` nor an offset
abbrev pub is_unmodified : Mods → Bool
is_unmodified mods = is_none mods.at && int_eq mods.offset (pos 0)

-- an instant selector without modifiers
abbrev pub is_plain_selector : Tree → Bool
is_plain_selector (select ms None mods) = is_unmodified mods
is_plain_selector _ = false

-- how queries are read, by their texts
abbrev pub Readings : Type 0
Readings = List ℕ → Option Reading

-- ---- selectors of deletions

-- what a tree says as a deletion's selector: matchers, or no selector: any other query, and a selector with modifiers, with a
-- refused pattern, or that accepts the empty text
pub data Selecting : Type 0 where
  selector : List Matcher → Selecting
  no_selector : Selecting

abbrev pub selecting : (refused : List (List ℕ)) → Tree → Selecting
selecting refs (select ms None mods) = cond (is_unmodified mods && (not (any_refused refs ms) && not (accepts_empty ms))) (selector ms) no_selector
selecting refs _ = no_selector

abbrev pub Selects : (refused : List (List ℕ)) → List ℕ → Selecting → Type 0
Selects refs text s = (tree : Tree) × (Parses text tree × (selecting refs tree ≡ s))

abbrev pub IsSelector : (refused : List (List ℕ)) → List ℕ → List Matcher → Type 0
IsSelector refs text ms = Selects refs text (selector ms)

-- a text that the grammar refuses is no selector either
abbrev pub IsNoSelector : (refused : List (List ℕ)) → List ℕ → Type 0
IsNoSelector refs text = ((refusal : Refusal) × Refuses text refusal) ⊎ Selects refs text no_selector
