-- The counted nodes of queries, and why a query is not bound: this project's own.
use Rattle.std.specs.Prelude.{◌≡◌, ℕ, Bool, true, false, List, [], ◌∷◌, Option, Some, None, Result, Ok, Err}
use Rattle.pf_model.specs.ErrorTexts.{refused_pattern, empty_selector}
use Rattle.pf_model.specs.Queries.{bind_fault, counted_in, has_refused, is_empty_selector}
use Rattle.pf_model.specs.Trees.{Tree, Trees, text, all_preorder}
use Rattle.pf_types.specs.declared.bound.BindError.{BindError}
use Rattle.pf_types.specs.declared.bound.BindError.TheVariants as bind

-- the counted nodes of some queries, in preorder
abbrev pub all_counted : Trees → List Tree
all_counted trees = counted_in (all_preorder trees)

-- a string
abbrev pub text_in : Tree → List (List ℕ)
text_in (text bytes) = bytes ∷ []
text_in tree = []

-- how the pattern of a call is built, where the call has this number: not where it is refused, or memory ran out
abbrev pub IsCallFate : {T : Type 0} → ℕ → (is_refused : Bool) → Result T BindError → Type 0
IsCallFate which refused (Ok built) = refused ≡ false
IsCallFate which refused (Err (bind.Pattern n)) = (n ≡ which) × (refused ≡ true)
IsCallFate which refused (Err (bind.Empty n)) = ⊥
IsCallFate which refused (Err bind.OutOfMemory) = Unit {0}

-- how the counted node of this number is bound, by the refused patterns
abbrev pub IsNodeFate : {T : Type 0} → (refused : List (List ℕ)) → ℕ → Tree → Result T BindError → Type 0
IsNodeFate refused which node (Ok bound) = (has_refused refused node ≡ false) × (is_empty_selector node ≡ false)
IsNodeFate refused which node (Err (bind.Pattern n)) = (n ≡ which) × (has_refused refused node ≡ true)
IsNodeFate refused which node (Err (bind.Empty n)) = (n ≡ which) × ((has_refused refused node ≡ false) × (is_empty_selector node ≡ true))
IsNodeFate refused which node (Err bind.OutOfMemory) = Unit {0}

-- how a query is bound, by the refused patterns
abbrev pub IsBindFate : {T : Type 0} → (refused : List (List ℕ)) → Tree → Result T BindError → Type 0
IsBindFate refused tree (Ok bound) = bind_fault refused tree ≡ None
IsBindFate refused tree (Err (bind.Pattern which)) = bind_fault refused tree ≡ Some (refused_pattern which)
IsBindFate refused tree (Err (bind.Empty which)) = bind_fault refused tree ≡ Some (empty_selector which)
IsBindFate refused tree (Err bind.OutOfMemory) = Unit {0}
