-- The series that a query's selectors accept in a snapshot, by their ids, and the patterns of its `label_replace` calls.
-- Prometheus, Querying basics: Time series selectors; Query functions: `label_replace`. The ids, and that lists stand in
-- preorder, are this project's own.
use Rattle.std.specs.Prelude.{ℕ, ◌+◌, cond, List, [], ◌∷◌, ◌++◌, map}
use Rattle.std.specs.declared.cmp.Ordering.{Ordering}
use Rattle.std.specs.Ordering.{nat_cmp, ordering_then}
use Rattle.pf_base.specs.LabelSets.{Pairs}
use Rattle.pf_base.specs.LabelOrder.{labels_cmp}
use Rattle.pf_base.specs.Sorting.{isort}
use Rattle.pf_model.specs.declared.expr.Function.{Function}
use Rattle.pf_model.specs.declared.expr.Function.TheVariants as called
use Rattle.pf_model.specs.declared.expr.Matcher.{Matcher}
use Rattle.pf_model.specs.declared.functions.InstantFn.TheVariants as function
use Rattle.pf_model.specs.Selection.{accepts}
use Rattle.pf_model.specs.Trees.{Tree, Trees, call, more, select, text, preorder}

-- the accepted ones of some label sets, each with its id; the first has the id `first`
abbrev pub accepted_from : ℕ → List Matcher → List Pairs → List (Pairs × ℕ)
accepted_from first ms [] = []
accepted_from first ms (l ∷ ls) =
    cond (accepts ms l) ((l, first) ∷ accepted_from (first + 1) ms ls) (accepted_from (first + 1) ms ls)

abbrev pub accepted_of : List Matcher → List Pairs → List (Pairs × ℕ)
accepted_of ms ls = accepted_from 0 ms ls

-- label order, and then by id
abbrev pub series_cmp : Pairs × ℕ → Pairs × ℕ → Ordering
series_cmp a b = ordering_then (labels_cmp a.0 b.0) (nat_cmp a.1 b.1)

-- the ids of the accepted ones, in label order
abbrev pub accepted_ids : List Matcher → List Pairs → List ℕ
accepted_ids ms ls = map (λ e. e.1) (isort series_cmp (accepted_of ms ls))

-- the matchers of a query's selectors, in preorder
abbrev pub matchers_in : List Tree → List (List Matcher)
matchers_in [] = []
matchers_in (select ms range mods ∷ ts) = ms ∷ matchers_in ts
matchers_in (t ∷ ts) = matchers_in ts

abbrev pub selectors_of : Tree → List (List Matcher)
selectors_of tree = matchers_in (preorder tree)

-- for each selector of a query the ids of its series, where the label sets by id are these
abbrev pub bound_series : Tree → List Pairs → List (List ℕ)
bound_series tree ls = map (λ ms. accepted_ids ms ls) (selectors_of tree)

-- the fifth argument of a call, where it is a string: the fourth text of `label_replace`, behind a vector
abbrev pub fifth_text : Trees → List (List ℕ)
fifth_text (more vector (more target (more replacement (more source (more (text bytes) args))))) = bytes ∷ []
fifth_text args = []

-- the pattern of a call of `label_replace`
abbrev pub pattern_of : Function → Trees → List (List ℕ)
pattern_of (called.Range f) args = []
pattern_of (called.Instant function.LabelReplace) args = fifth_text args
pattern_of (called.Instant f) args = []

abbrev pub patterns_in : List Tree → List (List ℕ)
patterns_in [] = []
patterns_in (call f args ∷ ts) = pattern_of f args ++ patterns_in ts
patterns_in (t ∷ ts) = patterns_in ts

-- the patterns of a query's calls of `label_replace`, in preorder
abbrev pub patterns_of : Tree → List (List ℕ)
patterns_of tree = patterns_in (preorder tree)
