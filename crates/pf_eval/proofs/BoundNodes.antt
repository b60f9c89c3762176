-- What a node of a query takes of the lists of series, and gives.
use Rattle.std.proofs.Common.{◌≡◌, ◌<◌, ◌+◌, ℕ, ℤ, true, ◌&&◌, Option, Some, None, List, [], ◌∷◌, ◌++◌, length, get_or, map, drop, sym, ap, ◌∙◌, subst, append_assoc, arith}
use Rattle.std.proofs.lemmas.List.{drop_more, map_push}
use Rattle.std.specs.List.{list_all}
use Rattle.pf_base.specs.declared.plain.Row.{Row}
use Rattle.pf_base.specs.LabelSets.{Pairs, is_label_name}
use Rattle.pf_model.specs.declared.expr.BinaryOp.{BinaryOp}
use Rattle.pf_model.specs.declared.expr.Expr.{Expr}
use Rattle.pf_model.specs.declared.expr.Function.TheVariants as called
use Rattle.pf_model.specs.declared.expr.Matcher.{Matcher}
use Rattle.pf_model.specs.declared.expr.Mods.{Mods}
use Rattle.pf_model.specs.declared.functions.AggOp.{AggOp}
use Rattle.pf_model.specs.declared.functions.InstantFn.TheVariants.{Timestamp}
use Rattle.pf_model.specs.Binding.{accepted_ids}
use Rattle.pf_model.specs.Built.{are_near, is_distance, is_evaluated, is_range, name_labels}
use Rattle.pf_model.specs.Clauses.{Grouped, Matched}
use Rattle.pf_model.specs.Evaluation.{outcome, outcomes}
use Rattle.pf_model.specs.Outcomes.{Outcome, text}
use Rattle.pf_model.specs.Trees as tree
use Rattle.pf_model.specs.Trees.{Tree, Trees, tree_of, trees_of}
use Rattle.pf_eval.specs.Bound.{Begins, all_series_in, behind, series_in}
use Rattle.pf_eval.proofs.BoundLists.{behind_both, two_true}

pub left_evaluated : (t : Tree) (op : BinaryOp) (m : Matched) (a b : Tree) → t ≡ tree.binary op m a b → is_evaluated t ≡ true → is_evaluated a ≡ true
left_evaluated t op m a b is h =
    (two_true (is_evaluated a) (is_evaluated b)
    (two_true (list_all is_label_name m.include) (is_evaluated a && is_evaluated b) (ap is_evaluated (sym is) ∙ h)).1).0

pub right_evaluated : (t : Tree) (op : BinaryOp) (m : Matched) (a b : Tree) → t ≡ tree.binary op m a b → is_evaluated t ≡ true → is_evaluated b ≡ true
right_evaluated t op m a b is h =
    (two_true (is_evaluated a) (is_evaluated b)
    (two_true (list_all is_label_name m.include) (is_evaluated a && is_evaluated b) (ap is_evaluated (sym is) ∙ h)).1).1

pub behind_operands : (ls : List Pairs) (lists : List (List ℕ)) (t : Tree) (op : BinaryOp) (m : Matched) (a b : Tree) (rest last : List (List ℕ)) → t ≡ tree.binary op m a b
    → rest ≡ behind (series_in a ls) lists → last ≡ behind (series_in b ls) rest → last ≡ behind (series_in t ls) lists
behind_operands ls lists t op m a b rest last is r l =
    l ∙ ap (behind (series_in b ls)) r ∙ sym (behind_both (series_in a ls) (series_in b ls) lists)
    ∙ ap (λ x. behind (series_in x ls) lists) (sym is)

-- ---- selectors

pub selected_near : (t : Tree) (ms : List Matcher) (mods : Mods) → t ≡ tree.select ms None mods → is_evaluated t ≡ true → are_near mods ≡ true
selected_near t ms mods is h = ap is_evaluated (sym is) ∙ h

module _ (t : Tree) (ms : List Matcher) (range : ℕ) (mods : Mods) (is : t ≡ tree.select ms (Some range) mods) (h : is_range t ≡ true) where
  ranged_parts : (name_labels ms ≡ true) × ((is_distance range && are_near mods) ≡ true)
  ranged_parts = two_true (name_labels ms) (is_distance range && are_near mods) (ap is_range (sym is) ∙ h)

  pub ranged_names : name_labels ms ≡ true
  ranged_names = ranged_parts.0

  pub ranged_distance : is_distance range ≡ true
  ranged_distance = (two_true (is_distance range) (are_near mods) ranged_parts.1).0

  pub ranged_near : are_near mods ≡ true
  ranged_near = (two_true (is_distance range) (are_near mods) ranged_parts.1).1

-- the selector that `timestamp` is of
abbrev pub timed_tree : List Matcher → Mods → Tree
timed_tree ms mods = tree.call (called.Instant Timestamp) (tree.more (tree.select ms None mods) tree.none)

pub timed_near : (t : Tree) (ms : List Matcher) (mods : Mods) → t ≡ timed_tree ms mods → is_evaluated t ≡ true → are_near mods ≡ true
timed_near t ms mods is h = (two_true (are_near mods) true (ap is_evaluated (sym is) ∙ h)).0

-- the selector of which `topk` or `bottomk` keeps a number of elements
abbrev pub ranked_tree : AggOp → Grouped → ℤ → List Matcher → Mods → Tree
ranked_tree op g v ms mods = tree.aggregate op g (tree.more (tree.number v) (tree.more (tree.select ms None mods) tree.none))

pub ranked_near : (t : Tree) (op : AggOp) (g : Grouped) (v : ℤ) (ms : List Matcher) (mods : Mods) → t ≡ ranked_tree op g v ms mods → is_evaluated t ≡ true → are_near mods ≡ true
ranked_near t op g v ms mods is h = (two_true (are_near mods) true (ap is_evaluated (sym is) ∙ h)).0

module _ (ls : List Pairs) (ms : List Matcher) (t : Tree) (is : series_in t ls ≡ accepted_ids ms ls ∷ []) (lists : List (List ℕ)) (h : Begins (series_in t ls) lists) where
  begins_here : Begins (accepted_ids ms ls ∷ []) lists
  begins_here = subst (λ xs. Begins xs lists) is h

  first_of : (a : List ℕ) (rest : List (List ℕ)) (xs : List (List ℕ)) → Begins (a ∷ []) xs → (b : List ℕ) → xs ≡ b ∷ rest → b ≡ a
  first_of a rest xs g b e = (subst (Begins (a ∷ [])) e g).0

  pub ids_taken : (b : List ℕ) (rest : List (List ℕ)) → lists ≡ b ∷ rest → b ≡ accepted_ids ms ls
  ids_taken b rest e = first_of (accepted_ids ms ls) rest lists begins_here b e

  pub rest_behind : (b : List ℕ) (rest : List (List ℕ)) → lists ≡ b ∷ rest → rest ≡ behind (series_in t ls) lists
  rest_behind b rest e = sym (λ i. behind (is i) (e i))

some_taken : {X : Type 0} (f : X → List ℕ) (a : List ℕ) (xs : List X) → Begins (a ∷ []) (map f xs) → 0 < length xs
some_taken f a [] h = absurd h
some_taken f a (x ∷ xs) h = omega arith

pub some_there : {X : Type 0} (f : X → List ℕ) (ls : List Pairs) (ms : List Matcher) (t : Tree) → series_in t ls ≡ accepted_ids ms ls ∷ []
    → (xs : List X) → Begins (series_in t ls) (map f xs) → 0 < length xs
some_there f ls ms t is xs h = some_taken f (accepted_ids ms ls) xs (subst (λ ys. Begins ys (map f xs)) is h)

pub select_series : (ls : List Pairs) (t : Tree) (ms : List Matcher) (range : Option ℕ) (mods : Mods) → t ≡ tree.select ms range mods
    → series_in t ls ≡ accepted_ids ms ls ∷ []
select_series ls t ms range mods is = ap (λ q. series_in q ls) is

pub timed_series : (ls : List Pairs) (t : Tree) (ms : List Matcher) (mods : Mods) → t ≡ timed_tree ms mods → series_in t ls ≡ accepted_ids ms ls ∷ []
timed_series ls t ms mods is = ap (λ q. series_in q ls) is

pub ranked_series : (ls : List Pairs) (t : Tree) (op : AggOp) (g : Grouped) (v : ℤ) (ms : List Matcher) (mods : Mods) → t ≡ ranked_tree op g v ms mods
    → series_in t ls ≡ accepted_ids ms ls ∷ []
ranked_series ls t op g v ms mods is = ap (λ q. series_in q ls) is

-- ---- arguments one after another

pub args_more : (xs : List Expr) (i : ℕ) (x : Expr) → i < length xs → x ≡ get_or xs i x
    → trees_of (map tree_of (drop i xs)) ≡ tree.more (tree_of x) (trees_of (map tree_of (drop (i + 1) xs)))
args_more xs i x h is =
    ap (λ ys. trees_of (map tree_of ys)) (drop_more xs i x h)
    ∙ ap (λ y. tree.more (tree_of y) (trees_of (map tree_of (drop (i + 1) xs)))) (sym is)

pub behind_first : (ls : List Pairs) (lists : List (List ℕ)) (ts rest : Trees) (a : Tree) → ts ≡ tree.more a rest → (left : List (List ℕ)) → left ≡ behind (series_in a ls) lists
    → behind (all_series_in rest ls) left ≡ behind (all_series_in ts ls) lists
behind_first ls lists ts rest a is left r =
    ap (behind (all_series_in rest ls)) r ∙ sym (behind_both (series_in a ls) (all_series_in rest ls) lists)
    ∙ ap (λ x. behind (all_series_in x ls) lists) (sym is)

pub pushed_outcome : {X : Type 0} (samples : List Row) (t : ℤ) (f : X → Outcome) (ns : List X) (n : X) (ts rest : Trees) (a : Tree)
    → ts ≡ tree.more a rest → f n ≡ outcome samples a t
    → map f (ns ++ (n ∷ [])) ++ outcomes samples rest t ≡ map f ns ++ outcomes samples ts t
pushed_outcome samples t f ns n ts rest a is e =
    ap (λ os. os ++ outcomes samples rest t) (map_push f ns n)
    ∙ append_assoc (map f ns) (f n ∷ []) (outcomes samples rest t)
    ∙ ap (λ o. map f ns ++ (o ∷ outcomes samples rest t)) e
    ∙ ap (λ x. map f ns ++ outcomes samples x t) (sym is)

pub string_behind : (ls : List Pairs) (lists : List (List ℕ)) (a : Tree) (bytes : List ℕ) → a ≡ tree.text bytes → lists ≡ behind (series_in a ls) lists
string_behind ls lists a bytes e = ap (λ x. behind (series_in x ls) lists) (sym e)

pub string_outcome : (samples : List Row) (t : ℤ) (a : Tree) (bytes copy : List ℕ) → a ≡ tree.text bytes → copy ≡ bytes → text copy ≡ outcome samples a t
string_outcome samples t a bytes copy e f = ap text f ∙ ap (λ x. outcome samples x t) (sym e)
