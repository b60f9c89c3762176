-- Going over the counted nodes of a query.
use Rattle.std.proofs.Common.{◌≡◌, ◌∙◌, sym, ap, subst, refl, arith, ℕ, zero, suc, ◌+◌, ◌<◌, ◌≤◌, ◌||◌, Bool, true, false, true≢false, cond, Option, Some, None, Err, drop, List, [], ◌∷◌, ◌++◌, get_or, length, map, take, append_assoc}
use Rattle.std.specs.List.{list_any}
use Rattle.std.specs.Prelude.{◌&&◌}
use Rattle.std.proofs.lemmas.List.{drop_more, length-map, map-append, take_more}
use Rattle.std.proofs.lemmas.List.Folds.{list_all-append, list_any-append}
use Rattle.pf_model.specs.declared.expr.Matcher.{Matcher}
use Rattle.pf_model.specs.Binding.{matchers_in, pattern_of, patterns_in}
use Rattle.pf_model.specs.Queries.{IsBindable, are_meant, bind_fault, bind_fault_from, counted, first_empty_from, has_refused, is_empty_selector, is_meant_node}
use Rattle.pf_model.specs.ErrorTexts.{QueryFault, empty_selector, refused_pattern}
use Rattle.pf_model.specs.Trees.{Tree, number, text, unary, binary, call, aggregate, select, size, subquery}
use Rattle.pf_types.specs.declared.bound.BindError.{BindError}
use Rattle.pf_types.specs.declared.bound.BindError.TheVariants as bind
use Rattle.pf_types.specs.Counted.{IsBindFate, IsNodeFate}
use Rattle.pf_types.proofs.CountedNodes.{counted_size}

pub one_more : {X : Type 0} (f : X → Tree) (xs : List X) (i : ℕ) (x : X) → i < length xs → x ≡ get_or xs i x
    → map f (take (i + 1) xs) ≡ map f (take i xs) ++ f x ∷ []
one_more f xs i x h is =
    ap (map f) (take_more xs i x h) ∙ map-append f (take i xs) (get_or xs i x ∷ []) ∙ ap (λ y. map f (take i xs) ++ f y ∷ []) (sym is)

matchers_append : (xs ys : List Tree) → matchers_in (xs ++ ys) ≡ matchers_in xs ++ matchers_in ys
matchers_append [] ys = refl
matchers_append (number v ∷ xs) ys = matchers_append xs ys
matchers_append (text b ∷ xs) ys = matchers_append xs ys
matchers_append (unary m e ∷ xs) ys = matchers_append xs ys
matchers_append (binary op m a b ∷ xs) ys = matchers_append xs ys
matchers_append (call f args ∷ xs) ys = matchers_append xs ys
matchers_append (aggregate op g args ∷ xs) ys = matchers_append xs ys
matchers_append (select ms range mods ∷ xs) ys = ap (λ (l : List (List Matcher)). ms ∷ l) (matchers_append xs ys)
matchers_append (subquery e range resolution mods ∷ xs) ys = matchers_append xs ys

patterns_append : (xs ys : List Tree) → patterns_in (xs ++ ys) ≡ patterns_in xs ++ patterns_in ys
patterns_append [] ys = refl
patterns_append (number v ∷ xs) ys = patterns_append xs ys
patterns_append (text b ∷ xs) ys = patterns_append xs ys
patterns_append (unary m e ∷ xs) ys = patterns_append xs ys
patterns_append (binary op m a b ∷ xs) ys = patterns_append xs ys
patterns_append (call f args ∷ xs) ys =
    ap (λ (l : List (List ℕ)). pattern_of f args ++ l) (patterns_append xs ys) ∙ sym (append_assoc (pattern_of f args) (patterns_in xs) (patterns_in ys))
patterns_append (aggregate op g args ∷ xs) ys = patterns_append xs ys
patterns_append (select ms range mods ∷ xs) ys = patterns_append xs ys
patterns_append (subquery e range resolution mods ∷ xs) ys = patterns_append xs ys

empty_append : (xs : List Tree) (t : Tree) → list_any is_empty_selector xs ≡ false → is_empty_selector t ≡ false
    → list_any is_empty_selector (xs ++ t ∷ []) ≡ false
empty_append xs t h e = list_any-append is_empty_selector xs (t ∷ []) ∙ ap (λ b. b || (is_empty_selector t || false)) h ∙ ap (λ b. b || false) e

-- behind a node
pub matchers_step : (old new : List (List Matcher)) (ts more : List Tree) (t : Tree)
    → old ≡ matchers_in ts → new ≡ old ++ matchers_in (t ∷ []) → more ≡ ts ++ t ∷ [] → new ≡ matchers_in more
matchers_step old new ts more t h k m =
    k ∙ ap (λ (l : List (List Matcher)). l ++ matchers_in (t ∷ [])) h ∙ sym (matchers_append ts (t ∷ [])) ∙ ap matchers_in (sym m)

pub patterns_step : (old new : List (List ℕ)) (ts more : List Tree) (t : Tree)
    → old ≡ patterns_in ts → new ≡ old ++ patterns_in (t ∷ []) → more ≡ ts ++ t ∷ [] → new ≡ patterns_in more
patterns_step old new ts more t h k m =
    k ∙ ap (λ (l : List (List ℕ)). l ++ patterns_in (t ∷ [])) h ∙ sym (patterns_append ts (t ∷ [])) ∙ ap patterns_in (sym m)

pub none_step : (ts more : List Tree) (t : Tree) → list_any is_empty_selector ts ≡ false → is_empty_selector t ≡ false → more ≡ ts ++ t ∷ []
    → list_any is_empty_selector more ≡ false
none_step ts more t h e m = ap (list_any is_empty_selector) m ∙ empty_append ts t h e

meant_append : (xs : List Tree) (t : Tree) → are_meant xs ≡ true → is_meant_node t ≡ true → are_meant (xs ++ t ∷ []) ≡ true
meant_append xs t h e = list_all-append is_meant_node xs (t ∷ []) ∙ ap (λ b. b && (is_meant_node t && true)) h ∙ ap (λ b. b && true) e

pub meant_step : (ts more : List Tree) (t : Tree) → are_meant ts ≡ true → is_meant_node t ≡ true → more ≡ ts ++ t ∷ [] → are_meant more ≡ true
meant_step ts more t h e m = ap are_meant m ∙ meant_append ts t h e

-- ---- the first empty selector

no_first : (n : ℕ) (ts : List Tree) → list_any is_empty_selector ts ≡ false → first_empty_from n ts ≡ None
no_first n [] h = refl
no_first n (t ∷ ts) h = by (is_empty_selector t) h (no_first (n + 1) ts) where
  by : (b : Bool) → (b || list_any is_empty_selector ts) ≡ false → (list_any is_empty_selector ts ≡ false → first_empty_from (n + 1) ts ≡ None)
      → cond b (Some n) (first_empty_from (n + 1) ts) ≡ None
  by true g more = absurd (true≢false g)
  by false g more = more g

pub bindable : (ts : List Tree) (tree : Tree) → are_meant ts ≡ true → list_any is_empty_selector ts ≡ false → ts ≡ counted tree → IsBindable tree
bindable ts tree meant h is = record {
  meant = ap are_meant (sym is) ∙ meant;
  selects = ap (first_empty_from 0) (sym is) ∙ no_first 0 ts h;
}

-- ---- the first fault

-- what is left of the nodes has the fault of all, behind one without
pub fault_step : {X : Type 0} (f : X → Tree) (refs : List (List ℕ)) (xs : List X) (i : ℕ) (x : X) (whole : Option QueryFault) → i < length xs → x ≡ get_or xs i x
    → bind_fault_from refs i (map f (drop i xs)) ≡ whole → has_refused refs (f x) ≡ false → is_empty_selector (f x) ≡ false
    → bind_fault_from refs (i + 1) (map f (drop (i + 1) xs)) ≡ whole
fault_step f refs xs i x whole h is left refused empty =
    let first : map f (drop i xs) ≡ f x ∷ map f (drop (i + 1) xs) = ap (map f) (drop_more xs i x h) ∙ ap (λ y. f y ∷ map f (drop (i + 1) xs)) (sym is) in
    let rest = bind_fault_from refs (i + 1) (map f (drop (i + 1) xs)) in
    sym (ap (bind_fault_from refs i) first ∙ ap (λ b. cond b (Some (refused_pattern i)) (cond (is_empty_selector (f x)) (Some (empty_selector i)) rest)) refused
    ∙ ap (λ b. cond b (Some (empty_selector i)) rest) empty)
    ∙ left

-- a node that is not bound
pub node_fate : {X : Type 0} (f : X → Tree) (refs : List (List ℕ)) (xs : List X) (i which : ℕ) (x : X) (e : BindError) (tree : Tree)
    → i < length xs → x ≡ get_or xs i x → which ≡ i → bind_fault_from refs i (map f (drop i xs)) ≡ bind_fault_from refs 0 (map f xs)
    → IsNodeFate {T = Unit {0}} refs which (f x) (Err e) → map f xs ≡ counted tree → IsBindFate {T = Unit {0}} refs tree (Err e)
node_fate f refs xs i which x e tree h is w left fate all = by e fate where
  first : map f (drop i xs) ≡ f x ∷ map f (drop (i + 1) xs)
  first = ap (map f) (drop_more xs i x h) ∙ ap (λ y. f y ∷ map f (drop (i + 1) xs)) (sym is)

  whole : bind_fault refs tree ≡ bind_fault_from refs i (f x ∷ map f (drop (i + 1) xs))
  whole = ap (bind_fault_from refs 0) (sym all) ∙ sym left ∙ ap (bind_fault_from refs i) first

  rest : Option QueryFault
  rest = bind_fault_from refs (i + 1) (map f (drop (i + 1) xs))

  by : (e : BindError) → IsNodeFate {T = Unit {0}} refs which (f x) (Err e) → IsBindFate {T = Unit {0}} refs tree (Err e)
  by (bind.Pattern n) g =
      whole ∙ ap (λ b. cond b (Some (refused_pattern i)) (cond (is_empty_selector (f x)) (Some (empty_selector i)) rest)) g.1
      ∙ ap (λ k. Some (refused_pattern k)) (sym (g.0 ∙ w))
  by (bind.Empty n) g =
      whole ∙ ap (λ b. cond b (Some (refused_pattern i)) (cond (is_empty_selector (f x)) (Some (empty_selector i)) rest)) g.1.0
      ∙ ap (λ b. cond b (Some (empty_selector i)) rest) g.1.1 ∙ ap (λ k. Some (empty_selector k)) (sym (g.0 ∙ w))
  by bind.OutOfMemory g = tt

-- ---- how many nodes are counted

pub few_nodes : {X : Type 0} (f : X → Tree) (xs : List X) (t : Tree) → map f xs ≡ counted t → size t ≤ 4294967295 → length xs ≤ 4294967295
few_nodes f xs t is small =
    let same : length xs ≡ length (counted t) = sym (length-map xs f) ∙ ap (λ (ts : List Tree). length ts) is in
    let fewer = counted_size t in
    omega (arith, same, fewer, small)
