-- The counted nodes of a query, by its variants.
use Rattle.std.proofs.Common.{◌≡◌, ◌∙◌, sym, ap, refl, arith, ℕ, ℤ, Result, Ok, Err, OnOk, ◌+◌, ◌<◌, ◌≤◌, Bool, true, false, true≢false, cond, Option, List, [], ◌∷◌, ◌++◌, drop, get_or, length, map, append-nil, append_assoc, suc}
use Rattle.std.proofs.lemmas.List.Elements.{filter-append}
use Rattle.std.specs.Prelude.{Box, Vec, ◌&&◌}
use Rattle.pf_model.specs.declared.expr.BinaryOp.{BinaryOp}
use Rattle.pf_model.specs.declared.expr.Expr.{Expr}
use Rattle.pf_model.specs.declared.expr.Expr.TheVariants as expr
use Rattle.pf_model.specs.declared.expr.Function.{Function}
use Rattle.pf_model.specs.declared.expr.Function.TheVariants as called
use Rattle.pf_model.specs.declared.expr.Matcher.{Matcher}
use Rattle.pf_model.specs.declared.expr.Mods.{Mods}
use Rattle.pf_model.specs.declared.functions.AggOp.{AggOp}
use Rattle.pf_model.specs.declared.functions.InstantFn.TheVariants as function
use Rattle.pf_model.specs.Binding.{fifth_text, matchers_in, pattern_of, patterns_in}
use Rattle.pf_model.specs.Clauses.{Grouped, Matched}
use Rattle.pf_match.specs.Meaning.{is_pattern, is_refused}
use Rattle.pf_model.specs.Queries.{counted, counted_in, has_refused, is_counted, is_fifth_meant, is_fifth_refused, is_label_replace, is_meant_node}
use Rattle.pf_model.specs.Trees.{Tree, Trees, number, text, unary, binary, call, aggregate, select, subquery, more, none, preorder, all_preorder, size, tree_of, trees_of}
use Rattle.pf_model.proofs.PreorderSizes.{preorder_size}
use Rattle.pf_model.proofs.TreeOf.{number_tree, text_tree, unary_tree, binary_tree, call_tree, aggregate_tree, select_tree, subquery_tree}
use Rattle.pf_types.specs.Counted.{IsCallFate, IsNodeFate, all_counted, text_in}
use Rattle.pf_types.specs.declared.bound.BindError.{BindError}
use Rattle.pf_types.specs.declared.bound.BindError.TheVariants as bind
use Rattle.pf_types.proofs.Operands.{rest, rest_more, rest_none}

-- ---- variants

pub number_counted : (e : Expr) (v : ℤ) → e ≡ expr.Number v → counted (tree_of e) ≡ []
number_counted e v is = ap counted (ap tree_of is ∙ number_tree v)

pub text_counted : (e : Expr) (s : List ℕ) → e ≡ expr.Text s → counted (tree_of e) ≡ []
text_counted e s is = ap counted (ap tree_of is ∙ text_tree s)

pub unary_counted : (e arg : Expr) (minus : Bool) (b : Box Expr _) → e ≡ expr.Unary minus b → arg ≡ b.value
    → counted (tree_of e) ≡ counted (tree_of arg)
unary_counted e arg minus b is p = ap counted (ap tree_of is ∙ unary_tree minus b) ∙ ap (λ x. counted (tree_of x)) (sym p)

pub binary_counted : (e left right : Expr) (op : BinaryOp) (m : Matched) (a b : Box Expr _)
    → e ≡ expr.Binary op m a b → left ≡ a.value → right ≡ b.value
    → counted (tree_of e) ≡ counted (tree_of left) ++ counted (tree_of right)
binary_counted e left right op m a b is p q =
    ap counted (ap tree_of is ∙ binary_tree op m a b) ∙ filter-append is_counted (preorder (tree_of a.value)) (preorder (tree_of b.value))
    ∙ ap (λ x. counted (tree_of x) ++ counted (tree_of b.value)) (sym p)
    ∙ ap (λ x. counted (tree_of left) ++ counted (tree_of x)) (sym q)

by_call : (b : Bool) (t : Tree) (ts : List Tree) → cond b (t ∷ ts) ts ≡ cond b (t ∷ []) [] ++ ts
by_call true t ts = refl
by_call false t ts = refl

pub call_counted : (e : Expr) (f : Function) (v : Vec Expr _) (es : List Expr) → e ≡ expr.Call f v → es ≡ v.items
    → counted (tree_of e) ≡ cond (is_label_replace f) (tree_of e ∷ []) [] ++ all_counted (trees_of (map tree_of es))
call_counted e f v es is p =
    ap counted (ap tree_of is ∙ call_tree f v)
    ∙ by_call (is_label_replace f) (call f (trees_of (map tree_of v.items))) (all_counted (trees_of (map tree_of v.items)))
    ∙ ap (λ (t : Tree). cond (is_label_replace f) (t ∷ []) [] ++ all_counted (trees_of (map tree_of v.items))) (sym (ap tree_of is ∙ call_tree f v))
    ∙ ap (λ xs. cond (is_label_replace f) (tree_of e ∷ []) [] ++ all_counted (trees_of (map tree_of xs))) (sym p)

pub aggregate_counted : (e : Expr) (op : AggOp) (g : Grouped) (v : Vec Expr _) (es : List Expr) → e ≡ expr.Aggregate op g v → es ≡ v.items
    → counted (tree_of e) ≡ all_counted (trees_of (map tree_of es))
aggregate_counted e op g v es is p =
    ap counted (ap tree_of is ∙ aggregate_tree op g v) ∙ ap (λ xs. all_counted (trees_of (map tree_of xs))) (sym p)

pub select_counted : (e : Expr) (s : List Matcher) (range : Option ℕ) (mods : Mods) → e ≡ expr.Select s range mods
    → counted (tree_of e) ≡ tree_of e ∷ []
select_counted e s range mods is =
    ap counted (ap tree_of is ∙ select_tree s range mods) ∙ ap (λ (t : Tree). t ∷ []) (sym (ap tree_of is ∙ select_tree s range mods))

pub subquery_counted : (e arg : Expr) (b : Box Expr _) (range : ℕ) (resolution : Option ℕ) (mods : Mods)
    → e ≡ expr.Subquery b range resolution mods → arg ≡ b.value
    → counted (tree_of e) ≡ counted (tree_of arg)
subquery_counted e arg b range resolution mods is p =
    ap counted (ap tree_of is ∙ subquery_tree b range resolution mods) ∙ ap (λ x. counted (tree_of x)) (sym p)

-- ---- what is added

pub added_none : (before after now : List Tree) → after ≡ before → now ≡ [] → after ≡ before ++ now
added_none before after now h n = h ∙ sym (append-nil before) ∙ ap (λ (l : List Tree). before ++ l) (sym n)

pub added_one : (before after part now : List Tree) → after ≡ before ++ part → now ≡ part → after ≡ before ++ now
added_one before after part now h n = h ∙ ap (λ (l : List Tree). before ++ l) (sym n)

pub added_both : (before mid after left right now : List Tree) → mid ≡ before ++ left → after ≡ mid ++ right → now ≡ left ++ right
    → after ≡ before ++ now
added_both before mid after left right now h k n =
    k ∙ ap (λ (l : List Tree). l ++ right) h ∙ append_assoc before left right ∙ ap (λ (l : List Tree). before ++ l) (sym n)

-- ---- some queries

pub more_counted : (xs : List Expr) (i : ℕ) (x : Expr) → i < length xs → x ≡ get_or xs i x
    → all_counted (trees_of (map tree_of (drop i xs))) ≡ counted (tree_of x) ++ all_counted (trees_of (map tree_of (drop (i + 1) xs)))
more_counted xs i x h is =
    ap (λ ts. all_counted (trees_of ts)) (rest_more xs i x h is)
    ∙ filter-append is_counted (preorder (tree_of x)) (all_preorder (trees_of (rest xs (i + 1))))

pub none_counted : (xs : List Expr) (i : ℕ) → length xs ≤ i → all_counted (trees_of (map tree_of (drop i xs))) ≡ []
none_counted xs i h = ap (λ ts. all_counted (trees_of ts)) (rest_none xs i h)

-- behind one of some queries
pub step_added : (old new part rest now start : List Tree) → new ≡ old ++ part → now ≡ part ++ rest → old ++ now ≡ start → new ++ rest ≡ start
step_added old new part rest now start h n s =
    ap (λ (l : List Tree). l ++ rest) h ∙ append_assoc old part rest ∙ ap (λ (l : List Tree). old ++ l) (sym n) ∙ s

pub whole_added : (found rest start : List Tree) → rest ≡ [] → found ++ rest ≡ start → found ≡ start
whole_added found rest start n s = sym (append-nil found) ∙ ap (λ (l : List Tree). found ++ l) (sym n) ∙ s

pub on_ok_map : {E : Type 0} (r : Result (Unit {0}) E) (P Q : Type 0) → (P → Q) → OnOk r P → OnOk r Q
on_ok_map (Ok x) P Q f h = f h
on_ok_map (Err e) P Q f h = tt

-- ---- how many there are

fewer : (ts : List Tree) → length (counted_in ts) ≤ length ts
fewer [] = omega arith
fewer (t ∷ ts) = by (is_counted t) (fewer ts) where
  by : (b : Bool) → length (counted_in ts) ≤ length ts → length (cond b (t ∷ counted_in ts) (counted_in ts)) ≤ suc (length ts)
  by true h = omega (arith, h)
  by false h = omega (arith, h)

pub counted_size : (t : Tree) → length (counted t) ≤ size t
counted_size t = let h = fewer (preorder t) in let s = preorder_size t in omega (arith, h, s)

-- ---- matchers and patterns of the counted nodes

pub counted_matchers : (ts : List Tree) → matchers_in (counted_in ts) ≡ matchers_in ts
counted_matchers [] = refl
counted_matchers (number v ∷ ts) = counted_matchers ts
counted_matchers (text b ∷ ts) = counted_matchers ts
counted_matchers (unary m e ∷ ts) = counted_matchers ts
counted_matchers (binary op m a b ∷ ts) = counted_matchers ts
counted_matchers (call f args ∷ ts) = by (is_label_replace f) (counted_matchers ts) where
  by : (b : Bool) → matchers_in (counted_in ts) ≡ matchers_in ts → matchers_in (cond b (call f args ∷ counted_in ts) (counted_in ts)) ≡ matchers_in ts
  by true h = h
  by false h = h
counted_matchers (aggregate op g args ∷ ts) = counted_matchers ts
counted_matchers (select ms range mods ∷ ts) = ap (λ (l : List (List Matcher)). ms ∷ l) (counted_matchers ts)
counted_matchers (subquery e range resolution mods ∷ ts) = counted_matchers ts

-- only `label_replace` has a pattern
pub other_pattern : (f : Function) (args : Trees) → is_label_replace f ≡ false → pattern_of f args ≡ []
other_pattern (called.Range f) args h = refl
other_pattern (called.Instant function.Abs) args h = refl
other_pattern (called.Instant function.Ceil) args h = refl
other_pattern (called.Instant function.Floor) args h = refl
other_pattern (called.Instant function.Sgn) args h = refl
other_pattern (called.Instant function.Round) args h = refl
other_pattern (called.Instant function.Clamp) args h = refl
other_pattern (called.Instant function.ClampMin) args h = refl
other_pattern (called.Instant function.ClampMax) args h = refl
other_pattern (called.Instant function.Absent) args h = refl
other_pattern (called.Instant function.Scalar) args h = refl
other_pattern (called.Instant function.Vector) args h = refl
other_pattern (called.Instant function.Time) args h = refl
other_pattern (called.Instant function.Timestamp) args h = refl
other_pattern (called.Instant function.LabelReplace) args h = absurd (true≢false h)
other_pattern (called.Instant function.LabelJoin) args h = refl

pub own_pattern : (f : Function) (args : Trees) → is_label_replace f ≡ true → pattern_of f args ≡ fifth_text args
own_pattern (called.Range f) args h = absurd (true≢false (sym h))
own_pattern (called.Instant function.Abs) args h = absurd (true≢false (sym h))
own_pattern (called.Instant function.Ceil) args h = absurd (true≢false (sym h))
own_pattern (called.Instant function.Floor) args h = absurd (true≢false (sym h))
own_pattern (called.Instant function.Sgn) args h = absurd (true≢false (sym h))
own_pattern (called.Instant function.Round) args h = absurd (true≢false (sym h))
own_pattern (called.Instant function.Clamp) args h = absurd (true≢false (sym h))
own_pattern (called.Instant function.ClampMin) args h = absurd (true≢false (sym h))
own_pattern (called.Instant function.ClampMax) args h = absurd (true≢false (sym h))
own_pattern (called.Instant function.Absent) args h = absurd (true≢false (sym h))
own_pattern (called.Instant function.Scalar) args h = absurd (true≢false (sym h))
own_pattern (called.Instant function.Vector) args h = absurd (true≢false (sym h))
own_pattern (called.Instant function.Time) args h = absurd (true≢false (sym h))
own_pattern (called.Instant function.Timestamp) args h = absurd (true≢false (sym h))
own_pattern (called.Instant function.LabelReplace) args h = refl
own_pattern (called.Instant function.LabelJoin) args h = absurd (true≢false (sym h))

pub counted_patterns : (ts : List Tree) → patterns_in (counted_in ts) ≡ patterns_in ts
counted_patterns [] = refl
counted_patterns (number v ∷ ts) = counted_patterns ts
counted_patterns (text b ∷ ts) = counted_patterns ts
counted_patterns (unary m e ∷ ts) = counted_patterns ts
counted_patterns (binary op m a b ∷ ts) = counted_patterns ts
counted_patterns (call f args ∷ ts) = by (is_label_replace f) refl (counted_patterns ts) where
  by : (b : Bool) → is_label_replace f ≡ b → patterns_in (counted_in ts) ≡ patterns_in ts
      → patterns_in (cond b (call f args ∷ counted_in ts) (counted_in ts)) ≡ pattern_of f args ++ patterns_in ts
  by true h same = ap (λ (l : List (List ℕ)). pattern_of f args ++ l) same
  by false h same = same ∙ ap (λ (l : List (List ℕ)). l ++ patterns_in ts) (sym (other_pattern f args h))
counted_patterns (aggregate op g args ∷ ts) = counted_patterns ts
counted_patterns (select ms range mods ∷ ts) = counted_patterns ts
counted_patterns (subquery e range resolution mods ∷ ts) = counted_patterns ts

-- ---- the fifth argument

fifth_of : (a b c d t : Tree) (ts : Trees) → fifth_text (more a (more b (more c (more d (more t ts))))) ≡ text_in t
fifth_of a b c d (number v) ts = refl
fifth_of a b c d (text s) ts = refl
fifth_of a b c d (unary m e) ts = refl
fifth_of a b c d (binary op m l r) ts = refl
fifth_of a b c d (call f args) ts = refl
fifth_of a b c d (aggregate op g args) ts = refl
fifth_of a b c d (select ms range mods) ts = refl
fifth_of a b c d (subquery e range resolution mods) ts = refl

pub fifth_is : (xs : List Expr) (x : Expr) → 4 < length xs → x ≡ get_or xs 4 x → fifth_text (trees_of (map tree_of xs)) ≡ text_in (tree_of x)
fifth_is [] x h is = absurd (omega (arith, h))
fifth_is (a ∷ []) x h is = absurd (omega (arith, h))
fifth_is (a ∷ (b ∷ [])) x h is = absurd (omega (arith, h))
fifth_is (a ∷ (b ∷ (c ∷ []))) x h is = absurd (omega (arith, h))
fifth_is (a ∷ (b ∷ (c ∷ (d ∷ [])))) x h is = absurd (omega (arith, h))
fifth_is (a ∷ (b ∷ (c ∷ (d ∷ (e ∷ es))))) x h is =
    fifth_of (tree_of a) (tree_of b) (tree_of c) (tree_of d) (tree_of e) (trees_of (map tree_of es)) ∙ ap (λ y. text_in (tree_of y)) (sym is)

pub no_fifth : (xs : List Expr) → length xs ≤ 4 → fifth_text (trees_of (map tree_of xs)) ≡ []
no_fifth [] h = refl
no_fifth (a ∷ []) h = refl
no_fifth (a ∷ (b ∷ [])) h = refl
no_fifth (a ∷ (b ∷ (c ∷ []))) h = refl
no_fifth (a ∷ (b ∷ (c ∷ (d ∷ [])))) h = refl
no_fifth (a ∷ (b ∷ (c ∷ (d ∷ (e ∷ es))))) h = absurd (omega (arith, h))

-- ---- its meaning

-- what is said of it is said of the string that stands there
fifth_by : (args : Trees) → ((p : List ℕ) → fifth_text args ≡ p ∷ [] → is_pattern p ≡ true) → is_fifth_meant args ≡ true
fifth_by none h = refl
fifth_by (more a none) h = refl
fifth_by (more a (more b none)) h = refl
fifth_by (more a (more b (more c none))) h = refl
fifth_by (more a (more b (more c (more d none)))) h = refl
fifth_by (more a (more b (more c (more d (more (number v) ts))))) h = refl
fifth_by (more a (more b (more c (more d (more (text s) ts))))) h = h s refl
fifth_by (more a (more b (more c (more d (more (unary m e) ts))))) h = refl
fifth_by (more a (more b (more c (more d (more (binary op m l r) ts))))) h = refl
fifth_by (more a (more b (more c (more d (more (call f args) ts))))) h = refl
fifth_by (more a (more b (more c (more d (more (aggregate op g args) ts))))) h = refl
fifth_by (more a (more b (more c (more d (more (select ms range mods) ts))))) h = refl
fifth_by (more a (more b (more c (more d (more (subquery e range resolution mods) ts))))) h = refl

meant_by : (b fifth : Bool) → fifth ≡ true → cond b fifth true ≡ true
meant_by true fifth h = h
meant_by false fifth h = refl

pub fifth_meant : (f : Function) (args : Trees) (p : List ℕ) → fifth_text args ≡ p ∷ [] → is_pattern p ≡ true → is_meant_node (call f args) ≡ true
fifth_meant f args p e h = meant_by (is_label_replace f) (is_fifth_meant args) (fifth_by args (λ q g. same q (sym e ∙ g))) where
  same : (q : List ℕ) → p ∷ [] ≡ q ∷ [] → is_pattern q ≡ true
  same q g = let is : p ≡ q = cc in ap is_pattern (sym is) ∙ h

pub no_fifth_meant : (f : Function) (args : Trees) → fifth_text args ≡ [] → is_meant_node (call f args) ≡ true
no_fifth_meant f args e = meant_by (is_label_replace f) (is_fifth_meant args) (fifth_by args (λ q g. absurd (none_is q (sym e ∙ g)))) where
  none_is : (q : List ℕ) → [] ≡ q ∷ [] → ⊥
  none_is q g = cc

pub other_meant : (f : Function) (args : Trees) → is_label_replace f ≡ false → is_meant_node (call f args) ≡ true
other_meant f args h = ap (λ b. cond b (is_fifth_meant args) true) h

-- ---- what becomes of it

fifth_refused : (refs : List (List ℕ)) (args : Trees) (p : List ℕ) → fifth_text args ≡ p ∷ [] → is_fifth_refused refs args ≡ is_refused refs p
fifth_refused refs none p h = cc
fifth_refused refs (more a none) p h = cc
fifth_refused refs (more a (more b none)) p h = cc
fifth_refused refs (more a (more b (more c none))) p h = cc
fifth_refused refs (more a (more b (more c (more d none)))) p h = cc
fifth_refused refs (more a (more b (more c (more d (more (number v) ts))))) p h = cc
fifth_refused refs (more a (more b (more c (more d (more (text s) ts))))) p h = let is : s ≡ p = cc in ap (is_refused refs) is
fifth_refused refs (more a (more b (more c (more d (more (unary m e) ts))))) p h = cc
fifth_refused refs (more a (more b (more c (more d (more (binary op m l r) ts))))) p h = cc
fifth_refused refs (more a (more b (more c (more d (more (call f args) ts))))) p h = cc
fifth_refused refs (more a (more b (more c (more d (more (aggregate op g args) ts))))) p h = cc
fifth_refused refs (more a (more b (more c (more d (more (select ms range mods) ts))))) p h = cc
fifth_refused refs (more a (more b (more c (more d (more (subquery e range resolution mods) ts))))) p h = cc

no_fifth_refused : (refs : List (List ℕ)) (args : Trees) → fifth_text args ≡ [] → is_fifth_refused refs args ≡ false
no_fifth_refused refs none h = refl
no_fifth_refused refs (more a none) h = refl
no_fifth_refused refs (more a (more b none)) h = refl
no_fifth_refused refs (more a (more b (more c none))) h = refl
no_fifth_refused refs (more a (more b (more c (more d none)))) h = refl
no_fifth_refused refs (more a (more b (more c (more d (more (number v) ts))))) h = refl
no_fifth_refused refs (more a (more b (more c (more d (more (text s) ts))))) h = cc
no_fifth_refused refs (more a (more b (more c (more d (more (unary m e) ts))))) h = refl
no_fifth_refused refs (more a (more b (more c (more d (more (binary op m l r) ts))))) h = refl
no_fifth_refused refs (more a (more b (more c (more d (more (call f args) ts))))) h = refl
no_fifth_refused refs (more a (more b (more c (more d (more (aggregate op g args) ts))))) h = refl
no_fifth_refused refs (more a (more b (more c (more d (more (select ms range mods) ts))))) h = refl
no_fifth_refused refs (more a (more b (more c (more d (more (subquery e range resolution mods) ts))))) h = refl

-- of a call with a pattern
pub call_fate : {T : Type 0} (refs : List (List ℕ)) (which : ℕ) (f : Function) (args : Trees) (p : List ℕ) (r : Result T BindError) → is_label_replace f ≡ true
    → fifth_text args ≡ p ∷ [] → IsCallFate which (is_refused refs p) r → IsNodeFate refs which (call f args) r
call_fate refs which f args p r replaces is = by r where
  same : has_refused refs (call f args) ≡ is_refused refs p
  same = ap (λ b. b && is_fifth_refused refs args) replaces ∙ fifth_refused refs args p is

  by : {T : Type 0} (r : Result T BindError) → IsCallFate which (is_refused refs p) r → IsNodeFate refs which (call f args) r
  by (Ok built) h = (same ∙ h, refl)
  by (Err (bind.Pattern n)) h = (h.0, same ∙ h.1)
  by (Err (bind.Empty n)) h = absurd h
  by (Err bind.OutOfMemory) h = tt

-- of one without, and of one that has none
pub no_fifth_fate : (refs : List (List ℕ)) (f : Function) (args : Trees) → fifth_text args ≡ [] → has_refused refs (call f args) ≡ false
no_fifth_fate refs f args is = ap (λ b. is_label_replace f && b) (no_fifth_refused refs args is) ∙ and_false (is_label_replace f) where
  and_false : (b : Bool) → (b && false) ≡ false
  and_false true = refl
  and_false false = refl

pub other_fate : (refs : List (List ℕ)) (f : Function) (args : Trees) → is_label_replace f ≡ false → has_refused refs (call f args) ≡ false
other_fate refs f args h = ap (λ b. b && is_fifth_refused refs args) h
