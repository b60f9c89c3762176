-- What calls read of their arguments.
use Rattle.std.proofs.Common.{◌≡◌, ◌<◌, ◌≤◌, ◌+◌, ℕ, ℤ, true, false, Bool, ◌&&◌, not, None, Some, List, [], ◌∷◌, length, get_or, map, drop, refl, sym, ap, ◌∙◌, arith}
use Rattle.pf_base.specs.declared.plain.Row.{Row}
use Rattle.pf_base.specs.LabelSets.{Pairs, is_label_name}
use Rattle.pf_model.specs.declared.expr.Expr.{Expr}
use Rattle.pf_model.specs.declared.expr.Function.TheVariants as called
use Rattle.pf_model.specs.declared.functions.InstantFn.{InstantFn}
use Rattle.pf_model.specs.declared.functions.InstantFn.TheVariants as function
use Rattle.pf_model.specs.Binding.{pattern_of}
use Rattle.pf_model.specs.Built.{is_absent_call, is_joining, is_lawful_call, is_replacing, is_string}
use Rattle.pf_model.specs.Evaluation.{absent_of, beside, instant_outcome, outcome, outcomes, timestamps}
use Rattle.pf_model.specs.Outcomes.{Outcome, instant_call}
use Rattle.pf_model.specs.Trees as tree
use Rattle.pf_model.specs.Trees.{Tree, Trees, tree_of, trees_of}
use Rattle.pf_math.specs.Relabelling.{has_lawful_target}
use Rattle.pf_eval.specs.Bound.{AreThere}
use Rattle.pf_eval.specs.Calls.{beside_at, has_its_pattern}
use Rattle.pf_eval.specs.Strings.{is_instant_selector, names_label, strings_in}

-- ---- counted arguments

abbrev count : Trees → ℕ
count tree.none = 0
count (tree.more t ts) = 1 + count ts

counted : (es : List Expr) → count (trees_of (map tree_of es)) ≡ length es
counted [] = refl
counted (x ∷ es) = let h = counted es in omega (arith, h)

no_five : (ts : Trees) → (count ts ≡ 5 → ⊥) → is_replacing ts ≡ false
no_five (tree.more v (tree.more (tree.text a) (tree.more (tree.text b) (tree.more (tree.text c) (tree.more (tree.text d) tree.none))))) h = absurd (h refl)
no_five ts h = refl

pub not_replacing : (es : List Expr) → (length es ≡ 5 → ⊥) → is_replacing (trees_of (map tree_of es)) ≡ false
not_replacing es h = no_five (trees_of (map tree_of es)) (λ e. h (sym (counted es) ∙ e))

no_two : (ts : Trees) → count ts < 2 → is_joining ts ≡ false
no_two (tree.more v (tree.more (tree.text a) ts)) h = absurd (omega (arith, h))
no_two ts h = refl

pub not_joining : (es : List Expr) → length es < 2 → is_joining (trees_of (map tree_of es)) ≡ false
not_joining es h = no_two (trees_of (map tree_of es)) (let n = counted es in omega (arith, h, n))

pub replacing_five : (v a b c d : Tree) → is_replacing (tree.more v (tree.more a (tree.more b (tree.more c (tree.more d tree.none)))))
    ≡ (is_string a && (is_string b && (is_string c && (is_string d && (not (is_string v) && names_label a)))))
replacing_five v (tree.text a) (tree.text b) (tree.text c) (tree.text d) = refl
replacing_five v a b c d = refl

pub joining_two : (v a : Tree) (ts : Trees) → is_joining (tree.more v (tree.more a ts)) ≡ (is_string a && (not (is_string v) && names_label a))
joining_two v (tree.text a) ts = refl
joining_two v a ts = refl

pub five_trees : (es : List Expr) (v a b c d : Expr) → length es ≡ 5 → v ≡ get_or es 0 v → a ≡ get_or es 1 a → b ≡ get_or es 2 b → c ≡ get_or es 3 c → d ≡ get_or es 4 d
    → trees_of (map tree_of es) ≡ tree.more (tree_of v) (tree.more (tree_of a) (tree.more (tree_of b) (tree.more (tree_of c) (tree.more (tree_of d) tree.none))))
five_trees (v' ∷ a' ∷ b' ∷ c' ∷ d' ∷ []) v a b c d n ev ea eb ec ed =
    sym (λ i. tree.more (tree_of (ev i)) (tree.more (tree_of (ea i)) (tree.more (tree_of (eb i)) (tree.more (tree_of (ec i)) (tree.more (tree_of (ed i)) tree.none)))))
five_trees es v a b c d n ev ea eb ec ed = absurd (omega (arith, n))

pub two_trees : (es : List Expr) (v a : Expr) → 2 ≤ length es → v ≡ get_or es 0 v → a ≡ get_or es 1 a
    → trees_of (map tree_of es) ≡ tree.more (tree_of v) (tree.more (tree_of a) (trees_of (map tree_of (drop 2 es))))
two_trees [] v a n ev ea = absurd (omega (arith, n))
two_trees (v' ∷ []) v a n ev ea = absurd (omega (arith, n))
two_trees (v' ∷ a' ∷ es) v a n ev ea = sym (λ i. tree.more (tree_of (ev i)) (tree.more (tree_of (ea i)) (trees_of (map tree_of es))))

-- ---- `absent`

pub absent_call_first : (t : Tree) (ts : Trees) → is_absent_call (tree.more t ts) ≡ is_absent_call (tree.more t tree.none)
absent_call_first (tree.select ms range mods) ts = refl
absent_call_first t ts = refl

pub absent_first : (t : Tree) (ts : Trees) → absent_of (tree.more t ts) ≡ absent_of (tree.more t tree.none)
absent_first (tree.select ms range mods) ts = refl
absent_first t ts = refl

pub beside_others : (f : InstantFn) → (f ≡ function.Absent → ⊥) → (l : Pairs) (samples : List Row) (ts : Trees) (os : List Outcome) (t : ℤ)
    → instant_call f (beside_at l t os) os ≡ instant_call f (beside samples ts os t) os
beside_others function.Absent h l samples ts os t = absurd (h refl)
beside_others f h l samples ts os t = refl

pub beside_absent : (l : Pairs) (samples : List Row) (ts : Trees) (os : List Outcome) (t : ℤ) → l ≡ absent_of ts
    → instant_call function.Absent (beside_at l t os) os ≡ instant_call function.Absent (beside samples ts os t) os
beside_absent l samples ts os t e = ap (λ a. instant_call function.Absent (beside_at a t os) os) e

-- ---- `timestamp`

pub untimed : (f : InstantFn) → (f ≡ function.Timestamp → ⊥) → (samples : List Row) (ts : Trees) (os : List Outcome) (t : ℤ)
    → instant_outcome samples f ts os t ≡ instant_call f (beside samples ts os t) os
untimed function.Timestamp h samples ts os t = absurd (h refl)
untimed f h samples ts os t = refl

pub no_selector : (a : Tree) → is_instant_selector a ≡ false → (samples : List Row) (t : ℤ) (o : Outcome) → timestamps samples (tree.more a tree.none) t o ≡ o
no_selector (tree.select ms None mods) h samples t o = cc
no_selector (tree.select ms (Some range) mods) h samples t o = refl
no_selector a h samples t o = refl

-- ---- strings

skips : (v : Tree) (ts : Trees) → is_string v ≡ false → strings_in (tree.more v ts) ≡ strings_in ts
skips (tree.text bytes) ts h = cc
skips v ts h = refl

no_string : (v : Tree) (b : Bool) → (not (is_string v) && b) ≡ true → (is_string v ≡ false) × (b ≡ true)
no_string (tree.text bytes) b h = cc
no_string v b h = (refl, h)

pub lawful_target : (f : InstantFn) (ts : Trees) → is_lawful_call f ts ≡ true → has_lawful_target f (strings_in ts) ≡ true
lawful_target function.LabelReplace (tree.more v (tree.more (tree.text a) (tree.more (tree.text b) (tree.more (tree.text c) (tree.more (tree.text d) tree.none))))) h =
    let w = no_string v (is_label_name a) h in
    ap (has_lawful_target function.LabelReplace) (skips v (tree.more (tree.text a) (tree.more (tree.text b) (tree.more (tree.text c) (tree.more (tree.text d) tree.none)))) w.0) ∙ w.1
lawful_target function.LabelReplace ts h = cc
lawful_target function.LabelJoin (tree.more v (tree.more (tree.text a) ts)) h =
    let w = no_string v (is_label_name a) h in
    ap (has_lawful_target function.LabelJoin) (skips v (tree.more (tree.text a) ts) w.0) ∙ w.1
lawful_target function.LabelJoin ts h = cc
lawful_target f ts h = refl

pub its_pattern : (f : InstantFn) (ts : Trees) (ps : List (List ℕ)) → is_lawful_call f ts ≡ true → AreThere (pattern_of (called.Instant f) ts) ps
    → has_its_pattern f (strings_in ts) ps ≡ true
its_pattern function.LabelReplace (tree.more v (tree.more (tree.text a) (tree.more (tree.text b) (tree.more (tree.text c) (tree.more (tree.text d) tree.none))))) ps h p =
    let w = no_string v (is_label_name a) h in
    ap (λ xs. has_its_pattern function.LabelReplace xs ps)
    (skips v (tree.more (tree.text a) (tree.more (tree.text b) (tree.more (tree.text c) (tree.more (tree.text d) tree.none)))) w.0) ∙ p.0
its_pattern function.LabelReplace ts ps h p = cc
its_pattern f ts ps h p = refl

-- a string and a query that is none, in front of others
pub string_more : (ts rest : Trees) (a : Tree) (bytes : List ℕ) → ts ≡ tree.more a rest → a ≡ tree.text bytes → strings_in ts ≡ bytes ∷ strings_in rest
string_more ts rest a bytes is e = ap strings_in is ∙ ap (λ x. strings_in (tree.more x rest)) e

pub query_more : (ts rest : Trees) (a : Tree) → ts ≡ tree.more a rest → is_string a ≡ false → strings_in ts ≡ strings_in rest
query_more ts rest a is h = ap strings_in is ∙ skips a rest h

-- ---- a call from its parts

pub called_meant : (samples : List Row) (f : InstantFn) (q : Tree) (ts : Trees) (t : ℤ) (n : Outcome) (os : List Outcome) → q ≡ tree.call (called.Instant f) ts
    → n ≡ instant_call f (beside samples ts os t) os → os ≡ outcomes samples ts t
    → ((us : List Outcome) (u : ℤ) → instant_outcome samples f ts us u ≡ instant_call f (beside samples ts us u) us) → n ≡ outcome samples q t
called_meant samples f q ts t n os is e same none =
    e ∙ sym (none os t) ∙ ap (λ us. instant_outcome samples f ts us t) same ∙ ap (λ x. outcome samples x t) (sym is)
