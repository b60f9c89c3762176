-- A query that is evaluated, over a grid.
use Rattle.std.proofs.Common.{◌≡◌, ◌≤◌, ◌<◌, ℕ, zero, suc, Bool, true, false, ◌&&◌, ◌||◌, Option, Some, None, List, refl, sym, ap, subst, ◌∙◌, arith}
use Rattle.std.specs.Prelude.{nat_eq, unsigned_abs}
use Rattle.std.specs.List.{list_all}
use Rattle.std.specs.Cmp.{first_so, second_so}
use Rattle.std.proofs.lemmas.Bool.Decides.{nat_tests}
use Rattle.pf_base.specs.GridLists.{GridData}
use Rattle.pf_base.specs.LabelSets.{is_label_name}
use Rattle.pf_print.specs.OwnTexts.{HasText, KeepTexts}
use Rattle.pf_asked.specs.Lawful.{IsAsked}
use Rattle.pf_model.specs.declared.expr.At.{At}
use Rattle.pf_model.specs.declared.expr.At.TheVariants as at
use Rattle.pf_model.specs.declared.expr.Function.{Function}
use Rattle.pf_model.specs.declared.expr.Function.TheVariants as called
use Rattle.pf_model.specs.declared.expr.Kind.{Kind}
use Rattle.pf_model.specs.declared.expr.Kind.TheVariants.{Scalar}
use Rattle.pf_model.specs.declared.expr.Matcher.{Matcher}
use Rattle.pf_model.specs.declared.expr.Mods.{Mods}
use Rattle.pf_model.specs.declared.functions.InstantFn.TheVariants as function
use Rattle.pf_model.specs.Binding.{patterns_of, selectors_of}
use Rattle.pf_model.specs.Built.{are_arguments, are_evaluated, are_near, is_distance, is_evaluated, is_lawful_call, is_range, is_range_argument, is_resolution, is_string, is_time, name_labels}
use Rattle.pf_model.specs.Canonical.{canonical}
use Rattle.pf_model.specs.Evaluation.{resolution_or_minute}
use Rattle.pf_model.specs.Queries.{IsBindable, IsQuery}
use Rattle.pf_model.specs.Resolving.{resolved}
use Rattle.pf_model.specs.Trees as tree
use Rattle.pf_model.specs.Trees.{Tree, Trees, height}
use Rattle.pf_model.specs.Typing.{admits, function_kind, joint_kind, kind_of, scalar_or_instant}
use Rattle.pf_resolve.specs.Bounds.{are_small, are_small_mods, is_small, is_small_at}
use Rattle.pf_resolve.specs.Settled.{is_settled}
use Rattle.pf_resolve.proofs.Kept.{same_evaluated, same_height, same_patterns, same_selectors}
use Rattle.pf_resolve.proofs.Settling.{settled}
use Rattle.pf_types.specs.declared.asking.When.{When}
use Rattle.pf_types.specs.declared.asking.When.TheVariants as when
use Rattle.pf_types.specs.Asking.{IsBound, IsPutIn, IsWhen, grid_in, is_instant}

both : (a b : Bool) → a ≡ true → b ≡ true → (a && b) ≡ true
both a b p q = λ i. p i && q i

either : (a b : Bool) (P : Type 0) → (a || b) ≡ true → (a ≡ true → P) → (b ≡ true → P) → P
either true b P h f g = f refl
either false b P h f g = g h

-- ---- the times of a query that is evaluated are small

small_at : (a : Option At) → is_time a ≡ true → is_small_at a ≡ true
small_at None h = refl
small_at (Some (at.Time millis)) h = h
small_at (Some at.Start) h = refl
small_at (Some at.End) h = refl

small_mods : (mods : Mods) → are_near mods ≡ true → are_small_mods mods ≡ true
small_mods mods h =
    both (is_small_at mods.at) (is_distance (unsigned_abs mods.offset))
    (small_at mods.at (first_so (is_time mods.at) (is_distance (unsigned_abs mods.offset)) h))
    (second_so (is_time mods.at) (is_distance (unsigned_abs mods.offset)) h)

near_resolution : (millis : ℕ) → is_resolution millis ≡ true → is_distance millis ≡ true
near_resolution zero h = refl
near_resolution (suc millis) h = h

string_small : (t : Tree) → is_string t ≡ true → is_small t ≡ true
string_small (tree.text bytes) h = refl
string_small _ h = cc

mutual
  pub evaluated_small : (t : Tree) → is_evaluated t ≡ true → is_small t ≡ true
  evaluated_small (tree.number v) h = refl
  evaluated_small (tree.text bytes) h = refl
  evaluated_small (tree.unary minus arg) h = evaluated_small arg h
  evaluated_small (tree.binary op m l r) h =
      let parts = second_so (list_all is_label_name m.include) (is_evaluated l && is_evaluated r) h in
      both (is_small l) (is_small r)
      (evaluated_small l (first_so (is_evaluated l) (is_evaluated r) parts))
      (evaluated_small r (second_so (is_evaluated l) (is_evaluated r) parts))
  evaluated_small (tree.call (called.Range f) args) h = range_argument_small args h
  evaluated_small (tree.call (called.Instant f) args) h = arguments_small args (second_so (is_lawful_call f args) (are_arguments args) h)
  evaluated_small (tree.aggregate op g args) h = all_small args h
  evaluated_small (tree.select ms None mods) h = small_mods mods h
  evaluated_small (tree.select ms (Some range) mods) h = cc
  evaluated_small (tree.subquery arg range resolution mods) h = cc

  all_small : (ts : Trees) → are_evaluated ts ≡ true → are_small ts ≡ true
  all_small tree.none h = refl
  all_small (tree.more t ts) h =
      both (is_small t) (are_small ts)
      (evaluated_small t (first_so (is_evaluated t) (are_evaluated ts) h))
      (all_small ts (second_so (is_evaluated t) (are_evaluated ts) h))

  arguments_small : (ts : Trees) → are_arguments ts ≡ true → are_small ts ≡ true
  arguments_small tree.none h = refl
  arguments_small (tree.more t ts) h =
      both (is_small t) (are_small ts)
      (either (is_string t) (is_evaluated t) (is_small t ≡ true) (first_so (is_string t || is_evaluated t) (are_arguments ts) h)
      (string_small t) (evaluated_small t))
      (arguments_small ts (second_so (is_string t || is_evaluated t) (are_arguments ts) h))

  range_argument_small : (ts : Trees) → is_range_argument ts ≡ true → are_small ts ≡ true
  range_argument_small tree.none h = refl
  range_argument_small (tree.more t tree.none) h = both (is_small t) true (range_small t h) refl
  range_argument_small (tree.more t (tree.more u us)) h = cc

  range_small : (t : Tree) → is_range t ≡ true → is_small t ≡ true
  range_small (tree.select ms (Some range) mods) h =
      let times = second_so (name_labels ms) (is_distance range && are_near mods) h in
      both (is_distance range) (are_small_mods mods)
      (first_so (is_distance range) (are_near mods) times)
      (small_mods mods (second_so (is_distance range) (are_near mods) times))
  range_small (tree.subquery arg range resolution mods) h =
      let step = resolution_or_minute resolution in
      let times = second_so (is_evaluated arg) (is_distance range && (is_resolution step && are_near mods)) h in
      let behind = second_so (is_distance range) (is_resolution step && are_near mods) times in
      both (is_small arg) (is_distance range && (is_distance step && are_small_mods mods))
      (evaluated_small arg (first_so (is_evaluated arg) (is_distance range && (is_resolution step && are_near mods)) h))
      (both (is_distance range) (is_distance step && are_small_mods mods)
      (first_so (is_distance range) (is_resolution step && are_near mods) times)
      (both (is_distance step) (are_small_mods mods)
      (near_resolution step (first_so (is_resolution step) (are_near mods) behind))
      (small_mods mods (second_so (is_resolution step) (are_near mods) behind))))
  range_small _ h = cc

-- ---- its kind

joint_wanted : (a b : Kind) → admits scalar_or_instant (joint_kind a b) ≡ true
joint_wanted Scalar Scalar = refl
joint_wanted _ _ = refl

call_wanted : (f : Function) → admits scalar_or_instant (function_kind f) ≡ true
call_wanted (called.Range f) = refl
call_wanted (called.Instant function.Scalar) = refl
call_wanted (called.Instant function.Time) = refl
call_wanted (called.Instant _) = refl

evaluated_wanted : (t : Tree) → is_evaluated t ≡ true → admits scalar_or_instant (kind_of t) ≡ true
evaluated_wanted (tree.number v) h = refl
evaluated_wanted (tree.text bytes) h = cc
evaluated_wanted (tree.unary minus arg) h = evaluated_wanted arg h
evaluated_wanted (tree.binary op m l r) h = joint_wanted (kind_of l) (kind_of r)
evaluated_wanted (tree.call f args) h = call_wanted f
evaluated_wanted (tree.aggregate op g args) h = refl
evaluated_wanted (tree.select ms None mods) h = refl
evaluated_wanted (tree.select ms (Some range) mods) h = cc
evaluated_wanted (tree.subquery arg range resolution mods) h = cc

same_kind : (start end : ℕ) (t : Tree) → kind_of (resolved start end t) ≡ kind_of t
same_kind start end (tree.number v) = refl
same_kind start end (tree.text bytes) = refl
same_kind start end (tree.unary minus arg) = same_kind start end arg
same_kind start end (tree.binary op m a b) = λ i. joint_kind (same_kind start end a i) (same_kind start end b i)
same_kind start end (tree.call f args) = refl
same_kind start end (tree.aggregate op g args) = refl
same_kind start end (tree.select ms None mods) = refl
same_kind start end (tree.select ms (Some range) mods) = refl
same_kind start end (tree.subquery arg range resolution mods) = refl

-- ---- bound, and put over a grid

pub is_bound : (t : Tree) (matchers : List (List Matcher)) (patterns : List (List ℕ)) (kind : Kind)
    → HasText t → is_evaluated t ≡ true → height t ≤ 64 → kind ≡ kind_of t → matchers ≡ selectors_of t → patterns ≡ patterns_of t → IsBindable t
    → IsBound t matchers patterns kind
is_bound t matchers patterns kind written evaluated low typed selectors replacements selects = record {
  written = written;
  evaluated = evaluated;
  low = low;
  small = evaluated_small t evaluated;
  typed = sym typed;
  wanted = ap (admits scalar_or_instant) typed ∙ evaluated_wanted t evaluated;
  selectors = selectors;
  replacements = replacements;
  selects = selects;
}

pub stays_evaluated : (start end : ℕ) (t put : Tree) → put ≡ resolved start end t → start ≤ 4398046511103 → end ≤ 4398046511103
    → is_evaluated put ≡ is_evaluated t
stays_evaluated start end t put is first last = ap is_evaluated is ∙ same_evaluated start end first last t

pub is_put_in : (start end : ℕ) (t put : Tree) (own matchers : List (List Matcher)) (written patterns : List (List ℕ)) (kind : Kind)
    → KeepTexts → start ≤ 4398046511103 → end ≤ 4398046511103 → IsBound t own written kind → put ≡ resolved start end t → is_evaluated put ≡ is_evaluated t → matchers ≡ own → patterns ≡ written
    → IsPutIn put matchers patterns kind
is_put_in start end t put own matchers written patterns kind law first last b is same m p = record {
  written = subst HasText (sym is) (law start end t first last b.written b.low);
  settled = ap is_settled is ∙ settled start end t;
  evaluated = same ∙ b.evaluated;
  low = subst (λ n. n ≤ 64) (sym (ap height is ∙ same_height start end t)) b.low;
  typed = ap kind_of is ∙ same_kind start end t ∙ b.typed;
  selectors = m ∙ b.selectors ∙ sym (ap selectors_of is ∙ same_selectors start end t);
  replacements = p ∙ b.replacements ∙ sym (ap patterns_of is ∙ same_patterns start end t);
}

steps : (w : When) → IsWhen w → is_instant w ≡ nat_eq (grid_in w).step 0
steps (when.Range grid) h = sym (no_step grid.step h) where
  no_step : (n : ℕ) → 0 < n → nat_eq n 0 ≡ false
  no_step n p = grind (arith, nat_tests)
steps (when.Instant grid) h = ap (λ n. nat_eq n 0) (sym h)

is_asked : (t : Tree) (matchers : List (List Matcher)) (patterns : List (List ℕ)) (kind : Kind) (w : When) (grid : GridData)
    (instant : Bool) (text : List ℕ) → IsPutIn t matchers patterns kind → IsWhen w → grid ≡ grid_in w → instant ≡ is_instant w → text ≡ canonical t
    → IsAsked (record { query = record { tree = t; grid = grid }; kind = kind; instant = instant; text = text }) matchers patterns
is_asked t matchers patterns kind w grid instant text p h g i c = record {
  written = p.written;
  settled = p.settled;
  evaluated = p.evaluated;
  low = p.low;
  small = evaluated_small t p.evaluated;
  kind = p.typed;
  wanted = ap (admits scalar_or_instant) (sym p.typed) ∙ evaluated_wanted t p.evaluated;
  text = c;
  selectors = p.selectors;
  replacements = p.replacements;
  instant = i ∙ steps w h ∙ ap (λ d. nat_eq d.step 0) (sym g);
}

-- the same of the tree that is shared
pub is_shared_asked : (u t : Tree) (matchers : List (List Matcher)) (patterns : List (List ℕ)) (kind : Kind) (w : When) (grid : GridData)
    (instant : Bool) (text : List ℕ) → u ≡ t → IsPutIn t matchers patterns kind → IsWhen w → grid ≡ grid_in w → instant ≡ is_instant w → text ≡ canonical t
    → IsAsked (record { query = record { tree = u; grid = grid }; kind = kind; instant = instant; text = text }) matchers patterns
is_shared_asked u t matchers patterns kind w grid instant text e p h g i c =
    subst (λ x. IsAsked (record { query = record { tree = x; grid = grid }; kind = kind; instant = instant; text = text }) matchers patterns) (sym e)
    (is_asked t matchers patterns kind w grid instant text p h g i c)

-- a text that is a query has its tree
pub query_has_text : (text : List ℕ) (t : Tree) → IsQuery text t → HasText t
query_has_text text t q =
    let i = q.parses.is_tree in
    (text, record { tokens = i.tokens; are_tokens = i.known.written.shallow.cut.are_tokens; times = i.times; derives = i.derives })
