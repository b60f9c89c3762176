-- What of a query stays where its range is put in: its height, its selectors, its patterns, and whether it is evaluated.
use Rattle.std.proofs.Common.{◌≡◌, ℕ, ◌+◌, ◌≤◌, max, true, ◌&&◌, ◌||◌, not, Option, Some, None, List, [], ◌∷◌, ◌++◌, append_assoc, refl, sym, ap, ◌∙◌, arith}
use Rattle.std.specs.Prelude.{unsigned_abs, is_none}
use Rattle.std.specs.List.{list_all}
use Rattle.std.proofs.lemmas.Bool.Decides.{nat_tests}
use Rattle.pf_base.specs.LabelSets.{is_label_name}
use Rattle.pf_model.specs.declared.expr.At.{At}
use Rattle.pf_model.specs.declared.expr.At.TheVariants as at
use Rattle.pf_model.specs.declared.expr.Function.{Function}
use Rattle.pf_model.specs.declared.expr.Function.TheVariants as called
use Rattle.pf_model.specs.declared.expr.Matcher.{Matcher}
use Rattle.pf_model.specs.declared.expr.Mods.{Mods}
use Rattle.pf_model.specs.declared.functions.InstantFn.TheVariants as function
use Rattle.pf_model.specs.Binding.{fifth_text, matchers_in, pattern_of, patterns_in, patterns_of, selectors_of}
use Rattle.pf_model.specs.declared.functions.InstantFn.{InstantFn}
use Rattle.pf_model.specs.Built.{are_arguments, are_evaluated, are_near, is_absent_call, is_distance, is_evaluated, is_joining, is_lawful_call, is_one, is_range, is_range_argument, is_replacing, is_resolution, is_string, is_time, name_labels}
use Rattle.pf_model.specs.Evaluation.{resolution_or_minute}
use Rattle.pf_model.specs.Resolving.{all_resolved, resolved, resolved_at, resolved_mods}
use Rattle.pf_model.specs.Trees as tree
use Rattle.pf_model.specs.Trees.{Tree, Trees, all_preorder, height, heights, preorder}

-- ---- the height

mutual
  pub same_height : (start end : ℕ) (t : Tree) → height (resolved start end t) ≡ height t
  same_height start end (tree.number v) = refl
  same_height start end (tree.text bytes) = refl
  same_height start end (tree.unary minus arg) = ap (λ n. 1 + n) (same_height start end arg)
  same_height start end (tree.binary op m a b) = λ i. 1 + max (same_height start end a i) (same_height start end b i)
  same_height start end (tree.call f args) = ap (λ n. 1 + n) (same_heights start end args)
  same_height start end (tree.aggregate op g args) = ap (λ n. 1 + n) (same_heights start end args)
  same_height start end (tree.select ms range mods) = refl
  same_height start end (tree.subquery arg range resolution mods) = ap (λ n. 1 + n) (same_height start end arg)

  same_heights : (start end : ℕ) (ts : Trees) → heights (all_resolved start end ts) ≡ heights ts
  same_heights start end tree.none = refl
  same_heights start end (tree.more t ts) = λ i. max (same_height start end t i) (same_heights start end ts i)

-- ---- the selectors

matchers_append : (xs ys : List Tree) → matchers_in (xs ++ ys) ≡ matchers_in xs ++ matchers_in ys
matchers_append [] ys = refl
matchers_append (tree.number v ∷ xs) ys = matchers_append xs ys
matchers_append (tree.text bytes ∷ xs) ys = matchers_append xs ys
matchers_append (tree.unary minus arg ∷ xs) ys = matchers_append xs ys
matchers_append (tree.binary op m a b ∷ xs) ys = matchers_append xs ys
matchers_append (tree.call f args ∷ xs) ys = matchers_append xs ys
matchers_append (tree.aggregate op g args ∷ xs) ys = matchers_append xs ys
matchers_append (tree.select ms range mods ∷ xs) ys = ap (λ (l : List (List Matcher)). ms ∷ l) (matchers_append xs ys)
matchers_append (tree.subquery arg range resolution mods ∷ xs) ys = matchers_append xs ys

mutual
  pub same_selectors : (start end : ℕ) (t : Tree) → selectors_of (resolved start end t) ≡ selectors_of t
  same_selectors start end (tree.number v) = refl
  same_selectors start end (tree.text bytes) = refl
  same_selectors start end (tree.unary minus arg) = same_selectors start end arg
  same_selectors start end (tree.binary op m a b) =
      matchers_append (preorder (resolved start end a)) (preorder (resolved start end b))
      ∙ (λ i. same_selectors start end a i ++ same_selectors start end b i)
      ∙ sym (matchers_append (preorder a) (preorder b))
  same_selectors start end (tree.call f args) = same_selectors_of_all start end args
  same_selectors start end (tree.aggregate op g args) = same_selectors_of_all start end args
  same_selectors start end (tree.select ms range mods) = refl
  same_selectors start end (tree.subquery arg range resolution mods) = same_selectors start end arg

  same_selectors_of_all : (start end : ℕ) (ts : Trees) → matchers_in (all_preorder (all_resolved start end ts)) ≡ matchers_in (all_preorder ts)
  same_selectors_of_all start end tree.none = refl
  same_selectors_of_all start end (tree.more t ts) =
      matchers_append (preorder (resolved start end t)) (all_preorder (all_resolved start end ts))
      ∙ (λ i. same_selectors start end t i ++ same_selectors_of_all start end ts i)
      ∙ sym (matchers_append (preorder t) (all_preorder ts))

-- ---- the patterns

patterns_append : (xs ys : List Tree) → patterns_in (xs ++ ys) ≡ patterns_in xs ++ patterns_in ys
patterns_append [] ys = refl
patterns_append (tree.number v ∷ xs) ys = patterns_append xs ys
patterns_append (tree.text bytes ∷ xs) ys = patterns_append xs ys
patterns_append (tree.unary minus arg ∷ xs) ys = patterns_append xs ys
patterns_append (tree.binary op m a b ∷ xs) ys = patterns_append xs ys
patterns_append (tree.call f args ∷ xs) ys =
    ap (λ (l : List (List ℕ)). pattern_of f args ++ l) (patterns_append xs ys)
    ∙ sym (append_assoc (pattern_of f args) (patterns_in xs) (patterns_in ys))
patterns_append (tree.aggregate op g args ∷ xs) ys = patterns_append xs ys
patterns_append (tree.select ms range mods ∷ xs) ys = patterns_append xs ys
patterns_append (tree.subquery arg range resolution mods ∷ xs) ys = patterns_append xs ys

same_fifth : (start end : ℕ) (ts : Trees) → fifth_text (all_resolved start end ts) ≡ fifth_text ts
same_fifth start end tree.none = refl
same_fifth start end (tree.more a tree.none) = refl
same_fifth start end (tree.more a (tree.more b tree.none)) = refl
same_fifth start end (tree.more a (tree.more b (tree.more c tree.none))) = refl
same_fifth start end (tree.more a (tree.more b (tree.more c (tree.more d tree.none)))) = refl
same_fifth start end (tree.more a (tree.more b (tree.more c (tree.more d (tree.more (tree.number v) ts))))) = refl
same_fifth start end (tree.more a (tree.more b (tree.more c (tree.more d (tree.more (tree.text bytes) ts))))) = refl
same_fifth start end (tree.more a (tree.more b (tree.more c (tree.more d (tree.more (tree.unary minus arg) ts))))) = refl
same_fifth start end (tree.more a (tree.more b (tree.more c (tree.more d (tree.more (tree.binary op m x y) ts))))) = refl
same_fifth start end (tree.more a (tree.more b (tree.more c (tree.more d (tree.more (tree.call f args) ts))))) = refl
same_fifth start end (tree.more a (tree.more b (tree.more c (tree.more d (tree.more (tree.aggregate op g args) ts))))) = refl
same_fifth start end (tree.more a (tree.more b (tree.more c (tree.more d (tree.more (tree.select ms range mods) ts))))) = refl
same_fifth start end (tree.more a (tree.more b (tree.more c (tree.more d (tree.more (tree.subquery arg range resolution mods) ts))))) = refl

same_pattern : (start end : ℕ) (f : Function) (args : Trees) → pattern_of f (all_resolved start end args) ≡ pattern_of f args
same_pattern start end (called.Range f) args = refl
same_pattern start end (called.Instant function.LabelReplace) args = same_fifth start end args
same_pattern start end (called.Instant _) args = refl

mutual
  pub same_patterns : (start end : ℕ) (t : Tree) → patterns_of (resolved start end t) ≡ patterns_of t
  same_patterns start end (tree.number v) = refl
  same_patterns start end (tree.text bytes) = refl
  same_patterns start end (tree.unary minus arg) = same_patterns start end arg
  same_patterns start end (tree.binary op m a b) =
      patterns_append (preorder (resolved start end a)) (preorder (resolved start end b))
      ∙ (λ i. same_patterns start end a i ++ same_patterns start end b i)
      ∙ sym (patterns_append (preorder a) (preorder b))
  same_patterns start end (tree.call f args) = λ i. same_pattern start end f args i ++ same_patterns_of_all start end args i
  same_patterns start end (tree.aggregate op g args) = same_patterns_of_all start end args
  same_patterns start end (tree.select ms range mods) = refl
  same_patterns start end (tree.subquery arg range resolution mods) = same_patterns start end arg

  same_patterns_of_all : (start end : ℕ) (ts : Trees) → patterns_in (all_preorder (all_resolved start end ts)) ≡ patterns_in (all_preorder ts)
  same_patterns_of_all start end tree.none = refl
  same_patterns_of_all start end (tree.more t ts) =
      patterns_append (preorder (resolved start end t)) (all_preorder (all_resolved start end ts))
      ∙ (λ i. same_patterns start end t i ++ same_patterns_of_all start end ts i)
      ∙ sym (patterns_append (preorder t) (all_preorder ts))

-- ---- whether it is evaluated

same_string : (start end : ℕ) (t : Tree) → is_string (resolved start end t) ≡ is_string t
same_string start end (tree.text bytes) = refl
same_string start end _ = refl

same_replacing : (start end : ℕ) (ts : Trees) → is_replacing (all_resolved start end ts) ≡ is_replacing ts
same_replacing start end (tree.more t (tree.more (tree.text a) (tree.more (tree.text b) (tree.more (tree.text c) (tree.more (tree.text d) tree.none))))) =
    ap (λ s. not s && is_label_name a) (same_string start end t)
same_replacing start end _ = refl

same_joining : (start end : ℕ) (ts : Trees) → is_joining (all_resolved start end ts) ≡ is_joining ts
same_joining start end (tree.more t (tree.more (tree.text a) ts)) = ap (λ s. not s && is_label_name a) (same_string start end t)
same_joining start end _ = refl

same_absent_call : (start end : ℕ) (ts : Trees) → is_absent_call (all_resolved start end ts) ≡ is_absent_call ts
same_absent_call start end (tree.more (tree.select ms range mods) ts) = refl
same_absent_call start end _ = refl

same_one : (start end : ℕ) (ts : Trees) → is_one (all_resolved start end ts) ≡ is_one ts
same_one start end tree.none = refl
same_one start end (tree.more t tree.none) = refl
same_one start end (tree.more t (tree.more u us)) = refl

same_lawful_call : (start end : ℕ) (f : InstantFn) (ts : Trees) → is_lawful_call f (all_resolved start end ts) ≡ is_lawful_call f ts
same_lawful_call start end function.LabelReplace ts = same_replacing start end ts
same_lawful_call start end function.LabelJoin ts = same_joining start end ts
same_lawful_call start end function.Absent ts = same_absent_call start end ts
same_lawful_call start end function.Timestamp ts = same_one start end ts
same_lawful_call start end _ ts = refl

distance_is : (n : ℕ) → n ≤ 4398046511103 → is_distance n ≡ true
distance_is n h = grind (arith, nat_tests)

module _ (start end : ℕ) (first : start ≤ 4398046511103) (last : end ≤ 4398046511103) where
  same_time : (a : Option At) → is_time (resolved_at start end a) ≡ is_time a
  same_time None = refl
  same_time (Some (at.Time millis)) = refl
  same_time (Some at.Start) = distance_is start first
  same_time (Some at.End) = distance_is end last

  same_near : (mods : Mods) → are_near (resolved_mods start end mods) ≡ are_near mods
  same_near mods = ap (λ b. b && is_distance (unsigned_abs mods.offset)) (same_time mods.at)

  mutual
    pub same_evaluated : (t : Tree) → is_evaluated (resolved start end t) ≡ is_evaluated t
    same_evaluated (tree.number v) = refl
    same_evaluated (tree.text bytes) = refl
    same_evaluated (tree.unary minus arg) = same_evaluated arg
    same_evaluated (tree.binary op m a b) = λ i. list_all is_label_name m.include && (same_evaluated a i && same_evaluated b i)
    same_evaluated (tree.call (called.Range f) args) = same_range_argument args
    same_evaluated (tree.call (called.Instant f) args) = λ i. same_lawful_call start end f args i && same_arguments args i
    same_evaluated (tree.aggregate op g args) = all_same_evaluated args
    same_evaluated (tree.select ms range mods) = ap (λ b. is_none range && b) (same_near mods)
    same_evaluated (tree.subquery arg range resolution mods) = refl

    all_same_evaluated : (ts : Trees) → are_evaluated (all_resolved start end ts) ≡ are_evaluated ts
    all_same_evaluated tree.none = refl
    all_same_evaluated (tree.more t ts) = λ i. same_evaluated t i && all_same_evaluated ts i

    same_arguments : (ts : Trees) → are_arguments (all_resolved start end ts) ≡ are_arguments ts
    same_arguments tree.none = refl
    same_arguments (tree.more t ts) = λ i. (same_string start end t i || same_evaluated t i) && same_arguments ts i

    same_range_argument : (ts : Trees) → is_range_argument (all_resolved start end ts) ≡ is_range_argument ts
    same_range_argument tree.none = refl
    same_range_argument (tree.more t tree.none) = same_range t
    same_range_argument (tree.more t (tree.more u us)) = refl

    same_range : (t : Tree) → is_range (resolved start end t) ≡ is_range t
    same_range (tree.select ms (Some range) mods) = ap (λ b. name_labels ms && (is_distance range && b)) (same_near mods)
    same_range (tree.subquery arg range resolution mods) =
        λ i. same_evaluated arg i && (is_distance range && (is_resolution (resolution_or_minute resolution) && same_near mods i))
    same_range _ = refl
