-- What the parts of a query are given.
use Rattle.std.proofs.Common.{◌≡◌, ◌≤◌, ◌+◌, max, ℕ, suc, ℤ, pos, true, false, Bool, ◌&&◌, List, [], ◌∷◌, ◌++◌, length, map, refl, sym, ap, ◌∙◌, subst, append_assoc, arith}
use Rattle.std.specs.Prelude.{◌||◌, Option}
use Rattle.std.proofs.lemmas.Int.{ints}
use Rattle.std.specs.List.{All, list_any}
use Rattle.std.specs.Str.{bytes_eq}
use Rattle.pf_base.specs.LabelSets.{Pairs}
use Rattle.pf_model.specs.declared.expr.BinaryOp.{BinaryOp}
use Rattle.pf_model.specs.declared.expr.Expr.{Expr}
use Rattle.pf_model.specs.declared.expr.Function.{Function}
use Rattle.pf_model.specs.declared.expr.Function.TheVariants as called
use Rattle.pf_model.specs.declared.expr.Mods.{Mods}
use Rattle.pf_model.specs.declared.functions.AggOp.{AggOp}
use Rattle.pf_model.specs.declared.functions.InstantFn.{InstantFn}
use Rattle.pf_model.specs.declared.functions.RangeFn.{RangeFn}
use Rattle.pf_model.specs.Binding.{bound_series, pattern_of, patterns_in, patterns_of}
use Rattle.pf_model.specs.Built.{are_arguments, are_evaluated, are_near, is_distance, is_evaluated, is_lawful_call, is_range, is_range_argument, is_resolution, is_string}
use Rattle.pf_model.specs.Clauses.{Grouped, Matched}
use Rattle.pf_model.specs.Evaluation.{resolution_or_minute}
use Rattle.pf_model.specs.Trees as tree
use Rattle.pf_model.specs.Trees.{Tree, Trees, all_preorder, height, heights, preorder, tree_of, trees_of}
use Rattle.pf_selectors.specs.declared.times.Times.{Times}
use Rattle.pf_range.specs.Windows.{IsTime}
use Rattle.pf_selectors.specs.Times.{AreTimes, time_at}
use Rattle.pf_eval.specs.Bound.{AreGiven, AreThere, Begins, HasLevels, HasRoom, IsGiven, all_series_in, behind, series_in}
use Rattle.pf_eval.proofs.BoundLists.{begins_all, begins_left, begins_right, behind_both, bound_is, two_true}

-- ---- room

less : (m n : ℕ) (t : ℤ) → m ≤ n → HasLevels n t → HasLevels m t
less m n t l h = omega (arith, l, h)

pub room_within : (m n : ℕ) (times : Times) → m ≤ n → HasRoom n times → HasRoom m times
room_within m n times l h = record {
  fixed = less m n (pos 4398046511103) l h.fixed;
  start = less m n times.start l h.start;
  all = λ k b. less m n (time_at times k) l (h.all k b);
}

pub some_height : (t : Tree) → 1 ≤ height t
some_height (tree.number v) = omega arith
some_height (tree.text bytes) = omega arith
some_height (tree.unary minus arg) = omega arith
some_height (tree.binary op m a b) = omega arith
some_height (tree.call f args) = omega arith
some_height (tree.aggregate op g args) = omega arith
some_height (tree.select ms range mods) = omega arith
some_height (tree.subquery arg range resolution mods) = omega arith

pub room_one : (t : Tree) (times : Times) → HasRoom (height t) times → HasRoom 1 times
room_one t times h = room_within 1 (height t) times (some_height t) h

is_time : (n : ℕ) (t : ℤ) → HasLevels n t → IsTime t
is_time n t h = (omega (arith, ints, h), omega (arith, ints, h))

pub are_times : (n : ℕ) (times : Times) → HasRoom n times → AreTimes times
are_times n times h = λ k l. is_time n (time_at times k) (h.all k l)

-- ---- patterns

pub there_left : (xs ys ps : List (List ℕ)) → AreThere (xs ++ ys) ps → AreThere xs ps
there_left [] ys ps h = tt
there_left (x ∷ xs) ys ps h = (h.0, there_left xs ys ps h.1)

pub there_right : (xs ys ps : List (List ℕ)) → AreThere (xs ++ ys) ps → AreThere ys ps
there_right [] ys ps h = h
there_right (x ∷ xs) ys ps h = there_right xs ys ps h.1

patterns_append : (xs ys : List Tree) → patterns_in (xs ++ ys) ≡ patterns_in xs ++ patterns_in ys
patterns_append [] ys = refl
patterns_append (tree.number v ∷ xs) ys = patterns_append xs ys
patterns_append (tree.text bytes ∷ xs) ys = patterns_append xs ys
patterns_append (tree.unary minus arg ∷ xs) ys = patterns_append xs ys
patterns_append (tree.binary op m a b ∷ xs) ys = patterns_append xs ys
patterns_append (tree.call f args ∷ xs) ys =
    ap (λ zs. pattern_of f args ++ zs) (patterns_append xs ys) ∙ sym (append_assoc (pattern_of f args) (patterns_in xs) (patterns_in ys))
patterns_append (tree.aggregate op g args ∷ xs) ys = patterns_append xs ys
patterns_append (tree.select ms range mods ∷ xs) ys = patterns_append xs ys
patterns_append (tree.subquery arg range resolution mods ∷ xs) ys = patterns_append xs ys

module _ (xs ys : List Tree) (ps : List (List ℕ)) (h : AreThere (patterns_in (xs ++ ys)) ps) where
  both_there : AreThere (patterns_in xs ++ patterns_in ys) ps
  both_there = subst (λ ts. AreThere ts ps) (patterns_append xs ys) h

  pub first_there : AreThere (patterns_in xs) ps
  first_there = there_left (patterns_in xs) (patterns_in ys) ps both_there

  pub second_there : AreThere (patterns_in ys) ps
  second_there = there_right (patterns_in xs) (patterns_in ys) ps both_there

pub all_there : (ts ps : List (List ℕ)) → All (λ text. list_any (λ p. bytes_eq p text) ps ≡ true) ts → AreThere ts ps
all_there [] ps h = tt
all_there (t ∷ ts) ps h = (h 0 t (omega arith), all_there ts ps (λ k d l. h (suc k) d (omega (arith, l))))

-- ---- the parts of each node

module _ (ls : List Pairs) (lists : List (List ℕ)) where
  pub behind_range : (t : Tree) (f : RangeFn) (a : Tree) (last : List (List ℕ)) → t ≡ tree.call (called.Range f) (tree.more a tree.none)
      → last ≡ behind (series_in a ls) lists → last ≡ behind (series_in t ls) lists
  behind_range t f a last is l =
      l ∙ sym (behind_both (series_in a ls) [] lists) ∙ ap (λ x. behind (series_in x ls) lists) (sym is)

  pub behind_inner : (t a : Tree) (range : ℕ) (resolution : Option ℕ) (mods : Mods) (last : List (List ℕ)) → t ≡ tree.subquery a range resolution mods
      → last ≡ behind (series_in a ls) lists → last ≡ behind (series_in t ls) lists
  behind_inner t a range resolution mods last is l = l ∙ ap (λ x. behind (series_in x ls) lists) (sym is)

module _ (ls : List Pairs) (lists ps : List (List ℕ)) (times : Times) where
  abbrev Given : Tree → Type 0
  Given t = IsGiven t ls lists ps times

  abbrev AllGiven : Trees → Type 0
  AllGiven ts = AreGiven ts ls lists ps times

  pub operand_given : (t : Tree) (minus : Bool) (a : Tree) → t ≡ tree.unary minus a → Given t → Given a
  operand_given t minus a is h =
      let g : Given (tree.unary minus a) = subst Given is h in
      record { bound = g.bound; patterns = g.patterns; room = room_within (height a) (1 + height a) times (omega arith) g.room }

  pub left_given : (t : Tree) (op : BinaryOp) (m : Matched) (a b : Tree) → t ≡ tree.binary op m a b → Given t → Given a
  left_given t op m a b is h =
      let g : Given (tree.binary op m a b) = subst Given is h in
      record {
        bound = begins_left (series_in a ls) (series_in b ls) lists g.bound;
        patterns = first_there (preorder a) (preorder b) ps g.patterns;
        room = room_within (height a) (1 + max (height a) (height b)) times (omega arith) g.room;
      }

  pub right_given : (t : Tree) (op : BinaryOp) (m : Matched) (a b : Tree) (rest : List (List ℕ)) → t ≡ tree.binary op m a b
      → rest ≡ behind (series_in a ls) lists → Given t → IsGiven b ls rest ps times
  right_given t op m a b rest is r h =
      let g : Given (tree.binary op m a b) = subst Given is h in
      record {
        bound = subst (Begins (series_in b ls)) (sym r) (begins_right (series_in a ls) (series_in b ls) lists g.bound);
        patterns = second_there (preorder a) (preorder b) ps g.patterns;
        room = room_within (height b) (1 + max (height a) (height b)) times (omega arith) g.room;
      }

  pub aggregated_given : (t : Tree) (op : AggOp) (g : Grouped) (ts : Trees) → t ≡ tree.aggregate op g ts → Given t → AllGiven ts
  aggregated_given t op group ts is h =
      let g : Given (tree.aggregate op group ts) = subst Given is h in
      record { bound = g.bound; patterns = g.patterns; room = room_within (heights ts) (1 + heights ts) times (omega arith) g.room }

  pub called_given : (t : Tree) (f : Function) (ts : Trees) → t ≡ tree.call f ts → Given t → AllGiven ts
  called_given t f ts is h =
      let g : Given (tree.call f ts) = subst Given is h in
      record {
        bound = g.bound;
        patterns = there_right (pattern_of f ts) (patterns_in (all_preorder ts)) ps g.patterns;
        room = room_within (heights ts) (1 + heights ts) times (omega arith) g.room;
      }

  pub called_there : (t : Tree) (f : Function) (ts : Trees) → t ≡ tree.call f ts → Given t → AreThere (pattern_of f ts) ps
  called_there t f ts is h =
      let g : Given (tree.call f ts) = subst Given is h in
      there_left (pattern_of f ts) (patterns_in (all_preorder ts)) ps g.patterns

  pub range_given : (t : Tree) (f : RangeFn) (a : Tree) → t ≡ tree.call (called.Range f) (tree.more a tree.none) → Given t → Given a
  range_given t f a is h =
      let g : Given (tree.call (called.Range f) (tree.more a tree.none)) = subst Given is h in
      record {
        bound = begins_left (series_in a ls) [] lists g.bound;
        patterns = first_there (preorder a) [] ps g.patterns;
        room = room_within (height a) (1 + max (height a) 0) times (omega arith) g.room;
      }

  pub inner_given : (t a : Tree) (range : ℕ) (resolution : Option ℕ) (mods : Mods) (at : Times) → t ≡ tree.subquery a range resolution mods
      → ((levels : ℕ) → HasRoom (1 + levels) times → HasRoom levels at) → Given t → IsGiven a ls lists ps at
  inner_given t a range resolution mods at is r h =
      let g : Given (tree.subquery a range resolution mods) = subst Given is h in
      record { bound = g.bound; patterns = g.patterns; room = r (height a) g.room }

  pub root_given : (t : Tree) → height t ≤ 64 → lists ≡ bound_series t ls → All (λ text. list_any (λ p. bytes_eq p text) ps ≡ true) (patterns_of t)
      → HasRoom 64 times → Given t
  root_given t h b p r = record {
    bound = subst (Begins (series_in t ls)) (sym (b ∙ bound_is ls t)) (begins_all (series_in t ls));
    patterns = all_there (patterns_of t) ps p;
    room = room_within (height t) 64 times h r;
  }

  -- ---- arguments one after another

  module _ (ts rest : Trees) (a : Tree) (is : ts ≡ tree.more a rest) (h : AllGiven ts) where
    all_given : AllGiven (tree.more a rest)
    all_given = subst AllGiven is h

    pub first_given : Given a
    first_given = record {
      bound = begins_left (series_in a ls) (all_series_in rest ls) lists all_given.bound;
      patterns = first_there (preorder a) (all_preorder rest) ps all_given.patterns;
      room = room_within (height a) (max (height a) (heights rest)) times (omega arith) all_given.room;
    }

    pub rest_given : (left : List (List ℕ)) → left ≡ behind (series_in a ls) lists → AreGiven rest ls left ps times
    rest_given left r = record {
      bound = subst (Begins (all_series_in rest ls)) (sym r) (begins_right (series_in a ls) (all_series_in rest ls) lists all_given.bound);
      patterns = second_there (preorder a) (all_preorder rest) ps all_given.patterns;
      room = room_within (heights rest) (max (height a) (heights rest)) times (omega arith) all_given.room;
    }

-- ---- what is evaluated

or_right : (a b : Bool) → b ≡ true → (a || b) ≡ true
or_right true b h = refl
or_right false b h = h

pub evaluated_arguments : (ts : Trees) → are_evaluated ts ≡ true → are_arguments ts ≡ true
evaluated_arguments tree.none h = refl
evaluated_arguments (tree.more a ts) h =
    let w = two_true (is_evaluated a) (are_evaluated ts) h in
    λ i. or_right (is_string a) (is_evaluated a) w.0 i && evaluated_arguments ts w.1 i

pub aggregated_evaluated : (t : Tree) (op : AggOp) (g : Grouped) (ts : Trees) → t ≡ tree.aggregate op g ts → is_evaluated t ≡ true → are_arguments ts ≡ true
aggregated_evaluated t op g ts is h = evaluated_arguments ts (ap is_evaluated (sym is) ∙ h)

pub called_lawful : (t : Tree) (f : InstantFn) (ts : Trees) → t ≡ tree.call (called.Instant f) ts → is_evaluated t ≡ true → is_lawful_call f ts ≡ true
called_lawful t f ts is h = (two_true (is_lawful_call f ts) (are_arguments ts) (ap is_evaluated (sym is) ∙ h)).0

pub called_evaluated : (t : Tree) (f : InstantFn) (ts : Trees) → t ≡ tree.call (called.Instant f) ts → is_evaluated t ≡ true → are_arguments ts ≡ true
called_evaluated t f ts is h = (two_true (is_lawful_call f ts) (are_arguments ts) (ap is_evaluated (sym is) ∙ h)).1

one_ranged : (es : List Expr) → is_range_argument (trees_of (map tree_of es)) ≡ true → length es ≡ 1
one_ranged [] h = cc
one_ranged (x ∷ []) h = refl
one_ranged (x ∷ y ∷ es) h = cc

pub range_one : (t : Tree) (f : RangeFn) (es : List Expr) → t ≡ tree.call (called.Range f) (trees_of (map tree_of es)) → is_evaluated t ≡ true → length es ≡ 1
range_one t f es is h = one_ranged es (ap is_evaluated (sym is) ∙ h)

pub range_evaluated : (t : Tree) (f : RangeFn) (a : Tree) → t ≡ tree.call (called.Range f) (tree.more a tree.none) → is_evaluated t ≡ true → is_range a ≡ true
range_evaluated t f a is h = ap is_evaluated (sym is) ∙ h

either_true : (a b : Bool) → a ≡ false → (a || b) ≡ true → b ≡ true
either_true false b e h = h
either_true true b e h = cc

pub argument_evaluated : (ts rest : Trees) (a : Tree) → ts ≡ tree.more a rest → is_string a ≡ false → are_arguments ts ≡ true → is_evaluated a ≡ true
argument_evaluated ts rest a is s h =
    either_true (is_string a) (is_evaluated a) s (two_true (is_string a || is_evaluated a) (are_arguments rest) (ap are_arguments (sym is) ∙ h)).0

pub arguments_evaluated : (ts rest : Trees) (a : Tree) → ts ≡ tree.more a rest → are_arguments ts ≡ true → are_arguments rest ≡ true
arguments_evaluated ts rest a is h = (two_true (is_string a || is_evaluated a) (are_arguments rest) (ap are_arguments (sym is) ∙ h)).1

-- ---- a subquery

module _ (t a : Tree) (range : ℕ) (resolution : Option ℕ) (mods : Mods) (is : t ≡ tree.subquery a range resolution mods) (h : is_range t ≡ true) where
  abbrev every : ℕ
  every = resolution_or_minute resolution

  parts : (is_evaluated a ≡ true) × ((is_distance range && (is_resolution every && are_near mods)) ≡ true)
  parts = two_true (is_evaluated a) (is_distance range && (is_resolution every && are_near mods)) (ap is_range (sym is) ∙ h)

  ends : (is_distance range ≡ true) × ((is_resolution every && are_near mods) ≡ true)
  ends = two_true (is_distance range) (is_resolution every && are_near mods) parts.1

  pub inner_evaluated : is_evaluated a ≡ true
  inner_evaluated = parts.0

  pub inner_distance : is_distance range ≡ true
  inner_distance = ends.0

  pub inner_resolution : is_resolution every ≡ true
  inner_resolution = (two_true (is_resolution every) (are_near mods) ends.1).0

  pub inner_near : are_near mods ≡ true
  inner_near = (two_true (is_resolution every) (are_near mods) ends.1).1
