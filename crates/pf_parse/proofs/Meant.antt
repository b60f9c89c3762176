-- A query whose called names are functions' and whose times are within the limit means a tree, and it is held where it is
-- not too tall.
use Rattle.std.proofs.Common.{◌≡◌, ◌∙◌, sym, refl, ap, subst, ℕ, zero, suc, ℤ, pos, negsuc, ◌+◌, ◌/◌, ◌≤◌, nat_abs, neg_ℤ, Bool, true, false, cond, List, [], ◌∷◌, ◌++◌, nat_le, nat_lt, Option, Some, None, IfSome, codes, arith, option_map}
use Rattle.std.proofs.lemmas.Bool.{le-leb, lt-leb, leb-true, leb-false}
use Rattle.std.proofs.lemmas.List.{append_assoc, append-nil}
use Rattle.std.specs.Option.{is_none, option_and_then}
use Rattle.pf_base.specs.Limits.{greatest_time}
use Rattle.pf_base.specs.NumberTexts as front
use Rattle.pf_model.specs.Clauses.{Matched}
use Rattle.pf_model.specs.declared.expr.At.TheVariants as at
use Rattle.pf_model.specs.declared.expr.BinaryOp.{BinaryOp}
use Rattle.pf_model.specs.declared.expr.Function.{Function}
use Rattle.pf_model.specs.declared.expr.Matcher.{Matcher}
use Rattle.pf_model.specs.declared.functions.AggOp.{AggOp}
use Rattle.pf_model.specs.Grammar.{Terminal, Written, Arguments, terminals_of, all_terminals, more_terminals, none, more, call, aggregate, unary, binary, select, subquery, brackets, meaning, meanings, both, operator_terminal, Modifiers, modifiers_terminals, Offset, offset_terminals, AtModifier, at_modifier_terminals, these, bool_terminals, keys_terminals, selected_terminals, range_terminals, before_terminals, behind_terminals, mods_of, at_of, millis_of, grouped_of, matched_of}
use Rattle.pf_model.specs.Grammar as grammar
use Rattle.pf_model.specs.Trees.{Tree, Trees, height, heights, trees_of}
use Rattle.pf_model.specs.Trees as tree
use Rattle.pf_model.specs.Words.{function_of}
use Rattle.pf_parse.specs.Held.{Held, low, held_unary, held_binary, held_call, held_aggregate, with_argument, held_target, mods_read, offset_of, with_mods, Target, selector, ranged, over, over_by}
use Rattle.pf_parse.specs.Held as held
use Rattle.pf_parse.specs.Lexemes.{within_limit}
use Rattle.pf_parse.specs.Reading.{time_at}
use Rattle.pf_parse.proofs.ReadOf.{read_of, arguments_of, selected_matchers, selected_target, subquery_target}
use Rattle.pf_parse.proofs.Scanned.{Scanned, passed, clean_onto, clean_none, clean_text, clean_before, clean_bool, clean_keys, clean_selected, clean_range, clean_resolution, clean_offsets, clean_moments, operator_not_at, sign_not_at, is_at}
use Rattle.pf_parse.proofs.Selecting.{read_modifiers, read_moment}

-- ---- trees that are too tall

low_true : (t : Tree) → nat_le (height t) 64 ≡ true → low t ≡ Some t
low_true t h = ap (λ b. cond b (Some t) None) h

low_false : (t : Tree) → nat_le (height t) 64 ≡ false → low t ≡ None
low_false t h = ap (λ b. cond b (Some t) None) h

above : (t u : Tree) → nat_le (height t) 64 ≡ false → height t ≤ height u → low u ≡ None
above t u h l = low_false u (lt-leb (height u) 64 (omega (arith, leb-false (height t) 64 h, l)))

unary_low : (m : Bool) (t : Tree) → held_unary m (low t) ≡ low (tree.unary m t)
unary_low m t = by_test (nat_le (height t) 64) refl
  where
    by_test : (b : Bool) → nat_le (height t) 64 ≡ b → held_unary m (low t) ≡ low (tree.unary m t)
    by_test true h = ap (held_unary m) (low_true t h)
    by_test false h = ap (held_unary m) (low_false t h) ∙ sym (above t (tree.unary m t) h (omega arith))

binary_low : (op : BinaryOp) (m : Matched) (s t : Tree) → held_binary op m (low s) (low t) ≡ low (tree.binary op m s t)
binary_low op m s t = by_left (nat_le (height s) 64) refl
  where
    by_right : (b : Bool) → nat_le (height t) 64 ≡ b → held_binary op m (Some s) (low t) ≡ low (tree.binary op m s t)
    by_right true h = ap (held_binary op m (Some s)) (low_true t h)
    by_right false h = ap (held_binary op m (Some s)) (low_false t h) ∙ sym (above t (tree.binary op m s t) h (omega arith))

    by_left : (b : Bool) → nat_le (height s) 64 ≡ b → held_binary op m (low s) (low t) ≡ low (tree.binary op m s t)
    by_left true h = ap (λ e. held_binary op m e (low t)) (low_true s h) ∙ by_right (nat_le (height t) 64) refl
    by_left false h =
        ap (λ e. held_binary op m e (low t)) (low_false s h) ∙ sym (above s (tree.binary op m s t) h (omega arith))

-- ---- times

in_time : (d : ℕ) → nat_lt greatest_time d ≡ false → within_limit d ≡ Some d
in_time d h = ap (λ b. cond b (Some d) None) (le-leb d greatest_time (omega (arith, leb-false (suc greatest_time) d h)))

abs_neg : (r : ℕ) → nat_abs (neg_ℤ (pos r)) ≡ r
abs_neg zero = refl
abs_neg (suc r) = refl

abs_millis : (s : front.Sign) (n : ℤ) → nat_abs (millis_of s n) ≡ nat_abs n / 1000
abs_millis front.bare (pos a) = refl
abs_millis front.bare (negsuc a) = abs_neg (suc a / 1000)
abs_millis front.plus (pos a) = refl
abs_millis front.plus (negsuc a) = abs_neg (suc a / 1000)
abs_millis front.minus (pos zero) = refl
abs_millis front.minus (pos (suc a)) = abs_neg (suc a / 1000)
abs_millis front.minus (negsuc a) = refl

moment_in_time : (s : front.Sign) (n : ℤ) → nat_lt greatest_time (nat_abs n / 1000) ≡ false → time_at s n ≡ Some (at.Time (nat_abs (millis_of s n)))
moment_in_time s n h =
    ap (option_map at.Time) (in_time (nat_abs (millis_of s n)) (ap (nat_lt greatest_time) (abs_millis s n) ∙ h))

record InTime (o : Option Offset) (m : Option AtModifier) : Type 0 where
  offset : IfSome o (λ x. within_limit x.millis ≡ Some x.millis)
  at : IfSome m (λ x. read_moment x ≡ Some (at_of x))

offset_in_time : (o : Offset) (zs : List Terminal) → Scanned (offset_terminals o ++ zs) → within_limit o.millis ≡ Some o.millis
offset_in_time o zs s = by_sign o.minus o.millis s
  where
    by_sign : (m : Bool) (d : ℕ) → Scanned (offset_terminals (record { minus = m; millis = d }) ++ zs) → within_limit d ≡ Some d
    by_sign true d s = in_time d s.timely.1.1.0
    by_sign false d s = in_time d s.timely.1.0

moment_at_time : (m : AtModifier) (zs : List Terminal) → Scanned (at_modifier_terminals m ++ zs) → read_moment m ≡ Some (at_of m)
moment_at_time (grammar.time front.bare n) zs s = moment_in_time front.bare n s.timely.1.0
moment_at_time (grammar.time front.plus n) zs s = moment_in_time front.plus n s.timely.1.1.0
moment_at_time (grammar.time front.minus n) zs s = moment_in_time front.minus n s.timely.1.1.0
moment_at_time grammar.start zs s = refl
moment_at_time grammar.end zs s = refl

offsets_in_time : (o : Option Offset) (zs : List Terminal) → Scanned (these offset_terminals o ++ zs) → IfSome o (λ x. within_limit x.millis ≡ Some x.millis)
offsets_in_time None zs s = tt
offsets_in_time (Some o) zs s = offset_in_time o zs s

moments_at_time : (m : Option AtModifier) (zs : List Terminal) → Scanned (these at_modifier_terminals m ++ zs) → IfSome m (λ x. read_moment x ≡ Some (at_of x))
moments_at_time None zs s = tt
moments_at_time (Some m) zs s = moment_at_time m zs s

rescanned : {xs ys : List Terminal} → xs ≡ ys → Scanned xs → Scanned ys
rescanned e s = subst Scanned e s

modifiers_in_time : (f : Bool) (o : Option Offset) (m : Option AtModifier) (zs : List Terminal)
    → Scanned (modifiers_terminals (record { offset = o; at = m; at_first = f }) ++ zs) → InTime o m
modifiers_in_time true o m zs s =
    let t = rescanned (append_assoc (these at_modifier_terminals m) (these offset_terminals o) zs) s in
    record {
      offset = offsets_in_time o zs (passed (these at_modifier_terminals m) (these offset_terminals o ++ zs) (clean_moments m) t);
      at = moments_at_time m (these offset_terminals o ++ zs) t;
    }
modifiers_in_time false o m zs s =
    let t = rescanned (append_assoc (these offset_terminals o) (these at_modifier_terminals m) zs) s in
    record {
      offset = offsets_in_time o (these at_modifier_terminals m ++ zs) t;
      at = moments_at_time m zs (passed (these offset_terminals o) (these at_modifier_terminals m ++ zs) (clean_offsets o) t);
    }

mods_same : (f : Bool) (o : Option Offset) (m : Option AtModifier) → InTime o m
    → mods_read (read_modifiers (record { offset = o; at = m; at_first = f })) ≡ Some (mods_of (record { offset = o; at = m; at_first = f }))
mods_same f None None t = refl
mods_same f (Some o) None t =
    ap (λ d. mods_read (record { offset = Some (offset_of o.minus d); at = None })) t.offset
mods_same f None (Some m) t = ap (λ a. mods_read (record { offset = None; at = Some a })) t.at
mods_same f (Some o) (Some m) t =
    ap (λ d. mods_read (record { offset = Some (offset_of o.minus d); at = Some (read_moment m) })) t.offset
    ∙ ap (λ a. mods_read (record { offset = Some (offset_of o.minus (Some o.millis)); at = Some a })) t.at

target_same : (m : Modifiers) (target : Option Target) (t : Target) → InTime m.offset m.at → target ≡ Some t
    → held_target target (read_modifiers m) ≡ with_mods (mods_of m) t
target_same m target t i h =
    ap (λ x. held_target x (read_modifiers m)) h
    ∙ ap (λ x. option_and_then (λ mods. option_and_then (with_mods mods) (Some t)) x) (mods_same m.at_first m.offset m.at i)

target_lost : (m : Modifiers) (target : Option Target) → InTime m.offset m.at → target ≡ None → held_target target (read_modifiers m) ≡ None
target_lost m target i h =
    ap (λ x. held_target x (read_modifiers m)) h
    ∙ ap (λ x. option_and_then (λ mods. option_and_then (with_mods mods) None) x) (mods_same m.at_first m.offset m.at i)

-- ---- what is meant is held

pub record Meant (e : Written) : Type 0 where
  pub tree : Tree
  pub means : meaning e ≡ Some tree
  pub held : read_of e ≡ low tree

abbrev list_of : Trees → List Tree
list_of tree.none = []
list_of (tree.more t ts) = t ∷ list_of ts

list_back : (ts : Trees) → trees_of (list_of ts) ≡ ts
list_back tree.none = refl
list_back (tree.more t ts) = ap (tree.more t) (list_back ts)

-- arguments that are low, behind others
abbrev low_list : List Tree → Trees → Option (List Tree)
low_list before ts = cond (nat_le (heights ts) 64) (Some (before ++ list_of ts)) None

record AllMeant (es : Arguments) : Type 0 where
  trees : Trees
  means : meanings es ≡ Some trees
  held : (before : List Tree) → arguments_of es (Some before) ≡ low_list before trees

lost_arguments : (es : Arguments) → arguments_of es None ≡ None
lost_arguments none = refl
lost_arguments (more e es) = lost_arguments es

more_low : (t : Tree) (ts : Trees) (es : Arguments) (before : List Tree)
    → ((xs : List Tree) → arguments_of es (Some xs) ≡ low_list xs ts)
    → arguments_of es (with_argument (Some before) (low t)) ≡ low_list before (tree.more t ts)
more_low t ts es before f = by_first (nat_le (height t) 64) refl
  where
    by_rest : (b : Bool) → nat_le (heights ts) 64 ≡ b → nat_le (height t) 64 ≡ true
        → low_list (before ++ (t ∷ [])) ts ≡ low_list before (tree.more t ts)
    by_rest true h g =
        ap (λ b. cond b (Some ((before ++ (t ∷ [])) ++ list_of ts)) None) h
        ∙ (ap Some (append_assoc before (t ∷ []) (list_of ts))
        ∙ sym (ap (λ b. cond b (Some (before ++ (t ∷ list_of ts))) None)
        (le-leb (heights (tree.more t ts)) 64 (omega (arith, leb-true (height t) 64 g, leb-true (heights ts) 64 h)))))
    by_rest false h g =
        ap (λ b. cond b (Some ((before ++ (t ∷ [])) ++ list_of ts)) None) h
        ∙ sym (ap (λ b. cond b (Some (before ++ (t ∷ list_of ts))) None)
        (lt-leb (heights (tree.more t ts)) 64 (omega (arith, leb-false (heights ts) 64 h))))

    by_first : (b : Bool) → nat_le (height t) 64 ≡ b
        → arguments_of es (with_argument (Some before) (low t)) ≡ low_list before (tree.more t ts)
    by_first true h =
        ap (λ x. arguments_of es (with_argument (Some before) x)) (low_true t h)
        ∙ (f (before ++ (t ∷ [])) ∙ by_rest (nat_le (heights ts) 64) refl h)
    by_first false h =
        ap (λ x. arguments_of es (with_argument (Some before) x)) (low_false t h)
        ∙ (lost_arguments es
        ∙ sym (ap (λ b. cond b (Some (before ++ (t ∷ list_of ts))) None)
        (lt-leb (heights (tree.more t ts)) 64 (omega (arith, leb-false (height t) 64 h)))))

-- a node over arguments
over_low : (make : Trees → Tree) → ((ts : Trees) → height (make ts) ≡ 1 + heights ts) → (ts : Trees)
    → option_and_then (λ xs. low (make (trees_of xs))) (low_list [] ts) ≡ low (make ts)
over_low make g ts = by_test (nat_le (heights ts) 64) refl
  where
    by_test : (b : Bool) → nat_le (heights ts) 64 ≡ b
        → option_and_then (λ xs. low (make (trees_of xs))) (low_list [] ts) ≡ low (make ts)
    by_test true h =
        ap (λ b. option_and_then (λ xs. low (make (trees_of xs))) (cond b (Some (list_of ts)) None)) h ∙ ap (λ xs. low (make xs)) (list_back ts)
    by_test false h =
        ap (λ b. option_and_then (λ xs. low (make (trees_of xs))) (cond b (Some (list_of ts)) None)) h
        ∙ sym (low_false (make ts) (lt-leb (height (make ts)) 64 (omega (arith, leb-false (heights ts) 64 h, g ts))))

call_meant : (n : List ℕ) (f : Function) (es : Arguments) → function_of n ≡ Some f → AllMeant es → Meant (call n es)
call_meant n f es h a =
    record {
      tree = tree.call f a.trees;
      means = ap (λ x. both tree.call x (meanings es)) h ∙ ap (both tree.call (Some f)) a.means;
      held = ap (λ x. held_call x (arguments_of es (Some []))) h
          ∙ (ap (held_call (Some f)) (a.held []) ∙ over_low (tree.call f) (λ ts. refl) a.trees);
    }

aggregate_meant : (op : AggOp) (c : grammar.Clause) (es : Arguments) → AllMeant es → Meant (aggregate op c es)
aggregate_meant op c es a =
    record {
      tree = tree.aggregate op (grouped_of c) a.trees;
      means = ap (option_map (tree.aggregate op (grouped_of c))) a.means;
      held = ap (held_aggregate op (grouped_of c)) (a.held []) ∙ over_low (tree.aggregate op (grouped_of c)) (λ ts. refl) a.trees;
    }

more_meant : (e : Written) (es : Arguments) → Meant e → AllMeant es → AllMeant (more e es)
more_meant e es m a =
    record {
      trees = tree.more m.tree a.trees;
      means = ap (λ x. both tree.more x (meanings es)) m.means ∙ ap (both tree.more (Some m.tree)) a.means;
      held = λ before. ap (λ x. arguments_of es (with_argument (Some before) x)) m.held ∙ more_low m.tree a.trees es before a.held;
    }

none_meant : AllMeant none
none_meant = record { trees = tree.none; means = refl; held = λ before. ap Some (sym (append-nil before)) }

subquery_held : (m : Modifiers) (t : Tree) (d : ℕ) (r : Option ℕ) (e : Held) → InTime m.offset m.at → within_limit d ≡ Some d
    → IfSome r (λ x. within_limit x ≡ Some x) → e ≡ low t
    → held_target (subquery_target e d r) (read_modifiers m) ≡ low (tree.subquery t d r (mods_of m))
subquery_held m t d r e i w v h = by_test (nat_le (height t) 64) refl
  where
    some_target : (r : Option ℕ) → IfSome r (λ x. within_limit x ≡ Some x) → subquery_target (Some t) d r ≡ Some (held.subquery t d r)
    some_target None v = ap (over (Some t)) w
    some_target (Some x) v = ap (λ y. over_by (Some t) (within_limit d) y) v ∙ ap (λ y. over_by (Some t) y (Some x)) w

    none_target : (r : Option ℕ) → subquery_target None d r ≡ None
    none_target None = refl
    none_target (Some x) = lost_by (within_limit x)
      where
        lost_by : (y : Option ℕ) → over_by None (within_limit d) y ≡ None
        lost_by None = refl
        lost_by (Some y) = refl

    by_test : (b : Bool) → nat_le (height t) 64 ≡ b
        → held_target (subquery_target e d r) (read_modifiers m) ≡ low (tree.subquery t d r (mods_of m))
    by_test true g =
        target_same m (subquery_target e d r) (held.subquery t d r) i
        (ap (λ x. subquery_target x d r) (h ∙ low_true t g) ∙ some_target r v)
    by_test false g =
        target_lost m (subquery_target e d r) i (ap (λ x. subquery_target x d r) (h ∙ low_false t g) ∙ none_target r)
        ∙ sym (above t (tree.subquery t d r (mods_of m)) g (omega arith))

select_held : (m : Modifiers) (ms : List Matcher) (r : Option ℕ) → InTime m.offset m.at → IfSome r (λ x. within_limit x ≡ Some x)
    → held_target (selected_target ms r) (read_modifiers m) ≡ low (tree.select ms r (mods_of m))
select_held m ms None i v = target_same m (selected_target ms None) (selector ms None) i refl
select_held m ms (Some d) i v = target_same m (selected_target ms (Some d)) (selector ms (Some d)) i (ap (ranged ms) v)

range_in_time : (r : Option ℕ) (zs : List Terminal) → Scanned (these range_terminals r ++ zs) → IfSome r (λ x. within_limit x ≡ Some x)
range_in_time None zs s = tt
range_in_time (Some d) zs s = in_time d s.timely.1.0

resolution_in_time : (r : Option ℕ) (zs : List Terminal) → Scanned (these (λ d. grammar.duration d ∷ []) r ++ zs) → IfSome r (λ x. within_limit x ≡ Some x)
resolution_in_time None zs s = tt
resolution_in_time (Some d) zs s = in_time d s.timely.0

known_function : (n : List ℕ) → is_none (function_of n) ≡ false → (f : Function) × (function_of n ≡ Some f)
known_function n h = found (function_of n) refl h
  where
    found : (o : Option Function) → function_of n ≡ o → is_none o ≡ false → (f : Function) × (function_of n ≡ Some f)
    found None e h = absurd (never h)
      where
        never : true ≡ false → ⊥
        never h = cc
    found (Some f) e h = (f, e)

behind_one : (x : Terminal) (xs : List Terminal) → is_at x ≡ false → Scanned (x ∷ xs) → Scanned xs
behind_one x xs h s = passed (x ∷ []) xs (clean_onto x [] h clean_none) s

abbrev close : List Terminal → List Terminal
close zs = grammar.sign (codes ")") ∷ zs

mutual
  pub meant : (e : Written) (zs : List Terminal) → Scanned (terminals_of e ++ zs) → Meant e
  meant (grammar.number n) zs s = record { tree = tree.number n; means = refl; held = refl }
  meant (grammar.text t) zs s = record { tree = tree.text t; means = refl; held = refl }
  meant (brackets e) zs s =
      let m = meant e (close zs) (rescanned (append_assoc (terminals_of e) (close []) zs) (behind_one _ _ refl s)) in
      record { tree = m.tree; means = m.means; held = m.held }
  meant (call n es) zs s =
      let f = known_function n s.known.0 in
      call_meant n f.0 es f.1
      (all_meant es (close zs) (rescanned (append_assoc (all_terminals es) (close []) zs) (behind_one _ _ refl (behind_one _ _ refl s))))
  meant (aggregate op c es) zs s =
      aggregate_meant op c es
      (all_meant es (close (behind_terminals c ++ zs)) (rescanned (append_assoc (all_terminals es) (close (behind_terminals c)) zs)
      (behind_one _ _ refl (passed (before_terminals c) _ (clean_before c)
      (rescanned (append_assoc (before_terminals c) (grammar.sign (codes "(") ∷ (all_terminals es ++ close (behind_terminals c))) zs)
      (behind_one _ _ refl s))))))
  meant (unary minus e) zs s =
      let m = meant e zs (behind_one _ _ (sign_not_at minus) s) in
      record {
        tree = tree.unary minus m.tree;
        means = ap (option_map (tree.unary minus)) m.means;
        held = ap (held_unary minus) m.held ∙ unary_low minus m.tree;
      }
  meant (binary op k a b) zs s =
      let w = rescanned (append_assoc (terminals_of a) (operator_terminal op ∷ (bool_terminals op.with_bool ++ (these keys_terminals k ++ terminals_of b))) zs) s in
      let m = meant a _ w in
      let v = behind_one _ _ (operator_not_at op) (passed (terminals_of a) _ (clean_text a) w) in
      let u = passed (bool_terminals op.with_bool) _ (clean_bool op.with_bool) (rescanned (append_assoc (bool_terminals op.with_bool) (these keys_terminals k ++ terminals_of b) zs) v) in
      let n = meant b zs (passed (these keys_terminals k) _ (clean_keys k) (rescanned (append_assoc (these keys_terminals k) (terminals_of b) zs) u)) in
      record {
        tree = tree.binary op (matched_of k) m.tree n.tree;
        means = ap (λ x. both (tree.binary op (matched_of k)) x (meaning b)) m.means
            ∙ ap (both (tree.binary op (matched_of k)) (Some m.tree)) n.means;
        held = ap (λ x. held_binary op (matched_of k) x (read_of b)) m.held
            ∙ (ap (held_binary op (matched_of k) (low m.tree)) n.held ∙ binary_low op (matched_of k) m.tree n.tree);
      }
  meant (select c r m) zs s =
      let u = passed (selected_terminals c) _ (clean_selected c.metric c.braces)
      (rescanned (append_assoc (selected_terminals c) (these range_terminals r ++ modifiers_terminals m) zs) s) in
      let v = rescanned (append_assoc (these range_terminals r) (modifiers_terminals m) zs) u in
      let i = modifiers_in_time m.at_first m.offset m.at zs (passed (these range_terminals r) _ (clean_range r) v) in
      record {
        tree = tree.select (selected_matchers c) r (mods_of m);
        means = refl;
        held = select_held m (selected_matchers c) r i (range_in_time r _ v);
      }
  meant (subquery e d r m) zs s =
      let w = rescanned (append_assoc (terminals_of e) _ zs) s in
      let n = meant e _ w in
      let u = behind_one _ _ refl (passed (terminals_of e) _ (clean_text e) w) in
      let v = rescanned (append_assoc (these (λ x. grammar.duration x ∷ []) r) (grammar.sign (codes "]") ∷ modifiers_terminals m) zs)
      (behind_one _ _ refl (behind_one _ _ refl u)) in
      let i = modifiers_in_time m.at_first m.offset m.at zs
      (behind_one _ _ refl (passed (these (λ x. grammar.duration x ∷ []) r) _ (clean_resolution r) v)) in
      record {
        tree = tree.subquery n.tree d r (mods_of m);
        means = ap (option_map (λ inner. tree.subquery inner d r (mods_of m))) n.means;
        held = subquery_held m n.tree d r (read_of e) i (in_time d u.timely.0) (resolution_in_time r _ v) n.held;
      }

  all_meant : (es : Arguments) (zs : List Terminal) → Scanned (all_terminals es ++ zs) → AllMeant es
  all_meant none zs s = none_meant
  all_meant (more e es) zs s =
      let w = rescanned (append_assoc (terminals_of e) (more_terminals es) zs) s in
      more_meant e es (meant e _ w) (rest_meant es zs (passed (terminals_of e) _ (clean_text e) w))

  rest_meant : (es : Arguments) (zs : List Terminal) → Scanned (more_terminals es ++ zs) → AllMeant es
  rest_meant none zs s = none_meant
  rest_meant (more e es) zs s =
      let w = rescanned (append_assoc (terminals_of e) (more_terminals es) zs) (behind_one _ _ refl s) in
      more_meant e es (meant e _ w) (rest_meant es zs (passed (terminals_of e) _ (clean_text e) w))
