-- A tree that a text derives can be printed.
use Rattle.std.proofs.Common.{inl, inr, ◌≡◌, ◌∙◌, ℕ, ℤ, pos, negsuc, zero, suc, ◌/◌, ◌≤◌, Bool, true, false, not, ◌&&◌, Option, Some, None, List, [], ◌∷◌, ◌++◌, cond, refl, sym, ap, subst, arith, codes}
use Rattle.std.specs.Prelude.{map, nat_abs, nat_lt, neg_ℤ, int_div, option_map, IfSome}
use Rattle.std.specs.List.{list_all}
use Rattle.std.proofs.lemmas.Bool.{and_from, not_from_false}
use Rattle.std.proofs.lemmas.Bool.Decides.{nat_tests}
use Rattle.std.proofs.lemmas.Int.{ints}
use Rattle.pf_base.specs.NumberTexts as front
use Rattle.pf_base.proofs.Readings.{bool_cases}
use Rattle.pf_model.specs.declared.expr.Matcher.{Matcher}
use Rattle.pf_model.specs.Grammar as g
use Rattle.pf_model.specs.Grammar.{Arguments, Braces, Clause, FitAll, Fits, Group, Keys, Labels, Modifiers, AtModifier, Offset, Terminal, Written, both, braces_matchers, braces_terminals, commas_before, comma_if, group_terminals, grouped_of, has_colon, include_of, keys_terminals, labels_of, labels_terminals, listed, matched_of, matcher_terminals, meaning, meanings, metric_matcher, millis_of, minus_if, mods_of, modifiers_terminals, at_of, at_modifier_terminals, more_terminals, offset_of, offset_terminals, operator_terminal, range_terminals, bool_terminals, selected_terminals, terminals_of, all_terminals, these, without_terminals, before_terminals, behind_terminals}
use Rattle.pf_model.specs.Parsing.{is_behind_at, is_too_large, sorts, too_large_at}
use Rattle.pf_model.specs.Tokens.{Sort, Token, duration, number, sign, string, word}
use Rattle.pf_model.specs.Trees as tree
use Rattle.pf_model.specs.Trees.{Tree, Trees}
use Rattle.pf_model.specs.Words.{function_of}
use Rattle.pf_lex.specs.CanonicalTokens.{AreMods, ArePrintable, AreWords, CanBePrinted, HaveWords, IsAmount, IsLawfulSort, IsMoment, IsOffset, IsPrintable, IsTime, is_label, is_plain_word}
use Rattle.pf_lex.proofs.LawfulTokens.{AllLawful, tokens_lawful}
use Rattle.pf_model.proofs.LongestToken.{some_is}

-- ---- tokens that are lawful and not too late

abbrev Sound : Bool → List Sort → Type 0
Sound f [] = Unit {0}
Sound f (s ∷ ss) = IsLawfulSort s × (is_too_large f s ≡ false) × Sound (is_behind_at f s) ss

all_sound : (f : Bool) (ts : List Token) → AllLawful ts → too_large_at f ts ≡ None → Sound f (sorts ts)
all_sound f [] h e = tt
all_sound f (t ∷ ts) h e = elim (bool_cases (is_too_large f t.sort)) [
  | inl late ↦ absurd (let k = rw late at e in cc)
  | inr fine ↦ let k = rw fine at e in (h.0, fine, all_sound (is_behind_at f t.sort) ts h.1 k)
]

-- such tokens fit these terminals
record Good (ts : List Terminal) : Type 0 where
  flag : Bool
  kinds : List Sort
  fits : FitAll ts kinds
  sound : Sound flag kinds

record GoodOne (t : Terminal) : Type 0 where
  flag : Bool
  kind : Sort
  fits : Fits t kind
  lawful : IsLawfulSort kind
  early : is_too_large flag kind ≡ false

record Halves (f : Bool) (xs ys : List Terminal) : Type 0 where
  kinds : List Sort
  fits : FitAll xs kinds
  sound : Sound f kinds
  second : Good ys

good_cons : (t : Terminal) (ts : List Terminal) (f : Bool) (ss : List Sort) → FitAll (t ∷ ts) ss → Sound f ss → GoodOne t × Good ts
good_cons t ts f [] h k = absurd h
good_cons t ts f (s ∷ ss) h k =
    (record { flag = f; kind = s; fits = h.0; lawful = k.0; early = k.1 }, record { flag = is_behind_at f s; kinds = ss; fits = h.1; sound = k.2 })

first_good : (t : Terminal) (ts : List Terminal) → Good (t ∷ ts) → GoodOne t
first_good t ts h = (good_cons t ts h.flag h.kinds h.fits h.sound).0

rest_good : (t : Terminal) (ts : List Terminal) → Good (t ∷ ts) → Good ts
rest_good t ts h = (good_cons t ts h.flag h.kinds h.fits h.sound).1

halves : (xs ys : List Terminal) (f : Bool) (ss : List Sort) → FitAll (xs ++ ys) ss → Sound f ss → Halves f xs ys
halves [] ys f ss h k = record { kinds = []; fits = tt; sound = tt; second = record { flag = f; kinds = ss; fits = h; sound = k } }
halves (x ∷ xs) ys f [] h k = absurd h
halves (x ∷ xs) ys f (s ∷ ss) h k =
    let r = halves xs ys (is_behind_at f s) ss h.1 k.2 in
    record { kinds = s ∷ r.kinds; fits = (h.0, r.fits); sound = (k.0, k.1, r.sound); second = r.second }

front_good : (xs ys : List Terminal) → Good (xs ++ ys) → Good xs
front_good xs ys h = let r = halves xs ys h.flag h.kinds h.fits h.sound in record { flag = h.flag; kinds = r.kinds; fits = r.fits; sound = r.sound }

behind_good : (xs ys : List Terminal) → Good (xs ++ ys) → Good ys
behind_good xs ys h = (halves xs ys h.flag h.kinds h.fits h.sound).second

-- ---- single tokens

good_label : (l : List ℕ) → GoodOne (g.label l) → is_label l ≡ true
good_label l h = by h.flag h.kind h.fits h.lawful
  where
    by : Bool → (s : Sort) → Fits (g.label l) s → IsLawfulSort s → is_label l ≡ true
    by f (word w) h k = subst (λ x. is_label x ≡ true) h.0 (and_from (is_plain_word w) (not (has_colon w)) k (not_from_false (has_colon w) h.1))
    by f (number n) h k = absurd h
    by f (duration n) h k = absurd h
    by f (string b) h k = absurd h
    by f (sign b) h k = absurd h

good_number : (z : ℤ) → GoodOne (g.number z) → IsAmount z
good_number z h = by h.kind h.fits h.lawful
  where
    by : (s : Sort) → Fits (g.number z) s → IsLawfulSort s → IsAmount z
    by (word w) h k = absurd h
    by (number n) h k = subst IsAmount h k
    by (duration n) h k = absurd h
    by (string b) h k = absurd h
    by (sign b) h k = absurd h

not_late : (n : ℕ) → nat_lt 4398046511103 n ≡ false → n ≤ 4398046511103
not_late n h = grind (arith, nat_tests)

good_duration : (n : ℕ) → GoodOne (g.duration n) → IsTime n
good_duration n h = by h.flag h.kind h.fits h.early
  where
    by : (f : Bool) (s : Sort) → Fits (g.duration n) s → is_too_large f s ≡ false → IsTime n
    by f (word w) h k = absurd h
    by f (number z) h k = absurd h
    by f (duration m) h k = subst IsTime h (not_late m k)
    by f (string b) h k = absurd h
    by f (sign b) h k = absurd h

-- ---- labels and matchers

good_words : (labels : List (List ℕ)) → Good (commas_before (map (λ n. g.label n ∷ []) labels)) → AreWords labels
good_words [] h = refl
good_words (l ∷ ls) h =
    let r = rest_good (g.sign (codes ",")) ((g.label l ∷ []) ++ commas_before (map (λ n. g.label n ∷ []) ls)) h in
    and_from (is_label l) (list_all is_label ls) (good_label l (first_good (g.label l) (commas_before (map (λ n. g.label n ∷ []) ls)) r))
    (good_words ls (rest_good (g.label l) (commas_before (map (λ n. g.label n ∷ []) ls)) r))

good_list : (labels : List (List ℕ)) → Good (listed (map (λ n. g.label n ∷ []) labels)) → AreWords labels
good_list [] h = refl
good_list (l ∷ ls) h =
    and_from (is_label l) (list_all is_label ls) (good_label l (first_good (g.label l) (commas_before (map (λ n. g.label n ∷ []) ls)) h))
    (good_words ls (rest_good (g.label l) (commas_before (map (λ n. g.label n ∷ []) ls)) h))

good_labels : (l : Labels) → Good (labels_terminals l) → AreWords l.labels
good_labels l h =
    good_list l.labels (front_good (listed (map (λ n. g.label n ∷ []) l.labels)) (comma_if l.comma ++ (g.sign (codes ")") ∷ []))
    (rest_good (g.sign (codes "(")) (listed (map (λ n. g.label n ∷ []) l.labels) ++ (comma_if l.comma ++ (g.sign (codes ")") ∷ []))) h))

good_matchers_behind : (ms : List Matcher) → Good (commas_before (map matcher_terminals ms)) → HaveWords ms
good_matchers_behind [] h = refl
good_matchers_behind (m ∷ ms) h =
    let r = rest_good (g.sign (codes ",")) (matcher_terminals m ++ commas_before (map matcher_terminals ms)) h in
    and_from (is_label m.label) (list_all (λ (m : Matcher). is_label m.label) ms)
    (good_label m.label (first_good (g.label m.label) _ (front_good (matcher_terminals m) (commas_before (map matcher_terminals ms)) r)))
    (good_matchers_behind ms (behind_good (matcher_terminals m) (commas_before (map matcher_terminals ms)) r))

good_matchers : (ms : List Matcher) → Good (listed (map matcher_terminals ms)) → HaveWords ms
good_matchers [] h = refl
good_matchers (m ∷ ms) h =
    and_from (is_label m.label) (list_all (λ (m : Matcher). is_label m.label) ms)
    (good_label m.label (first_good (g.label m.label) _ (front_good (matcher_terminals m) (commas_before (map matcher_terminals ms)) h)))
    (good_matchers_behind ms (behind_good (matcher_terminals m) (commas_before (map matcher_terminals ms)) h))

good_braces : (b : Braces) → Good (braces_terminals b) → HaveWords b.matchers
good_braces b h =
    good_matchers b.matchers (front_good (listed (map matcher_terminals b.matchers)) (comma_if b.comma ++ (g.sign (codes "}") ∷ []))
    (rest_good (g.sign (codes "{")) (listed (map matcher_terminals b.matchers) ++ (comma_if b.comma ++ (g.sign (codes "}") ∷ []))) h))

-- the metric's name is the value of a matcher
good_selected : (metric : Option (List ℕ)) (braces : Option Braces) → Good (these braces_terminals braces) → HaveWords (metric_matcher metric ++ braces_matchers braces)
good_selected None None h = refl
good_selected None (Some b) h = good_braces b h
good_selected (Some n) None h = refl
good_selected (Some n) (Some b) h = good_braces b h

-- ---- modifiers

not_late_amount : (n : ℕ) → (true && nat_lt 4398046511103 (n / 1000)) ≡ false → n / 1000 ≤ 4398046511103
not_late_amount n h = not_late (n / 1000) h

positive : (n : ℕ) → nat_abs (int_div (pos n) (pos 1000)) ≡ n / 1000
positive n = omega (arith, ints)

negative : (n : ℕ) → nat_abs (int_div (neg_ℤ (pos n)) (pos 1000)) ≡ n / 1000
negative zero = refl
negative (suc n) = omega (arith, ints)

time_by : (s : front.Sign) (n : ℕ) → n / 1000 ≤ 4398046511103 → IsTime (nat_abs (millis_of s (pos n)))
time_by front.bare n h = omega (arith, positive n, h)
time_by front.plus n h = omega (arith, positive n, h)
time_by front.minus n h = omega (arith, negative n, h)

time_of : (s : front.Sign) (z : ℤ) (m : ℤ) → m ≡ z → IsAmount m → (true && nat_lt 4398046511103 (nat_abs m / 1000)) ≡ false → IsTime (nat_abs (millis_of s z))
time_of s z (pos n) e h k = subst (λ x. IsTime (nat_abs (millis_of s x))) e (time_by s n (not_late_amount n k))
time_of s z (negsuc n) e h k = absurd h

sign_is : (x : List ℕ) (s : Sort) → Fits (g.sign x) s → s ≡ sign x
sign_is x (word w) h = absurd h
sign_is x (number z) h = absurd h
sign_is x (duration n) h = absurd h
sign_is x (string b) h = absurd h
sign_is x (sign b) h = ap sign h

number_is : (z : ℤ) (s : Sort) → Fits (g.number z) s → s ≡ number z
number_is z (word w) h = absurd h
number_is z (number m) h = ap number h
number_is z (duration n) h = absurd h
number_is z (string b) h = absurd h
number_is z (sign b) h = absurd h

-- a number behind `@` or behind its sign
amount_at : (s : front.Sign) (z : ℤ) (f : Bool) (b : Sort) → f ≡ true → b ≡ number z → IsLawfulSort b → is_too_large f b ≡ false → IsTime (nat_abs (millis_of s z))
amount_at s z f b e q l k =
    time_of s z z refl (subst IsLawfulSort q l) (sym (ap (λ x. is_too_large x (number z)) e) ∙ ap (is_too_large f) (sym q) ∙ k)

bare_time : (z : ℤ) (f : Bool) (ss : List Sort) → FitAll (g.sign (codes "@") ∷ (g.number z ∷ [])) ss → Sound f ss → IsTime (nat_abs (millis_of front.bare z))
bare_time z f [] h k = absurd h
bare_time z f (a ∷ []) h k = absurd h.1
bare_time z f (a ∷ (b ∷ bs)) h k = amount_at front.bare z (is_behind_at f a) b (ap (is_behind_at f) (sign_is (codes "@") a h.0)) (number_is z b h.1.0) k.2.0 k.2.1

signed_time : (s : front.Sign) (x : List ℕ) (z : ℤ) (f : Bool) (ss : List Sort) → is_behind_at true (sign x) ≡ true → FitAll (g.sign (codes "@") ∷ (g.sign x ∷ (g.number z ∷ []))) ss → Sound f ss
    → IsTime (nat_abs (millis_of s z))
signed_time s x z f [] q h k = absurd h
signed_time s x z f (a ∷ []) q h k = absurd h.1
signed_time s x z f (a ∷ (b ∷ [])) q h k = absurd h.1.1
signed_time s x z f (a ∷ (b ∷ (c ∷ cs))) q h k =
    let first : is_behind_at f a ≡ true = ap (is_behind_at f) (sign_is (codes "@") a h.0) in
    let second : is_behind_at (is_behind_at f a) b ≡ true = ap (λ t. is_behind_at t b) first ∙ ap (is_behind_at true) (sign_is x b h.1.0) ∙ q in
    amount_at s z (is_behind_at (is_behind_at f a) b) c second (number_is z c h.1.1.0) k.2.2.0 k.2.2.1

good_moment : (m : AtModifier) → Good (at_modifier_terminals m) → IsMoment (at_of m)
good_moment (g.time front.bare z) h = bare_time z h.flag h.kinds h.fits h.sound
good_moment (g.time front.plus z) h = signed_time front.plus (codes "+") z h.flag h.kinds refl h.fits h.sound
good_moment (g.time front.minus z) h = signed_time front.minus (codes "-") z h.flag h.kinds refl h.fits h.sound
good_moment g.start h = tt
good_moment g.end h = tt

offset_by : (minus : Bool) (n : ℕ) → IsTime n → IsOffset (cond minus (neg_ℤ (pos n)) (pos n))
offset_by true zero h = h
offset_by true (suc n) h = h
offset_by false n h = h

good_offset : (o : Offset) → Good (offset_terminals o) → IsOffset (cond o.minus (neg_ℤ (pos o.millis)) (pos o.millis))
good_offset o h =
    let r = rest_good (g.key (codes "offset")) (minus_if o.minus ++ (g.duration o.millis ∷ [])) h in
    offset_by o.minus o.millis (good_duration o.millis (first_good (g.duration o.millis) [] (behind_good (minus_if o.minus) (g.duration o.millis ∷ []) r)))

record GoodMods (m : Modifiers) : Type 0 where
  at : Good (these at_modifier_terminals m.at)
  offset : Good (these offset_terminals m.offset)

parted : (m : Modifiers) → Good (modifiers_terminals m) → GoodMods m
parted m h = by m.at_first h
  where
    by : (t : Bool) → Good (cond t (these at_modifier_terminals m.at ++ these offset_terminals m.offset) (these offset_terminals m.offset ++ these at_modifier_terminals m.at)) → GoodMods m
    by true h = record { at = front_good (these at_modifier_terminals m.at) (these offset_terminals m.offset) h; offset = behind_good (these at_modifier_terminals m.at) (these offset_terminals m.offset) h }
    by false h = record { at = behind_good (these offset_terminals m.offset) (these at_modifier_terminals m.at) h; offset = front_good (these offset_terminals m.offset) (these at_modifier_terminals m.at) h }

some_moment : (m : Option AtModifier) → Good (these at_modifier_terminals m) → IfSome (option_map at_of m) IsMoment
some_moment None h = tt
some_moment (Some m) h = good_moment m h

some_offset : (o : Option Offset) → Good (these offset_terminals o) → IsOffset (offset_of o)
some_offset None h = omega arith
some_offset (Some o) h = good_offset o h

good_mods : (m : Modifiers) → Good (modifiers_terminals m) → AreMods (mods_of m)
good_mods m h = let p = parted m h in (some_moment m.at p.at, some_offset m.offset p.offset)

good_range : (range : Option ℕ) → Good (these range_terminals range) → IfSome range IsTime
good_range None h = tt
good_range (Some n) h = good_duration n (first_good (g.duration n) _ (rest_good (g.sign (codes "[")) (g.duration n ∷ g.sign (codes "]") ∷ []) h))

good_resolution : (r : Option ℕ) → Good (these (λ r. g.duration r ∷ []) r) → IfSome r IsTime
good_resolution None h = tt
good_resolution (Some n) h = good_duration n (first_good (g.duration n) [] h)

-- ---- clauses

some_labels : (l : Option Labels) → Good (these labels_terminals l) → AreWords (labels_of l)
some_labels None h = refl
some_labels (Some l) h = good_labels l h

some_group : (x : Option Group) → Good (these group_terminals x) → AreWords (include_of x)
some_group None h = refl
some_group (Some x) h = some_labels x.include (rest_good (g.key (cond x.left (codes "group_left") (codes "group_right"))) (these labels_terminals x.include) h)

good_keys : (k : Option Keys) → Good (these keys_terminals k) → AreWords (matched_of k).labels × AreWords (matched_of k).include
good_keys None h = (refl, refl)
good_keys (Some k) h =
    let r = rest_good (g.key (cond k.on (codes "on") (codes "ignoring"))) (labels_terminals k.labels ++ these group_terminals k.group) h in
    (good_labels k.labels (front_good (labels_terminals k.labels) (these group_terminals k.group) r), some_group k.group (behind_good (labels_terminals k.labels) (these group_terminals k.group) r))

good_without : (without : Bool) (l : Labels) → Good (without_terminals without l) → AreWords l.labels
good_without false l h = good_labels l (rest_good (g.key (codes "by")) (labels_terminals l) h)
good_without true l h = good_labels l (rest_good (g.key (codes "without")) (labels_terminals l) h)

good_clause : (c : Clause) → Good (before_terminals c) → Good (behind_terminals c) → AreWords (grouped_of c).labels
good_clause g.absent h k = refl
good_clause (g.before without l) h k = good_without without l h
good_clause (g.behind without l) h k = good_without without l k

-- ---- trees

record BothSome {A B C : Type 0} (f : A → B → C) (x : Option A) (y : Option B) (z : C) : Type 0 where
  left : A
  right : B
  left_is : x ≡ Some left
  right_is : y ≡ Some right
  is : f left right ≡ z

both_some : {A B C : Type 0} (f : A → B → C) (x : Option A) (y : Option B) (z : C) → both f x y ≡ Some z → BothSome f x y z
both_some f None y z h = cc
both_some f (Some x) None z h = cc
both_some f (Some x) (Some y) z h = record { left = x; right = y; left_is = refl; right_is = refl; is = some_is (f x y) z h }

mapped_some : {A B : Type 0} (f : A → B) (x : Option A) (z : B) → option_map f x ≡ Some z → (a : A) × ((x ≡ Some a) × (f a ≡ z))
mapped_some f None z h = cc
mapped_some f (Some a) z h = (a, (refl, some_is (f a) z h))

in_brackets : (ts : List Terminal) → Good (g.sign (codes "(") ∷ (ts ++ (g.sign (codes ")") ∷ []))) → Good ts
in_brackets ts h = front_good ts (g.sign (codes ")") ∷ []) (rest_good (g.sign (codes "(")) (ts ++ (g.sign (codes ")") ∷ [])) h)

mutual
  good_tree : (w : Written) (t : Tree) → Good (terminals_of w) → meaning w ≡ Some t → IsPrintable t
  good_tree (g.number z) t h e = subst IsPrintable (some_is (tree.number z) t e) (good_number z (first_good (g.number z) [] h))
  good_tree (g.text bytes) t h e = subst IsPrintable (some_is (tree.text bytes) t e) tt
  good_tree (g.brackets w) t h e = good_tree w t (in_brackets (terminals_of w) h) e
  good_tree (g.call f args) t h e =
      let p = both_some tree.call (function_of f) (meanings args) t e in
      subst IsPrintable p.is (good_trees args p.right (in_brackets (all_terminals args) (rest_good (g.name f) (g.sign (codes "(") ∷ (all_terminals args ++ (g.sign (codes ")") ∷ []))) h)) p.right_is)
  good_tree (g.aggregate op clause args) t h e =
      let p = mapped_some (tree.aggregate op (grouped_of clause)) (meanings args) t e in
      let a = rest_good (g.key _) (before_terminals clause ++ (g.sign (codes "(") ∷ (all_terminals args ++ (g.sign (codes ")") ∷ behind_terminals clause)))) h in
      let b = behind_good (before_terminals clause) (g.sign (codes "(") ∷ (all_terminals args ++ (g.sign (codes ")") ∷ behind_terminals clause))) a in
      let c = rest_good (g.sign (codes "(")) (all_terminals args ++ (g.sign (codes ")") ∷ behind_terminals clause)) b in
      let d = rest_good (g.sign (codes ")")) (behind_terminals clause) (behind_good (all_terminals args) (g.sign (codes ")") ∷ behind_terminals clause) c) in
      subst IsPrintable p.1.1 (
        good_clause clause (front_good (before_terminals clause) (g.sign (codes "(") ∷ (all_terminals args ++ (g.sign (codes ")") ∷ behind_terminals clause))) a) d,
        good_trees args p.0 (front_good (all_terminals args) (g.sign (codes ")") ∷ behind_terminals clause) c) p.1.0,
      )
  good_tree (g.unary minus w) t h e =
      let p = mapped_some (tree.unary minus) (meaning w) t e in
      subst IsPrintable p.1.1 (good_tree w p.0 (rest_good (g.sign (cond minus (codes "-") (codes "+"))) (terminals_of w) h) p.1.0)
  good_tree (g.binary op keys a b) t h e =
      let p = both_some (tree.binary op (matched_of keys)) (meaning a) (meaning b) t e in
      let x = front_good (terminals_of a) (operator_terminal op ∷ (bool_terminals op.with_bool ++ (these keys_terminals keys ++ terminals_of b))) h in
      let y = rest_good (operator_terminal op) (bool_terminals op.with_bool ++ (these keys_terminals keys ++ terminals_of b)) (behind_good (terminals_of a) (operator_terminal op ∷ (bool_terminals op.with_bool ++ (these keys_terminals keys ++ terminals_of b))) h) in
      let z = behind_good (bool_terminals op.with_bool) (these keys_terminals keys ++ terminals_of b) y in
      let k = good_keys keys (front_good (these keys_terminals keys) (terminals_of b) z) in
      subst IsPrintable p.is (k.0, k.1, good_tree a p.left x p.left_is, good_tree b p.right (behind_good (these keys_terminals keys) (terminals_of b) z) p.right_is)
  good_tree (g.select s range mods) t h e =
      let a = front_good (selected_terminals s) (these range_terminals range ++ modifiers_terminals mods) h in
      let b = behind_good (selected_terminals s) (these range_terminals range ++ modifiers_terminals mods) h in
      subst IsPrintable (some_is (tree.select (metric_matcher s.metric ++ braces_matchers s.braces) range (mods_of mods)) t e) (
        good_selected s.metric s.braces (behind_good (these (λ n. g.name n ∷ []) s.metric) (these braces_terminals s.braces) a),
        good_range range (front_good (these range_terminals range) (modifiers_terminals mods) b),
        good_mods mods (behind_good (these range_terminals range) (modifiers_terminals mods) b),
      )
  good_tree (g.subquery w range resolution mods) t h e =
      let p = mapped_some (λ inner. tree.subquery inner range resolution (mods_of mods)) (meaning w) t e in
      let tail = g.sign (codes "[") ∷ g.duration range ∷ g.sign (codes ":") ∷ (these (λ r. g.duration r ∷ []) resolution ++ (g.sign (codes "]") ∷ modifiers_terminals mods)) in
      let a = rest_good (g.sign (codes "[")) (g.duration range ∷ g.sign (codes ":") ∷ (these (λ r. g.duration r ∷ []) resolution ++ (g.sign (codes "]") ∷ modifiers_terminals mods))) (behind_good (terminals_of w) tail h) in
      let b = rest_good (g.sign (codes ":")) (these (λ r. g.duration r ∷ []) resolution ++ (g.sign (codes "]") ∷ modifiers_terminals mods))
      (rest_good (g.duration range) (g.sign (codes ":") ∷ (these (λ r. g.duration r ∷ []) resolution ++ (g.sign (codes "]") ∷ modifiers_terminals mods))) a) in
      subst IsPrintable p.1.1 (
        good_tree w p.0 (front_good (terminals_of w) tail h) p.1.0,
        good_duration range (first_good (g.duration range) (g.sign (codes ":") ∷ (these (λ r. g.duration r ∷ []) resolution ++ (g.sign (codes "]") ∷ modifiers_terminals mods))) a),
        good_resolution resolution (front_good (these (λ r. g.duration r ∷ []) resolution) (g.sign (codes "]") ∷ modifiers_terminals mods) b),
        good_mods mods (rest_good (g.sign (codes "]")) (modifiers_terminals mods) (behind_good (these (λ r. g.duration r ∷ []) resolution) (g.sign (codes "]") ∷ modifiers_terminals mods) b)),
      )

  good_trees : (a : Arguments) (ts : Trees) → Good (all_terminals a) → meanings a ≡ Some ts → ArePrintable ts
  good_trees g.none ts h e = subst ArePrintable (some_is tree.none ts e) tt
  good_trees (g.more w ws) ts h e =
      let p = both_some tree.more (meaning w) (meanings ws) ts e in
      subst ArePrintable p.is (good_tree w p.left (front_good (terminals_of w) (more_terminals ws) h) p.left_is, good_more ws p.right (behind_good (terminals_of w) (more_terminals ws) h) p.right_is)

  good_more : (a : Arguments) (ts : Trees) → Good (more_terminals a) → meanings a ≡ Some ts → ArePrintable ts
  good_more g.none ts h e = subst ArePrintable (some_is tree.none ts e) tt
  good_more (g.more w ws) ts h e =
      let p = both_some tree.more (meaning w) (meanings ws) ts e in
      let r = rest_good (g.sign (codes ",")) (terminals_of w ++ more_terminals ws) h in
      subst ArePrintable p.is (good_tree w p.left (front_good (terminals_of w) (more_terminals ws) r) p.left_is, good_more ws p.right (behind_good (terminals_of w) (more_terminals ws) r) p.right_is)

-- a tree that a text derives, of any height, can be printed
pub can_be_printed : CanBePrinted
can_be_printed text t h =
    let ts = h.tokens in
    let lawful = tokens_lawful text false 0 ts h.are_tokens.begins in
    good_tree h.derives.written t (record { flag = false; kinds = sorts ts; fits = h.derives.derived.fits; sound = all_sound false ts lawful h.times }) h.derives.means
