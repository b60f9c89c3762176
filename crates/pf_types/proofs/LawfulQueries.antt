-- Every lawful query is evaluated.
use Rattle.std.proofs.Common.{◌≡◌, ℕ, ℤ, pos, negsuc, ◌/◌, Bool, true, false, true≢false, ◌&&◌, not, cond, codes, Option, Some, None, List, [], ◌∷◌, ◌++◌, refl, sym, ap, subst, ◌∙◌, arith, zero, suc, map}
use Rattle.std.specs.Prelude.{IfSome, unsigned_abs, nat_abs, neg_ℤ, int_div, nat_lt, option_map}
use Rattle.std.specs.List.{list_all}
use Rattle.std.proofs.lemmas.Bool.Decides.{nat_tests}
use Rattle.pf_base.specs.LabelSets.{is_label_name}
use Rattle.pf_base.specs.NumberTexts as front
use Rattle.pf_model.specs.declared.expr.BinaryOp.{BinaryOp}
use Rattle.pf_model.specs.declared.expr.Function.{Function}
use Rattle.pf_model.specs.declared.expr.Matcher.{Matcher}
use Rattle.pf_model.specs.Built.{are_near, is_distance, is_evaluated, is_resolution, is_time, name_labels}
use Rattle.pf_model.specs.Evaluation.{resolution_or_minute}
use Rattle.pf_model.specs.Grammar as written
use Rattle.pf_model.specs.Grammar.{Terminal, name, label, sign, number, duration, string, Written, Arguments, Braces, Group, Keys, Labels, Modifiers, AtModifier, Offset, AreLawful, IsLawful, IsPositive, both, terminals_of, all_terminals, more_terminals, meaning, meanings, these, comma_if, commas_before, listed, labels_terminals, matcher_terminals, braces_terminals, offset_terminals, at_modifier_terminals, modifiers_terminals, range_terminals, before_terminals, behind_terminals, operator_terminal, bool_terminals, group_terminals, keys_terminals, metric_matcher, braces_matchers, mods_of, at_of, offset_of, matched_of, grouped_of, include_of, labels_of}
use Rattle.pf_model.specs.Parsing.{sorts}
use Rattle.pf_model.specs.Queries.{IsQuery}
use Rattle.pf_model.specs.Words.{function_of, match_text}
use Rattle.pf_model.specs.Trees as tree
use Rattle.pf_model.specs.Trees.{Tree, Trees}
use Rattle.pf_types.proofs.LawfulTexts.{back_part, behind_one, front_part, is_sound, near_tokens, terminals_sound, tokens_are_lawful}
use Rattle.pf_types.proofs.LawfulKinds.{are_bounded, both_of, is_bounded, lawful_is_evaluated, left_of, near_range, right_of}

-- ---- lists of labels and of matchers

abbrev names : List (List ℕ) → Bool
names ls = list_all is_label_name ls

label_here : (behind : Bool) (l : List ℕ) (ts : List Terminal) → is_sound behind (label l ∷ ts) ≡ true → is_label_name l ≡ true
label_here behind l ts h = left_of (is_label_name l) (is_sound false ts) h

abbrev label_texts : List (List ℕ) → List (List Terminal)
label_texts ls = map (λ n. label n ∷ []) ls

labels_behind : (ls : List (List ℕ)) → is_sound false (commas_before (label_texts ls)) ≡ true → names ls ≡ true
labels_behind [] h = refl
labels_behind (l ∷ ls) h =
    both_of (is_label_name l) (names ls) (left_of (is_label_name l) (is_sound false (commas_before (label_texts ls))) h)
    (labels_behind ls (right_of (is_label_name l) (is_sound false (commas_before (label_texts ls))) h))

labels_listed : (ls : List (List ℕ)) → is_sound false (listed (label_texts ls)) ≡ true → names ls ≡ true
labels_listed [] h = refl
labels_listed (l ∷ ls) h =
    both_of (is_label_name l) (names ls) (left_of (is_label_name l) (is_sound false (commas_before (label_texts ls))) h)
    (labels_behind ls (right_of (is_label_name l) (is_sound false (commas_before (label_texts ls))) h))

labels_named : (l : Labels) → is_sound false (labels_terminals l) ≡ true → names l.labels ≡ true
labels_named l h = labels_listed l.labels (front_part false (listed (label_texts l.labels)) (comma_if l.comma ++ (sign (codes ")") ∷ [])) h)

matchers_behind : (ms : List Matcher) → is_sound false (commas_before (map matcher_terminals ms)) ≡ true → name_labels ms ≡ true
matchers_behind [] h = refl
matchers_behind (m ∷ ms) h =
    both_of (is_label_name m.label) (name_labels ms)
    (label_here false m.label (sign (match_text m.sign) ∷ string m.text ∷ commas_before (map matcher_terminals ms)) h)
    (matchers_behind ms (back_part false (matcher_terminals m) (commas_before (map matcher_terminals ms)) h))

matchers_listed : (ms : List Matcher) → is_sound false (listed (map matcher_terminals ms)) ≡ true → name_labels ms ≡ true
matchers_listed [] h = refl
matchers_listed (m ∷ ms) h =
    both_of (is_label_name m.label) (name_labels ms)
    (label_here false m.label (sign (match_text m.sign) ∷ string m.text ∷ commas_before (map matcher_terminals ms)) h)
    (matchers_behind ms (back_part false (matcher_terminals m) (commas_before (map matcher_terminals ms)) h))

braces_named : (b : Option Braces) → is_sound false (these braces_terminals b) ≡ true → name_labels (braces_matchers b) ≡ true
braces_named None h = refl
braces_named (Some b) h =
    matchers_listed b.matchers (front_part false (listed (map matcher_terminals b.matchers)) (comma_if b.comma ++ (sign (codes "}") ∷ [])) h)

selected_named : (metric : Option (List ℕ)) (ms : List Matcher) → name_labels ms ≡ true → name_labels (metric_matcher metric ++ ms) ≡ true
selected_named None ms h = h
selected_named (Some n) ms h = h

-- ---- ranges, offsets and times

duration_here : (behind : Bool) (d : ℕ) (ts : List Terminal) → is_sound behind (duration d ∷ ts) ≡ true → is_distance d ≡ true
duration_here behind d ts h = left_of (is_distance d) (is_sound false ts) h

range_near : (range : Option ℕ) → is_sound false (these range_terminals range) ≡ true → near_range range ≡ true
range_near None h = refl
range_near (Some range) h = duration_here false range (sign (codes "]") ∷ []) h

size_of_neg : (n : ℕ) → unsigned_abs (neg_ℤ (pos n)) ≡ n
size_of_neg zero = refl
size_of_neg (suc n) = refl

offset_near : (o : Option Offset) → is_sound false (these offset_terminals o) ≡ true → is_distance (unsigned_abs (offset_of o)) ≡ true
offset_near None h = refl
offset_near (Some o) h = by o.minus o.millis h where
  by : (minus : Bool) (millis : ℕ) → is_sound false (written.minus_if minus ++ (duration millis ∷ [])) ≡ true
      → is_distance (unsigned_abs (cond minus (neg_ℤ (pos millis)) (pos millis))) ≡ true
  by false millis g = duration_here false millis [] g
  by true millis g = subst (λ n. is_distance n ≡ true) (sym (size_of_neg millis)) (duration_here false millis [] g)

size_cut : (m : ℤ) → nat_abs (int_div m (pos 1000)) ≡ nat_abs m / 1000
size_cut (pos n) = refl
size_cut (negsuc n) = size_of_neg_cut (suc n / 1000) where
  size_of_neg_cut : (k : ℕ) → nat_abs (neg_ℤ (pos k)) ≡ k
  size_of_neg_cut zero = refl
  size_of_neg_cut (suc k) = refl

size_neg : (m : ℤ) → nat_abs (neg_ℤ m) ≡ nat_abs m
size_neg (pos zero) = refl
size_neg (pos (suc n)) = refl
size_neg (negsuc n) = refl

within_time : (n : ℕ) → not (nat_lt 4398046511103 n) ≡ true → is_distance n ≡ true
within_time n q = grind (arith, nat_tests, not_true (nat_lt 4398046511103 n) q) where
  not_true : (b : Bool) → not b ≡ true → b ≡ false
  not_true true r = sym r
  not_true false r = refl

micros_here : (m : ℤ) → is_sound true (number m ∷ []) ≡ true → is_distance (nat_abs m / 1000) ≡ true
micros_here m h = within_time (nat_abs m / 1000) (left_of (not (nat_lt 4398046511103 (nat_abs m / 1000))) true h)

moment_near : (a : Option AtModifier) → is_sound false (these at_modifier_terminals a) ≡ true → is_time (option_map at_of a) ≡ true
moment_near None h = refl
moment_near (Some written.start) h = refl
moment_near (Some written.end) h = refl
moment_near (Some (written.time front.bare m)) h = subst (λ n. is_distance n ≡ true) (sym (size_cut m)) (micros_here m h)
moment_near (Some (written.time front.plus m)) h = subst (λ n. is_distance n ≡ true) (sym (size_cut m)) (micros_here m h)
moment_near (Some (written.time front.minus m)) h =
    subst (λ n. is_distance n ≡ true) (sym (size_cut (neg_ℤ m) ∙ ap (λ k. k / 1000) (size_neg m))) (micros_here m h)

mods_near : (m : Modifiers) → is_sound false (modifiers_terminals m) ≡ true → are_near (mods_of m) ≡ true
mods_near m h = by m.at_first h where
  by : (b : Bool) → is_sound false (cond b (these at_modifier_terminals m.at ++ these offset_terminals m.offset) (these offset_terminals m.offset ++ these at_modifier_terminals m.at)) ≡ true
      → are_near (mods_of m) ≡ true
  by true g =
      both_of (is_time (option_map at_of m.at)) (is_distance (unsigned_abs (offset_of m.offset)))
      (moment_near m.at (front_part false (these at_modifier_terminals m.at) (these offset_terminals m.offset) g))
      (offset_near m.offset (back_part false (these at_modifier_terminals m.at) (these offset_terminals m.offset) g))
  by false g =
      both_of (is_time (option_map at_of m.at)) (is_distance (unsigned_abs (offset_of m.offset)))
      (moment_near m.at (back_part false (these offset_terminals m.offset) (these at_modifier_terminals m.at) g))
      (offset_near m.offset (front_part false (these offset_terminals m.offset) (these at_modifier_terminals m.at) g))

-- ---- operators

group_named : (g : Option Group) → is_sound false (these group_terminals g) ≡ true → names (include_of g) ≡ true
group_named None h = refl
group_named (Some g) h = by g.include h where
  by : (o : Option Labels) → is_sound false (these labels_terminals o) ≡ true → names (labels_of o) ≡ true
  by None q = refl
  by (Some l) q = labels_named l q

keys_named : (k : Option Keys) → is_sound false (these keys_terminals k) ≡ true → names (matched_of k).include ≡ true
keys_named None h = refl
keys_named (Some k) h = group_named k.group (back_part false (labels_terminals k.labels) (these group_terminals k.group) h)

-- ---- resolutions

resolution_near : (r : Option ℕ) → IfSome r IsPositive → is_sound false (these (λ d. duration d ∷ []) r) ≡ true
    → is_resolution (resolution_or_minute r) ≡ true
resolution_near None p h = refl
resolution_near (Some zero) p h = absurd (true≢false p)
resolution_near (Some (suc d)) p h = duration_here false (suc d) [] h

-- ---- queries

abbrev IsBounded : Option Tree → Type 0
IsBounded None = Unit {0}
IsBounded (Some t) = is_bounded t ≡ true

abbrev AreBounded : Option Trees → Type 0
AreBounded None = Unit {0}
AreBounded (Some ts) = are_bounded ts ≡ true

call_bounded : (f : Option Function) (args : Option Trees) → AreBounded args → IsBounded (both tree.call f args)
call_bounded None args h = tt
call_bounded (Some f) None h = tt
call_bounded (Some f) (Some args) h = h

aggregate_bounded : (f : Trees → Tree) (args : Option Trees) → ((ts : Trees) → is_bounded (f ts) ≡ are_bounded ts) → AreBounded args
    → IsBounded (option_map f args)
aggregate_bounded f None e h = tt
aggregate_bounded f (Some ts) e h = e ts ∙ h

unary_bounded : (minus : Bool) (o : Option Tree) → IsBounded o → IsBounded (option_map (tree.unary minus) o)
unary_bounded minus None h = tt
unary_bounded minus (Some t) h = h

binary_bounded : (op : BinaryOp) (k : Option Keys) (a b : Option Tree) → names (matched_of k).include ≡ true → IsBounded a → IsBounded b
    → IsBounded (both (tree.binary op (matched_of k)) a b)
binary_bounded op k None b n p q = tt
binary_bounded op k (Some l) None n p q = tt
binary_bounded op k (Some l) (Some r) n p q =
    both_of (names (matched_of k).include) (is_bounded l && is_bounded r) n (both_of (is_bounded l) (is_bounded r) p q)

subquery_bounded : (o : Option Tree) (range : ℕ) (resolution : Option ℕ) (mods : Modifiers) → IsBounded o → is_distance range ≡ true
    → is_resolution (resolution_or_minute resolution) ≡ true → are_near (mods_of mods) ≡ true
    → IsBounded (option_map (λ inner. tree.subquery inner range resolution (mods_of mods)) o)
subquery_bounded None range resolution mods h d r m = tt
subquery_bounded (Some t) range resolution mods h d r m =
    both_of (is_bounded t) (is_distance range && (is_resolution (resolution_or_minute resolution) && are_near (mods_of mods))) h
    (both_of (is_distance range) (is_resolution (resolution_or_minute resolution) && are_near (mods_of mods)) d
    (both_of (is_resolution (resolution_or_minute resolution)) (are_near (mods_of mods)) r m))

more_bounded : (o : Option Tree) (os : Option Trees) → IsBounded o → AreBounded os → AreBounded (both tree.more o os)
more_bounded None os h g = tt
more_bounded (Some t) None h g = tt
more_bounded (Some t) (Some ts) h g = both_of (is_bounded t) (are_bounded ts) h g

select_bounded : (metric : Option (List ℕ)) (braces : Option Braces) (range : Option ℕ) (mods : Modifiers)
    → is_sound false ((these (λ n. name n ∷ []) metric ++ these braces_terminals braces) ++ (these range_terminals range ++ modifiers_terminals mods)) ≡ true
    → is_bounded (tree.select (metric_matcher metric ++ braces_matchers braces) range (mods_of mods)) ≡ true
select_bounded metric braces range mods h =
    both_of (name_labels (metric_matcher metric ++ braces_matchers braces)) (near_range range && are_near (mods_of mods))
    (selected_named metric (braces_matchers braces)
    (braces_named braces
    (back_part false (these (λ n. name n ∷ []) metric) (these braces_terminals braces)
    (front_part false (these (λ n. name n ∷ []) metric ++ these braces_terminals braces) (these range_terminals range ++ modifiers_terminals mods) h))))
    (both_of (near_range range) (are_near (mods_of mods)) (range_near range (front_part false (these range_terminals range) (modifiers_terminals mods) times))
    (mods_near mods (back_part false (these range_terminals range) (modifiers_terminals mods) times))) where
      times : is_sound false (these range_terminals range ++ modifiers_terminals mods) ≡ true
      times = back_part false (these (λ n. name n ∷ []) metric ++ these braces_terminals braces) (these range_terminals range ++ modifiers_terminals mods) h

-- a sign, whichever it is, has nothing to do with an `@`
behind_sign : (minus : Bool) (ts : List Terminal) → is_sound false (sign (cond minus (codes "-") (codes "+")) ∷ ts) ≡ true → is_sound false ts ≡ true
behind_sign true ts h = h
behind_sign false ts h = h

mutual
  all_bounded : (w : Written) → IsLawful w → is_sound false (terminals_of w) ≡ true → IsBounded (meaning w)
  all_bounded (written.number micros) l h = refl
  all_bounded (written.text bytes) l h = refl
  all_bounded (written.brackets e) l h = all_bounded e l (front_part false (terminals_of e) (sign (codes ")") ∷ []) h)
  all_bounded (written.call f args) l h =
      call_bounded (function_of f) (meanings args) (args_bounded args l (front_part false (all_terminals args) (sign (codes ")") ∷ []) h))
  all_bounded (written.aggregate op clause written.none) l h = absurd l
  all_bounded (written.aggregate op clause (written.more e es)) l h =
      aggregate_bounded (tree.aggregate op (grouped_of clause)) (meanings (written.more e es)) (λ ts. refl)
      (args_bounded (written.more e es) (l.1, l.2)
      (front_part false (all_terminals (written.more e es)) (sign (codes ")") ∷ behind_terminals clause)
      (behind_one false (sign (codes "(")) (all_terminals (written.more e es) ++ (sign (codes ")") ∷ behind_terminals clause))
      (back_part false (before_terminals clause) (sign (codes "(") ∷ (all_terminals (written.more e es) ++ (sign (codes ")") ∷ behind_terminals clause))) h))))
  all_bounded (written.unary minus e) l h = unary_bounded minus (meaning e) (all_bounded e l.1 (behind_sign minus (terminals_of e) h))
  all_bounded (written.binary op keys a b) l h =
      binary_bounded op keys (meaning a) (meaning b)
      (keys_named keys (front_part false (these keys_terminals keys) (terminals_of b) behind_bool))
      (all_bounded a l.5 (front_part false (terminals_of a) rest h))
      (all_bounded b l.6 (back_part false (these keys_terminals keys) (terminals_of b) behind_bool)) where
        rest : List Terminal
        rest = operator_terminal op ∷ (bool_terminals op.with_bool ++ (these keys_terminals keys ++ terminals_of b))

        behind_bool : is_sound false (these keys_terminals keys ++ terminals_of b) ≡ true
        behind_bool =
            back_part false (bool_terminals op.with_bool) (these keys_terminals keys ++ terminals_of b)
            (behind_one false (operator_terminal op) (bool_terminals op.with_bool ++ (these keys_terminals keys ++ terminals_of b))
            (back_part false (terminals_of a) (operator_terminal op ∷ (bool_terminals op.with_bool ++ (these keys_terminals keys ++ terminals_of b))) h))
  all_bounded (written.select s range mods) l h = select_bounded s.metric s.braces range mods h
  all_bounded (written.subquery e range resolution mods) l h =
      subquery_bounded (meaning e) range resolution mods
      (all_bounded e l.1 (front_part false (terminals_of e) (sign (codes "[") ∷ duration range ∷ sign (codes ":") ∷ inside) h))
      (left_of (is_distance range) (is_sound false inside) times)
      (resolution_near resolution l.3 (front_part false (these (λ r. duration r ∷ []) resolution) (sign (codes "]") ∷ modifiers_terminals mods) behind_range))
      (mods_near mods
      (behind_one false (sign (codes "]")) (modifiers_terminals mods)
      (back_part false (these (λ r. duration r ∷ []) resolution) (sign (codes "]") ∷ modifiers_terminals mods) behind_range))) where
        inside : List Terminal
        inside = these (λ r. duration r ∷ []) resolution ++ (sign (codes "]") ∷ modifiers_terminals mods)

        times : (is_distance range && is_sound false (these (λ r. duration r ∷ []) resolution ++ (sign (codes "]") ∷ modifiers_terminals mods))) ≡ true
        times =
            back_part false (terminals_of e)
            (sign (codes "[") ∷ duration range ∷ sign (codes ":") ∷ (these (λ r. duration r ∷ []) resolution ++ (sign (codes "]") ∷ modifiers_terminals mods))) h

        behind_range : is_sound false (these (λ r. duration r ∷ []) resolution ++ (sign (codes "]") ∷ modifiers_terminals mods)) ≡ true
        behind_range =
            right_of (is_distance range) (is_sound false (these (λ r. duration r ∷ []) resolution ++ (sign (codes "]") ∷ modifiers_terminals mods)))
            (back_part false (terminals_of e)
            (sign (codes "[") ∷ duration range ∷ sign (codes ":") ∷ (these (λ r. duration r ∷ []) resolution ++ (sign (codes "]") ∷ modifiers_terminals mods))) h)

  args_bounded : (xs : Arguments) → AreLawful xs → is_sound false (all_terminals xs) ≡ true → AreBounded (meanings xs)
  args_bounded written.none l h = refl
  args_bounded (written.more e es) l h =
      more_bounded (meaning e) (meanings es) (all_bounded e l.0 (front_part false (terminals_of e) (more_terminals es) h))
      (others_bounded es l.1 (back_part false (terminals_of e) (more_terminals es) h))

  others_bounded : (xs : Arguments) → AreLawful xs → is_sound false (more_terminals xs) ≡ true → AreBounded (meanings xs)
  others_bounded written.none l h = refl
  others_bounded (written.more e es) l h =
      more_bounded (meaning e) (meanings es) (all_bounded e l.0 (front_part false (terminals_of e) (more_terminals es) h))
      (others_bounded es l.1 (back_part false (terminals_of e) (more_terminals es) h))

-- a text that is a query, of lawful kinds, is evaluated
pub query_is_evaluated : (text : List ℕ) (t : Tree) → IsQuery text t → is_evaluated t ≡ true
query_is_evaluated words t q =
    lawful_is_evaluated t (subst IsBounded q.parses.is_tree.derives.means (all_bounded w q.parses.is_tree.derives.derived.lawful sound)) q.kinds where
      w : Written
      w = q.parses.is_tree.derives.written

      sound : is_sound false (terminals_of q.parses.is_tree.derives.written) ≡ true
      sound =
          terminals_sound false (terminals_of q.parses.is_tree.derives.written) (sorts q.parses.is_tree.tokens) q.parses.is_tree.derives.derived.fits
          (near_tokens false q.parses.is_tree.tokens q.parses.is_tree.times
          (tokens_are_lawful words false 0 q.parses.is_tree.tokens
          q.parses.is_tree.known.written.shallow.cut.are_tokens.begins))
