-- The canonical text of a query is cut into its tokens.
use Rattle.std.proofs.Common.{◌≡◌, ◌∙◌, ℕ, zero, suc, pos, negsuc, ◌*◌, Bool, true, false, not, ◌&&◌, Option, Some, None, List, [], ◌∷◌, ◌++◌, cond, refl, sym, ap, subst, arith, codes, append_assoc, append-nil}
use Rattle.std.specs.Prelude.{map, nat_eq, IfSome, ℤ}
use Rattle.std.specs.List.{list_all}
use Rattle.std.proofs.lemmas.Bool.{and_parts, or_parts}
use Rattle.pf_base.specs.LabelSets.{goes_on}
use Rattle.pf_model.specs.declared.expr.At.{At}
use Rattle.pf_model.specs.declared.expr.At.TheVariants.{Time, Start, End}
use Rattle.pf_model.specs.declared.expr.Matcher.{Matcher}
use Rattle.pf_model.specs.declared.expr.MatchSign.{MatchSign}
use Rattle.pf_model.specs.declared.expr.MatchSign.TheVariants as match
use Rattle.pf_model.specs.declared.expr.Mods.{Mods}
use Rattle.pf_model.specs.declared.expr.Side.{Side}
use Rattle.pf_model.specs.declared.expr.Side.TheVariants as side
use Rattle.pf_model.specs.declared.expr.Function.{Function}
use Rattle.pf_model.specs.declared.expr.Function.TheVariants as called
use Rattle.pf_model.specs.declared.functions.AggOp.{AggOp}
use Rattle.pf_model.specs.declared.functions.AggOp.TheVariants as aggregation
use Rattle.pf_model.specs.declared.functions.InstantFn.{InstantFn}
use Rattle.pf_model.specs.declared.functions.InstantFn.TheVariants as instant
use Rattle.pf_model.specs.declared.functions.RangeFn.{RangeFn}
use Rattle.pf_model.specs.declared.functions.RangeFn.TheVariants as ranged
use Rattle.pf_model.specs.declared.functions.Sign.{Sign}
use Rattle.pf_model.specs.declared.functions.Sign.TheVariants as operator
use Rattle.pf_model.specs.Canonical as text
use Rattle.pf_model.specs.Canonical.{canonical, canonicals, is_one, millis_text, string_text}
use Rattle.pf_model.specs.Clauses.{Grouped, Matched}
use Rattle.pf_model.specs.Grammar.{is_nil}
use Rattle.pf_model.specs.Tokens.{Sort, duration, is_sign, sign, string, word}
use Rattle.pf_model.specs.Trees as tree
use Rattle.pf_model.specs.Trees.{Tree, Trees, none, more}
use Rattle.pf_model.specs.Words.{aggregation_word, function_name, instant_name, match_text, operator_text, range_name}
use Rattle.pf_lex.specs.CanonicalTokens.{AreMods, ArePrintable, AreWords, HaveWords, IsCut, IsMoment, IsOffset, IsPrintable, IsTime, all_sorts, at_sorts, bool_sorts, group_sorts, grouping_sorts, is_label, is_plain_word, keys_sorts, label_sort, labels_sorts, matcher_sorts, mods_sorts, offset_sorts, operator_sort, range_sorts, resolution_sorts, selector_sorts, sorts_of}
use Rattle.pf_model.specs.FirstBytes.{first_passes}
use Rattle.pf_lex.specs.Scans.{is_word_byte}
use Rattle.pf_lex.specs.declared.token.Mark.TheVariants as mark
use Rattle.pf_lex.proofs.Parts.{ArePart, Closed, Gap, Optional, Part, a_blank, a_comma, a_duration, a_greater, a_less, a_minus, a_number, a_percent, a_plus, a_slash, a_string, a_times, a_word, all_separated, an_at, at_least, at_most, bracketed, close_brace, close_bracket, closed_closed, closed_is_part, closed_part, gap_closed, gap_is_closed, gap_is_option, gap_part, not_equal, nothing, open_brace, open_bracket, option_gap, option_is_part, option_option, part_gap, two_equal, word_read}
use Rattle.pf_lex.proofs.Spelled.{Reads, done, token, whole_text}
use Rattle.pf_lex.proofs.TokenTexts.{duration_text, one_spelled, two_spelled}

-- ---- words

range_word : (f : RangeFn) → is_plain_word (range_name f) ≡ true
range_word ranged.Increase = refl
range_word ranged.Rate = refl
range_word ranged.Delta = refl
range_word ranged.Irate = refl
range_word ranged.Idelta = refl
range_word ranged.Changes = refl
range_word ranged.Resets = refl
range_word ranged.AvgOverTime = refl
range_word ranged.SumOverTime = refl
range_word ranged.MinOverTime = refl
range_word ranged.MaxOverTime = refl
range_word ranged.CountOverTime = refl
range_word ranged.LastOverTime = refl
range_word ranged.PresentOverTime = refl
range_word ranged.AbsentOverTime = refl

instant_word : (f : InstantFn) → is_plain_word (instant_name f) ≡ true
instant_word instant.Abs = refl
instant_word instant.Ceil = refl
instant_word instant.Floor = refl
instant_word instant.Sgn = refl
instant_word instant.Round = refl
instant_word instant.Clamp = refl
instant_word instant.ClampMin = refl
instant_word instant.ClampMax = refl
instant_word instant.Absent = refl
instant_word instant.Scalar = refl
instant_word instant.Vector = refl
instant_word instant.Time = refl
instant_word instant.Timestamp = refl
instant_word instant.LabelReplace = refl
instant_word instant.LabelJoin = refl

function_word : (f : Function) → is_plain_word (function_name f) ≡ true
function_word (called.Range f) = range_word f
function_word (called.Instant f) = instant_word f

aggregation_is : (op : AggOp) → is_plain_word (aggregation_word op) ≡ true
aggregation_is aggregation.Sum = refl
aggregation_is aggregation.Avg = refl
aggregation_is aggregation.Min = refl
aggregation_is aggregation.Max = refl
aggregation_is aggregation.Count = refl
aggregation_is aggregation.Group = refl
aggregation_is aggregation.Topk = refl
aggregation_is aggregation.Bottomk = refl
aggregation_is aggregation.Quantile = refl

an_operator : (s : Sign) → Part (operator_text s) (operator_sort s ∷ [])
an_operator operator.Add = closed_is_part (gap_is_closed a_plus)
an_operator operator.Sub = closed_is_part (gap_is_closed a_minus)
an_operator operator.Mul = closed_is_part (gap_is_closed a_times)
an_operator operator.Div = closed_is_part (gap_is_closed a_slash)
an_operator operator.Rem = closed_is_part (gap_is_closed a_percent)
an_operator operator.Equal = closed_is_part two_equal
an_operator operator.NotEqual = closed_is_part not_equal
an_operator operator.Less = a_less
an_operator operator.LessOrEqual = closed_is_part at_most
an_operator operator.Greater = a_greater
an_operator operator.GreaterOrEqual = closed_is_part at_least
an_operator operator.And = a_word (codes "and") refl
an_operator operator.Or = a_word (codes "or") refl
an_operator operator.Unless = a_word (codes "unless") refl

-- a word between blanks
spaced : (w : List ℕ) → is_plain_word w ≡ true → Gap (codes " " ++ (w ++ codes " ")) (word w ∷ [])
spaced w h = gap_closed a_blank (part_gap (a_word w h) a_blank)

-- ---- selectors

after_label : (s : MatchSign) (rest : List ℕ) → first_passes is_word_byte (match_text s ++ rest) ≡ false
after_label match.Equal rest = refl
after_label match.NotEqual rest = refl
after_label match.Like rest = refl
after_label match.NotLike rest = refl

before_quote : (c : ℕ) (cs xs : List ℕ) → 34 ∷ xs ≡ c ∷ cs → is_sign false (61 ∷ (c ∷ [])) ≡ false
before_quote c cs xs e = let q : 34 ≡ c = cc in ap (λ x. is_sign false (61 ∷ (x ∷ []))) (sym q)

a_match : (s : MatchSign) (bytes : List ℕ) → Closed (match_text s ++ string_text bytes) (sign (match_text s) ∷ string bytes ∷ [])
a_match match.Equal bytes = record { put = λ rest ss r. token (one_spelled false mark.Equal 61 (string_text bytes ++ rest) refl refl refl refl (λ c cs e. before_quote c cs ((text.string_bytes_of bytes ++ (34 ∷ [])) ++ rest) e)) ((a_string bytes).put rest ss r) }
a_match match.NotEqual bytes = closed_closed not_equal (a_string bytes)
a_match match.Like bytes = record { put = λ rest ss r. token (two_spelled false mark.Like 61 126 (string_text bytes ++ rest) refl refl refl refl) ((a_string bytes).put rest ss r) }
a_match match.NotLike bytes = record { put = λ rest ss r. token (two_spelled false mark.NotLike 33 126 (string_text bytes ++ rest) refl refl refl refl) ((a_string bytes).put rest ss r) }

a_matcher : (m : Matcher) → is_plain_word m.label ≡ true → Part (text.matcher_text m) (matcher_sorts m)
a_matcher m h = record {
  put = λ rest ss e r.
      let behind = match_text m.sign ++ string_text m.text in
      subst (λ xs. Reads false xs (matcher_sorts m ++ ss)) (sym (append_assoc m.label behind rest))
      (word_read m.label h (behind ++ rest) (sign (match_text m.sign) ∷ string m.text ∷ ss)
      (ap (first_passes is_word_byte) (append_assoc (match_text m.sign) (string_text m.text) rest) ∙ after_label m.sign (string_text m.text ++ rest)) ((a_match m.sign m.text).put rest ss r));
}

the_matchers : (ms : List Matcher) → HaveWords ms → ArePart (map text.matcher_text ms) (map matcher_sorts ms)
the_matchers [] h = tt
the_matchers (m ∷ ms) h = let parts = and_parts (is_label m.label) (list_all (λ (m : Matcher). is_label m.label) ms) h in (a_matcher m (and_parts (is_plain_word m.label) _ parts.0).0, the_matchers ms parts.1)

a_selector : (ms : List Matcher) → HaveWords ms → Gap (text.selector_text ms) (selector_sorts ms)
a_selector ms h = gap_closed open_brace (part_gap (all_separated (codes ",") (map text.matcher_text ms) (map matcher_sorts ms) a_comma (the_matchers ms h)) close_brace)

-- ---- ranges

open_square : (rest : List ℕ) (ss : List Sort) → Reads true rest ss → Reads false (91 ∷ rest) (sign (codes "[") ∷ ss)
open_square rest ss r = token (one_spelled false mark.OpenSquare 91 rest refl refl refl refl (λ c cs e. refl)) r

close_square : (rest : List ℕ) (ss : List Sort) → Reads false rest ss → Reads true (93 ∷ rest) (sign (codes "]") ∷ ss)
close_square rest ss r = token (one_spelled true mark.CloseSquare 93 rest refl refl refl refl (λ c cs e. refl)) r

a_colon : (rest : List ℕ) (ss : List Sort) → Reads true rest ss → Reads true (58 ∷ rest) (sign (codes ":") ∷ ss)
a_colon rest ss r = token (one_spelled true mark.Colon 58 rest refl refl refl refl (λ c cs e. refl)) r

a_range : (range : Option ℕ) → IfSome range IsTime → Optional (text.range_text range) (range_sorts range)
a_range None h = nothing
a_range (Some n) h = gap_is_option (record {
  put = λ rest ss r.
      subst (λ xs. Reads false (91 ∷ xs) (sign (codes "[") ∷ duration n ∷ sign (codes "]") ∷ ss)) (sym (append_assoc (millis_text n) (93 ∷ []) rest))
      (open_square (millis_text n ++ (93 ∷ rest)) (duration n ∷ sign (codes "]") ∷ ss) (token (duration_text true n (93 ∷ rest) h refl) (close_square rest ss r)));
  apart = λ rest. refl;
})

-- ---- modifiers

at_sign : Gap (codes " @ ") (sign (codes "@") ∷ [])
at_sign = gap_closed a_blank (closed_closed (gap_is_closed an_at) (gap_is_closed a_blank))

brackets : Gap (codes "()") (sign (codes "(") ∷ sign (codes ")") ∷ [])
brackets = gap_closed open_bracket (gap_is_closed close_bracket)

an_at_time : (at : Option At) → IfSome at IsMoment → Optional (text.at_text at) (at_sorts at)
an_at_time None h = nothing
an_at_time (Some (Time millis)) h = gap_part at_sign (a_number (millis * 1000) (omega (arith, h)))
an_at_time (Some Start) h = gap_is_option (gap_closed at_sign (part_gap (a_word (codes "start") refl) brackets))
an_at_time (Some End) h = gap_is_option (gap_closed at_sign (part_gap (a_word (codes "end") refl) brackets))

an_offset : (z : ℤ) → IsOffset z → Optional (text.offset_text z) (offset_sorts z)
an_offset (pos zero) h = nothing
an_offset (pos (suc n)) h = gap_part (spaced (codes "offset") refl) (a_duration (suc n) h)
an_offset (negsuc n) h = gap_part (gap_closed (spaced (codes "offset") refl) (gap_is_closed a_minus)) (a_duration (suc n) h)

the_mods : (mods : Mods) → AreMods mods → Optional (text.mods_text mods) (mods_sorts mods)
the_mods mods h = option_option (an_at_time mods.at h.0) (an_offset mods.offset h.1)

-- ---- labels

comma_blank : Gap (codes ", ") (sign (codes ",") ∷ [])
comma_blank = gap_closed a_comma (gap_is_closed a_blank)

each_label : (labels : List (List ℕ)) → AreWords labels → ArePart labels (map label_sort labels)
each_label [] h = tt
each_label (l ∷ ls) h = let parts = and_parts (is_label l) (list_all is_label ls) h in (a_word l (and_parts (is_plain_word l) _ parts.0).0, each_label ls parts.1)

the_labels : (labels : List (List ℕ)) → AreWords labels → Gap (text.names_text labels) (labels_sorts labels)
the_labels labels h = bracketed (all_separated (codes ", ") labels (map label_sort labels) comma_blank (each_label labels h))

a_bool : (b : Bool) → Optional (text.bool_text b) (bool_sorts b)
a_bool false = nothing
a_bool true = gap_part a_blank (a_word (codes "bool") refl)

the_keys : (m : Matched) → AreWords m.labels → Optional (text.keys_text m) (keys_sorts m)
the_keys m h = by (is_nil m.labels && not m.on && is_one m.side) m.on
  where
    by : (none on : Bool) → Optional (cond none [] (cond on (codes " on ") (codes " ignoring ") ++ text.names_text m.labels)) (cond none [] (word (cond on (codes "on") (codes "ignoring")) ∷ labels_sorts m.labels))
    by true on = nothing
    by false true = gap_is_option (gap_closed (spaced (codes "on") refl) (gap_is_closed (the_labels m.labels h)))
    by false false = gap_is_option (gap_closed (spaced (codes "ignoring") refl) (gap_is_closed (the_labels m.labels h)))

the_group : (s : Side) (include : List (List ℕ)) → AreWords include → Optional (text.group_text s include) (group_sorts s include)
the_group side.One include h = nothing
the_group side.Left include h = gap_is_option (gap_closed (spaced (codes "group_left") refl) (gap_is_closed (the_labels include h)))
the_group side.Right include h = gap_is_option (gap_closed (spaced (codes "group_right") refl) (gap_is_closed (the_labels include h)))

the_grouping : (g : Grouped) → AreWords g.labels → Gap (text.grouping_text g) (grouping_sorts g)
the_grouping g h = by g.without
  where
    by : (without : Bool) → Gap (cond without (codes " without ") (codes " by ") ++ text.names_text g.labels) (word (cond without (codes "without") (codes "by")) ∷ labels_sorts g.labels)
    by true = gap_closed (spaced (codes "without") refl) (gap_is_closed (the_labels g.labels h))
    by false = gap_closed (spaced (codes "by") refl) (gap_is_closed (the_labels g.labels h))

-- ---- subqueries

a_resolution : (resolution : Option ℕ) (rest : List ℕ) (ss : List Sort) → IfSome resolution IsTime → first_passes is_word_byte rest ≡ false → Reads true rest ss
    → Reads true (text.resolution_text resolution ++ rest) (resolution_sorts resolution ++ ss)
a_resolution None rest ss h e r = r
a_resolution (Some n) rest ss h e r = token (duration_text true n rest h (no_letter rest e)) r
  where
    no_letter : (rest : List ℕ) → first_passes is_word_byte rest ≡ false → first_passes goes_on rest ≡ false
    no_letter [] h = refl
    no_letter (b ∷ bs) h = (or_parts (goes_on b) (nat_eq b 58) h).0

a_window : (range : ℕ) (resolution : Option ℕ) (mods : Mods) → IsTime range → IfSome resolution IsTime → AreMods mods
    → Part (codes "[" ++ (millis_text range ++ (codes ":" ++ (text.resolution_text resolution ++ (codes "]" ++ text.mods_text mods)))))
    (sign (codes "[") ∷ duration range ∷ sign (codes ":") ∷ (resolution_sorts resolution ++ (sign (codes "]") ∷ mods_sorts mods)))
a_window range resolution mods h k m = record {
  put = λ rest ss e r.
      let steps = text.resolution_text resolution in
      let moments = text.mods_text mods in
      let sorts = resolution_sorts resolution in
      let left = mods_sorts mods in
      let bytes : (millis_text range ++ (58 ∷ (steps ++ (93 ∷ moments)))) ++ rest ≡ millis_text range ++ (58 ∷ (steps ++ (93 ∷ (moments ++ rest)))) =
      append_assoc (millis_text range) (58 ∷ (steps ++ (93 ∷ moments))) rest ∙ ap (λ xs. millis_text range ++ (58 ∷ xs)) (append_assoc steps (93 ∷ moments) rest) in
      let kinds : (sorts ++ (sign (codes "]") ∷ left)) ++ ss ≡ sorts ++ (sign (codes "]") ∷ (left ++ ss)) = append_assoc sorts (sign (codes "]") ∷ left) ss in
      subst (λ xs. Reads false (91 ∷ xs) (sign (codes "[") ∷ duration range ∷ sign (codes ":") ∷ ((sorts ++ (sign (codes "]") ∷ left)) ++ ss))) (sym bytes)
      (subst (λ xs. Reads false (91 ∷ (millis_text range ++ (58 ∷ (steps ++ (93 ∷ (moments ++ rest)))))) (sign (codes "[") ∷ duration range ∷ sign (codes ":") ∷ xs)) (sym kinds)
      (open_square _ _ (token (duration_text true range (58 ∷ (steps ++ (93 ∷ (moments ++ rest)))) h refl)
      (a_colon _ _ (a_resolution resolution (93 ∷ (moments ++ rest)) (sign (codes "]") ∷ (left ++ ss)) k refl (close_square (moments ++ rest) (left ++ ss) ((the_mods mods m).put rest ss e r)))))));
}

-- ---- trees

mutual
  canonical_part : (t : Tree) → IsPrintable t → Part (canonical t) (sorts_of t)
  canonical_part (tree.number (pos n)) h = a_number n h
  canonical_part (tree.number (negsuc n)) h = absurd h
  canonical_part (tree.text bytes) h = closed_is_part (a_string bytes)
  canonical_part (tree.unary true e) h = closed_is_part (closed_closed (gap_is_closed a_minus) (gap_is_closed (bracketed (canonical_part e h))))
  canonical_part (tree.unary false e) h = closed_is_part (closed_closed (gap_is_closed a_plus) (gap_is_closed (bracketed (canonical_part e h))))
  canonical_part (tree.binary op m a b) h =
      closed_is_part (closed_closed (gap_is_closed (bracketed (canonical_part a h.2))) (closed_closed (gap_is_closed a_blank)
      (part_gap (an_operator op.sign) (option_gap (a_bool op.with_bool) (option_gap (the_keys m h.0) (option_gap (the_group m.side m.include h.1)
      (gap_closed a_blank (gap_is_closed (bracketed (canonical_part b h.3))))))))))
  canonical_part (tree.call f args) h = closed_is_part (part_gap (a_word (function_name f) (function_word f)) (bracketed (all_separated (codes ", ") (canonicals args) (all_sorts args) comma_blank (canonical_parts args h))))
  canonical_part (tree.aggregate op g args) h =
      closed_is_part (part_gap (a_word (aggregation_word op) (aggregation_is op)) (gap_closed (the_grouping g h.0)
      (gap_is_closed (gap_closed a_blank (gap_is_closed (bracketed (all_separated (codes ", ") (canonicals args) (all_sorts args) comma_blank (canonical_parts args h.1))))))))
  canonical_part (tree.select ms range mods) h = closed_part (gap_is_closed (a_selector ms h.0)) (option_is_part (option_option (a_range range h.1) (the_mods mods h.2)))
  canonical_part (tree.subquery e range resolution mods) h = closed_part (gap_is_closed (bracketed (canonical_part e h.0))) (a_window range resolution mods h.1 h.2 h.3)

  canonical_parts : (ts : Trees) → ArePrintable ts → ArePart (canonicals ts) (all_sorts ts)
  canonical_parts none h = tt
  canonical_parts (more e es) h = (canonical_part e h.0, canonical_parts es h.1)

all_of : (xs : List ℕ) → xs ++ [] ≡ xs
all_of xs = append-nil xs

all_sorts_of : (ss : List Sort) → ss ++ [] ≡ ss
all_sorts_of ss = append-nil ss

-- the canonical text of any query is cut into its tokens
pub canonical_is_cut : IsCut canonical
canonical_is_cut t h =
    whole_text (canonical t) (sorts_of t)
    (subst (λ xs. Reads false xs (sorts_of t)) (all_of (canonical t)) (subst (Reads false (canonical t ++ [])) (all_sorts_of (sorts_of t)) ((canonical_part t h).put [] [] refl (done false))))
