-- A canonical text within the limit of bytes is read as its tree: its brackets are no deeper than the tree, its names are
-- functions', and its times are within the limit.
use Rattle.std.proofs.Common.{◌≡◌, ◌∙◌, sym, refl, ap, subst, ℕ, zero, suc, ℤ, pos, negsuc, ◌+◌, ◌-◌, ◌*◌, ◌/◌, ◌<◌, ◌≤◌, Bool, true, false, not, cond, ◌&&◌, List, [], ◌∷◌, ◌++◌, map, length, nat_le, nat_lt, Option, Some, None, IfSome, Result, Ok, Err, IfOk, codes, arith}
use Rattle.std.proofs.lemmas.Bool.{lt-leb}
use Rattle.std.proofs.lemmas.List.{append_assoc, append-nil}
use Rattle.std.specs.Option.{is_none}
use Rattle.pf_base.specs.Limits.{greatest_time}
use Rattle.pf_lex.proofs.CanonicalTexts.{canonical_is_cut}
use Rattle.pf_lex.proofs.Printable.{can_be_printed}
use Rattle.pf_lex.specs.CanonicalTokens.{HasTree, IsPrintable, ArePrintable, IsTime, AreMods, IsOffset, in_brackets, behind_commas, separated, matcher_sorts, selector_sorts, range_sorts, at_sorts, offset_sorts, mods_sorts, label_sort, labels_sorts, bool_sorts, operator_sort, keys_sorts, group_sorts, grouping_sorts, resolution_sorts, sorts_of, all_sorts}
use Rattle.pf_lex.specs.CanonicalTokens as shown
use Rattle.pf_model.specs.Canonical.{canonical, is_one}
use Rattle.pf_model.specs.Clauses.{Matched}
use Rattle.pf_model.specs.declared.expr.At.{At}
use Rattle.pf_model.specs.declared.expr.At.TheVariants as at
use Rattle.pf_model.specs.declared.expr.Function.{Function}
use Rattle.pf_model.specs.declared.expr.Function.TheVariants as called
use Rattle.pf_model.specs.declared.expr.Matcher.{Matcher}
use Rattle.pf_model.specs.declared.expr.MatchSign.{MatchSign}
use Rattle.pf_model.specs.declared.expr.MatchSign.TheVariants as match
use Rattle.pf_model.specs.declared.expr.Mods.{Mods}
use Rattle.pf_model.specs.declared.expr.Side.{Side}
use Rattle.pf_model.specs.declared.expr.Side.TheVariants as side
use Rattle.pf_model.specs.declared.functions.AggOp.{AggOp}
use Rattle.pf_model.specs.declared.functions.AggOp.TheVariants as aggregation
use Rattle.pf_model.specs.declared.functions.InstantFn.TheVariants as instant
use Rattle.pf_model.specs.declared.functions.RangeFn.TheVariants as ranged
use Rattle.pf_model.specs.declared.functions.Sign.{Sign}
use Rattle.pf_model.specs.declared.functions.Sign.TheVariants as operator
use Rattle.pf_model.proofs.OneAnswer.{tokens_are_one}
use Rattle.pf_model.specs.Grammar.{Derives, is_nil}
use Rattle.pf_model.specs.Parsing.{sorts, opens, open_behind, is_the_sign, is_too_large, is_behind_at, is_unknown, too_deep_at, unknown_at, too_large_at, Parses}
use Rattle.pf_model.specs.Parsing as parsing
use Rattle.pf_model.specs.Tokens.{Sort, Token, word, number, duration, string, sign}
use Rattle.pf_model.specs.Trees.{Tree, Trees, height, heights}
use Rattle.pf_model.specs.Trees as tree
use Rattle.pf_model.specs.Words.{aggregation_word, function_name, function_of, is_keyword, match_text}
use Rattle.pf_parse.proofs.OneTree.{one_derived}
use Rattle.pf_print.specs.Printed.{IsDerivedBy}
use Rattle.pf_print.proofs.CanonicalDerived.{IsWell, canonical_derives, well_derives}

abbrev begins : List Sort → Bool
begins [] = false
begins (s ∷ ss) = is_the_sign (codes "(") s

abbrev lost : Sort → List Sort → Bool
lost (word w) ss = not (is_keyword w) && begins ss && is_none (function_of w)
lost (number n) ss = false
lost (duration d) ss = false
lost (string s) ss = false
lost (sign s) ss = false

-- no scan stops: so many brackets are open, and the flags say whether an `@` stands before
abbrev Fine : ℕ → Bool → Bool → List Sort → Type 0
Fine c a b [] = Unit {0}
Fine c a b (s ∷ ss) =
    ((opens s && nat_le 64 c) ≡ false) × ((not a && lost s ss) ≡ false) × (is_too_large b s ≡ false)
    × Fine (open_behind c s) (is_the_sign (codes "@") s) (is_behind_at b s) ss

record Scan (c : ℕ) (a b : Bool) (ss : List Sort) : Type 0 where
  is : Fine c a b ss

abbrev Quiet : ℕ → List Sort → Type 0
Quiet c ss = Scan c false false ss

step : {c : ℕ} {a b : Bool} {s : Sort} {ss : List Sort} → (opens s && nat_le 64 c) ≡ false → (not a && lost s ss) ≡ false
    → is_too_large b s ≡ false → Scan (open_behind c s) (is_the_sign (codes "@") s) (is_behind_at b s) ss → Scan c a b (s ∷ ss)
step x y z q = record { is = (x, y, z, q.is) }

room : (c : ℕ) → c < 64 → nat_le 64 c ≡ false
room c h = lt-leb 64 c h

plus_less : (c : ℕ) → c + 1 - 1 ≡ c
plus_less c = omega arith

closing : (c : ℕ) (zs : List Sort) → Quiet c zs → Quiet (c + 1) (sign (codes ")") ∷ zs)
closing c zs q = (step refl refl refl (subst (λ n. Quiet n zs) (sym (plus_less c)) q))

bracketed : (c : ℕ) (xs zs : List Sort) → c < 64 → Quiet (c + 1) (xs ++ (sign (codes ")") ∷ zs)) → Quiet c (in_brackets xs ++ zs)
bracketed c xs zs h q =
    (step (room c h) refl refl (subst (Quiet (c + 1)) (sym (append_assoc xs (sign (codes ")") ∷ []) zs)) q))

in_time : (d : ℕ) → IsTime d → nat_lt greatest_time d ≡ false
in_time d h = lt-leb (suc greatest_time) d (omega (arith, h))

no_bracket : (x y : Bool) → (x && false && y) ≡ false
no_bracket true y = refl
no_bracket false y = refl

-- ---- labels and matchers

label_fine : (c : ℕ) (l : List ℕ) (s : List ℕ) (zs : List Sort) → is_the_sign (codes "(") (sign s) ≡ false → Quiet c (sign s ∷ zs)
    → Quiet c (word l ∷ sign s ∷ zs)
label_fine c l s zs h q =
    (step refl (ap (λ b. not (is_keyword l) && b && is_none (function_of l)) h ∙ no_bracket (not (is_keyword l)) (is_none (function_of l))) refl q)

commas_fine : (c : ℕ) (ls : List (List ℕ)) (zs : List Sort) → Quiet c zs
    → Quiet (c + 1) (behind_commas (map label_sort ls) ++ (sign (codes ")") ∷ zs))
commas_fine c [] zs q = closing c zs q
commas_fine c (l ∷ []) zs q = (step refl refl refl (label_fine (c + 1) l (codes ")") zs refl (closing c zs q)))
commas_fine c (l ∷ m ∷ ls) zs q =
    (step refl refl refl (label_fine (c + 1) l (codes ",") _ refl (commas_fine c (m ∷ ls) zs q)))

names_fine : (c : ℕ) (ls : List (List ℕ)) (zs : List Sort) → Quiet c zs
    → Quiet (c + 1) (separated (map label_sort ls) ++ (sign (codes ")") ∷ zs))
names_fine c [] zs q = closing c zs q
names_fine c (l ∷ []) zs q = label_fine (c + 1) l (codes ")") zs refl (closing c zs q)
names_fine c (l ∷ m ∷ ls) zs q = label_fine (c + 1) l (codes ",") _ refl (commas_fine c (m ∷ ls) zs q)

labels_fine : (c : ℕ) (ls : List (List ℕ)) (zs : List Sort) → c < 64 → Quiet c zs → Quiet c (labels_sorts ls ++ zs)
labels_fine c ls zs h q = bracketed c (separated (map label_sort ls)) zs h (names_fine c ls zs q)

sign_fine : (c : ℕ) (s : MatchSign) (zs : List Sort) → Quiet c zs → Quiet c (sign (match_text s) ∷ zs)
sign_fine c match.Equal zs q = (step refl refl refl q)
sign_fine c match.NotEqual zs q = (step refl refl refl q)
sign_fine c match.Like zs q = (step refl refl refl q)
sign_fine c match.NotLike zs q = (step refl refl refl q)

no_match_bracket : (s : MatchSign) → is_the_sign (codes "(") (sign (match_text s)) ≡ false
no_match_bracket match.Equal = refl
no_match_bracket match.NotEqual = refl
no_match_bracket match.Like = refl
no_match_bracket match.NotLike = refl

matcher_fine : (c : ℕ) (m : Matcher) (zs : List Sort) → Quiet c zs → Quiet c (matcher_sorts m ++ zs)
matcher_fine c m zs q =
    label_fine c m.label (match_text m.sign) (string m.text ∷ zs) (no_match_bracket m.sign)
    (sign_fine c m.sign (string m.text ∷ zs) (step refl refl refl q))

brace_fine : (c : ℕ) (zs : List Sort) → Quiet c zs → Quiet (c + 1) (sign (codes "}") ∷ zs)
brace_fine c zs q = (step refl refl refl (subst (λ n. Quiet n zs) (sym (plus_less c)) q))

matchers_behind : (c : ℕ) (ms : List Matcher) (zs : List Sort) → Quiet c zs
    → Quiet (c + 1) (behind_commas (map matcher_sorts ms) ++ (sign (codes "}") ∷ zs))
matchers_behind c [] zs q = brace_fine c zs q
matchers_behind c (m ∷ ms) zs q = (step refl refl refl (matcher_fine (c + 1) m _ (matchers_behind c ms zs q)))

matchers_fine : (c : ℕ) (ms : List Matcher) (zs : List Sort) → Quiet c zs
    → Quiet (c + 1) (separated (map matcher_sorts ms) ++ (sign (codes "}") ∷ zs))
matchers_fine c [] zs q = brace_fine c zs q
matchers_fine c (m ∷ ms) zs q = matcher_fine (c + 1) m _ (matchers_behind c ms zs q)

selector_fine : (c : ℕ) (ms : List Matcher) (zs : List Sort) → c < 64 → Quiet c zs → Quiet c (selector_sorts ms ++ zs)
selector_fine c ms zs h q =
    (step (room c h) refl refl (subst (Quiet (c + 1)) (sym (append_assoc (separated (map matcher_sorts ms)) (sign (codes "}") ∷ []) zs)) (matchers_fine c ms zs q)))

-- ---- ranges and modifiers

square_fine : (c : ℕ) (zs : List Sort) → Quiet c zs → Quiet (c + 1) (sign (codes "]") ∷ zs)
square_fine c zs q = (step refl refl refl (subst (λ n. Quiet n zs) (sym (plus_less c)) q))

duration_fine : (c d : ℕ) (zs : List Sort) → IsTime d → Quiet c zs → Quiet c (duration d ∷ zs)
duration_fine c d zs t q = (step refl refl (in_time d t) q)

range_fine : (c : ℕ) (r : Option ℕ) (zs : List Sort) → c < 64 → IfSome r IsTime → Quiet c zs → Quiet c (range_sorts r ++ zs)
range_fine c None zs h t q = q
range_fine c (Some d) zs h t q = (step (room c h) refl refl (duration_fine (c + 1) d _ t (square_fine c zs q)))

moment_late : (m : ℕ) → IsTime m → nat_lt greatest_time (m * 1000 / 1000) ≡ false
moment_late m h = lt-leb (suc greatest_time) (m * 1000 / 1000) (omega (arith, h))

at_fine : (c : ℕ) (a : Option At) (zs : List Sort) → c < 64 → IfSome a shown.IsMoment → Quiet c zs → Quiet c (at_sorts a ++ zs)
at_fine c None zs h t q = q
at_fine c (Some (at.Time m)) zs h t q = (step refl refl refl ((step refl refl (moment_late m t) q)))
at_fine c (Some at.Start) zs h t q = (step refl refl refl ((step refl refl refl ((step (room c h) refl refl (closing c zs q))))))
at_fine c (Some at.End) zs h t q = (step refl refl refl ((step refl refl refl ((step (room c h) refl refl (closing c zs q))))))

offset_fine : (c : ℕ) (o : ℤ) (zs : List Sort) → IsOffset o → Quiet c zs → Quiet c (offset_sorts o ++ zs)
offset_fine c (pos zero) zs t q = q
offset_fine c (pos (suc n)) zs t q = (step refl refl refl (duration_fine c (suc n) zs t q))
offset_fine c (negsuc n) zs t q = (step refl refl refl ((step refl refl refl (duration_fine c (suc n) zs t q))))

mods_fine : (c : ℕ) (m : Mods) (zs : List Sort) → c < 64 → AreMods m → Quiet c zs → Quiet c (mods_sorts m ++ zs)
mods_fine c m zs h t q =
    subst (Quiet c) (sym (append_assoc (at_sorts m.at) (offset_sorts m.offset) zs))
    (at_fine c m.at (offset_sorts m.offset ++ zs) h t.0 (offset_fine c m.offset zs t.1 q))

resolution_fine : (c : ℕ) (r : Option ℕ) (zs : List Sort) → IfSome r IsTime → Quiet c zs → Quiet c (resolution_sorts r ++ zs)
resolution_fine c None zs t q = q
resolution_fine c (Some r) zs t q = duration_fine c r zs t q

-- ---- operators

bool_fine : (c : ℕ) (b : Bool) (zs : List Sort) → Quiet c zs → Quiet c (bool_sorts b ++ zs)
bool_fine c true zs q = (step refl refl refl q)
bool_fine c false zs q = q

on_fine : (c : ℕ) (on : Bool) (zs : List Sort) → Quiet c zs → Quiet c (word (cond on (codes "on") (codes "ignoring")) ∷ zs)
on_fine c true zs q = (step refl refl refl q)
on_fine c false zs q = (step refl refl refl q)

keys_fine : (c : ℕ) (m : Matched) (zs : List Sort) → c < 64 → Quiet c zs → Quiet c (keys_sorts m ++ zs)
keys_fine c m zs h q = by_test (is_nil m.labels && not m.on && is_one m.side)
  where
    by_test : (t : Bool) → Quiet c (cond t [] (word (cond m.on (codes "on") (codes "ignoring")) ∷ labels_sorts m.labels) ++ zs)
    by_test true = q
    by_test false = on_fine c m.on (labels_sorts m.labels ++ zs) (labels_fine c m.labels zs h q)

group_fine : (c : ℕ) (s : Side) (i : List (List ℕ)) (zs : List Sort) → c < 64 → Quiet c zs → Quiet c (group_sorts s i ++ zs)
group_fine c side.One i zs h q = q
group_fine c side.Left i zs h q = (step refl refl refl (labels_fine c i zs h q))
group_fine c side.Right i zs h q = (step refl refl refl (labels_fine c i zs h q))

grouping_fine : (c : ℕ) (w : Bool) (ls : List (List ℕ)) (zs : List Sort) → c < 64 → Quiet c zs
    → Quiet c (grouping_sorts (record { without = w; labels = ls }) ++ zs)
grouping_fine c true ls zs h q = (step refl refl refl (labels_fine c ls zs h q))
grouping_fine c false ls zs h q = (step refl refl refl (labels_fine c ls zs h q))

operator_fine : (c : ℕ) (s : Sign) (zs : List Sort) → Quiet c zs → Quiet c (operator_sort s ∷ zs)
operator_fine c operator.Add zs q = (step refl refl refl q)
operator_fine c operator.Sub zs q = (step refl refl refl q)
operator_fine c operator.Mul zs q = (step refl refl refl q)
operator_fine c operator.Div zs q = (step refl refl refl q)
operator_fine c operator.Rem zs q = (step refl refl refl q)
operator_fine c operator.Equal zs q = (step refl refl refl q)
operator_fine c operator.NotEqual zs q = (step refl refl refl q)
operator_fine c operator.Less zs q = (step refl refl refl q)
operator_fine c operator.LessOrEqual zs q = (step refl refl refl q)
operator_fine c operator.Greater zs q = (step refl refl refl q)
operator_fine c operator.GreaterOrEqual zs q = (step refl refl refl q)
operator_fine c operator.And zs q = (step refl refl refl q)
operator_fine c operator.Or zs q = (step refl refl refl q)
operator_fine c operator.Unless zs q = (step refl refl refl q)

aggregation_fine : (c : ℕ) (op : AggOp) (zs : List Sort) → Quiet c zs → Quiet c (word (aggregation_word op) ∷ zs)
aggregation_fine c aggregation.Sum zs q = (step refl refl refl q)
aggregation_fine c aggregation.Avg zs q = (step refl refl refl q)
aggregation_fine c aggregation.Min zs q = (step refl refl refl q)
aggregation_fine c aggregation.Max zs q = (step refl refl refl q)
aggregation_fine c aggregation.Count zs q = (step refl refl refl q)
aggregation_fine c aggregation.Group zs q = (step refl refl refl q)
aggregation_fine c aggregation.Topk zs q = (step refl refl refl q)
aggregation_fine c aggregation.Bottomk zs q = (step refl refl refl q)
aggregation_fine c aggregation.Quantile zs q = (step refl refl refl q)

front_fine : (c : ℕ) (minus : Bool) (zs : List Sort) → Quiet c zs → Quiet c (sign (cond minus (codes "-") (codes "+")) ∷ zs)
front_fine c true zs q = (step refl refl refl q)
front_fine c false zs q = (step refl refl refl q)

name_fine : (c : ℕ) (f : Function) (xs : List Sort) → Quiet c (sign (codes "(") ∷ xs) → Quiet c (word (function_name f) ∷ sign (codes "(") ∷ xs)
name_fine c (called.Range ranged.Increase) xs q = (step refl refl refl q)
name_fine c (called.Range ranged.Rate) xs q = (step refl refl refl q)
name_fine c (called.Range ranged.Delta) xs q = (step refl refl refl q)
name_fine c (called.Range ranged.Irate) xs q = (step refl refl refl q)
name_fine c (called.Range ranged.Idelta) xs q = (step refl refl refl q)
name_fine c (called.Range ranged.Changes) xs q = (step refl refl refl q)
name_fine c (called.Range ranged.Resets) xs q = (step refl refl refl q)
name_fine c (called.Range ranged.AvgOverTime) xs q = (step refl refl refl q)
name_fine c (called.Range ranged.SumOverTime) xs q = (step refl refl refl q)
name_fine c (called.Range ranged.MinOverTime) xs q = (step refl refl refl q)
name_fine c (called.Range ranged.MaxOverTime) xs q = (step refl refl refl q)
name_fine c (called.Range ranged.CountOverTime) xs q = (step refl refl refl q)
name_fine c (called.Range ranged.LastOverTime) xs q = (step refl refl refl q)
name_fine c (called.Range ranged.PresentOverTime) xs q = (step refl refl refl q)
name_fine c (called.Range ranged.AbsentOverTime) xs q = (step refl refl refl q)
name_fine c (called.Instant instant.Abs) xs q = (step refl refl refl q)
name_fine c (called.Instant instant.Ceil) xs q = (step refl refl refl q)
name_fine c (called.Instant instant.Floor) xs q = (step refl refl refl q)
name_fine c (called.Instant instant.Sgn) xs q = (step refl refl refl q)
name_fine c (called.Instant instant.Round) xs q = (step refl refl refl q)
name_fine c (called.Instant instant.Clamp) xs q = (step refl refl refl q)
name_fine c (called.Instant instant.ClampMin) xs q = (step refl refl refl q)
name_fine c (called.Instant instant.ClampMax) xs q = (step refl refl refl q)
name_fine c (called.Instant instant.Absent) xs q = (step refl refl refl q)
name_fine c (called.Instant instant.Scalar) xs q = (step refl refl refl q)
name_fine c (called.Instant instant.Vector) xs q = (step refl refl refl q)
name_fine c (called.Instant instant.Time) xs q = (step refl refl refl q)
name_fine c (called.Instant instant.Timestamp) xs q = (step refl refl refl q)
name_fine c (called.Instant instant.LabelReplace) xs q = (step refl refl refl q)
name_fine c (called.Instant instant.LabelJoin) xs q = (step refl refl refl q)

-- ---- all queries

mutual
  fine : (t : Tree) (c : ℕ) (zs : List Sort) → IsPrintable t → c + height t ≤ 64 → Quiet c zs → Quiet c (sorts_of t ++ zs)
  fine (tree.number n) c zs p h q = (step refl refl refl q)
  fine (tree.text s) c zs p h q = (step refl refl refl q)
  fine (tree.unary minus e) c zs p h q =
      front_fine c minus (in_brackets (sorts_of e) ++ zs)
      (bracketed c (sorts_of e) zs (omega (arith, h)) (fine e (c + 1) _ p (omega (arith, h)) (closing c zs q)))
  fine (tree.binary op m a b) c zs p h q =
      let last = bracketed c (sorts_of b) zs (omega (arith, h)) (fine b (c + 1) _ p.3 (omega (arith, h)) (closing c zs q)) in
      let rest = in_brackets (sorts_of b) in
      let g = subst (Quiet c) (sym (append_assoc (group_sorts m.side m.include) rest zs)) (group_fine c m.side m.include (rest ++ zs) (omega (arith, h)) last) in
      let k = subst (Quiet c) (sym (append_assoc (keys_sorts m) (group_sorts m.side m.include ++ rest) zs)) (keys_fine c m _ (omega (arith, h)) g) in
      let w = subst (Quiet c) (sym (append_assoc (bool_sorts op.with_bool) (keys_sorts m ++ (group_sorts m.side m.include ++ rest)) zs)) (bool_fine c op.with_bool _ k) in
      subst (Quiet c) (sym (append_assoc (in_brackets (sorts_of a)) _ zs))
      (bracketed c (sorts_of a) _ (omega (arith, h)) (fine a (c + 1) _ p.2 (omega (arith, h)) (closing c _ (operator_fine c op.sign _ w))))
  fine (tree.call f args) c zs p h q =
      name_fine c f _ (bracketed c (separated (all_sorts args)) zs (omega (arith, h))
      (all_fine args (c + 1) _ p (omega (arith, h)) (closing c zs q)))
  fine (tree.aggregate op g args) c zs p h q =
      aggregation_fine c op _
      (subst (Quiet c) (sym (append_assoc (grouping_sorts g) (in_brackets (separated (all_sorts args))) zs))
      (grouping_fine c g.without g.labels _ (omega (arith, h))
      (bracketed c (separated (all_sorts args)) zs (omega (arith, h))
      (all_fine args (c + 1) _ p.1 (omega (arith, h)) (closing c zs q)))))
  fine (tree.select ms r m) c zs p h q =
      subst (Quiet c) (sym (append_assoc (selector_sorts ms) (range_sorts r ++ mods_sorts m) zs))
      (selector_fine c ms _ (omega (arith, h))
      (subst (Quiet c) (sym (append_assoc (range_sorts r) (mods_sorts m) zs))
      (range_fine c r _ (omega (arith, h)) p.1 (mods_fine c m zs (omega (arith, h)) p.2 q))))
  fine (tree.subquery e d r m) c zs p h q =
      let inner = square_fine c _ (mods_fine c m zs (omega (arith, h)) p.3 q) in
      let res = subst (Quiet (c + 1)) (sym (append_assoc (resolution_sorts r) (sign (codes "]") ∷ mods_sorts m) zs)) (resolution_fine (c + 1) r _ p.2 inner) in
      subst (Quiet c) (sym (append_assoc (in_brackets (sorts_of e)) _ zs))
      (bracketed c (sorts_of e) _ (omega (arith, h))
      (fine e (c + 1) _ p.0 (omega (arith, h))
      (closing c _ (step (room c (omega (arith, h))) refl refl (duration_fine (c + 1) d _ p.1 (step refl refl refl (res)))))))

  all_fine : (ts : Trees) (c : ℕ) (zs : List Sort) → ArePrintable ts → c + heights ts ≤ 64 → Quiet c zs
      → Quiet c (separated (all_sorts ts) ++ zs)
  all_fine tree.none c zs p h q = q
  all_fine (tree.more e es) c zs p h q =
      subst (Quiet c) (sym (append_assoc (sorts_of e) (behind_commas (all_sorts es)) zs))
      (fine e c _ p.0 (omega (arith, h)) (rest_fine es c zs p.1 (omega (arith, h)) q))

  rest_fine : (ts : Trees) (c : ℕ) (zs : List Sort) → ArePrintable ts → c + heights ts ≤ 64 → Quiet c zs
      → Quiet c (behind_commas (all_sorts ts) ++ zs)
  rest_fine tree.none c zs p h q = q
  rest_fine (tree.more e es) c zs p h q =
      (step refl refl refl (subst (Quiet c) (sym (append_assoc (sorts_of e) (behind_commas (all_sorts es)) zs))
      (fine e c _ p.0 (omega (arith, h)) (rest_fine es c zs p.1 (omega (arith, h)) q))))

-- ---- the scans

begins_same : (ts : List Token) → parsing.begins_with_bracket ts ≡ begins (sorts ts)
begins_same [] = refl
begins_same (t ∷ ts) = refl

lost_same : (s : Sort) (ts : List Token) → is_unknown s ts ≡ lost s (sorts ts)
lost_same (word w) ts = ap (λ b. not (is_keyword w) && b && is_none (function_of w)) (begins_same ts)
lost_same (number n) ts = refl
lost_same (duration n) ts = refl
lost_same (string n) ts = refl
lost_same (sign n) ts = refl

not_deep : (c : ℕ) (a b : Bool) (ts : List Token) → Fine c a b (sorts ts) → too_deep_at c ts ≡ None
not_deep c a b [] f = refl
not_deep c a b (t ∷ ts) f =
    ap (λ x. cond x (Some t.from) (too_deep_at (open_behind c t.sort) ts)) f.0 ∙ not_deep (open_behind c t.sort) _ _ ts f.3

not_unknown : (c : ℕ) (a b : Bool) (ts : List Token) → Fine c a b (sorts ts) → unknown_at a ts ≡ None
not_unknown c a b [] f = refl
not_unknown c a b (t ∷ ts) f =
    ap (λ x. cond x (Some t.from) (unknown_at (is_the_sign (codes "@") t.sort) ts)) (ap (λ x. not a && x) (lost_same t.sort ts) ∙ f.1)
    ∙ not_unknown (open_behind c t.sort) (is_the_sign (codes "@") t.sort) _ ts f.3

not_late : (c : ℕ) (a b : Bool) (ts : List Token) → Fine c a b (sorts ts) → too_large_at b ts ≡ None
not_late c a b [] f = refl
not_late c a b (t ∷ ts) f =
    ap (λ x. cond x (Some t.from) (too_large_at (is_behind_at b t.sort) ts)) f.2
    ∙ not_late (open_behind c t.sort) (is_the_sign (codes "@") t.sort) (is_behind_at b t.sort) ts f.3

-- a tree's canonical text within the limit is read as this tree
pub read_back : (text : List ℕ) (t : Tree) → HasTree text t → height t ≤ 64 → length (canonical t) ≤ 65536 → Parses (canonical t) t
read_back text t h low l =
    let p = can_be_printed text t h in
    let c = canonical_is_cut t p in
    let d = canonical_derives text t h in
    let q = subst (Quiet 0) (append-nil (sorts_of t)) (fine t 0 [] p (omega (arith, low)) (record { is = tt })) in
    let e : Quiet 0 (sorts c.tokens) = subst (Quiet 0) (sym c.same) q in
    let s = tokens_are_one (canonical t) d.tokens c.tokens d.are_tokens c.are in
    let derives = subst (λ ts. Derives (sorts ts) t) s d.derives in
    record {
      is_tree = record {
        tokens = c.tokens;
        known = record {
          written = record {
            shallow = record { cut = record { short = l; are_tokens = c.are }; shallow = not_deep 0 false false c.tokens e.is };
            written = derives.written;
            derived = derives.derived;
          };
          known = not_unknown 0 false false c.tokens e.is;
        };
        times = not_late 0 false false c.tokens e.is;
        derives = derives;
      };
      low = low;
    }

pub printed_back : {E : Type 0} (t : Tree) (r : Result (List ℕ) E) → IfOk r (λ x. x ≡ canonical t) → (text : List ℕ) → HasTree text t
    → height t ≤ 64 → IfOk r (λ x. length x ≤ 65536 → Parses x t)
printed_back t (Ok x) e text h low = λ l. subst (λ y. Parses y t) (sym e) (read_back text t h low (subst (λ y. length y ≤ 65536) e l))
printed_back t (Err x) e text h low = tt

-- ---- no other tree

-- the canonical text of a tree of at most 64 levels derives no other tree, however long it is
pub only_one : (text : List ℕ) (t u : Tree) → HasTree text t → height t ≤ 64 → IsDerivedBy (canonical t) u → u ≡ t
only_one text t u h low_one d =
    let p = can_be_printed text t h in
    let c = canonical_is_cut t p in
    let g = canonical_derives text t h in
    let q = subst (Quiet 0) (append-nil (sorts_of t)) (fine t 0 [] p (omega (arith, low_one)) (record { is = tt })) in
    let e : Quiet 0 (sorts c.tokens) = subst (Quiet 0) (sym c.same) q in
    let k = not_unknown 0 false false c.tokens e.is in
    let l = not_late 0 false false c.tokens e.is in
    let a = subst (λ ts. Derives (sorts ts) t) (tokens_are_one (canonical t) g.tokens c.tokens g.are_tokens c.are) g.derives in
    let b = subst (λ ts. Derives (sorts ts) u) (tokens_are_one (canonical t) d.tokens c.tokens d.are_tokens c.are) d.derives in
    one_derived c.tokens t u a b k l low_one

pub printed_only : {E : Type 0} (t : Tree) (r : Result (List ℕ) E) → IfOk r (λ x. x ≡ canonical t) → (text : List ℕ) → HasTree text t
    → height t ≤ 64 → IfOk r (λ x. (u : Tree) → IsDerivedBy x u → u ≡ t)
printed_only t (Ok x) e text h l = λ u d. only_one text t u h l (subst (λ y. IsDerivedBy y u) e d)
printed_only t (Err x) e text h l = tt

-- ---- a tree that can be printed has a text

pub has_text : (t : Tree) → IsPrintable t → IsWell t → height t ≤ 64 → HasTree (canonical t) t
has_text t p w low =
    let c = canonical_is_cut t p in
    let d = well_derives t p w in
    let q = subst (Quiet 0) (append-nil (sorts_of t)) (fine t 0 [] p (omega (arith, low)) (record { is = tt })) in
    let e : Quiet 0 (sorts c.tokens) = subst (Quiet 0) (sym c.same) q in
    record {
      tokens = c.tokens;
      are_tokens = c.are;
      times = not_late 0 false false c.tokens e.is;
      derives = subst (λ ts. Derives (sorts ts) t) (tokens_are_one (canonical t) d.tokens c.tokens d.are_tokens c.are) d.derives;
    }
