-- What the scans and the reading of a text's tokens say of the text.
use Rattle.std.proofs.Common.{◌≡◌, ◌∙◌, sym, refl, ap, subst, ℕ, zero, suc, ◌+◌, ◌-◌, ◌<◌, ◌≤◌, nat_le, Bool, true, false, not, cond, ◌&&◌, ◌||◌, List, [], ◌∷◌, map, length, Some, None, Ok, Err, arith, codes}
use Rattle.std.proofs.lemmas.Bool.{le-leb, lt-leb, leb-true, leb-false}
use Rattle.std.specs.List.{All}
use Rattle.std.specs.Option.{is_none}
use Rattle.pf_base.specs.Limits.{greatest_time}
use Rattle.pf_lex.specs.declared.token.Mark.TheVariants as mark
use Rattle.pf_lex.specs.declared.token.Token.{Token}
use Rattle.pf_lex.specs.declared.token.TokenSort.{TokenSort}
use Rattle.pf_lex.specs.declared.token.TokenSort.TheVariants as sort
use Rattle.pf_lex.specs.Seen.{sort_of, text_of, token_of, IsTokenOf, IsExact, millis_of}
use Rattle.pf_model.specs.Parsing as parsing
use Rattle.pf_model.specs.Parsing.{sorts, IsCut, IsShallow, IsWritten, IsKnown, IsTree, Parses, Refuses, too_deep_at, unknown_at, too_large_at, place_of, too_deep, unexpected, unknown_name, time_too_large, too_tall}
use Rattle.pf_model.specs.Tokens as definition
use Rattle.pf_model.specs.Tokens.{AreTokens}
use Rattle.pf_model.specs.Trees.{Tree, height}
use Rattle.pf_model.specs.Words.{is_keyword, function_of}
use Rattle.pf_parse.specs.Held.{Held, low}
use Rattle.pf_parse.specs.Lexemes.{keyword_of}
use Rattle.pf_parse.specs.Reading.{run, start}
use Rattle.pf_parse.specs.Scans.{opens, closes, is_deep, open_behind, deep_at, is_word, is_open, begins_open, names_nothing, is_lost, is_at, lost_at, is_late, is_front, is_behind_at, late_at, place_at}
use Rattle.pf_parse.specs.Shown.{lexemes_of}
use Rattle.pf_parse.proofs.Answered.{Read, read}
use Rattle.pf_parse.proofs.Answered as answered
use Rattle.pf_parse.proofs.Goes.{lexemes}
use Rattle.pf_parse.proofs.Meant.{meant}
use Rattle.pf_parse.proofs.Scanned.{scanned_of, Scanned}
use Rattle.std.proofs.lemmas.List.{append-nil}
use Rattle.std.proofs.lemmas.List.Elements.{All-head, All-tail}
use Rattle.pf_parse.proofs.Toks.{keyword_none}

abbrev pub tokens_of : List ℕ → List Token → List definition.Token
tokens_of text ts = map (token_of text) ts

lexemes_same : (text : List ℕ) (ts : List Token) → lexemes_of text ts ≡ lexemes (sorts (tokens_of text ts))
lexemes_same text [] = refl
lexemes_same text (t ∷ ts) = ap (λ xs. Rattle.pf_parse.specs.Shown.lexeme_at text t ∷ xs) (lexemes_same text ts)

-- ---- brackets

opens_same : (text : List ℕ) (s : TokenSort) → parsing.opens (sort_of text s) ≡ opens s
opens_same text sort.Word = refl
opens_same text (sort.Number n) = refl
opens_same text (sort.Duration d) = refl
opens_same text sort.String = refl
opens_same text (sort.Mark mark.Open) = refl
opens_same text (sort.Mark mark.Close) = refl
opens_same text (sort.Mark mark.OpenBrace) = refl
opens_same text (sort.Mark mark.CloseBrace) = refl
opens_same text (sort.Mark mark.OpenSquare) = refl
opens_same text (sort.Mark mark.CloseSquare) = refl
opens_same text (sort.Mark mark.Comma) = refl
opens_same text (sort.Mark mark.Colon) = refl
opens_same text (sort.Mark mark.At) = refl
opens_same text (sort.Mark mark.Plus) = refl
opens_same text (sort.Mark mark.Minus) = refl
opens_same text (sort.Mark mark.Times) = refl
opens_same text (sort.Mark mark.Over) = refl
opens_same text (sort.Mark mark.Percent) = refl
opens_same text (sort.Mark mark.DoubleEqual) = refl
opens_same text (sort.Mark mark.NotEqual) = refl
opens_same text (sort.Mark mark.AtMost) = refl
opens_same text (sort.Mark mark.Below) = refl
opens_same text (sort.Mark mark.AtLeast) = refl
opens_same text (sort.Mark mark.Above) = refl
opens_same text (sort.Mark mark.Equal) = refl
opens_same text (sort.Mark mark.Like) = refl
opens_same text (sort.Mark mark.NotLike) = refl

closes_same : (text : List ℕ) (s : TokenSort) → parsing.closes (sort_of text s) ≡ closes s
closes_same text sort.Word = refl
closes_same text (sort.Number n) = refl
closes_same text (sort.Duration d) = refl
closes_same text sort.String = refl
closes_same text (sort.Mark mark.Open) = refl
closes_same text (sort.Mark mark.Close) = refl
closes_same text (sort.Mark mark.OpenBrace) = refl
closes_same text (sort.Mark mark.CloseBrace) = refl
closes_same text (sort.Mark mark.OpenSquare) = refl
closes_same text (sort.Mark mark.CloseSquare) = refl
closes_same text (sort.Mark mark.Comma) = refl
closes_same text (sort.Mark mark.Colon) = refl
closes_same text (sort.Mark mark.At) = refl
closes_same text (sort.Mark mark.Plus) = refl
closes_same text (sort.Mark mark.Minus) = refl
closes_same text (sort.Mark mark.Times) = refl
closes_same text (sort.Mark mark.Over) = refl
closes_same text (sort.Mark mark.Percent) = refl
closes_same text (sort.Mark mark.DoubleEqual) = refl
closes_same text (sort.Mark mark.NotEqual) = refl
closes_same text (sort.Mark mark.AtMost) = refl
closes_same text (sort.Mark mark.Below) = refl
closes_same text (sort.Mark mark.AtLeast) = refl
closes_same text (sort.Mark mark.Above) = refl
closes_same text (sort.Mark mark.Equal) = refl
closes_same text (sort.Mark mark.Like) = refl
closes_same text (sort.Mark mark.NotLike) = refl

deep_same : (text : List ℕ) (c : ℕ) (ts : List Token) → too_deep_at c (tokens_of text ts) ≡ deep_at c ts
deep_same text c [] = refl
deep_same text c (t ∷ ts) =
    let s = sort_of (text_of text t) t.sort in
    let o = opens_same (text_of text t) t.sort in
    ap (λ b. cond (b && nat_le 64 c) (Some t.from) (too_deep_at (cond (parsing.opens s) (c + 1) (cond (parsing.closes s) (c - 1) c)) (tokens_of text ts))) o
    ∙ (ap (λ b. cond (is_deep c t.sort) (Some t.from) (too_deep_at (cond b (c + 1) (cond (parsing.closes s) (c - 1) c)) (tokens_of text ts))) o
    ∙ (ap (λ b. cond (is_deep c t.sort) (Some t.from) (too_deep_at (cond (opens t.sort) (c + 1) (cond b (c - 1) c)) (tokens_of text ts)))
    (closes_same (text_of text t) t.sort)
    ∙ ap (λ x. cond (is_deep c t.sort) (Some t.from) x) (deep_same text (open_behind c t.sort) ts)))

-- ---- names

open_same : (text : List ℕ) (s : TokenSort) → parsing.is_the_sign (codes "(") (sort_of text s) ≡ is_open s
open_same text sort.Word = refl
open_same text (sort.Number n) = refl
open_same text (sort.Duration d) = refl
open_same text sort.String = refl
open_same text (sort.Mark mark.Open) = refl
open_same text (sort.Mark mark.Close) = refl
open_same text (sort.Mark mark.OpenBrace) = refl
open_same text (sort.Mark mark.CloseBrace) = refl
open_same text (sort.Mark mark.OpenSquare) = refl
open_same text (sort.Mark mark.CloseSquare) = refl
open_same text (sort.Mark mark.Comma) = refl
open_same text (sort.Mark mark.Colon) = refl
open_same text (sort.Mark mark.At) = refl
open_same text (sort.Mark mark.Plus) = refl
open_same text (sort.Mark mark.Minus) = refl
open_same text (sort.Mark mark.Times) = refl
open_same text (sort.Mark mark.Over) = refl
open_same text (sort.Mark mark.Percent) = refl
open_same text (sort.Mark mark.DoubleEqual) = refl
open_same text (sort.Mark mark.NotEqual) = refl
open_same text (sort.Mark mark.AtMost) = refl
open_same text (sort.Mark mark.Below) = refl
open_same text (sort.Mark mark.AtLeast) = refl
open_same text (sort.Mark mark.Above) = refl
open_same text (sort.Mark mark.Equal) = refl
open_same text (sort.Mark mark.Like) = refl
open_same text (sort.Mark mark.NotLike) = refl

at_same : (text : List ℕ) (s : TokenSort) → parsing.is_the_sign (codes "@") (sort_of text s) ≡ is_at s
at_same text sort.Word = refl
at_same text (sort.Number n) = refl
at_same text (sort.Duration d) = refl
at_same text sort.String = refl
at_same text (sort.Mark mark.Open) = refl
at_same text (sort.Mark mark.Close) = refl
at_same text (sort.Mark mark.OpenBrace) = refl
at_same text (sort.Mark mark.CloseBrace) = refl
at_same text (sort.Mark mark.OpenSquare) = refl
at_same text (sort.Mark mark.CloseSquare) = refl
at_same text (sort.Mark mark.Comma) = refl
at_same text (sort.Mark mark.Colon) = refl
at_same text (sort.Mark mark.At) = refl
at_same text (sort.Mark mark.Plus) = refl
at_same text (sort.Mark mark.Minus) = refl
at_same text (sort.Mark mark.Times) = refl
at_same text (sort.Mark mark.Over) = refl
at_same text (sort.Mark mark.Percent) = refl
at_same text (sort.Mark mark.DoubleEqual) = refl
at_same text (sort.Mark mark.NotEqual) = refl
at_same text (sort.Mark mark.AtMost) = refl
at_same text (sort.Mark mark.Below) = refl
at_same text (sort.Mark mark.AtLeast) = refl
at_same text (sort.Mark mark.Above) = refl
at_same text (sort.Mark mark.Equal) = refl
at_same text (sort.Mark mark.Like) = refl
at_same text (sort.Mark mark.NotLike) = refl

front_same : (text : List ℕ) (s : TokenSort)
    → (parsing.is_the_sign (codes "+") (sort_of text s) || parsing.is_the_sign (codes "-") (sort_of text s))
    ≡ is_front s
front_same text sort.Word = refl
front_same text (sort.Number n) = refl
front_same text (sort.Duration d) = refl
front_same text sort.String = refl
front_same text (sort.Mark mark.Open) = refl
front_same text (sort.Mark mark.Close) = refl
front_same text (sort.Mark mark.OpenBrace) = refl
front_same text (sort.Mark mark.CloseBrace) = refl
front_same text (sort.Mark mark.OpenSquare) = refl
front_same text (sort.Mark mark.CloseSquare) = refl
front_same text (sort.Mark mark.Comma) = refl
front_same text (sort.Mark mark.Colon) = refl
front_same text (sort.Mark mark.At) = refl
front_same text (sort.Mark mark.Plus) = refl
front_same text (sort.Mark mark.Minus) = refl
front_same text (sort.Mark mark.Times) = refl
front_same text (sort.Mark mark.Over) = refl
front_same text (sort.Mark mark.Percent) = refl
front_same text (sort.Mark mark.DoubleEqual) = refl
front_same text (sort.Mark mark.NotEqual) = refl
front_same text (sort.Mark mark.AtMost) = refl
front_same text (sort.Mark mark.Below) = refl
front_same text (sort.Mark mark.AtLeast) = refl
front_same text (sort.Mark mark.Above) = refl
front_same text (sort.Mark mark.Equal) = refl
front_same text (sort.Mark mark.Like) = refl
front_same text (sort.Mark mark.NotLike) = refl

begins_same : (text : List ℕ) (ts : List Token) → parsing.begins_with_bracket (tokens_of text ts) ≡ begins_open ts
begins_same text [] = refl
begins_same text (t ∷ ts) = open_same (text_of text t) t.sort

three : (a b c : Bool) → (a && b && c) ≡ (b && (a && c))
three true true c = refl
three true false c = refl
three false true c = refl
three false false c = refl

unknown_same : (text w : List ℕ) (s : TokenSort) (ts : List Token)
    → parsing.is_unknown (sort_of w s) (tokens_of text ts) ≡ (is_word s && begins_open ts && names_nothing w)
unknown_same text w sort.Word ts =
    ap (λ b. not (is_keyword w) && b && is_none (function_of w)) (begins_same text ts)
    ∙ (ap (λ b. b && begins_open ts && is_none (function_of w)) (keyword_none w)
    ∙ three (is_none (keyword_of w)) (begins_open ts) (is_none (function_of w)))
unknown_same text w (sort.Number n) ts = refl
unknown_same text w (sort.Duration d) ts = refl
unknown_same text w sort.String ts = refl
unknown_same text w (sort.Mark m) ts = refl

lost_same : (text : List ℕ) (b : Bool) (ts : List Token) → unknown_at b (tokens_of text ts) ≡ lost_at text b ts
lost_same text b [] = refl
lost_same text b (t ∷ ts) =
    ap (λ c. cond (not b && c) (Some t.from) (unknown_at (parsing.is_the_sign (codes "@") (sort_of (text_of text t) t.sort)) (tokens_of text ts)))
    (unknown_same text (text_of text t) t.sort ts)
    ∙ (ap (λ c. cond (not b && is_lost text t ts) (Some t.from) (unknown_at c (tokens_of text ts))) (at_same (text_of text t) t.sort)
    ∙ ap (λ x. cond (not b && is_lost text t ts) (Some t.from) x) (lost_same text (is_at t.sort) ts))

-- ---- times

late_sort : (w : List ℕ) (s : TokenSort) (b : Bool) → IsExact w s → parsing.is_too_large b (sort_of w s) ≡ is_late b s
late_sort w sort.Word b e = refl
late_sort w (sort.Number n) b e = refl
late_sort w (sort.Duration None) b e = le-leb (suc greatest_time) (millis_of w None) (omega (arith, e))
late_sort w (sort.Duration (Some d)) b e = lt-leb (suc greatest_time) d (omega (arith, e))
late_sort w sort.String b e = refl
late_sort w (sort.Mark m) b e = refl

late_same : (text : List ℕ) (b : Bool) (ts : List Token) → All (IsTokenOf text) ts → too_large_at b (tokens_of text ts) ≡ late_at b ts
late_same text b [] a = refl
late_same text b (t ∷ ts) a =
    let s = sort_of (text_of text t) t.sort in
    ap (λ c. cond c (Some t.from) (too_large_at (parsing.is_behind_at b s) (tokens_of text ts))) (late_sort (text_of text t) t.sort b (All-head (IsTokenOf text) t ts a).exact)
    ∙ (ap (λ c. cond (is_late b t.sort) (Some t.from) (too_large_at c (tokens_of text ts)))
    (ap (λ c. c || (b && (parsing.is_the_sign (codes "+") s || parsing.is_the_sign (codes "-") s)))
    (at_same (text_of text t) t.sort)
    ∙ ap (λ c. is_at t.sort || (b && c)) (front_same (text_of text t) t.sort))
    ∙ ap (λ x. cond (is_late b t.sort) (Some t.from) x) (late_same text (is_behind_at b t.sort) ts (All-tail (IsTokenOf text) t ts a)))

-- ---- places

place_same : (text : List ℕ) (ts : List Token) (n : ℕ) → place_of text (tokens_of text ts) n ≡ place_at text ts n
place_same text [] n = refl
place_same text (t ∷ ts) zero = refl
place_same text (t ∷ ts) (suc n) = place_same text ts n

-- ---- the answers

cut : (text : List ℕ) (ts : List Token) → AreTokens text (tokens_of text ts) → length text ≤ 65536 → IsCut text (tokens_of text ts)
cut text ts a l = record { short = l; are_tokens = a }

pub refused_deep : (text : List ℕ) (ts : List Token) (at : ℕ) → AreTokens text (tokens_of text ts) → length text ≤ 65536
    → deep_at 0 ts ≡ Some at → Refuses text (too_deep at)
refused_deep text ts at a l h = (tokens_of text ts, (cut text ts a l, deep_same text 0 ts ∙ h))

shallow : (text : List ℕ) (ts : List Token) → AreTokens text (tokens_of text ts) → length text ≤ 65536
    → deep_at 0 ts ≡ None → IsShallow text (tokens_of text ts)
shallow text ts a l h = record { cut = cut text ts a l; shallow = deep_same text 0 ts ∙ h }

pub refused_unexpected : (text : List ℕ) (ts : List Token) (n : ℕ) → AreTokens text (tokens_of text ts) → length text ≤ 65536
    → deep_at 0 ts ≡ None → run start (lexemes_of text ts) ≡ Err n → Refuses text (unexpected (place_at text ts n))
refused_unexpected text ts n a l h r = (
  tokens_of text ts,
  (
    n,
    (
      shallow text ts a l h,
      answered.unexpected (sorts (tokens_of text ts)) n (sym (ap (run start) (lexemes_same text ts)) ∙ r),
      place_same text ts n,
    ),
  ),
)

read_back : (text : List ℕ) (ts : List Token) (held : Held) → run start (lexemes_of text ts) ≡ Ok held → Read (sorts (tokens_of text ts)) held
read_back text ts held r = read (sorts (tokens_of text ts)) held (sym (ap (run start) (lexemes_same text ts)) ∙ r)

written : (text : List ℕ) (ts : List Token) (held : Held) → AreTokens text (tokens_of text ts) → length text ≤ 65536
    → deep_at 0 ts ≡ None → run start (lexemes_of text ts) ≡ Ok held → IsWritten text (tokens_of text ts)
written text ts held a l h r =
    let w = read_back text ts held r in
    record { shallow = shallow text ts a l h; written = w.written; derived = w.derived }

pub refused_unknown : (text : List ℕ) (ts : List Token) (held : Held) (at : ℕ) → AreTokens text (tokens_of text ts) → length text ≤ 65536
    → deep_at 0 ts ≡ None → run start (lexemes_of text ts) ≡ Ok held → lost_at text false ts ≡ Some at → Refuses text (unknown_name at)
refused_unknown text ts held at a l h r k = (tokens_of text ts, (written text ts held a l h r, lost_same text false ts ∙ k))

known : (text : List ℕ) (ts : List Token) (held : Held) → AreTokens text (tokens_of text ts) → length text ≤ 65536
    → deep_at 0 ts ≡ None → run start (lexemes_of text ts) ≡ Ok held → lost_at text false ts ≡ None → IsKnown text (tokens_of text ts)
known text ts held a l h r k = record { written = written text ts held a l h r; known = lost_same text false ts ∙ k }

pub refused_late : (text : List ℕ) (ts : List Token) (held : Held) (at : ℕ) → AreTokens text (tokens_of text ts) → length text ≤ 65536
    → All (IsTokenOf text) ts → deep_at 0 ts ≡ None → run start (lexemes_of text ts) ≡ Ok held → lost_at text false ts ≡ None
    → late_at false ts ≡ Some at → Refuses text (time_too_large at)
refused_late text ts held at a l e h r k t =
    (tokens_of text ts, (known text ts held a l h r k, late_same text false ts e ∙ t))

record Outcome (text : List ℕ) (held : Held) : Type 0 where
  tree : Tree
  is_tree : IsTree text tree
  is : held ≡ low tree

outcome : (text : List ℕ) (ts : List Token) (held : Held) → AreTokens text (tokens_of text ts) → length text ≤ 65536
    → All (IsTokenOf text) ts → deep_at 0 ts ≡ None → run start (lexemes_of text ts) ≡ Ok held → lost_at text false ts ≡ None
    → late_at false ts ≡ None → Outcome text held
outcome text ts held a l e h r k t =
    let w = read_back text ts held r in
    let u = lost_same text false ts ∙ k in
    let v = late_same text false ts e ∙ t in
    let s = scanned_of (Rattle.pf_model.specs.Grammar.terminals_of w.written) (tokens_of text ts) w.derived.fits u v in
    let m = meant w.written [] (subst Scanned (sym (append-nil (Rattle.pf_model.specs.Grammar.terminals_of w.written))) s) in
    record {
      tree = m.tree;
      is_tree = record {
        tokens = tokens_of text ts;
        known = known text ts held a l h r k;
        times = v;
        derives = record { written = w.written; derived = w.derived; means = m.means };
      };
      is = sym w.is ∙ m.held;
    }

held_low : (t tree : Tree) → ◌≡◌ {A = Held} (Some t) (low tree) → (t ≡ tree) × (height tree ≤ 64)
held_low t tree h = by_test (nat_le (height tree) 64) refl
  where
    by_test : (b : Bool) → nat_le (height tree) 64 ≡ b → (t ≡ tree) × (height tree ≤ 64)
    by_test true g = (some_same (h ∙ ap (λ b. cond b (Some tree) None) g), leb-true (height tree) 64 g)
      where
        some_same : ◌≡◌ {A = Held} (Some t) (Some tree) → t ≡ tree
        some_same e = cc
    by_test false g = absurd (never (h ∙ ap (λ b. cond b (Some tree) None) g))
      where
        never : ◌≡◌ {A = Held} (Some t) None → ⊥
        never e = cc

held_tall : (tree : Tree) → ◌≡◌ {A = Held} None (low tree) → 64 < height tree
held_tall tree h = by_test (nat_le (height tree) 64) refl
  where
    by_test : (b : Bool) → nat_le (height tree) 64 ≡ b → 64 < height tree
    by_test true g = absurd (never (h ∙ ap (λ b. cond b (Some tree) None) g))
      where
        never : ◌≡◌ {A = Held} None (Some tree) → ⊥
        never e = cc
    by_test false g = leb-false (height tree) 64 g

pub parsed : (text : List ℕ) (ts : List Token) (t : Tree) → AreTokens text (tokens_of text ts) → length text ≤ 65536
    → All (IsTokenOf text) ts → deep_at 0 ts ≡ None → run start (lexemes_of text ts) ≡ Ok (Some t) → lost_at text false ts ≡ None
    → late_at false ts ≡ None → Parses text t
parsed text ts t a l e h r k late =
    let o = outcome text ts (Some t) a l e h r k late in
    let p = held_low t o.tree o.is in
    record { is_tree = subst (IsTree text) (sym p.0) o.is_tree; low = subst (λ x. height x ≤ 64) (sym p.0) p.1 }

pub refused_tall : (text : List ℕ) (ts : List Token) → AreTokens text (tokens_of text ts) → length text ≤ 65536
    → All (IsTokenOf text) ts → deep_at 0 ts ≡ None → run start (lexemes_of text ts) ≡ Ok None → lost_at text false ts ≡ None
    → late_at false ts ≡ None → Refuses text too_tall
refused_tall text ts a l e h r k late =
    let o = outcome text ts None a l e h r k late in
    (o.tree, (o.is_tree, held_tall o.tree o.is))
