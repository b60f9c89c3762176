-- A text is read as one tree, and a text that is read is not refused.
use Rattle.std.proofs.Common.{◌≡◌, ◌∙◌, sym, refl, ap, subst, ℕ, ◌<◌, ◌≤◌, Bool, true, false, nat_le, List, [], Option, Some, None, Result, Ok, Err, IfOk, IfErr, arith, cond}
use Rattle.std.proofs.lemmas.Bool.{le-leb, lt-leb}
use Rattle.std.proofs.lemmas.List.{append-nil}
use Rattle.pf_model.proofs.OneAnswer.{tokens_are_one, none_bad}
use Rattle.pf_model.proofs.OnePlace.{none_unexpected}
use Rattle.pf_model.specs.Grammar.{Derives, terminals_of}
use Rattle.pf_model.specs.Parsing.{sorts, Parses, Refuses, Refusal, IsTree, too_long, bad_token, too_deep, unexpected, unknown_name, time_too_large, too_tall, too_deep_at, unknown_at, too_large_at}
use Rattle.pf_model.specs.Tokens.{Token, AreTokens}
use Rattle.pf_model.specs.declared.expr.Expr.{Expr}
use Rattle.pf_model.specs.Trees.{Tree, height, tree_of}
use Rattle.pf_parse.specs.declared.error.ParseError.{ParseError}
use Rattle.pf_parse.specs.declared.error.ParseError.TheVariants as error
use Rattle.pf_parse.specs.Held.{Held, low}
use Rattle.pf_parse.specs.Reading.{start}
use Rattle.pf_parse.specs.Refusals.{IsAnswered, IsRefused}
use Rattle.pf_parse.proofs.Derived.{derived_read}
use Rattle.pf_parse.proofs.Goes.{value, lexemes}
use Rattle.pf_parse.proofs.Meant.{meant}
use Rattle.pf_parse.proofs.Scanned.{Scanned, scanned_of}

tokens_of_tree : (text : List ℕ) (t : Tree) (h : IsTree text t) → AreTokens text h.tokens
tokens_of_tree text t h = h.known.written.shallow.cut.are_tokens

some_tree : (a b : Tree) → Some a ≡ Some b → a ≡ b
some_tree a b h = cc

some_held : (a b : Held) → ◌≡◌ {A = Option Held} (Some a) (Some b) → a ≡ b
some_held a b h = cc

-- what is held of tokens that derive a tree, where every called name is a function's and every time is within the limit
held_of : (ts : List Token) (t : Tree) → Derives (sorts ts) t → unknown_at false ts ≡ None → too_large_at false ts ≡ None
    → value start (lexemes (sorts ts)) ≡ Some (low t)
held_of ts t d k l =
    let w = d.written in
    let s = scanned_of (terminals_of w) ts d.derived.fits k l in
    let m = meant w [] (subst Scanned (sym (append-nil (terminals_of w))) s) in
    derived_read w (sorts ts) d.derived.lawful d.derived.fits
    ∙ ap Some (m.held ∙ ap low (some_tree m.tree t (sym m.means ∙ d.means)))

held_of_tree : (text : List ℕ) (t : Tree) (h : IsTree text t) → value start (lexemes (sorts h.tokens)) ≡ Some (low t)
held_of_tree text t h = held_of h.tokens t h.derives h.known.known h.times

both_held : (text : List ℕ) (t u : Tree) → IsTree text t → IsTree text u → low t ≡ low u
both_held text t u h k =
    some_held (low t) (low u)
    (sym (held_of_tree text t h)
    ∙ (ap (λ ts. value start (lexemes (sorts ts)))
    (tokens_are_one text h.tokens k.tokens (tokens_of_tree text t h) (tokens_of_tree text u k))
    ∙ held_of_tree text u k))

low_is : (t : Tree) → height t ≤ 64 → low t ≡ Some t
low_is t h = ap (λ b. cond b (Some t) None) (le-leb (height t) 64 h)

tall_is : (t : Tree) → 64 < height t → low t ≡ None
tall_is t h = ap (λ b. cond b (Some t) None) (lt-leb (height t) 64 h)

low_same : (u t : Tree) → low u ≡ low t → height t ≤ 64 → u ≡ t
low_same u t h k = by_test (nat_le (height u) 64) refl
  where
    by_test : (b : Bool) → nat_le (height u) 64 ≡ b → u ≡ t
    by_test true g = some_tree u t (sym (ap (λ b. cond b (Some u) None) g) ∙ (h ∙ low_is t k))
    by_test false g = absurd (never (sym (ap (λ b. cond b (Some u) None) g) ∙ (h ∙ low_is t k)))
      where
        never : ◌≡◌ {A = Held} None (Some t) → ⊥
        never e = cc

-- such tokens derive no tree but one, where one of them has at most 64 levels
pub one_derived : (ts : List Token) (t u : Tree) → Derives (sorts ts) t → Derives (sorts ts) u → unknown_at false ts ≡ None
    → too_large_at false ts ≡ None → height t ≤ 64 → u ≡ t
one_derived ts t u d e k l h = low_same u t (some_held (low u) (low t) (sym (held_of ts u e k l) ∙ held_of ts t d k l)) h

pub one_tree : (text : List ℕ) (t u : Tree) → Parses text t → Parses text u → t ≡ u
one_tree text t u h k =
    some_tree t u (sym (low_is t h.low) ∙ (both_held text t u h.is_tree k.is_tree ∙ low_is u k.low))

none_some : {A : Type 0} (n : ℕ) → None ≡ Some n → A
none_some n h = absurd (never h)
  where
    never : None ≡ Some n → ⊥
    never h = cc

same_tokens : (text : List ℕ) (t : Tree) (h : IsTree text t) (ts : List Token) → AreTokens text ts → h.tokens ≡ ts
same_tokens text t h ts a = tokens_are_one text h.tokens ts (tokens_of_tree text t h) a

not_refused : (text : List ℕ) (t : Tree) (r : Refusal) → Parses text t → Refuses text r → ⊥
not_refused text t too_long h k = omega (arith, h.is_tree.known.written.shallow.cut.short, k)
not_refused text t (bad_token at) h k = none_bad text h.is_tree.tokens at (tokens_of_tree text t h.is_tree) k.1
not_refused text t (too_deep at) h k =
    let e = same_tokens text t h.is_tree k.0 k.1.0.are_tokens in
    none_some at (sym (subst (λ ts. too_deep_at 0 ts ≡ None) e h.is_tree.known.written.shallow.shallow) ∙ k.1.1)
not_refused text t (unexpected at) h k =
    let e = same_tokens text t h.is_tree k.0 k.1.1.0.cut.are_tokens in
    none_unexpected (sorts k.0) t k.1.0 (subst (λ ts. Derives (sorts ts) t) e h.is_tree.derives) k.1.1.1
not_refused text t (unknown_name at) h k =
    let e = same_tokens text t h.is_tree k.0 k.1.0.shallow.cut.are_tokens in
    none_some at (sym (subst (λ ts. unknown_at false ts ≡ None) e h.is_tree.known.known) ∙ k.1.1)
not_refused text t (time_too_large at) h k =
    let e = same_tokens text t h.is_tree k.0 k.1.0.written.shallow.cut.are_tokens in
    none_some at (sym (subst (λ ts. too_large_at false ts ≡ None) e h.is_tree.times) ∙ k.1.1)
not_refused text t too_tall h k =
    absurd (never (sym (low_is t h.low) ∙ (both_held text t k.0 h.is_tree k.1.0 ∙ tall_is k.0 k.1.1)))
  where
    never : ◌≡◌ {A = Held} (Some t) None → ⊥
    never h = cc

pub not_both : (text : List ℕ) (t : Tree) (e : ParseError) → Parses text t → IsRefused text e → e ≡ error.OutOfMemory
not_both text t error.TooLong h k = absurd (not_refused text t too_long h k)
not_both text t (error.BadToken at) h k = absurd (not_refused text t (bad_token at) h k)
not_both text t (error.TooDeep at) h k = absurd (not_refused text t (too_deep at) h k)
not_both text t (error.Unexpected at) h k = absurd (not_refused text t (unexpected at) h k)
not_both text t (error.UnknownName at) h k = absurd (not_refused text t (unknown_name at) h k)
not_both text t (error.TimeTooLarge at) h k = absurd (not_refused text t (time_too_large at) h k)
not_both text t error.TooTall h k = absurd (not_refused text t too_tall h k)
not_both text t error.OutOfMemory h k = refl

pub answered : (text : List ℕ) (r : Result Expr ParseError) → IfOk r (λ e. Parses text (tree_of e)) → IfErr r (IsRefused text)
    → (t : Tree) → Parses text t → IsAnswered t r
answered text (Ok e) p q t h = one_tree text (tree_of e) t p h
answered text (Err e) p q t h = not_both text t e h q
