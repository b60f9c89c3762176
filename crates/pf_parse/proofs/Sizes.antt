-- A tree has no more nodes than its text has bytes: each node has a token of its own, and each token a byte.
use Rattle.std.proofs.Common.{◌≡◌, refl, ap, ℕ, suc, ◌+◌, ◌≤◌, Bool, false, List, [], ◌∷◌, ◌++◌, length, Option, Some, None, Ok, option_map, codes, arith, length-append}
use Rattle.std.proofs.lemmas.List.{length-map}
use Rattle.std.specs.List.{All}
use Rattle.pf_lex.specs.declared.token.Token as read
use Rattle.pf_lex.specs.Seen.{IsTokenOf}
use Rattle.pf_model.specs.Clauses.{Matched}
use Rattle.pf_model.specs.declared.expr.BinaryOp.{BinaryOp}
use Rattle.pf_model.specs.declared.expr.Function.{Function}
use Rattle.pf_model.specs.Grammar.{Terminal, Written, Arguments, brackets, call, aggregate, unary, binary, select, subquery, none, more, terminals_of, all_terminals, more_terminals, FitAll, IsLawful, AreLawful, Derives, Braces, AreSelected, selected_terminals, these, range_terminals, modifiers_terminals, before_terminals, behind_terminals, bool_terminals, keys_terminals, operator_terminal, meaning, meanings, both, grouped_of, matched_of, mods_of}
use Rattle.pf_model.specs.Grammar as grammar
use Rattle.pf_model.specs.Parsing.{sorts, Parses}
use Rattle.pf_model.specs.Tokens.{Sort, Token, AreTokens, BeginsWith, end_of, inside_behind}
use Rattle.pf_model.specs.Trees.{Tree, Trees, size, sizes}
use Rattle.pf_model.specs.Trees as tree
use Rattle.pf_model.specs.Words.{function_of}
use Rattle.pf_parse.specs.Reading.{run, start}
use Rattle.pf_parse.specs.Scans.{deep_at, lost_at, late_at}
use Rattle.pf_parse.specs.Shown.{lexemes_of}
use Rattle.pf_parse.proofs.Parsed.{tokens_of, parsed}

-- ---- nodes and terminals

-- the number of nodes of what is meant
abbrev known_size : Option Tree → ℕ
known_size None = 0
known_size (Some t) = size t

abbrev known_sizes : Option Trees → ℕ
known_sizes None = 0
known_sizes (Some ts) = sizes ts

-- a node over one tree
over_one : (make : Tree → Tree) → ((t : Tree) → size (make t) ≡ 1 + size t) → (x : Option Tree)
    → known_size (option_map make x) ≤ 1 + known_size x
over_one make g None = omega arith
over_one make g (Some t) = omega (arith, g t)

-- a node over arguments
over_all : (make : Trees → Tree) → ((ts : Trees) → size (make ts) ≡ 1 + sizes ts) → (x : Option Trees)
    → known_size (option_map make x) ≤ 1 + known_sizes x
over_all make g None = omega arith
over_all make g (Some ts) = omega (arith, g ts)

over_two : (op : BinaryOp) (m : Matched) (x y : Option Tree)
    → known_size (both (tree.binary op m) x y) ≤ 1 + (known_size x + known_size y)
over_two op m None y = omega arith
over_two op m (Some s) None = omega arith
over_two op m (Some s) (Some t) = omega arith

over_called : (f : Option Function) (x : Option Trees) → known_size (both tree.call f x) ≤ 1 + known_sizes x
over_called None x = omega arith
over_called (Some f) None = omega arith
over_called (Some f) (Some ts) = omega arith

with_more : (x : Option Tree) (xs : Option Trees) → known_sizes (both tree.more x xs) ≤ known_size x + known_sizes xs
with_more None xs = omega arith
with_more (Some t) None = omega arith
with_more (Some t) (Some ts) = omega arith

selector_length : (n : Option (List ℕ)) (b : Option Braces) → AreSelected n b
    → 1 ≤ length (selected_terminals (record { metric = n; braces = b }))
selector_length None None p = absurd p
selector_length None (Some b) p = omega arith
selector_length (Some n) b p = omega arith

mutual
  written_size : (w : Written) → IsLawful w → known_size (meaning w) ≤ length (terminals_of w)
  written_size (grammar.number n) p = omega arith
  written_size (grammar.text t) p = omega arith
  written_size (brackets e) p =
      omega (arith, written_size e p, length-append (terminals_of e) (grammar.sign (codes ")") ∷ []))
  written_size (call n es) p =
      omega (
        arith,
        over_called (function_of n) (meanings es),
        arguments_size es p,
        length-append (all_terminals es) (grammar.sign (codes ")") ∷ []),
      )
  written_size (aggregate op c none) p = absurd p
  written_size (aggregate op c (more e es)) p =
      omega (
        arith,
        over_all (tree.aggregate op (grouped_of c)) (λ ts. refl) (meanings (more e es)),
        arguments_size (more e es) (p.1, p.2),
        length-append (before_terminals c) (grammar.sign (codes "(") ∷ (all_terminals (more e es) ++ (grammar.sign (codes ")") ∷ behind_terminals c))),
        length-append (all_terminals (more e es)) (grammar.sign (codes ")") ∷ behind_terminals c),
      )
  written_size (unary minus e) p =
      omega (arith, over_one (tree.unary minus) (λ t. refl) (meaning e), written_size e p.1)
  written_size (binary op k a b) p =
      omega (
        arith,
        over_two op (matched_of k) (meaning a) (meaning b),
        written_size a p.5,
        written_size b p.6,
        length-append (terminals_of a) (operator_terminal op ∷ (bool_terminals op.with_bool ++ (these keys_terminals k ++ terminals_of b))),
        length-append (bool_terminals op.with_bool) (these keys_terminals k ++ terminals_of b),
        length-append (these keys_terminals k) (terminals_of b),
      )
  written_size (select s r m) p =
      omega (arith, selector_length s.metric s.braces p.0, length-append (selected_terminals s) (these range_terminals r ++ modifiers_terminals m))
  written_size (subquery e d r m) p =
      omega (
        arith,
        over_one (λ t. tree.subquery t d r (mods_of m)) (λ t. refl) (meaning e),
        written_size e p.1,
        length-append (terminals_of e) (grammar.sign (codes "[") ∷ grammar.duration d ∷ grammar.sign (codes ":")
            ∷ (these (λ x. grammar.duration x ∷ []) r ++ (grammar.sign (codes "]") ∷ modifiers_terminals m))),
      )

  arguments_size : (es : Arguments) → AreLawful es → known_sizes (meanings es) ≤ length (all_terminals es)
  arguments_size none p = omega arith
  arguments_size (more e es) p =
      omega (
        arith,
        with_more (meaning e) (meanings es),
        written_size e p.0,
        more_size es p.1,
        length-append (terminals_of e) (more_terminals es),
      )

  more_size : (es : Arguments) → AreLawful es → known_sizes (meanings es) ≤ length (more_terminals es)
  more_size none p = omega arith
  more_size (more e es) p =
      omega (
        arith,
        with_more (meaning e) (meanings es),
        written_size e p.0,
        more_size es p.1,
        length-append (terminals_of e) (more_terminals es),
      )

-- ---- terminals and tokens

fit_length : (zs : List Terminal) (us : List Sort) → FitAll zs us → length zs ≡ length us
fit_length [] [] h = refl
fit_length [] (u ∷ us) h = absurd h
fit_length (z ∷ zs) [] h = absurd h
fit_length (z ∷ zs) (u ∷ us) h = ap suc (fit_length zs us h.1)

pub derived_size : (us : List Sort) (t : Tree) → Derives us t → size t ≤ length us
derived_size us t d =
    omega (arith, written_size d.written d.derived.lawful, ap known_size d.means, fit_length (terminals_of d.written) us d.derived.fits)

-- ---- tokens and bytes

tokens_end : (text : List ℕ) (inside : Bool) (at : ℕ) (ts : List Token) → BeginsWith text inside at ts → at + length ts ≤ end_of at ts
tokens_end text inside at [] h = omega arith
tokens_end text inside at (t ∷ ts) h =
    omega (arith, h.0, h.1.some, tokens_end text (inside_behind inside t.sort) t.to ts h.2)

pub tokens_length : (text : List ℕ) (ts : List Token) → AreTokens text ts → length ts ≤ length text
tokens_length text ts h = omega (arith, h.whole, tokens_end text false 0 ts h.begins)

-- ---- texts

pub parsed_small : (text : List ℕ) (t : Tree) → Parses text t → size t ≤ 65536
parsed_small text t h =
    let ts = h.is_tree.tokens in
    let cut = h.is_tree.known.written.shallow.cut in
    omega (arith, derived_size (sorts ts) t h.is_tree.derives, length-map ts (λ x. x.sort), tokens_length text ts cut.are_tokens, cut.short)

-- the same of what is read
pub read_small : (text : List ℕ) (ts : List read.Token) (t : Tree) → AreTokens text (tokens_of text ts) → length text ≤ 65536
    → All (IsTokenOf text) ts → deep_at 0 ts ≡ None → run start (lexemes_of text ts) ≡ Ok (Some t) → lost_at text false ts ≡ None
    → late_at false ts ≡ None → size t ≤ 65536
read_small text ts t a l e h r k late = parsed_small text t (parsed text ts t a l e h r k late)
