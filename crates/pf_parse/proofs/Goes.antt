-- The value of a text in a state, and how a state goes on over tokens that fit terminals.
use Rattle.std.proofs.Common.{◌≡◌, ◌∙◌, refl, ap, subst, ℕ, List, [], ◌∷◌, map, Option, Some}
use Rattle.std.specs.Option.{option_and_then}
use Rattle.pf_lex.specs.declared.token.Mark.{Mark}
use Rattle.pf_model.specs.Grammar.{Terminal, Fits, FitAll}
use Rattle.pf_model.specs.Grammar as grammar
use Rattle.pf_model.specs.Tokens as token
use Rattle.pf_parse.specs.declared.keyword.Keyword.{Keyword}
use Rattle.pf_parse.specs.Held.{Held}
use Rattle.pf_parse.specs.Lexemes.{Lexeme, word, sign, lexeme_of, mark_text, keyword_text, keyword_among, all_keywords}
use Rattle.pf_parse.specs.Reading.{Mode, Frame, State, step, ends}
use Rattle.pf_parse.proofs.Seen.{at_mark, at_key}

abbrev pub lexemes : List token.Sort → List Lexeme
lexemes us = map lexeme_of us

abbrev pub value : State → List Lexeme → Option Held
value s [] = ends s.mode s.stack
value s (x ∷ xs) = option_and_then (λ t. value t xs) (step s.mode s.stack x)

abbrev pub on : Mode → List Frame → State
on m k = record { mode = m; stack = k }

-- tokens fit terminals
pub record Fit (zs : List Terminal) (us : List token.Sort) : Type 0 where
  pub all : FitAll zs us

-- tokens lead from a state to another, and those behind fit the terminals behind
pub record Goes (s t : State) (zs : List Terminal) (us : List token.Sort) : Type 0 where
  pub behind : List token.Sort
  pub fits : Fit zs behind
  pub is : value s (lexemes us) ≡ value t (lexemes behind)

pub refit : {xs ys : List Terminal} (us : List token.Sort) → xs ≡ ys → Fit xs us → Fit ys us
refit us e h = subst (λ zs. Fit zs us) e h

pub one : (s t : State) (c : Terminal) (zs : List Terminal) (us : List token.Sort)
    → ((u : token.Sort) → Fits c u → step s.mode s.stack (lexeme_of u) ≡ Some t)
    → Fit (c ∷ zs) us → Goes s t zs us
one s t c zs [] f h = absurd h.all
one s t c zs (u ∷ us) f h =
    record { behind = us; fits = record { all = h.all.1 }; is = ap (option_and_then (λ r. value r (lexemes us))) (f u h.all.0) }

pub stays : (s : State) (zs : List Terminal) (us : List token.Sort) → Fit zs us → Goes s s zs us
stays s zs us h = record { behind = us; fits = h; is = refl }

pub then : {s t r : State} {zs ys : List Terminal} {us : List token.Sort} → Goes s t zs us
    → ((vs : List token.Sort) → Fit zs vs → Goes t r ys vs) → Goes s r ys us
then g f =
    let n = f g.behind g.fits in
    record { behind = n.behind; fits = n.fits; is = g.is ∙ n.is }

-- a sign leads to another state
pub by_mark : (m : Mark) (s t : State) (zs : List Terminal) (us : List token.Sort)
    → step s.mode s.stack (sign (Some m)) ≡ Some t → Fit (grammar.sign (mark_text m) ∷ zs) us → Goes s t zs us
by_mark m s t zs us e h =
    one s t (grammar.sign (mark_text m)) zs us (λ u f. ap (step s.mode s.stack) (at_mark m u f) ∙ e) h

-- a keyword leads to another state, however it is written
pub by_key : (k : Keyword) (s t : State) (zs : List Terminal) (us : List token.Sort)
    → keyword_among all_keywords (keyword_text k) ≡ Some k
    → ((w : List ℕ) → step s.mode s.stack (word (Some k) w) ≡ Some t)
    → Fit (grammar.key (keyword_text k) ∷ zs) us → Goes s t zs us
by_key k s t zs us n e h =
    one s t (grammar.key (keyword_text k)) zs us
    (λ u f. let seen = at_key k u n f in ap (step s.mode s.stack) seen.is ∙ e seen.text) h
