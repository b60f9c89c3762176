-- Texts of queries that are refused, each with its refusal and its place.
use Rattle.std.proofs.Common.{◌≡◌, ℕ, zero, suc, ◌+◌, pos, List, [], ◌∷◌, ◌++◌, refl, ap, codes, arith, Some, None, Option, true, false}
use Rattle.pf_model.specs.Grammar.{Terminal, Fits, FitAll, Written, number, text, brackets, call, aggregate, unary, binary, select, subquery, none, more, IsLawful, terminals_of, Braces}
use Rattle.pf_model.specs.Grammar as grammar
use Rattle.pf_model.specs.Parsing.{Refuses, unexpected, too_deep_at}
use Rattle.pf_model.specs.Tokens.{Token}
use Rattle.pf_model.specs.Tokens as token
use Rattle.pf_model.proofs.ScannedTokens.{are_tokens}

-- ---- nested too deep

abbrev opened : ℕ → ℕ → List Token
opened at zero = []
opened at (suc n) = record { from = at; to = at + 1; sort = token.sign (codes "(") } ∷ opened (at + 1) n

sixty_four_are_shallow : too_deep_at 0 (opened 0 64) ≡ None
sixty_four_are_shallow = refl

the_next_is_too_deep : too_deep_at 0 (opened 0 70) ≡ Some 64
the_next_is_too_deep = refl

-- ---- unexpected tokens

-- no query is empty
none_of_two : (xs ys : List Terminal) (y : Terminal) → FitAll (xs ++ (y ∷ ys)) [] → ⊥
none_of_two [] ys y h = h
none_of_two (x ∷ xs) ys y h = h

none_selected : (m : Option (List ℕ)) (b : Option Braces) (ys : List Terminal)
    → grammar.AreSelected m b → FitAll (grammar.selected_terminals (record { metric = m; braces = b }) ++ ys) [] → ⊥
none_selected None None ys l h = l
none_selected None (Some b) ys l h = h
none_selected (Some n) b ys l h = h

none_written : (w : Written) → IsLawful w → FitAll (terminals_of w) [] → ⊥
none_written (number n) l h = h
none_written (text b) l h = h
none_written (brackets e) l h = h
none_written (call f es) l h = h
none_written (aggregate op c none) l h = h
none_written (aggregate op c (more e es)) l h = h
none_written (unary m e) l h = h
none_written (binary op k a b) l h = none_of_two (terminals_of a) _ _ h
none_written (select s r m) l h = none_selected s.metric s.braces _ l.0 h
none_written (subquery e r d m) l h = none_of_two (terminals_of e) _ _ h

-- a query that is expected and doesn't come: unexpected at the text's end
a_comment_alone : Refuses (codes " # up") (unexpected 5)
a_comment_alone = (
  [],
  (
    0,
    (
      record { cut = record { short = omega arith; are_tokens = are_tokens (record { begins = tt; whole = refl }) }; shallow = refl },
      record {
        within = omega arith;
        begins = record { further = token.number (pos 0) ∷ []; written = number (pos 0); derived = record { fits = (refl, tt); lawful = tt } };
        unlawful = λ h b. omega (arith, h);
        unfinished = λ w d. none_written w d.lawful d.fits;
      },
      refl,
    ),
  ),
)

-- what the first terminal fits
abbrev Starts : List Terminal → token.Sort → Type 0
Starts [] s = ⊥
Starts (t ∷ ts) s = Fits t s

starts_left : (xs ys : List Terminal) (s : token.Sort) → (FitAll xs [] → ⊥) → Starts (xs ++ ys) s → Starts xs s
starts_left [] ys s k h = k tt
starts_left (x ∷ xs) ys s k h = h

first_fits : (xs : List Terminal) (s : token.Sort) (ss : List token.Sort) → FitAll xs (s ∷ ss) → Starts xs s
first_fits [] s ss h = h
first_fits (x ∷ xs) s ss h = h.0

abbrev first_byte : List ℕ → ℕ
first_byte [] = 0
first_byte (b ∷ bs) = b

-- no query begins with `)`
closing_selected : (m : Option (List ℕ)) (b : Option Braces) (ys : List Terminal)
    → grammar.AreSelected m b → Starts (grammar.selected_terminals (record { metric = m; braces = b }) ++ ys) (token.sign (codes ")")) → ⊥
closing_selected None None ys l h = l
closing_selected None (Some b) ys l h = omega (arith, ap first_byte h)
closing_selected (Some n) b ys l h = h

closing_written : (w : Written) → IsLawful w → Starts (terminals_of w) (token.sign (codes ")")) → ⊥
closing_written (number n) l h = h
closing_written (text b) l h = h
closing_written (brackets e) l h = omega (arith, ap first_byte h)
closing_written (call f es) l h = h
closing_written (aggregate op c none) l h = h
closing_written (aggregate op c (more e es)) l h = h
closing_written (unary false e) l h = omega (arith, ap first_byte h)
closing_written (unary true e) l h = omega (arith, ap first_byte h)
closing_written (binary op k a b) l h = closing_written a l.5 (starts_left (terminals_of a) _ _ (none_written a l.5) h)
closing_written (select s r m) l h = closing_selected s.metric s.braces _ l.0 h
closing_written (subquery e r d m) l h = closing_written e l.1 (starts_left (terminals_of e) _ _ (none_written e l.1) h)

a_closing_bracket_first : Refuses (codes " )") (unexpected 1)
a_closing_bracket_first = (
  record { from = 1; to = 2; sort = token.sign (codes ")") } ∷ [],
  (
    0,
    (
      record { cut = record { short = omega arith; are_tokens = are_tokens (record { begins = (refl, refl, tt); whole = refl }) }; shallow = refl },
      record {
        within = omega arith;
        begins = record { further = token.number (pos 0) ∷ []; written = number (pos 0); derived = record { fits = (refl, tt); lawful = tt } };
        unlawful = λ h b. closing_written b.written b.derived.lawful (first_fits (terminals_of b.written) _ _ b.derived.fits);
        unfinished = λ w d. closing_written w d.lawful (first_fits (terminals_of w) _ _ d.fits);
      },
      refl,
    ),
  ),
)
