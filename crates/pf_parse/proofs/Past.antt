-- A run over tokens, one token at a time.
use Rattle.std.proofs.Common.{◌≡◌, ◌∙◌, sym, refl, ap, ℕ, ◌<◌, ◌+◌, List, [], ◌∷◌, drop, length, get_or, Some, None, Result, Ok, Err, arith}
use Rattle.std.proofs.lemmas.List.{drop_more}
use Rattle.pf_lex.specs.declared.token.Token.{Token}
use Rattle.pf_parse.specs.Held.{Held}
use Rattle.pf_parse.specs.Reading.{State, step, ends, run, goes, counted, at_end}
use Rattle.pf_parse.specs.Shown.{lexeme_at, lexemes_of, past}

-- the answer of the tokens from this one on
abbrev pub from : List ℕ → List Token → ℕ → State → Result Held ℕ
from text ts i s = past i (run s (lexemes_of text (drop i ts)))

past_counted : (i : ℕ) (r : Result Held ℕ) → past i (counted r) ≡ past (i + 1) r
past_counted i (Ok e) = refl
past_counted i (Err n) = ap Err (omega arith)

pub run_goes : (text : List ℕ) (ts : List Token) (i : ℕ) (d : Token) (s t : State) → i < length ts
    → step s.mode s.stack (lexeme_at text (get_or ts i d)) ≡ Some t → from text ts (i + 1) t ≡ from text ts i s
run_goes text ts i d s t l h =
    sym (ap (λ xs. past i (run s (lexemes_of text xs))) (drop_more ts i d l)
    ∙ (ap (λ o. past i (goes o (λ r. run r (lexemes_of text (drop (i + 1) ts))))) h
    ∙ past_counted i (run t (lexemes_of text (drop (i + 1) ts)))))

pub run_stops : (text : List ℕ) (ts : List Token) (i : ℕ) (d : Token) (s : State) → i < length ts
    → step s.mode s.stack (lexeme_at text (get_or ts i d)) ≡ None → from text ts i s ≡ Err i
run_stops text ts i d s l h =
    ap (λ xs. past i (run s (lexemes_of text xs))) (drop_more ts i d l)
    ∙ (ap (λ o. past i (goes o (λ r. run r (lexemes_of text (drop (i + 1) ts))))) h ∙ ap Err (omega arith))

none_left : (ts : List Token) → drop (length ts) ts ≡ []
none_left [] = refl
none_left (t ∷ ts) = none_left ts

pub run_ends : (text : List ℕ) (ts : List Token) (s : State) (e : Held) → ends s.mode s.stack ≡ Some e
    → from text ts (length ts) s ≡ Ok e
run_ends text ts s e h =
    ap (λ xs. past (length ts) (run s (lexemes_of text xs))) (none_left ts) ∙ ap (λ o. past (length ts) (at_end o)) h

pub run_unended : (text : List ℕ) (ts : List Token) (s : State) → ends s.mode s.stack ≡ None
    → from text ts (length ts) s ≡ Err (length ts)
run_unended text ts s h =
    ap (λ xs. past (length ts) (run s (lexemes_of text xs))) (none_left ts)
    ∙ (ap (λ o. past (length ts) (at_end o)) h ∙ ap Err (omega arith))

pub run_starts : (text : List ℕ) (ts : List Token) (s : State) → from text ts 0 s ≡ run s (lexemes_of text ts)
run_starts text ts s = begun (run s (lexemes_of text ts))
  where
    begun : (r : Result Held ℕ) → past 0 r ≡ r
    begun (Ok e) = refl
    begun (Err n) = ap Err (omega arith)
