-- A text that is cut into tokens piece by piece.
use Rattle.std.proofs.Common.{◌≡◌, ◌∙◌, ℕ, ◌+◌, ◌≤◌, Bool, false, Some, List, [], ◌∷◌, ◌++◌, length, drop, refl, sym, ap, arith, length-append}
use Rattle.std.specs.Prelude.{map, option_map}
use Rattle.std.proofs.lemmas.List.{drop-drop, drop_at, length-drop}
use Rattle.pf_model.specs.TokenScans.{AreNext, token_at}
use Rattle.pf_model.specs.Tokens.{Sort, Token, end_of, inside_behind, next_at, separators}
use Rattle.pf_model.proofs.ScannedTokens.{are_tokens}
use Rattle.pf_lex.specs.CanonicalTokens.{HasTokens}
use Rattle.pf_lex.proofs.Places.{at_place, moved}

-- from a place on these are the tokens, up to the text's end
pub record AreFrom (text : List ℕ) (inside : Bool) (at : ℕ) (sorts : List Sort) : Type 0 where
  pub tokens : List Token
  pub begins : AreNext text inside at tokens
  pub whole : next_at text (end_of at tokens) ≡ length text
  pub same : map (λ (t : Token). t.sort) tokens ≡ sorts

-- these tokens are those of each text's end that is these bytes
pub record Reads (inside : Bool) (bytes : List ℕ) (sorts : List Sort) : Type 0 where
  pub read : (text : List ℕ) (at : ℕ) → drop at text ≡ bytes → at ≤ length text → AreFrom text inside at sorts

-- a token's bytes in front of others
pub record IsSpelled (inside : Bool) (xs rest : List ℕ) (s : Sort) : Type 0 where
  pub near : separators false (xs ++ rest) ≡ 0
  pub token : token_at inside (xs ++ rest) 0 ≡ Some (record { from = 0; to = length xs; sort = s })

pub done : (inside : Bool) → Reads inside [] []
done inside = record {
  read = λ text at e within. record {
    tokens = [];
    begins = tt;
    whole = ap (λ bs. at + separators false bs) e ∙ omega (arith, within, ap length e, length-drop at text);
    same = refl;
  };
}

from_next : (text : List ℕ) (inside : Bool) (at place : ℕ) (ss : List Sort) (ts : List Token) → next_at text at ≡ next_at text place → AreNext text inside place ts → next_at text (end_of place ts) ≡ length text
    → map (λ (t : Token). t.sort) ts ≡ ss → AreFrom text inside at ss
from_next text inside at place ss [] n b w s = record { tokens = []; begins = tt; whole = n ∙ w; same = s }
from_next text inside at place ss (t ∷ ts) n b w s = record { tokens = t ∷ ts; begins = (n ∙ b.0, b.1, b.2); whole = w; same = s }

pub blank : {inside : Bool} {bytes : List ℕ} {ss : List Sort} → Reads inside bytes ss → Reads inside (32 ∷ bytes) ss
blank {inside} {bytes} {ss} h = record {
  read = λ text at e within.
      let long : at + 1 ≤ length text = omega (arith, within, ap length e, length-drop at text) in
      let later : drop (at + 1) text ≡ bytes = sym (drop-drop 1 at text) ∙ ap (drop 1) e in
      let f = h.read text (at + 1) later long in
      let next : next_at text at ≡ next_at text (at + 1) =
      ap (λ bs. at + separators false bs) e ∙ adds at (separators false bytes) ∙ ap (λ bs. at + 1 + separators false bs) (sym later) in
      from_next text inside at (at + 1) ss f.tokens next f.begins f.whole f.same;
}
  where
    adds : (a b : ℕ) → a + (1 + b) ≡ a + 1 + b
    adds a b = omega arith

pub token : {inside : Bool} {xs rest : List ℕ} {s : Sort} {ss : List Sort} → IsSpelled inside xs rest s → Reads (inside_behind inside s) rest ss → Reads inside (xs ++ rest) (s ∷ ss)
token {inside} {xs} {rest} {s} {ss} h k = record {
  read = λ text at e within.
      let long : at + length xs ≤ length text = omega (arith, within, ap length e, length-drop at text, length-append xs rest) in
      let later : drop (at + length xs) text ≡ rest = sym (drop-drop (length xs) at text) ∙ ap (drop (length xs)) e ∙ drop_at xs rest (length xs) refl in
      let f = k.read text (at + length xs) later long in
      let here : next_at text at ≡ at = ap (λ bs. at + separators false bs) e ∙ ap (λ n. at + n) h.near ∙ omega arith in
      let found : token_at inside text at ≡ Some (record { from = at; to = at + length xs; sort = s }) =
      at_place inside text at ∙ ap (λ bs. option_map (moved at) (token_at inside bs 0)) e ∙ ap (option_map (moved at)) h.token in
      record {
        tokens = record { from = at; to = at + length xs; sort = s } ∷ f.tokens;
        begins = (here, found, f.begins);
        whole = f.whole;
        same = ap (λ xs. s ∷ xs) f.same;
      };
}

pub whole_text : (text : List ℕ) (ss : List Sort) → Reads false text ss → HasTokens text ss
whole_text text ss h =
    let f = h.read text 0 refl (omega arith) in
    record { tokens = f.tokens; are = are_tokens (record { begins = f.begins; whole = f.whole }); same = f.same }
