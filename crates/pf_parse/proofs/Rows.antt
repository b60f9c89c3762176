-- Texts with commas behind them and texts with commas between them.
use Rattle.std.proofs.Common.{◌≡◌, ◌∙◌, sym, refl, ap, not, List, [], ◌∷◌, ◌++◌, map, Option, Some, codes}
use Rattle.std.proofs.lemmas.List.{append_assoc, append-nil, map-append}
use Rattle.pf_model.specs.Grammar.{Terminal, sign, Written, terminals_of, all_terminals, more_terminals, comma_if, commas_before, listed, is_nil, IsLawful, AreLawful}
use Rattle.pf_model.specs.Trees.{Tree}
use Rattle.pf_parse.specs.Held.{with_argument}
use Rattle.pf_parse.proofs.Drafts.{fronts, arguments, held_all}
use Rattle.pf_parse.proofs.ReadOf.{read_of, arguments_of}

abbrev comma : List Terminal → List Terminal
comma zs = sign (codes ",") ∷ zs

-- a comma behind each, and then nothing
commas_end : (x : List Terminal) (xs : List (List Terminal)) (zs : List Terminal)
    → comma (fronts xs zs) ≡ commas_before xs ++ comma zs
commas_end x [] zs = refl
commas_end x (y ∷ ys) zs =
    ap (λ us. comma (y ++ us)) (commas_end y ys zs) ∙ ap comma (sym (append_assoc y (commas_before ys) (comma zs)))

pub ended : (xs : List (List Terminal)) (zs : List Terminal) → fronts xs zs ≡ listed xs ++ (comma_if (not (is_nil xs)) ++ zs)
ended [] zs = refl
ended (x ∷ xs) zs = ap (λ us. x ++ us) (commas_end x xs zs) ∙ sym (append_assoc x (commas_before xs) (comma zs))

-- a comma behind each but the last
commas_last : (xs : List (List Terminal)) (x zs : List Terminal)
    → comma (fronts xs (x ++ zs)) ≡ commas_before (xs ++ (x ∷ [])) ++ zs
commas_last [] x zs = ap (λ us. comma (us ++ zs)) (sym (append-nil x))
commas_last (y ∷ ys) x zs =
    ap (λ us. comma (y ++ us)) (commas_last ys x zs) ∙ ap comma (sym (append_assoc y (commas_before (ys ++ (x ∷ []))) zs))

pub with_last : (xs : List (List Terminal)) (x zs : List Terminal) → fronts xs (x ++ zs) ≡ listed (xs ++ (x ∷ [])) ++ zs
with_last [] x zs = ap (λ us. us ++ zs) (sym (append-nil x))
with_last (y ∷ ys) x zs =
    ap (λ us. y ++ us) (commas_last ys x zs) ∙ sym (append_assoc y (commas_before (ys ++ (x ∷ []))) zs)

pub with_next : (xs : List (List Terminal)) (x zs : List Terminal) → fronts (xs ++ (x ∷ [])) zs ≡ fronts xs (x ++ comma zs)
with_next [] x zs = refl
with_next (y ∷ ys) x zs = ap (λ us. y ++ comma us) (with_next ys x zs)

-- ---- arguments

more_row : (es : List Written) → more_terminals (arguments es) ≡ commas_before (map terminals_of es)
more_row [] = refl
more_row (e ∷ es) = ap (λ us. comma (terminals_of e ++ us)) (more_row es)

argument_row : (es : List Written) → all_terminals (arguments es) ≡ listed (map terminals_of es)
argument_row [] = refl
argument_row (e ∷ es) = ap (λ us. terminals_of e ++ us) (more_row es)

pub arguments_text : (es : List Written) (e : Written) (zs : List Terminal)
    → all_terminals (arguments (es ++ (e ∷ []))) ++ zs ≡ fronts (map terminals_of es) (terminals_of e ++ zs)
arguments_text es e zs =
    ap (λ us. us ++ zs) (argument_row (es ++ (e ∷ [])) ∙ ap listed (map-append terminals_of es (e ∷ [])))
    ∙ sym (with_last (map terminals_of es) (terminals_of e) zs)

pub next_text : (es : List Written) (e : Written) (zs : List Terminal)
    → fronts (map terminals_of (es ++ (e ∷ []))) zs ≡ fronts (map terminals_of es) (terminals_of e ++ comma zs)
next_text es e zs = ap (λ us. fronts us zs) (map-append terminals_of es (e ∷ [])) ∙ with_next (map terminals_of es) (terminals_of e) zs

held_onto : (es : List Written) (e : Written) (before : Option (List Tree))
    → arguments_of (arguments (es ++ (e ∷ []))) before ≡ with_argument (arguments_of (arguments es) before) (read_of e)
held_onto [] e before = refl
held_onto (d ∷ es) e before = held_onto es e (with_argument before (read_of d))

pub held_next : (es : List Written) (e : Written) → held_all (es ++ (e ∷ [])) ≡ with_argument (held_all es) (read_of e)
held_next es e = held_onto es e (Some [])

pub lawful_next : (es : List Written) (e : Written) → AreLawful (arguments es) → IsLawful e → AreLawful (arguments (es ++ (e ∷ [])))
lawful_next [] e l m = (m, tt)
lawful_next (d ∷ es) e l m = (l.0, lawful_next es e l.1 m)
