-- The end of a string, byte by byte.
use Rattle.std.proofs.Common.{◌≡◌, ◌∙◌, ℕ, zero, suc, ◌+◌, ◌<◌, Option, Some, None, List, [], ◌∷◌, length, drop, get_or, refl, sym, ap, arith}
use Rattle.std.specs.Prelude.{option_map}
use Rattle.std.proofs.lemmas.List.{drop_more, drop-drop}
use Rattle.pf_model.specs.Tokens.{ends, wrong, piece}
use Rattle.pf_lex.specs.Quotes.{end_behind, piece_of, quoted_end, raw_end}
use Rattle.pf_lex.specs.declared.string.Piece.{Piece as Found}
use Rattle.pf_lex.specs.declared.string.Piece.TheVariants as found
use Rattle.pf_lex.specs.declared.string.Written.{Written}

abbrev pub moved : ℕ → Option ℕ → Option ℕ
moved n o = option_map (λ m. n + m) o

moved_zero : (o : Option ℕ) → o ≡ moved 0 o
moved_zero None = refl
moved_zero (Some n) = ap Some (omega arith)

moved_suc : (n : ℕ) (o : Option ℕ) → option_map suc (moved n o) ≡ moved (suc n) o
moved_suc n None = refl
moved_suc n (Some m) = ap Some (omega arith)

moved_twice : (n m : ℕ) (o : Option ℕ) → moved n (moved m o) ≡ moved (n + m) o
moved_twice n m None = refl
moved_twice n m (Some k) = ap Some (omega arith)

moved_one : (n : ℕ) (o : Option ℕ) → moved n (option_map suc o) ≡ moved (n + 1) o
moved_one n None = refl
moved_one n (Some m) = ap Some (omega arith)

-- ---- raw strings

pub raw_here : (bs : List ℕ) (i : ℕ) (l : Option ℕ) → i < length bs → get_or bs i 0 ≡ 96 → l ≡ moved i (raw_end (drop i bs)) → Some (i + 1) ≡ l
raw_here bs i l lt e h =
    sym (h ∙ ap (λ xs. moved i (raw_end xs)) (drop_more bs i 0 lt) ∙ ap (λ b. moved i (raw_end (b ∷ drop (i + 1) bs))) e)

-- ---- quoted strings

pub passed_end : (quote passed : ℕ) (bs : List ℕ) → quoted_end quote passed bs ≡ moved passed (quoted_end quote zero (drop passed bs))
passed_end quote zero bs = moved_zero (quoted_end quote zero bs)
passed_end quote (suc passed) [] = refl
passed_end quote (suc passed) (b ∷ bs) = ap (option_map suc) (passed_end quote passed bs) ∙ moved_suc passed (quoted_end quote zero (drop passed bs))

at_piece : (quote : ℕ) (bs : List ℕ) (i : ℕ) (l : Option ℕ) (p : Found) → i < length bs → piece_of p ≡ piece quote (get_or bs i 0) (drop (i + 1) bs)
    → l ≡ moved i (quoted_end quote zero (drop i bs)) → l ≡ moved i (end_behind (piece_of p) (λ further. quoted_end quote further (drop (i + 1) bs)))
at_piece quote bs i l p lt e h =
    h ∙ ap (λ xs. moved i (quoted_end quote zero xs)) (drop_more bs i 0 lt)
    ∙ ap (λ q. moved i (end_behind q (λ further. quoted_end quote further (drop (i + 1) bs)))) (sym e)

pub quoted_here : (quote : ℕ) (bs : List ℕ) (i : ℕ) (l : Option ℕ) → i < length bs → ends ≡ piece quote (get_or bs i 0) (drop (i + 1) bs)
    → l ≡ moved i (quoted_end quote zero (drop i bs)) → Some (i + 1) ≡ l
quoted_here quote bs i l lt e h = sym (at_piece quote bs i l found.End lt e h)

pub quoted_never : (quote : ℕ) (bs : List ℕ) (i : ℕ) (l : Option ℕ) → i < length bs → wrong ≡ piece quote (get_or bs i 0) (drop (i + 1) bs)
    → l ≡ moved i (quoted_end quote zero (drop i bs)) → None ≡ l
quoted_never quote bs i l lt e h = sym (at_piece quote bs i l found.Wrong lt e h)

pub quoted_on : (quote : ℕ) (bs : List ℕ) (i j : ℕ) (l : Option ℕ) (w : Written) (further : ℕ) → i < length bs → piece_of (found.Writes w further) ≡ piece quote (get_or bs i 0) (drop (i + 1) bs)
    → l ≡ moved i (quoted_end quote zero (drop i bs)) → j ≡ i + (1 + further) → l ≡ moved j (quoted_end quote zero (drop j bs))
quoted_on quote bs i j l w further lt e h k =
    at_piece quote bs i l (found.Writes w further) lt e h
    ∙ moved_one i (quoted_end quote further (drop (i + 1) bs))
    ∙ ap (moved (i + 1)) (passed_end quote further (drop (i + 1) bs))
    ∙ ap (λ xs. moved (i + 1) (moved further (quoted_end quote zero xs))) (drop-drop further (i + 1) bs)
    ∙ moved_twice (i + 1) further (quoted_end quote zero (drop (i + 1 + further) bs))
    ∙ ap (λ n. moved n (quoted_end quote zero (drop n bs))) (omega (arith, k))
