-- Texts of terminals and the tokens that fit them, in pieces.
use Rattle.std.proofs.Common.{◌≡◌, List, [], ◌∷◌, ◌++◌, refl, ap}
use Rattle.pf_model.specs.Grammar.{Terminal, Fits, FitAll}
use Rattle.pf_model.specs.Tokens.{Sort}

-- what fits two texts in a row fits each with a part of it
pub record Split (xs ys : List Terminal) (tokens : List Sort) : Type 0 where
  pub front : List Sort
  pub behind : List Sort
  pub is : tokens ≡ front ++ behind
  pub fits_front : FitAll xs front
  pub fits_behind : FitAll ys behind

split_onto : (x : Terminal) (xs ys : List Terminal) (s : Sort) (ss : List Sort)
    → Fits x s → Split xs ys ss → Split (x ∷ xs) ys (s ∷ ss)
split_onto x xs ys s ss h p =
    record {
      front = s ∷ p.front;
      behind = p.behind;
      is = ap (λ ts. s ∷ ts) p.is;
      fits_front = (h, p.fits_front);
      fits_behind = p.fits_behind;
    }

pub split : (xs ys : List Terminal) (ss : List Sort) → FitAll (xs ++ ys) ss → Split xs ys ss
split [] ys ss h = record { front = []; behind = ss; is = refl; fits_front = tt; fits_behind = h }
split (x ∷ xs) ys [] h = absurd h
split (x ∷ xs) ys (s ∷ ss) h = split_onto x xs ys s ss h.0 (split xs ys ss h.1)

pub join : (xs ys : List Terminal) (ss ts : List Sort) → FitAll xs ss → FitAll ys ts → FitAll (xs ++ ys) (ss ++ ts)
join [] ys [] ts h k = k
join [] ys (s ∷ ss) ts h k = absurd h
join (x ∷ xs) ys [] ts h k = absurd h
join (x ∷ xs) ys (s ∷ ss) ts h k = (h.0, join xs ys ss ts h.1 k)
