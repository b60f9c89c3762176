-- The place of what is unexpected is one, and no query has one.
use Rattle.std.proofs.Common.{◌≡◌, ◌∙◌, subst, ℕ, zero, suc, ◌≤◌, ◌<◌, List, [], ◌∷◌, ◌++◌, take, refl, ap, arith}
use Rattle.std.proofs.lemmas.List.{append_assoc}
use Rattle.pf_model.specs.Grammar.{IsDerived, Derives, Begins, IsUnexpected}
use Rattle.pf_model.specs.Tokens.{Sort}
use Rattle.pf_model.specs.Trees.{Tree}

record More (ts : List Sort) (n m : ℕ) : Type 0 where
  behind : List Sort
  is : take m ts ≡ take n ts ++ behind

longer : (x : Sort) (xs : List Sort) (n m : ℕ) → More xs n m → More (x ∷ xs) (suc n) (suc m)
longer x xs n m p = record { behind = p.behind; is = ap (λ ys. x ∷ ys) p.is }

more_of : (ts : List Sort) (n m : ℕ) → n ≤ m → More ts n m
more_of ts zero m h = record { behind = take m ts; is = refl }
more_of ts (suc n) zero h = absurd (omega (arith, h))
more_of [] (suc n) (suc m) h = record { behind = []; is = refl }
more_of (x ∷ xs) (suc n) (suc m) h = longer x xs n m (more_of xs n m (omega (arith, h)))

-- fewer tokens begin what more of them begin
fewer_begin : (ts : List Sort) (n m : ℕ) → n ≤ m → Begins (take m ts) → Begins (take n ts)
fewer_begin ts n m h b =
    let p = more_of ts n m h in
    record {
      further = p.behind ++ b.further;
      written = b.written;
      derived = subst (λ xs. IsDerived xs b.written)
          (ap (λ xs. xs ++ b.further) p.is ∙ append_assoc (take n ts) p.behind b.further) b.derived;
    }

not_before : (ts : List Sort) (n m : ℕ) → IsUnexpected ts n → IsUnexpected ts m → n < m → ⊥
not_before ts n m h k l =
    h.unlawful (omega (arith, k.within, l)) (fewer_begin ts (suc n) m (omega (arith, l)) k.begins)

pub one_place : (ts : List Sort) (n m : ℕ) → IsUnexpected ts n → IsUnexpected ts m → n ≡ m
one_place ts n m h k =
    omega (arith, not_before ts n m h k, not_before ts m n k h)

-- no query has one
pub none_unexpected : (ts : List Sort) (t : Tree) (n : ℕ) → Derives ts t → IsUnexpected ts n → ⊥
none_unexpected ts t n d h = h.unfinished d.written d.derived
