-- Draws behind draws, texts one after another, and pages one after another.
use Rattle.std.proofs.Common.{◌≡◌, ℕ, zero, suc, ◌+◌, ◌*◌, List, [], ◌∷◌, ◌++◌, map, refl, sym, ap, ◌∙◌, arith}
use Rattle.std.proofs.lemmas.List.{append-nil, append_assoc, map-append}
use Rattle.pf_gen.specs.Draws.{behind, next}
use Rattle.pf_gen.specs.Sessions.{all_below, page_of, pages_below}

one_behind : (n : ℕ) → n + 1 ≡ suc n
one_behind n = omega arith

pub behind_none : (x : ℕ) → behind zero x ≡ x
unfolding behind
behind_none x = refl

behind_next : (n x : ℕ) → behind (suc n) x ≡ next (behind n x)
unfolding behind
behind_next n x = refl

pub behind_one : (n x : ℕ) → behind (n + 1) x ≡ next (behind n x)
behind_one n x = ap (λ m. behind m x) (one_behind n) ∙ behind_next n x

pub behind_first : (x : ℕ) → behind 1 x ≡ next x
unfolding behind
behind_first x = refl

pub behind_second : (x : ℕ) → behind 2 x ≡ next (next x)
unfolding behind
behind_second x = refl

behind_more : (m n x : ℕ) → behind m (behind n x) ≡ behind (m + n) x
behind_more zero n x = behind_none (behind n x) ∙ ap (λ k. behind k x) (none n) where
  none : (n : ℕ) → n ≡ zero + n
  none n = omega arith
behind_more (suc m) n x =
    behind_next m (behind n x) ∙ ap next (behind_more m n x) ∙ sym (behind_next (m + n) x) ∙ ap (λ k. behind k x) (more m n) where
      more : (m n : ℕ) → suc (m + n) ≡ suc m + n
      more m n = omega arith

-- so many more behind some groups of as many
pub behind_group : (k n x : ℕ) → behind k (behind (n * k) x) ≡ behind ((n + 1) * k) x
behind_group k n x = behind_more k (n * k) x ∙ ap (λ m. behind m x) (same k n) where
  same : (k n : ℕ) → k + n * k ≡ (n + 1) * k
  same k n = omega arith

pub no_text : (text : ℕ → List ℕ) → all_below text zero ≡ []
unfolding all_below
no_text text = refl

next_text : (text : ℕ → List ℕ) (n : ℕ) → all_below text (suc n) ≡ all_below text n ++ text n
unfolding all_below
next_text text n = refl

pub one_more : (text : ℕ → List ℕ) (n : ℕ) → all_below text (n + 1) ≡ all_below text n ++ text n
one_more text n = ap (all_below text) (one_behind n) ∙ next_text text n

pub no_page : (state : ℕ) → pages_below state zero ≡ []
unfolding pages_below
no_page state = refl

next_page : (state n : ℕ) → pages_below state (suc n) ≡ pages_below state n ++ page_of (behind (n * 72100) state) n ∷ []
unfolding pages_below
next_page state n = refl

pub one_page : (state n : ℕ) → pages_below state (n + 1) ≡ pages_below state n ++ page_of (behind (n * 72100) state) n ∷ []
one_page state n = ap (pages_below state) (one_behind n) ∙ next_page state n

-- ---- on the way

pub none_yet : (before : List ℕ) (text : ℕ → List ℕ) → before ≡ before ++ all_below text zero
none_yet before text = sym (append-nil before) ∙ ap (λ ts. before ++ ts) (sym (no_text text))

pub with_one : (before now after : List ℕ) (text : ℕ → List ℕ) (n : ℕ) → now ≡ before ++ all_below text n → after ≡ now ++ text n
    → after ≡ before ++ all_below text (n + 1)
with_one before now after text n h k =
    k ∙ ap (λ ts. ts ++ text n) h ∙ append_assoc before (all_below text n) (text n) ∙ ap (λ ts. before ++ ts) (sym (one_more text n))

pub with_page : {X : Type 0} (f : X → List ℕ × List ℕ) (xs : List X) (x : X) (ys : List X) (state n : ℕ) → map f xs ≡ pages_below state n
    → ys ≡ xs ++ x ∷ [] → f x ≡ page_of (behind (n * 72100) state) n → map f ys ≡ pages_below state (n + 1)
with_page f xs x ys state n h k e =
    ap (map f) k ∙ map-append f xs (x ∷ []) ∙ ap (λ ps. ps ++ f x ∷ []) h ∙ ap (λ p. pages_below state n ++ p ∷ []) e ∙ sym (one_page state n)
