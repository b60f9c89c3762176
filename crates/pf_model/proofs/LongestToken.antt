-- The token in front of bytes, by the length of the longest that fits.
use Rattle.std.proofs.Common.{◌≡◌, ◌∙◌, ℕ, zero, suc, ◌+◌, ◌<◌, ◌≤◌, ◌⊎◌, inl, inr, Bool, false, Option, Some, None, List, length, take, drop, refl, sym, ap, subst, arith}
use Rattle.std.specs.Prelude.{option_map}
use Rattle.std.specs.Option.{option_or}
use Rattle.std.proofs.lemmas.Bool.{cases_order}
use Rattle.pf_model.specs.Cuts.{only_if}
use Rattle.pf_model.specs.TokenScans.{form, lawful, longest, token_at}
use Rattle.pf_model.specs.Tokens.{Sort, Token, may_precede}

pub some_is : {X : Type 0} (x y : X) → Some x ≡ Some y → x ≡ y
some_is x y e = cc

-- the longest that fits among the first n bytes
pub record IsLongest (inside : Bool) (at : ℕ) (bytes : List ℕ) (n : ℕ) (found : Option Token) : Type 0 where
  pub len : ℕ
  pub sort : Sort
  pub is : found ≡ Some (record { from = at; to = at + len; sort = sort })
  pub some : 1 ≤ len
  pub within : len ≤ n
  pub fits : form inside (take len bytes) ≡ Some sort
  pub none : (m : ℕ) → len < m → m ≤ n → form inside (take m bytes) ≡ None

pub record NoneFits (inside : Bool) (bytes : List ℕ) (n : ℕ) (found : Option Token) : Type 0 where
  pub is : found ≡ None
  pub none : (m : ℕ) → 1 ≤ m → m ≤ n → form inside (take m bytes) ≡ None

pub longest_cases : (inside : Bool) (at : ℕ) (bytes : List ℕ) (n : ℕ) → NoneFits inside bytes n (longest inside at bytes n) ⊎ IsLongest inside at bytes n (longest inside at bytes n)
longest_cases inside at bytes zero = inl (record { is = refl; none = λ m low high. absurd (omega (arith, low, high)) })
longest_cases inside at bytes (suc n) = by (longest_cases inside at bytes n) (form inside (take (suc n) bytes)) refl
  where
    above : (P : ℕ → Type 0) (k : ℕ) → P (suc n) → ((m : ℕ) → k < m → m ≤ n → P m) → (m : ℕ) → k < m → m ≤ suc n → P m
    above P k last h m low high = elim (cases_order m (suc n)) [
      | inl e ↦ subst P (sym e) last
      | inr o ↦ elim o [ inl less ↦ h m low (omega (arith, less)) | inr more ↦ absurd (omega (arith, more, high)) ]
    ]

    by : NoneFits inside bytes n (longest inside at bytes n) ⊎ IsLongest inside at bytes n (longest inside at bytes n) → (o : Option Sort) → form inside (take (suc n) bytes) ≡ o → NoneFits inside bytes (suc n) (longest inside at bytes (suc n)) ⊎ IsLongest inside at bytes (suc n) (longest inside at bytes (suc n))
    by before (Some s) e = inr (record {
      len = suc n;
      sort = s;
      is = ap (λ o. option_or (option_map (λ s. record { from = at; to = at + suc n; sort = s }) o) (longest inside at bytes n)) e;
      some = omega arith;
      within = omega arith;
      fits = e;
      none = λ m low high. absurd (omega (arith, low, high));
    })
    by before None e =
        let same : longest inside at bytes (suc n) ≡ longest inside at bytes n = ap (λ o. option_or (option_map (λ s. record { from = at; to = at + suc n; sort = s }) o) (longest inside at bytes n)) e in
        elim before [
          | inl h ↦ inl (record { is = same ∙ h.is; none = λ m low high. above (λ k. form inside (take k bytes) ≡ None) 0 e (λ k l r. h.none k l r) m low high })
          | inr h ↦ inr (record {
            len = h.len;
            sort = h.sort;
            is = same ∙ h.is;
            some = h.some;
            within = omega arith;
            fits = h.fits;
            none = above (λ k. form inside (take k bytes) ≡ None) h.len e h.none;
          })
        ]

-- the token in front is the longest that fits, where it may precede what follows
pub in_front : (inside : Bool) (bytes : List ℕ) (n : ℕ) (s : Sort) → 1 ≤ n → n ≤ length bytes → form inside (take n bytes) ≡ Some s
    → ((m : ℕ) → n < m → m ≤ length bytes → form inside (take m bytes) ≡ None)
    → token_at inside bytes 0 ≡ only_if (may_precede s (drop n bytes)) (record { from = 0; to = n; sort = s })
in_front inside bytes n s some within fits none = elim (longest_cases inside 0 bytes (length bytes)) [
  | inl h ↦ absurd (let k = h.none n some within in let e = sym fits ∙ k in cc)
  | inr h ↦ elim (cases_order n h.len) [
    | inl e ↦
        let t : s ≡ h.sort = some_is s h.sort (sym fits ∙ ap (λ k. form inside (take k bytes)) e ∙ h.fits) in
        ap (lawful bytes) (h.is ∙ ap (λ k. Some (record { from = 0; to = k; sort = h.sort })) (to_is h.len))
        ∙ ap (λ k. only_if (may_precede h.sort (drop k bytes)) (record { from = 0; to = k; sort = h.sort })) (sym e)
        ∙ ap (λ x. only_if (may_precede x (drop n bytes)) (record { from = 0; to = n; sort = x })) (sym t)
    | inr o ↦ elim o [
      | inl less ↦ absurd (let k = none h.len less h.within in let e = sym h.fits ∙ k in cc)
      | inr more ↦ absurd (let k = h.none n more within in let e = sym fits ∙ k in cc)
    ]
  ]
]
  where
    to_is : (n : ℕ) → 0 + n ≡ n
    to_is n = omega arith

-- no token is in front, where none that fits and is the longest may precede what follows
pub none_in_front : (inside : Bool) (bytes : List ℕ)
    → ((n : ℕ) (s : Sort) → 1 ≤ n → n ≤ length bytes → form inside (take n bytes) ≡ Some s → ((m : ℕ) → n < m → m ≤ length bytes → form inside (take m bytes) ≡ None) → may_precede s (drop n bytes) ≡ false)
    → token_at inside bytes 0 ≡ None
none_in_front inside bytes bad = elim (longest_cases inside 0 bytes (length bytes)) [
  | inl h ↦ ap (lawful bytes) h.is
  | inr h ↦
      let e = bad h.len h.sort h.some h.within h.fits h.none in
      in_front inside bytes h.len h.sort h.some h.within h.fits h.none ∙ ap (λ t. only_if t (record { from = 0; to = h.len; sort = h.sort })) e
]
