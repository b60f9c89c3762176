-- The scans of tokens, one token at a time.
use Rattle.std.proofs.Common.{◌≡◌, ◌∙◌, sym, refl, ap, subst, ℕ, zero, suc, ◌+◌, ◌-◌, ◌<◌, ◌≤◌, Bool, true, false, not, cond, ◌&&◌, List, [], ◌∷◌, take, drop, length, get_or, Some, nat_le, arith}
use Rattle.std.proofs.lemmas.Bool.{leb-false}
use Rattle.std.proofs.lemmas.List.{drop_more, length-drop, take_all}
use Rattle.pf_lex.specs.declared.token.Token.{Token}
use Rattle.pf_lex.specs.declared.token.TokenSort.{TokenSort}
use Rattle.pf_parse.specs.Scans.{opens, closes, is_deep, open_behind, deep_at, is_lost, is_at, lost_at, is_late, is_behind_at, late_at, place_at}

pub deep_found : (ts : List Token) (c i : ℕ) (d : Token) → i < length ts → is_deep c (get_or ts i d).sort ≡ true
    → deep_at c (drop i ts) ≡ Some (get_or ts i d).from
deep_found ts c i d l h =
    ap (deep_at c) (drop_more ts i d l)
    ∙ ap (λ b. cond b (Some (get_or ts i d).from) (deep_at (open_behind c (get_or ts i d).sort) (drop (i + 1) ts))) h

pub deep_passed : (ts : List Token) (c i : ℕ) (d : Token) → i < length ts → is_deep c (get_or ts i d).sort ≡ false
    → deep_at (open_behind c (get_or ts i d).sort) (drop (i + 1) ts) ≡ deep_at c (drop i ts)
deep_passed ts c i d l h =
    sym (ap (deep_at c) (drop_more ts i d l)
    ∙ ap (λ b. cond b (Some (get_or ts i d).from) (deep_at (open_behind c (get_or ts i d).sort) (drop (i + 1) ts))) h)

pub deep_bound : (c : ℕ) (s : TokenSort) → is_deep c s ≡ false → c ≤ 64 → open_behind c s ≤ 64
deep_bound c s h l = bound (opens s) (closes s) h
  where
    bound : (o e : Bool) → (o && nat_le 64 c) ≡ false → cond o (c + 1) (cond e (c - 1) c) ≤ 64
    bound true e h = omega (arith, leb-false 64 c h)
    bound false true h = omega (arith, l)
    bound false false h = l

-- what stands behind a token
all_behind : (ts : List Token) (i : ℕ) → take (length ts - i) (drop i ts) ≡ drop i ts
all_behind ts i = take_all (length ts - i) (drop i ts) (omega (arith, length-drop i ts))

-- the test of a token as the code makes it
lost_test : (text : List ℕ) (ts : List Token) (b : Bool) (i : ℕ) (t : Token) (r : Bool) → t ≡ get_or ts i t
    → (not b && is_lost text t (take (length ts - (i + 1)) (drop (i + 1) ts))) ≡ r
    → (not b && is_lost text (get_or ts i t) (drop (i + 1) ts)) ≡ r
lost_test text ts b i t r e h =
    subst (λ x. (not b && is_lost text x (drop (i + 1) ts)) ≡ r) e
    (subst (λ xs. (not b && is_lost text t xs) ≡ r) (all_behind ts (i + 1)) h)

pub lost_found : (text : List ℕ) (ts : List Token) (b : Bool) (i : ℕ) (t : Token) → i < length ts → t ≡ get_or ts i t
    → (not b && is_lost text t (take (length ts - (i + 1)) (drop (i + 1) ts))) ≡ true → lost_at text b (drop i ts) ≡ Some t.from
lost_found text ts b i t l e h =
    ap (lost_at text b) (drop_more ts i t l)
    ∙ (ap (λ c. cond c (Some (get_or ts i t).from) (lost_at text (is_at (get_or ts i t).sort) (drop (i + 1) ts)))
    (lost_test text ts b i t true e h)
    ∙ ap (λ x. Some x.from) (sym e))

pub lost_passed : (text : List ℕ) (ts : List Token) (b : Bool) (i : ℕ) (t : Token) → i < length ts → t ≡ get_or ts i t
    → (not b && is_lost text t (take (length ts - (i + 1)) (drop (i + 1) ts))) ≡ false
    → lost_at text (is_at t.sort) (drop (i + 1) ts) ≡ lost_at text b (drop i ts)
lost_passed text ts b i t l e h =
    ap (λ x. lost_at text (is_at x.sort) (drop (i + 1) ts)) e
    ∙ sym (ap (lost_at text b) (drop_more ts i t l)
    ∙ ap (λ c. cond c (Some (get_or ts i t).from) (lost_at text (is_at (get_or ts i t).sort) (drop (i + 1) ts)))
    (lost_test text ts b i t false e h))

pub late_found : (ts : List Token) (b : Bool) (i : ℕ) (d : Token) → i < length ts → is_late b (get_or ts i d).sort ≡ true
    → late_at b (drop i ts) ≡ Some (get_or ts i d).from
late_found ts b i d l h =
    ap (late_at b) (drop_more ts i d l)
    ∙ ap (λ c. cond c (Some (get_or ts i d).from) (late_at (is_behind_at b (get_or ts i d).sort) (drop (i + 1) ts))) h

pub late_passed : (ts : List Token) (b : Bool) (i : ℕ) (d : Token) → i < length ts → is_late b (get_or ts i d).sort ≡ false
    → late_at (is_behind_at b (get_or ts i d).sort) (drop (i + 1) ts) ≡ late_at b (drop i ts)
late_passed ts b i d l h =
    sym (ap (late_at b) (drop_more ts i d l)
    ∙ ap (λ c. cond c (Some (get_or ts i d).from) (late_at (is_behind_at b (get_or ts i d).sort) (drop (i + 1) ts))) h)

pub place_within : (text : List ℕ) (ts : List Token) (n : ℕ) (d : Token) → n < length ts → place_at text ts n ≡ (get_or ts n d).from
place_within text [] n d l = absurd (omega (arith, l))
place_within text (t ∷ ts) zero d l = refl
place_within text (t ∷ ts) (suc n) d l = place_within text ts n d (omega (arith, l))

pub place_behind : (text : List ℕ) (ts : List Token) (n : ℕ) → length ts ≤ n → place_at text ts n ≡ length text
place_behind text [] n l = refl
place_behind text (t ∷ ts) zero l = absurd (omega (arith, l))
place_behind text (t ∷ ts) (suc n) l = place_behind text ts n (omega (arith, l))
