-- The string in front.
use Rattle.std.proofs.Common.{◌≡◌, ◌∙◌, ℕ, zero, suc, ◌<◌, ◌≤◌, inl, inr, Bool, true, false, ◌||◌, Option, Some, None, List, [], ◌∷◌, length, take, cond, refl, sym, ap, subst, arith}
use Rattle.std.specs.Prelude.{option_map, nat_eq, unwrap_or}
use Rattle.std.proofs.lemmas.Bool.Decides.{nat_tests}
use Rattle.pf_base.proofs.Readings.{bool_cases}
use Rattle.pf_model.specs.TokenScans.{form, token_at}
use Rattle.pf_model.specs.Tokens.{Sort, raw_from, string, string_form, string_from}
use Rattle.pf_model.specs.FirstBytes.{begins_string, first_passes}
use Rattle.pf_lex.specs.Quotes.{quoted_end, raw_end, string_end}
use Rattle.pf_lex.specs.Scans.{IsInFront}
use Rattle.pf_lex.specs.Seen.{written}
use Rattle.pf_lex.specs.declared.token.TokenSort.TheVariants as token
use Rattle.pf_model.proofs.TokenForms.{form_of_string}
use Rattle.pf_model.proofs.LongestToken.{in_front, none_in_front, some_is}
use Rattle.pf_lex.proofs.Pieces.{StandsFor, map_some, quoted_stands, quoted_within, raw_ends, raw_stands, string_ends}

abbrev stood : Bool → ℕ → List ℕ → Option (List ℕ)
stood raw b bs = cond raw (raw_from bs) (string_from b zero bs)

quoted_by : (b : ℕ) → begins_string b ≡ true → nat_eq b 96 ≡ false → (nat_eq b 34 || nat_eq b 39) ≡ true
quoted_by b h n = by (nat_eq b 34 || nat_eq b 39) (nat_eq b 96) h n
  where
    by : (t u : Bool) → (t || u) ≡ true → u ≡ false → t ≡ true
    by true u h n = refl
    by false u h n = let e = sym h ∙ n in cc

-- with the quote that it begins with
string_form_is : (b : ℕ) (bs : List ℕ) → begins_string b ≡ true → string_form (b ∷ bs) ≡ option_map string (stood (nat_eq b 96) b bs)
string_form_is b bs h = elim (bool_cases (nat_eq b 96)) [
  | inl t ↦
      let n : (nat_eq b 34 || nat_eq b 39) ≡ false = other b t in
      rw (n, t) refl
  | inr n ↦
      let t : (nat_eq b 34 || nat_eq b 39) ≡ true = quoted_by b h n in
      rw (n, t) refl
]
  where
    other : (b : ℕ) → nat_eq b 96 ≡ true → (nat_eq b 34 || nat_eq b 39) ≡ false
    other b t = let e : b ≡ 96 = grind (arith, nat_tests) in ap (λ x. nat_eq x 34 || nat_eq x 39) e

ends_at : (b k : ℕ) (bs w : List ℕ) → k ≤ length bs → stood (nat_eq b 96) b (take k bs) ≡ Some w → string_end (b ∷ bs) ≡ Some (suc k)
ends_at b k bs w within h = elim (bool_cases (nat_eq b 96)) [
  | inl t ↦ let g = rw t at h in rw t (ap (option_map suc) (raw_ends k bs w within g))
  | inr n ↦ let g = rw n at h in rw n (ap (option_map suc) (string_ends b zero k bs w within g))
]

form_ends : (inside : Bool) (bytes : List ℕ) (m : ℕ) (s : Sort) → first_passes begins_string bytes ≡ true → 1 ≤ m → m ≤ length bytes → form inside (take m bytes) ≡ Some s → string_end bytes ≡ Some m
form_ends inside [] m s h some within fits = cc
form_ends inside (b ∷ bs) zero s h some within fits = absurd (omega (arith, some))
form_ends inside (b ∷ bs) (suc m) s h some within fits =
    let e = sym (form_of_string inside b (take m bs) h ∙ string_form_is b (take m bs) h) ∙ fits in
    let t = map_some string (stood (nat_eq b 96) b (take m bs)) s e in
    ends_at b m bs t.0 (omega (arith, within)) t.1.0

record Ended (b k : ℕ) (bs : List ℕ) : Type 0 where
  stands : StandsFor (stood (nat_eq b 96) b (take k bs))
  within : k ≤ length bs

ended : (b k : ℕ) (bs : List ℕ) → cond (nat_eq b 96) (raw_end bs) (quoted_end b zero bs) ≡ Some k → Ended b k bs
ended b k bs h = elim (bool_cases (nat_eq b 96)) [
  | inl t ↦ let g = rw t at h in let r = raw_stands k bs g in record { stands = rw t r.0; within = r.2 }
  | inr n ↦ let g = rw n at h in record { stands = rw n (quoted_stands b zero k bs g); within = (quoted_within b zero k bs g).1 }
]

written_is : (b : ℕ) (bs w : List ℕ) → begins_string b ≡ true → stood (nat_eq b 96) b bs ≡ Some w → written (b ∷ bs) ≡ w
written_is b bs w h e = elim (bool_cases (nat_eq b 96)) [
  | inl t ↦ let g = rw t at e in rw t (ap (λ o. unwrap_or o []) g)
  | inr n ↦ let g = rw n at e in let q = quoted_by b h n in rw (n, q) (ap (λ o. unwrap_or o []) g)
]

pub string_in_front : (inside : Bool) (bytes : List ℕ) (n : ℕ) → first_passes begins_string bytes ≡ true → string_end bytes ≡ Some n → IsInFront inside bytes token.String n
string_in_front inside [] n h e = cc
string_in_front inside (b ∷ bs) n h e =
    let t = map_some suc (cond (nat_eq b 96) (raw_end bs) (quoted_end b zero bs)) n e in
    let k = t.0 in
    let d = ended b k bs t.1.0 in
    let w = d.stands.bytes in
    let fits : form inside (b ∷ take k bs) ≡ Some (string (written (b ∷ take k bs))) =
    form_of_string inside b (take k bs) h ∙ string_form_is b (take k bs) h ∙ ap (option_map string) d.stands.is ∙ ap (λ x. Some (string x)) (sym (written_is b (take k bs) w h d.stands.is)) in
    let none : (m : ℕ) → suc k < m → m ≤ length (b ∷ bs) → form inside (take m (b ∷ bs)) ≡ None = λ m low high. by m low high (form inside (take m (b ∷ bs))) refl (sym e) t.1.1 in
    subst (IsInFront inside (b ∷ bs) token.String) t.1.1 (record {
      token = in_front inside (b ∷ bs) (suc k) (string (written (b ∷ take k bs))) (omega arith) (omega (arith, d.within)) fits none;
      exact = tt;
      some = omega arith;
      within = omega (arith, d.within);
    })
  where
    by : {k : ℕ} (m : ℕ) → suc k < m → m ≤ length (b ∷ bs) → (o : Option Sort) → form inside (take m (b ∷ bs)) ≡ o → Some n ≡ string_end (b ∷ bs) → suc k ≡ n → form inside (take m (b ∷ bs)) ≡ None
    by m low high None f is same = f
    by m low high (Some s) f is same =
        absurd (let z = some_is n m (is ∙ form_ends inside (b ∷ bs) m s h (omega (arith, low)) high f) in omega (arith, z, low, same))

pub no_string_in_front : (inside : Bool) (bytes : List ℕ) → first_passes begins_string bytes ≡ true → string_end bytes ≡ None → token_at inside bytes 0 ≡ None
no_string_in_front inside bytes h e =
    none_in_front inside bytes (λ n s some within fits above. absurd (let k = sym e ∙ form_ends inside bytes n s h some within fits in cc))
