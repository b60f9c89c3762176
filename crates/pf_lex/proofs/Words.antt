-- The word in front.
use Rattle.std.proofs.Common.{◌≡◌, ◌∙◌, ℕ, pos, zero, suc, ◌<◌, ◌≤◌, Bool, true, false, not, ◌&&◌, ◌||◌, inl, inr, Some, None, List, [], ◌∷◌, length, take, drop, cond, refl, ap, arith, codes}
use Rattle.std.specs.Prelude.{map}
use Rattle.std.specs.Char.{to_ascii_lowercase}
use Rattle.std.specs.List.{list_all, prefix_len}
use Rattle.std.specs.Str.{bytes_eq, str_eq_ignore_ascii_case}
use Rattle.std.proofs.lemmas.Bool.{and_parts, and_from, or_parts}
use Rattle.std.proofs.lemmas.List.Sums.{prefix_len-le-length}
use Rattle.std.proofs.lemmas.Slice.Eq.{bytes_eq-Decides}
use Rattle.pf_base.specs.LabelSets.{goes_on, starts_name}
use Rattle.pf_model.specs.Cuts.{only_if}
use Rattle.pf_base.proofs.Readings.{bool_cases}
use Rattle.pf_model.specs.TokenScans.{form, token_at, word_sort}
use Rattle.pf_model.specs.Tokens.{has_letter, may_precede, number, word}
use Rattle.pf_model.specs.FirstBytes.{begins_word, first_passes}
use Rattle.pf_lex.specs.Scans.{IsInFront, is_word_byte}
use Rattle.pf_lex.specs.declared.token.TokenSort.TheVariants as token
use Rattle.pf_model.proofs.TokenForms.{form_of_word}
use Rattle.pf_model.proofs.LongestToken.{in_front}
use Rattle.pf_lex.proofs.Prefixes.{all_within, front_ends, front_passes, front_some}

begins_is : (b : ℕ) → begins_word b ≡ true → is_word_byte b ≡ true
begins_is b h = elim (bool_cases (starts_name b)) [
  | inl e ↦ rw e refl
  | inr n ↦ let g = rw n at h in or_right (goes_on b) g
]
  where
    or_right : (t : Bool) {u : Bool} → u ≡ true → (t || u) ≡ true
    or_right true h = refl
    or_right false h = h

first_is : (bytes : List ℕ) → first_passes begins_word bytes ≡ true → first_passes is_word_byte bytes ≡ true
first_is [] h = cc
first_is (b ∷ bs) h = begins_is b h

word_of : (bytes : List ℕ) (n : ℕ) → first_passes begins_word bytes ≡ true → 1 ≤ n → list_all is_word_byte (take n bytes) ≡ true → form false (take n bytes) ≡ Some (word_sort (take n bytes))
word_of [] n h some all = cc
word_of (b ∷ bs) zero h some all = absurd (omega (arith, some))
word_of (b ∷ bs) (suc n) h some all =
    form_of_word b (take n bs) h ∙ ap (λ t. only_if t (word_sort (b ∷ take n bs))) (and_from (begins_word b) _ h (and_parts (is_word_byte b) _ all).1)

no_word_past : (bytes : List ℕ) (n m : ℕ) → first_passes begins_word bytes ≡ true → n ≡ prefix_len is_word_byte bytes → n < m → m ≤ length bytes → form false (take m bytes) ≡ None
no_word_past [] n m h e low high = cc
no_word_past (b ∷ bs) n zero h e low high = absurd (omega (arith, low))
no_word_past (b ∷ bs) n (suc m) h e low high = elim (bool_cases (list_all is_word_byte (take m bs))) [
  | inl all ↦ absurd (let k = all_within is_word_byte (b ∷ bs) (suc m) (and_from (is_word_byte b) _ (begins_is b h) all) high in omega (arith, k, e, low))
  | inr other ↦ form_of_word b (take m bs) h ∙ ap (λ t. only_if (begins_word b && t) (word_sort (b ∷ take m bs))) other ∙ ap (λ t. only_if (t && false) (word_sort (b ∷ take m bs))) h
]

token_is : (bytes : List ℕ) (n : ℕ) → first_passes begins_word bytes ≡ true → n ≡ prefix_len is_word_byte bytes
    → token_at false bytes 0 ≡ only_if (may_precede (word_sort (take n bytes)) (drop n bytes)) (record { from = 0; to = n; sort = word_sort (take n bytes) })
token_is bytes n h e =
    let all : list_all is_word_byte (take n bytes) ≡ true = ap (λ k. list_all is_word_byte (take k bytes)) e ∙ front_passes is_word_byte bytes in
    let some = front_some is_word_byte bytes (first_is bytes h) in
    in_front false bytes n (word_sort (take n bytes)) (omega (arith, some, e)) (omega (arith, e, prefix_len-le-length is_word_byte bytes)) (word_of bytes n h (omega (arith, some, e)) all) (λ m low high. no_word_past bytes n m h e low high)

-- ---- `inf` and `nan`

nan_no_inf : (w : List ℕ) → str_eq_ignore_ascii_case w (codes "nan") ≡ true → str_eq_ignore_ascii_case w (codes "inf") ≡ false
nan_no_inf w h = ap (λ xs. bytes_eq xs (codes "inf")) ((bytes_eq-Decides (map to_ascii_lowercase w) (codes "nan")).0 h)

no_letter : (bytes : List ℕ) → first_passes is_word_byte bytes ≡ false → has_letter bytes ≡ false
no_letter [] h = refl
no_letter (b ∷ bs) h = (or_parts (goes_on b) _ h).0

pub nan_in_front : (bytes : List ℕ) (n : ℕ) → first_passes begins_word bytes ≡ true → n ≡ prefix_len is_word_byte bytes → str_eq_ignore_ascii_case (take n bytes) (codes "nan") ≡ true → token_at false bytes 0 ≡ None
nan_in_front bytes n h e k =
    let s : word_sort (take n bytes) ≡ word (take n bytes) = ap (λ t. cond t (number (pos 1000000000000000000)) (word (take n bytes))) (nan_no_inf (take n bytes) k) in
    token_is bytes n h e ∙ ap (λ s. only_if (may_precede s (drop n bytes)) (record { from = 0; to = n; sort = s })) s
    ∙ ap (λ t. only_if (not t) (record { from = 0; to = n; sort = word (take n bytes) })) k

pub inf_in_front : (bytes : List ℕ) (n : ℕ) → first_passes begins_word bytes ≡ true → n ≡ prefix_len is_word_byte bytes → str_eq_ignore_ascii_case (take n bytes) (codes "inf") ≡ true → IsInFront false bytes (token.Number (pos 1000000000000000000)) n
inf_in_front bytes n h e k =
    let s : word_sort (take n bytes) ≡ number (pos 1000000000000000000) = ap (λ t. cond t (number (pos 1000000000000000000)) (word (take n bytes))) k in
    let free : has_letter (drop n bytes) ≡ false = ap (λ k. has_letter (drop k bytes)) e ∙ no_letter (drop (prefix_len is_word_byte bytes) bytes) (front_ends is_word_byte bytes) in
    let some = front_some is_word_byte bytes (first_is bytes h) in
    record {
      token = token_is bytes n h e ∙ ap (λ s. only_if (may_precede s (drop n bytes)) (record { from = 0; to = n; sort = s })) s
          ∙ ap (λ t. only_if (not t) (record { from = 0; to = n; sort = number (pos 1000000000000000000) })) free;
      exact = tt;
      some = omega (arith, some, e);
      within = omega (arith, e, prefix_len-le-length is_word_byte bytes);
    }

pub word_in_front : (bytes : List ℕ) (n : ℕ) → first_passes begins_word bytes ≡ true → n ≡ prefix_len is_word_byte bytes → str_eq_ignore_ascii_case (take n bytes) (codes "nan") ≡ false
    → str_eq_ignore_ascii_case (take n bytes) (codes "inf") ≡ false → IsInFront false bytes token.Word n
word_in_front bytes n h e nan inf =
    let s : word_sort (take n bytes) ≡ word (take n bytes) = ap (λ t. cond t (number (pos 1000000000000000000)) (word (take n bytes))) inf in
    let some = front_some is_word_byte bytes (first_is bytes h) in
    record {
      token = token_is bytes n h e ∙ ap (λ s. only_if (may_precede s (drop n bytes)) (record { from = 0; to = n; sort = s })) s
          ∙ ap (λ t. only_if (not t) (record { from = 0; to = n; sort = word (take n bytes) })) nan;
      exact = tt;
      some = omega (arith, some, e);
      within = omega (arith, e, prefix_len-le-length is_word_byte bytes);
    }
