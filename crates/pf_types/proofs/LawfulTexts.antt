-- The names and the times of what the grammar reads are within their bounds.
use Rattle.std.proofs.Common.{◌≡◌, ℕ, ◌+◌, ◌/◌, Bool, true, false, ◌&&◌, ◌||◌, not, cond, codes, Option, Some, None, List, [], ◌∷◌, ◌++◌, refl, sym, ap, subst, ◌∙◌, arith}
use Rattle.std.specs.Prelude.{nat_abs, nat_eq, nat_le, nat_lt}
use Rattle.std.specs.List.{list_all, list_any}
use Rattle.std.specs.Str.{bytes_eq}
use Rattle.std.proofs.lemmas.Bool.Decides.{nat_tests}
use Rattle.pf_base.specs.LabelSets.{goes_on, is_label_name, starts_name}
use Rattle.pf_base.specs.Limits.{greatest_time}
use Rattle.pf_model.specs.Built.{is_distance}
use Rattle.pf_model.specs.Grammar.{Terminal, key, name, label, exactly, sign, number, duration, string, Fits, FitAll, has_colon}
use Rattle.pf_model.specs.Parsing.{is_behind_at, is_too_large, too_large_at, sorts}
use Rattle.pf_model.specs.Tokens as token
use Rattle.pf_model.specs.Tokens.{BeginsWith, Forms, Sort, Token, inside_behind, is_word, part}
use Rattle.pf_types.proofs.LawfulKinds.{both_of, given, left_of, none_is_some, right_of}

-- ---- words of tokens

abbrev pub is_lawful_sort : Sort → Bool
is_lawful_sort (token.word w) = is_word w
is_lawful_sort _ = true

form_is_lawful : (inside : Bool) (bytes : List ℕ) (s : Sort) → Forms inside bytes s → is_lawful_sort s ≡ true
form_is_lawful inside bytes (token.word w) h = ap is_word h.3 ∙ h.1
form_is_lawful inside bytes (token.number n) h = refl
form_is_lawful inside bytes (token.duration n) h = refl
form_is_lawful inside bytes (token.string w) h = refl
form_is_lawful inside bytes (token.sign w) h = refl

abbrev pub are_lawful_sorts : List Sort → Bool
are_lawful_sorts ss = list_all is_lawful_sort ss

pub tokens_are_lawful : (text : List ℕ) (inside : Bool) (place : ℕ) (ts : List Token) → BeginsWith text inside place ts
    → are_lawful_sorts (sorts ts) ≡ true
tokens_are_lawful text inside place [] h = refl
tokens_are_lawful text inside place (t ∷ ts) h =
    both_of (is_lawful_sort t.sort) (are_lawful_sorts (sorts ts))
    (form_is_lawful inside (part text t.from t.to) t.sort h.1.forms)
    (tokens_are_lawful text (inside_behind inside t.sort) t.to ts h.2)

-- ---- what terminals say

abbrev pub is_sound_here : Bool → Terminal → Bool
is_sound_here behind (label l) = is_label_name l
is_sound_here behind (duration d) = is_distance d
is_sound_here behind (number n) = not (behind && nat_lt greatest_time (nat_abs n / 1000))
is_sound_here behind _ = true

abbrev pub is_then_behind : Bool → Terminal → Bool
is_then_behind behind (sign s) = bytes_eq s (codes "@") || (behind && (bytes_eq s (codes "+") || bytes_eq s (codes "-")))
is_then_behind behind _ = false

abbrev pub is_sound : Bool → List Terminal → Bool
is_sound behind [] = true
is_sound behind (t ∷ ts) = is_sound_here behind t && is_sound (is_then_behind behind t) ts

and_false : (b : Bool) → (b && false) ≡ false
and_false true = refl
and_false false = refl

-- a word without a colon is a label's name
swapped : (c : ℕ) → nat_eq c 58 ≡ nat_eq 58 c
swapped c = grind (arith, nat_tests)

left_false : (a c : Bool) → (a || c) ≡ false → a ≡ false
left_false true c q = q
left_false false c q = refl

right_false : (a c : Bool) → (a || c) ≡ false → c ≡ false
right_false true c q = given (sym q)
right_false false c q = q

first : (x y z : Bool) → y ≡ z → (x || y) ≡ true → z ≡ false → x ≡ true
first true y z e q r = refl
first false y z e q r = sym r ∙ sym e ∙ q

uncoloured : (bs : List ℕ) → list_all (λ c. goes_on c || nat_eq c 58) bs ≡ true → list_any (nat_eq 58) bs ≡ false → list_all goes_on bs ≡ true
uncoloured [] h g = refl
uncoloured (b ∷ bs) h g =
    both_of (goes_on b) (list_all goes_on bs)
    (first (goes_on b) (nat_eq b 58) (nat_eq 58 b) (swapped b) (left_of (goes_on b || nat_eq b 58) (list_all (λ c. goes_on c || nat_eq c 58) bs) h)
    (left_false (nat_eq 58 b) (list_any (nat_eq 58) bs) g))
    (uncoloured bs (right_of (goes_on b || nat_eq b 58) (list_all (λ c. goes_on c || nat_eq c 58) bs) h)
    (right_false (nat_eq 58 b) (list_any (nat_eq 58) bs) g))

is_none_first : (b : Bool) (n : ℕ) (o : Option ℕ) → cond b (Some n) o ≡ None → b ≡ false
is_none_first true n o h = none_is_some n h
is_none_first false n o h = refl

is_none_second : (b : Bool) (n : ℕ) (o : Option ℕ) → cond b (Some n) o ≡ None → o ≡ None
is_none_second true n o h = none_is_some n h
is_none_second false n o h = h

word_is_label : (w : List ℕ) → is_word w ≡ true → has_colon w ≡ false → is_label_name w ≡ true
word_is_label [] h g = h
word_is_label (b ∷ bs) h g =
    both_of (starts_name b) (list_all goes_on bs)
    (first (starts_name b) (nat_eq b 58) (nat_eq 58 b) (swapped b) (left_of (starts_name b || nat_eq b 58) (list_all (λ c. goes_on c || nat_eq c 58) bs) h)
    (left_false (nat_eq 58 b) (list_any (nat_eq 58) bs) g))
    (uncoloured bs (right_of (starts_name b || nat_eq b 58) (list_all (λ c. goes_on c || nat_eq c 58) bs) h)
    (right_false (nat_eq 58 b) (list_any (nat_eq 58) bs) g))

-- the tokens that terminals fit say of them what they are
abbrev pub is_near_sort : Bool → Sort → Bool
is_near_sort behind s = not (is_too_large behind s) && is_lawful_sort s

abbrev pub are_near_sorts : Bool → List Sort → Bool
are_near_sorts behind [] = true
are_near_sorts behind (s ∷ ss) = is_near_sort behind s && are_near_sorts (is_behind_at behind s) ss

pub near_tokens : (behind : Bool) (ts : List Token) → too_large_at behind ts ≡ None → are_lawful_sorts (sorts ts) ≡ true
    → are_near_sorts behind (sorts ts) ≡ true
near_tokens behind [] h g = refl
near_tokens behind (t ∷ ts) h g =
    both_of (not (is_too_large behind t.sort) && is_lawful_sort t.sort) (are_near_sorts (is_behind_at behind t.sort) (sorts ts))
    (both_of (not (is_too_large behind t.sort)) (is_lawful_sort t.sort)
    (ap not (is_none_first (is_too_large behind t.sort) t.from (too_large_at (is_behind_at behind t.sort) ts) h))
    (left_of (is_lawful_sort t.sort) (are_lawful_sorts (sorts ts)) g))
    (near_tokens (is_behind_at behind t.sort) ts
    (is_none_second (is_too_large behind t.sort) t.from (too_large_at (is_behind_at behind t.sort) ts) h)
    (right_of (is_lawful_sort t.sort) (are_lawful_sorts (sorts ts)) g))

sound_here : (behind : Bool) (t : Terminal) (s : Sort) → Fits t s → is_near_sort behind s ≡ true → is_sound_here behind t ≡ true
sound_here behind (key k) s f h = refl
sound_here behind (name k) s f h = refl
sound_here behind (exactly k) s f h = refl
sound_here behind (sign k) s f h = refl
sound_here behind (string k) s f h = refl
sound_here behind (label l) (token.word w) f h =
    subst (λ x. is_label_name x ≡ true) f.0 (word_is_label w h f.1)
sound_here behind (number n) (token.number m) f h =
    subst (λ x. not (behind && nat_lt greatest_time (nat_abs x / 1000)) ≡ true) f (left_of (not (behind && nat_lt greatest_time (nat_abs m / 1000))) true h)
sound_here behind (duration d) (token.duration m) f h =
    subst (λ x. is_distance x ≡ true) f (at_most m (left_of (not (nat_lt greatest_time m)) true h)) where
      at_most : (n : ℕ) → not (nat_lt 4398046511103 n) ≡ true → nat_le n 4398046511103 ≡ true
      at_most n q = grind (arith, nat_tests, not_true (nat_lt 4398046511103 n) q) where
        not_true : (b : Bool) → not b ≡ true → b ≡ false
        not_true true r = sym r
        not_true false r = refl
sound_here behind (label l) (token.number m) f h = absurd f
sound_here behind (label l) (token.duration m) f h = absurd f
sound_here behind (label l) (token.string m) f h = absurd f
sound_here behind (label l) (token.sign m) f h = absurd f
sound_here behind (number l) (token.word m) f h = absurd f
sound_here behind (number l) (token.duration m) f h = absurd f
sound_here behind (number l) (token.string m) f h = absurd f
sound_here behind (number l) (token.sign m) f h = absurd f
sound_here behind (duration l) (token.word m) f h = absurd f
sound_here behind (duration l) (token.number m) f h = absurd f
sound_here behind (duration l) (token.string m) f h = absurd f
sound_here behind (duration l) (token.sign m) f h = absurd f

-- what stands behind a terminal is behind an `@` where its token is
behind_is : (behind : Bool) (t : Terminal) (s : Sort) → Fits t s → is_behind_at behind s ≡ is_then_behind behind t
behind_is behind (key k) (token.word w) f = and_false behind
behind_is behind (name k) (token.word w) f = and_false behind
behind_is behind (exactly k) (token.word w) f = and_false behind
behind_is behind (label k) (token.word w) f = and_false behind
behind_is behind (sign k) (token.sign t) f = ap (λ x. bytes_eq x (codes "@") || (behind && (bytes_eq x (codes "+") || bytes_eq x (codes "-")))) f
behind_is behind (number k) (token.number w) f = and_false behind
behind_is behind (duration k) (token.duration w) f = and_false behind
behind_is behind (string k) (token.string w) f = and_false behind
behind_is behind (key k) (token.number w) f = absurd f
behind_is behind (key k) (token.duration w) f = absurd f
behind_is behind (key k) (token.string w) f = absurd f
behind_is behind (key k) (token.sign w) f = absurd f
behind_is behind (name k) (token.number w) f = absurd f
behind_is behind (name k) (token.duration w) f = absurd f
behind_is behind (name k) (token.string w) f = absurd f
behind_is behind (name k) (token.sign w) f = absurd f
behind_is behind (exactly k) (token.number w) f = absurd f
behind_is behind (exactly k) (token.duration w) f = absurd f
behind_is behind (exactly k) (token.string w) f = absurd f
behind_is behind (exactly k) (token.sign w) f = absurd f
behind_is behind (label k) (token.number w) f = absurd f
behind_is behind (label k) (token.duration w) f = absurd f
behind_is behind (label k) (token.string w) f = absurd f
behind_is behind (label k) (token.sign w) f = absurd f
behind_is behind (sign k) (token.word w) f = absurd f
behind_is behind (sign k) (token.number w) f = absurd f
behind_is behind (sign k) (token.duration w) f = absurd f
behind_is behind (sign k) (token.string w) f = absurd f
behind_is behind (number k) (token.word w) f = absurd f
behind_is behind (number k) (token.duration w) f = absurd f
behind_is behind (number k) (token.string w) f = absurd f
behind_is behind (number k) (token.sign w) f = absurd f
behind_is behind (duration k) (token.word w) f = absurd f
behind_is behind (duration k) (token.number w) f = absurd f
behind_is behind (duration k) (token.string w) f = absurd f
behind_is behind (duration k) (token.sign w) f = absurd f
behind_is behind (string k) (token.word w) f = absurd f
behind_is behind (string k) (token.number w) f = absurd f
behind_is behind (string k) (token.duration w) f = absurd f
behind_is behind (string k) (token.sign w) f = absurd f

pub terminals_sound : (behind : Bool) (ts : List Terminal) (ss : List Sort) → FitAll ts ss → are_near_sorts behind ss ≡ true
    → is_sound behind ts ≡ true
terminals_sound behind [] ss f h = refl
terminals_sound behind (t ∷ ts) [] f h = absurd f
terminals_sound behind (t ∷ ts) (s ∷ ss) f h =
    both_of (is_sound_here behind t) (is_sound (is_then_behind behind t) ts)
    (sound_here behind t s f.0 (left_of (is_near_sort behind s) (are_near_sorts (is_behind_at behind s) ss) h))
    (subst (λ b. is_sound b ts ≡ true) (behind_is behind t s f.0)
    (terminals_sound (is_behind_at behind s) ts ss f.1 (right_of (is_near_sort behind s) (are_near_sorts (is_behind_at behind s) ss) h)))

-- ---- parts of terminals

-- what is sound behind an `@` is sound
pub sound_apart : (behind : Bool) (ts : List Terminal) → is_sound behind ts ≡ true → is_sound false ts ≡ true
sound_apart false ts h = h
sound_apart true [] h = refl
sound_apart true (t ∷ ts) h =
    both_of (is_sound_here false t) (is_sound (is_then_behind false t) ts) (here t (left_of (is_sound_here true t) (is_sound (is_then_behind true t) ts) h))
    (loose t (right_of (is_sound_here true t) (is_sound (is_then_behind true t) ts) h) (sound_apart (is_then_behind true t) ts (right_of (is_sound_here true t) (is_sound (is_then_behind true t) ts) h)))
  where
    here : (x : Terminal) → is_sound_here true x ≡ true → is_sound_here false x ≡ true
    here (label l) q = q
    here (duration d) q = q
    here (number n) q = refl
    here _ q = refl

    loose : (x : Terminal) → is_sound (is_then_behind true x) ts ≡ true → is_sound false ts ≡ true → is_sound (is_then_behind false x) ts ≡ true
    loose (sign s) q r = by (bytes_eq s (codes "@")) q r where
      by : (b : Bool) → is_sound (b || (true && (bytes_eq s (codes "+") || bytes_eq s (codes "-")))) ts ≡ true → is_sound false ts ≡ true → is_sound (b || false) ts ≡ true
      by true u v = u
      by false u v = v
    loose _ q r = r

-- what stands behind a terminal
pub behind_one : (behind : Bool) (t : Terminal) (ts : List Terminal) → is_sound behind (t ∷ ts) ≡ true → is_sound false ts ≡ true
behind_one behind t ts h = sound_apart (is_then_behind behind t) ts (right_of (is_sound_here behind t) (is_sound (is_then_behind behind t) ts) h)

pub front_part : (behind : Bool) (xs ys : List Terminal) → is_sound behind (xs ++ ys) ≡ true → is_sound behind xs ≡ true
front_part behind [] ys h = refl
front_part behind (x ∷ xs) ys h =
    both_of (is_sound_here behind x) (is_sound (is_then_behind behind x) xs) (left_of (is_sound_here behind x) (is_sound (is_then_behind behind x) (xs ++ ys)) h)
    (front_part (is_then_behind behind x) xs ys (right_of (is_sound_here behind x) (is_sound (is_then_behind behind x) (xs ++ ys)) h))

pub back_part : (behind : Bool) (xs ys : List Terminal) → is_sound behind (xs ++ ys) ≡ true → is_sound false ys ≡ true
back_part behind [] ys h = sound_apart behind ys h
back_part behind (x ∷ xs) ys h = back_part (is_then_behind behind x) xs ys (right_of (is_sound_here behind x) (is_sound (is_then_behind behind x) (xs ++ ys)) h)
