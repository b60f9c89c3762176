-- What a string of a text stands for is text.
use Rattle.std.proofs.Common.{◌≡◌, ◌∙◌, ℕ, zero, suc, ◌+◌, ◌-◌, ◌/◌, ◌%◌, ◌<◌, ◌≤◌, inl, inr, Bool, true, false, ◌&&◌, ◌||◌, Option, Some, None, List, [], ◌∷◌, ◌++◌, length, take, drop, get_or, refl, sym, ap, subst, arith, append_assoc, length-append}
use Rattle.std.specs.Prelude.{option_map, nat_eq, nat_lt, unwrap_or}
use Rattle.std.specs.Char.{encode_utf8, is_ascii_hexdigit}
use Rattle.std.specs.List.{list_all}
use Rattle.std.specs.Option.{option_eq}
use Rattle.std.specs.Str.{IsUtf8, encode_utf8_all, all_scalars}
use lib.Utf8.{scalar}
use Rattle.std.proofs.lemmas.Bool.{and_parts, cases_lt}
use Rattle.std.proofs.lemmas.Bool.Decides.{nat_tests}
use Rattle.std.proofs.lemmas.List.{drop_more, drop-drop, take_all, take_at, length-take, length-drop}
use Rattle.std.proofs.lemmas.Str.{encode_ascii, IsUtf8-append, IsUtf8-drop, IsUtf8-encode, IsUtf8-nil, IsUtf8-take, length-encode, len_utf8_bounds, IsCharBoundary-after_ascii, IsCharBoundary-before_ascii}
use Rattle.pf_base.specs.LabelSets.{is_empty}
use Rattle.pf_model.specs.Cuts.{only_if}
use Rattle.pf_base.proofs.Readings.{bool_cases}
use Rattle.pf_model.specs.Tokens.{Piece, ends, wrong, writes, character, escape, escaped_by, escapes, hexadecimal, piece, raw_from, string_from, with_piece}
use Rattle.pf_lex.specs.Seen.{written}
use Rattle.pf_model.proofs.LongestToken.{some_is}
use Rattle.pf_lex.proofs.Low.{is_low}
use Rattle.pf_lex.specs.Quotes.{bytes_of, piece_of, raw_end}
use Rattle.pf_lex.specs.declared.string.Piece.TheVariants as found
use Rattle.pf_lex.specs.declared.string.Written.{Written}
use Rattle.pf_lex.proofs.Pieces.{map_some, raw_ends, raw_stands}

pub one_low : (b : ℕ) → b < 128 → IsUtf8 (b ∷ [])
one_low b h = subst IsUtf8 (encode_ascii b h) (IsUtf8-encode b (low_scalar b h))
  where
    low_scalar : (b : ℕ) → b < 128 → scalar b ≡ true
    low_scalar b h = grind (arith, nat_tests)

-- ---- bytes of higher characters

abbrev pub is_high : ℕ → Bool
is_high b = nat_lt 127 b

pub high_encode : (c : ℕ) → 128 ≤ c → list_all is_high (encode_utf8 c) ≡ true
unfolding encode_utf8
high_encode c h = elim (bool_cases (nat_lt c 128)) [
  | inl t ↦ absurd (low c h t)
  | inr n ↦ rw n (elim (bool_cases (nat_lt c 2048)) [
    | inl t ↦ rw t (by_two (c / 64) (c % 64))
    | inr m ↦ rw m (elim (bool_cases (nat_lt c 65536)) [
      | inl t ↦ rw t (by_three (c / 4096) (c / 64 % 64) (c % 64))
      | inr k ↦ rw k (by_four (c / 262144) (c / 4096 % 64) (c / 64 % 64) (c % 64))
    ])
  ])
]
  where
    low : (c : ℕ) → 128 ≤ c → nat_lt c 128 ≡ true → ⊥
    low c h t = grind (arith, nat_tests)

    above : (k n : ℕ) → 127 < k → nat_lt 127 (k + n) ≡ true
    above k n h = grind (arith, nat_tests)

    by_two : (a b : ℕ) → list_all is_high ((192 + a) ∷ (128 + b) ∷ []) ≡ true
    by_two a b = let x = above 192 a (omega arith) in let y = above 128 b (omega arith) in rw (x, y) refl

    by_three : (a b d : ℕ) → list_all is_high ((224 + a) ∷ (128 + b) ∷ (128 + d) ∷ []) ≡ true
    by_three a b d = let x = above 224 a (omega arith) in let y = above 128 b (omega arith) in let z = above 128 d (omega arith) in rw (x, y, z) refl

    by_four : (a b d e : ℕ) → list_all is_high ((240 + a) ∷ (128 + b) ∷ (128 + d) ∷ (128 + e) ∷ []) ≡ true
    by_four a b d e = let x = above 240 a (omega arith) in let y = above 128 b (omega arith) in let z = above 128 d (omega arith) in let w = above 128 e (omega arith) in rw (x, y, z, w) refl

high_piece : (quote b : ℕ) (xs : List ℕ) → quote < 128 → is_high b ≡ true → piece quote b xs ≡ writes (b ∷ []) 0
high_piece quote b xs low h =
    let q : nat_eq b quote ≡ false = grind (arith, nat_tests) in
    let n : nat_eq b 10 ≡ false = grind (arith, nat_tests) in
    let s : nat_eq b 92 ≡ false = grind (arith, nat_tests) in
    rw (q, n, s) refl

map_twice : (b : ℕ) (bs : List ℕ) (o : Option (List ℕ)) → option_map (λ w. (b ∷ []) ++ w) (option_map (λ w. bs ++ w) o) ≡ option_map (λ w. (b ∷ bs) ++ w) o
map_twice b bs None = refl
map_twice b bs (Some w) = refl

map_nil : (o : Option (List ℕ)) → o ≡ option_map (λ w. [] ++ w) o
map_nil None = refl
map_nil (Some w) = refl

high_string : (quote : ℕ) (hs rest : List ℕ) → quote < 128 → list_all is_high hs ≡ true → string_from quote zero (hs ++ rest) ≡ option_map (λ w. hs ++ w) (string_from quote zero rest)
high_string quote [] rest low h = map_nil (string_from quote zero rest)
high_string quote (b ∷ bs) rest low h =
    let parts = and_parts (is_high b) (list_all is_high bs) h in
    ap (λ p. with_piece p (bs ++ rest) (λ further. string_from quote further (bs ++ rest))) (high_piece quote b (bs ++ rest) low parts.0)
    ∙ ap (option_map (λ w. (b ∷ []) ++ w)) (high_string quote bs rest low parts.1) ∙ map_twice b bs (string_from quote zero rest)

-- ---- bytes that are passed

pub passed_string : (quote f : ℕ) (bs : List ℕ) → string_from quote f bs ≡ string_from quote zero (drop f bs)
passed_string quote zero bs = refl
passed_string quote (suc f) [] = refl
passed_string quote (suc f) (b ∷ bs) = passed_string quote f bs

-- ---- a part of a string

record IsPart (rest v : List ℕ) (f : ℕ) : Type 0 where
  text : IsUtf8 v
  behind : IsUtf8 (drop f rest)

past_low : (bs : List ℕ) (n : ℕ) → IsUtf8 bs → n < length bs → get_or bs n 0 < 128 → IsUtf8 (drop (suc n) bs)
past_low bs n u within low = let e : n + 1 ≡ suc n = omega arith in subst (λ k. IsUtf8 (drop k bs)) e (IsUtf8-drop bs (n + 1) u (IsCharBoundary-after_ascii bs n u within low))

all_escapes_low : (b : ℕ) (es : List (ℕ × ℕ)) (v : List ℕ) (f : ℕ) → list_all (λ e. is_low e.0 && is_low e.1) es ≡ true → escaped_by b es ≡ writes v f → IsUtf8 v × (b < 128) × (f ≡ 1)
all_escapes_low b [] v f k h = cc
all_escapes_low b (e ∷ es) v f k h = elim (bool_cases (nat_eq e.0 b)) [
  | inl t ↦
      let g = rw t at h in
      let parts = and_parts (is_low e.0 && is_low e.1) (list_all (λ (e : ℕ × ℕ). is_low e.0 && is_low e.1) es) k in
      let lows = and_parts (is_low e.0) (is_low e.1) parts.0 in
      (subst IsUtf8 (written_is e.1 g) (one_low e.1 (below e.1 lows.1)), same e.0 b t lows.0, further_is e.1 g)
  | inr n ↦ let g = rw n at h in all_escapes_low b es v f (and_parts (is_low e.0 && is_low e.1) (list_all (λ (e : ℕ × ℕ). is_low e.0 && is_low e.1) es) k).1 g
]
  where
    below : (n : ℕ) → is_low n ≡ true → n < 128
    below n h = grind (arith, nat_tests)

    same : (a b : ℕ) → nat_eq a b ≡ true → is_low a ≡ true → b < 128
    same a b e l = grind (arith, nat_tests)

    written_is : (x : ℕ) → writes (x ∷ []) 1 ≡ writes v f → x ∷ [] ≡ v
    written_is x h = cc

    further_is : (x : ℕ) → writes (x ∷ []) 1 ≡ writes v f → f ≡ 1
    further_is x h = cc

last_hex : (n : ℕ) (cs : List ℕ) → list_all is_ascii_hexdigit (take (suc n) cs) ≡ true → suc n ≤ length cs → get_or cs n 0 < 128
last_hex n [] h within = absurd (omega (arith, within))
last_hex zero (c ∷ cs) h within = hex c (and_parts (is_ascii_hexdigit c) true h).0
  where
    hex : (c : ℕ) → is_ascii_hexdigit c ≡ true → c < 128
    hex c h = grind (arith, nat_tests)
last_hex (suc n) (c ∷ cs) h within = last_hex n cs (and_parts (is_ascii_hexdigit c) (list_all is_ascii_hexdigit (take (suc n) cs)) h).1 (omega (arith, within))

named_part : (n d : ℕ) (cs v : List ℕ) (f : ℕ) → IsUtf8 (d ∷ cs) → character (suc n) cs ≡ writes v f → IsPart (d ∷ cs) v f
named_part n d cs v f u h =
    elim (bool_cases (nat_eq (length (take (suc n) cs)) (suc n) && list_all is_ascii_hexdigit (take (suc n) cs) && scalar (hexadecimal 0 (take (suc n) cs)))) [
      | inl t ↦
          let g = rw t at h in
          let outer = and_parts (nat_eq (length (take (suc n) cs)) (suc n) && list_all is_ascii_hexdigit (take (suc n) cs)) (scalar (hexadecimal 0 (take (suc n) cs))) t in
          let inner = and_parts (nat_eq (length (take (suc n) cs)) (suc n)) (list_all is_ascii_hexdigit (take (suc n) cs)) outer.0 in
          let many : suc n ≤ length cs = omega (arith, long (length (take (suc n) cs)) (suc n) inner.0, length-take (suc n) cs) in
          let e = parts_of (hexadecimal 0 (take (suc n) cs)) g in
          record {
            text = subst IsUtf8 e.0 (IsUtf8-encode (hexadecimal 0 (take (suc n) cs)) outer.1);
            behind = subst (λ k. IsUtf8 (drop k (d ∷ cs))) (sym e.1) (past_low (d ∷ cs) (suc n) u (omega (arith, many)) (last_hex n cs inner.1 many));
          }
      | inr m ↦ absurd (let g = rw m at h in cc)
    ]
  where
    long : (a b : ℕ) → nat_eq a b ≡ true → a ≡ b
    long a b h = grind (arith, nat_tests)

    parts_of : (x : ℕ) → writes (encode_utf8 x) (1 + suc n) ≡ writes v f → (encode_utf8 x ≡ v) × (f ≡ suc (suc n))
    parts_of x h = let e : encode_utf8 x ≡ v = cc in let k : 1 + suc n ≡ f = cc in (e, omega (arith, k))

escape_part : (quote : ℕ) (rest v : List ℕ) (f : ℕ) → quote < 128 → IsUtf8 rest → escape quote rest ≡ writes v f → IsPart rest v f
escape_part quote [] v f low u h = cc
escape_part quote (d ∷ ds) v f low u h = elim (bool_cases (nat_eq d quote)) [
  | inl t ↦ let g = rw t at h in plain (same d quote t low) g
  | inr n ↦ elim (bool_cases (nat_eq d 117)) [
    | inl t ↦ let g = rw (n, t) at h in named_part 3 d ds v f u g
    | inr m ↦ elim (bool_cases (nat_eq d 85)) [
      | inl t ↦ let g = rw (n, m, t) at h in named_part 7 d ds v f u g
      | inr k ↦
          let g = rw (n, m, k) at h in
          let a = all_escapes_low d escapes v f refl g in
          record { text = a.0; behind = subst (λ j. IsUtf8 (drop j (d ∷ ds))) (sym a.2) (past_low (d ∷ ds) 0 u (omega arith) a.1) }
    ]
  ]
]
  where
    same : (a b : ℕ) → nat_eq a b ≡ true → b < 128 → a < 128
    same a b e l = grind (arith, nat_tests)

    plain : d < 128 → writes (d ∷ []) 1 ≡ writes v f → IsPart (d ∷ ds) v f
    plain l h =
        let e : d ∷ [] ≡ v = cc in
        let k : 1 ≡ f = cc in
        record { text = subst IsUtf8 e (one_low d l); behind = subst (λ j. IsUtf8 (drop j (d ∷ ds))) k (past_low (d ∷ ds) 0 u (omega arith) l) }

piece_part : (quote b : ℕ) (rest v : List ℕ) (f : ℕ) → quote < 128 → b < 128 → IsUtf8 rest → piece quote b rest ≡ writes v f → IsPart rest v f
piece_part quote b rest v f low l u h = elim (bool_cases (nat_eq b quote)) [
  | inl t ↦ absurd (let g = rw t at h in cc)
  | inr n ↦ elim (bool_cases (nat_eq b 10)) [
    | inl t ↦ absurd (let g = rw (n, t) at h in cc)
    | inr m ↦ elim (bool_cases (nat_eq b 92)) [
      | inl t ↦ let g = rw (n, m, t) at h in escape_part quote rest v f low u g
      | inr k ↦ let g = rw (n, m, k) at h in plain g
    ]
  ]
]
  where
    plain : writes (b ∷ []) 0 ≡ writes v f → IsPart rest v f
    plain h =
        let e : b ∷ [] ≡ v = cc in
        let k : 0 ≡ f = cc in
        record { text = subst IsUtf8 e (one_low b l); behind = subst (λ j. IsUtf8 (drop j rest)) k u }

-- ---- a string

shorter_drop : (f n : ℕ) (bs : List ℕ) → length bs ≤ n → length (drop f bs) ≤ n
shorter_drop f n bs h = omega (arith, h, length-drop f bs)

pub string_utf8 : (n quote : ℕ) (cs w : List ℕ) → quote < 128 → all_scalars cs ≡ true → length (encode_utf8_all cs) ≤ n → string_from quote zero (encode_utf8_all cs) ≡ Some w → IsUtf8 w
string_utf8 n quote [] w low s h e = cc
string_utf8 zero quote (c ∷ cs) w low s h e = absurd (none (encode_utf8_all (c ∷ cs)) h e)
  where
    none : (bs : List ℕ) → length bs ≤ 0 → string_from quote zero bs ≡ Some w → ⊥
    none [] h e = cc
    none (b ∷ bs) h e = omega (arith, h)
string_utf8 (suc n) quote (c ∷ cs) w low s h e = elim (cases_lt c 128) [
  | inl l ↦
      let split : encode_utf8_all (c ∷ cs) ≡ c ∷ encode_utf8_all cs = ap (λ x. x ++ encode_utf8_all cs) (encode_ascii c l) in
      low_case c (encode_utf8_all cs) w l (cs, (parts.1, refl)) (piece quote c (encode_utf8_all cs)) refl (sym (ap (string_from quote zero) split) ∙ e) (omega (arith, h, ap length split)) (λ ds x k b g. string_utf8 n quote ds x low k b g)
  | inr high ↦
      let hs = high_encode c high in
      let t = map_some (λ x. encode_utf8 c ++ x) (string_from quote zero (encode_utf8_all cs)) w (sym (high_string quote (encode_utf8 c) (encode_utf8_all cs) low hs) ∙ e) in
      let len : length (encode_utf8_all cs) ≤ n = omega (arith, h, length-append (encode_utf8 c) (encode_utf8_all cs), one_byte c) in
      subst IsUtf8 t.1.1 (IsUtf8-append (encode_utf8 c) t.0 (IsUtf8-encode c parts.0) (string_utf8 n quote cs t.0 low parts.1 len t.1.0))
]
  where
    parts : (scalar c ≡ true) × (all_scalars cs ≡ true)
    parts = and_parts (scalar c) (all_scalars cs) s

    one_byte : (c : ℕ) → 1 ≤ length (encode_utf8 c)
    one_byte c = omega (arith, length-encode c, len_utf8_bounds c)

    low_case : (c : ℕ) (rest w : List ℕ) → c < 128 → IsUtf8 rest → (p : Piece) → piece quote c rest ≡ p → with_piece (piece quote c rest) rest (λ further. string_from quote further rest) ≡ Some w
        → length rest ≤ n → ((ds x : List ℕ) → all_scalars ds ≡ true → length (encode_utf8_all ds) ≤ n → string_from quote zero (encode_utf8_all ds) ≡ Some x → IsUtf8 x) → IsUtf8 w
    low_case c rest w l u ends k e h more =
        let g = sym (ap (λ p. with_piece p rest (λ further. string_from quote further rest)) k) ∙ e in nil_only (is_empty rest) g
      where
        nil_only : (t : Bool) → only_if t [] ≡ Some w → IsUtf8 w
        nil_only true h = subst IsUtf8 (some_is [] w h) IsUtf8-nil
        nil_only false h = cc
    low_case c rest w l u wrong k e h more =
        absurd (let g = sym (ap (λ p. with_piece p rest (λ further. string_from quote further rest)) k) ∙ e in cc)
    low_case c rest w l u (writes v f) k e h more =
        let g = sym (ap (λ p. with_piece p rest (λ further. string_from quote further rest)) k) ∙ e in
        let t = map_some (λ x. v ++ x) (string_from quote f rest) w g in
        let p = piece_part quote c rest v f low l u k in
        let d = p.behind in
        let again : string_from quote zero (encode_utf8_all d.0) ≡ Some t.0 = ap (string_from quote zero) d.1.1 ∙ sym (passed_string quote f rest) ∙ t.1.0 in
        let x = more d.0 t.0 d.1.0 (omega (arith, ap length d.1.1, shorter_drop f n rest h)) again in
        subst IsUtf8 t.1.1 (IsUtf8-append v t.0 p.text x)

-- ---- in backquotes

raw_split : (bs w : List ℕ) → raw_from bs ≡ Some w → bs ≡ w ++ (96 ∷ [])
raw_split [] w h = cc
raw_split (b ∷ bs) w h = elim (bool_cases (nat_eq b 96)) [
  | inl t ↦ let g = rw t at h in ends_raw t bs g
  | inr n ↦
      let g = rw n at h in
      let t = map_some (λ x. b ∷ x) (raw_from bs) w g in
      ap (λ x. b ∷ x) (raw_split bs t.0 t.1.0) ∙ ap (λ x. x ++ (96 ∷ [])) t.1.1
]
  where
    same : (b : ℕ) → nat_eq b 96 ≡ true → b ≡ 96
    same b h = grind (arith, nat_tests)

    ends_raw : nat_eq b 96 ≡ true → (bs : List ℕ) → only_if (is_empty bs) [] ≡ Some w → b ∷ bs ≡ w ++ (96 ∷ [])
    ends_raw t [] h = ap (λ x. x ∷ []) (same b t) ∙ ap (λ x. x ++ (96 ∷ [])) (some_is [] w h)
    ends_raw t (c ∷ cs) h = cc

raw_utf8 : (bs w : List ℕ) → IsUtf8 bs → raw_from bs ≡ Some w → IsUtf8 w
raw_utf8 bs w u h =
    let e = raw_split bs w h in
    let v = subst IsUtf8 e u in
    let within : length w < length (w ++ (96 ∷ [])) = omega (arith, length-append w (96 ∷ [])) in
    let last : get_or (w ++ (96 ∷ [])) (length w) 0 < 128 = subst (λ b. b < 128) (sym (last_of w)) (omega arith) in
    subst IsUtf8 (take_at w (96 ∷ []) (length w) refl) (IsUtf8-take (w ++ (96 ∷ [])) (length w) v (IsCharBoundary-before_ascii (w ++ (96 ∷ [])) (length w) within last))
  where
    last_of : (w : List ℕ) → get_or (w ++ (96 ∷ [])) (length w) 0 ≡ 96
    last_of [] = refl
    last_of (x ∷ xs) = last_of xs

-- ---- the value of a token that begins with an ASCII byte

or_nil : (o : Option (List ℕ)) → ((w : List ℕ) → o ≡ Some w → IsUtf8 w) → IsUtf8 (unwrap_or o [])
or_nil None f = IsUtf8-nil
or_nil (Some w) f = f w refl

pub quoted_utf8 : (quote : ℕ) (bs : List ℕ) → quote < 128 → IsUtf8 bs → IsUtf8 (unwrap_or (string_from quote zero bs) [])
quoted_utf8 quote bs low u = or_nil (string_from quote zero bs) (λ w h. string_utf8 (length bs) quote u.0 w low u.1.0 (omega (arith, ap length u.1.1)) (ap (string_from quote zero) u.1.1 ∙ h))

pub backquoted_utf8 : (bs : List ℕ) → IsUtf8 bs → IsUtf8 (unwrap_or (raw_from bs) [])
backquoted_utf8 bs u = or_nil (raw_from bs) (λ w h. raw_utf8 bs w u h)

behind_low : (b : ℕ) (bs : List ℕ) → b < 128 → IsUtf8 (b ∷ bs) → IsUtf8 bs
behind_low b bs l u = past_low (b ∷ bs) 0 u (omega arith) l

pub written_utf8 : (bytes : List ℕ) → IsUtf8 bytes → IsUtf8 (written bytes)
written_utf8 [] u = IsUtf8-nil
written_utf8 (b ∷ bs) u = elim (bool_cases (nat_eq b 96)) [
  | inl t ↦ rw t (backquoted_utf8 bs (behind_low b bs (raw b t) u))
  | inr n ↦ elim (bool_cases (nat_eq b 34 || nat_eq b 39)) [
    | inl t ↦ rw (n, t) (quoted_utf8 b bs (quoted b t) (behind_low b bs (quoted b t) u))
    | inr m ↦ rw (n, m) IsUtf8-nil
  ]
]
  where
    raw : (b : ℕ) → nat_eq b 96 ≡ true → b < 128
    raw b h = grind (arith, nat_tests)

    quoted : (b : ℕ) → (nat_eq b 34 || nat_eq b 39) ≡ true → b < 128
    quoted b h = grind (arith, nat_tests)

-- ---- backquotes, by the place of the second

pub raw_is : (bs : List ℕ) (n : ℕ) → raw_end bs ≡ Some n → n ≡ length bs → take (n - 1) bs ≡ unwrap_or (raw_from bs) []
raw_is bs n h e =
    let r = raw_stands n bs h in
    let w = r.0.bytes in
    let is : raw_from bs ≡ Some w = ap raw_from (sym (take_all n bs (omega (arith, e)))) ∙ r.0.is in
    let s = raw_split bs w is in
    let len : n - 1 ≡ length w = omega (arith, e, ap length s, length-append w (96 ∷ [])) in
    ap (λ k. take k bs) len ∙ ap (take (length w)) s ∙ take_at w (96 ∷ []) (length w) refl ∙ sym (ap (λ o. unwrap_or o []) is)

pub raw_is_none : (bs : List ℕ) (o : Option ℕ) → raw_end bs ≡ o → (o ≡ Some (length bs) → ⊥) → [] ≡ unwrap_or (raw_from bs) []
raw_is_none bs o h f = by (raw_from bs) refl
  where
    by : (p : Option (List ℕ)) → raw_from bs ≡ p → [] ≡ unwrap_or (raw_from bs) []
    by None e = sym (ap (λ o. unwrap_or o []) e)
    by (Some w) e = absurd (f (sym h ∙ raw_ends (length bs) bs w (omega arith) (ap raw_from (take_all (length bs) bs (omega arith)) ∙ e)))

-- ---- quoted strings, part by part

map_append : (a b : List ℕ) (o : Option (List ℕ)) → option_map (λ w. a ++ w) (option_map (λ w. b ++ w) o) ≡ option_map (λ w. (a ++ b) ++ w) o
map_append a b None = refl
map_append a b (Some w) = ap Some (sym (append_assoc a b w))

pub value_on : (quote : ℕ) (bs : List ℕ) (i j : ℕ) (value more : List ℕ) (s : Option (List ℕ)) (w : Written) (further : ℕ) → i < length bs
    → piece_of (found.Writes w further) ≡ piece quote (get_or bs i 0) (drop (i + 1) bs) → s ≡ option_map (λ x. value ++ x) (string_from quote zero (drop i bs))
    → more ≡ value ++ bytes_of w → j ≡ i + (1 + further) → s ≡ option_map (λ x. more ++ x) (string_from quote zero (drop j bs))
value_on quote bs i j value more s w further lt e h m k =
    let next : i + 1 + further ≡ j = omega (arith, k) in
    h ∙ ap (λ xs. option_map (λ x. value ++ x) (string_from quote zero xs)) (drop_more bs i 0 lt)
    ∙ ap (λ p. option_map (λ x. value ++ x) (with_piece p (drop (i + 1) bs) (λ f. string_from quote f (drop (i + 1) bs)))) (sym e)
    ∙ map_append value (bytes_of w) (string_from quote further (drop (i + 1) bs))
    ∙ ap (λ v. option_map (λ x. v ++ x) (string_from quote further (drop (i + 1) bs))) (sym m)
    ∙ ap (option_map (λ x. more ++ x)) (passed_string quote further (drop (i + 1) bs) ∙ ap (string_from quote zero) (drop-drop further (i + 1) bs ∙ ap (λ n. drop n bs) next))

pub same_length : (o : Option ℕ) (n : ℕ) → option_eq nat_eq o (Some n) ≡ true → o ≡ Some n
same_length None n h = cc
same_length (Some m) n h = let e : m ≡ n = grind (arith, nat_tests) in ap Some e

pub other_length : (o : Option ℕ) (n : ℕ) → option_eq nat_eq o (Some n) ≡ false → o ≡ Some n → ⊥
other_length None n h e = cc
other_length (Some m) n h e = let k : m ≡ n = some_is m n e in grind (arith, nat_tests)
