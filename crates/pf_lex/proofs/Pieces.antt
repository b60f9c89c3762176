-- The parts of a string, and where it ends.
use Rattle.std.proofs.Common.{◌≡◌, ◌∙◌, ℕ, zero, suc, ◌+◌, ◌<◌, ◌≤◌, inl, inr, Bool, true, false, ◌&&◌, Option, Some, None, List, [], ◌∷◌, ◌++◌, length, take, cond, refl, sym, ap, subst, arith}
use Rattle.std.specs.Prelude.{option_map, nat_eq}
use Rattle.std.specs.Char.{encode_utf8, is_ascii_hexdigit}
use Rattle.std.specs.List.{list_all}
use lib.Utf8.{scalar}
use Rattle.std.proofs.lemmas.Bool.{and_parts}
use Rattle.std.proofs.lemmas.Bool.Decides.{nat_tests}
use Rattle.std.proofs.lemmas.List.{length-take, take-take}
use Rattle.pf_base.specs.LabelSets.{is_empty}
use Rattle.pf_model.specs.Cuts.{only_if}
use Rattle.pf_base.proofs.Readings.{bool_cases}
use Rattle.pf_model.specs.Tokens.{Piece, ends, wrong, writes, character, escape, escaped_by, escapes, hexadecimal, piece, raw_from, string_from, with_piece}
use Rattle.pf_lex.specs.Quotes.{end_behind, quoted_end, raw_end}
use Rattle.pf_model.proofs.LongestToken.{some_is}

-- what is written next depends on the bytes that it takes alone
pub record IsLocal (g : List ℕ → Piece) (xs v : List ℕ) (f : ℕ) : Type 0 where
  pub within : f ≤ length xs
  pub same : (ys : List ℕ) → take f ys ≡ take f xs → g ys ≡ writes v f

one_further : (b : ℕ) (es : List (ℕ × ℕ)) (v : List ℕ) (f : ℕ) → escaped_by b es ≡ writes v f → f ≡ 1
one_further b [] v f h = cc
one_further b (e ∷ es) v f h = elim (bool_cases (nat_eq e.0 b)) [
  | inl t ↦ let g = rw t at h in cc
  | inr n ↦ let g = rw n at h in one_further b es v f g
]

record StartsSame (c : ℕ) (cs ys : List ℕ) (n : ℕ) : Type 0 where
  rest : List ℕ
  is : ys ≡ c ∷ rest
  same : take n rest ≡ take n cs

starts_same : (c n : ℕ) (cs ys : List ℕ) → take (suc n) ys ≡ take (suc n) (c ∷ cs) → StartsSame c cs ys n
starts_same c n cs [] h = cc
starts_same c n cs (y ∷ ys) h = record { rest = ys; is = ap (λ x. x ∷ ys) (head y c h); same = tail h }
  where
    head : (y c : ℕ) → y ∷ take n ys ≡ c ∷ take n cs → y ≡ c
    head y c h = cc

    tail : y ∷ take n ys ≡ c ∷ take n cs → take n ys ≡ take n cs
    tail h = cc

-- a choice by the first byte alone
local_first : (g : List ℕ → Piece) (c : ℕ) (cs v : List ℕ) (f : ℕ) → f ≡ 1 → ((ys : List ℕ) → g (c ∷ ys) ≡ writes v f) → IsLocal g (c ∷ cs) v f
local_first g c cs v f one h = record {
  within = omega (arith, one);
  same = λ ys e. let s = starts_same c 0 cs ys (sym (ap (λ n. take n ys) one) ∙ e ∙ ap (λ n. take n (c ∷ cs)) one) in ap g s.is ∙ h s.rest;
}

record NamesCharacter (n : ℕ) (cs v : List ℕ) (f : ℕ) : Type 0 where
  many : n ≤ length cs
  further : f ≡ 1 + n
  is : character n cs ≡ writes v f

names_character : (n : ℕ) (cs v : List ℕ) (f : ℕ) → character n cs ≡ writes v f → NamesCharacter n cs v f
names_character n cs v f h =
    elim (bool_cases (nat_eq (length (take n cs)) n && list_all is_ascii_hexdigit (take n cs) && scalar (hexadecimal 0 (take n cs)))) [
      | inl t ↦
          let g = rw t at h in
          let outer = and_parts (nat_eq (length (take n cs)) n && list_all is_ascii_hexdigit (take n cs)) (scalar (hexadecimal 0 (take n cs))) t in
          let inner = and_parts (nat_eq (length (take n cs)) n) (list_all is_ascii_hexdigit (take n cs)) outer.0 in
          let many = long (length (take n cs)) n (inner.0) in
          record { many = omega (arith, many, length-take n cs); further = cc; is = h }
      | inr m ↦ absurd (let g = rw m at h in cc)
    ]
  where
    long : (a b : ℕ) → nat_eq a b ≡ true → a ≡ b
    long a b h = grind (arith, nat_tests)

local_character : (g : List ℕ → Piece) (n c : ℕ) (cs v : List ℕ) (f : ℕ) → ((ys : List ℕ) → g (c ∷ ys) ≡ character n ys) → character n cs ≡ writes v f → IsLocal g (c ∷ cs) v f
local_character g n c cs v f is h =
    let t = names_character n cs v f h in
    let e : f ≡ suc n = omega (arith, t.further) in
    record {
      within = omega (arith, t.many, e);
      same = λ ys k.
          let s = starts_same c n cs ys (sym (ap (λ m. take m ys) e) ∙ k ∙ ap (λ m. take m (c ∷ cs)) e) in
          ap g s.is ∙ is s.rest
          ∙ ap (λ ds. cond (nat_eq (length ds) n && list_all is_ascii_hexdigit ds && scalar (hexadecimal 0 ds)) (writes (encode_utf8 (hexadecimal 0 ds)) (1 + n)) wrong) s.same ∙ h;
    }

escape_local : (quote : ℕ) (xs v : List ℕ) (f : ℕ) → escape quote xs ≡ writes v f → IsLocal (escape quote) xs v f
escape_local quote [] v f h = cc
escape_local quote (c ∷ cs) v f h = elim (bool_cases (nat_eq c quote)) [
  | inl t ↦ let g = rw t at h in local_first (escape quote) c cs v f (written g) (λ ys. rw t g)
  | inr n ↦ elim (bool_cases (nat_eq c 117)) [
    | inl t ↦ let g = rw (n, t) at h in local_character (escape quote) 4 c cs v f (λ ys. rw (n, t) refl) g
    | inr m ↦ elim (bool_cases (nat_eq c 85)) [
      | inl t ↦ let g = rw (n, m, t) at h in local_character (escape quote) 8 c cs v f (λ ys. rw (n, m, t) refl) g
      | inr k ↦ let g = rw (n, m, k) at h in local_first (escape quote) c cs v f (one_further c escapes v f g) (λ ys. rw (n, m, k) g)
    ]
  ]
]
  where
    written : writes (c ∷ []) 1 ≡ writes v f → f ≡ 1
    written h = cc

pub piece_local : (quote b : ℕ) (xs v : List ℕ) (f : ℕ) → piece quote b xs ≡ writes v f → IsLocal (piece quote b) xs v f
piece_local quote b xs v f h = elim (bool_cases (nat_eq b quote)) [
  | inl t ↦ absurd (let g = rw t at h in cc)
  | inr n ↦ elim (bool_cases (nat_eq b 10)) [
    | inl t ↦ absurd (let g = rw (n, t) at h in cc)
    | inr m ↦ elim (bool_cases (nat_eq b 92)) [
      | inl t ↦
          let g = rw (n, m, t) at h in
          let l = escape_local quote xs v f g in
          record { within = l.within; same = λ ys e. rw (n, m, t) (l.same ys e) }
      | inr k ↦
          let g = rw (n, m, k) at h in
          let z : f ≡ 0 = plain g in
          record { within = omega (arith, z); same = λ ys e. rw (n, m, k) g }
    ]
  ]
]
  where
    plain : writes (b ∷ []) 0 ≡ writes v f → f ≡ 0
    plain h = cc

never_ends_by : (b : ℕ) (es : List (ℕ × ℕ)) → escaped_by b es ≡ ends → ⊥
never_ends_by b [] h = cc
never_ends_by b (e ∷ es) h = elim (bool_cases (nat_eq e.0 b)) [
  | inl t ↦ let g = rw t at h in cc
  | inr n ↦ let g = rw n at h in never_ends_by b es g
]

never_ends_character : (n : ℕ) (cs : List ℕ) → character n cs ≡ ends → ⊥
never_ends_character n cs h =
    elim (bool_cases (nat_eq (length (take n cs)) n && list_all is_ascii_hexdigit (take n cs) && scalar (hexadecimal 0 (take n cs)))) [
      | inl t ↦ let g = rw t at h in cc
      | inr m ↦ let g = rw m at h in cc
    ]

never_ends : (quote : ℕ) (xs : List ℕ) → escape quote xs ≡ ends → ⊥
never_ends quote [] h = cc
never_ends quote (c ∷ cs) h = elim (bool_cases (nat_eq c quote)) [
  | inl t ↦ let g = rw t at h in cc
  | inr n ↦ elim (bool_cases (nat_eq c 117)) [
    | inl t ↦ let g = rw (n, t) at h in never_ends_character 4 cs g
    | inr m ↦ elim (bool_cases (nat_eq c 85)) [
      | inl t ↦ let g = rw (n, m, t) at h in never_ends_character 8 cs g
      | inr k ↦ let g = rw (n, m, k) at h in never_ends_by c escapes g
    ]
  ]
]

pub ends_same : (quote b : ℕ) (xs ys : List ℕ) → piece quote b xs ≡ ends → piece quote b ys ≡ ends
ends_same quote b xs ys h = elim (bool_cases (nat_eq b quote)) [
  | inl t ↦ rw t refl
  | inr n ↦ elim (bool_cases (nat_eq b 10)) [
    | inl t ↦ absurd (let g = rw (n, t) at h in cc)
    | inr m ↦ elim (bool_cases (nat_eq b 92)) [
      | inl t ↦ absurd (let g = rw (n, m, t) at h in never_ends quote xs g)
      | inr k ↦ absurd (let g = rw (n, m, k) at h in cc)
    ]
  ]
]

-- ---- where a quoted string ends

pub map_some : {X Y : Type 0} (f : X → Y) (o : Option X) (y : Y) → option_map f o ≡ Some y → (x : X) × ((o ≡ Some x) × (f x ≡ y))
map_some f None y h = cc
map_some f (Some x) y h = (x, (refl, some_is (f x) y h))

-- what ends at k is a string of that length
record EndsAt (quote b k : ℕ) (bs : List ℕ) : Type 0 where
  is : end_behind (piece quote b bs) (λ further. quoted_end quote further bs) ≡ Some (suc k)

empty_take : (bs : List ℕ) (k : ℕ) → k ≤ length bs → is_empty (take k bs) ≡ true → k ≡ 0
empty_take bs zero h e = refl
empty_take [] (suc k) h e = absurd (omega (arith, h))
empty_take (b ∷ bs) (suc k) h e = cc

only_if_some : (t : Bool) (w : List ℕ) → only_if t [] ≡ Some w → t ≡ true
only_if_some true w h = refl
only_if_some false w h = cc

piece_ends : (quote b k : ℕ) (bs w : List ℕ) (p : Piece) → piece quote b (take k bs) ≡ p → k ≤ length bs
    → ((f : ℕ) (x : List ℕ) → string_from quote f (take k bs) ≡ Some x → quoted_end quote f bs ≡ Some k)
    → with_piece p (take k bs) (λ further. string_from quote further (take k bs)) ≡ Some w
    → end_behind (piece quote b bs) (λ further. quoted_end quote further bs) ≡ Some (suc k)
piece_ends quote b k bs w ends e within more h =
    let z : k ≡ 0 = empty_take bs k within (only_if_some _ w h) in
    ap (λ p. end_behind p (λ further. quoted_end quote further bs)) (ends_same quote b (take k bs) bs e) ∙ ap (λ n. Some (suc n)) (sym z)
piece_ends quote b k bs w wrong e within more h = cc
piece_ends quote b k bs w (writes v f) e within more h =
    let t = map_some (λ written. v ++ written) (string_from quote f (take k bs)) w h in
    let l = piece_local quote b (take k bs) v f e in
    let small : f ≤ k = omega (arith, l.within, length-take k bs) in
    ap (λ p. end_behind p (λ further. quoted_end quote further bs)) (l.same bs (sym (take-take f k bs small))) ∙ ap (option_map suc) (more f t.0 t.1.0)

pub string_ends : (quote passed k : ℕ) (bs w : List ℕ) → k ≤ length bs → string_from quote passed (take k bs) ≡ Some w → quoted_end quote passed bs ≡ Some k
string_ends quote passed zero [] w within h = cc
string_ends quote passed (suc k) [] w within h = cc
string_ends quote passed zero (b ∷ bs) w within h = cc
string_ends quote (suc passed) (suc k) (b ∷ bs) w within h = ap (option_map suc) (string_ends quote passed k bs w (omega (arith, within)) h)
string_ends quote zero (suc k) (b ∷ bs) w within h =
    piece_ends quote b k bs w (piece quote b (take k bs)) refl (omega (arith, within)) (λ f x e. string_ends quote f k bs x (omega (arith, within)) e) h

-- ---- and what it stands for

pub quoted_within : (quote passed k : ℕ) (bs : List ℕ) → quoted_end quote passed bs ≡ Some k → (passed < k) × (k ≤ length bs)
quoted_within quote passed k [] h = cc
quoted_within quote (suc passed) k (b ∷ bs) h =
    let t = map_some suc (quoted_end quote passed bs) k h in
    let r = quoted_within quote passed t.0 bs t.1.0 in
    (omega (arith, r.0, t.1.1), omega (arith, r.1, t.1.1))
quoted_within quote zero k (b ∷ bs) h = by (piece quote b bs) (λ f j e. quoted_within quote f j bs e) h
  where
    by : (p : Piece) → ((f j : ℕ) → quoted_end quote f bs ≡ Some j → (f < j) × (j ≤ length bs)) → end_behind p (λ further. quoted_end quote further bs) ≡ Some k → (0 < k) × (k ≤ length (b ∷ bs))
    by ends more h = let e = some_is 1 k h in (omega (arith, e), omega (arith, e))
    by wrong more h = cc
    by (writes v f) more h =
        let t = map_some suc (quoted_end quote f bs) k h in
        let r = more f t.0 t.1.0 in
        (omega (arith, t.1.1), omega (arith, r.1, t.1.1))

pub record StandsFor (o : Option (List ℕ)) : Type 0 where
  pub bytes : List ℕ
  pub is : o ≡ Some bytes

stands : (quote b k : ℕ) (bs : List ℕ) (p : Piece) → piece quote b bs ≡ p
    → ((f j : ℕ) → quoted_end quote f bs ≡ Some j → StandsFor (string_from quote f (take j bs)))
    → end_behind p (λ further. quoted_end quote further bs) ≡ Some k → StandsFor (string_from quote zero (take k (b ∷ bs)))
stands quote b k bs ends e more h =
    let one = some_is 1 k h in
    subst (λ n. StandsFor (string_from quote zero (take n (b ∷ bs)))) one
    (record { bytes = []; is = ap (λ p. with_piece p [] (λ further. string_from quote further [])) (ends_same quote b bs [] e) })
stands quote b k bs wrong e more h = cc
stands quote b k bs (writes v f) e more h =
    let t = map_some suc (quoted_end quote f bs) k h in
    let w = quoted_within quote f t.0 bs t.1.0 in
    let r = more f t.0 t.1.0 in
    let l = piece_local quote b bs v f e in
    let p : piece quote b (take t.0 bs) ≡ writes v f = l.same (take t.0 bs) (take-take f t.0 bs (omega (arith, w.0))) in
    subst (λ n. StandsFor (string_from quote zero (take n (b ∷ bs)))) t.1.1
    (record {
      bytes = v ++ r.bytes;
      is = ap (λ p. with_piece p (take t.0 bs) (λ further. string_from quote further (take t.0 bs))) p ∙ ap (option_map (λ written. v ++ written)) r.is;
    })

pub quoted_stands : (quote passed k : ℕ) (bs : List ℕ) → quoted_end quote passed bs ≡ Some k → StandsFor (string_from quote passed (take k bs))
quoted_stands quote passed k [] h = cc
quoted_stands quote (suc passed) k (b ∷ bs) h =
    let t = map_some suc (quoted_end quote passed bs) k h in
    let r = quoted_stands quote passed t.0 bs t.1.0 in
    subst (λ n. StandsFor (string_from quote (suc passed) (take n (b ∷ bs)))) t.1.1 (record { bytes = r.bytes; is = r.is })
quoted_stands quote zero k (b ∷ bs) h = stands quote b k bs (piece quote b bs) refl (λ f j e. quoted_stands quote f j bs e) h

-- ---- in backquotes

pub raw_ends : (k : ℕ) (bs w : List ℕ) → k ≤ length bs → raw_from (take k bs) ≡ Some w → raw_end bs ≡ Some k
raw_ends zero bs w within h = cc
raw_ends (suc k) [] w within h = cc
raw_ends (suc k) (b ∷ bs) w within h = elim (bool_cases (nat_eq b 96)) [
  | inl t ↦ let g = rw t at h in let z : k ≡ 0 = empty_take bs k (omega (arith, within)) (only_if_some _ w g) in rw t (ap (λ n. Some (suc n)) (sym z))
  | inr n ↦
      let g = rw n at h in
      let t = map_some (λ written. b ∷ written) (raw_from (take k bs)) w g in
      rw n (ap (option_map suc) (raw_ends k bs t.0 (omega (arith, within)) t.1.0))
]

pub raw_stands : (k : ℕ) (bs : List ℕ) → raw_end bs ≡ Some k → StandsFor (raw_from (take k bs)) × (1 ≤ k) × (k ≤ length bs)
raw_stands k [] h = cc
raw_stands k (b ∷ bs) h = elim (bool_cases (nat_eq b 96)) [
  | inl t ↦
      let g = rw t at h in
      let one = some_is 1 k g in
      subst (λ n. StandsFor (raw_from (take n (b ∷ bs))) × (1 ≤ n) × (n ≤ length (b ∷ bs))) one (record { bytes = []; is = rw t refl }, omega arith, omega arith)
  | inr n ↦
      let g = rw n at h in
      let t = map_some suc (raw_end bs) k g in
      let r = raw_stands t.0 bs t.1.0 in
      subst (λ n. StandsFor (raw_from (take n (b ∷ bs))) × (1 ≤ n) × (n ≤ length (b ∷ bs))) t.1.1
      (record { bytes = b ∷ r.0.bytes; is = rw n (ap (option_map (λ written. b ∷ written)) r.0.is) }, omega arith, omega (arith, r.2))
]
