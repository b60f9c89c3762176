-- Tokens at their places in a text.
use Rattle.std.proofs.Common.{◌≡◌, ◌∙◌, ℕ, zero, suc, ◌+◌, ◌-◌, ◌<◌, ◌≤◌, inl, inr, Bool, true, false, not, ◌&&◌, ◌||◌, Option, Some, None, List, [], ◌∷◌, ◌++◌, length, take, drop, get_or, refl, sym, ap, subst, arith}
use Rattle.std.specs.Prelude.{map, option_map}
use Rattle.std.specs.List.{All}
use Rattle.std.specs.Option.{option_or}
use Rattle.std.proofs.lemmas.Bool.{ltb-true}
use Rattle.std.proofs.lemmas.List.{drop-drop, get_or-drop, length-drop, map_push}
use Rattle.std.specs.Str.{IsCharBoundary, IsUtf8}
use Rattle.std.proofs.lemmas.Str.{IsCharBoundary-after_ascii, IsCharBoundary-before_ascii}
use Rattle.pf_model.specs.Cuts.{only_if}
use Rattle.pf_model.proofs.LongestToken.{longest_cases}
use Rattle.pf_model.proofs.ScannedTokens.{are_tokens, is_bad}
use Rattle.pf_lex.proofs.Low.{form_low, is_low, last_is}
use Rattle.std.proofs.lemmas.List.Elements.{All-push}
use Rattle.pf_model.specs.Tokens as definition
use Rattle.pf_model.specs.TokenScans.{AreNext, form, lawful, longest, token_at}
use Rattle.pf_model.specs.Tokens.{Sort, AreTokens, IsBadToken, end_of, inside_after, inside_behind, may_precede, next_at, sign}
use Rattle.pf_model.specs.FirstBytes.{begins_mark, begins_quantity, begins_string, begins_word, first_passes}
use Rattle.pf_lex.specs.Scans.{BeginsAt, IsInFront}
use Rattle.pf_lex.specs.Seen.{IsExact, IsTokenOf, mark_text, sort_of, text_of, token_of}
use Rattle.pf_lex.specs.declared.token.Mark.{Mark}
use Rattle.pf_lex.specs.declared.token.Mark.TheVariants as mark
use Rattle.pf_lex.specs.declared.token.Token.{Token}
use Rattle.pf_lex.specs.declared.token.TokenSort.{TokenSort}

-- ---- the first byte

pub first_at : (p : ℕ → Bool) (bytes : List ℕ) (t : Bool) → 0 < length bytes → t ≡ p (get_or bytes 0 0) → first_passes p bytes ≡ t
first_at p [] t h e = absurd (omega (arith, h))
first_at p (b ∷ bs) t h e = sym e

pub mark_left : (inside : Bool) (bytes : List ℕ) → 0 < length bytes → first_passes begins_quantity bytes ≡ false → first_passes begins_string bytes ≡ false → (not inside && first_passes begins_word bytes) ≡ false
    → first_passes (begins_mark inside) bytes ≡ true
mark_left inside [] h x y z = absurd (omega (arith, h))
mark_left inside (b ∷ bs) h x y z = ap (λ t. not t && (not (begins_string b) && not (not inside && begins_word b))) x ∙ ap (λ t. not t && not (not inside && begins_word b)) y ∙ ap not z

-- ---- the token in front of what begins at a place

abbrev pub moved : ℕ → definition.Token → definition.Token
moved at t = record { from = at; to = at + t.to; sort = t.sort }

longest_moved : (inside : Bool) (at : ℕ) (bytes : List ℕ) (n : ℕ) → longest inside at bytes n ≡ option_map (moved at) (longest inside 0 bytes n)
longest_moved inside at bytes zero = refl
longest_moved inside at bytes (suc n) = by (form inside (take (suc n) bytes)) (longest_moved inside at bytes n)
  where
    by : (o : Option Sort) → longest inside at bytes n ≡ option_map (moved at) (longest inside 0 bytes n)
        → option_or (option_map (λ s. record { from = at; to = at + suc n; sort = s }) o) (longest inside at bytes n)
        ≡ option_map (moved at) (option_or (option_map (λ s. record { from = 0; to = 0 + suc n; sort = s }) o) (longest inside 0 bytes n))
    by None e = e
    by (Some s) e = let k : at + suc n ≡ at + (0 + suc n) = omega arith in ap (λ m. Some (record { from = at; to = m; sort = s })) k

lawful_moved : (text : List ℕ) (at : ℕ) (o : Option definition.Token) → lawful text (option_map (moved at) o) ≡ option_map (moved at) (lawful (drop at text) o)
lawful_moved text at None = refl
lawful_moved text at (Some t) =
    ap (λ bs. only_if (may_precede t.sort bs) (moved at t)) (sym (drop-drop t.to at text)) ∙ mapped (may_precede t.sort (drop t.to (drop at text)))
  where
    mapped : (b : Bool) → only_if b (moved at t) ≡ option_map (moved at) (only_if b t)
    mapped true = refl
    mapped false = refl

pub at_place : (inside : Bool) (text : List ℕ) (at : ℕ) → token_at inside text at ≡ option_map (moved at) (token_at inside (drop at text) 0)
at_place inside text at =
    ap (lawful text) (longest_moved inside at (drop at text) (length (drop at text))) ∙ lawful_moved text at (longest inside 0 (drop at text) (length (drop at text)))

pub none_at : (inside : Bool) (text : List ℕ) (at : ℕ) → token_at inside (drop at text) 0 ≡ None → token_at inside text at ≡ None
none_at inside text at h = at_place inside text at ∙ ap (option_map (moved at)) h

pub begins_at : (inside : Bool) (text behind : List ℕ) (at len to : ℕ) (sort : TokenSort) → behind ≡ drop at text → at < length text → to ≡ at + len → IsInFront inside behind sort len
    → BeginsAt inside text at (record { from = at; to = to; sort = sort })
begins_at inside text behind at len to sort e low k h =
    let n : len ≡ to - at = omega (arith, k) in
    let t : take len behind ≡ take (to - at) (drop at text) = ap (λ m. take m behind) n ∙ ap (take (to - at)) e in
    record {
      token =
          at_place inside text at ∙ ap (λ bs. option_map (moved at) (token_at inside bs 0)) (sym e) ∙ ap (option_map (moved at)) h.token
          ∙ ap (λ m. Some (record { from = at; to = m; sort = sort_of (take len behind) sort })) (sym k)
          ∙ ap (λ bs. Some (record { from = at; to = to; sort = sort_of bs sort })) t;
      exact = subst (λ bs. IsExact bs sort) t h.exact;
      from = refl;
      some = omega (arith, k, h.some);
      within = omega (arith, k, h.within, ap length e, length-drop at text);
    }

-- ---- inside square brackets

same : (t : Bool) → t ≡ (true && (t || false))
same true = refl
same false = refl

pub other_mark : (inside : Bool) (m : Mark) → (m ≡ mark.OpenSquare → ⊥) → (m ≡ mark.CloseSquare → ⊥) → inside ≡ inside_behind inside (sign (mark_text m))
other_mark inside mark.OpenSquare h k = absurd (h refl)
other_mark inside mark.CloseSquare h k = absurd (k refl)
other_mark inside mark.Open h k = same inside
other_mark inside mark.Close h k = same inside
other_mark inside mark.OpenBrace h k = same inside
other_mark inside mark.CloseBrace h k = same inside
other_mark inside mark.Comma h k = same inside
other_mark inside mark.Colon h k = same inside
other_mark inside mark.At h k = same inside
other_mark inside mark.Plus h k = same inside
other_mark inside mark.Minus h k = same inside
other_mark inside mark.Times h k = same inside
other_mark inside mark.Over h k = same inside
other_mark inside mark.Percent h k = same inside
other_mark inside mark.DoubleEqual h k = same inside
other_mark inside mark.NotEqual h k = same inside
other_mark inside mark.AtMost h k = same inside
other_mark inside mark.Below h k = same inside
other_mark inside mark.AtLeast h k = same inside
other_mark inside mark.Above h k = same inside
other_mark inside mark.Equal h k = same inside
other_mark inside mark.Like h k = same inside
other_mark inside mark.NotLike h k = same inside

-- ---- one token more

begins_more : (text : List ℕ) (inside : Bool) (at : ℕ) (ts : List definition.Token) (t : definition.Token) → AreNext text inside at ts → next_at text (end_of at ts) ≡ t.from
    → token_at (inside_after inside ts) text t.from ≡ Some t → AreNext text inside at (ts ++ t ∷ [])
begins_more text inside at [] t h e k = (e, k, tt)
begins_more text inside at (u ∷ us) t h e k = (h.0, h.1, begins_more text (inside_behind inside u.sort) u.to us t h.2 e k)

end_more : (at : ℕ) (ts : List definition.Token) (t : definition.Token) → end_of at (ts ++ t ∷ []) ≡ t.to
end_more at [] t = refl
end_more at (u ∷ us) t = end_more u.to us t

after_more : (inside : Bool) (ts : List definition.Token) (t : definition.Token) → inside_after inside (ts ++ t ∷ []) ≡ inside_behind (inside_after inside ts) t.sort
after_more inside [] t = refl
after_more inside (u ∷ us) t = after_more (inside_behind inside u.sort) us t

-- the tokens up to a place
pub record AreUpTo (text : List ℕ) (found : List Token) (behind : Bool) (at : ℕ) : Type 0 where
  pub begins : AreNext text false 0 (map (token_of text) found)
  pub place : next_at text (end_of 0 (map (token_of text) found)) ≡ at
  pub inside : inside_after false (map (token_of text) found) ≡ behind
  pub parts : All (IsTokenOf text) found

pub none_yet : (text : List ℕ) (at : ℕ) → at ≡ next_at text 0 → AreUpTo text [] false at
none_yet text at e = record { begins = tt; place = sym e; inside = refl; parts = λ k d h. absurd (omega (arith, h)) }

-- ---- whole characters

front_some : (bytes : List ℕ) (o : Option definition.Token) (n : ℕ) (s : Sort) → lawful bytes o ≡ Some (record { from = 0; to = n; sort = s }) → o ≡ Some (record { from = 0; to = n; sort = s })
front_some bytes None n s h = cc
front_some bytes (Some t) n s h = by (may_precede t.sort (drop t.to bytes)) h
  where
    by : (b : Bool) → only_if b t ≡ Some (record { from = 0; to = n; sort = s }) → ◌≡◌ {A = Option definition.Token} (Some t) (Some (record { from = 0; to = n; sort = s }))
    by true h = h
    by false h = cc

same_front : (n m : ℕ) (s t : Sort) → ◌≡◌ {A = Option definition.Token} (Some (record { from = 0; to = n; sort = s })) (Some (record { from = 0; to = m; sort = t })) → (n ≡ m) × (s ≡ t)
same_front n m s t h = (ap (to_of n) h, ap (sort_in s) h)
  where
    to_of : ℕ → Option definition.Token → ℕ
    to_of n None = n
    to_of n (Some t) = t.to

    sort_in : Sort → Option definition.Token → Sort
    sort_in s None = s
    sort_in s (Some t) = t.sort

form_of_front : (inside : Bool) (bytes : List ℕ) (n : ℕ) (s : Sort) → token_at inside bytes 0 ≡ Some (record { from = 0; to = n; sort = s }) → form inside (take n bytes) ≡ Some s
form_of_front inside bytes n s h =
    let e = front_some bytes (longest inside 0 bytes (length bytes)) n s h in
    elim (longest_cases inside 0 bytes (length bytes)) [
      | inl none ↦ absurd (let f = sym e ∙ none.is in cc)
      | inr l ↦
          let same = same_front n (0 + l.len) s l.sort (sym e ∙ l.is) in
          ap (λ k. form inside (take k bytes)) (omega (arith, same.0)) ∙ l.fits ∙ ap Some (sym same.1)
    ]

first_low : (bytes : List ℕ) (n : ℕ) → first_passes is_low (take n bytes) ≡ true → get_or bytes 0 0 < 128
first_low bytes zero h = cc
first_low [] (suc n) h = cc
first_low (b ∷ bs) (suc n) h = ltb-true b 128 h

last_low : (bytes : List ℕ) (n : ℕ) → last_is is_low (take (suc n) bytes) ≡ true → suc n ≤ length bytes → get_or bytes n 0 < 128
last_low [] n h high = absurd (omega (arith, high))
last_low (b ∷ bs) zero h high = ltb-true b 128 h
last_low (b ∷ []) (suc n) h high = absurd (omega (arith, high))
last_low (b ∷ (c ∷ cs)) (suc n) h high = last_low (c ∷ cs) n h (omega (arith, high))

record AreBoundaries (text : List ℕ) (from to : ℕ) : Type 0 where
  starts : IsCharBoundary text from
  ends : IsCharBoundary text to

boundaries : (inside : Bool) (text : List ℕ) (at n : ℕ) (s : Sort) → IsUtf8 text → 1 ≤ n → at + n ≤ length text → form inside (take n (drop at text)) ≡ Some s → AreBoundaries text at (at + n)
boundaries inside text at zero s u some within fits = absurd (omega (arith, some))
boundaries inside text at (suc n) s u some within fits =
    let l = form_low inside (take (suc n) (drop at text)) s fits in
    let first : get_or text at 0 < 128 = subst (λ b. b < 128) (get_or-drop at text 0 0 ∙ ap (λ k. get_or text k 0) (omega arith)) (first_low (drop at text) (suc n) l.first) in
    let last : get_or text (at + n) 0 < 128 = subst (λ b. b < 128) (get_or-drop at text n 0) (last_low (drop at text) n l.last (omega (arith, within, length-drop at text))) in
    record {
      starts = IsCharBoundary-before_ascii text at (omega (arith, within)) first;
      ends = subst (IsCharBoundary text) (omega arith) (IsCharBoundary-after_ascii text (at + n) u (omega (arith, within)) last);
    }

moved_back : (at : ℕ) (o : Option definition.Token) (from to : ℕ) (s : Sort) → from ≡ at → at < to → option_map (moved at) o ≡ Some (record { from = from; to = to; sort = s })
    → (f : ℕ) × (o ≡ Some (record { from = f; to = to - at; sort = s }))
moved_back at None from to s e low h = cc
moved_back at (Some t) from to s e low h =
    let m : at + t.to ≡ to = ap (to_of to) h in
    let k : t.sort ≡ s = ap (sort_in s) h in
    (t.from, ap (λ n. Some (record { from = t.from; to = n; sort = t.sort })) (omega (arith, m)) ∙ ap (λ x. Some (record { from = t.from; to = to - at; sort = x })) k)
  where
    to_of : ℕ → Option definition.Token → ℕ
    to_of n None = n
    to_of n (Some t) = t.to

    sort_in : Sort → Option definition.Token → Sort
    sort_in s None = s
    sort_in s (Some t) = t.sort

pub part_of : (inside : Bool) (text : List ℕ) (at : ℕ) (t : Token) → IsUtf8 text → BeginsAt inside text at t → IsTokenOf text t
part_of inside text at t u h =
    let k = moved_back at (token_at inside (drop at text) 0) t.from t.to (sort_of (text_of text t) t.sort) h.from h.some (sym (at_place inside text at) ∙ h.token) in
    let z : k.0 ≡ 0 = from_zero inside (drop at text) (length (drop at text)) k.0 (t.to - at) (sort_of (text_of text t) t.sort) k.1 in
    let fits = form_of_front inside (drop at text) (t.to - at) (sort_of (text_of text t) t.sort) (k.1 ∙ ap (λ f. Some (record { from = f; to = t.to - at; sort = sort_of (text_of text t) t.sort })) z) in
    let b = boundaries inside text at (t.to - at) (sort_of (text_of text t) t.sort) u (omega (arith, h.some)) (omega (arith, h.some, h.within)) fits in
    record {
      exact = h.exact;
      some = omega (arith, h.some, h.from);
      within = h.within;
      starts = subst (IsCharBoundary text) (sym h.from) b.starts;
      ends = subst (IsCharBoundary text) (omega (arith, h.some)) b.ends;
    }
  where
    from_of : ℕ → Option definition.Token → ℕ
    from_of n None = n
    from_of n (Some t) = t.from

    lawful_from : (text : List ℕ) (o : Option definition.Token) (f m : ℕ) (s : Sort) → lawful text o ≡ Some (record { from = f; to = m; sort = s }) → from_of f o ≡ f
    lawful_from text None f m s h = refl
    lawful_from text (Some t) f m s h = by (may_precede t.sort (drop t.to text)) h
      where
        by : (b : Bool) → only_if b t ≡ Some (record { from = f; to = m; sort = s }) → t.from ≡ f
        by true h = ap (from_of f) h
        by false h = cc

    from_zero : (inside : Bool) (bytes : List ℕ) (n f m : ℕ) (s : Sort) → lawful bytes (longest inside 0 bytes n) ≡ Some (record { from = f; to = m; sort = s }) → f ≡ 0
    from_zero inside bytes n f m s h = elim (longest_cases inside 0 bytes n) [
      | inl none ↦ absurd (let e = sym h ∙ ap (lawful bytes) none.is in cc)
      | inr l ↦ sym (lawful_from bytes (longest inside 0 bytes n) f m s h) ∙ ap (from_of f) l.is
    ]

pub one_more : (text : List ℕ) (found more : List Token) (t : Token) (inside after : Bool) (at next : ℕ) → IsUtf8 text → AreUpTo text found inside at → BeginsAt inside text at t
    → after ≡ inside_behind inside (sort_of (text_of text t) t.sort) → next ≡ next_at text t.to → more ≡ found ++ t ∷ [] → AreUpTo text more after next
one_more text found more t inside after at next u h k a n e =
    let m : map (token_of text) more ≡ map (token_of text) found ++ token_of text t ∷ [] = ap (map (token_of text)) e ∙ map_push (token_of text) found t in
    let ts = map (token_of text) found in
    record {
      begins = subst (AreNext text false 0) (sym m) (begins_more text false 0 ts (token_of text t) h.begins (h.place ∙ sym k.from)
          (ap (λ i. token_at i text t.from) h.inside ∙ ap (token_at inside text) k.from ∙ k.token));
      place = ap (λ us. next_at text (end_of 0 us)) m ∙ ap (next_at text) (end_more 0 ts (token_of text t)) ∙ sym n;
      inside = ap (inside_after false) m ∙ after_more false ts (token_of text t) ∙ ap (λ i. inside_behind i (sort_of (text_of text t) t.sort)) h.inside ∙ sym a;
      parts = subst (All (IsTokenOf text)) (sym e) (All-push (IsTokenOf text) found t h.parts (part_of inside text at t u k));
    }

pub whole : (text : List ℕ) (found : List Token) (inside : Bool) (at : ℕ) → AreUpTo text found inside at → at ≡ length text → AreTokens text (map (token_of text) found)
whole text found inside at h e = are_tokens (record { begins = h.begins; whole = h.place ∙ e })

pub bad_at : (text : List ℕ) (found : List Token) (inside : Bool) (at : ℕ) → AreUpTo text found inside at → at < length text → token_at inside text at ≡ None → IsBadToken text at
bad_at text found inside at h low none = is_bad (record {
  before = map (token_of text) found;
  begins = h.begins;
  place = h.place;
  within = low;
  bad = ap (λ i. token_at i text at) h.inside ∙ none;
})
