-- Tables of patterns: what a further pattern leaves of what was found.
use Rattle.std.proofs.Common.{◌≡◌, ◌≢◌, ℕ, Bool, true, false, true≢false, cond, not, ◌||◌, List, [], ◌∷◌, ◌++◌, map, Option, None, Some, is_some, refl, sym, ap, ◌∙◌, ◌⊎◌, inl, inr}
use Rattle.std.specs.Prelude.{◌&&◌}
use Rattle.std.specs.List.{list_all}
use Rattle.std.specs.BTreeMap.{BTreeMap, UpdatesBy, get_by_text}
use Rattle.std.specs.Cmp.Lexicographic.{slice_cmp}
use Rattle.std.specs.Ordering.{is_eq, nat_cmp}
use Rattle.std.specs.Str.{bytes_eq}
use Rattle.std.specs.String.{string_bytes, string_cmp}
use Rattle.std.specs.Map.{lookup}
use Rattle.std.specs.declared.alloc.Global.{Global}
use Rattle.std.specs.declared.string.String.{String}
use Rattle.std.proofs.lemmas.List.Folds.{list_all-append, list_any-append}
use Rattle.std.proofs.lemmas.Map.Text.{is_eq-slice_cmp, btree_map_updates_text}
use Rattle.std.proofs.lemmas.Slice.Eq.{bytes_eq-Decides}
use Rattle.pf_match.specs.Meaning.{is_listed, is_pattern, is_refused}
use Rattle.pf_match.specs.Tables.{Agrees, IsTable, Stays, texts_of}

abbrev Built : Type 0
Built = BTreeMap (String Global) (List ℕ)

bool_cases : (b : Bool) → (b ≡ true) ⊎ (b ≡ false)
bool_cases true = inl refl
bool_cases false = inr refl

some_of : (o : Option (List ℕ)) → is_some o ≡ true → (p : List ℕ) × (o ≡ Some p)
some_of (Some p) h = (p, refl)
some_of None h = absurd (true≢false (sym h))

apart : (other text : List ℕ) → bytes_eq other text ≡ false → other ≢ text
apart other text t same = true≢false (sym ((bytes_eq-Decides other text).1 same) ∙ t)

own_equal : (text : List ℕ) → bytes_eq text text ≡ true
own_equal text = (bytes_eq-Decides text text).1 refl

-- ---- maps by text

among_entries : (text : List ℕ) (es : List (String Global × List ℕ))
    → is_listed (map (λ e. string_bytes e.0) es) text ≡ is_some (lookup (λ k. is_eq (slice_cmp nat_cmp text (string_bytes k))) es)
among_entries text [] = refl
among_entries text (e ∷ es) = rw (is_eq-slice_cmp text (string_bytes e.0)) (by (bytes_eq text (string_bytes e.0)) (among_entries text es)) where
  by : (b : Bool) → is_listed (map (λ x. string_bytes x.0) es) text ≡ is_some (lookup (λ k. is_eq (slice_cmp nat_cmp text (string_bytes k))) es)
      → (b || is_listed (map (λ x. string_bytes x.0) es) text) ≡ is_some (cond b (Some e.1) (lookup (λ k. is_eq (slice_cmp nat_cmp text (string_bytes k))) es))
  by true h = refl
  by false h = h

among : (m : Built) (text : List ℕ) → is_listed (texts_of m) text ≡ is_some (get_by_text m text)
among m text = among_entries text m.entries

found : (m : Built) (text : List ℕ) → is_listed (texts_of m) text ≡ true → (p : List ℕ) × (get_by_text m text ≡ Some p)
found m text h = some_of (get_by_text m text) (sym (among m text) ∙ h)

pub is_among : (m : Built) (text p : List ℕ) → get_by_text m text ≡ Some p → is_listed (texts_of m) text ≡ true
is_among m text p h = among m text ∙ ap (λ (o : Option (List ℕ)). is_some o) h

pub is_absent : (m : Built) (text : List ℕ) → get_by_text m text ≡ None → is_listed (texts_of m) text ≡ false
is_absent m text h = among m text ∙ ap (λ (o : Option (List ℕ)). is_some o) h

-- an insertion leaves what stands under other texts
pub other_text : (key text other : List ℕ) (m n : Built) (w : Option (List ℕ)) → key ≡ text
    → UpdatesBy string_cmp (λ k. slice_cmp nat_cmp key (string_bytes k)) m n w → other ≢ text → get_by_text n other ≡ get_by_text m other
other_text key text other m n w is up d = elim (bool_cases (bytes_eq key other)) [
  | inl t ↦ absurd (d (sym ((bytes_eq-Decides key other).0 t) ∙ is))
  | inr t ↦ let u = btree_map_updates_text key m n w up other in rw t at u
]

-- ---- a pattern that is kept

module _ (old new : Built) (refused : List (List ℕ)) (text p : List ℕ) (there : get_by_text new text ≡ Some p)
    (others : (other : List ℕ) → other ≢ text → get_by_text new other ≡ get_by_text old other) where
  pub kept_table : IsTable old refused → is_listed refused text ≡ false → p ≡ text → IsTable new refused
  kept_table table free own = record {
    own = λ other q g. elim (bool_cases (bytes_eq other text)) [
      | inl t ↦ let same = (bytes_eq-Decides other text).0 t in is_own other q same g
      | inr t ↦ table.own other q (sym (others other (apart other text t)) ∙ g)
    ];
    apart = λ other q g. elim (bool_cases (bytes_eq other text)) [
      | inl t ↦ let same = (bytes_eq-Decides other text).0 t in ap (is_listed refused) same ∙ free
      | inr t ↦ table.apart other q (sym (others other (apart other text t)) ∙ g)
    ];
    too_big = table.too_big;
  } where
    is_own : (other q : List ℕ) → other ≡ text → get_by_text new other ≡ Some q → q ≡ other
    is_own other q same g =
        let here : Some p ≡ Some q = sym there ∙ ap (get_by_text new) (sym same) ∙ g in
        let is : p ≡ q = cc in
        sym is ∙ own ∙ sym same

  pub kept_stays : Stays (texts_of old, refused) (texts_of new, refused)
  kept_stays told agrees = record {
    built = λ other h. agrees.built other (elim (bool_cases (bytes_eq other text)) [
      | inl t ↦ let same = (bytes_eq-Decides other text).0 t in ap (is_listed (texts_of new)) same ∙ is_among new text p there
      | inr t ↦ among new other ∙ ap (λ (o : Option (List ℕ)). is_some o) (others other (apart other text t)) ∙ sym (among old other) ∙ h
    ]);
    too_big = agrees.too_big;
  }

pub fate_of_built : (m : Built) (refs refused : List (List ℕ)) (text p : List ℕ) → get_by_text m text ≡ Some p → is_pattern text ≡ true
    → Agrees (texts_of m, refs) refused → is_refused refused text ≡ false
fate_of_built m refs refused text p there read agrees =
    ap (λ b. not b || is_listed refused text) read ∙ agrees.built text (is_among m text p there)

-- where memory ran out, the map has its entries still
pub same_table : (old new : Built) (refused : List (List ℕ)) → new.entries ≡ old.entries → IsTable old refused → IsTable new refused
same_table old new refused same table = record {
  own = λ text p g. table.own text p (sym (got text) ∙ g);
  apart = λ text p g. table.apart text p (sym (got text) ∙ g);
  too_big = table.too_big;
} where
  got : (text : List ℕ) → get_by_text new text ≡ get_by_text old text
  got text = ap (lookup (λ k. is_eq (slice_cmp nat_cmp text (string_bytes k)))) same

-- ---- a text that is refused

listed_before : (refs : List (List ℕ)) (text other : List ℕ) → is_listed refs other ≡ true → is_listed (refs ++ text ∷ []) other ≡ true
listed_before refs text other h = list_any-append (bytes_eq other) refs (text ∷ []) ∙ ap (λ b. b || (bytes_eq other text || false)) h

listed_last : (refs : List (List ℕ)) (text : List ℕ) → is_listed (refs ++ text ∷ []) text ≡ true
listed_last refs text = list_any-append (bytes_eq text) refs (text ∷ []) ∙ ap (λ b. is_listed refs text || (b || false)) (own_equal text) ∙ or_true (is_listed refs text) where
  or_true : (b : Bool) → (b || true) ≡ true
  or_true true = refl
  or_true false = refl

unlisted : (refs : List (List ℕ)) (text other : List ℕ) → is_listed refs other ≡ false → bytes_eq other text ≡ false → is_listed (refs ++ text ∷ []) other ≡ false
unlisted refs text other h g =
    list_any-append (bytes_eq other) refs (text ∷ []) ∙ ap (λ b. b || (bytes_eq other text || false)) h ∙ ap (λ b. b || false) g

module _ (m : Built) (refs more : List (List ℕ)) (text : List ℕ) (is : more ≡ refs ++ text ∷ []) where
  pub refused_table : IsTable m refs → is_pattern text ≡ true → is_listed (texts_of m) text ≡ false → IsTable m more
  refused_table table read free = record {
    own = table.own;
    apart = λ other p g. ap (λ l. is_listed l other) is ∙ elim (bool_cases (bytes_eq other text)) [
      | inl t ↦
          let same = (bytes_eq-Decides other text).0 t in
          absurd (true≢false (sym (is_among m other p g) ∙ ap (is_listed (texts_of m)) same ∙ free))
      | inr t ↦ unlisted refs text other (table.apart other p g) t
    ];
    too_big =
        ap (list_all is_pattern) is ∙ list_all-append is_pattern refs (text ∷ []) ∙ ap (λ b. b && (is_pattern text && true)) table.too_big
        ∙ ap (λ b. b && true) read;
  }

  pub refused_stays : Stays (texts_of m, refs) (texts_of m, more)
  refused_stays told agrees = record {
    built = agrees.built;
    too_big = λ other h. agrees.too_big other (ap (λ l. is_listed l other) is ∙ listed_before refs text other h);
  }

  pub fate_of_last : (refused : List (List ℕ)) → Agrees (texts_of m, more) refused → is_refused refused text ≡ true
  fate_of_last refused agrees = listed_is_refused refused text (agrees.too_big text (ap (λ l. is_listed l text) is ∙ listed_last refs text)) where
    listed_is_refused : (l : List (List ℕ)) (t : List ℕ) → is_listed l t ≡ true → is_refused l t ≡ true
    listed_is_refused l t h = ap (λ b. not (is_pattern t) || b) h ∙ or_true (not (is_pattern t))
      where
        or_true : (b : Bool) → (b || true) ≡ true
        or_true true = refl
        or_true false = refl

-- ---- what a table says as it is

pub agrees_itself : (m : Built) (refs : List (List ℕ)) → IsTable m refs → Agrees (texts_of m, refs) refs
agrees_itself m refs table = record {
  built = λ text h. let f = found m text h in table.apart text f.0 f.1;
  too_big = λ text h. h;
}
