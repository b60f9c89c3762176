-- The lists that an index keeps for pairs.
use Rattle.std.proofs.Common.{◌≡◌, ℕ, ◌+◌, ◌<◌, Bool, true, false, cond, ◌&&◌, ◌||◌, List, [], ◌∷◌, ◌++◌, length, take, get_or, refl, sym, ap, ◌∙◌, subst, Some, None, append_assoc, nat_eq}
use Rattle.std.specs.List.{list_any}
use Rattle.std.proofs.lemmas.Bool.{eqb-false, eqb-true}
use Rattle.std.specs.BTreeMap.{UpdatesBy, get_by_text}
use Rattle.std.specs.String.{string_bytes, string_cmp}
use Rattle.std.specs.Str.{bytes_eq}
use Rattle.std.specs.Ordering.{nat_cmp}
use Rattle.std.specs.Cmp.Lexicographic.{slice_cmp}
use Rattle.std.specs.declared.vec.Vec.{Vec}
use Rattle.std.specs.declared.alloc.Global.{Global}
use Rattle.std.proofs.lemmas.Map.Text.{btree_map_updates_text}
use Rattle.std.proofs.lemmas.Slice.Eq.{bytes_eq-Decides}
use Rattle.std.specs.BTreeMap.{is_at}
use Rattle.std.specs.Map.{lookup}
use Rattle.std.specs.Ordering.{is_lt}
use Rattle.std.specs.Cmp.{first_so, second_so, tied_itself}
use Rattle.std.specs.Cmp.Lexicographic.{nat_list_cmp_total}
use Rattle.std.specs.declared.cmp.Ordering.{Ordering}
use Rattle.std.specs.declared.cmp.Ordering.TheVariants.{Less, Equal, Greater}
use Rattle.std.proofs.lemmas.List.{take_more}
use Rattle.std.proofs.Math.Seq.{take-length}
use Rattle.pf_base.specs.LabelSets.{Pairs, name_at, value_at, rises, rises_after}
use Rattle.pf_block.specs.SeriesIds.{has_pair}
use Rattle.pf_block.specs.Indexes.{Values, Names, listed, listed_by, listed_in}

both : (s t : Bool) → s ≡ true → t ≡ true → (s && t) ≡ true
both s t p q = λ i. p i && q i

less_is : (o : Ordering) → is_lt o ≡ true → o ≡ Less
less_is Less h = refl
less_is Equal h = cc
less_is Greater h = cc

label_rises : (a : List ℕ) (ps : Pairs) → rises_after a ps ≡ true → rises ps ≡ true
label_rises a [] h = refl
label_rises a (p ∷ ps) h = second_so (is_lt (slice_cmp nat_cmp a p.0)) (rises_after p.0 ps) h

append_none : (xs : List ℕ) → xs ++ [] ≡ xs
append_none [] = refl
append_none (x ∷ xs) = ap (λ l. x ∷ l) (append_none xs)

noted_by : (value q : List ℕ) (id : ℕ) (m n : Values) (w : Vec ℕ Global) (v : Bool) → bytes_eq value q ≡ v → get_by_text n q ≡ cond v (Some w) (get_by_text m q) → w.items ≡ listed_by (get_by_text m value) ++ id ∷ [] →
    listed_by (get_by_text n q) ≡ listed_by (get_by_text m q) ++ cond v (id ∷ []) []
noted_by value q id m n w true e u h = ap listed_by u ∙ h ∙ ap (λ b. listed_by (get_by_text m b) ++ id ∷ []) ((bytes_eq-Decides value q).0 e)
noted_by value q id m n w false e u h = ap listed_by u ∙ sym (append_none (listed_by (get_by_text m q)))

pub noted : (value : List ℕ) (id : ℕ) (m n : Values) (w : Vec ℕ Global) → UpdatesBy string_cmp (λ k. slice_cmp nat_cmp value (string_bytes k)) m n (Some w) → w.items ≡ listed_by (get_by_text m value) ++ id ∷ [] →
    (q : List ℕ) → listed_by (get_by_text n q) ≡ listed_by (get_by_text m q) ++ cond (bytes_eq value q) (id ∷ []) []
noted value id m n w up h q = noted_by value q id m n w (bytes_eq value q) refl (btree_map_updates_text value m n (Some w) up q) h

pub noted_new : (value key : List ℕ) (id : ℕ) (m was n : Values) (w : Vec ℕ Global) (none : List ℕ) → was ≡ m → key ≡ value → UpdatesBy string_cmp (λ k. slice_cmp nat_cmp key (string_bytes k)) was n (Some w) → w.items ≡ none ++ id ∷ [] → none ≡ [] → None ≡ get_by_text m value →
    (q : List ℕ) → listed_by (get_by_text n q) ≡ listed_by (get_by_text m q) ++ cond (bytes_eq value q) (id ∷ []) []
noted_new value key id m was n w none e f up h z o =
    noted value id m n w
    (subst (λ x. UpdatesBy string_cmp (λ k. slice_cmp nat_cmp value (string_bytes k)) x n (Some w)) e (subst (λ b. UpdatesBy string_cmp (λ k. slice_cmp nat_cmp b (string_bytes k)) was n (Some w)) f up))
    (h ∙ ap (λ l. l ++ id ∷ []) z ∙ ap (λ x. listed_by x ++ id ∷ []) o)

-- ---- a pair under its name

note_by : (name value q r : List ℕ) (id : ℕ) (m n : Names) (w : Values) (v : Bool) → bytes_eq name q ≡ v → get_by_text n q ≡ cond v (Some w) (get_by_text m q) →
    listed_by (get_by_text w r) ≡ listed_in (get_by_text m name) r ++ cond (bytes_eq value r) (id ∷ []) [] →
    listed_in (get_by_text n q) r ≡ listed_in (get_by_text m q) r ++ cond (v && bytes_eq value r) (id ∷ []) []
note_by name value q r id m n w true e u h = ap (λ o. listed_in o r) u ∙ h ∙ ap (λ b. listed_in (get_by_text m b) r ++ cond (bytes_eq value r) (id ∷ []) []) ((bytes_eq-Decides name q).0 e)
note_by name value q r id m n w false e u h = ap (λ o. listed_in o r) u ∙ sym (append_none (listed_in (get_by_text m q) r))

pub note_is : (name value : List ℕ) (id : ℕ) (m n : Names) (w : Values) → UpdatesBy string_cmp (λ k. slice_cmp nat_cmp name (string_bytes k)) m n (Some w) →
    ((r : List ℕ) → listed_by (get_by_text w r) ≡ listed_in (get_by_text m name) r ++ cond (bytes_eq value r) (id ∷ []) []) →
    (q r : List ℕ) → listed n q r ≡ listed m q r ++ cond (bytes_eq name q && bytes_eq value r) (id ∷ []) []
note_is name value id m n w up h q r = note_by name value q r id m n w (bytes_eq name q) refl (btree_map_updates_text name m n (Some w) up q) (h r)

pub note_new : (name key value : List ℕ) (id : ℕ) (m was n : Names) (fresh w : Values) → was ≡ m → key ≡ name → UpdatesBy string_cmp (λ k. slice_cmp nat_cmp key (string_bytes k)) was n (Some w) → fresh.entries ≡ [] →
    ((r : List ℕ) → listed_by (get_by_text w r) ≡ listed_by (get_by_text fresh r) ++ cond (bytes_eq value r) (id ∷ []) []) → None ≡ get_by_text m name →
    (q r : List ℕ) → listed n q r ≡ listed m q r ++ cond (bytes_eq name q && bytes_eq value r) (id ∷ []) []
note_new name key value id m was n fresh w e f up z h o =
    note_is name value id m n w
    (subst (λ x. UpdatesBy string_cmp (λ k. slice_cmp nat_cmp name (string_bytes k)) x n (Some w)) e (subst (λ b. UpdatesBy string_cmp (λ k. slice_cmp nat_cmp b (string_bytes k)) was n (Some w)) f up))
    (λ r. h r ∙ ap (λ es. listed_by (lookup (is_at (λ k. slice_cmp nat_cmp r (string_bytes k))) es) ++ cond (bytes_eq value r) (id ∷ []) []) z ∙ ap (λ x. listed_in x r ++ cond (bytes_eq value r) (id ∷ []) []) o)

-- ---- all pairs of a label set

abbrev pub hits : ℕ → List ℕ → List ℕ → Pairs → List ℕ
hits id q r [] = []
hits id q r (p ∷ ps) = cond (bytes_eq p.0 q && bytes_eq p.1 r) (id ∷ hits id q r ps) (hits id q r ps)

hits_push_by : (id : ℕ) (v : Bool) (ys zs hs : List ℕ) → hs ≡ ys ++ zs → cond v (id ∷ hs) hs ≡ cond v (id ∷ ys) ys ++ zs
hits_push_by id true ys zs hs h = ap (λ l. id ∷ l) h
hits_push_by id false ys zs hs h = h

hits_push : (id : ℕ) (q r : List ℕ) (ps : Pairs) (p : List ℕ × List ℕ) → hits id q r (ps ++ p ∷ []) ≡ hits id q r ps ++ cond (bytes_eq p.0 q && bytes_eq p.1 r) (id ∷ []) []
hits_push id q r [] p = refl
hits_push id q r (x ∷ ps) p =
    hits_push_by id (bytes_eq x.0 q && bytes_eq x.1 r) (hits id q r ps) (cond (bytes_eq p.0 q && bytes_eq p.1 r) (id ∷ []) []) (hits id q r (ps ++ p ∷ [])) (hits_push id q r ps p)

-- a loop's step
pub hits_more : (id : ℕ) (q r : List ℕ) (ps : Pairs) (i : ℕ) (old now new name value : List ℕ) → i < length ps → name ≡ name_at ps i → value ≡ value_at ps i →
    now ≡ old ++ hits id q r (take i ps) → new ≡ now ++ cond (bytes_eq name q && bytes_eq value r) (id ∷ []) [] → new ≡ old ++ hits id q r (take (i + 1) ps)
hits_more id q r ps i old now new name value l e f h k =
    k ∙ ap (λ x. x ++ cond (bytes_eq name q && bytes_eq value r) (id ∷ []) []) h
    ∙ append_assoc old (hits id q r (take i ps)) (cond (bytes_eq name q && bytes_eq value r) (id ∷ []) [])
    ∙ ap (λ x. old ++ (hits id q r (take i ps) ++ cond (bytes_eq x q && bytes_eq value r) (id ∷ []) [])) e
    ∙ ap (λ x. old ++ (hits id q r (take i ps) ++ cond (bytes_eq (name_at ps i) q && bytes_eq x r) (id ∷ []) [])) f
    ∙ ap (λ x. old ++ x) (sym (hits_push id q r (take i ps) (get_or ps i ([], []))))
    ∙ ap (λ x. old ++ hits id q r x) (sym (take_more ps i ([], []) l))

-- a name stands once
none_later : (id : ℕ) (q r a : List ℕ) (ps : Pairs) → a ≡ q → rises_after a ps ≡ true → hits id q r ps ≡ []
none_later id q r a [] e h = refl
none_later id q r a (p ∷ ps) e h =
    let l : is_lt (slice_cmp nat_cmp a p.0) ≡ true = first_so (is_lt (slice_cmp nat_cmp a p.0)) (rises_after p.0 ps) h in
    let apart : bytes_eq p.0 q ≡ false = differ a p.0 q (bytes_eq p.0 q) refl e l in
    ap (λ b. cond (b && bytes_eq p.1 r) (id ∷ hits id q r ps) (hits id q r ps)) apart
    ∙ none_later id q r a ps e (rises_on a p.0 ps l (second_so (is_lt (slice_cmp nat_cmp a p.0)) (rises_after p.0 ps) h)) where
      differ : (a b q : List ℕ) (v : Bool) → bytes_eq b q ≡ v → a ≡ q → is_lt (slice_cmp nat_cmp a b) ≡ true → v ≡ false
      differ a b q false e f l = refl
      differ a b q true e f l =
          let same : a ≡ b = f ∙ sym ((bytes_eq-Decides b q).0 e) in
          let tied : slice_cmp nat_cmp a a ≡ Equal = tied_itself nat_list_cmp_total a in
          let lt : is_lt (slice_cmp nat_cmp a a) ≡ true = subst (λ x. is_lt (slice_cmp nat_cmp a x) ≡ true) (sym same) l in
          sym lt ∙ ap is_lt tied

      rises_on : (a b : List ℕ) (ps : Pairs) → is_lt (slice_cmp nat_cmp a b) ≡ true → rises_after b ps ≡ true → rises_after a ps ≡ true
      rises_on a b [] l h = refl
      rises_on a b (p ∷ ps) l h =
          let m = first_so (is_lt (slice_cmp nat_cmp b p.0)) (rises_after p.0 ps) h in
          let t = ap is_lt (nat_list_cmp_total.trans a b p.0 (less_is _ l) (less_is _ m)) in
          both (is_lt (slice_cmp nat_cmp a p.0)) (rises_after p.0 ps) t (second_so (is_lt (slice_cmp nat_cmp b p.0)) (rises_after p.0 ps) h)

hits_by : (id : ℕ) (q r : List ℕ) (p : List ℕ × List ℕ) (ps : Pairs) (v w : Bool) → bytes_eq p.0 q ≡ v → rises_after p.0 ps ≡ true → hits id q r ps ≡ cond (has_pair q r ps) (id ∷ []) [] →
    cond (v && w) (id ∷ hits id q r ps) (hits id q r ps) ≡ cond ((v && w) || has_pair q r ps) (id ∷ []) []
hits_by id q r p ps true true e h t = ap (λ l. id ∷ l) (none_later id q r p.0 ps ((bytes_eq-Decides p.0 q).0 e) h)
hits_by id q r p ps true false e h t = t
hits_by id q r p ps false w e h t = t

pub hits_is : (id : ℕ) (q r : List ℕ) (ps : Pairs) → rises ps ≡ true → hits id q r ps ≡ cond (has_pair q r ps) (id ∷ []) []
hits_is id q r [] h = refl
hits_is id q r (p ∷ ps) h = hits_by id q r p ps (bytes_eq p.0 q) (bytes_eq p.1 r) refl h (hits_is id q r ps (label_rises p.0 ps h))

pub hits_all : (id : ℕ) (q r : List ℕ) (ps : Pairs) (n : ℕ) (old now : List ℕ) → rises ps ≡ true → n ≡ length ps → now ≡ old ++ hits id q r (take n ps) → now ≡ old ++ cond (has_pair q r ps) (id ∷ []) []
hits_all id q r ps n old now h e k = k ∙ ap (λ m. old ++ hits id q r (take m ps)) e ∙ ap (λ x. old ++ hits id q r x) (take-length ps) ∙ ap (λ x. old ++ x) (hits_is id q r ps h)

-- ---- notes on the series of a list

-- one more is noted
pub noted_next : {X : Type 0} (k id : ℕ) (ids : List ℕ) (noted old new : X) → (k ≡ id → new ≡ noted) → ((k ≡ id → ⊥) → new ≡ old)
    → cond (list_any (nat_eq k) ids) noted new ≡ cond (list_any (nat_eq k) (id ∷ ids)) noted old
noted_next k id ids noted old new f g = by (nat_eq k id) refl where
  same : (b : Bool) → cond b noted noted ≡ noted
  same true = refl
  same false = refl

  by : (b : Bool) → nat_eq k id ≡ b → cond (list_any (nat_eq k) ids) noted new ≡ cond (nat_eq k id || list_any (nat_eq k) ids) noted old
  by true e =
      ap (cond (list_any (nat_eq k) ids) noted) (f (eqb-true k id e)) ∙ same (list_any (nat_eq k) ids)
      ∙ sym (ap (λ b. cond (b || list_any (nat_eq k) ids) noted old) e)
  by false e =
      ap (cond (list_any (nat_eq k) ids) noted) (g (eqb-false k id e)) ∙ sym (ap (λ b. cond (b || list_any (nat_eq k) ids) noted old) e)
