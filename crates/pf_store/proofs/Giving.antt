-- The ids that series are given by the rows that are taken.
use Rattle.std.proofs.Common.{◌≡◌, ℕ, ◌+◌, ◌-◌, ◌<◌, ℤ, Bool, true, false, cond, inl, inr, List, [], ◌∷◌, ◌++◌, get_or, refl, sym, ap, ◌∙◌, subst, arith, Some, None, Option, length}
use Rattle.std.specs.Prelude.{IfSome, slice_get}
use Rattle.std.specs.HashMap.{HashMap, Updates, get, hash_map_len}
use Rattle.std.proofs.lemmas.List.{length-append, get_or_append_left, get_or-set_same, get_or-set_other}
use Rattle.std.proofs.Math.ListN.{length-set}
use Rattle.std.proofs.Math.Seq.{get_or-append_seam}
use Rattle.pf_base.specs.declared.plain.Row.{Row}
use Rattle.pf_base.specs.LabelSets.{Pairs}
use Rattle.pf_base.specs.LabelOrder.{labels_decides, labels_eq}
use Rattle.pf_block.specs.Blocks.{labels_with, noted, noted_at, number_at, number_of_labels, row_ids}
use Rattle.pf_block.specs.SeriesIds.{id_of}
use Rattle.pf_block.specs.Snaps.{SnapData}
use Rattle.pf_block.proofs.Ids.{found_by}
use Rattle.pf_model.specs.Selection.{same_labels}
use Rattle.pf_store.specs.Keys.{Finds, Gives, IsLast, given_by, id_by, next_by}
use Rattle.pf_store.specs.declared.taken.Numbered.{Numbered}
use Rattle.pf_store.proofs.Holding.{same_exact, same_own}
use Rattle.pf_store.proofs.Numbers.{absent, got, same_some}

-- ---- one row more

labels_more : (labels : List Pairs) (rs : List Row) (r : Row) → labels_with labels (rs ++ r ∷ []) ≡ noted (labels_with labels rs) r.labels
labels_more labels [] r = refl
labels_more labels (x ∷ rs) r = labels_more (noted labels x.labels) rs r

ids_more : (labels : List Pairs) (rs : List Row) (r : Row) → row_ids labels (rs ++ r ∷ []) ≡ row_ids labels rs ++ number_of_labels (labels_with labels rs) r.labels ∷ []
ids_more labels [] r = refl
ids_more labels (x ∷ rs) r = ap (λ l. number_of_labels labels x.labels ∷ l) (ids_more (noted labels x.labels) rs r)

last_is : (rs : List Row) (r : Row) → slice_get (rs ++ r ∷ []) (length rs) ≡ Some r
last_is [] r = refl
last_is (x ∷ rs) r = last_is rs r

last_more : (rs : List Row) (r : Row) → slice_get (rs ++ r ∷ []) (length (rs ++ r ∷ []) - 1) ≡ Some r
last_more rs r =
    let n : length (rs ++ r ∷ []) - 1 ≡ length rs = omega (arith, length-append rs (r ∷ [])) in
    ap (slice_get (rs ++ r ∷ [])) n ∙ last_is rs r

-- ---- an id of a series, its own or the next one

id_numbered : (ls : List Pairs) (next : ℕ) (o : Option ℕ) → next ≡ length ls → id_by next o ≡ number_at ls o
id_numbered ls next None h = h
id_numbered ls next (Some i) h = refl

next_noted : (ls : List Pairs) (l : Pairs) (next : ℕ) (o : Option ℕ) → next ≡ length ls → next_by next o ≡ length (noted_at ls l o)
next_noted ls l next None h = omega (arith, h, length-append ls (l ∷ []))
next_noted ls l next (Some i) h = h

other_id : (ls : List Pairs) (l m : Pairs) (o : Option ℕ) → same_labels l m ≡ false → id_of l ls ≡ o → id_of m (noted_at ls l o) ≡ id_of m ls
other_id ls l m None d e = sym (found_by l m ls (length ls) false d e refl)
other_id ls l m (Some i) d e = refl

own_id : (ls : List Pairs) (l : Pairs) (next : ℕ) (o : Option ℕ) → next ≡ length ls → id_of l ls ≡ o → id_of l (noted_at ls l o) ≡ Some (id_by next o)
own_id ls l next None h e = sym (found_by l l ls next true (same_own l) e h)
own_id ls l next (Some i) h e = e

given_own : (given : List (Option ℕ)) (k next : ℕ) (o : Option ℕ) → k < length given → get_or given k None ≡ o → get_or (given_by given k next o) k None ≡ Some (id_by next o)
given_own given k next None l e = get_or-set_same given k (Some next) None l
given_own given k next (Some i) l e = e

given_other : (given : List (Option ℕ)) (j k next : ℕ) (o : Option ℕ) → (j ≡ k → ⊥) → get_or (given_by given k next o) j None ≡ get_or given j None
given_other given j k next None n = get_or-set_other given k j (Some next) None n
given_other given j k next (Some i) n = refl

given_length : (given : List (Option ℕ)) (k next : ℕ) (o : Option ℕ) → length (given_by given k next o) ≡ length given
given_length given k next None = length-set given k (Some next)
given_length given k next (Some i) = refl

if_some : (P Q : Row → Type 0) (o : Option Row) → IfSome o P → ((r : Row) → P r → Q r) → IfSome o Q
if_some P Q None h f = tt
if_some P Q (Some r) h f = f r h

pub last_same : {S : Type 0} (series : HashMap Pairs Numbered S) (rows : List Row) (r : Row) (l : Pairs) (n : Numbered) → Some r ≡ slice_get rows (length rows - 1) → labels_eq r.labels l ≡ true → IsLast series rows n
    → get labels_eq series l ≡ Some n
last_same series rows r l n e d h =
    let k : get labels_eq series r.labels ≡ Some n = subst (λ o. IfSome o (λ x. get labels_eq series x.labels ≡ Some n)) (sym e) h in
    ap (get labels_eq series) (sym ((labels_decides r.labels l).0 d)) ∙ k

module _ {S T : Type 0} (snap : SnapData) (series : HashMap Pairs Numbered S) (values : HashMap (ℕ × ℕ) ℤ T) (rows : List Row) (ids : List ℕ) (given : List (Option ℕ)) (next : ℕ) (last : Numbered)
    (g : Gives snap series rows ids given next last) (f : Finds series values rows) where
  -- ---- a label set that is met

  module _ (new : HashMap Pairs Numbered S) (l : Pairs) (n : Numbered) (u : Updates labels_eq series new l (Some n)) (unmet : get labels_eq series l ≡ None) (own : n.number ≡ hash_map_len series)
      (more : hash_map_len new ≡ hash_map_len series + 1) (id : n.id ≡ id_of l snap.labels) where
    kept : (m : Pairs) (s : Numbered) → get labels_eq series m ≡ Some s → get labels_eq new m ≡ Some s
    kept m s e = by (labels_eq l m) refl
      where
        by : (b : Bool) → labels_eq l m ≡ b → get labels_eq new m ≡ Some s
        by true k = absurd (let q : Some s ≡ None = sym e ∙ ap (get labels_eq series) (sym ((labels_decides l m).0 k)) ∙ unmet in cc)
        by false k = u.0 m ∙ ap (λ b. cond b (Some n) (get labels_eq series m)) k ∙ e

    pub gives_met : (all : List (Option ℕ)) → all ≡ given ++ n.id ∷ [] → Gives snap new rows ids all next last
    gives_met all e = record {
      numbered = g.numbered;
      by_number = λ m s k. ap (λ x. get_or x s.number None) e
          ∙ elim (got series new l n u m s k) [
            | inl p ↦
                ap (λ x. get_or (given ++ n.id ∷ []) x.number None) (sym p.1) ∙ ap (λ j. get_or (given ++ n.id ∷ []) j None) (own ∙ sym g.count) ∙ get_or-append_seam given n.id [] None
                ∙ id ∙ sym (g.unmet l unmet) ∙ ap (λ x. id_of x (labels_with snap.labels rows)) p.0
            | inr q ↦ get_or_append_left given (n.id ∷ []) None s.number (let b = f.below m s q in omega (arith, b, g.count)) ∙ g.by_number m s q
          ];
      count = let a = ap length e in omega (arith, a, length-append given (n.id ∷ []), g.count, more);
      follows = g.follows;
      unmet = λ m k. g.unmet m (absent series new l n u m k);
      ends = if_some (λ r. get labels_eq series r.labels ≡ Some last) (λ r. get labels_eq new r.labels ≡ Some last) (slice_get rows (length rows - 1)) g.ends (λ r h. kept r.labels last h);
    }

  -- ---- a row that is taken

  number_given : (l : Pairs) (n : Numbered) → get labels_eq series l ≡ Some n → n.number < length given
  number_given l n k = let b = f.below l n k in omega (arith, b, g.count)

  module _ (r : Row) (n : Numbered) (known : get labels_eq series r.labels ≡ Some n) where
    entry : get_or given n.number None ≡ id_of r.labels (labels_with snap.labels rows)
    entry = g.by_number r.labels n known

    grown : labels_with snap.labels (rows ++ r ∷ []) ≡ noted_at (labels_with snap.labels rows) r.labels (get_or given n.number None)
    grown = labels_more snap.labels rows r ∙ ap (noted_at (labels_with snap.labels rows) r.labels) (sym entry)

    same_number : (m : Pairs) (s : Numbered) → get labels_eq series m ≡ Some s → same_labels r.labels m ≡ true → n ≡ s
    same_number m s k d = same_some n s (sym known ∙ ap (get labels_eq series) (same_exact r.labels m d) ∙ k)

    other_number : (m : Pairs) (s : Numbered) → get labels_eq series m ≡ Some s → same_labels r.labels m ≡ false → s.number ≡ n.number → ⊥
    other_number m s k d e =
        let p : r.labels ≡ m = f.apart r.labels m n s known k (sym e) in
        let q : true ≡ false = sym (same_own r.labels) ∙ ap (same_labels r.labels) p ∙ d in
        cc

    given_row : (m : Pairs) (s : Numbered) → get labels_eq series m ≡ Some s → (b : Bool) → same_labels r.labels m ≡ b →
        get_or (given_by given n.number next (get_or given n.number None)) s.number None ≡ id_of m (labels_with snap.labels (rows ++ r ∷ []))
    given_row m s k true d =
        ap (λ x. get_or (given_by given n.number next (get_or given n.number None)) x.number None) (sym (same_number m s k d))
        ∙ given_own given n.number next (get_or given n.number None) (number_given r.labels n known) refl
        ∙ sym (own_id (labels_with snap.labels rows) r.labels next (get_or given n.number None) g.follows (sym entry))
        ∙ (λ i. id_of (same_exact r.labels m d i) (sym grown i))
    given_row m s k false d =
        given_other given s.number n.number next (get_or given n.number None) (other_number m s k d) ∙ g.by_number m s k
        ∙ sym (other_id (labels_with snap.labels rows) r.labels m (get_or given n.number None) d (sym entry)) ∙ ap (id_of m) (sym grown)

    other_labels : (m : Pairs) → get labels_eq series m ≡ None → (b : Bool) → same_labels r.labels m ≡ b → same_labels r.labels m ≡ false
    other_labels m k false d = d
    other_labels m k true d = absurd (let e : Some n ≡ None = sym known ∙ ap (get labels_eq series) (same_exact r.labels m d) ∙ k in cc)

    gives_row : Gives snap series (rows ++ r ∷ []) (ids ++ id_by next (get_or given n.number None) ∷ []) (given_by given n.number next (get_or given n.number None)) (next_by next (get_or given n.number None)) n
    gives_row = record {
      numbered = ap (λ x. x ++ id_by next (get_or given n.number None) ∷ []) g.numbered
          ∙ ap (λ x. row_ids snap.labels rows ++ x ∷ []) (id_numbered (labels_with snap.labels rows) next (get_or given n.number None) g.follows ∙ ap (number_at (labels_with snap.labels rows)) entry)
          ∙ sym (ids_more snap.labels rows r);
      by_number = λ m s k. given_row m s k (same_labels r.labels m) refl;
      count = given_length given n.number next (get_or given n.number None) ∙ g.count;
      follows = next_noted (labels_with snap.labels rows) r.labels next (get_or given n.number None) g.follows ∙ ap length (sym grown);
      unmet = λ m k.
          ap (id_of m) grown ∙ other_id (labels_with snap.labels rows) r.labels m (get_or given n.number None) (other_labels m k (same_labels r.labels m) refl) (sym entry) ∙ g.unmet m k;
      ends = subst (λ o. IfSome o (λ x. get labels_eq series x.labels ≡ Some n)) (sym (last_more rows r)) known;
    }

  -- the same, where the row is a copy
  pub gives_copy : (r copy : Row) (n : Numbered) → get labels_eq series r.labels ≡ Some n → (all : List Row) (nums : List ℕ) (id : ℕ) (those : List (Option ℕ)) (following : ℕ) → copy ≡ r → all ≡ rows ++ copy ∷ [] → nums ≡ ids ++ id ∷ [] →
      id ≡ id_by next (get_or given n.number None) → those ≡ given_by given n.number next (get_or given n.number None) → following ≡ next_by next (get_or given n.number None) → Gives snap series all nums those following n
  gives_copy r copy n known all nums id those following c a p q s t =
      subst (λ x. Gives snap series x nums those following n) (sym (a ∙ ap (λ x. rows ++ x ∷ []) c))
      (subst (λ x. Gives snap series (rows ++ r ∷ []) x those following n) (sym (p ∙ ap (λ x. ids ++ x ∷ []) q))
      (subst (λ x. Gives snap series (rows ++ r ∷ []) (ids ++ id_by next (get_or given n.number None) ∷ []) x following n) (sym s)
      (subst (λ x. Gives snap series (rows ++ r ∷ []) (ids ++ id_by next (get_or given n.number None) ∷ []) (given_by given n.number next (get_or given n.number None)) x n) (sym t) (gives_row r n known))))
