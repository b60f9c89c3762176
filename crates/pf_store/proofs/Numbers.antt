-- The numbers of a batch's label sets, and the values by number and time.
use Rattle.std.proofs.Common.{◌≡◌, ℕ, ◌+◌, ◌<◌, ℤ, Bool, true, false, cond, ◌&&◌, ◌⊎◌, inl, inr, List, [], ◌∷◌, ◌++◌, refl, sym, ap, ◌∙◌, subst, arith, Some, None, Option, length, nat_eq}
use Rattle.std.specs.Prelude.{IfSome, is_some, if◌then◌else◌}
use Rattle.std.specs.Ordering.{int_eq}
use Rattle.std.specs.HashMap.{HashMap, Updates, get, hash_map_len}
use Rattle.std.proofs.lemmas.Bool.Decides.{nat_tests}
use Rattle.pf_base.specs.declared.plain.Row.{Row}
use Rattle.pf_base.specs.LabelSets.{Pairs}
use Rattle.pf_base.specs.LabelOrder.{labels_decides, labels_eq}
use Rattle.pf_block.specs.SeriesIds.{id_of}
use Rattle.pf_block.specs.Snaps.{SnapData}
use Rattle.pf_model.specs.Log.{compared, differs, held_value, is_taken, repeated}
use Rattle.pf_model.specs.Selection.{same_labels}
use Rattle.pf_store.specs.Keys.{AreIds, Finds, key_eq}
use Rattle.pf_store.specs.declared.taken.Numbered.{Numbered}
use Rattle.pf_store.proofs.Holding.{either, either_none, held_value-append, is_at, is_at_labels, is_at_time, nat_exact, nat_own, same_exact, same_own}
use Rattle.pf_store.proofs.Snapshots.{found}

pub same_some : {X : Type 0} (x y : X) → Some x ≡ Some y → x ≡ y
same_some x y e = cc

pub one_more : (a b : ℕ) (o : Option Numbered) → a ≡ b + (if is_some o then 0 else 1) → o ≡ None → a ≡ b + 1
one_more a b o e n = let g = rw n at e in g

-- ids lie within the snapshot
pub id_within : (o : Option ℕ) (l : Pairs) (ls : List Pairs) → o ≡ id_of l ls → IfSome o (λ k. k < length ls)
id_within None l ls e = tt
id_within (Some k) l ls e = (found l ls k (sym e)).within

-- a row is taken only where no value is held
pub taken_none : (o : Option ℤ) (v : ℤ) → is_taken (compared o v) ≡ true → o ≡ None
taken_none None v h = refl
taken_none (Some x) v h = absurd (by (int_eq x v) h)
  where
    by : (b : Bool) → is_taken (cond b repeated (differs x)) ≡ true → ⊥
    by true h = cc
    by false h = cc

-- ---- a label set that is new

module _ {S : Type 0} (series new : HashMap Pairs Numbered S) (l : Pairs) (n : Numbered) (u : Updates labels_eq series new l (Some n)) where
  pub got : (m : Pairs) (s : Numbered) → get labels_eq new m ≡ Some s → ((l ≡ m) × (n ≡ s)) ⊎ (get labels_eq series m ≡ Some s)
  got m s e = by (labels_eq l m) refl (sym (u.0 m) ∙ e)
    where
      by : (b : Bool) → labels_eq l m ≡ b → cond (labels_eq l m) (Some n) (get labels_eq series m) ≡ Some s → ((l ≡ m) × (n ≡ s)) ⊎ (get labels_eq series m ≡ Some s)
      by true k g = let h = rw k at g in inl ((labels_decides l m).0 k, same_some n s h)
      by false k g = inr (let h = rw k at g in h)

  pub absent : (m : Pairs) → get labels_eq new m ≡ None → get labels_eq series m ≡ None
  absent m e = by (labels_eq l m) refl (sym (u.0 m) ∙ e)
    where
      by : (b : Bool) → labels_eq l m ≡ b → cond (labels_eq l m) (Some n) (get labels_eq series m) ≡ None → get labels_eq series m ≡ None
      by true k g = absurd (let h = rw k at g in cc)
      by false k g = let h = rw k at g in h

  pub ids_number : (snap : SnapData) → AreIds snap series → n.id ≡ id_of l snap.labels → AreIds snap new
  ids_number snap h e = λ m s g. elim (got m s g) [
    | inl p ↦ ap (λ x. x.id) (sym p.1) ∙ e ∙ ap (λ x. id_of x snap.labels) p.0
    | inr q ↦ h m s q
  ]

  pub finds_number : {T : Type 0} (values : HashMap (ℕ × ℕ) ℤ T) (rows : List Row) → Finds series values rows → get labels_eq series l ≡ None → n.number ≡ hash_map_len series → hash_map_len new ≡ hash_map_len series + 1
      → Finds new values rows
  finds_number values rows f e own more = record {
    below = λ m s g. elim (got m s g) [
      | inl p ↦ let a : n.number ≡ s.number = ap (λ x. x.number) p.1 in omega arith
      | inr q ↦ let a = f.below m s q in omega arith
    ];
    apart = λ m o s t g h same. elim (got m s g) [
      | inl p ↦ elim (got o t h) [
        | inl q ↦ sym p.0 ∙ q.0
        | inr q ↦ absurd (let a : n.number ≡ s.number = ap (λ x. x.number) p.1 in let b = f.below o t q in omega arith)
      ]
      | inr p ↦ elim (got o t h) [
        | inl q ↦ absurd (let a : n.number ≡ t.number = ap (λ x. x.number) q.1 in let b = f.below m s p in omega arith)
        | inr q ↦ f.apart m o s t p q same
      ]
    ];
    held = λ m s g time. elim (got m s g) [
      | inl p ↦
          let a : n.number ≡ s.number = ap (λ x. x.number) p.1 in
          f.free s.number time (omega arith) ∙ sym (f.unheld l e time) ∙ ap (λ x. held_value rows x time) p.0
      | inr q ↦ f.held m s q time
    ];
    unheld = λ m g time. f.unheld m (absent m g) time;
    free = λ number time h. f.free number time (omega arith);
  }

-- ---- a row that is taken

module _ {S T : Type 0} (series : HashMap Pairs Numbered S) (values new : HashMap (ℕ × ℕ) ℤ T) (rows : List Row) (r : Row) (n : Numbered) (f : Finds series values rows) (known : get labels_eq series r.labels ≡ Some n)
    (empty : get key_eq values (n.number, r.time) ≡ None) (u : Updates key_eq values new (n.number, r.time) (Some r.value)) where
  same_number : (m : Pairs) (s : Numbered) → get labels_eq series m ≡ Some s → nat_eq n.number s.number ≡ same_labels r.labels m
  same_number m s g = by (same_labels r.labels m) refl
    where
      other : (b : Bool) → nat_eq n.number s.number ≡ b → same_labels r.labels m ≡ false → nat_eq n.number s.number ≡ false
      other false k d = k
      other true k d = absurd (let e = f.apart r.labels m n s known g (nat_exact n.number s.number k) in let p : same_labels r.labels m ≡ true = (ap (same_labels r.labels) (sym e) ∙ same_own r.labels) in let q : true ≡ false = (sym p ∙ d) in cc)

      by : (b : Bool) → same_labels r.labels m ≡ b → nat_eq n.number s.number ≡ same_labels r.labels m
      by true d =
          let e : Some n ≡ Some s = sym known ∙ ap (get labels_eq series) (same_exact r.labels m d) ∙ g in
          ap (λ x. nat_eq n.number x.number) (sym (same_some n s e)) ∙ nat_own n.number ∙ sym d
      by false d = other (nat_eq n.number s.number) refl d ∙ sym d

  held_by : (m : Pairs) (s : Numbered) (time : ℕ) (b : Bool) → get labels_eq series m ≡ Some s → is_at r m time ≡ b →
      cond b (Some r.value) (get key_eq values (s.number, time)) ≡ either (held_value rows m time) (cond b (Some r.value) None)
  held_by m s time true g d =
      let e : Some n ≡ Some s = sym known ∙ ap (get labels_eq series) (is_at_labels r m time d) ∙ g in
      let p : held_value rows m time ≡ None = sym (f.held m s g time) ∙ (λ i. get key_eq values ((sym (same_some n s e) i).number, sym (is_at_time r m time d) i)) ∙ empty in
      sym (ap (λ o. either o (Some r.value)) p)
  held_by m s time false g d = f.held m s g time ∙ sym (either_none (held_value rows m time))

  other_labels : (m : Pairs) (time : ℕ) → get labels_eq series m ≡ None → is_at r m time ≡ false
  other_labels m time g = by (is_at r m time) refl
    where
      by : (b : Bool) → is_at r m time ≡ b → is_at r m time ≡ false
      by false d = d
      by true d = absurd (let e : Some n ≡ None = sym known ∙ ap (get labels_eq series) (is_at_labels r m time d) ∙ g in cc)

  pub finds_row : Finds series new (rows ++ r ∷ [])
  finds_row = record {
    below = f.below;
    apart = f.apart;
    held = λ m s g time.
        u.0 (s.number, time) ∙ ap (λ b. cond (b && nat_eq r.time time) (Some r.value) (get key_eq values (s.number, time))) (same_number m s g)
        ∙ held_by m s time (is_at r m time) g refl ∙ sym (held_value-append rows (r ∷ []) m time);
    unheld = λ m g time.
        held_value-append rows (r ∷ []) m time ∙ ap (λ o. either o (cond (is_at r m time) (Some r.value) None)) (f.unheld m g time)
        ∙ ap (λ b. cond {A = Option ℤ} b (Some r.value) None) (other_labels m time g);
    free = λ number time h.
        let b : nat_eq n.number number ≡ false = (let a = f.below r.labels n known in grind (arith, nat_tests)) in
        u.0 (number, time) ∙ ap (λ b. cond (b && nat_eq r.time time) (Some r.value) (get key_eq values (number, time))) b ∙ f.free number time h;
  }

-- the same, where the row is a copy
pub finds_copy : {S T : Type 0} (series : HashMap Pairs Numbered S) (values new : HashMap (ℕ × ℕ) ℤ T) (rows all : List Row) (r copy : Row) (n : Numbered) → copy ≡ r → all ≡ rows ++ copy ∷ [] → Finds series values rows
    → get labels_eq series r.labels ≡ Some n → None ≡ get key_eq values (n.number, r.time) → Updates key_eq values new (n.number, r.time) (Some r.value) → Finds series new all
finds_copy series values new rows all r copy n c w f k e u =
    subst (Finds series new) (sym (w ∙ ap (λ x. rows ++ x ∷ []) c)) (finds_row series values new rows r n f k (sym e) u)
