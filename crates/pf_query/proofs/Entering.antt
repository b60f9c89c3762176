-- What is kept of one query is changed, and what is told of it. This project's own.
use Rattle.std.proofs.Common.{◌≡◌, ◌∙◌, ℕ, inl, inr, cond, nat_eq, Option, Some, None, refl, sym, ap, subst}
use Rattle.std.specs.Option.{option_map}
use Rattle.pf_query.specs.Entries.{state_of, with_change}
use Rattle.pf_query.specs.Tables.{EntryData, data_of}
use Rattle.pf_query.specs.declared.entry.Entry.{Entry}
use Rattle.pf_query.specs.declared.state.EntryState.{EntryState}
use Rattle.pf_query.proofs.Naming.{eq_apart, eq_same, num_cases}

abbrev pub Raw : Type 0
Raw = ℕ → Option Entry

abbrev pub kept : Raw → ℕ → Option EntryData
kept K p = option_map data_of (K p)

raw_at : (K : Raw) (q : ℕ) (f : Entry → Entry) → with_change q f K q ≡ option_map f (K q)
raw_at K q f = ap (λ b. cond b (option_map f (K q)) (K q)) (eq_same q)

raw_past : (K : Raw) (q p : ℕ) (f : Entry → Entry) → (p ≡ q → ⊥) → with_change q f K p ≡ K p
raw_past K q p f d = ap (λ b. cond b (option_map f (K p)) (K p)) (eq_apart q p (λ e. d (sym e)))

-- nothing is kept of it
pub raw_none : (K L : Raw) (q : ℕ) (f : Entry → Entry) → K q ≡ None → ((p : ℕ) → L p ≡ with_change q f K p) → (p : ℕ) → L p ≡ K p
raw_none K L q f was set p = elim (num_cases p q) [
  | inl t ↦ subst (λ x. L x ≡ K x) (sym t) (set q ∙ raw_at K q f ∙ ap (λ o. option_map f o) was ∙ sym was)
  | inr d ↦ set p ∙ raw_past K q p f d
]

module _ (K L : Raw) (q : ℕ) (f : Entry → Entry) (e : Entry) (was : K q ≡ Some e) (set : (p : ℕ) → L p ≡ with_change q f K p) where
  pub raw_here : L q ≡ Some (f e)
  raw_here = set q ∙ raw_at K q f ∙ ap (λ o. option_map f o) was

  pub raw_else : (p : ℕ) → (p ≡ q → ⊥) → L p ≡ K p
  raw_else p d = set p ∙ raw_past K q p f d

  pub data_here : kept L q ≡ Some (data_of (f e))
  data_here = ap (λ o. option_map data_of o) raw_here

  pub data_else : (p : ℕ) → (p ≡ q → ⊥) → kept L p ≡ kept K p
  data_else p d = ap (λ o. option_map data_of o) (raw_else p d)

  pub data_sets : (p : ℕ) → kept L p ≡ cond (nat_eq q p) (Some (data_of (f e))) (kept K p)
  data_sets p = elim (num_cases p q) [
    | inl t ↦
        subst (λ x. kept L x ≡ cond (nat_eq q x) (Some (data_of (f e))) (kept K x)) (sym t)
        (data_here ∙ sym (ap (λ b. cond b (Some (data_of (f e))) (kept K q)) (eq_same q)))
    | inr d ↦ data_else p d ∙ sym (ap (λ b. cond b (Some (data_of (f e))) (kept K p)) (eq_apart q p (λ t. d (sym t))))
  ]

  -- where what contracts see is as it was
  pub data_keeps : data_of (f e) ≡ data_of e → (p : ℕ) → kept L p ≡ kept K p
  data_keeps s p = elim (num_cases p q) [
    | inl t ↦
        subst (λ x. kept L x ≡ kept K x) (sym t)
        (data_here ∙ ap (λ (x : EntryData). Some x) s ∙ sym (ap (λ o. option_map data_of o) was))
    | inr d ↦ data_else p d
  ]

-- ---- what is told

pub record Told (o : Option Entry) (s : EntryState) : Type 0 where
  pub entry : Entry
  pub was : o ≡ Some entry
  pub is : s ≡ state_of entry

pub told : (o : Option Entry) (s : EntryState) → Some s ≡ option_map state_of o → Told o s
told None s h = cc
told (Some e) s h = let same : s ≡ state_of e = cc in record { entry = e; was = refl; is = same }

pub untold : (o : Option Entry) → None ≡ option_map state_of o → o ≡ None
untold None h = refl
untold (Some e) h = absurd (none_some (state_of e) h) where
  none_some : (s : EntryState) → None ≡ Some s → ⊥
  none_some s k = cc

-- the entry behind what contracts see
pub record Behind (o : Option Entry) (d : EntryData) : Type 0 where
  pub entry : Entry
  pub was : o ≡ Some entry
  pub is : data_of entry ≡ d

pub behind : (o : Option Entry) (d : EntryData) → option_map data_of o ≡ Some d → Behind o d
behind None d h = cc
behind (Some e) d h = let same : data_of e ≡ d = cc in record { entry = e; was = refl; is = same }
