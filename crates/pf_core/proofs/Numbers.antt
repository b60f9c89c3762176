-- The numbers of tenants are found by their names.
use Rattle.std.proofs.Common.{◌≡◌, ℕ, inl, inr, true, false, cond, Option, Some, None, List, [], ◌∷◌, ◌++◌, ◌<◌, length, sym, ap, ◌∙◌, arith, slice_get, subst, MatchOption}
use Rattle.std.proofs.lemmas.Option.{slice_get_within}
use Rattle.std.proofs.lemmas.Map.Text.{hash_map_updates_text}
use Rattle.std.proofs.lemmas.Slice.Eq.{bytes_eq-Decides}
use Rattle.std.specs.HashMap.{HashMap, Updates, get_by_text}
use Rattle.std.specs.Prelude.{String, string_bytes, string_eq}
use Rattle.std.specs.Str.{bytes_eq}
use Rattle.pf_model.specs.Log.{Rules}
use Rattle.pf_store.specs.Standing.{LogData}
use Rattle.pf_core.specs.Seats.{AreTenants, FindsNames, IsFree, IsSeat, IsSeated, IsUnknown, TenantsData}
use Rattle.pf_core.specs.declared.tenants.Seat.{Seat}
use Rattle.pf_core.proofs.Lists.{get_front, get_push, get_pushed}
use Rattle.pf_core.proofs.Machines.{bool_cases}
use Rattle.pf_core.proofs.Seated.{settled_tenants}

-- what is found of another name stays
found_more : (names : List (List ℕ)) (name other : List ℕ) (r : Option ℕ) → bytes_eq name other ≡ false
    → MatchOption r (IsUnknown names other) (λ u. slice_get names u ≡ Some other)
    → MatchOption r (IsUnknown (names ++ name ∷ []) other) (λ u. slice_get (names ++ name ∷ []) u ≡ Some other)
found_more names name other None apart h = λ u g. elim (get_push names name u other g) [
  | inl was ↦ h u was
  | inr new ↦
      let same : bytes_eq name other ≡ true = (bytes_eq-Decides name other).1 (sym new.1) in
      absurd (different (sym same ∙ apart))
] where
  different : true ≡ false → ⊥
  different e = cc
found_more names name other (Some u) apart h = get_front names (name ∷ []) u other h

module _ {X S : Type 0} where
  pub number_found : (names : List (List ℕ)) (numbers : HashMap (String X) ℕ S) (name : List ℕ) (r : Option ℕ)
      → FindsNames names numbers → r ≡ get_by_text numbers name
      → MatchOption r (IsUnknown names name) (λ u. slice_get names u ≡ Some name)
  number_found names numbers name r h e =
      subst (λ (o : Option ℕ). MatchOption o (IsUnknown names name) (λ u. slice_get names u ≡ Some name)) (sym e) (h name)

  finds_more : (names : List (List ℕ)) (old new : HashMap (String X) ℕ S) (key : String X) (name : List ℕ) (number : ℕ)
      → FindsNames names old → string_bytes key ≡ name → number ≡ length names → Updates string_eq old new key (Some number)
      → FindsNames (names ++ name ∷ []) new
  finds_more names old new key name number h is at_end updates other =
      let after = hash_map_updates_text (string_bytes key) old new (Some number) updates other in
      elim (bool_cases (bytes_eq (string_bytes key) other)) [
        | inl t ↦
            let same : string_bytes key ≡ other = (bytes_eq-Decides (string_bytes key) other).0 t in
            let found : get_by_text new other ≡ Some number = after ∙ ap (λ b. cond b (Some number) (get_by_text old other)) t in
            let there : slice_get (names ++ name ∷ []) number ≡ Some other =
            subst (λ k. slice_get (names ++ name ∷ []) k ≡ Some name) (sym at_end) (get_pushed names name)
            ∙ ap (λ (n : List ℕ). Some n) (sym is ∙ same) in
            subst (λ (o : Option ℕ). MatchOption o (IsUnknown (names ++ name ∷ []) other) (λ u. slice_get (names ++ name ∷ []) u ≡ Some other)) (sym found) there
        | inr t ↦
            let found : get_by_text new other ≡ get_by_text old other = after ∙ ap (λ b. cond b (Some number) (get_by_text old other)) t in
            let apart : bytes_eq name other ≡ false = subst (λ (n : List ℕ). bytes_eq n other ≡ false) is t in
            subst (λ (o : Option ℕ). MatchOption o (IsUnknown (names ++ name ∷ []) other) (λ u. slice_get (names ++ name ∷ []) u ≡ Some other)) (sym found)
            (found_more names name other (get_by_text old other) apart (h other))
      ]

  -- the tables with one more tenant
  pub tenant_added : (names ns : List (List ℕ)) (logs ls : List LogData) (counts cs : List ℕ) (old new : HashMap (String X) ℕ S)
      (key : String X) (name : List ℕ) (number : ℕ) (log : LogData) (t : TenantsData) (newcomer : Option (List ℕ))
      → AreTenants (record { names = names; logs = logs; counts = counts }) → FindsNames names old
      → record { names = names; logs = logs; counts = counts } ≡ t → newcomer ≡ Some name
      → IsFree t number newcomer → string_bytes key ≡ name
      → Updates string_eq old new key (Some number)
      → ns ≡ names ++ name ∷ [] → ls ≡ logs ++ log ∷ [] → cs ≡ counts ++ 0 ∷ []
      → AreTenants (record { names = ns; logs = ls; counts = cs }) × FindsNames ns new
  tenant_added names ns logs ls counts cs old new key name number log t newcomer h found view some may is updates en el ec =
      let free : IsFree (record { names = names; logs = logs; counts = counts }) number (Some name) =
      subst (λ (x : TenantsData). IsFree x number (Some name)) (sym view) (subst (λ (o : Option (List ℕ)). IsFree t number o) some may) in
      let tenants = settled_tenants (record { names = names; logs = logs; counts = counts }) number log (Some name) h free in (
        subst (λ (x : List (List ℕ)). AreTenants (record { names = x; logs = ls; counts = cs })) (sym en)
            (subst (λ (x : List LogData). AreTenants (record { names = names ++ name ∷ []; logs = x; counts = cs })) (sym el)
            (subst (λ (x : List ℕ). AreTenants (record { names = names ++ name ∷ []; logs = logs ++ log ∷ []; counts = x })) (sym ec) tenants)),
        subst (λ (x : List (List ℕ)). FindsNames x new) (sym en) (finds_more names old new key name number found is free.0 updates),
      )

-- a known tenant has a log
pub known_log : (t : TenantsData) (name : List ℕ) (u : ℕ) → AreTenants t → slice_get t.names u ≡ Some name → u < length t.logs
known_log t name u h g =
    let inside = slice_get_within t.names u name g in
    let many = h.many_logs in
    omega (arith, inside, many)

pub known_seat : (t : TenantsData) (rules : Rules) (name : List ℕ) (s : Seat)
    → AreTenants t → s.newcomer ≡ None → slice_get t.names s.number ≡ Some name → slice_get t.logs s.number ≡ Some s.log → IsSeat t rules name s
known_seat t rules name s h none named there = record {
  tenants = h;
  free = subst (λ (o : Option (List ℕ)). IsFree t s.number o) (sym none) (slice_get_within t.names s.number name named);
  seated = subst (λ (o : Option (List ℕ)). IsSeated t rules name s.number s.log o) (sym none) (named, there);
}
