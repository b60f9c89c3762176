-- The open queries that are kept go with those of the machine.
use Rattle.std.proofs.Common.{◌≡◌, ℕ, ◌<◌, inl, inr, false, nat_eq, Option, Some, None, List, [], ◌∷◌, ◌++◌, refl, sym, arith, subst}
use Rattle.std.proofs.lemmas.Bool.Decides.{nat_tests}
use Rattle.pf_journal.specs.Machine.{Open, open_at, cancelled_at, closed}
use Rattle.pf_model.specs.Lists.{Each}
use Rattle.pf_core.specs.States.{IsKept, IsQuery, KeepsQueries, with_query, with_cancel, without_query}
use Rattle.pf_core.specs.declared.query.Query.{Query}
use Rattle.pf_core.proofs.Machines.{bool_cases, cancelled_as, open_at_cancelled, open_at_cancelled_other, open_at_closed, open_at_closed_same, open_at_pushed, open_at_pushed_other}
use Rattle.pf_model.specs.Log.{Rules}

-- a query that is kept with what the machine has of it
pub record Matched (rules : Rules) (kept : Option Query) (o : Open) : Type 0 where
  pub query : Query
  pub there : kept ≡ Some query
  pub is : IsQuery rules query o

pub kept_some : (rules : Rules) (k : Option Query) (found : Option Open) (o : Open) → IsKept rules k found → found ≡ Some o → Matched rules k o
kept_some rules None None o h e = cc
kept_some rules None (Some p) o h e = absurd h
kept_some rules (Some q) None o h e = absurd h
kept_some rules (Some q) (Some p) o h e =
    let same : p ≡ o = cc in record { query = q; there = refl; is = subst (IsQuery rules q) same h }

pub kept_none : (rules : Rules) (k : Option Query) (found : Option Open) → IsKept rules k found → k ≡ None → found ≡ None
kept_none rules None None h e = refl
kept_none rules None (Some p) h e = absurd h
kept_none rules (Some q) found h e = cc

-- what the machine has of a query that is kept
pub record Standing (rules : Rules) (q : Query) (found : Option Open) : Type 0 where
  pub opened : Open
  pub there : found ≡ Some opened
  pub is : IsQuery rules q opened

pub kept_is : (rules : Rules) (k : Option Query) (found : Option Open) (q : Query) → IsKept rules k found → k ≡ Some q → Standing rules q found
kept_is rules None found q h e = cc
kept_is rules (Some p) None q h e = absurd h
kept_is rules (Some p) (Some o) q h e =
    let same : p ≡ q = cc in record { opened = o; there = refl; is = subst (λ (x : Query). IsQuery rules x o) same h }

pub keeps_opened : (rules : Rules) (n : ℕ) (kept : ℕ → Option Query) (qs : List Open) (q : Query) (o : Open)
    → KeepsQueries rules kept qs → Each (λ p. p.place < n) qs → IsQuery rules q o → o.place ≡ n
    → KeepsQueries rules (with_query kept n q) (qs ++ o ∷ [])
keeps_opened rules n kept qs q o h below is place p = elim (bool_cases (nat_eq n p)) [
  | inl t ↦
      let same : p ≡ n = grind (arith, nat_tests, t) in
      let found : open_at p (qs ++ o ∷ []) ≡ Some o =
      subst (λ x. open_at x (qs ++ o ∷ []) ≡ Some o) (sym same) (open_at_pushed qs n o below place) in
      rw t (rw found is)
  | inr t ↦
      let apart : nat_eq o.place p ≡ false = grind (arith, nat_tests, t, place) in
      rw t (rw (open_at_pushed_other qs p o apart) (h p))
]

pub keeps_cancelled : (rules : Rules) (query place : ℕ) (kept : ℕ → Option Query) (qs : List Open) (o : Open)
    → KeepsQueries rules kept qs → open_at query qs ≡ Some o → KeepsQueries rules (with_cancel kept query place) (cancelled_at place query qs)
keeps_cancelled rules query place kept qs o h found p = elim (bool_cases (nat_eq query p)) [
  | inl t ↦
      let same : query ≡ p = grind (arith, nat_tests, t) in
      let here : open_at p qs ≡ Some o = subst (λ x. open_at x qs ≡ Some o) same found in
      let matched = kept_some rules (kept p) (open_at p qs) o (h p) here in
      let after : open_at p (cancelled_at place query qs) ≡ Some (cancelled_as place o) =
      subst (λ x. open_at x (cancelled_at place query qs) ≡ Some (cancelled_as place o)) same (open_at_cancelled place query qs o found) in
      rw t (rw after (rw matched.there (record {
        tenant = matched.is.tenant;
        asked = matched.is.asked;
        pinned = matched.is.pinned;
        cancelled = refl;
      })))
  | inr t ↦ rw t (rw (open_at_cancelled_other place query p qs t) (h p))
]

pub keeps_answered : (rules : Rules) (query : ℕ) (kept : ℕ → Option Query) (qs : List Open)
    → KeepsQueries rules kept qs → KeepsQueries rules (without_query kept query) (closed query qs)
keeps_answered rules query kept qs h p = elim (bool_cases (nat_eq query p)) [
  | inl t ↦
      let same : query ≡ p = grind (arith, nat_tests, t) in
      let none : open_at p (closed query qs) ≡ None = subst (λ x. open_at x (closed query qs) ≡ None) same (open_at_closed_same query qs) in
      rw t (rw none tt)
  | inr t ↦
      rw t (rw (open_at_closed query p qs (λ e. grind (arith, nat_tests, t, e))) (h p))
]
