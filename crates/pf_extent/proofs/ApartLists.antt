-- Lists of extents that are apart: parts of theirs are, and so is a list with a new extent in place of its steps.
use Rattle.std.proofs.Common.{◌≡◌, ℕ, zero, suc, ◌-◌, ◌%◌, ◌<◌, Bool, true, false, cond, List, [], ◌∷◌, ◌++◌, length, drop, refl, sym, ap, ◌∙◌, arith}
use Rattle.std.specs.Prelude.{◌↔◌, IsTrue, Some, filter, nat_eq, slice_get}
use Rattle.std.proofs.lemmas.Bool.{eq-eqb, eqb-true}
use Rattle.std.proofs.lemmas.List.{length-drop}
use Rattle.pf_model.specs.Lists.{Each, joined}
use Rattle.pf_columns.proofs.Eaches.{each_append, each_joined, each_so, each_some}
use Rattle.pf_extent.specs.declared.extent.Extent.{Extent}
use Rattle.pf_extent.specs.Steps.{AreApart, AreSpaced, IsBehind, IsKept, IsLawful}
use Rattle.pf_extent.specs.Combining.{around, back_part, combined, front_part, of_generation, with_extent}
use Rattle.pf_extent.proofs.Parts.{AtMostOne, IsPartOf, back_is, front_is}

-- ---- what is left of a list

module _ (P : Extent → Type 0) where
  pub each_filter : (p : Extent → Bool) (es : List Extent) → Each P es → Each P (filter p es)
  each_filter p [] a = tt
  each_filter p (e ∷ es) a = each_some P e (filter p es) (p e) a.0 (each_filter p es a.1)

  pub each_drop : (n : ℕ) (es : List Extent) → Each P es → Each P (drop n es)
  each_drop zero es a = a
  each_drop (suc n) [] a = tt
  each_drop (suc n) (e ∷ es) a = each_drop n es a.1

apart_some : (e : Extent) (es : List Extent) (b : Bool) → IsLawful e → Each (IsBehind e) es → AreApart es → AreApart (cond b (e ∷ es) es)
apart_some e es true l h a = (l, h, a)
apart_some e es false l h a = a

pub apart_filter : (p : Extent → Bool) (es : List Extent) → AreApart es → AreApart (filter p es)
apart_filter p [] a = tt
apart_filter p (e ∷ es) a = apart_some e (filter p es) (p e) a.0 (each_filter (IsBehind e) p es a.1) (apart_filter p es a.2)

pub apart_drop : (n : ℕ) (es : List Extent) → AreApart es → AreApart (drop n es)
apart_drop zero es a = a
apart_drop (suc n) [] a = tt
apart_drop (suc n) (e ∷ es) a = apart_drop n es a.2

pub each_lawful : (es : List Extent) → AreApart es → Each IsLawful es
each_lawful [] a = tt
each_lawful (e ∷ es) a = (a.0, each_lawful es a.2)

-- ---- lists behind one another

apart_append : (xs ys : List Extent) → AreApart xs → AreApart ys → Each (λ x. Each (IsBehind x) ys) xs → AreApart (xs ++ ys)
apart_append [] ys a b h = b
apart_append (x ∷ xs) ys a b h = (a.0, each_append (IsBehind x) xs ys a.1 h.0, apart_append xs ys a.2 b h.1)

-- ---- the parts of each

each_of_one : (P Q : Extent → Type 0) (xs : List Extent) → ((x : Extent) → P x → Q x) → AtMostOne P xs → Each Q xs
each_of_one P Q [] f h = tt
each_of_one P Q (x ∷ []) f h = (f x h, tt)
each_of_one P Q (x ∷ y ∷ zs) f h = absurd h

apart_of_one : (e : Extent) (xs : List Extent) → AtMostOne (IsPartOf e) xs → AreApart xs
apart_of_one e [] h = tt
apart_of_one e (x ∷ []) h = (h.lawful, tt, tt)
apart_of_one e (x ∷ y ∷ zs) h = absurd h

one_of_one : (P Q : Extent → Type 0) (xs : List Extent) → ((x : Extent) → P x → Q x) → AtMostOne P xs → AtMostOne Q xs
one_of_one P Q [] f h = tt
one_of_one P Q (x ∷ []) f h = f x h
one_of_one P Q (x ∷ y ∷ zs) f h = absurd h

parts_behind : (e x g y : Extent) → IsPartOf e x → IsPartOf g y → IsBehind e g → IsBehind x y
parts_behind e x g y p q h = record { step = q.step ∙ h.step ∙ sym p.step; apart = omega (arith, p.last, h.apart, q.first) }

module _ (part : Extent → List Extent) (P : Extent → Type 0) (is : (e : Extent) → P e → AtMostOne (IsPartOf e) (part e)) where
  behind_parts : (e x : Extent) (gs : List Extent) → IsPartOf e x → Each P gs → Each (IsBehind e) gs → Each (IsBehind x) (joined part gs)
  behind_parts e x [] p a b = tt
  behind_parts e x (g ∷ gs) p a b =
      each_append (IsBehind x) (part g) (joined part gs)
      (each_of_one (IsPartOf g) (IsBehind x) (part g) (λ y q. parts_behind e x g y p q b.0) (is g a.0))
      (behind_parts e x gs p a.1 b.1)

  pub parts_apart : (es : List Extent) → Each P es → AreApart es → AreApart (joined part es)
  parts_apart [] a h = tt
  parts_apart (e ∷ es) a h =
      apart_append (part e) (joined part es)
      (apart_of_one e (part e) (is e a.0))
      (parts_apart es a.1 h.2)
      (each_of_one (IsPartOf e) (λ x. Each (IsBehind x) (joined part es)) (part e) (λ x p. behind_parts e x es p a.1 h.1) (is e a.0))

  module _ (Q : Extent → Type 0) (so : (e : Extent) → P e → Each Q (part e)) where
    pub each_part : (es : List Extent) → Each P es → Each Q (joined part es)
    each_part es a = each_joined Q part es (each_so P (λ e. Each Q (part e)) es so a)

-- ---- the list with a new extent

-- a lawful extent whose steps are at a distance
abbrev IsAt : ℕ → Extent → Type 0
IsAt s e = IsLawful e × (e.step ≡ s)

each_at : (s : ℕ) (es : List Extent) → AreApart es → AreSpaced s es → Each (IsAt s) es
each_at s [] a b = tt
each_at s (e ∷ es) a b = ((a.0, b.0), each_at s es a.2 b.1)

multiple_at : (t : ℕ) (s : ℕ) (e : Extent) → t % s ≡ 0 → e.step ≡ s → t % e.step ≡ 0
multiple_at t s e m h = ap (λ k. t % k) h ∙ m

module _ (new : Extent) (l : IsLawful new) where
  front_at : (e : Extent) → IsAt new.step e → AtMostOne (λ x. IsPartOf e x × (x.last < new.first)) (front_part new.first e)
  front_at e h = front_is new.first e h.0 (multiple_at new.first new.step e l.first h.1)

  back_at : (e : Extent) → IsAt new.step e → AtMostOne (λ x. IsPartOf e x × (new.last < x.first)) (back_part new.last e)
  back_at e h = back_is new.last e h.0 (multiple_at new.last new.step e l.last h.1)

  front_part_is : (e : Extent) → IsAt new.step e → AtMostOne (IsPartOf e) (front_part new.first e)
  front_part_is e h = one_of_one (λ x. IsPartOf e x × (x.last < new.first)) (IsPartOf e) (front_part new.first e) (λ x p. p.0) (front_at e h)

  back_part_is : (e : Extent) → IsAt new.step e → AtMostOne (IsPartOf e) (back_part new.last e)
  back_part_is e h = one_of_one (λ x. IsPartOf e x × (new.last < x.first)) (IsPartOf e) (back_part new.last e) (λ x p. p.0) (back_at e h)

  -- in front of the new extent, and behind it
  abbrev InFront : Extent → Type 0
  InFront x = (x.step ≡ new.step) × (x.last < new.first)

  abbrev AtBack : Extent → Type 0
  AtBack x = (x.step ≡ new.step) × (new.last < x.first)

  each_front : (es : List Extent) → Each (IsAt new.step) es → Each InFront (joined (front_part new.first) es)
  each_front es a =
      each_part (front_part new.first) (IsAt new.step) front_part_is InFront
      (λ e h. each_of_one (λ x. IsPartOf e x × (x.last < new.first)) InFront (front_part new.first e) (λ x p. (p.0.step ∙ h.1, p.1)) (front_at e h)) es a

  each_back : (es : List Extent) → Each (IsAt new.step) es → Each AtBack (joined (back_part new.last) es)
  each_back es a =
      each_part (back_part new.last) (IsAt new.step) back_part_is AtBack
      (λ e h. each_of_one (λ x. IsPartOf e x × (new.last < x.first)) AtBack (back_part new.last e) (λ x p. (p.0.step ∙ h.1, p.1)) (back_at e h)) es a

  around_apart : (es : List Extent) → AreApart es → AreSpaced new.step es → AreApart (around es new)
  around_apart es a b =
      let at : Each (IsAt new.step) es = each_at new.step es a b in
      let backs : List Extent = joined (back_part new.last) es in
      let back : Each AtBack backs = each_back es at in
      apart_append (joined (front_part new.first) es) (new ∷ backs)
      (parts_apart (front_part new.first) (IsAt new.step) front_part_is es at a) (
        l,
        each_so AtBack (IsBehind new) backs (λ y q. record { step = q.0; apart = q.1 }) back,
        parts_apart (back_part new.last) (IsAt new.step) back_part_is es at a,
      )
      (each_so InFront (λ x. Each (IsBehind x) (new ∷ backs)) (joined (front_part new.first) es)
      (λ x p. (
        record { step = sym p.0; apart = p.1 },
        each_so AtBack (IsBehind x) backs (λ y q. record { step = q.0 ∙ sym p.0; apart = omega (arith, p.1, l.order, q.1) }) back,
      ))
      (each_front es at))

  around_every : (es : List Extent) → AreApart es → AreSpaced new.step es → AreSpaced new.step (around es new)
  around_every es a b =
      let at : Each (IsAt new.step) es = each_at new.step es a b in
      let same : Extent → Type 0 = λ e. e.step ≡ new.step in
      each_append same (joined (front_part new.first) es) (new ∷ joined (back_part new.last) es)
      (each_so InFront same (joined (front_part new.first) es) (λ x p. p.0) (each_front es at))
      (refl, each_so AtBack same (joined (back_part new.last) es) (λ x p. p.0) (each_back es at))

  pub with_apart : (es : List Extent) → AreApart es → AreSpaced new.step es → AreApart (with_extent es new)
  with_apart es a b =
      around_apart (of_generation new.generation es)
      (apart_filter (λ e. nat_eq e.generation new.generation) es a)
      (each_filter (λ e. e.step ≡ new.step) (λ e. nat_eq e.generation new.generation) es b)

  pub combined_kept : (es : List Extent) → AreApart es → AreSpaced new.step es → IsKept (combined es new)
  combined_kept es a b =
      let all : List Extent = with_extent es new in
      record {
        apart = apart_drop (length all - 64) all (with_apart es a b);
        few = omega (arith, length-drop (length all - 64) all);
      }

  pub combined_every : (es : List Extent) → AreApart es → AreSpaced new.step es → AreSpaced new.step (combined es new)
  combined_every es a b =
      let all : List Extent = with_extent es new in
      each_drop (λ e. e.step ≡ new.step) (length all - 64) all
      (around_every (of_generation new.generation es)
      (apart_filter (λ e. nat_eq e.generation new.generation) es a)
      (each_filter (λ e. e.step ≡ new.step) (λ e. nat_eq e.generation new.generation) es b))

-- ---- one distance

pub spaced_as_first : (s : ℕ) (es : List Extent) (e : Extent) → AreApart es → Some e ≡ slice_get es 0 → IsTrue (nat_eq e.step s) ↔ AreSpaced s es
spaced_as_first s [] e a h = cc
spaced_as_first s (x ∷ es) e a h =
    let same : e.step ≡ x.step = let is : e ≡ x = cc in ap (λ y. y.step) is in (
      λ t.
          let at : x.step ≡ s = sym same ∙ eqb-true e.step s t in
          (at, each_so (IsBehind x) (λ y. y.step ≡ s) es (λ y p. p.step ∙ at) a.1),
      λ b. eq-eqb e.step s (same ∙ b.0),
    )
