-- What a list of extents knows of each step once a new extent is in it.
use Rattle.std.proofs.Common.{◌≡◌, ℕ, zero, suc, ◌%◌, ◌≤◌, ◌<◌, ◌⊎◌, inl, inr, Bool, true, false, cond, ◌&&◌, Option, None, Some, List, [], ◌∷◌, ◌++◌, drop, refl, sym, ap, ◌∙◌, arith}
use Rattle.std.specs.Prelude.{nat_eq, nat_lt}
use Rattle.std.proofs.lemmas.Bool.{leb-false, leb-true, ltb-false, ltb-true, true≢false}
use Rattle.pf_model.specs.Lists.{Each, joined}
use Rattle.pf_extent.specs.declared.extent.Extent.{Extent}
use Rattle.pf_extent.specs.Steps.{AreApart, AreSpaced, Divides, IsBehind, IsLawful, Known, has_begun, has_step, known_at, known_of}
use Rattle.pf_extent.specs.Combining.{around, back_part, front_part, known_still, known_with, of_generation, with_extent}
use Rattle.pf_extent.proofs.Parts.{back_or, front_or, has, known_or, step_of}
use Rattle.pf_extent.proofs.ApartLists.{apart_filter, each_drop, each_filter}

is_known_or : (u : ℕ) (es : List Extent) → known_at u es ≡ known_or u es None
is_known_or u [] = refl
is_known_or u (e ∷ es) = ap (cond (has_step u e) (Some (known_of u e))) (is_known_or u es)

known_at-append : (u : ℕ) (es fs : List Extent) → known_at u (es ++ fs) ≡ known_or u es (known_at u fs)
known_at-append u [] fs = refl
known_at-append u (e ∷ es) fs = ap (cond (has_step u e) (Some (known_of u e))) (known_at-append u es fs)

known_or-append : (u : ℕ) (es fs : List Extent) (other : Option Known) → known_or u (es ++ fs) other ≡ known_or u es (known_or u fs other)
known_or-append u [] fs other = refl
known_or-append u (e ∷ es) fs other = ap (cond (has_step u e) (Some (known_of u e))) (known_or-append u es fs other)

spread : {X : Type 0} (h b : Bool) (x y z : X) → cond (h && b) x (cond b y z) ≡ cond b (cond h x y) z
spread true true x y z = refl
spread true false x y z = refl
spread false true x y z = refl
spread false false x y z = refl

nothing_else : {X : Type 0} (b : Bool) (x : X) → x ≡ cond b x x
nothing_else true x = refl
nothing_else false x = refl

-- ---- the parts of all extents

fronts_or : (t u : ℕ) (es : List Extent) (other : Option Known) → Each (Divides t) es
    → known_or u (joined (front_part t) es) other ≡ cond (nat_lt u t) (known_or u es other) other
fronts_or t u [] other a = nothing_else (nat_lt u t) other
fronts_or t u (e ∷ es) other a =
    front_or t u e (joined (front_part t) es) other a.0.0 a.0.1
    ∙ ap (cond (has_step u e && nat_lt u t) (Some (known_of u e))) (fronts_or t u es other a.1)
    ∙ spread (has_step u e) (nat_lt u t) (Some (known_of u e)) (known_or u es other) other

backs_or : (t u : ℕ) (es : List Extent) (other : Option Known) → Each (Divides t) es
    → known_or u (joined (back_part t) es) other ≡ cond (nat_lt t u) (known_or u es other) other
backs_or t u [] other a = nothing_else (nat_lt t u) other
backs_or t u (e ∷ es) other a =
    back_or t u e (joined (back_part t) es) other a.0.0 a.0.1
    ∙ ap (cond (has_step u e && nat_lt t u) (Some (known_of u e))) (backs_or t u es other a.1)
    ∙ spread (has_step u e) (nat_lt t u) (Some (known_of u e)) (known_or u es other) other

-- ---- steps that none has

pub not_there : (b : Bool) → (b ≡ true → ⊥) → b ≡ false
not_there true h = absurd (h refl)
not_there false h = refl

known_none : (u : ℕ) (es : List Extent) → Each (λ e. has_step u e ≡ false) es → known_at u es ≡ None
known_none u [] a = refl
known_none u (e ∷ es) a = ap (λ b. cond b (Some (known_of u e)) (known_at u es)) a.0 ∙ known_none u es a.1

none_off : (u s : ℕ) (es : List Extent) → (u % s ≡ 0 → ⊥) → AreSpaced s es → Each (λ e. has_step u e ≡ false) es
none_off u s [] h a = tt
none_off u s (e ∷ es) h a =
    (not_there (has_step u e) (λ p. h (ap (λ k. u % k) (sym a.0) ∙ (step_of u e p).2)), none_off u s es h a.1)

pub none_before : (u : ℕ) (e : Extent) (es : List Extent) → u ≤ e.last → Each (IsBehind e) es → Each (λ x. has_step u x ≡ false) es
none_before u e [] h a = tt
none_before u e (x ∷ es) h a =
    (not_there (has_step u x) (λ p. absurd (omega (arith, (step_of u x p).0, a.0.apart, h))), none_before u e es h a.1)

-- ---- extents of one generation

still_by : (g u : ℕ) (e : Extent) (es : List Extent) (p q : Bool) → nat_eq e.generation g ≡ p → has_step u e ≡ q
    → known_at u (of_generation g es) ≡ known_still g (known_at u es)
    → (q ≡ true → known_at u es ≡ None)
    → known_at u (cond p (e ∷ of_generation g es) (of_generation g es)) ≡ known_still g (cond q (Some (known_of u e)) (known_at u es))
still_by g u e es true true i j k n = ap (λ b. cond b (Some (known_of u e)) (known_at u (of_generation g es))) j ∙ sym (ap (λ b. cond b (Some (known_of u e)) None) i)
still_by g u e es true false i j k n = ap (λ b. cond b (Some (known_of u e)) (known_at u (of_generation g es))) j ∙ k
still_by g u e es false true i j k n = k ∙ ap (known_still g) (n refl) ∙ sym (ap (λ b. cond b (Some (known_of u e)) None) i)
still_by g u e es false false i j k n = k

still_known : (g u : ℕ) (es : List Extent) → AreApart es → known_at u (of_generation g es) ≡ known_still g (known_at u es)
still_known g u [] a = refl
still_known g u (e ∷ es) a =
    still_by g u e es (nat_eq e.generation g) (has_step u e) refl refl (still_known g u es a.2)
    (λ h. known_none u es (none_before u e es (step_of u e h).1 a.1))

-- ---- with the new extent

pub divides : (t s : ℕ) (es : List Extent) → t % s ≡ 0 → AreApart es → AreSpaced s es → Each (Divides t) es
divides t s [] m a b = tt
divides t s (e ∷ es) m a b = ((a.0, ap (λ k. t % k) b.0 ∙ m), divides t s es m a.2 b.1)

-- where the new extent has the step or not, and whether it is in front of it or behind
put_by : (new : Extent) (u : ℕ) (es : List Extent) (k : Option Known) (p q h : Bool)
    → nat_lt u new.first ≡ p → nat_lt new.last u ≡ q → has_step u new ≡ h → IsLawful new → (u % new.step ≡ 0 → ⊥) ⊎ (u % new.step ≡ 0)
    → ((u % new.step ≡ 0 → ⊥) → k ≡ None)
    → cond p (cond true k None) (cond h (Some (known_of u new)) (cond q k None)) ≡ cond h (Some (known_of u new)) k
put_by new u es k true q true i j e l c n = absurd (omega (arith, (step_of u new e).0, ltb-true u new.first i))
put_by new u es k true q false i j e l c n = refl
put_by new u es k false true true i j e l c n = absurd (omega (arith, (step_of u new e).1, ltb-true new.last u j))
put_by new u es k false true false i j e l c n = refl
put_by new u es k false false true i j e l c n = refl
put_by new u es k false false false i j e l (inl off) n = sym (n off)
put_by new u es k false false false i j e l (inr on) n =
    let there : has_step u new ≡ true = has u new (ltb-false u new.first i) (ltb-false new.last u j) on in
    absurd (true≢false (sym there ∙ e))

-- what is known in front of the new extent where it has no step
front_or_new : (new : Extent) (u : ℕ) (es : List Extent) (k r : Option Known) (p : Bool) → nat_lt u new.first ≡ p
    → known_or u es None ≡ k
    → (p ≡ true → r ≡ None)
    → cond p (known_or u es r) r ≡ cond p (cond true k None) r
front_or_new new u es k r true i h n = ap (known_or u es) (n refl) ∙ h
front_or_new new u es k r false i h n = refl

none_by : (new : Extent) (u : ℕ) (k : Option Known) (h q : Bool) → u < new.first → IsLawful new → has_step u new ≡ h → nat_lt new.last u ≡ q
    → cond h (Some (known_of u new)) (cond q k None) ≡ None
none_by new u k true q b l i j = absurd (omega (arith, (step_of u new i).0, b))
none_by new u k false true b l i j = absurd (omega (arith, ltb-true new.last u j, b, l.order))
none_by new u k false false b l i j = refl

around_known : (new : Extent) (u : ℕ) (es : List Extent) → IsLawful new → AreApart es → AreSpaced new.step es
    → known_at u (around es new) ≡ cond (has_step u new) (Some (known_of u new)) (known_at u es)
around_known new u es l a b =
    let k : Option Known = known_at u es in
    let rest : Option Known = cond (has_step u new) (Some (known_of u new)) (cond (nat_lt new.last u) k None) in
    let behind : known_at u (joined (back_part new.last) es) ≡ cond (nat_lt new.last u) k None =
    is_known_or u (joined (back_part new.last) es)
    ∙ backs_or new.last u es None (divides new.last new.step es l.last a b)
    ∙ ap (λ o. cond (nat_lt new.last u) o None) (sym (is_known_or u es)) in
    known_at-append u (joined (front_part new.first) es) (new ∷ joined (back_part new.last) es)
    ∙ ap (known_or u (joined (front_part new.first) es)) (ap (cond (has_step u new) (Some (known_of u new))) behind)
    ∙ fronts_or new.first u es rest (divides new.first new.step es l.first a b)
    ∙ front_or_new new u es k rest (nat_lt u new.first) refl (sym (is_known_or u es))
    (λ i. none_by new u k (has_step u new) (nat_lt new.last u) (ltb-true u new.first i) l refl refl)
    ∙ put_by new u es k (nat_lt u new.first) (nat_lt new.last u) (has_step u new) refl refl refl l (decided (u % new.step))
    (λ off. known_none u es (none_off u new.step es off b))
  where
    decided : (n : ℕ) → (n ≡ 0 → ⊥) ⊎ (n ≡ 0)
    decided zero = inr refl
    decided (suc n) = inl (λ e. absurd (omega (arith, e)))

pub with_known : (new : Extent) (es : List Extent) → IsLawful new → AreApart es → AreSpaced new.step es → (u : ℕ)
    → known_at u (with_extent es new) ≡ known_with es new u
with_known new es l a b u =
    around_known new u (of_generation new.generation es) l
    (apart_filter (λ e. nat_eq e.generation new.generation) es a)
    (each_filter (λ e. e.step ≡ new.step) (λ e. nat_eq e.generation new.generation) es b)
    ∙ ap (cond (has_step u new) (Some (known_of u new))) (still_known new.generation u es a)

-- ---- what is left once some of the first are dropped

starts : (u : ℕ) (es : List Extent) (b : Bool) → has_begun u es ≡ b → AreApart es → known_at u es ≡ cond b (known_at u es) None
starts u es true h a = refl
starts u [] false h a = refl
starts u (e ∷ es) false h a =
    let before : u < e.first = leb-false e.first u h in
    known_none u (e ∷ es) (
      not_there (has_step u e) (λ p. absurd (omega (arith, (step_of u e p).0, before))),
      none_before u e es (omega (arith, before, a.0.order)) a.1,
    )

begun_behind : (u : ℕ) (e : Extent) (es : List Extent) → Each (IsBehind e) es → has_begun u es ≡ true → e.last < u
begun_behind u e [] a h = cc
begun_behind u e (x ∷ es) a h = omega (arith, a.0.apart, leb-true x.first u h)

drop_one : (u : ℕ) (e : Extent) (es fs : List Extent) (b : Bool) → has_begun u fs ≡ b → Each (IsBehind e) fs → cond b (known_at u es) None ≡ cond b (known_at u (e ∷ es)) None
drop_one u e es fs false h a = refl
drop_one u e es fs true h a =
    let behind : e.last < u = begun_behind u e fs a h in
    let off : has_step u e ≡ false = not_there (has_step u e) (λ p. absurd (omega (arith, (step_of u e p).1, behind))) in
    ap (λ b. cond b (Some (known_of u e)) (known_at u es)) (sym off)

pub drop_known : (n u : ℕ) (es : List Extent) → AreApart es → known_at u (drop n es) ≡ cond (has_begun u (drop n es)) (known_at u es) None
drop_known zero u es a = starts u es (has_begun u es) refl a
drop_known (suc n) u [] a = refl
drop_known (suc n) u (e ∷ es) a =
    drop_known n u es a.2 ∙ drop_one u e es (drop n es) (has_begun u (drop n es)) refl (each_drop (IsBehind e) n es a.1)
