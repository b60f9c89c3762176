-- The parts of an extent in front of a step and behind one: they are lawful, and know what the extent knows.
use Rattle.std.proofs.Common.{◌≡◌, ℕ, ◌+◌, ◌-◌, ◌/◌, ◌%◌, ◌≤◌, ◌<◌, Bool, true, false, cond, ◌&&◌, Option, Some, List, [], ◌∷◌, ◌++◌, length, take, drop, refl, sym, ap, ◌∙◌, arith}
use Rattle.std.specs.Prelude.{nat_lt, nat_le, nat_eq, slice_index_or}
use Rattle.std.proofs.lemmas.Bool.{and_from, and_parts, eq-eqb, eqb-true, le-leb, leb-true, lt-ltb, ltb-false, ltb-true}
use Rattle.std.proofs.lemmas.List.{get_or-drop, get_or-take, length-drop, length-take-le}
use Rattle.pf_model.specs.declared.cell.Element.{Element}
use Rattle.pf_extent.specs.declared.extent.Extent.{Extent}
use Rattle.pf_extent.specs.Steps.{IsLawful, Known, has_step, known_of}
use Rattle.pf_extent.specs.Combining.{back_part, front_part}
use Rattle.pf_extent.proofs.Multiples.{is_near, multiple_before, next_multiple, next_quotient, quotient_between}

pub has : (t : ℕ) (e : Extent) → e.first ≤ t → t ≤ e.last → t % e.step ≡ 0 → has_step t e ≡ true
has t e a b m = and_from _ _ (and_from _ _ (le-leb e.first t a) (le-leb t e.last b)) (eq-eqb (t % e.step) 0 m)

pub step_of : (t : ℕ) (e : Extent) → has_step t e ≡ true → (e.first ≤ t) × (t ≤ e.last) × (t % e.step ≡ 0)
step_of t e h =
    let p = and_parts (nat_le e.first t && nat_le t e.last) (nat_eq (t % e.step) 0) h in
    let q = and_parts (nat_le e.first t) (nat_le t e.last) p.0 in
    (leb-true e.first t q.0, leb-true t e.last q.1, eqb-true (t % e.step) 0 p.1)

pub same_tests : (b c : Bool) → (b ≡ true → c ≡ true) → (c ≡ true → b ≡ true) → b ≡ c
same_tests true c f g = sym (f refl)
same_tests false true f g = g refl
same_tests false false f g = refl

-- an extent in place of another one, at a step that they know the same of
pub chosen : {X : Type 0} (b c : Bool) (x y z : X) → b ≡ c → (c ≡ true → x ≡ y) → cond b x z ≡ cond c y z
chosen b true x y z e f = ap (λ v. cond v x z) e ∙ f refl
chosen b false x y z e f = ap (λ v. cond v x z) e

-- ---- the part in front

abbrev pub front_of : ℕ → Extent → Extent
front_of t e = record e { last = t - e.step; cells = take ((t - e.first) / e.step) e.cells }

-- a step stands below the number of all
pub place_within : (t : ℕ) (e : Extent) → IsLawful e → t % e.step ≡ 0 → e.first ≤ t → t ≤ e.last → (t - e.first) / e.step < length e.cells
place_within t e h m a b =
    let x = quotient_between e.step e.first t h.distance h.first m a in
    let y = quotient_between e.step e.first e.last h.distance h.first h.last h.order in
    let z = quotient_between e.step t e.last h.distance m h.last b in
    omega (arith, x.1, y.1, x.0, y.0, z.0, h.count)

pub front_lawful : (t : ℕ) (e : Extent) → IsLawful e → t % e.step ≡ 0 → e.first < t → t ≤ e.last → IsLawful (front_of t e)
front_lawful t e h m a b =
    let near : e.first + e.step ≤ t = is_near e.step e.first t h.first m a in
    let many : length (take ((t - e.first) / e.step) e.cells) ≡ (t - e.first) / e.step = length-take-le _ e.cells (omega (arith, place_within t e h m (omega (arith, a)) b)) in
    let apart : t - e.first ≡ (t - e.step - e.first) + e.step = omega (arith, near) in
    record {
      distance = h.distance;
      first = h.first;
      last = multiple_before e.step t (omega (arith, near)) m;
      order = omega (arith, near);
      count = many ∙ ap (λ k. k / e.step) apart ∙ next_quotient e.step (t - e.step - e.first) h.distance;
    }

front_known : (t u : ℕ) (e : Extent) → IsLawful e → t % e.step ≡ 0 → u % e.step ≡ 0 → e.first ≤ u → u < t → known_of u (front_of t e) ≡ known_of u e
front_known t u e h m n a b =
    let x = quotient_between e.step e.first t h.distance h.first m (omega (arith, a, b)) in
    let y = quotient_between e.step e.first u h.distance h.first n a in
    let z = quotient_between e.step (u + e.step) t h.distance (next_multiple e.step u n) m (is_near e.step u t n m b) in
    let place : (u - e.first) / e.step < (t - e.first) / e.step = omega (arith, x.1, y.1, x.0, y.0, z.0, next_quotient e.step u h.distance) in
    let of_cell : List Element → Known = λ c. record { pin = e.pin; generation = e.generation; cell = c } in
    ap of_cell (get_or-take ((t - e.first) / e.step) e.cells ((u - e.first) / e.step) [] place)

-- what the part in front knows of a step, and where it has none what is known else
front_by : (t u : ℕ) (e : Extent) (other : Option Known) (p q : Bool) → nat_lt e.last t ≡ p → nat_lt e.first t ≡ q → IsLawful e → t % e.step ≡ 0
    → cond p (cond (has_step u e) (Some (known_of u e)) other) (cond q (cond (has_step u (front_of t e)) (Some (known_of u (front_of t e))) other) other)
    ≡ cond (has_step u e && nat_lt u t) (Some (known_of u e)) other
front_by t u e other true q i j h m =
    let behind : e.last < t = ltb-true e.last t i in
    chosen (has_step u e) (has_step u e && nat_lt u t) _ _ _
    (same_tests _ _ (λ s. and_from _ _ s (lt-ltb u t (omega (arith, (step_of u e s).1, behind)))) (λ s. (and_parts _ _ s).0))
    (λ s. refl)
front_by t u e other false true i j h m =
    let begins : e.first < t = ltb-true e.first t j in
    let ends : t ≤ e.last = ltb-false e.last t i in
    let near : e.first + e.step ≤ t = is_near e.step e.first t h.first m begins in
    chosen (has_step u (front_of t e)) (has_step u e && nat_lt u t) _ _ _
    (same_tests _ _
    (λ s.
    let x = step_of u (front_of t e) s in
    and_from _ _ (has u e x.0 (omega (arith, x.1, ends)) x.2) (lt-ltb u t (omega (arith, x.1, near, h.distance))))
    (λ s.
    let y = and_parts (has_step u e) (nat_lt u t) s in
    let x = step_of u e y.0 in
    let there : u + e.step ≤ t = is_near e.step u t x.2 m (ltb-true u t y.1) in
    has u (front_of t e) x.0 (omega (arith, there)) x.2))
    (λ s.
    let y = and_parts (has_step u e) (nat_lt u t) s in
    let x = step_of u e y.0 in
    ap Some (front_known t u e h m x.2 x.0 (ltb-true u t y.1)))
front_by t u e other false false i j h m =
    let begins : t ≤ e.first = ltb-false e.first t j in
    chosen false (has_step u e && nat_lt u t) (Some (known_of u e)) (Some (known_of u e)) other
    (same_tests _ _ (λ s. cc)
    (λ s.
    let y = and_parts (has_step u e) (nat_lt u t) s in
    absurd (omega (arith, (step_of u e y.0).0, ltb-true u t y.1, begins))))
    (λ s. refl)

-- ---- the part behind

abbrev pub back_of : ℕ → Extent → Extent
back_of t e = record e { first = t + e.step; cells = drop ((t - e.first) / e.step + 1) e.cells }

-- how many steps there are up to it
pub back_count : (t : ℕ) (e : Extent) → IsLawful e → t % e.step ≡ 0 → e.first ≤ t → t < e.last → (t - e.first) / e.step + 1 + ((e.last - (t + e.step)) / e.step + 1) ≡ length e.cells
back_count t e h m a b =
    let near : t + e.step ≤ e.last = is_near e.step t e.last m h.last b in
    let x = quotient_between e.step e.first t h.distance h.first m a in
    let y = quotient_between e.step e.first e.last h.distance h.first h.last h.order in
    let z = quotient_between e.step (t + e.step) e.last h.distance (next_multiple e.step t m) h.last near in
    let w : (t + e.step) / e.step ≡ t / e.step + 1 = next_quotient e.step t h.distance in
    omega (arith, x.1, y.1, z.1, x.0, y.0, z.0, w, h.count)

pub back_lawful : (t : ℕ) (e : Extent) → IsLawful e → t % e.step ≡ 0 → e.first ≤ t → t < e.last → IsLawful (back_of t e)
back_lawful t e h m a b =
    let near : t + e.step ≤ e.last = is_near e.step t e.last m h.last b in
    record {
      distance = h.distance;
      first = next_multiple e.step t m;
      last = h.last;
      order = near;
      count = length-drop ((t - e.first) / e.step + 1) e.cells ∙ omega (arith, back_count t e h m a b);
    }

back_known : (t u : ℕ) (e : Extent) → IsLawful e → t % e.step ≡ 0 → u % e.step ≡ 0 → e.first ≤ t → t < u → known_of u (back_of t e) ≡ known_of u e
back_known t u e h m n a b =
    let near : t + e.step ≤ u = is_near e.step t u m n b in
    let x = quotient_between e.step e.first t h.distance h.first m a in
    let y = quotient_between e.step e.first u h.distance h.first n (omega (arith, a, b)) in
    let z = quotient_between e.step (t + e.step) u h.distance (next_multiple e.step t m) n near in
    let w : (t + e.step) / e.step ≡ t / e.step + 1 = next_quotient e.step t h.distance in
    let place : (t - e.first) / e.step + 1 + (u - (t + e.step)) / e.step ≡ (u - e.first) / e.step = omega (arith, x.1, y.1, z.1, x.0, y.0, z.0, w) in
    let of_cell : List Element → Known = λ c. record { pin = e.pin; generation = e.generation; cell = c } in
    ap of_cell (get_or-drop ((t - e.first) / e.step + 1) e.cells ((u - (t + e.step)) / e.step) [] ∙ ap (λ k. slice_index_or e.cells k []) place)

back_by : (t u : ℕ) (e : Extent) (other : Option Known) (p q : Bool) → nat_lt t e.first ≡ p → nat_lt t e.last ≡ q → IsLawful e → t % e.step ≡ 0
    → cond p (cond (has_step u e) (Some (known_of u e)) other) (cond q (cond (has_step u (back_of t e)) (Some (known_of u (back_of t e))) other) other)
    ≡ cond (has_step u e && nat_lt t u) (Some (known_of u e)) other
back_by t u e other true q i j h m =
    let begins : t < e.first = ltb-true t e.first i in
    chosen (has_step u e) (has_step u e && nat_lt t u) _ _ _
    (same_tests _ _ (λ s. and_from _ _ s (lt-ltb t u (omega (arith, (step_of u e s).0, begins)))) (λ s. (and_parts _ _ s).0))
    (λ s. refl)
back_by t u e other false true i j h m =
    let begins : e.first ≤ t = ltb-false t e.first i in
    let ends : t < e.last = ltb-true t e.last j in
    chosen (has_step u (back_of t e)) (has_step u e && nat_lt t u) _ _ _
    (same_tests _ _
    (λ s.
    let x = step_of u (back_of t e) s in
    and_from _ _ (has u e (omega (arith, x.0, begins)) x.1 x.2) (lt-ltb t u (omega (arith, x.0, h.distance))))
    (λ s.
    let y = and_parts (has_step u e) (nat_lt t u) s in
    let x = step_of u e y.0 in
    let there : t + e.step ≤ u = is_near e.step t u m x.2 (ltb-true t u y.1) in
    has u (back_of t e) there x.1 x.2))
    (λ s.
    let y = and_parts (has_step u e) (nat_lt t u) s in
    let x = step_of u e y.0 in
    ap Some (back_known t u e h m x.2 begins (ltb-true t u y.1)))
back_by t u e other false false i j h m =
    let ends : e.last ≤ t = ltb-false t e.last j in
    chosen false (has_step u e && nat_lt t u) (Some (known_of u e)) (Some (known_of u e)) other
    (same_tests _ _ (λ s. cc)
    (λ s.
    let y = and_parts (has_step u e) (nat_lt t u) s in
    absurd (omega (arith, (step_of u e y.0).1, ltb-true t u y.1, ends))))
    (λ s. refl)

-- ---- either part as a list

abbrev pub known_or : ℕ → List Extent → Option Known → Option Known
known_or u [] other = other
known_or u (e ∷ es) other = cond (has_step u e) (Some (known_of u e)) (known_or u es other)

parts_or : (u : ℕ) (e x : Extent) (es : List Extent) (other : Option Known) (p q : Bool)
    → known_or u (cond p (e ∷ []) (cond q (x ∷ []) []) ++ es) other
    ≡ cond p (cond (has_step u e) (Some (known_of u e)) (known_or u es other)) (cond q (cond (has_step u x) (Some (known_of u x)) (known_or u es other)) (known_or u es other))
parts_or u e x es other true q = refl
parts_or u e x es other false true = refl
parts_or u e x es other false false = refl

pub front_or : (t u : ℕ) (e : Extent) (es : List Extent) (other : Option Known) → IsLawful e → t % e.step ≡ 0
    → known_or u (front_part t e ++ es) other ≡ cond (has_step u e && nat_lt u t) (Some (known_of u e)) (known_or u es other)
front_or t u e es other h m =
    parts_or u e (front_of t e) es other (nat_lt e.last t) (nat_lt e.first t)
    ∙ front_by t u e (known_or u es other) (nat_lt e.last t) (nat_lt e.first t) refl refl h m

pub back_or : (t u : ℕ) (e : Extent) (es : List Extent) (other : Option Known) → IsLawful e → t % e.step ≡ 0
    → known_or u (back_part t e ++ es) other ≡ cond (has_step u e && nat_lt t u) (Some (known_of u e)) (known_or u es other)
back_or t u e es other h m =
    parts_or u e (back_of t e) es other (nat_lt t e.first) (nat_lt t e.last)
    ∙ back_by t u e (known_or u es other) (nat_lt t e.first) (nat_lt t e.last) refl refl h m

-- a part of an extent, of its own steps alone
pub record IsPartOf (e x : Extent) : Type 0 where
  pub lawful : IsLawful x
  pub step : x.step ≡ e.step
  pub first : e.first ≤ x.first
  pub last : x.last ≤ e.last

-- no part, or one that meets a condition
abbrev pub AtMostOne : (Extent → Type 0) → List Extent → Type 0
AtMostOne P [] = Unit {0}
AtMostOne P (x ∷ []) = P x
AtMostOne P (x ∷ y ∷ zs) = ⊥

pub front_is : (t : ℕ) (e : Extent) → IsLawful e → t % e.step ≡ 0 → AtMostOne (λ x. IsPartOf e x × (x.last < t)) (front_part t e)
front_is t e h m = by (nat_lt e.last t) (nat_lt e.first t) refl refl
  where
    by : (p q : Bool) → nat_lt e.last t ≡ p → nat_lt e.first t ≡ q → AtMostOne (λ x. IsPartOf e x × (x.last < t)) (cond p (e ∷ []) (cond q (front_of t e ∷ []) []))
    by true q i j = (record { lawful = h; step = refl; first = omega arith; last = omega arith }, ltb-true e.last t i)
    by false true i j =
        let begins : e.first < t = ltb-true e.first t j in
        let ends : t ≤ e.last = ltb-false e.last t i in
        let near : e.first + e.step ≤ t = is_near e.step e.first t h.first m begins in
        (record { lawful = front_lawful t e h m begins ends; step = refl; first = omega arith; last = omega (arith, ends) }, omega (arith, near, h.distance))
    by false false i j = tt

pub back_is : (t : ℕ) (e : Extent) → IsLawful e → t % e.step ≡ 0 → AtMostOne (λ x. IsPartOf e x × (t < x.first)) (back_part t e)
back_is t e h m = by (nat_lt t e.first) (nat_lt t e.last) refl refl
  where
    by : (p q : Bool) → nat_lt t e.first ≡ p → nat_lt t e.last ≡ q → AtMostOne (λ x. IsPartOf e x × (t < x.first)) (cond p (e ∷ []) (cond q (back_of t e ∷ []) []))
    by true q i j = (record { lawful = h; step = refl; first = omega arith; last = omega arith }, ltb-true t e.first i)
    by false true i j =
        let begins : e.first ≤ t = ltb-false t e.first i in
        let ends : t < e.last = ltb-true t e.last j in
        (record { lawful = back_lawful t e h m begins ends; step = refl; first = omega (arith, begins); last = omega arith }, omega (arith, h.distance))
    by false false i j = tt
