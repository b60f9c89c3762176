-- Which ids are among those of accepted series.
use Rattle.std.proofs.Common.{◌≡◌, ℕ, zero, suc, ◌+◌, ◌<◌, Bool, true, false, cond, ◌||◌, List, [], ◌∷◌, length, eqb, refl, sym, ap, ◌∙◌, arith, ne_eqb, nat_eq}
use Rattle.std.specs.Cmp.{nat_eq_equiv}
use Rattle.std.specs.List.{list_any}
use Rattle.std.specs.Ordering.{is_gt}
use Rattle.std.specs.declared.cmp.Ordering.{Ordering}
use Rattle.pf_base.specs.LabelSets.{Pairs}
use Rattle.pf_base.specs.Sorting.{ins, isort}
use Rattle.pf_model.specs.declared.expr.Matcher.{Matcher}
use Rattle.pf_model.specs.Binding.{accepted_from, accepted_ids, accepted_of, series_cmp}
use Rattle.pf_model.specs.Selection.{accepts}
use Rattle.pf_index.specs.Listing.{ids_of, labels_at}

-- ---- a sort keeps the elements

turned : (a b c : Bool) → (b || (a || c)) ≡ (a || (b || c))
turned true true c = refl
turned true false c = refl
turned false b c = refl

module _ {X : Type 0} (R : X → X → Ordering) (t : X → Bool) where
  any_by : (x y : X) (ys : List X) (b : Bool) → list_any t (ins R x ys) ≡ (t x || list_any t ys) → list_any t (cond b (y ∷ ins R x ys) (x ∷ y ∷ ys)) ≡ (t x || (t y || list_any t ys))
  any_by x y ys true e = ap (λ b. t y || b) e ∙ turned (t x) (t y) (list_any t ys)
  any_by x y ys false e = refl

  any_ins : (x : X) (ys : List X) → list_any t (ins R x ys) ≡ (t x || list_any t ys)
  any_ins x [] = refl
  any_ins x (y ∷ ys) = any_by x y ys (is_gt (R x y)) (any_ins x ys)

  any_isort : (xs : List X) → list_any t (isort R xs) ≡ list_any t xs
  any_isort [] = refl
  any_isort (x ∷ xs) = any_ins x (isort R xs) ∙ ap (λ b. t x || b) (any_isort xs)

-- ---- the accepted series

abbrev has_id : ℕ → Pairs × ℕ → Bool
has_id id e = eqb id e.1

any_id : (id : ℕ) (es : List (Pairs × ℕ)) → list_any (eqb id) (ids_of es) ≡ list_any (has_id id) es
any_id id [] = refl
any_id id (e ∷ es) = ap (λ b. eqb id e.1 || b) (any_id id es)

other : (id first : ℕ) → id < first → eqb id first ≡ false
other id first h = ne_eqb id first (λ e. omega (arith, e, h))

none_by : (id first : ℕ) (l : Pairs) (es : List (Pairs × ℕ)) (b : Bool) → eqb id first ≡ false → list_any (has_id id) es ≡ false → list_any (has_id id) (cond b ((l, first) ∷ es) es) ≡ false
none_by id first l es true e h = ap (λ b. b || list_any (has_id id) es) e ∙ h
none_by id first l es false e h = h

none_from : (id first : ℕ) (ms : List Matcher) (ls : List Pairs) → id < first → list_any (has_id id) (accepted_from first ms ls) ≡ false
none_from id first ms [] h = refl
none_from id first ms (l ∷ ls) h = none_by id first l (accepted_from (first + 1) ms ls) (accepts ms l) (other id first h) (none_from id (first + 1) ms ls (omega (arith, h)))

first_by : (id : ℕ) (l : Pairs) (es : List (Pairs × ℕ)) (b : Bool) → eqb id id ≡ true → list_any (has_id id) es ≡ false → list_any (has_id id) (cond b ((l, id) ∷ es) es) ≡ b
first_by id l es true e h = ap (λ b. b || list_any (has_id id) es) e
first_by id l es false e h = h

rest_by : (id first : ℕ) (l : Pairs) (es : List (Pairs × ℕ)) (b : Bool) → eqb id first ≡ false → list_any (has_id id) (cond b ((l, first) ∷ es) es) ≡ list_any (has_id id) es
rest_by id first l es true e = ap (λ b. b || list_any (has_id id) es) e
rest_by id first l es false e = refl

own : (n : ℕ) → eqb n n ≡ true
own n = nat_eq_equiv.refl n

any_from : (first k : ℕ) (ms : List Matcher) (ls : List Pairs) → k < length ls → list_any (has_id (first + k)) (accepted_from first ms ls) ≡ accepts ms (labels_at ls k)
any_from first k ms [] h = absurd (omega (arith, h))
any_from first zero ms (l ∷ ls) h =
    let e : first + zero ≡ first = omega arith in
    ap (λ n. list_any (has_id n) (accepted_from first ms (l ∷ ls))) e
    ∙ first_by first l (accepted_from (first + 1) ms ls) (accepts ms l) (own first) (none_from first (first + 1) ms ls (omega arith))
any_from first (suc k) ms (l ∷ ls) h =
    let e : first + suc k ≡ (first + 1) + k = omega arith in
    rest_by (first + suc k) first l (accepted_from (first + 1) ms ls) (accepts ms l) (ne_eqb (first + suc k) first (λ d. omega (arith, d)))
    ∙ ap (λ n. list_any (has_id n) (accepted_from (first + 1) ms ls)) e
    ∙ any_from (first + 1) k ms ls (omega (arith, h))

pub any_accepted : (ms : List Matcher) (ls : List Pairs) (id : ℕ) → id < length ls → list_any (eqb id) (ids_of (accepted_of ms ls)) ≡ accepts ms (labels_at ls id)
any_accepted ms ls id h =
    any_id id (accepted_of ms ls)
    ∙ ap (λ n. list_any (has_id n) (accepted_of ms ls)) (let e : id ≡ 0 + id = omega arith in e)
    ∙ any_from 0 id ms ls h

-- an id is selected where its series is accepted
pub any_selected : (ms : List Matcher) (ls : List Pairs) (id : ℕ) → id < length ls → list_any (nat_eq id) (accepted_ids ms ls) ≡ accepts ms (labels_at ls id)
any_selected ms ls id h =
    any_id id (isort series_cmp (accepted_of ms ls)) ∙ any_isort series_cmp (has_id id) (accepted_of ms ls)
    ∙ sym (any_id id (accepted_of ms ls)) ∙ any_accepted ms ls id h
