-- Slots: which are empty, and what is kept of a planned query. This project's own.
use Rattle.std.proofs.Common.{◌≡◌, ◌∙◌, ℕ, zero, suc, ◌*◌, ◌<◌, ◌≤◌, Bool, true, false, Option, Some, None, List, [], ◌∷◌, length, map, mul-le-mul, inl, inr, refl, ap, subst, arith, slice_get, slice_set}
use Rattle.pf_base.specs.GridLists.{GridData}
use Rattle.pf_model.specs.Lists.{Each}
use Rattle.pf_model.specs.Trees.{Tree}
use Rattle.pf_shard.specs.Lawful.{IsLawful, ResolvedLegs, leg_count, legs_data}
use Rattle.pf_shard.specs.declared.parts.Part.{Part}
use Rattle.pf_query.specs.Tables.{one_if_empty, wanted}
use Rattle.pf_query.specs.Works.{IsFilled, IsWork, WorkData, empty_slots, filled, handed_out, is_handed, legs_in, offered, planned_work}
use Rattle.pf_extent.specs.declared.done.DoneCells.{DoneCells}
use Rattle.pf_query.specs.declared.slot.Slot.{Slot}
use Rattle.pf_query.specs.declared.slot.Slot.TheVariants.{Empty, Filled, Handed}

pub one_most : (o : Option Slot) → one_if_empty o ≤ 1
one_most None = omega arith
one_most (Some Empty) = omega arith
one_most (Some (Filled p)) = omega arith
one_most (Some Handed) = omega arith

pub wanted_most : (w : Option WorkData) (n : ℕ) → wanted w n ≤ 1
wanted_most None n = omega arith
wanted_most (Some w) n = one_most (slice_get w.slots n)

pub one_is_empty : (o : Option Slot) → 1 ≤ one_if_empty o → o ≡ Some Empty
one_is_empty None h = absurd (omega (arith, h))
one_is_empty (Some Empty) h = refl
one_is_empty (Some (Filled p)) h = absurd (omega (arith, h))
one_is_empty (Some Handed) h = absurd (omega (arith, h))

pub set_filled : (xs : List Slot) (i : ℕ) (p : Part) → one_if_empty (slice_get (slice_set xs i (Filled p)) i) ≡ 0
set_filled [] i p = refl
set_filled (x ∷ xs) zero p = refl
set_filled (x ∷ xs) (suc i) p = set_filled xs i p

pub set_other : (xs : List Slot) (i j : ℕ) (y : Slot) → (j ≡ i → ⊥) → slice_get (slice_set xs i y) j ≡ slice_get xs j
set_other [] i j y d = refl
set_other (x ∷ xs) zero zero y d = absurd (d refl)
set_other (x ∷ xs) zero (suc j) y d = refl
set_other (x ∷ xs) (suc i) zero y d = refl
set_other (x ∷ xs) (suc i) (suc j) y d = set_other xs i j y (λ e. d (ap suc e))

set_length : (xs : List Slot) (i : ℕ) (y : Slot) → length (slice_set xs i y) ≡ length xs
set_length [] i y = refl
set_length (x ∷ xs) zero y = refl
set_length (x ∷ xs) (suc i) y = ap suc (set_length xs i y)

set_each : (P : Slot → Type 0) (xs : List Slot) (i : ℕ) (y : Slot) → Each P xs → P y → Each P (slice_set xs i y)
set_each P [] i y h k = tt
set_each P (x ∷ xs) zero y h k = (k, h.1)
set_each P (x ∷ xs) (suc i) y h k = (h.0, set_each P xs i y h.1 k)

each_get : (P : Slot → Type 0) (xs : List Slot) (i : ℕ) (x : Slot) → Each P xs → slice_get xs i ≡ Some x → P x
each_get P [] i x h e = cc
each_get P (y ∷ xs) zero x h e = let same : y ≡ x = cc in subst P same h.0
each_get P (y ∷ xs) (suc i) x h e = each_get P xs i x h.1 e

pub get_within : (xs : List Slot) (i : ℕ) (x : Slot) → slice_get xs i ≡ Some x → i < length xs
get_within [] i x e = cc
get_within (y ∷ xs) zero x e = omega arith
get_within (y ∷ xs) (suc i) x e = let r = get_within xs i x e in omega (arith, r)

-- a part put into an empty slot
pub work_filled : (w : WorkData) (job : ℕ) (p : Part) → IsWork w → slice_get w.slots job ≡ Some Empty → IsWork (filled job p w)
work_filled w job p h e = record {
  lawful = h.lawful;
  few = h.few;
  many = set_length w.slots job (Filled p) ∙ h.many;
  handed = set_each (λ s. is_handed s ≡ w.given) w.slots job (Filled p) h.handed (each_get (λ s. is_handed s ≡ w.given) w.slots job Empty h.handed e);
}

-- ---- empty slots

empty_length : (n : ℕ) → length (empty_slots n) ≡ n
empty_length zero = refl
empty_length (suc n) = ap suc (empty_length n)

empty_each : (n : ℕ) → Each (λ s. is_handed s ≡ false) (empty_slots n)
empty_each zero = tt
empty_each (suc n) = (refl, empty_each n)

pub empty_within : (m n : ℕ) → n < m → one_if_empty (slice_get (empty_slots m) n) ≡ 1
empty_within zero n h = absurd (omega (arith, h))
empty_within (suc m) zero h = refl
empty_within (suc m) (suc n) h = empty_within m n (omega (arith, h))

pub empty_beyond : (m n : ℕ) → m ≤ n → one_if_empty (slice_get (empty_slots m) n) ≡ 0
empty_beyond zero n h = refl
empty_beyond (suc m) zero h = absurd (omega (arith, h))
empty_beyond (suc m) (suc n) h = empty_beyond m n (omega (arith, h))

pub work_planned : (legs : ResolvedLegs) (runs : List GridData) (cached : List DoneCells) (offered : Bool) → IsLawful (legs_data legs) → length runs ≤ 11001
    → IsWork (planned_work legs runs cached offered)
work_planned legs runs cached offered l f = record {
  lawful = l;
  few = f;
  many = empty_length (length runs * legs_in legs);
  handed = empty_each (length runs * legs_in legs);
}

-- ---- slots that are handed out

pub handed_none : (xs : List Slot) (n : ℕ) → one_if_empty (slice_get (map (λ s. Handed) xs) n) ≡ 0
handed_none [] n = refl
handed_none (x ∷ xs) zero = refl
handed_none (x ∷ xs) (suc n) = handed_none xs n

handed_length : (xs : List Slot) → length (map (λ s. Handed) xs) ≡ length xs
handed_length [] = refl
handed_length (x ∷ xs) = ap suc (handed_length xs)

handed_each : (xs : List Slot) → Each (λ s. is_handed s ≡ true) (map (λ s. Handed) xs)
handed_each [] = tt
handed_each (x ∷ xs) = (refl, handed_each xs)

pub work_handed_out : (w : WorkData) → IsWork w → IsWork (handed_out w)
work_handed_out w h = record {
  lawful = h.lawful;
  few = h.few;
  many = handed_length w.slots ∙ h.many;
  handed = handed_each w.slots;
}

filled_by : (s : Slot) → is_handed s ≡ false → one_if_empty (Some s) ≡ 0 → IsFilled s
filled_by Empty h e = absurd cc
filled_by (Filled p) h e = tt
filled_by Handed h e = absurd cc

-- all are filled where none is empty or handed out
pub all_filled : (xs : List Slot) → Each (λ s. is_handed s ≡ false) xs → ((n : ℕ) → one_if_empty (slice_get xs n) ≡ 0) → Each IsFilled xs
all_filled [] h f = tt
all_filled (x ∷ xs) h f = (filled_by x h.0 (f 0), all_filled xs h.1 (λ n. f (suc n)))

pub work_offered : (w : WorkData) → IsWork w → IsWork (offered w)
work_offered w h = record { lawful = h.lawful; few = h.few; many = h.many; handed = h.handed }

-- ---- how many jobs there are

most_by : (q : Tree) (ns : List ℕ) (s : ℕ) → IsLawful (record { query = q; nodes = ns; shards = s }) → leg_count (record { query = q; nodes = ns; shards = s }) ≤ 256
most_by q [] s h = omega arith
most_by q (n ∷ ns) s (inl e) = cc
most_by q (n ∷ ns) s (inr k) = k.few

pub legs_most : (l : ResolvedLegs) → IsLawful (legs_data l) → legs_in l ≤ 256
legs_most l h = most_by l.resolved.query l.nodes l.shards h

pub jobs_few : (l : ResolvedLegs) (many runs : ℕ) → IsLawful (legs_data l) → runs ≤ 11001 → many ≡ runs * legs_in l → many ≤ 2816256
jobs_few l many runs h f e =
    let m = legs_most l h in
    let p : runs * legs_in l ≤ 11001 * 256 = mul-le-mul f m in omega (arith, e, p)
