-- What a deletion leaves of a snapshot.
use Rattle.std.proofs.Common.{◌≡◌, ℕ, zero, suc, ◌+◌, ℤ, pos, Bool, true, false, cond, ◌&&◌, ◌||◌, not, List, [], ◌∷◌, length, get_or, refl, sym, ap, ◌∙◌, arith, Some, None, Option, nat_eq, nat_le}
use Rattle.std.specs.Prelude.{int_lt}
use Rattle.std.specs.Ordering.{int_eq}
use Rattle.std.specs.List.{list_any, filter}
use Rattle.std.proofs.lemmas.Bool.Decides.{Decides-int_eq, nat_tests}
use Rattle.std.proofs.lemmas.Int.{ints}
use Rattle.pf_base.specs.declared.plain.Row.{Row}
use Rattle.pf_base.specs.declared.plain.Sample.{Sample}
use Rattle.pf_base.specs.LabelSets.{Pairs}
use Rattle.pf_block.specs.Samples.{value_at, is_outside}
use Rattle.pf_block.specs.SeriesIds.{id_of}
use Rattle.pf_block.specs.Snaps.{SnapData, held_by, samples_of, cut_from, without_rows}
use Rattle.pf_model.specs.Log.{left_by}
use Rattle.pf_model.specs.Selection.{accepts}
use Rattle.pf_model.specs.declared.expr.Matcher.{Matcher}
use Rattle.pf_store.proofs.Holding.{removes, left_held}
use Rattle.pf_store.proofs.Snapshots.{found}
use Rattle.pf_store.specs.Standing.{IsAlike, StandsFor, AreAccepted}

abbrev pub outside : ℤ → ℤ → ℤ → Bool
outside from to time = int_lt time from || int_lt to time

kept_by : (from to : ℤ) (x : Sample) (xs : List Sample) (time : ℤ) (v : Bool) → int_eq x.time time ≡ true → value_at (filter (is_outside from to) xs) time ≡ cond v (value_at xs time) None →
    value_at (cond v (x ∷ filter (is_outside from to) xs) (filter (is_outside from to) xs)) time ≡ cond v (Some x.value) None
kept_by from to x xs time true e h = ap (λ b. cond b (Some x.value) (value_at (filter (is_outside from to) xs) time)) e
kept_by from to x xs time false e h = h

past_by : (from to : ℤ) (x : Sample) (xs : List Sample) (time : ℤ) (v : Bool) → int_eq x.time time ≡ false →
    value_at (cond v (x ∷ filter (is_outside from to) xs) (filter (is_outside from to) xs)) time ≡ value_at (filter (is_outside from to) xs) time
past_by from to x xs time true e = ap (λ b. cond b (Some x.value) (value_at (filter (is_outside from to) xs) time)) e
past_by from to x xs time false e = refl

value_by : (from to : ℤ) (x : Sample) (xs : List Sample) (time : ℤ) (b : Bool) → int_eq x.time time ≡ b → value_at (filter (is_outside from to) xs) time ≡ cond (outside from to time) (value_at xs time) None →
    value_at (filter (is_outside from to) (x ∷ xs)) time ≡ cond (outside from to time) (cond b (Some x.value) (value_at xs time)) None
value_by from to x xs time true e h =
    ap (λ b. value_at (cond b (x ∷ filter (is_outside from to) xs) (filter (is_outside from to) xs)) time) (ap (outside from to) ((Decides-int_eq x.time time).0 e))
    ∙ kept_by from to x xs time (outside from to time) e h
value_by from to x xs time false e h = past_by from to x xs time (is_outside from to x) e ∙ h

value_outside : (from to : ℤ) (xs : List Sample) (time : ℤ) → value_at (filter (is_outside from to) xs) time ≡ cond (outside from to time) (value_at xs time) None
value_outside from to [] time = elim (outside from to time) as (λ b. ◌≡◌ {A = Option ℤ} None (cond {A = Option ℤ} b None None)) [ true ↦ refl | false ↦ refl ]
value_outside from to (x ∷ xs) time = value_by from to x xs time (int_eq x.time time) refl (value_outside from to xs time)

cut_at : (first : ℕ) (ids : List ℕ) (from to : ℤ) (xss : List (List Sample)) (k : ℕ) →
    get_or (cut_from first ids from to xss) k [] ≡ cond (list_any (nat_eq (first + k)) ids) (filter (is_outside from to) (get_or xss k [])) (get_or xss k [])
cut_at first ids from to [] k =
    elim (list_any (nat_eq (first + k)) ids) as (λ b. ◌≡◌ {A = List Sample} [] (cond {A = List Sample} b [] [])) [ true ↦ refl | false ↦ refl ]
cut_at first ids from to (xs ∷ xss) zero = ap (λ n. cond (list_any (nat_eq n) ids) (filter (is_outside from to) xs) xs) (let q : first ≡ first + 0 = omega arith in q)
cut_at first ids from to (xs ∷ xss) (suc k) =
    cut_at (first + 1) ids from to xss k
    ∙ ap (λ n. cond (list_any (nat_eq n) ids) (filter (is_outside from to) (get_or xss k [])) (get_or xss k [])) (let q : first + 1 + k ≡ first + suc k = omega arith in q)

between : (from to t : ℕ) → outside (pos from) (pos to) (pos t) ≡ not (nat_le from t && nat_le t to)
between from to t = grind (arith, nat_tests, ints)

turned : (b : Bool) (v : Option ℤ) → cond (not b) v None ≡ cond b None v
turned true v = refl
turned false v = refl

cut_value : (ms : List Matcher) (l : Pairs) (from to t : ℕ) (xs : List Sample) (b : Bool) →
    value_at (cond b (filter (is_outside (pos from) (pos to)) xs) xs) (pos t) ≡ cond (b && (nat_le from t && nat_le t to)) None (value_at xs (pos t))
cut_value ms l from to t xs true =
    value_outside (pos from) (pos to) xs (pos t) ∙ ap (λ c. cond c (value_at xs (pos t)) None) (between from to t) ∙ turned (nat_le from t && nat_le t to) (value_at xs (pos t))
cut_value ms l from to t xs false = refl

held_without : (s : SnapData) (ms : List Matcher) (ids : List ℕ) (from to : ℕ) (l : Pairs) (t : ℕ) (o : Option ℕ) → id_of l s.labels ≡ o → AreAccepted ms s ids →
    held_by (without_rows s ids from to) o t ≡ cond (removes ms from to l t) None (held_by s o t)
held_without s ms ids from to l t None e w = elim (removes ms from to l t) as (λ b. ◌≡◌ {A = Option ℤ} None (cond {A = Option ℤ} b None None)) [ true ↦ refl | false ↦ refl ]
held_without s ms ids from to l t (Some k) e w =
    let f = found l s.labels k e in
    let a : list_any (nat_eq (0 + k)) ids ≡ accepts ms l =
    (ap (λ n. list_any (nat_eq n) ids) (let q : 0 + k ≡ k = omega arith in q) ∙ w k f.within ∙ ap (accepts ms) f.same) in
    ap (λ xs. value_at xs (pos t)) (cut_at 0 ids (pos from) (pos to) s.samples k ∙ ap (λ b. cond b (filter (is_outside (pos from) (pos to)) (samples_of s k)) (samples_of s k)) a)
    ∙ cut_value ms l from to t (samples_of s k) (accepts ms l)

pub stands_without : (s : SnapData) (ms : List Matcher) (ids : List ℕ) (from to : ℕ) (xs : List Row) → IsAlike s → AreAccepted ms s ids → StandsFor s xs → StandsFor (without_rows s ids from to) (left_by ms from to xs)
stands_without s ms ids from to xs a w f l t =
    held_without s ms ids from to l t (id_of l s.labels) refl w ∙ ap (λ o. cond (removes ms from to l t) None o) (f l t) ∙ sym (left_held ms from to xs l t)

length_cut : (first : ℕ) (ids : List ℕ) (from to : ℤ) (xss : List (List Sample)) → length (cut_from first ids from to xss) ≡ length xss
length_cut first ids from to [] = refl
length_cut first ids from to (xs ∷ xss) = ap suc (length_cut (first + 1) ids from to xss)

pub alike_without : (s : SnapData) (ids : List ℕ) (from to : ℕ) → IsAlike s → IsAlike (without_rows s ids from to)
alike_without s ids from to a = length_cut 0 ids (pos from) (pos to) s.samples ∙ a
