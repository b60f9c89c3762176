-- The parts of a query over runs.
use Rattle.std.proofs.Common.{◌≡◌, ◌⊎◌, inl, inr, ℕ, zero, suc, ◌+◌, ◌-◌, ◌*◌, ◌/◌, ◌<◌, ◌≤◌, Option, None, Some, List, [], ◌∷◌, ◌++◌, IsSome, length, get_or, drop, take, refl, sym, ap, ◌∙◌, arith, subst, length-append}
use Rattle.std.specs.Arc.{arc_value}
use Rattle.std.specs.List.{slice_get}
use Rattle.std.proofs.lemmas.Bool.{cases_lt}
use Rattle.std.proofs.lemmas.List.{drop-drop, get_or-drop, get_or-take, length-drop, length-take, length-take-le, length_push}
use Rattle.std.proofs.lemmas.Nat.{div-mul-add, mod-mul-add}
use Rattle.std.proofs.lemmas.Option.{get_or_from_slice_get, slice_get-get_or, slice_get_within}
use Rattle.std.proofs.Math.ListN.{get_or-append}
use Rattle.std.proofs.Math.Nat.{add-mul, mul-le-mul, one-mul}
use Rattle.std.proofs.Math.Seq.{get_or-append_seam, take-add}
use Rattle.pf_base.specs.GridLists.{GridData}
use Rattle.pf_base.specs.LabelSets.{Pairs}
use Rattle.pf_base.specs.declared.plain.Row.{Row}
use Rattle.pf_block.specs.Snaps.{SnapData}
use Rattle.pf_core.specs.Calls.{IsPartOf, StandsForAsk}
use Rattle.pf_core.specs.Cores.{CoreData, machine_of}
use Rattle.pf_core.specs.Jobs.{AreParts, IsValueOver}
use Rattle.pf_front.proofs.Progress.{some_is}
use Rattle.pf_front.specs.Settling.{AreFirstParts, AreLegValues, AreMergeable, HasParts}
use Rattle.pf_journal.specs.Machine.{Open, open_at}
use Rattle.pf_model.specs.Lists.{Each}
use Rattle.pf_model.specs.Log.{AreApart, rules_of, store_of}
use Rattle.pf_query.specs.declared.gathered.Gathered.{Gathered}
use Rattle.pf_query.specs.declared.job.Held.{Held}
use Rattle.pf_shard.specs.Bound.{AreEvaluable, IsBoundOver}
use Rattle.pf_shard.specs.LegParts.{FitsNodes}
use Rattle.pf_shard.specs.Lawful.{ResolvedData, ResolvedLegs, leg_count, legs_data}
use Rattle.pf_shard.specs.declared.parts.Part.{Part}
use Rattle.pf_store.specs.Standing.{StandsFor}

pub one_more : (k n : ℕ) → (k + 1) * n ≡ k * n + n
one_more k n = add-mul k 1 n ∙ ap (λ (m : ℕ). k * n + m) (one-mul n)

-- ---- lists of one

module _ {X : Type 0} where
  -- an element of a list with one more is the last, or was there
  pub got_more : (xs : List X) (x y : X) (i : ℕ) → slice_get (xs ++ x ∷ []) i ≡ Some y
      → ((i ≡ length xs) × (x ≡ y)) ⊎ (slice_get xs i ≡ Some y)
  got_more xs x y i e = by (cases_lt i (length xs)) where
    within : i < length (xs ++ x ∷ [])
    within = slice_get_within (xs ++ x ∷ []) i y e

    by : (i < length xs) ⊎ (length xs ≤ i) → ((i ≡ length xs) × (x ≡ y)) ⊎ (slice_get xs i ≡ Some y)
    by (inl lt) =
        inr (slice_get-get_or xs i y lt
        ∙ ap (λ (z : X). Some z) (sym (get_or-append xs (x ∷ []) y i lt) ∙ get_or_from_slice_get (xs ++ x ∷ []) i y y e))
    by (inr le) =
        let most = within in
        let last : i ≡ length xs = omega (arith, most, le, length-append xs (x ∷ [])) in
        let at : slice_get (xs ++ x ∷ []) (length xs) ≡ Some y = subst (λ (k : ℕ). slice_get (xs ++ x ∷ []) k ≡ Some y) last e in
        inl (last, sym (get_or-append_seam xs x [] y) ∙ get_or_from_slice_get (xs ++ x ∷ []) (length xs) y y at)

  -- an element of two lists is in the first, or in the second
  pub got_append : (xs ys : List X) (i : ℕ) (y : X) → slice_get (xs ++ ys) i ≡ Some y
      → ((i < length xs) × (slice_get xs i ≡ Some y)) ⊎ ((j : ℕ) × (i ≡ length xs + j) × (slice_get ys j ≡ Some y))
  got_append [] ys i y e = let all : i ≡ 0 + i = omega arith in inr (i, all, e)
  got_append (x ∷ xs) ys zero y e = inl (omega arith, e)
  got_append (x ∷ xs) ys (suc i) y e = by (got_append xs ys i y e) where
    by : ((i < length xs) × (slice_get xs i ≡ Some y)) ⊎ ((j : ℕ) × (i ≡ length xs + j) × (slice_get ys j ≡ Some y))
        → ((suc i < length (x ∷ xs)) × (slice_get xs i ≡ Some y)) ⊎ ((j : ℕ) × (suc i ≡ length (x ∷ xs) + j) × (slice_get ys j ≡ Some y))
    by (inl (h, f)) = inl (omega (arith, h), f)
    by (inr (j, p, f)) = inr (j, omega (arith, p), f)

  -- an element of the first n of what is behind m
  pub got_taken : (n m : ℕ) (xs : List X) (i : ℕ) (x : X) → slice_get (take n (drop m xs)) i ≡ Some x → (i < n) × (slice_get xs (m + i) ≡ Some x)
  got_taken n m xs i x e =
      let within = slice_get_within (take n (drop m xs)) i x e in
      let few : i < n = omega (arith, within, length-take n (drop m xs)) in
      let inside : m + i < length xs = omega (arith, within, length-take n (drop m xs), length-drop m xs) in
      let is : get_or xs (m + i) x ≡ x =
      sym (get_or-drop m xs i x) ∙ sym (get_or-take n (drop m xs) i x few) ∙ get_or_from_slice_get (take n (drop m xs)) i x x e in
      (few, slice_get-get_or xs (m + i) x inside ∙ ap (λ (y : X). Some y) is)

  -- the first that is left is taken
  pub taken_more : (n : ℕ) (xs taken left behind : List X) (x : X) → taken ≡ take n xs → left ≡ drop n xs → left ≡ x ∷ behind
      → (taken ++ x ∷ [] ≡ take (n + 1) xs) × (behind ≡ drop (n + 1) xs)
  taken_more n xs taken left behind x is rest front =
      let there : drop n xs ≡ x ∷ behind = sym rest ∙ front in (
        ap (λ (ys : List X). ys ++ x ∷ []) is ∙ ap (λ (ys : List X). take n xs ++ take 1 ys) (sym there) ∙ sym (take-add n 1 xs),
        ap (drop 1) (sym there) ∙ drop-drop 1 n xs,
      )

  pub each_taken : (P : X → Type 0) (n : ℕ) (xs : List X) → Each P xs → Each P (take n xs)
  each_taken P zero xs h = tt
  each_taken P (suc n) [] h = tt
  each_taken P (suc n) (x ∷ xs) h = (h.0, each_taken P n xs h.1)

  pub each_dropped : (P : X → Type 0) (n : ℕ) (xs : List X) → Each P xs → Each P (drop n xs)
  each_dropped P zero xs h = h
  each_dropped P (suc n) [] h = tt
  each_dropped P (suc n) (x ∷ xs) h = each_dropped P n xs h.1

  pub each_more : (P : X → Type 0) (xs : List X) (x : X) → Each P xs → P x → Each P (xs ++ x ∷ [])
  each_more P [] x h p = (p, tt)
  each_more P (y ∷ ys) x h p = (h.0, each_more P ys x h.1 p)

-- ---- run by run

-- the parts of a run are those of its legs
pub own_values : (samples : List Row) (legs : ResolvedLegs) (runs : List GridData) (parts own : List Part) (n : ℕ) (run : GridData)
    → own ≡ take (leg_count (legs_data legs)) (drop (n * leg_count (legs_data legs)) parts) → slice_get runs n ≡ Some run → AreLegValues samples legs runs parts
    → (i : ℕ) (part : Part) → slice_get own i ≡ Some part → IsValueOver samples (legs_data legs) i run part
own_values samples legs runs parts own n run is here all i part e =
    let got = got_taken (leg_count (legs_data legs)) (n * leg_count (legs_data legs)) parts i part (subst (λ (ps : List Part). slice_get ps i ≡ Some part) is e) in
    let place : slice_get runs ((n * leg_count (legs_data legs) + i) / leg_count (legs_data legs)) ≡ Some run =
    subst (λ (k : ℕ). slice_get runs k ≡ Some run) (sym (div-mul-add n (leg_count (legs_data legs)) i got.0)) here in
    subst (λ (k : ℕ). IsValueOver samples (legs_data legs) k run part) (mod-mul-add n (leg_count (legs_data legs)) i got.0)
    (all (n * leg_count (legs_data legs) + i) run part place got.1)

-- there are as many parts left as a run has
pub enough_left : (legs : ResolvedLegs) (runs : List GridData) (parts left : List Part) (n : ℕ) → n < length runs → AreMergeable legs runs parts
    → left ≡ drop (n * leg_count (legs_data legs)) parts → leg_count (legs_data legs) ≤ length left
enough_left legs runs parts left n within m is =
    let most : (n + 1) * leg_count (legs_data legs) ≤ length runs * leg_count (legs_data legs) = mul-le-mul (let one : n + 1 ≤ length runs = omega (arith, within) in one) (let same : leg_count (legs_data legs) ≤ leg_count (legs_data legs) = omega arith in same) in
    let all = m.many in
    let rest : length left ≡ length parts - n * leg_count (legs_data legs) = ap length is ∙ length-drop (n * leg_count (legs_data legs)) parts in
    omega (arith, most, all, rest, one_more n (leg_count (legs_data legs)))

pub own_many : (legs : ResolvedLegs) (left own : List Part) → leg_count (legs_data legs) ≤ length left → own ≡ take (leg_count (legs_data legs)) left
    → length own ≡ leg_count (legs_data legs)
own_many legs left own enough is = ap length is ∙ length-take-le (leg_count (legs_data legs)) left enough

pub own_fits : (legs : ResolvedLegs) (runs : List GridData) (parts left own : List Part) (n : ℕ) → AreMergeable legs runs parts
    → left ≡ drop (n * leg_count (legs_data legs)) parts → own ≡ take (leg_count (legs_data legs)) left → Each (FitsNodes legs.nodes) own
own_fits legs runs parts left own n m is taken =
    subst (Each (FitsNodes legs.nodes)) (sym taken)
    (each_taken (FitsNodes legs.nodes) (leg_count (legs_data legs)) left
    (subst (Each (FitsNodes legs.nodes)) (sym is) (each_dropped (FitsNodes legs.nodes) (n * leg_count (legs_data legs)) parts m.fits)))

-- the parts of an open query
pub parts_open : (c : CoreData) (o : Option Open) (g : Gathered) → HasParts c o g
    → (x : Open) × ((o ≡ Some x) × AreParts c.limits x (arc_value g.legs) g.cached.items g.runs.items g.parts.items)
parts_open c None g h = absurd h
parts_open c (Some x) g h = (x, (refl, h))

-- can be merged
pub parts_mergeable : (c : CoreData) (o : Option Open) (g : Gathered) → HasParts c o g → AreMergeable (arc_value g.legs) g.runs.items g.parts.items
parts_mergeable c None g h = absurd h
parts_mergeable c (Some x) g h = record { lawful = h.lawful; evaluable = h.evaluable; many = h.many; fits = h.fits }

pub open_parts : (c : CoreData) (query : ℕ) (g : Gathered) → HasParts c (open_at query (machine_of c).queries) g → IsSome (open_at query (machine_of c).queries)
open_parts c query g h = by (open_at query (machine_of c).queries) h where
  by : (o : Option Open) → HasParts c o g → IsSome o
  by None h = absurd h
  by (Some x) h = refl

pub evaluable_over : (r : ResolvedData) (labels : List Pairs) → IsBoundOver r labels → AreEvaluable r
evaluable_over r labels h = record { evaluated = h.evaluated; low = h.low; patterns = h.patterns }

-- one leg more
pub first_more : (legs : ResolvedLegs) (snap : SnapData) (run : GridData) (n : ℕ) (parts : List Part) (part : Part)
    → AreFirstParts legs snap run n parts → FitsNodes legs.nodes part
    → ((samples : List Row) → StandsFor snap samples → AreApart samples → IsValueOver samples (legs_data legs) n run part)
    → AreFirstParts legs snap run (n + 1) (parts ++ part ∷ [])
first_more legs snap run n parts part h fits value = record {
  many = length_push parts part ∙ ap (λ (k : ℕ). k + 1) h.many;
  fits = each_more (FitsNodes legs.nodes) parts part h.fits fits;
  values = λ samples stands apart i p e. by samples stands apart i p (got_more parts part p i e);
} where
  by : (samples : List Row) → StandsFor snap samples → AreApart samples → (i : ℕ) (p : Part) → ((i ≡ length parts) × (part ≡ p)) ⊎ (slice_get parts i ≡ Some p)
      → IsValueOver samples (legs_data legs) i run p
  by samples stands apart i p (inl (last, same)) =
      subst (λ (k : ℕ). IsValueOver samples (legs_data legs) k run p) (sym (last ∙ h.many))
      (subst (λ (q : Part). IsValueOver samples (legs_data legs) n run q) same (value samples stands apart))
  by samples stands apart i p (inr there) = h.values samples stands apart i p there

pub no_parts : (legs : ResolvedLegs) (snap : SnapData) (run : GridData) → AreFirstParts legs snap run 0 []
no_parts legs snap run = record {
  many = refl;
  fits = tt;
  values = λ samples stands apart i p e. absurd (let past = slice_get_within [] i p e in omega (arith, past));
}

-- ---- a job in hand

-- the value of its leg over its run is its part
pub part_is : (held : Held) (part : Part) → FitsNodes (arc_value held.legs).nodes part
    → ((samples : List Row) → StandsFor (arc_value held.snap) samples → AreApart samples → IsValueOver samples (legs_data (arc_value held.legs)) held.head.leg held.run part)
    → (c : CoreData) → StandsForAsk c held → IsPartOf c held part
part_is held part fits value c s = record {
  fits = fits;
  value = λ at asked.
      subst (λ (o : Open). IsValueOver (store_of (rules_of c.limits) o.log).samples (legs_data (arc_value held.legs)) held.head.leg held.run part)
      (some_is s.at at (sym s.asked ∙ asked)) (value (store_of (rules_of c.limits) s.at.log).samples s.legs_of.stands s.legs_of.apart);
}
