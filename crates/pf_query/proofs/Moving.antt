-- Slots whose parts are moved out one by one, and jobs that are made one by one. This project's own.
use Rattle.std.proofs.Common.{◌≡◌, ◌∙◌, ℕ, zero, suc, ◌+◌, ◌*◌, ◌/◌, ◌%◌, ◌<◌, Bool, false, Some, List, [], ◌∷◌, ◌++◌, length, length-append, map, take, get_or, append_assoc, add-one, mul-zero, div-lt_iff_lt-mul, refl, sym, ap, subst, arith, slice_get, slice_set}
use Rattle.std.proofs.lemmas.Option.{slice_get_read}
use Rattle.pf_base.specs.GridLists.{GridData}
use Rattle.pf_base.specs.declared.plain.JobHead.{JobHead}
use Rattle.pf_block.specs.Snaps.{SnapData}
use Rattle.pf_model.specs.Lists.{Each}
use Rattle.pf_shard.specs.Lawful.{ResolvedLegs}
use Rattle.pf_shard.specs.declared.parts.Part.{Part}
use Rattle.pf_query.specs.Works.{EachAt, IsFilled, IsJobOver, IsPlanned, WorkData, empty_slots, last_of, legs_in, planned_work}
use Rattle.pf_extent.specs.Done.{steps_in}
use Rattle.pf_extent.specs.declared.done.DoneCells.{DoneCells}
use Rattle.pf_query.specs.declared.job.Job.{Job}
use Rattle.pf_query.specs.declared.slot.Slot.{Slot}
use Rattle.pf_query.specs.declared.slot.Slot.TheVariants.{Empty, Filled, Handed}

-- the first so many are handed out
abbrev pub handed_upto : ℕ → List Slot → List Slot
handed_upto zero xs = xs
handed_upto (suc n) [] = []
handed_upto (suc n) (x ∷ xs) = Handed ∷ handed_upto n xs

pub upto_length : (n : ℕ) (xs : List Slot) → length (handed_upto n xs) ≡ length xs
upto_length zero xs = refl
upto_length (suc n) [] = refl
upto_length (suc n) (x ∷ xs) = ap suc (upto_length n xs)

pub upto_get : (n : ℕ) (xs : List Slot) (d : Slot) → get_or (handed_upto n xs) n d ≡ get_or xs n d
upto_get zero xs d = refl
upto_get (suc n) [] d = refl
upto_get (suc n) (x ∷ xs) d = upto_get n xs d

pub upto_set : (n : ℕ) (xs : List Slot) → slice_set (handed_upto n xs) n Handed ≡ handed_upto (suc n) xs
upto_set zero [] = refl
upto_set zero (x ∷ xs) = refl
upto_set (suc n) [] = refl
upto_set (suc n) (x ∷ xs) = ap (λ ys. Handed ∷ ys) (upto_set n xs)

pub upto_next : (n : ℕ) (xs ys : List Slot) (y : Slot) → ys ≡ handed_upto n xs → y ≡ Handed → slice_set ys n y ≡ handed_upto (n + 1) xs
upto_next n xs ys y e f =
    ap (λ s. slice_set ys n s) f ∙ ap (λ zs. slice_set zs n Handed) e ∙ upto_set n xs ∙ ap (λ k. handed_upto k xs) (sym (add-one n))

pub upto_all : (n : ℕ) (xs : List Slot) → n ≡ length xs → handed_upto n xs ≡ map (λ s. Handed) xs
upto_all zero [] h = refl
upto_all zero (x ∷ xs) h = absurd (omega (arith, h))
upto_all (suc n) [] h = refl
upto_all (suc n) (x ∷ xs) h = ap (λ ys. Handed ∷ ys) (upto_all n xs (omega (arith, h)))

pub full_at : (n : ℕ) (xs : List Slot) (d : Slot) → Each IsFilled xs → n < length xs → IsFilled (get_or xs n d)
full_at n [] d h k = absurd (omega (arith, k))
full_at zero (x ∷ xs) d h k = h.0
full_at (suc n) (x ∷ xs) d h k = full_at n xs d h.1 (omega (arith, k))

take_next : (n : ℕ) (xs : List Slot) (x : Slot) → slice_get xs n ≡ Some x → take n xs ++ x ∷ [] ≡ take (suc n) xs
take_next n [] x h = cc
take_next zero (y ∷ xs) x h = let same : y ≡ x = cc in ap (λ z. z ∷ []) (sym same)
take_next (suc n) (y ∷ xs) x h = ap (λ zs. y ∷ zs) (take_next n xs x h)

map_push : (ps : List Part) (p : Part) → map (λ q. Filled q) (ps ++ p ∷ []) ≡ map (λ q. Filled q) ps ++ Filled p ∷ []
map_push [] p = refl
map_push (q ∷ ps) p = ap (λ zs. Filled q ∷ zs) (map_push ps p)

-- the part of one slot more
pub moved : (n : ℕ) (xs : List Slot) (ps qs rs : List Part) (p : Part) → map (λ q. Filled q) ps ≡ map (λ q. Filled q) qs ++ take n xs
    → slice_get xs n ≡ Some (Filled p) → rs ≡ ps ++ p ∷ [] → map (λ q. Filled q) rs ≡ map (λ q. Filled q) qs ++ take (n + 1) xs
moved n xs ps qs rs p e f g =
    ap (λ ts. map (λ q. Filled q) ts) g
    ∙ map_push ps p
    ∙ ap (λ zs. zs ++ Filled p ∷ []) e
    ∙ append_assoc (map (λ q. Filled q) qs) (take n xs) (Filled p ∷ [])
    ∙ ap (λ zs. map (λ q. Filled q) qs ++ zs) (take_next n xs (Filled p) f ∙ ap (λ k. take k xs) (sym (add-one n)))

pub empty_push : (n : ℕ) → empty_slots n ++ Empty ∷ [] ≡ empty_slots (suc n)
empty_push zero = refl
empty_push (suc n) = ap (λ xs. Empty ∷ xs) (empty_push n)

pub empty_next : (n : ℕ) (xs ys : List Slot) → xs ≡ empty_slots n → ys ≡ xs ++ Empty ∷ [] → ys ≡ empty_slots (n + 1)
empty_next n xs ys e f = f ∙ ap (λ zs. zs ++ Empty ∷ []) e ∙ empty_push n ∙ ap empty_slots (sym (add-one n))

pub empty_length : (n : ℕ) → length (empty_slots n) ≡ n
empty_length zero = refl
empty_length (suc n) = ap suc (empty_length n)

module _ {X : Type 0} where
  pub each_at_push : (P : ℕ → X → Type 0) (k n : ℕ) (xs : List X) (x : X) → EachAt P k xs → n ≡ k + length xs → P n x → EachAt P k (xs ++ x ∷ [])
  each_at_push P k n [] x h e p = (let same : n ≡ k = omega (arith, e) in subst (λ m. P m x) same p, tt)
  each_at_push P k n (y ∷ xs) x h e p = (h.0, each_at_push P (k + 1) n xs x h.1 (omega (arith, e)) p)

pub part_at : (n : ℕ) (xs ys : List Slot) (x y : Slot) → ys ≡ handed_upto n xs → x ≡ get_or ys n x → n < length xs → x ≡ y → slice_get xs n ≡ Some y
part_at n xs ys x y e h k s =
    slice_get_read xs (length xs) n x refl k (h ∙ ap (λ zs. get_or zs n x) e ∙ upto_get n xs x) ∙ ap (λ (z : Slot). Some z) s

pub full_here : (n : ℕ) (xs ys : List Slot) (x : Slot) → Each IsFilled xs → ys ≡ handed_upto n xs → x ≡ get_or ys n x → n < length xs → IsFilled x
full_here n xs ys x f e h k =
    let same : get_or xs n x ≡ x = sym (h ∙ ap (λ zs. get_or zs n x) e ∙ upto_get n xs x) in
    subst (λ (z : Slot). IsFilled z) same (full_at n xs x f k)

pub work_is : (legs : ResolvedLegs) (runs : List GridData) (cached : List DoneCells) (offered : Bool) (count : ℕ) (xs : List Slot) (n : ℕ)
    → count ≡ steps_in cached → xs ≡ empty_slots n → n ≡ length runs * legs_in legs
    → ◌≡◌ {A = WorkData} (record { legs = legs; runs = runs; slots = xs; cached = cached; cached_steps = count; offered = offered; given = false })
    (planned_work legs runs cached offered)
work_is legs runs cached offered count xs n c e f =
    let whole : ℕ → List Slot → WorkData = λ m ys. record { legs = legs; runs = runs; slots = ys; cached = cached; cached_steps = m; offered = offered; given = false } in
    ap (λ m. whole m xs) c ∙ ap (whole (steps_in cached)) (e ∙ ap empty_slots f)

-- ---- jobs

pub run_within : (number many count : ℕ) → number < many * count → number / count < many
run_within number many zero h = absurd (omega (arith, h, mul-zero many))
run_within number many (suc c) h = (div-lt_iff_lt-mul {k = suc c} (omega arith)).1 h

pub planned_from : (tenant query : ℕ) (legs : ResolvedLegs) (runs : List GridData) (count : ℕ) (run : GridData) (number : ℕ) (snap : SnapData) (j : Job)
    → IsJobOver tenant query legs count run number snap j → count ≡ legs_in legs → slice_get runs (number / count) ≡ Some run
    → IsPlanned tenant query legs runs snap number j
planned_from tenant query legs runs count run number snap j m c at =
    let job : j.head.job ≡ number = ap (λ (h : JobHead). h.job) m.head in
    let tries : j.head.tries ≡ 0 = ap (λ (h : JobHead). h.tries) m.head in record {
      tenant_is = ap (λ (h : JobHead). h.tenant) m.head;
      query_is = ap (λ (h : JobHead). h.query) m.head;
      number_is = job;
      untried = tries;
      head = record {
        run_is = ap (λ k. slice_get runs (k / legs_in legs)) job ∙ ap (λ n. slice_get runs (number / n)) (sym c) ∙ at ∙ ap (λ (r : GridData). Some r) (sym m.run_is);
        leg = ap (λ (h : JobHead). h.leg) m.head ∙ ap (λ n. number % n) c ∙ ap (λ k. k % legs_in legs) (sym job);
        first = ap (λ (h : JobHead). h.first) m.head ∙ ap (λ (r : GridData). r.start) (sym m.run_is);
        last = ap (λ (h : JobHead). h.last) m.head ∙ ap last_of (sym m.run_is);
        tries = omega (arith, tries);
      };
      legs_are = m.legs_are;
      snap_is = m.snap_is;
    }

-- one job more
pub jobs_next : (tenant query : ℕ) (legs : ResolvedLegs) (runs : List GridData) (count : ℕ) (run : GridData) (number : ℕ) (snap : SnapData) (j : Job) (js ks : List Job)
    → EachAt (IsPlanned tenant query legs runs snap) 0 js → length js ≡ number → IsJobOver tenant query legs count run number snap j → count ≡ legs_in legs
    → number < length runs * count → run ≡ get_or runs (number / count) run → ks ≡ js ++ j ∷ []
    → (length ks ≡ number + 1) × EachAt (IsPlanned tenant query legs runs snap) 0 ks
jobs_next tenant query legs runs count run number snap j js ks h n m c l g e =
    let at = slice_get_read runs (length runs) (number / count) run refl (run_within number (length runs) count l) g in
    let p = planned_from tenant query legs runs count run number snap j m c at in
    let many = ap length e ∙ length-append js (j ∷ []) in (
      omega (arith, many, n),
      subst (λ (xs : List Job). EachAt (IsPlanned tenant query legs runs snap) 0 xs) (sym e)
          (each_at_push (IsPlanned tenant query legs runs snap) 0 number js j h (omega (arith, n)) p),
    )
