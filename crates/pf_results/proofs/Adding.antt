-- What is kept, one extent after another.
use Rattle.std.proofs.Common.{◌≡◌, ◌∙◌, ℕ, zero, suc, ◌+◌, ◌-◌, ◌*◌, ◌/◌, ◌≤◌, ◌<◌, ◌⊎◌, inl, inr, Bool, true, false, cond, Option, Some, None, List, [], ◌∷◌, ◌++◌, length, map, take, drop, length-take-le, length-drop, nat_eq, refl, sym, ap, subst, arith}
use Rattle.std.proofs.Math.Nat.{add-mul-mod_self_right, mul-div_left}
use Rattle.std.specs.Prelude.{IfOk, IfSome, Result, Ok, Err, slice_index_or}
use Rattle.pf_base.specs.GridLists.{GridData, IsGrid, times_from}
use Rattle.pf_base.specs.Grids.{points}
use Rattle.pf_extent.specs.Combining.{combined, known_still, known_with}
use Rattle.pf_extent.specs.Steps.{AreSpaced, IsLawful, Known, has_begun, has_step, known_at, known_of}
use Rattle.pf_extent.specs.declared.extent.Asker.{Asker}
use Rattle.pf_extent.specs.declared.extent.Extent.{Extent}
use Rattle.pf_model.specs.declared.cell.Element.{Element}
use Rattle.pf_model.specs.Trees.{Tree}
use Rattle.pf_results.specs.Keeping.{IsFixedStep, KeepsOthers, KnowsNoOthers, KnowsParts, combined_all, extent_of, extents_of, fixed_count, is_fixed, kept_list, now_list, part_extents, with_kept}
use Rattle.pf_results.specs.Runs.{lengths, part_of, runs_of, time_of}
use Rattle.pf_results.proofs.Extents.{fewer, place_of, step_of}
use Rattle.pf_results.proofs.LongestRuns.{none_front, run_front}
use Rattle.pf_results.proofs.Served.{time_first, time_plus}

some_is : {X : Type 0} {x y : X} → Some x ≡ Some y → x ≡ y
some_is h = cc

none_some : {X : Type 0} {x : X} → None ≡ Some x → ⊥
none_some h = cc

-- ---- what a list knows with one more extent

still : (g : ℕ) (o : Option Known) (k : Known) → known_still g o ≡ Some k → o ≡ Some k
still g None k h = h
still g (Some x) k h = by (nat_eq x.generation g) h where
  by : (b : Bool) → cond b (Some x) None ≡ Some k → Some x ≡ Some k
  by true l = l
  by false l = absurd (none_some l)

known_cases : (es : List Extent) (e : Extent) (l : List Extent) → ((t : ℕ) → known_at t l ≡ cond (has_begun t l) (known_with es e t) None) → KnowsNoOthers es e l
known_cases es e l f t k h = begun (has_begun t l) (sym (f t) ∙ h) where
  own : (b : Bool) → has_step t e ≡ b → cond b (Some (known_of t e)) (known_still e.generation (known_at t es)) ≡ Some k
      → (known_at t es ≡ Some k) ⊎ ((has_step t e ≡ true) × (k ≡ known_of t e))
  own true i g = inr (i, sym (some_is g))
  own false i g = inl (still e.generation (known_at t es) k g)

  begun : (b : Bool) → cond b (known_with es e t) None ≡ Some k → (known_at t es ≡ Some k) ⊎ ((has_step t e ≡ true) × (k ≡ known_of t e))
  begun true g = own (has_step t e) refl g
  begun false g = absurd (none_some g)

pub known_by : (es now : List Extent) (e : Extent) (l : List Extent) → now ≡ es → ((t : ℕ) → known_at t l ≡ cond (has_begun t l) (known_with es e t) None) → KnowsNoOthers now e l
known_by es now e l s f = subst (λ (x : List Extent). KnowsNoOthers x e l) (sym s) (known_cases es e l f)

-- ---- the extent of a part of a run

front_place : (run : GridData) (from : ℕ) → 1 ≤ run.step → (time_of run from - run.start) / run.step ≡ from
front_place run from s =
    let e : time_of run from - run.start ≡ from * run.step = omega arith in
    ap (λ n. n / run.step) e ∙ mul-div_left from (omega (arith, s))

pub extent_is : (a : Asker) (run : GridData) (cells cs : List (List Element)) (from n first last step : ℕ) → 1 ≤ run.step
    → first ≡ time_of run from → last ≡ time_of run (from + (n - 1)) → step ≡ run.step → cs ≡ take n (drop from cells)
    → ◌≡◌ {A = Extent} (record { first = first; last = last; step = step; pin = a.pin; generation = a.generation; cells = cs }) (extent_of a run cells (part_of run from n))
extent_is a run cells cs from n first last step s f l d c =
    let make : ℕ → ℕ → ℕ → List (List Element) → Extent = λ x y z v. record { first = x; last = y; step = z; pin = a.pin; generation = a.generation; cells = v } in
    let end : last ≡ time_of run from + (n - 1) * run.step = l ∙ sym (time_plus run from (n - 1)) in
    let body : cs ≡ take n (drop ((time_of run from - run.start) / run.step) cells) = c ∙ ap (λ k. take n (drop k cells)) (sym (front_place run from s)) in
    ap (λ x. make x last step cs) f ∙ ap (λ y. make (time_of run from) y step cs) end
    ∙ ap (λ z. make (time_of run from) (time_of run from + (n - 1) * run.step) z cs) d
    ∙ ap (make (time_of run from) (time_of run from + (n - 1) * run.step) run.step) body

pub part_lawful : (a : Asker) (run : GridData) (cells : List (List Element)) (from n : ℕ) → IsGrid run → 1 ≤ run.step → 1 ≤ n → from + n ≤ run.len
    → length cells ≡ run.len → IsLawful (extent_of a run cells (part_of run from n))
part_lawful a run cells from n g s o w c =
    let zero_mod = g.multiple (omega (arith, s)) in
    let first_mod = add-mul-mod_self_right run.start from run.step ∙ zero_mod in
    let d : time_of run from + (n - 1) * run.step - time_of run from ≡ (n - 1) * run.step = omega arith in
    let left : length (drop from cells) ≡ length cells - from = length-drop from cells in
    let all : length (take n (drop from cells)) ≡ n = length-take-le n (drop from cells) (omega (arith, left, c, w)) in
    let q : (time_of run from + (n - 1) * run.step - time_of run from) / run.step ≡ n - 1 = ap (λ z. z / run.step) d ∙ mul-div_left (n - 1) (omega (arith, s)) in
    record {
      distance = s;
      first = first_mod;
      last = add-mul-mod_self_right (time_of run from) (n - 1) run.step ∙ first_mod;
      order = omega arith;
      count = ap (λ k. length (take n (drop k cells))) (front_place run from s) ∙ all ∙ (let e : n ≡ (n - 1) + 1 = omega (arith, o) in e ∙ ap (λ z. z + 1) (sym q));
    }

taken : (c j : ℕ) (xs : List (List Element)) → j < c → slice_index_or (take c xs) j [] ≡ slice_index_or xs j []
taken zero j xs h = absurd (omega (arith, h))
taken (suc c) j [] h = refl
taken (suc c) zero (x ∷ xs) h = refl
taken (suc c) (suc j) (x ∷ xs) h = taken c j xs (omega (arith, h))

none_at : (j : ℕ) → ◌≡◌ {A = List Element} (slice_index_or [] j []) []
none_at zero = refl
none_at (suc j) = refl

pub cell_of_part : (from c j : ℕ) (xs : List (List Element)) → j < c → slice_index_or (take c (drop from xs)) j [] ≡ slice_index_or xs (from + j) []
cell_of_part zero c j xs h = taken c j xs h ∙ ap (λ k. slice_index_or xs k []) (let e : j ≡ 0 + j = omega arith in e)
cell_of_part (suc from) c j [] h = taken c j [] h ∙ none_at j ∙ sym (none_at (suc from + j))
cell_of_part (suc from) c j (x ∷ xs) h = cell_of_part from c j xs h ∙ ap (λ k. slice_index_or (x ∷ xs) k []) (let e : suc (from + j) ≡ suc from + j = omega arith in e)

-- what it knows is known of a fixed step of the run
pub part_fixed : (q : Tree) (a : Asker) (run : GridData) (cells : List (List Element)) (from n t : ℕ) (k : Known) → IsGrid run → 1 ≤ run.step → 1 ≤ n
    → from + n ≤ run.len → ((j : ℕ) → from ≤ j → j < from + n → is_fixed q a (time_of run j) ≡ true)
    → has_step t (extent_of a run cells (part_of run from n)) ≡ true → k ≡ known_of t (extent_of a run cells (part_of run from n))
    → IsFixedStep q a run cells t k
part_fixed q a run cells from n t k g s o w f h e =
    let b = step_of t (extent_of a run cells (part_of run from n)) h in
    let first = time_of run from in
    let j = (t - first) / run.step in
    let first_mod = add-mul-mod_self_right run.start from run.step ∙ g.multiple (omega (arith, s)) in
    let at : t ≡ first + j * run.step = place_of run.step first t s first_mod b.multiple b.first in
    let last : t ≤ first + (n - 1) * run.step = b.last in
    let few : j ≤ n - 1 = fewer j (n - 1) run.step s (omega (arith, at, last)) in
    let time : t ≡ time_of run (from + j) = at ∙ time_plus run from j in
    let cell : slice_index_or (take n (drop ((first - run.start) / run.step) cells)) j [] ≡ slice_index_or cells (from + j) [] =
    ap (λ m. slice_index_or (take n (drop m cells)) j []) (front_place run from s) ∙ cell_of_part from n j cells (omega (arith, few, o)) in
    record {
      place = from + j;
      within = omega (arith, few, w, o);
      time = time;
      fixed = ap (is_fixed q a) time ∙ f (from + j) (omega arith) (omega (arith, few, o));
      known = e ∙ ap (λ (c : List Element). record { pin = a.pin; generation = a.generation; cell = c }) cell;
    }

-- ---- one part more

module _ (q : Tree) (a : Asker) (run : GridData) (cells : List (List Element)) (es : List Extent) where
  abbrev pub rest : ℕ → List GridData
  rest from = runs_of run.step (is_fixed q a) (times_from (time_of run from) run.step (run.len - from))

  abbrev pub left : ℕ → List Extent
  left from = map (extent_of a run cells) (rest from)

  pub record IsAdded (kept : Option (List Extent)) (steps from : ℕ) : Type 0 where
    pub within : from ≤ run.len
    pub list : with_kept kept es (left from) ≡ kept_list es (extents_of q a run cells (points run))
    pub count : steps + lengths (rest from) ≡ fixed_count q a run
    pub few : steps ≤ from
    pub known : IfSome kept (KeepsOthers q a run cells es)
    pub spaced : IfSome kept (AreSpaced run.step)

  rest_first : rest 0 ≡ runs_of run.step (is_fixed q a) (points run)
  rest_first =
      let e : time_of run 0 ≡ run.start = sym (time_first run) in
      let m : run.len - 0 ≡ run.len = omega arith in
      ap (λ u. runs_of run.step (is_fixed q a) (times_from u run.step (run.len - 0))) e ∙ ap (λ k. runs_of run.step (is_fixed q a) (times_from run.start run.step k)) m

  pub added_none : IsAdded None 0 0
  added_none = record {
    within = omega arith;
    list = ap (λ (rs : List GridData). kept_list es (map (extent_of a run cells) rs)) rest_first;
    count = let c = ap lengths rest_first in omega (arith, c);
    few = omega arith;
    known = tt;
    spaced = tt;
  }

  -- steps that aren't fixed
  rest_skipped : (from c : ℕ) → from + c ≤ run.len → ((k : ℕ) → from ≤ k → k < from + c → is_fixed q a (time_of run k) ≡ false) → rest from ≡ rest (from + c)
  rest_skipped from c w f =
      let m : run.len - from - c ≡ run.len - (from + c) = omega arith in
      none_front run.step (is_fixed q a) c (run.len - from) (time_of run from) (omega (arith, w))
      (λ k l. subst (λ u. is_fixed q a u ≡ false) (sym (time_plus run from k)) (f (from + k) (omega arith) (omega (arith, l))))
      ∙ ap (λ u. runs_of run.step (is_fixed q a) (times_from u run.step (run.len - from - c))) (time_plus run from c)
      ∙ ap (λ k. runs_of run.step (is_fixed q a) (times_from (time_of run (from + c)) run.step k)) m

  -- a run of fixed steps, if there are some
  abbrev part_runs : ℕ → ℕ → List GridData
  part_runs from zero = []
  part_runs from (suc n) = part_of run from (suc n) ∷ []

  rest_part : (from c : ℕ) → 1 ≤ run.step → from + c ≤ run.len → ((k : ℕ) → from ≤ k → k < from + c → is_fixed q a (time_of run k) ≡ true)
      → (from + c < run.len → is_fixed q a (time_of run (from + c)) ≡ false) → rest from ≡ part_runs from c ++ rest (from + c)
  rest_part from zero s w f g = let e : from ≡ from + 0 = omega arith in ap rest e
  rest_part from (suc b) s w f g =
      let c = suc b in
      let m : run.len - from - c ≡ run.len - (from + c) = omega arith in
      run_front run.step (is_fixed q a) b (run.len - from) (time_of run from) s (omega (arith, w))
      (λ k l. subst (λ u. is_fixed q a u ≡ true) (sym (time_plus run from k)) (f (from + k) (omega arith) (omega (arith, l))))
      (λ l. subst (λ u. is_fixed q a u ≡ false) (sym (time_plus run from c)) (g (omega (arith, l))))
      ∙ ap (λ u. part_of run from c ∷ runs_of run.step (is_fixed q a) (times_from u run.step (run.len - from - c))) (time_plus run from c)
      ∙ ap (λ k. part_of run from c ∷ runs_of run.step (is_fixed q a) (times_from (time_of run (from + c)) run.step k)) m

  parts_are : (from c : ℕ) (rs : List GridData) → map (extent_of a run cells) (part_runs from c ++ rs) ≡ part_extents a run cells from c ++ map (extent_of a run cells) rs
  parts_are from zero rs = refl
  parts_are from (suc c) rs = refl

  parts_count : (from c : ℕ) (rs : List GridData) → lengths (part_runs from c ++ rs) ≡ c + lengths rs
  parts_count from zero rs = omega arith
  parts_count from (suc c) rs = refl

  known_more : (kept next : Option (List Extent)) (from c : ℕ) → IsGrid run → 1 ≤ run.step → from + c ≤ run.len
      → ((k : ℕ) → from ≤ k → k < from + c → is_fixed q a (time_of run k) ≡ true)
      → IfSome kept (KeepsOthers q a run cells es) → IfSome next (KnowsParts a run cells from c (now_list es kept)) → IfSome next (KeepsOthers q a run cells es)
  known_more kept None from c g s w f h n = tt
  known_more None (Some new) from c g s w f h n = λ t k e. elim (n t k e) [
    | inl o ↦ inl o
    | inr o ↦ inr (part_fixed q a run cells from c t k g s o.1 w f o.0 o.2)
  ]
  known_more (Some old) (Some new) from c g s w f h n = λ t k e. elim (n t k e) [
    | inl o ↦ h t k o
    | inr o ↦ inr (part_fixed q a run cells from c t k g s o.1 w f o.0 o.2)
  ]

  pub added_part : (kept next : Option (List Extent)) (steps from skipped c : ℕ) → IsAdded kept steps from → IsGrid run → 1 ≤ run.step
      → from + skipped ≤ run.len → ((k : ℕ) → from ≤ k → k < from + skipped → is_fixed q a (time_of run k) ≡ false)
      → from + skipped + c ≤ run.len → ((k : ℕ) → from + skipped ≤ k → k < from + skipped + c → is_fixed q a (time_of run k) ≡ true)
      → (from + skipped + c < run.len → is_fixed q a (time_of run (from + skipped + c)) ≡ false)
      → ((ns : List Extent) → with_kept next es ns ≡ with_kept kept es (part_extents a run cells (from + skipped) c ++ ns))
      → IfSome next (KnowsParts a run cells (from + skipped) c (now_list es kept)) → IfSome next (AreSpaced run.step)
      → IsAdded next (steps + c) (from + skipped + c)
  added_part kept next steps from skipped c i g s w f v h l list known spaced =
      let first = from + skipped in
      let r : rest from ≡ part_runs first c ++ rest (first + c) = rest_skipped from skipped w f ∙ rest_part first c s v h l in
      let count = i.count in
      let lens = ap lengths r ∙ parts_count first c (rest (first + c)) in
      let few = i.few in
      record {
        within = v;
        list = list (left (first + c)) ∙ ap (with_kept kept es) (sym (ap (map (extent_of a run cells)) r ∙ parts_are first c (rest (first + c)))) ∙ i.list;
        count = omega (arith, count, lens);
        few = omega (arith, few);
        known = known_more kept next first c g s v h i.known known;
        spaced = spaced;
      }

  kept_with_none : (kept : Option (List Extent)) → with_kept kept es [] ≡ kept
  kept_with_none None = refl
  kept_with_none (Some k) = refl

  pub added_all : (kept : Option (List Extent)) (steps from : ℕ) → IsAdded kept steps from → run.len ≤ from
      → (kept ≡ kept_list es (extents_of q a run cells (points run))) × (steps ≡ fixed_count q a run)
  added_all kept steps from i l =
      let z : run.len - from ≡ 0 = omega (arith, l) in
      let r : rest from ≡ [] = ap (λ k. runs_of run.step (is_fixed q a) (times_from (time_of run from) run.step k)) z in
      let count = i.count in
      let none = ap lengths r in (
        sym (kept_with_none kept) ∙ ap (λ (rs : List GridData). with_kept kept es (map (extent_of a run cells) rs)) (sym r) ∙ i.list,
        omega (arith, count, none),
      )

  -- one step at least is passed
  pub moves_on : (from skipped c : ℕ) → from < run.len → (from + skipped < run.len → is_fixed q a (time_of run (from + skipped)) ≡ true)
      → (from + skipped + c < run.len → is_fixed q a (time_of run (from + skipped + c)) ≡ false) → from < from + skipped + c
  moves_on from (suc s) c l f g = omega arith
  moves_on from zero (suc c) l f g = omega arith
  moves_on from zero zero l f g =
      let e : from + 0 + 0 ≡ from + 0 = omega arith in
      absurd (true_false (sym (f (omega (arith, l))) ∙ subst (λ k. is_fixed q a (time_of run k) ≡ false) e (g (omega (arith, l))))) where
        true_false : true ≡ false → ⊥
        true_false h = cc

-- the extent that was added
pub next_list : (kept : Option (List Extent)) (es ns : List Extent) (e : Extent) (l : List Extent) → l ≡ combined (now_list es kept) e
    → with_kept (Some l) es ns ≡ with_kept kept es (e ∷ ns)
next_list None es ns e l h = ap (λ (x : List Extent). Some (combined_all x ns)) h
next_list (Some k) es ns e l h = ap (λ (x : List Extent). Some (combined_all x ns)) h

pub known_result : {E : Type 0} (es now : List Extent) (e : Extent) (r : Result (List Extent) E) → now ≡ es
    → IfOk r (λ l. (t : ℕ) → known_at t l ≡ cond (has_begun t l) (known_with es e t) None) → IfOk r (KnowsNoOthers now e)
known_result es now e (Ok l) s f = known_by es now e l s f
known_result es now e (Err x) s f = tt

pub known_part : (a : Asker) (run : GridData) (cells : List (List Element)) (from n : ℕ) (e : Extent) (es new : List Extent) → e ≡ extent_of a run cells (part_of run from n)
    → 1 ≤ n → KnowsNoOthers es e new → KnowsParts a run cells from n es new
known_part a run cells from n e es new i o h t k g =
    elim (subst (λ (x : Extent). KnowsNoOthers es x new) i h t k g) [
      | inl p ↦ inl p
      | inr p ↦ inr (p.0, o, p.1)
    ]
