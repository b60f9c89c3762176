-- Runs of a query's grid, the jobs over them, and their parts.
use Rattle.std.proofs.Common.{◌≡◌, ◌⊎◌, ℕ, zero, suc, ◌+◌, ◌-◌, ◌*◌, ◌/◌, ◌%◌, ◌<◌, ◌≤◌, inl, inr, map, nat_eq, Some, List, [], ◌∷◌, ◌++◌, length, refl, sym, ap, ◌∙◌, arith, subst, slice_get, slice_set}
use Rattle.std.specs.Arc.{arc_value}
use Rattle.std.proofs.Math.Nat.{add-mul, mod-eq_of_lt, mod-lt, mul-add-mod_self_right, mul-div_cancel, mul-le-mul}
use Rattle.std.proofs.lemmas.Bool.Decides.{nat_tests}
use Rattle.std.proofs.lemmas.Nat.{div-mul-add}
use Rattle.pf_base.specs.GridLists.{GridData}
use Rattle.pf_base.specs.declared.plain.JobHead.{JobHead}
use Rattle.pf_base.specs.declared.plain.Limits.{Limits}
use Rattle.pf_block.specs.Snaps.{SnapData}
use Rattle.pf_journal.specs.Machine.{Entry, Open}
use Rattle.pf_model.specs.Lists.{Each}
use Rattle.pf_model.specs.Trees.{Tree}
use Rattle.pf_query.specs.Works.{ArePlanned, EachAt, IsPlanned, empty_slots, last_of, legs_in}
use Rattle.pf_query.specs.declared.job.Job.{Job}
use Rattle.pf_query.specs.declared.slot.Slot.{Slot}
use Rattle.pf_query.specs.declared.slot.Slot.TheVariants.{Filled, Handed}
use Rattle.pf_shard.specs.declared.parts.Part.{Part}
use Rattle.pf_shard.specs.Lawful.{IsLawful, ResolvedLegs, leg_count, legs_data}
use Rattle.pf_core.specs.Asks.{opened_at}
use Rattle.pf_core.specs.Jobs.{IsJobOf, IsLegsOf, IsRunOf, heads_over, planned_heads}
use Rattle.pf_core.specs.States.{JobStands}
use Rattle.pf_core.proofs.Lists.{get_set_other, get_set_same}
use Rattle.pf_core.proofs.Machines.{bool_cases}

-- ---- legs

some_by : (q : Tree) (ns : List ℕ) (n : ℕ) → IsLawful (record { query = q; nodes = ns; shards = n }) → 1 ≤ leg_count (record { query = q; nodes = ns; shards = n })
some_by q [] n h = omega arith
some_by q (m ∷ ms) n (inl e) = cc
some_by q (m ∷ ms) n (inr k) =
    let one : 1 ≤ length (m ∷ ms) = omega arith in
    let product : 1 * 2 ≤ length (m ∷ ms) * n = mul-le-mul one k.several in
    omega (arith, product)

-- lawful legs are at least one
pub some_legs : (legs : ResolvedLegs) → IsLawful (legs_data legs) → 1 ≤ legs_in legs
some_legs legs h = some_by legs.resolved.query legs.nodes legs.shards h

one_more : (k n : ℕ) → (k + 1) * n ≡ k * n + n
one_more k n = let both = add-mul k 1 n in omega (arith, both)

-- a number run by run and leg by leg tells both
place_in : (number place leg count : ℕ) → number ≡ place * count + leg → leg < count → number / count ≡ place
place_in number place leg count is inside = ap (λ k. k / count) is ∙ div-mul-add place count leg inside

leg_in : (number place leg count : ℕ) → number ≡ place * count + leg → leg < count → number % count ≡ leg
leg_in number place leg count is inside = ap (λ k. k % count) is ∙ mul-add-mod_self_right place count leg ∙ mod-eq_of_lt inside

-- ---- runs

same_many : (a b step : ℕ) → 0 < step → a * step ≡ b * step → a ≡ b
same_many a b step some e = sym (mul-div_cancel a some) ∙ ap (λ n. n / step) e ∙ mul-div_cancel b some

-- a run is known by its first and its last time
pub same_run : (grid a b : GridData) → IsRunOf grid a → IsRunOf grid b → a.start ≡ b.start → last_of a ≡ last_of b → a ≡ b
same_run grid a b ha hb start last = λ i. record { start = start i; step = step i; len = len i } where
  step : a.step ≡ b.step
  step = ha.step ∙ sym hb.step

  some_a : 1 ≤ a.len
  some_a = ha.lawful.some

  some_b : 1 ≤ b.len
  some_b = hb.lawful.some

  ends : (a.len - 1) * a.step ≡ (b.len - 1) * a.step
  ends = let l : a.start + (a.len - 1) * a.step ≡ b.start + (b.len - 1) * a.step = last ∙ ap (λ s. b.start + (b.len - 1) * s) (sym step) in
      omega (arith, l, start)

  by : (s : ℕ) → a.step ≡ s → a.len ≡ b.len
  by zero e =
      let one = ha.lawful.alone e in
      let other = hb.lawful.alone (sym step ∙ e) in
      one ∙ sym other
  by (suc s) e =
      let some : 0 < a.step = omega (arith, e) in
      let many = same_many (a.len - 1) (b.len - 1) a.step some ends in
      omega (arith, many, some_a, some_b)

  len : a.len ≡ b.len
  len = by a.step refl

-- ---- jobs

each_at : {X : Type 0} (P : X → Type 0) (xs : List X) (i : ℕ) (x : X) → Each P xs → slice_get xs i ≡ Some x → P x
each_at P [] i x h g = cc
each_at P (y ∷ ys) zero x h g = let e : y ≡ x = cc in subst P e h.0
each_at P (y ∷ ys) (suc i) x h g = each_at P ys i x h.1 g

pub run_at : (grid : GridData) (rs : List GridData) (i : ℕ) (run : GridData) → Each (IsRunOf grid) rs → slice_get rs i ≡ Some run → IsRunOf grid run
run_at grid rs i run h g = each_at (IsRunOf grid) rs i run h g

head_planned : (tenant query : ℕ) (legs : ResolvedLegs) (rs : List GridData) (snap : SnapData) (number place leg : ℕ) (r : GridData) (j : Job)
    → slice_get rs place ≡ Some r → leg < legs_in legs → number ≡ place * legs_in legs + leg → IsPlanned tenant query legs rs snap number j
    → j.head ≡ record { tenant = tenant; query = query; job = number; leg = leg; first = r.start; last = last_of r; tries = 0 }
head_planned tenant query legs rs snap number place leg r j there inside is h =
    let at : j.head.job / legs_in legs ≡ place = ap (λ k. k / legs_in legs) h.number_is ∙ place_in number place leg (legs_in legs) is inside in
    let own : j.head.job % legs_in legs ≡ leg = ap (λ k. k % legs_in legs) h.number_is ∙ leg_in number place leg (legs_in legs) is inside in
    let both : Some j.run ≡ Some r = sym h.head.run_is ∙ ap (slice_get rs) at ∙ there in
    let same : j.run ≡ r = cc in
    λ i. record {
      tenant = h.tenant_is i;
      query = h.query_is i;
      job = h.number_is i;
      leg = (h.head.leg ∙ own) i;
      first = (h.head.first ∙ ap (λ (g : GridData). g.start) same) i;
      last = (h.head.last ∙ ap last_of same) i;
      tries = h.untried i;
    }

-- what is said of the jobs of one run from a leg on, and of the jobs behind them
heads_of_run : (tenant query : ℕ) (legs : ResolvedLegs) (rs : List GridData) (snap : SnapData) (place : ℕ) (r : GridData) (behind : List JobHead) (number leg n : ℕ) (js : List Job)
    → slice_get rs place ≡ Some r → leg + n ≡ legs_in legs → number ≡ place * legs_in legs + leg → n ≤ length js → EachAt (IsPlanned tenant query legs rs snap) number js
    → ((ks : List Job) → length ks + n ≡ length js → EachAt (IsPlanned tenant query legs rs snap) (number + n) ks → map (λ (j : Job). j.head) ks ≡ behind)
    → map (λ (j : Job). j.head) js ≡ heads_over tenant query number r leg n ++ behind
heads_of_run tenant query legs rs snap place r behind number leg zero js there all is many h then =
    let same : number ≡ number + zero = omega arith in
    then js (omega arith) (subst (λ k. EachAt (IsPlanned tenant query legs rs snap) k js) same h)
heads_of_run tenant query legs rs snap place r behind number leg (suc n) [] there all is many h then = absurd (omega (arith, many))
heads_of_run tenant query legs rs snap place r behind number leg (suc n) (j ∷ js) there all is many h then =
    let first = head_planned tenant query legs rs snap number place leg r j there (omega (arith, all)) is h.0 in
    let same : number + 1 + n ≡ number + suc n = omega arith in
    let rest = heads_of_run tenant query legs rs snap place r behind (number + 1) (leg + 1) n js there (omega (arith, all)) (omega (arith, is)) (omega (arith, many)) h.1
    (λ ks few each. then ks (omega (arith, few)) (subst (λ k. EachAt (IsPlanned tenant query legs rs snap) k ks) same each)) in
    λ i. first i ∷ rest i

heads_from : (tenant query : ℕ) (legs : ResolvedLegs) (rs : List GridData) (snap : SnapData) (number place : ℕ) (rest : List GridData) (js : List Job)
    → number ≡ place * legs_in legs → ((i : ℕ) → slice_get rs (place + i) ≡ slice_get rest i) → length js ≡ length rest * legs_in legs
    → EachAt (IsPlanned tenant query legs rs snap) number js → map (λ (j : Job). j.head) js ≡ planned_heads tenant query number (legs_in legs) rest
heads_from tenant query legs rs snap number place [] [] is at many h = refl
heads_from tenant query legs rs snap number place [] (j ∷ js) is at many h = absurd (omega (arith, many))
heads_from tenant query legs rs snap number place (r ∷ rest) js is at many h =
    let here : slice_get rs place ≡ Some r = ap (slice_get rs) (omega arith) ∙ at 0 in
    let many_more : length (r ∷ rest) ≡ length rest + 1 = omega arith in
    let more : length (r ∷ rest) * legs_in legs ≡ length rest * legs_in legs + legs_in legs =
    ap (λ k. k * legs_in legs) many_more ∙ one_more (length rest) (legs_in legs) in
    let next : number + legs_in legs ≡ (place + 1) * legs_in legs = let one = one_more place (legs_in legs) in omega (arith, is, one) in
    heads_of_run tenant query legs rs snap place r (planned_heads tenant query (number + legs_in legs) (legs_in legs) rest) number 0 (legs_in legs) js
    here (omega arith) (omega (arith, is)) (omega (arith, many, more)) h
    (λ ks few each. heads_from tenant query legs rs snap (number + legs_in legs) (place + 1) rest ks next
    (λ i. ap (slice_get rs) (omega arith) ∙ at (suc i)) (omega (arith, few, many, more)) each)

-- what is said of planned jobs
pub heads_planned : (tenant query : ℕ) (legs : ResolvedLegs) (rs : List GridData) (snap : SnapData) (js : List Job)
    → ArePlanned tenant query legs rs snap js → map (λ (j : Job). j.head) js ≡ planned_heads tenant query 0 (legs_in legs) rs
heads_planned tenant query legs rs snap js h =
    heads_from tenant query legs rs snap 0 0 rs js (omega arith) (λ i. ap (slice_get rs) (omega arith)) h.many h.each

job_planned : (journal : List Entry) (l : Limits) (tenant query : ℕ) (at : Open) (legs : ResolvedLegs) (rs : List GridData) (snap : SnapData) (k : ℕ) (j : Job)
    → opened_at journal query ≡ Some at → at.tenant ≡ tenant → IsLegsOf l at legs snap → Each (IsRunOf at.asked.query.grid) rs
    → IsPlanned tenant query legs rs snap k j → JobStands journal l j
job_planned journal l tenant query at legs rs snap k j asked owner is runs h =
    let some = some_legs legs is.lawful in
    let inside : j.head.job % legs_in legs < legs_in legs = mod-lt j.head.job (omega (arith, some)) in
    let own = h.head.leg in
    record {
      at = at;
      asked = ap (opened_at journal) h.query_is ∙ asked;
      legs_of = subst (λ (ls : ResolvedLegs). IsLegsOf l at ls (arc_value j.snap)) (sym h.legs_are)
          (subst (λ (s : SnapData). IsLegsOf l at legs s) (sym h.snap_is) is);
      job_of = subst (λ (ls : ResolvedLegs). IsJobOf at (legs_in ls) j.head j.run) (sym h.legs_are) (record {
        tenant = h.tenant_is ∙ sym owner;
        leg = omega (arith, own, inside);
        run_is = run_at at.asked.query.grid rs (j.head.job / legs_in legs) j.run runs h.head.run_is;
        first = h.head.first;
        last = h.head.last;
      });
    }

-- planned jobs are those of their query
pub jobs_planned : (journal : List Entry) (l : Limits) (tenant query : ℕ) (at : Open) (legs : ResolvedLegs) (rs : List GridData) (snap : SnapData) (k : ℕ) (js : List Job)
    → opened_at journal query ≡ Some at → at.tenant ≡ tenant → IsLegsOf l at legs snap → Each (IsRunOf at.asked.query.grid) rs
    → EachAt (IsPlanned tenant query legs rs snap) k js → Each (JobStands journal l) js
jobs_planned journal l tenant query at legs rs snap k [] asked owner is runs h = tt
jobs_planned journal l tenant query at legs rs snap k (j ∷ js) asked owner is runs h = (
  job_planned journal l tenant query at legs rs snap k j asked owner is runs h.0,
  jobs_planned journal l tenant query at legs rs snap (k + 1) js asked owner is runs h.1,
)

-- ---- slots

pub empty_unfilled : (n i : ℕ) (part : Part) → slice_get (empty_slots n) i ≡ Some (Filled part) → ⊥
empty_unfilled zero i part g = cc
empty_unfilled (suc n) zero part g = cc
empty_unfilled (suc n) (suc i) part g = empty_unfilled n i part g

pub handed_unfilled : (slots : List Slot) (i : ℕ) (part : Part) → slice_get (map (λ (s : Slot). Handed) slots) i ≡ Some (Filled part) → ⊥
handed_unfilled [] i part g = cc
handed_unfilled (s ∷ slots) zero part g = cc
handed_unfilled (s ∷ slots) (suc i) part g = handed_unfilled slots i part g

pub part_in : (parts : List Part) (i : ℕ) (part : Part) → slice_get parts i ≡ Some part → slice_get (map (λ (p : Part). Filled p) parts) i ≡ Some (Filled part)
part_in [] i part g = cc
part_in (p ∷ ps) zero part g = let e : p ≡ part = cc in ap (λ (x : Part). Some (Filled x)) e
part_in (p ∷ ps) (suc i) part g = part_in ps i part g

-- a part is in the slot in which it was put, and else in the slot that held it
pub filled_at : (slots : List Slot) (job i : ℕ) (part p : Part) → job < length slots → slice_get (slice_set slots job (Filled part)) i ≡ Some (Filled p)
    → ((i ≡ job) × (part ≡ p)) ⊎ (slice_get slots i ≡ Some (Filled p))
filled_at slots job i part p inside g = elim (bool_cases (nat_eq i job)) [
  | inl t ↦
      let same : i ≡ job = grind (arith, nat_tests, t) in
      let here : slice_get (slice_set slots job (Filled part)) i ≡ Some (Filled part) =
      subst (λ x. slice_get (slice_set slots job (Filled part)) x ≡ Some (Filled part)) (sym same) (get_set_same slots job (Filled part) inside) in
      let both : Some (Filled part) ≡ Some (Filled p) = sym here ∙ g in
      let equal : part ≡ p = cc in
      inl (same, equal)
  | inr t ↦
      let other : i ≡ job → ⊥ = λ e. grind (arith, nat_tests, t, e) in
      inr (sym (get_set_other slots job i (Filled part) other) ∙ g)
]

-- a fact of each by its place
pub each_placed : {X : Type 0} (P : X → Type 0) (xs : List X) → ((i : ℕ) (x : X) → slice_get xs i ≡ Some x → P x) → Each P xs
each_placed P [] h = tt
each_placed P (x ∷ xs) h = (h 0 x refl, each_placed P xs (λ i y e. h (suc i) y e))

pub length_filled : (parts : List Part) → length (map (λ (p : Part). Filled p) parts) ≡ length parts
length_filled [] = refl
length_filled (p ∷ ps) = ap suc (length_filled ps)
