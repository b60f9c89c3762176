-- How often the jobs of queries failed: what is kept of each query covers its jobs after each kind of change. This project's own.
use Rattle.std.proofs.Common.{◌≡◌, ◌∙◌, ℕ, ◌+◌, ◌≤◌, ◌⊎◌, ◌||◌, inl, inr, Bool, true, false, cond, nat_eq, Option, Some, None, List, [], ◌∷◌, ◌++◌, filter, refl, sym, ap, subst, arith}
use Rattle.std.proofs.lemmas.List.Sums.{sum_by-append, sum_by-cons, sum_by_push}
use Rattle.std.proofs.Math.Nat.{min-eq_left, min-eq_right}
use Rattle.std.specs.Option.{option_map}
use Rattle.std.specs.Prelude.{count_by, sum_by}
use Rattle.pf_base.specs.GridLists.{GridData}
use Rattle.pf_base.specs.declared.plain.JobHead.{JobHead}
use Rattle.pf_block.specs.Snaps.{SnapData}
use Rattle.pf_shard.specs.Lawful.{ResolvedLegs}
use Rattle.pf_query.specs.Entries.{most_tries, one_more, stop_after, with_change}
use Rattle.pf_query.specs.Jobs.{hand_of, has_hand, is_hand, is_other_job, job_of_held, without_hand}
use Rattle.pf_query.specs.Queueing.{AreSame, AreWith, IsTaken, hands_in, waiting_in}
use Rattle.pf_query.specs.Tables.{AreTried, is_of, last_tries, tried_by, tries_in_hand, tries_with, tries_waiting}
use Rattle.pf_query.specs.Works.{EachAt, IsPlanned}
use Rattle.pf_query.specs.declared.entry.Entry.{Entry}
use Rattle.pf_query.specs.declared.job.Hand.{Hand}
use Rattle.pf_query.specs.declared.job.Held.{Held}
use Rattle.pf_query.specs.declared.job.Job.{Job}
use Rattle.pf_query.specs.declared.queues.Queues.{Queues}
use Rattle.pf_query.specs.declared.stop.Stop.{Stop}
use Rattle.pf_query.specs.declared.stop.Stop.TheVariants.{Cancelled, Exhausted, Starved}
use Rattle.pf_query.proofs.Entering.{Raw}
use Rattle.pf_query.proofs.Naming.{eq_apart, eq_same, hand_is, num_cases, num_within}
use Rattle.pf_query.proofs.Tallies.{count_cons}

-- ---- sums over lists

module _ {X : Type 0} (f : X → ℕ) where
  filtered_by : (x : X) (xs ys : List X) (b : Bool) → sum_by f ys ≤ sum_by f xs → sum_by f (cond b (x ∷ ys) ys) ≤ sum_by f (x ∷ xs)
  filtered_by x xs ys true h = let a = sum_by-cons f x xs in let b = sum_by-cons f x ys in omega (arith, a, b, h)
  filtered_by x xs ys false h = let a = sum_by-cons f x xs in omega (arith, a, h)

  sum_filtered : (p : X → Bool) (xs : List X) → sum_by f (filter p xs) ≤ sum_by f xs
  sum_filtered p [] = omega arith
  sum_filtered p (x ∷ xs) = filtered_by x xs (filter p xs) (p x) (sum_filtered p xs)

module _ (f : Hand → ℕ) where
  fewer_by : (h x : Hand) (xs ys : List Hand) (b : Bool) → sum_by f ys ≤ sum_by f xs → sum_by f (cond b xs (x ∷ ys)) ≤ sum_by f (x ∷ xs)
  fewer_by h x xs ys true k = let a = sum_by-cons f x xs in omega (arith, a)
  fewer_by h x xs ys false k = let a = sum_by-cons f x xs in let b = sum_by-cons f x ys in omega (arith, a, b, k)

  sum_fewer : (h : Hand) (hs : List Hand) → sum_by f (without_hand h hs) ≤ sum_by f hs
  sum_fewer h [] = omega arith
  sum_fewer h (x ∷ xs) = fewer_by h x xs (without_hand h xs) (is_hand x h) (sum_fewer h xs)

  less_by : (h x : Hand) (xs ys : List Hand) (b : Bool) → is_hand x h ≡ b → (b || has_hand h xs) ≡ true
      → (has_hand h xs ≡ true → sum_by f ys + f h ≡ sum_by f xs)
      → sum_by f (cond b xs (x ∷ ys)) + f h ≡ sum_by f (x ∷ xs)
  less_by h x xs ys true e t k =
      let a = sum_by-cons f x xs in
      let s : f x ≡ f h = ap f (hand_is x h e) in omega (arith, a, s)
  less_by h x xs ys false e t k =
      let a = sum_by-cons f x xs in
      let b = sum_by-cons f x ys in
      let r = k t in omega (arith, a, b, r)

  -- that of a hand less
  sum_without : (h : Hand) (hs : List Hand) → has_hand h hs ≡ true → sum_by f (without_hand h hs) + f h ≡ sum_by f hs
  sum_without h [] t = absurd cc
  sum_without h (x ∷ xs) t = less_by h x xs (without_hand h xs) (is_hand x h) refl t (sum_without h xs)

-- ---- the tries of a query's jobs

-- of its own job, all tries; of another's, none
pub own_tries : (q : ℕ) (h : JobHead) → h.query ≡ q → tries_with q h ≡ h.tries
own_tries q h e = ap (λ b. cond b h.tries 0) (ap (λ x. nat_eq x q) e ∙ eq_same q)

pub others_tries : (p : ℕ) (h : JobHead) → (p ≡ h.query → ⊥) → tries_with p h ≡ 0
others_tries p h d = ap (λ b. cond b h.tries 0) (eq_apart h.query p (λ e. d (sym e)))

-- none where none of the jobs is one of it
untried_by : (b : Bool) (n m t : ℕ) → n ≡ cond b 1 0 + m → n ≡ 0 → (m ≡ 0) × (cond b t 0 ≡ 0)
untried_by true n m t e h = absurd (omega (arith, e, h))
untried_by false n m t e h = (omega (arith, e, h), refl)

module _ {X : Type 0} (head : X → JobHead) (q : ℕ) where
  sum_none : (xs : List X) → count_by (λ x. is_of q (head x)) xs ≡ 0 → sum_by (λ x. tries_with q (head x)) xs ≡ 0
  sum_none [] h = refl
  sum_none (x ∷ xs) h =
      let c = count_cons (λ y. is_of q (head y)) x xs in
      let r = untried_by (is_of q (head x)) (count_by (λ y. is_of q (head y)) (x ∷ xs)) (count_by (λ y. is_of q (head y)) xs) (head x).tries c h in
      let one = r.1 in
      let rest = sum_none xs r.0 in
      let a = sum_by-cons (λ y. tries_with q (head y)) x xs in omega (arith, a, one, rest)

pub none_waiting : (q : ℕ) (js : List Job) → count_by (λ j. is_of q j.head) js ≡ 0 → tries_waiting q js ≡ 0
none_waiting q js h = sum_none (λ (j : Job). j.head) q js h

pub none_in_hand : (q : ℕ) (xs : List Hand) → count_by (λ x. is_of q x.head) xs ≡ 0 → tries_in_hand q xs ≡ 0
none_in_hand q xs h = sum_none (λ (x : Hand). x.head) q xs h

no_tries : (b : Bool) (n : ℕ) → n ≡ 0 → cond b n 0 ≡ 0
no_tries true n e = e
no_tries false n e = refl

-- planned jobs were not tried
pub planned_untried : (p u q : ℕ) (legs : ResolvedLegs) (rs : List GridData) (snap : SnapData) (number : ℕ) (js : List Job)
    → EachAt (IsPlanned u q legs rs snap) number js → tries_waiting p js ≡ 0
planned_untried p u q legs rs snap number [] h = refl
planned_untried p u q legs rs snap number (j ∷ js) h =
    let a = sum_by-cons (λ (x : Job). tries_with p x.head) j js in
    let one = no_tries (is_of p j.head) j.head.tries h.0.untried in
    let rest = planned_untried p u q legs rs snap (number + 1) js h.1 in omega (arith, a, one, rest)

-- ---- all queues

abbrev pub tries_at : Queues → (query tenant : ℕ) → ℕ
tries_at q p v = tries_waiting p (waiting_in q v) + tries_in_hand p (hands_in q v)

-- no query's jobs were tried more often
abbrev pub AreFewer : Queues → Queues → Type 0
AreFewer old new = (p v : ℕ) → tries_at new p v ≤ tries_at old p v

pub fewer_same : (old new : Queues) → AreSame old new → AreFewer old new
fewer_same old new s p v =
    let w = ap (λ js. tries_waiting p js) (s.queues v).waiting in
    let h = ap (λ xs. tries_in_hand p xs) (s.queues v).hands in omega (arith, w, h)

module _ (old new : Queues) (u : ℕ) (jobs : List Job) (held : List Hand) (order : List ℕ) (aw : AreWith old u jobs held order new) where
  pub tries_moved : (p v more : ℕ) → tries_waiting p jobs + tries_in_hand p held ≤ tries_at old p u + more → tries_at new p v ≤ tries_at old p v + more
  tries_moved p v more h = elim (num_cases v u) [
    | inl t ↦
        subst (λ x. tries_at new p x ≤ tries_at old p x + more) (sym t)
        (let w = ap (λ js. tries_waiting p js) aw.waiting in let k = ap (λ xs. tries_in_hand p xs) aw.hands in omega (arith, h, w, k))
    | inr d ↦
        let w = ap (λ js. tries_waiting p js) (aw.others v d).waiting in
        let k = ap (λ xs. tries_in_hand p xs) (aw.others v d).hands in omega (arith, w, k)
  ]

  pub fewer_with : ((p : ℕ) → tries_waiting p jobs + tries_in_hand p held ≤ tries_at old p u) → AreFewer old new
  fewer_with h p v = let a = tries_moved p v 0 (let b = h p in omega (arith, b)) in omega (arith, a)

-- a job went into a hand
pub fewer_taken : (old new : Queues) (actor : ℕ) (held : Held) → IsTaken old actor held new → AreFewer old new
fewer_taken old new actor held k =
    fewer_with old new k.tenant k.jobs _ _ k.left (λ p.
    let first = ap (λ js. tries_waiting p js) k.waiting ∙ sum_by-cons (λ (x : Job). tries_with p x.head) k.job k.jobs in
    let last = sum_by_push (λ (x : Hand). tries_with p x.head) (hands_in old k.tenant) (hand_of held) in
    let same = ap (λ (x : Held). tries_with p x.head) k.held_is in omega (arith, first, last, same))

-- jobs that were not tried wait behind the others
pub fewer_added : (old new : Queues) (u : ℕ) (jobs : List Job) (order : List ℕ) → AreWith old u (waiting_in old u ++ jobs) (hands_in old u) order new
    → ((p : ℕ) → tries_waiting p jobs ≡ 0) → AreFewer old new
fewer_added old new u jobs order aw none =
    fewer_with old new u _ _ _ aw (λ p.
    let a = sum_by-append (λ (x : Job). tries_with p x.head) (waiting_in old u) jobs in let z = none p in omega (arith, a, z))

-- one is in hand no more
pub fewer_released : (old new : Queues) (u : ℕ) (h : Hand) (order : List ℕ) → AreWith old u (waiting_in old u) (without_hand h (hands_in old u)) order new → AreFewer old new
fewer_released old new u h order aw =
    fewer_with old new u _ _ _ aw (λ p. let a = sum_fewer (λ x. tries_with p x.head) h (hands_in old u) in omega (arith, a))

-- none of a query's jobs waits, and these are in hand
pub fewer_left : (old new : Queues) (u q : ℕ) (hands : List Hand) (order : List ℕ) → AreWith old u (filter (is_other_job q) (waiting_in old u)) hands order new
    → ((p : ℕ) → tries_in_hand p hands ≤ tries_in_hand p (hands_in old u)) → AreFewer old new
fewer_left old new u q hands order aw h =
    fewer_with old new u _ _ _ aw (λ p.
    let a = sum_filtered (λ (x : Job). tries_with p x.head) (is_other_job q) (waiting_in old u) in let b = h p in omega (arith, a, b))

pub hand_fewer : (p : ℕ) (h : Hand) (hs : List Hand) → tries_in_hand p (without_hand h hs) ≤ tries_in_hand p hs
hand_fewer p h hs = sum_fewer (λ x. tries_with p x.head) h hs

pub hands_fewer : (p : ℕ) (f : Hand → Bool) (hs : List Hand) → tries_in_hand p (filter f hs) ≤ tries_in_hand p hs
hands_fewer p f hs = sum_filtered (λ (x : Hand). tries_with p x.head) f hs

-- one that was in hand waits, tried once more
module _ (old new : Queues) (held : Held) (order : List ℕ) (there : has_hand (hand_of held) (hands_in old held.head.tenant) ≡ true)
    (aw : AreWith old held.head.tenant (waiting_in old held.head.tenant ++ job_of_held (held.head.tries + 1) held ∷ [])
    (without_hand (hand_of held) (hands_in old held.head.tenant)) order new) where
  back_at : (p more : ℕ) → tries_with p (job_of_held (held.head.tries + 1) held).head ≤ tries_with p held.head + more
      → tries_waiting p (waiting_in old held.head.tenant ++ job_of_held (held.head.tries + 1) held ∷ [])
      + tries_in_hand p (without_hand (hand_of held) (hands_in old held.head.tenant)) ≤ tries_at old p held.head.tenant + more
  back_at p more h =
      let a = sum_by_push (λ (x : Job). tries_with p x.head) (waiting_in old held.head.tenant) (job_of_held (held.head.tries + 1) held) in
      let b = sum_without (λ x. tries_with p x.head) (hand_of held) (hands_in old held.head.tenant) there in omega (arith, a, b, h)

  pub back_others : (p v : ℕ) → (p ≡ held.head.query → ⊥) → tries_at new p v ≤ tries_at old p v
  back_others p v d =
      let x = others_tries p (job_of_held (held.head.tries + 1) held).head d in
      let a = tries_moved old new held.head.tenant _ _ _ aw p v 0 (back_at p 0 (omega (arith, x))) in omega (arith, a)

  pub back_own : (v : ℕ) → tries_at new held.head.query v ≤ tries_at old held.head.query v + 1
  back_own v =
      let x = own_tries held.head.query (job_of_held (held.head.tries + 1) held).head refl in
      let y = own_tries held.head.query held.head refl in
      tries_moved old new held.head.tenant _ _ _ aw held.head.query v 1 (back_at held.head.query 1 (omega (arith, x, y)))

-- one that was in hand goes, and none of its query's jobs waits
pub last_gone : (old new : Queues) (held : Held) (order : List ℕ) → has_hand (hand_of held) (hands_in old held.head.tenant) ≡ true
    → AreWith old held.head.tenant (filter (is_other_job held.head.query) (waiting_in old held.head.tenant))
    (without_hand (hand_of held) (hands_in old held.head.tenant)) order new
    → tries_at new held.head.query held.head.tenant + held.head.tries ≤ tries_at old held.head.query held.head.tenant
last_gone old new held order there aw =
    let q = held.head.query in
    let u = held.head.tenant in
    let a = sum_without (λ x. tries_with q x.head) (hand_of held) (hands_in old u) there in
    let b = sum_filtered (λ (x : Job). tries_with q x.head) (is_other_job q) (waiting_in old u) in
    let y = own_tries q held.head refl in
    let w = ap (λ js. tries_waiting q js) aw.waiting in
    let k = ap (λ xs. tries_in_hand q xs) aw.hands in omega (arith, a, b, y, w, k)

-- ---- what is kept of queries

abbrev pub AreAllTried : Raw → Queues → Type 0
AreAllTried K q = (query : ℕ) (e : Entry) → K query ≡ Some e → AreTried query (waiting_in q) (hands_in q) e

pub more_cases : (n : ℕ) → (most_tries ≤ one_more n) ⊎ (one_more n ≡ n + 1)
more_cases n = elim (num_within n most_tries) [
  | inl l ↦ inr (min-eq_left (omega (arith, l)))
  | inr l ↦ let e : one_more n ≡ most_tries = min-eq_right (omega (arith, l)) in inl (omega (arith, e))
]

pub more_most : (n : ℕ) → most_tries ≤ n → most_tries ≤ one_more n
more_most n h = let e : one_more n ≡ most_tries = min-eq_right (omega (arith, h)) in omega (arith, e)

-- as many tries are kept as before, of no more
pub tried_as : (p : ℕ) (old new : Queues) (e x : Entry) → x.tenant ≡ e.tenant → x.tried ≡ e.tried
    → tries_at new p e.tenant + last_tries x.stop ≤ tries_at old p e.tenant + last_tries e.stop
    → AreTried p (waiting_in old) (hands_in old) e → AreTried p (waiting_in new) (hands_in new) x
tried_as p old new e x t s l (inl m) = inl (omega (arith, m, s))
tried_as p old new e x t s l (inr m) =
    let at = ap (λ v. tries_at new p v) t in inr (omega (arith, m, s, l, at))

-- one more is kept, of one more at most
pub tried_more : (p : ℕ) (old new : Queues) (e x : Entry) → x.tenant ≡ e.tenant → x.tried ≡ one_more e.tried
    → tries_at new p e.tenant + last_tries x.stop ≤ tries_at old p e.tenant + last_tries e.stop + 1
    → AreTried p (waiting_in old) (hands_in old) e → AreTried p (waiting_in new) (hands_in new) x
tried_more p old new e x t s l (inl m) = let k = more_most e.tried m in inl (omega (arith, k, s))
tried_more p old new e x t s l (inr m) = elim (more_cases e.tried) [
  | inl k ↦ inl (omega (arith, k, s))
  | inr k ↦ let at = ap (λ v. tries_at new p v) t in inr (omega (arith, m, s, l, at, k))
]

mapped : (f : Entry → Entry) (o : Option Entry) (x : Entry) → option_map f o ≡ Some x → (e : Entry) × (o ≡ Some e) × (f e ≡ x)
mapped f None x h = cc
mapped f (Some e) x h = let same : f e ≡ x = cc in (e, refl, same)

module _ (K L : Raw) (q : ℕ) (f : Entry → Entry) (set : (p : ℕ) → L p ≡ with_change q f K p) where
  change_at : L q ≡ option_map f (K q)
  change_at = set q ∙ ap (λ b. cond b (option_map f (K q)) (K q)) (eq_same q)

  change_past : (p : ℕ) → (p ≡ q → ⊥) → L p ≡ K p
  change_past p d = set p ∙ ap (λ b. cond b (option_map f (K p)) (K p)) (eq_apart q p (λ e. d (sym e)))

  keeps_by : ((e : Entry) → (f e).tried ≡ e.tried) → (o : Option Entry) → tried_by (option_map f o) ≡ tried_by o
  keeps_by h None = refl
  keeps_by h (Some e) = h e

  pub keeps_tried : ((e : Entry) → (f e).tried ≡ e.tried) → (p : ℕ) → tried_by (L p) ≡ tried_by (K p)
  keeps_tried h p = elim (num_cases p q) [
    | inl t ↦ subst (λ x. tried_by (L x) ≡ tried_by (K x)) (sym t) (ap tried_by change_at ∙ keeps_by h (K q))
    | inr d ↦ ap tried_by (change_past p d)
  ]

  pub counts_try : (e : Entry) → K q ≡ Some e → (f e).tried ≡ one_more e.tried → (p : ℕ)
      → tried_by (L p) ≡ cond (nat_eq q p) (one_more (tried_by (K p))) (tried_by (K p))
  counts_try e was h p = elim (num_cases p q) [
    | inl t ↦
        subst (λ x. tried_by (L x) ≡ cond (nat_eq q x) (one_more (tried_by (K x))) (tried_by (K x))) (sym t)
        (ap tried_by (change_at ∙ ap (option_map f) was) ∙ h ∙ sym (ap (λ (o : Option Entry). one_more (tried_by o)) was)
        ∙ sym (ap (λ b. cond b (one_more (tried_by (K q))) (tried_by (K q))) (eq_same q)))
    | inr d ↦
        ap tried_by (change_past p d)
        ∙ sym (ap (λ b. cond b (one_more (tried_by (K p))) (tried_by (K p))) (eq_apart q p (λ e. d (sym e))))
  ]

  module _ (old new : Queues) (a : AreAllTried K old) where
    others_tried : ((p v : ℕ) → (p ≡ q → ⊥) → tries_at new p v ≤ tries_at old p v) → (p : ℕ) (x : Entry) → (p ≡ q → ⊥) → L p ≡ Some x
        → AreTried p (waiting_in new) (hands_in new) x
    others_tried less p x d h =
        tried_as p old new x x refl refl (let l = less p x.tenant d in omega (arith, l)) (a p x (sym (change_past p d) ∙ h))

    -- by what is kept of the query
    pub tried_change : ((p v : ℕ) → (p ≡ q → ⊥) → tries_at new p v ≤ tries_at old p v)
        → ((e : Entry) → K q ≡ Some e → AreTried q (waiting_in old) (hands_in old) e → AreTried q (waiting_in new) (hands_in new) (f e)) → AreAllTried L new
    tried_change less here p x h = elim (num_cases p q) [
      | inl t ↦
          let m = mapped f (K q) x (sym change_at ∙ subst (λ y. L y ≡ Some x) t h) in
          subst (λ y. AreTried y (waiting_in new) (hands_in new) x) (sym t)
          (subst (λ (y : Entry). AreTried q (waiting_in new) (hands_in new) y) m.2 (here m.0 m.1 (a q m.0 m.1)))
      | inr d ↦ others_tried less p x d h
    ]

    -- where as many are kept
    pub tried_after : AreFewer old new → ((e : Entry) → (f e).tenant ≡ e.tenant) → ((e : Entry) → (f e).tried ≡ e.tried)
        → ((e : Entry) → last_tries (f e).stop ≤ last_tries e.stop) → AreAllTried L new
    tried_after less t s l =
        tried_change (λ p v d. less p v)
        (λ e was k. tried_as q old new e (f e) (t e) (s e) (let m = less q e.tenant in let n = l e in omega (arith, m, n)) k)

    -- where one more is
    pub counted_more : AreFewer old new → ((e : Entry) → (f e).tenant ≡ e.tenant) → ((e : Entry) → (f e).tried ≡ one_more e.tried)
        → ((e : Entry) → last_tries (f e).stop ≤ last_tries e.stop) → AreAllTried L new
    counted_more less t s l =
        tried_change (λ p v d. less p v)
        (λ e was k. tried_more q old new e (f e) (t e) (s e) (let m = less q e.tenant in let n = l e in omega (arith, m, n)) k)

-- where nothing is changed that contracts see
pub tried_equal : (K L : Raw) (old new : Queues) → ((p : ℕ) → L p ≡ K p) → AreFewer old new → AreAllTried K old → AreAllTried L new
tried_equal K L old new same less a p x h =
    tried_as p old new x x refl refl (let l = less p x.tenant in omega (arith, l)) (a p x (sym (same p) ∙ h))

-- a stop that isn't by a job leaves no more tries to cover
pub not_more : (why : Stop) → last_tries (Some why) ≡ 0 → (s : Option Stop) → last_tries (Some (stop_after s why)) ≤ last_tries s
not_more (Cancelled place) h s = omega arith
not_more (Exhausted job) h s = absurd cc
not_more Starved h None = omega arith
not_more Starved h (Some first) = omega arith
