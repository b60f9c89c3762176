-- What is kept of queries and the queues agree after a change at one query and its tenant. This project's own.
use Rattle.std.proofs.Common.{◌≡◌, ◌∙◌, ℕ, inl, inr, false, Option, Some, None, List, refl, sym, ap, subst}
use Rattle.std.specs.Prelude.{count_by}
use Rattle.pf_base.specs.GridLists.{GridData}
use Rattle.pf_base.specs.declared.plain.JobHead.{JobHead}
use Rattle.pf_model.specs.Lists.{Each}
use Rattle.pf_shard.specs.Lawful.{ResolvedLegs}
use Rattle.pf_query.specs.Tables.{Agree, EntryData, IsEntry, IsInHand, IsPlaced, IsWaiting, hands_named, is_of, jobs_named}
use Rattle.pf_query.specs.Works.{IsHeadOf, WorkData}
use Rattle.pf_query.specs.declared.job.Hand.{Hand}
use Rattle.pf_query.specs.declared.job.Job.{Job}
use Rattle.pf_query.specs.declared.stop.Stop.{Stop}
use Rattle.pf_query.proofs.Naming.{eq_apart, num_cases}
use Rattle.pf_query.proofs.Tallies.{count_none, each_map}

abbrev pub Kept : Type 0
Kept = ℕ → Option EntryData

abbrev pub entry_with : ℕ → Option Stop → Option WorkData → EntryData
entry_with tenant stop work = record { tenant = tenant; stop = stop; work = work }

-- ---- the entry of a job

-- one with this tenant and a plan over the same legs and runs
pub record Goes (E : Kept) (q v : ℕ) (w : WorkData) : Type 0 where
  pub stop : Option Stop
  pub work : WorkData
  pub entry : E q ≡ Some (entry_with v stop (Some work))
  pub legs : work.legs ≡ w.legs
  pub runs : work.runs ≡ w.runs

-- and one that isn't stopped
pub record GoesOn (E : Kept) (q v : ℕ) (w : WorkData) : Type 0 where
  pub work : WorkData
  pub entry : E q ≡ Some (entry_with v None (Some work))
  pub legs : work.legs ≡ w.legs
  pub runs : work.runs ≡ w.runs

head_of_same : (l m : ResolvedLegs) (rs ss : List GridData) (run : GridData) (h : JobHead) → m ≡ l → ss ≡ rs → IsHeadOf l rs run h → IsHeadOf m ss run h
head_of_same l m rs ss run h e f k =
    subst (λ (x : ResolvedLegs). IsHeadOf x ss run h) (sym e) (subst (λ (x : List GridData). IsHeadOf l x run h) (sym f) k)

pub waits_on : (E F : Kept) (v : ℕ) (j : Job) → ((w : WorkData) → E j.head.query ≡ Some (entry_with v None (Some w)) → GoesOn F j.head.query v w)
    → IsWaiting E v j → IsWaiting F v j
waits_on E F v j f h =
    let g = f h.work h.entry in
    record {
      work = g.work;
      entry = g.entry;
      tenant_is = h.tenant_is;
      run = h.run;
      head = head_of_same h.work.legs g.work.legs h.work.runs g.work.runs h.run j.head g.legs g.runs h.head;
    }

pub stays_in_hand : (E F : Kept) (v : ℕ) (x : Hand)
    → ((s : Option Stop) (w : WorkData) → E x.head.query ≡ Some (entry_with v s (Some w)) → Goes F x.head.query v w)
    → IsInHand E v x → IsInHand F v x
stays_in_hand E F v x f h =
    let g = f h.stop h.work h.entry in
    record {
      stop = g.stop;
      work = g.work;
      entry = g.entry;
      tenant_is = h.tenant_is;
      run = h.run;
      head = head_of_same h.work.legs g.work.legs h.work.runs g.work.runs h.run x.head g.legs g.runs h.head;
    }

-- nothing changed at this query
pub same_goes_on : (E F : Kept) (q v : ℕ) → F q ≡ E q → (w : WorkData) → E q ≡ Some (entry_with v None (Some w)) → GoesOn F q v w
same_goes_on E F q v e w h = record { work = w; entry = e ∙ h; legs = refl; runs = refl }

pub same_goes : (E F : Kept) (q v : ℕ) → F q ≡ E q → (s : Option Stop) (w : WorkData) → E q ≡ Some (entry_with v s (Some w)) → Goes F q v w
same_goes E F q v e s w h = record { stop = s; work = w; entry = e ∙ h; legs = refl; runs = refl }

some_is : (e f : EntryData) → Some e ≡ Some f → e ≡ f
some_is e f h = cc

some_work : (x y : WorkData) → Some x ≡ Some y → x ≡ y
some_work x y h = cc

pub entry_is : (o : Option EntryData) (e f : EntryData) → o ≡ Some e → o ≡ Some f → e ≡ f
entry_is o e f h k = some_is e f (sym h ∙ k)

-- another work over the same legs and runs is kept
module _ (E F : Kept) (q u : ℕ) (s t : Option Stop) (w x : WorkData) (was : E q ≡ Some (entry_with u s (Some w)))
    (set : F q ≡ Some (entry_with u t (Some x))) (legs : x.legs ≡ w.legs) (runs : x.runs ≡ w.runs) (entries : (p : ℕ) → (p ≡ q → ⊥) → F p ≡ E p) where
  pub goes_by : (p v : ℕ) (r : Option Stop) (y : WorkData) → E p ≡ Some (entry_with v r (Some y)) → Goes F p v y
  goes_by p v r y e = elim (num_cases p q) [
    | inl d ↦
        let same : entry_with u s (Some w) ≡ entry_with v r (Some y) =
        entry_is (E q) (entry_with u s (Some w)) (entry_with v r (Some y)) was (subst (λ z. E z ≡ Some (entry_with v r (Some y))) d e) in
        let tenant : u ≡ v = ap (λ (z : EntryData). z.tenant) same in
        let work : w ≡ y = some_work w y (ap (λ (z : EntryData). z.work) same) in
        record {
          stop = t;
          work = x;
          entry = subst (λ z. F z ≡ Some (entry_with v t (Some x))) (sym d) (subst (λ z. F q ≡ Some (entry_with z t (Some x))) tenant set);
          legs = legs ∙ ap (λ (z : WorkData). z.legs) work;
          runs = runs ∙ ap (λ (z : WorkData). z.runs) work;
        }
    | inr d ↦ same_goes E F p v (entries p d) r y e
  ]

module _ (E F : Kept) (q u : ℕ) (w x : WorkData) (was : E q ≡ Some (entry_with u None (Some w)))
    (set : F q ≡ Some (entry_with u None (Some x))) (legs : x.legs ≡ w.legs) (runs : x.runs ≡ w.runs) (entries : (p : ℕ) → (p ≡ q → ⊥) → F p ≡ E p) where
  pub goes_on_by : (p v : ℕ) (y : WorkData) → E p ≡ Some (entry_with v None (Some y)) → GoesOn F p v y
  goes_on_by p v y e = elim (num_cases p q) [
    | inl d ↦
        let same : entry_with u None (Some w) ≡ entry_with v None (Some y) =
        entry_is (E q) (entry_with u None (Some w)) (entry_with v None (Some y)) was (subst (λ z. E z ≡ Some (entry_with v None (Some y))) d e) in
        let tenant : u ≡ v = ap (λ (z : EntryData). z.tenant) same in
        let work : w ≡ y = some_work w y (ap (λ (z : EntryData). z.work) same) in
        record {
          work = x;
          entry = subst (λ z. F z ≡ Some (entry_with v None (Some x))) (sym d) (subst (λ z. F q ≡ Some (entry_with z None (Some x))) tenant set);
          legs = legs ∙ ap (λ (z : WorkData). z.legs) work;
          runs = runs ∙ ap (λ (z : WorkData). z.runs) work;
        }
    | inr d ↦ same_goes_on E F p v (entries p d) y e
  ]

-- another stop is kept
module _ (E F : Kept) (q : ℕ) (o : EntryData) (t : Option Stop) (was : E q ≡ Some o)
    (set : F q ≡ Some (entry_with o.tenant t o.work)) (entries : (p : ℕ) → (p ≡ q → ⊥) → F p ≡ E p) where
  pub goes_stopped : (p v : ℕ) (r : Option Stop) (y : WorkData) → E p ≡ Some (entry_with v r (Some y)) → Goes F p v y
  goes_stopped p v r y e = elim (num_cases p q) [
    | inl d ↦
        let same : o ≡ entry_with v r (Some y) = entry_is (E q) o (entry_with v r (Some y)) was (subst (λ z. E z ≡ Some (entry_with v r (Some y))) d e) in
        record {
          stop = t;
          work = y;
          entry = subst (λ z. F z ≡ Some (entry_with v t (Some y))) (sym d)
              (subst (λ (z : EntryData). F q ≡ Some (entry_with z.tenant t z.work)) same set);
          legs = refl;
          runs = refl;
        }
    | inr d ↦ same_goes E F p v (entries p d) r y e
  ]

-- ---- no job of a query that isn't planned

pub no_entry : (o : Option EntryData) (e : EntryData) → o ≡ None → o ≡ Some e → ⊥
no_entry o e h k = cc

-- what there is of a query isn't planned
abbrev pub Unplanned : Option EntryData → Type 0
Unplanned None = Unit {0}
Unplanned (Some e) = e.work ≡ None

pub never_planned : (o : Option EntryData) (v : ℕ) (s : Option Stop) (w : WorkData) → Unplanned o → o ≡ Some (entry_with v s (Some w)) → ⊥
never_planned None v s w u h = cc
never_planned (Some e) v s w u h =
    let same : e.work ≡ Some w = ap (λ (x : EntryData). x.work) (some_is e (entry_with v s (Some w)) h) in cc

of_by : (E : Kept) (q v n : ℕ) → Unplanned (E q) → (s : Option Stop) (w : WorkData) → E n ≡ Some (entry_with v s (Some w)) → n ≡ q → ⊥
of_by E q v n u s w h e = never_planned (E q) v s w u (subst (λ x. E x ≡ Some (entry_with v s (Some w))) e h)

pub no_job_of : (E : Kept) (q v : ℕ) (jobs : List Job) → Each (IsWaiting E v) jobs → Unplanned (E q) → count_by (λ j. is_of q j.head) jobs ≡ 0
no_job_of E q v jobs h u =
    count_none (λ j. is_of q j.head) jobs
    (each_map (IsWaiting E v) (λ j. is_of q j.head ≡ false) (λ j k. eq_apart j.head.query q (of_by E q v j.head.query u None k.work k.entry)) jobs h)

pub no_hand_of : (E : Kept) (q v : ℕ) (hands : List Hand) → Each (IsInHand E v) hands → Unplanned (E q) → count_by (λ x. is_of q x.head) hands ≡ 0
no_hand_of E q v hands h u =
    count_none (λ x. is_of q x.head) hands
    (each_map (IsInHand E v) (λ x. is_of q x.head ≡ false) (λ x k. eq_apart x.head.query q (of_by E q v x.head.query u k.stop k.work k.entry)) hands h)

-- ---- a change at one query and its tenant

tenant_not : (E : Kept) (q u v : ℕ) (s : Option Stop) (w : WorkData) → ((e : EntryData) → E q ≡ Some e → e.tenant ≡ u) → (v ≡ u → ⊥)
    → E q ≡ Some (entry_with v s (Some w)) → ⊥
tenant_not E q u v s w owned d h = d (owned (entry_with v s (Some w)) h)

-- the queues of other tenants, and the entries of other queries, are as they were; and so are the jobs of other queries
pub record Changes (E F : Kept) (W V : ℕ → List Job) (H G : ℕ → List Hand) (q u : ℕ) : Type 0 where
  pub owned : (e : EntryData) → E q ≡ Some e → e.tenant ≡ u
  pub entries : (p : ℕ) → (p ≡ q → ⊥) → F p ≡ E p
  pub waiting : (v : ℕ) → (v ≡ u → ⊥) → V v ≡ W v
  pub hands : (v : ℕ) → (v ≡ u → ⊥) → G v ≡ H v
  pub jobs_named : (p n : ℕ) → (p ≡ q → ⊥) → jobs_named p n (V u) ≡ jobs_named p n (W u)
  pub hands_named : (p n : ℕ) → (p ≡ q → ⊥) → hands_named p n (G u) ≡ hands_named p n (H u)

module _ (E F : Kept) (W V : ℕ → List Job) (H G : ℕ → List Hand) (q u : ℕ) (a : Agree E W H) (c : Changes E F W V H G q u) where
  others_wait : (v : ℕ) → (v ≡ u → ⊥) → Each (IsWaiting F v) (V v)
  others_wait v d =
      subst (λ (js : List Job). Each (IsWaiting F v) js) (sym (c.waiting v d))
      (each_map (IsWaiting E v) (IsWaiting F v) (λ j h. waits_on E F v j (same_goes_on E F j.head.query v (c.entries j.head.query (away j h))) h) (W v) (a.all_waiting v)) where
        away : (j : Job) → IsWaiting E v j → j.head.query ≡ q → ⊥
        away j h e = tenant_not E q u v None h.work c.owned d (subst (λ x. E x ≡ Some (entry_with v None (Some h.work))) e h.entry)

  others_held : (v : ℕ) → (v ≡ u → ⊥) → Each (IsInHand F v) (G v)
  others_held v d =
      subst (λ (xs : List Hand). Each (IsInHand F v) xs) (sym (c.hands v d))
      (each_map (IsInHand E v) (IsInHand F v) (λ x h. stays_in_hand E F v x (same_goes E F x.head.query v (c.entries x.head.query (away x h))) h) (H v) (a.all_in_hand v)) where
        away : (x : Hand) → IsInHand E v x → x.head.query ≡ q → ⊥
        away x h e = tenant_not E q u v h.stop h.work c.owned d (subst (λ y. E y ≡ Some (entry_with v h.stop (Some h.work))) e h.entry)

  placed_same : (e : EntryData) (n i j k l : ℕ) → k ≡ i → l ≡ j → IsPlaced e.stop e.work n i j → IsPlaced e.stop e.work n k l
  placed_same e n i j k l f g h = subst (λ x. IsPlaced e.stop e.work n x l) (sym f) (subst (λ x. IsPlaced e.stop e.work n i x) (sym g) h)

  other_placed : (p : ℕ) (e : EntryData) → (p ≡ q → ⊥) → IsEntry p W H e → (n : ℕ)
      → IsPlaced e.stop e.work n (jobs_named p n (V e.tenant)) (hands_named p n (G e.tenant))
  other_placed p e d h n = elim (num_cases e.tenant u) [
    | inl t ↦
        placed_same e n (jobs_named p n (W e.tenant)) (hands_named p n (H e.tenant)) (jobs_named p n (V e.tenant)) (hands_named p n (G e.tenant))
        (subst (λ x. jobs_named p n (V x) ≡ jobs_named p n (W x)) (sym t) (c.jobs_named p n d))
        (subst (λ x. hands_named p n (G x) ≡ hands_named p n (H x)) (sym t) (c.hands_named p n d)) (h.placed n)
    | inr f ↦
        placed_same e n (jobs_named p n (W e.tenant)) (hands_named p n (H e.tenant)) (jobs_named p n (V e.tenant)) (hands_named p n (G e.tenant))
        (ap (λ js. jobs_named p n js) (c.waiting e.tenant f)) (ap (λ xs. hands_named p n xs) (c.hands e.tenant f)) (h.placed n)
  ]

  other_kept : (p : ℕ) (e : EntryData) → (p ≡ q → ⊥) → E p ≡ Some e → IsEntry p V G e
  other_kept p e d h =
      let k = a.all_kept p e h in
      record { known = k.known; work = k.work; placed = other_placed p e d k }

  pub agree_after : Each (IsWaiting F u) (V u) → Each (IsInHand F u) (G u) → ((e : EntryData) → F q ≡ Some e → IsEntry q V G e) → Agree F V G
  agree_after jobs held here = record {
    all_waiting = λ v. elim (num_cases v u) [
      | inl t ↦ subst (λ x. Each (IsWaiting F x) (V x)) (sym t) jobs
      | inr d ↦ others_wait v d
    ];
    all_in_hand = λ v. elim (num_cases v u) [
      | inl t ↦ subst (λ x. Each (IsInHand F x) (G x)) (sym t) held
      | inr d ↦ others_held v d
    ];
    all_kept = λ p e h. elim (num_cases p q) [
      | inl t ↦ subst (λ x. IsEntry x V G e) (sym t) (here e (subst (λ x. F x ≡ Some e) t h))
      | inr d ↦ other_kept p e d (sym (c.entries p d) ∙ h)
    ];
  }
