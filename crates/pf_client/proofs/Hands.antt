-- Jobs in hand, in the order of the takes, and as they are told.
use Rattle.std.proofs.Common.{◌≡◌, ℕ, suc, ◌+◌, ◌-◌, ◌≤◌, inl, inr, Bool, true, false, cond, nat_eq, not, Option, Some, None, List, [], ◌∷◌, ◌++◌, filter, option_map, refl, sym, ap, ◌∙◌, subst, arith}
use Rattle.std.proofs.lemmas.Bool.Decides.{nat_tests}
use Rattle.std.proofs.lemmas.List.Sums.{sum_by-cons}
use Rattle.pf_journal.specs.Turns as turns
use Rattle.pf_journal.specs.Turns.{hands_on, hands_without, holds}
use Rattle.pf_model.specs.Lists.{Each, first_with}
use Rattle.pf_query.proofs.Naming.{hand_is}
use Rattle.pf_query.specs.Jobs.{hand_of, has_hand, is_hand, without_hand}
use Rattle.pf_query.specs.Tables.{hands_with}
use Rattle.pf_query.specs.declared.job.Hand.{Hand}
use Rattle.pf_query.specs.declared.job.Held.{Held}
use Rattle.pf_client.proofs.Cases.{bool_cases}
use Rattle.pf_client.specs.Hands.{AreApart, AreInOrder, held_by, is_by, is_by_other, is_job_of, told_hand, told_onto}
pub use Rattle.pf_core.proofs.Outstanding.{each_filter}

-- ---- tests

-- a worker is told by its actor
same_worker : (w a : ℕ) → 16 ≤ a → nat_eq (a - 16) w ≡ nat_eq a (16 + w)
same_worker w a h = elim (bool_cases (nat_eq a (16 + w))) [
  | inl t ↦
      let e : a ≡ 16 + w = grind (arith, nat_tests, t) in
      let d : a - 16 ≡ w = omega (arith, e) in
      let s : nat_eq (a - 16) w ≡ true = grind (arith, nat_tests, d) in
      s ∙ sym t
  | inr t ↦ elim (bool_cases (nat_eq (a - 16) w)) [
    | inl u ↦
        let d : a - 16 ≡ w = grind (arith, nat_tests, u) in
        let e : a ≡ 16 + w = omega (arith, d, h) in
        let s : nat_eq a (16 + w) ≡ true = grind (arith, nat_tests, e) in
        let bad : true ≡ false = sym s ∙ t in
        cc
    | inr u ↦ u ∙ sym t
  ]
]

-- what is said of two hands is the same of a hand and itself
not_this : (x h : Hand) (a : ℕ) → nat_eq x.actor a ≡ false → nat_eq h.actor a ≡ true → is_hand x h ≡ false
not_this x h a other this = elim (bool_cases (is_hand x h)) [
  | inl t ↦
      let e : x ≡ h = hand_is x h t in
      let s : nat_eq x.actor a ≡ true = subst (λ (y : Hand). nat_eq y.actor a ≡ true) (sym e) this in
      let bad : true ≡ false = sym s ∙ other in
      cc
  | inr t ↦ t
]

self_hand : (h : Hand) → is_hand h h ≡ true
self_hand h = grind (arith, nat_tests)

-- ---- as they are told

-- a job that was taken last is told first
pub told-snoc : (told : List turns.Hand) (hs : List Hand) (h : Hand) → told_onto told (hs ++ h ∷ []) ≡ told_hand h ∷ told_onto told hs
told-snoc told [] h = refl
told-snoc told (x ∷ hs) h = told-snoc (told_hand x ∷ told) hs h

-- without a worker's
pub others_onto : (w : ℕ) (told : List turns.Hand) (hs : List Hand) → Each (λ h. 16 ≤ h.actor) hs
    → hands_without w (told_onto told hs) ≡ told_onto (hands_without w told) (filter (is_by_other w) hs)
others_onto w told [] h = refl
others_onto w told (x ∷ hs) h = others_onto w (told_hand x ∷ told) hs h.1 ∙ by (nat_eq x.actor (16 + w)) refl where
  by : (b : Bool) → nat_eq x.actor (16 + w) ≡ b
      → told_onto (hands_without w (told_hand x ∷ told)) (filter (is_by_other w) hs) ≡ told_onto (hands_without w told) (filter (is_by_other w) (x ∷ hs))
  by true e = let t : nat_eq (x.actor - 16) w ≡ true = same_worker w x.actor h.0 ∙ e in rw t (rw e refl)
  by false e = let t : nat_eq (x.actor - 16) w ≡ false = same_worker w x.actor h.0 ∙ e in rw t (rw e refl)

holds_kept : (w : ℕ) (told : List turns.Hand) (hs : List Hand) → holds w told ≡ true → holds w (told_onto told hs) ≡ true
holds_kept w told [] h = h
holds_kept w told (x ∷ hs) h = holds_kept w (told_hand x ∷ told) hs (either (nat_eq (x.actor - 16) w)) where
  either : (b : Bool) → cond b true (holds w told) ≡ true
  either true = refl
  either false = h

-- a worker has a job
pub holds_found : (w : ℕ) (told : List turns.Hand) (hs : List Hand) (h : Hand) → Each (λ x. 16 ≤ x.actor) hs → first_with (is_by w) hs ≡ Some h
    → holds w (told_onto told hs) ≡ true
holds_found w told [] h each f = cc
holds_found w told (x ∷ hs) h each f = elim (bool_cases (nat_eq x.actor (16 + w))) [
  | inl t ↦
      let s : nat_eq (x.actor - 16) w ≡ true = same_worker w x.actor each.0 ∙ t in
      holds_kept w (told_hand x ∷ told) hs (rw s refl)
  | inr t ↦ let g : first_with (is_by w) hs ≡ Some h = rw t at f in holds_found w (told_hand x ∷ told) hs h each.1 g
]

-- and has none
pub holds_none : (w : ℕ) (told : List turns.Hand) (hs : List Hand) → Each (λ x. 16 ≤ x.actor) hs → first_with (is_by w) hs ≡ None
    → holds w told ≡ false → holds w (told_onto told hs) ≡ false
holds_none w told [] each f h = h
holds_none w told (x ∷ hs) each f h = elim (bool_cases (nat_eq x.actor (16 + w))) [
  | inl t ↦ let g = rw t at f in cc
  | inr t ↦
      let g : first_with (is_by w) hs ≡ None = rw t at f in
      let s : nat_eq (x.actor - 16) w ≡ false = same_worker w x.actor each.0 ∙ t in
      holds_none w (told_hand x ∷ told) hs each.1 g (rw s h)
]

-- ---- how many are of a query

hands_with-cons : (q : ℕ) (x : Hand) (hs : List Hand) → hands_with q (x ∷ hs) ≡ cond (nat_eq x.head.query q) 1 0 + hands_with q hs
hands_with-cons q x hs = sum_by-cons (λ (h : Hand). cond (nat_eq h.head.query q) 1 0) x hs

pub hands_on_onto : (q : ℕ) (told : List turns.Hand) (hs : List Hand) → hands_on q (told_onto told hs) ≡ hands_on q told + hands_with q hs
hands_on_onto q told [] = omega arith
hands_on_onto q told (x ∷ hs) =
    let more = hands_on_onto q (told_hand x ∷ told) hs in
    let c = hands_with-cons q x hs in
    more ∙ by (nat_eq x.head.query q) ∙ ap (λ (n : ℕ). hands_on q told + n) (sym c) where
      by : (b : Bool) → cond b (suc (hands_on q told)) (hands_on q told) + hands_with q hs ≡ hands_on q told + (cond b 1 0 + hands_with q hs)
      by true = omega arith
      by false = omega arith

filter_yes : (p : Hand → Bool) (x : Hand) (hs : List Hand) → p x ≡ true → filter p (x ∷ hs) ≡ x ∷ filter p hs
filter_yes p x hs t = rw t refl

pub filter_no : (p : Hand → Bool) (x : Hand) (hs : List Hand) → p x ≡ false → filter p (x ∷ hs) ≡ filter p hs
filter_no p x hs t = rw t refl

pub hands_with_filter : (q : ℕ) (hs : List Hand) → hands_with q (filter (is_job_of q) hs) ≡ hands_with q hs
hands_with_filter q [] = refl
hands_with_filter q (x ∷ hs) = elim (bool_cases (nat_eq x.head.query q)) [
  | inl t ↦
      let a = hands_with-cons q x (filter (is_job_of q) hs) in
      let b = hands_with-cons q x hs in
      ap (hands_with q) (filter_yes (is_job_of q) x hs t) ∙ a ∙ ap (λ (n : ℕ). cond (nat_eq x.head.query q) 1 0 + n) (hands_with_filter q hs) ∙ sym b
  | inr t ↦
      let b = hands_with-cons q x hs in
      let z : cond (nat_eq x.head.query q) 1 0 + hands_with q hs ≡ hands_with q hs = rw t (omega arith) in
      ap (hands_with q) (filter_no (is_job_of q) x hs t) ∙ hands_with_filter q hs ∙ sym z ∙ sym b
]

-- ---- without one

-- a job of another query is none of these
pub absent : (q : ℕ) (h : Hand) (hs : List Hand) → is_job_of q h ≡ false → without_hand h (filter (is_job_of q) hs) ≡ filter (is_job_of q) hs
absent q h [] other = refl
absent q h (x ∷ hs) other = elim (bool_cases (nat_eq x.head.query q)) [
  | inl t ↦
      let n : is_hand x h ≡ false = differs t in
      rw t (rw n (ap (λ ys. x ∷ ys) (absent q h hs other)))
  | inr t ↦ rw t (absent q h hs other)
] where
  differs : nat_eq x.head.query q ≡ true → is_hand x h ≡ false
  differs t = elim (bool_cases (is_hand x h)) [
    | inl u ↦
        let e : x ≡ h = hand_is x h u in
        let s : nat_eq h.head.query q ≡ true = subst (λ (y : Hand). nat_eq y.head.query q ≡ true) e t in
        let bad : true ≡ false = sym s ∙ other in
        cc
    | inr u ↦ u
  ]

-- without a job, of the jobs of a query
pub filter_without : (q : ℕ) (h : Hand) (hs : List Hand) → filter (is_job_of q) (without_hand h hs) ≡ without_hand h (filter (is_job_of q) hs)
filter_without q h [] = refl
filter_without q h (x ∷ hs) = elim (bool_cases (is_hand x h)) [
  | inl t ↦ elim (bool_cases (nat_eq x.head.query q)) [
    | inl u ↦ rw t (rw u (rw t refl))
    | inr u ↦
        let e : x ≡ h = hand_is x h t in
        let o : is_job_of q h ≡ false = subst (λ (y : Hand). nat_eq y.head.query q ≡ false) e u in
        rw t (rw u (sym (absent q h hs o)))
  ]
  | inr t ↦ elim (bool_cases (nat_eq x.head.query q)) [
    | inl u ↦ rw t (rw u (rw t (ap (λ ys. x ∷ ys) (filter_without q h hs))))
    | inr u ↦ rw t (rw u (filter_without q h hs))
  ]
]

-- a job that is not in hand
pub without_none : (h : Hand) (hs : List Hand) → has_hand h hs ≡ false → without_hand h hs ≡ hs
without_none h [] n = refl
without_none h (x ∷ hs) n = elim (bool_cases (is_hand x h)) [
  | inl t ↦ let g = rw t at n in cc
  | inr t ↦ let g : has_hand h hs ≡ false = rw t at n in rw t (ap (λ ys. x ∷ ys) (without_none h hs g))
]

pub without_other : (q : ℕ) (h : Hand) (hs : List Hand) → is_job_of q h ≡ false → filter (is_job_of q) (without_hand h hs) ≡ filter (is_job_of q) hs
without_other q h hs other = filter_without q h hs ∙ absent q h hs other

-- without the jobs of another query
pub filter_others : (q other : ℕ) (hs : List Hand) → nat_eq other q ≡ false
    → filter (is_job_of q) (filter (λ (h : Hand). not (nat_eq h.head.query other)) hs) ≡ filter (is_job_of q) hs
filter_others q other [] n = refl
filter_others q other (x ∷ hs) n = elim (bool_cases (nat_eq x.head.query other)) [
  | inl t ↦
      let e : x.head.query ≡ other = grind (arith, nat_tests, t) in
      let u : nat_eq x.head.query q ≡ false = subst (λ (i : ℕ). nat_eq i q ≡ false) (sym e) n in
      rw t (rw u (filter_others q other hs n))
  | inr t ↦ elim (bool_cases (nat_eq x.head.query q)) [
    | inl u ↦ rw t (rw u (ap (λ ys. x ∷ ys) (filter_others q other hs n)))
    | inr u ↦ rw t (rw u (filter_others q other hs n))
  ]
]

-- ---- by actor

all_others : (w : ℕ) (hs : List Hand) → Each (λ h. nat_eq h.actor (16 + w) ≡ false) hs → filter (is_by_other w) hs ≡ hs
all_others w [] h = refl
all_others w (x ∷ hs) h = rw h.0 (ap (λ ys. x ∷ ys) (all_others w hs h.1))

pub none_by : (w : ℕ) (hs : List Hand) → first_with (is_by w) hs ≡ None → Each (λ h. nat_eq h.actor (16 + w) ≡ false) hs
none_by w [] f = tt
none_by w (x ∷ hs) f = elim (bool_cases (nat_eq x.actor (16 + w))) [
  | inl t ↦ let g = rw t at f in cc
  | inr t ↦ let g : first_with (is_by w) hs ≡ None = rw t at f in (t, none_by w hs g)
]

each_as : (a b : ℕ) (hs : List Hand) → a ≡ b → Each (λ (h : Hand). nat_eq h.actor a ≡ false) hs → Each (λ (h : Hand). nat_eq h.actor b ≡ false) hs
each_as a b hs e h = subst (λ (c : ℕ). Each (λ (h : Hand). nat_eq h.actor c ≡ false) hs) e h

-- the only job of a worker is left out by its actor
pub without_is : (w : ℕ) (hs : List Hand) (h : Hand) → AreApart hs → first_with (is_by w) hs ≡ Some h → without_hand h hs ≡ filter (is_by_other w) hs
without_is w [] h apart f = cc
without_is w (x ∷ hs) h apart f = elim (bool_cases (nat_eq x.actor (16 + w))) [
  | inl t ↦
      let g : Some x ≡ Some h = rw t at f in
      let e : x ≡ h = cc in
      let a : x.actor ≡ 16 + w = grind (arith, nat_tests, t) in
      let s : is_hand x h ≡ true = subst (λ (y : Hand). is_hand x y ≡ true) e (self_hand x) in
      rw s (rw t (sym (all_others w hs (each_as x.actor (16 + w) hs a apart.0))))
  | inr t ↦
      let g : first_with (is_by w) hs ≡ Some h = rw t at f in
      let n : is_hand x h ≡ false = not_this x h (16 + w) t (found_by w hs h g) in
      rw n (rw t (ap (λ ys. x ∷ ys) (without_is w hs h apart.1 g)))
] where
  found_by : (w : ℕ) (ys : List Hand) (h : Hand) → first_with (is_by w) ys ≡ Some h → nat_eq h.actor (16 + w) ≡ true
  found_by w [] h f = cc
  found_by w (y ∷ ys) h f = elim (bool_cases (nat_eq y.actor (16 + w))) [
    | inl t ↦
        let g : Some y ≡ Some h = rw t at f in
        let e : y ≡ h = cc in
        subst (λ (z : Hand). nat_eq z.actor (16 + w) ≡ true) e t
    | inr t ↦ let g : first_with (is_by w) ys ≡ Some h = rw t at f in found_by w ys h g
  ]

apart_filter : (p : Hand → Bool) (hs : List Hand) → AreApart hs → AreApart (filter p hs)
apart_filter p [] h = tt
apart_filter p (x ∷ hs) h = elim (bool_cases (p x)) [
  | inl t ↦ rw t (each_filter (λ (y : Hand). nat_eq y.actor x.actor ≡ false) p hs h.0, apart_filter p hs h.1)
  | inr t ↦ rw t (apart_filter p hs h.1)
]

apart-snoc : (hs : List Hand) (h : Hand) → AreApart hs → Each (λ x. nat_eq x.actor h.actor ≡ false) hs → AreApart (hs ++ h ∷ [])
apart-snoc [] h apart n = (tt, tt)
apart-snoc (x ∷ hs) h apart n = (each_more hs apart.0, apart-snoc hs h apart.1 n.1) where
  flipped : nat_eq h.actor x.actor ≡ false
  flipped = let f = n.0 in grind (arith, nat_tests, f)

  each_more : (ys : List Hand) → Each (λ (y : Hand). nat_eq y.actor x.actor ≡ false) ys → Each (λ (y : Hand). nat_eq y.actor x.actor ≡ false) (ys ++ h ∷ [])
  each_more [] e = (flipped, tt)
  each_more (y ∷ ys) e = (e.0, each_more ys e.1)

-- a worker's job is not found among the others'
left_same : (w : ℕ) (hs : List Hand) → first_with (is_by w) (filter (is_by_other w) hs) ≡ None
left_same w [] = refl
left_same w (x ∷ hs) = elim (bool_cases (nat_eq x.actor (16 + w))) [
  | inl t ↦ rw t (left_same w hs)
  | inr t ↦ rw t (rw t (left_same w hs))
]

left_other : (w v : ℕ) (hs : List Hand) → nat_eq w v ≡ false → first_with (is_by v) (filter (is_by_other w) hs) ≡ first_with (is_by v) hs
left_other w v [] n = refl
left_other w v (x ∷ hs) n = elim (bool_cases (nat_eq x.actor (16 + w))) [
  | inl t ↦
      let u : nat_eq x.actor (16 + v) ≡ false = grind (arith, nat_tests, t, n) in
      rw t (rw u (left_other w v hs n))
  | inr t ↦ rw t (ap (cond (nat_eq x.actor (16 + v)) (Some x)) (left_other w v hs n))
]

last_by : (w : ℕ) (hs : List Hand) (h : Hand) → first_with (is_by w) hs ≡ None → nat_eq h.actor (16 + w) ≡ true → first_with (is_by w) (hs ++ h ∷ []) ≡ Some h
last_by w [] h f t = rw t refl
last_by w (x ∷ hs) h f t = elim (bool_cases (nat_eq x.actor (16 + w))) [
  | inl e ↦ let g = rw e at f in cc
  | inr e ↦ let g : first_with (is_by w) hs ≡ None = rw e at f in rw e (last_by w hs h g t)
]

first_by : (v : ℕ) (hs : List Hand) (h : Hand) → nat_eq h.actor (16 + v) ≡ false → first_with (is_by v) (hs ++ h ∷ []) ≡ first_with (is_by v) hs
first_by v [] h t = rw t refl
first_by v (x ∷ hs) h t = ap (cond (nat_eq x.actor (16 + v)) (Some x)) (first_by v hs h t)

-- ---- in the order of the takes

none_mapped : (o : Option Held) → o ≡ None → option_map hand_of o ≡ None
none_mapped o e = rw e refl

-- a further job
pub order_taken : (held held' : List (Option Held)) (order : List Hand) (w : ℕ) (j : Held) → AreInOrder held order → held_by held w ≡ None → j.actor ≡ 16 + w
    → ((v : ℕ) → held_by held' v ≡ cond (nat_eq w v) (Some j) (held_by held v)) → AreInOrder held' (order ++ hand_of j ∷ [])
order_taken held held' order w j h vacant actor now =
    let none : first_with (is_by w) order ≡ None = h.found w ∙ none_mapped (held_by held w) vacant in
    let here : nat_eq j.actor (16 + w) ≡ true = grind (arith, nat_tests, actor) in
    record {
      found = λ v. elim (bool_cases (nat_eq w v)) [
        | inl t ↦
            let e : w ≡ v = grind (arith, nat_tests, t) in
            let there : held_by held' v ≡ Some j = now v ∙ rw t refl in
            subst (λ (i : ℕ). first_with (is_by i) (order ++ hand_of j ∷ []) ≡ Some (hand_of j)) e (last_by w order (hand_of j) none here) ∙ sym (ap (option_map hand_of) there)
        | inr t ↦
            let there : held_by held' v ≡ held_by held v = now v ∙ rw t refl in
            let off : nat_eq j.actor (16 + v) ≡ false = grind (arith, nat_tests, actor, t) in
            first_by v order (hand_of j) off ∙ h.found v ∙ sym (ap (option_map hand_of) there)
      ];
      workers = each_more order h.workers;
      apart = apart-snoc order (hand_of j) h.apart (each_as (16 + w) j.actor order (sym actor) (none_by w order none));
    } where
      each_more : (hs : List Hand) → Each (λ (x : Hand). 16 ≤ x.actor) hs → Each (λ (x : Hand). 16 ≤ x.actor) (hs ++ hand_of j ∷ [])
      each_more [] e = (omega (arith, actor), tt)
      each_more (x ∷ hs) e = (e.0, each_more hs e.1)

-- a job less
pub order_dropped : (held held' : List (Option Held)) (order : List Hand) (w : ℕ) → AreInOrder held order
    → ((v : ℕ) → held_by held' v ≡ cond (nat_eq w v) None (held_by held v)) → AreInOrder held' (filter (is_by_other w) order)
order_dropped held held' order w h now = record {
  found = λ v. elim (bool_cases (nat_eq w v)) [
    | inl t ↦
        let e : w ≡ v = grind (arith, nat_tests, t) in
        let there : held_by held' v ≡ None = now v ∙ rw t refl in
        subst (λ (i : ℕ). first_with (is_by i) (filter (is_by_other w) order) ≡ None) e (left_same w order) ∙ sym (ap (option_map hand_of) there)
    | inr t ↦
        let there : held_by held' v ≡ held_by held v = now v ∙ rw t refl in
        left_other w v order t ∙ h.found v ∙ sym (ap (option_map hand_of) there)
  ];
  workers = each_filter (λ (x : Hand). 16 ≤ x.actor) (is_by_other w) order h.workers;
  apart = apart_filter (is_by_other w) order h.apart;
}

-- the same jobs
pub order_same : (held held' : List (Option Held)) (order : List Hand) → held' ≡ held → AreInOrder held order → AreInOrder held' order
order_same held held' order same h = subst (λ (xs : List (Option Held)). AreInOrder xs order) (sym same) h

-- a worker without a job has none that is told
pub told_taken : (w : ℕ) (order : List Hand) → Each (λ h. 16 ≤ h.actor) order → first_with (is_by w) order ≡ None → hands_without w (told_onto [] order) ≡ told_onto [] order
told_taken w order workers none = others_onto w [] order workers ∙ ap (told_onto []) (all_others w order (none_by w order none))
