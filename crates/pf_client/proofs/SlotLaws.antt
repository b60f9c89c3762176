-- What became of asks, as lines are run.
use Rattle.std.proofs.Common.{◌≡◌, ℕ, ◌<◌, ◌≤◌, ◌⊎◌, inl, inr, Bool, true, false, cond, nat_eq, Option, Some, None, List, [], ◌∷◌, ◌++◌, refl, sym, ap, ◌∙◌, subst, arith}
use Rattle.std.proofs.lemmas.Bool.{ne_eqb}
use Rattle.std.proofs.lemmas.Bool.Decides.{nat_tests}
use Rattle.std.specs.BTreeMap.{get}
use Rattle.std.specs.Ordering.{nat_cmp}
use Rattle.pf_base.specs.declared.plain.Limits.{Limits}
use Rattle.pf_core.specs.Cores.{CoreData, machine_of}
use Rattle.pf_journal.proofs.Opened.{IsAmong, all_own, asked_at, found_among, opened, opened_by}
use Rattle.pf_journal.specs.Asking.{Asked}
use Rattle.pf_journal.specs.Entered.{what_of}
use Rattle.pf_journal.specs.Legal.{Legal, Moment, moments}
use Rattle.pf_journal.specs.Machine.{Entry, Machine, Open, What, append, delete, ask, full, no_tenant, cancel, answer, open_at, started}
use Rattle.pf_journal.specs.Rest.{Known}
use Rattle.pf_journal.specs.Scripts.{Line, Numbered}
use Rattle.pf_journal.specs.Turns.{Ran, answer_of, asker_of, cancel_of, is_answer_of, moment_of, own_moments, place_of, ran_at}
use Rattle.pf_journal.specs.Unentered.{HasQuery}
use Rattle.pf_model.specs.Lists.{Each, first_with}
use Rattle.pf_script.specs.Lines.{IsAnswerOf, IsAsk, line_at}
use Rattle.pf_client.proofs.Cases.{bool_cases}
use Rattle.pf_client.proofs.Onward.{first_stays, last_with, own_with}
use Rattle.pf_client.specs.Asks.{HaveSlots, answers, is_query, IsAskAt, IsFullWhat, IsNoTenantWhat, SlotRight, Slots}
use Rattle.pf_client.specs.Clients.{moment_by}
use Rattle.pf_client.specs.declared.slots.Slot.{Slot}
use Rattle.pf_client.specs.declared.slots.Slot.TheVariants as slot

-- ---- one ask

-- a line answers no query that is kept of an ask
abbrev pub LeavesSlot : Option Slot → Option What → Type 0
LeavesSlot s entered = (q : ℕ) → s ≡ Some (slot.Asked q) → answers q entered ≡ false

ran_other : (k : ℕ) (above : List Ran) (r : Ran) → (r.line.number ≡ k → ⊥) → ran_at k (r ∷ above) ≡ ran_at k above
ran_other k above r h = rw (ne_eqb r.line.number k h) refl

moment_other : (k : ℕ) (own : List Moment) (m : Machine) (client n : ℕ) (entered : Option What) → (n ≡ k → ⊥)
    → moment_of k (own_with own m client n entered) ≡ moment_of k own
moment_other k own m client n None h = refl
moment_other k own m client n (Some what) h = first_stays _ own (moment_by m client n what) (ne_eqb n k h)

answer_other : (asked : Moment) (own : List Moment) (m : Machine) (client n : ℕ) (entered : Option What) → answers (place_of asked) entered ≡ false
    → answer_of (Some asked) (own_with own m client n entered) ≡ answer_of (Some asked) own
answer_other asked own m client n None h = refl
answer_other asked own m client n (Some what) h = first_stays _ own (moment_by m client n what) h

front_none : {X : Type 0} (p : X → Bool) (xs ys : List X) → first_with p (xs ++ ys) ≡ None → first_with p xs ≡ None
front_none p [] ys h = refl
front_none p (x ∷ xs) ys h = elim (bool_cases (p x)) [
  | inl t ↦ let g = rw t at h in cc
  | inr t ↦ let g = rw t at h in rw t (front_none p xs ys g)
]

unanswered_before : (asked : Option Moment) (own : List Moment) (m : Machine) (client n : ℕ) (entered : Option What)
    → answer_of asked (own_with own m client n entered) ≡ None → answer_of asked own ≡ None
unanswered_before None own m client n entered h = refl
unanswered_before (Some x) own m client n None h = h
unanswered_before (Some x) own m client n (Some what) h = front_none _ own (moment_by m client n what ∷ []) h

-- what is kept of an ask stays right
pub slot_stays : (known : Known) (above : List Ran) (r : Ran) (own : List Moment) (m : Machine) (client n : ℕ) (entered : Option What) (k : ℕ) (s : Option Slot)
    → (r.line.number ≡ k → ⊥) → (n ≡ k → ⊥) → LeavesSlot s entered → SlotRight known above own k s
    → SlotRight known (r ∷ above) (own_with own m client n entered) k s
slot_stays known above r own m client n entered k None other apart leaves h = λ a e.
    h (subst (λ (x : Option Moment). HasQuery (what_of x)) (moment_other k own m client n entered apart) a)
    (unanswered_before (moment_of k own) own m client n entered
    (subst (λ (x : Option Moment). answer_of x (own_with own m client n entered) ≡ None) (moment_other k own m client n entered apart) e))
slot_stays known above r own m client n entered k (Some (slot.Asked q)) other apart leaves h = record {
  asked = h.asked;
  there = moment_other k own m client n entered apart ∙ h.there;
  place = h.place;
  tenant = h.tenant;
  wanted = h.wanted;
  pin = h.pin;
  generation = h.generation;
  floor = h.floor;
  is = h.is;
  named = h.named ∙ ap (λ (x : Option Ran). Some (asker_of x)) (sym (ran_other k above r other));
  unanswered = answer_other h.asked own m client n entered (subst (λ (i : ℕ). answers i entered ≡ false) (sym h.place) (leaves q refl)) ∙ h.unanswered;
}
slot_stays known above r own m client n entered k (Some (slot.BadGrid e)) other apart leaves h = record {
  none = moment_other k own m client n entered apart ∙ h.none;
  ran = h.ran;
  there = ran_other k above r other ∙ h.there;
  told = h.told;
  text = h.text;
}
slot_stays known above r own m client n entered k (Some (slot.BadQuery e)) other apart leaves h = record {
  none = moment_other k own m client n entered apart ∙ h.none;
  ran = h.ran;
  there = ran_other k above r other ∙ h.there;
  told = h.told;
  text = h.text;
}
slot_stays known above r own m client n entered k (Some slot.Full) other apart leaves h =
    subst (λ (x : Option Moment). IsFullWhat (what_of x)) (sym (moment_other k own m client n entered apart)) h
slot_stays known above r own m client n entered k (Some slot.TooManyTenants) other apart leaves h =
    subst (λ (x : Option Moment). IsNoTenantWhat (what_of x)) (sym (moment_other k own m client n entered apart)) h
slot_stays known above r own m client n entered k (Some slot.NoMemory) other apart leaves h = record {
  none = moment_other k own m client n entered apart ∙ h.none;
  ran = h.ran;
  there = ran_other k above r other ∙ h.there;
  told = h.told;
}

-- ---- the query of an ask

-- what is open of a query that no line answered
pub record IsOpenIn (c : CoreData) (own : List Moment) (asked : Moment) (tenant query : ℕ) : Type 0 where
  pub open_query : Open
  pub is_open : open_at query (machine_of c).queries ≡ Some open_query
  pub owner : open_query.tenant ≡ tenant
  pub uncancelled : cancel_of (Some asked) own ≡ None → open_query.cancelled ≡ None
  pub cancelled : (y : Moment) → cancel_of (Some asked) own ≡ Some y → open_query.cancelled ≡ Some (place_of y)

opened_unanswered : (x : Moment) (u : ℕ) (wanted : Asked) (c a : Option Moment) → a ≡ None
    → (o : Open) × ((opened_by (asked_at x u wanted) c a ≡ Some o) × ((o.tenant ≡ u) × ((c ≡ None → o.cancelled ≡ None) × ((y : Moment) → c ≡ Some y → o.cancelled ≡ Some (place_of y)))))
opened_unanswered x u wanted c (Some y) e = cc
opened_unanswered x u wanted None None e = (asked_at x u wanted, (refl, (refl, ((λ _. refl), λ y h. cc))))
opened_unanswered x u wanted (Some y) None e = (
  record { place = place_of x; tenant = u; asked = wanted; log = (asked_at x u wanted).log; cancelled = Some (place_of y) },
  (refl, (refl, ((λ h. cc), λ z h. let same : y ≡ z = cc in ap (λ (w : Moment). Some (place_of w)) same))),
)

pub open_in : (client : ℕ) (known : Known) (above : List Ran) (c : CoreData) (k q : ℕ) (limits : Limits) (names : List (List ℕ)) → Legal limits names c.journal → Each (λ (e : Entry). e.client ≡ client) c.journal
    → (h : IsAskAt known above (own_moments client (moments c.journal)) k q) → IsOpenIn c (own_moments client (moments c.journal)) h.asked h.tenant q
open_in client known above c k q limits names legal alone h =
    let own = own_moments client (moments c.journal) in
    let all : own ≡ moments c.journal = all_own client started c.journal alone in
    let among : IsAmong h.asked (moments c.journal) = subst (IsAmong h.asked) all (found_among _ own h.asked h.there) in
    let law = opened limits names c.journal h.asked legal among h.tenant h.wanted h.pin h.generation h.floor h.is in
    let law' : open_at (place_of h.asked) (machine_of c).queries ≡ opened_by (asked_at h.asked h.tenant h.wanted) (cancel_of (Some h.asked) own) (answer_of (Some h.asked) own) =
    subst (λ (xs : List Moment). open_at (place_of h.asked) (machine_of c).queries ≡ opened_by (asked_at h.asked h.tenant h.wanted) (cancel_of (Some h.asked) xs) (answer_of (Some h.asked) xs)) (sym all) law in
    let found = opened_unanswered h.asked h.tenant h.wanted (cancel_of (Some h.asked) own) (answer_of (Some h.asked) own) h.unanswered in
    record {
      open_query = found.0;
      is_open = subst (λ (i : ℕ). open_at i (machine_of c).queries ≡ Some found.0) h.place (law' ∙ found.1.0);
      owner = found.1.1.0;
      uncancelled = found.1.1.1.0;
      cancelled = found.1.1.1.1;
    }

-- ---- lines

-- a line that is found is among those below
pub asked_below : (k n : ℕ) (id : List ℕ) (done : List Numbered) → Each (λ b. b.number < n) done → IsAsk id (line_at k done) → k < n
asked_below k n id [] low a = absurd a
asked_below k n id (l ∷ done) low a = elim (bool_cases (nat_eq l.number k)) [
  | inl t ↦ let b = low.0 in grind (arith, nat_tests, t, b)
  | inr t ↦ let b = rw t at a in asked_below k n id done low.1 b
]

line_none : (n : ℕ) (done : List Numbered) → Each (λ b. b.number < n) done → line_at n done ≡ None
line_none n [] low = refl
line_none n (l ∷ done) low =
    let b = low.0 in
    let t : nat_eq l.number n ≡ false = grind (arith, nat_tests, b) in
    rw t (line_none n done low.1)

line_here : (done : List Numbered) (l : Numbered) → line_at l.number done ≡ None → line_at l.number (done ++ l ∷ []) ≡ Some l.line
line_here [] l h = let t : nat_eq l.number l.number ≡ true = grind (arith, nat_tests) in rw t refl
line_here (b ∷ done) l h = elim (bool_cases (nat_eq b.number l.number)) [
  | inl t ↦ let g = rw t at h in cc
  | inr t ↦ let g = rw t at h in rw t (line_here done l g)
]

line_before : (k : ℕ) (done : List Numbered) (l : Numbered) → nat_eq l.number k ≡ false → line_at k (done ++ l ∷ []) ≡ line_at k done
line_before k [] l h = rw h refl
line_before k (b ∷ done) l h = ap (cond (nat_eq b.number k) (Some b.line)) (line_before k done l h)

pub each_front : {X : Type 0} (P : X → Type 0) (xs ys : List X) → Each P (xs ++ ys) → Each P xs
each_front P [] ys h = tt
each_front P (x ∷ xs) ys h = (h.0, each_front P xs ys h.1)

each_last : {X : Type 0} (P : X → Type 0) (xs : List X) (x : X) → Each P (xs ++ x ∷ []) → P x
each_last P [] x h = h.0
each_last P (y ∷ xs) x h = each_last P xs x h.1

none_asked : (id : List ℕ) (l : Option Line) → l ≡ None → IsAsk id l → ⊥
none_asked id None e a = a
none_asked id (Some l) e a = cc

-- the asks of lines with one more that asks nothing
module _ (done : List Numbered) (l : Numbered) (low : Each (λ b. b.number < l.number) done) where
  before : (k : ℕ) (id : List ℕ) → IsAsk id (line_at k done) → IsAsk id (line_at k (done ++ l ∷ []))
  before k id a =
      let b = asked_below k l.number id done low a in
      subst (IsAsk id) (sym (line_before k done l (grind (arith, nat_tests, b)))) a

  -- the line itself, or one before
  asked_cases : (k : ℕ) (id : List ℕ) → IsAsk id (line_at k (done ++ l ∷ [])) → ((l.number ≡ k) × IsAsk id (Some l.line)) ⊎ IsAsk id (line_at k done)
  asked_cases k id a = elim (bool_cases (nat_eq l.number k)) [
    | inl t ↦
        let same : l.number ≡ k = grind (arith, nat_tests, t) in
        let here : line_at k (done ++ l ∷ []) ≡ Some l.line =
        subst (λ (i : ℕ). line_at i (done ++ l ∷ []) ≡ Some l.line) same (line_here done l (line_none l.number done low)) in
        inl (same, subst (IsAsk id) here a)
    | inr t ↦ inr (subst (IsAsk id) (line_before k done l t) a)
  ]

-- ---- the asks of a client's lines

-- a line that asks nothing and answers nothing
pub slots_same : (known : Known) (above : List Ran) (r : Ran) (own : List Moment) (m : Machine) (client : ℕ) (done : List Numbered) (l : Numbered) (entered : Option What) (count : ℕ) (slots : Slots)
    → Each (λ b. b.number < l.number) done → r.line.number ≡ l.number → m.count ≤ count
    → ((id : List ℕ) → IsAsk id (Some l.line) → ⊥) → ((k : ℕ) → LeavesSlot (get nat_cmp slots k) entered)
    → HaveSlots known above own m.count done slots
    → HaveSlots known (r ∷ above) (own_with own m client l.number entered) count (done ++ l ∷ []) slots
slots_same known above r own m client done l entered count slots low same grows asks leaves h = record {
  right = λ k id a. elim (asked_cases done l low k id a) [
    | inl here ↦ absurd (asks id here.1)
    | inr b ↦
        let under = asked_below k l.number id done low b in
        slot_stays known above r own m client l.number entered k (get nat_cmp slots k) (λ e. omega (arith, e, same, under)) (λ e. omega (arith, e, under)) (leaves k) (h.right k id b)
  ];
  kept = λ k id a un none. elim (asked_cases done l low k id a) [
    | inl here ↦ asks id here.1
    | inr b ↦ h.kept k id b (each_front _ done (l ∷ []) un) none
  ];
  only = λ k s g. let o = h.only k s g in (o.0, before done l low k o.0 o.1);
  apart = h.apart;
  below = λ k q g. let b = h.below k q g in omega (arith, b, grows);
}

-- what is kept under a number, or else what was
cond_cases : {X : Type 0} (b : Bool) (x y z : X) → cond b x y ≡ z → ((b ≡ true) × (x ≡ z)) ⊎ ((b ≡ false) × (y ≡ z))
cond_cases true x y z h = inl (refl, h)
cond_cases false x y z h = inr (refl, h)

-- a line that asks, with what is kept of it
pub slots_asked : (known : Known) (above : List Ran) (r : Ran) (own : List Moment) (m : Machine) (client : ℕ) (done : List Numbered) (l : Numbered) (entered : Option What) (count : ℕ) (slots slots' : Slots) (kept : Slot)
    → Each (λ b. b.number < l.number) done → r.line.number ≡ l.number → m.count ≤ count
    → (id : List ℕ) → IsAsk id (Some l.line)
    → ((k : ℕ) → LeavesSlot (get nat_cmp slots k) entered)
    → ((k : ℕ) → get nat_cmp slots' k ≡ cond (nat_eq l.number k) (Some kept) (get nat_cmp slots k))
    → SlotRight known (r ∷ above) (own_with own m client l.number entered) l.number (Some kept)
    → ((q : ℕ) → kept ≡ slot.Asked q → (q ≡ m.count) × (q < count))
    → HaveSlots known above own m.count done slots
    → HaveSlots known (r ∷ above) (own_with own m client l.number entered) count (done ++ l ∷ []) slots'
slots_asked known above r own m client done l entered count slots slots' kept low same grows id asks leaves now new fresh h = record {
  right = λ k i a. elim (asked_cases done l low k i a) [
    | inl here ↦
        let at_it : nat_eq l.number k ≡ true = let e = here.0 in grind (arith, nat_tests, e) in
        let found : get nat_cmp slots' k ≡ Some kept = now k ∙ rw at_it refl in
        subst (λ (s : Option Slot). SlotRight known (r ∷ above) (own_with own m client l.number entered) k s) (sym found)
        (subst (λ (j : ℕ). SlotRight known (r ∷ above) (own_with own m client l.number entered) j (Some kept)) here.0 new)
    | inr b ↦
        let under = asked_below k l.number i done low b in
        let off_it : nat_eq l.number k ≡ false = grind (arith, nat_tests, under) in
        let found : get nat_cmp slots' k ≡ get nat_cmp slots k = now k ∙ rw off_it refl in
        subst (λ (s : Option Slot). SlotRight known (r ∷ above) (own_with own m client l.number entered) k s) (sym found)
        (slot_stays known above r own m client l.number entered k (get nat_cmp slots k) (λ e. omega (arith, e, same, under)) (λ e. omega (arith, e, under)) (leaves k) (h.right k i b))
  ];
  kept = λ k i a un none. elim (asked_cases done l low k i a) [
    | inl here ↦
        let at_it : nat_eq l.number k ≡ true = let e = here.0 in grind (arith, nat_tests, e) in
        let found : get nat_cmp slots' k ≡ Some kept = now k ∙ rw at_it refl in
        cc
    | inr b ↦
        let under = asked_below k l.number i done low b in
        let off_it : nat_eq l.number k ≡ false = grind (arith, nat_tests, under) in
        let found : get nat_cmp slots' k ≡ get nat_cmp slots k = now k ∙ rw off_it refl in
        h.kept k i b (each_front _ done (l ∷ []) un) (sym found ∙ none)
  ];
  only = λ k s g. elim (cond_cases (nat_eq l.number k) (Some kept) (get nat_cmp slots k) (Some s) (sym (now k) ∙ g)) [
    | inl here ↦
        let t = here.0 in
        let e : l.number ≡ k = grind (arith, nat_tests, t) in (
          id,
          subst (λ (j : ℕ). IsAsk id (line_at j (done ++ l ∷ []))) e
              (subst (IsAsk id) (sym (line_here done l (line_none l.number done low))) asks),
        )
    | inr there ↦ let o = h.only k s there.1 in (o.0, before done l low k o.0 o.1)
  ];
  apart = λ k j q g f. elim (cond_cases (nat_eq l.number k) (Some kept) (get nat_cmp slots k) (Some (slot.Asked q)) (sym (now k) ∙ g)) [
    | inl here ↦ elim (cond_cases (nat_eq l.number j) (Some kept) (get nat_cmp slots j) (Some (slot.Asked q)) (sym (now j) ∙ f)) [
      | inl too ↦ let t = here.0 in let u = too.0 in grind (arith, nat_tests, t, u)
      | inr there ↦
          let k_is = here.1 in
          let is : kept ≡ slot.Asked q = cc in
          let b = h.below j q there.1 in
          let c = (fresh q is).0 in
          absurd (omega (arith, b, c))
    ]
    | inr there ↦ elim (cond_cases (nat_eq l.number j) (Some kept) (get nat_cmp slots j) (Some (slot.Asked q)) (sym (now j) ∙ f)) [
      | inl too ↦
          let k_is = too.1 in
          let is : kept ≡ slot.Asked q = cc in
          let b = h.below k q there.1 in
          let c = (fresh q is).0 in
          absurd (omega (arith, b, c))
      | inr also ↦ h.apart k j q there.1 also.1
    ]
  ];
  below = λ k q g. elim (cond_cases (nat_eq l.number k) (Some kept) (get nat_cmp slots k) (Some (slot.Asked q)) (sym (now k) ∙ g)) [
    | inl here ↦
        let k_is = here.1 in
        let is : kept ≡ slot.Asked q = cc in
        (fresh q is).1
    | inr there ↦ let b = h.below k q there.1 in omega (arith, b, grows)
  ];
}

-- a line that answers what a line asked
pub slots_answered : (known : Known) (above : List Ran) (r : Ran) (own : List Moment) (m : Machine) (client : ℕ) (done : List Numbered) (l : Numbered) (j : ℕ) (entered : Option What) (count : ℕ) (slots slots' : Slots)
    → Each (λ b. b.number < l.number) done → r.line.number ≡ l.number → m.count ≤ count
    → ((id : List ℕ) → IsAsk id (Some l.line) → ⊥) → IsAnswerOf l.line j
    → ((k : ℕ) → (j ≡ k → ⊥) → LeavesSlot (get nat_cmp slots k) entered)
    → ((k : ℕ) → get nat_cmp slots' k ≡ cond (nat_eq j k) None (get nat_cmp slots k))
    → SlotRight known (r ∷ above) (own_with own m client l.number entered) j None
    → HaveSlots known above own m.count done slots
    → HaveSlots known (r ∷ above) (own_with own m client l.number entered) count (done ++ l ∷ []) slots'
slots_answered known above r own m client done l j entered count slots slots' low same grows asks answers_it leaves now shut h = record {
  right = λ k i a. elim (asked_cases done l low k i a) [
    | inl here ↦ absurd (asks i here.1)
    | inr b ↦ elim (bool_cases (nat_eq j k)) [
      | inl t ↦
          let e : j ≡ k = grind (arith, nat_tests, t) in
          let found : get nat_cmp slots' k ≡ None = now k ∙ rw t refl in
          subst (λ (s : Option Slot). SlotRight known (r ∷ above) (own_with own m client l.number entered) k s) (sym found)
          (subst (λ (n : ℕ). SlotRight known (r ∷ above) (own_with own m client l.number entered) n None) e shut)
      | inr t ↦
          let under = asked_below k l.number i done low b in
          let found : get nat_cmp slots' k ≡ get nat_cmp slots k = now k ∙ rw t refl in
          subst (λ (s : Option Slot). SlotRight known (r ∷ above) (own_with own m client l.number entered) k s) (sym found)
          (slot_stays known above r own m client l.number entered k (get nat_cmp slots k) (λ e. omega (arith, e, same, under)) (λ e. omega (arith, e, under))
          (leaves k (λ e. grind (arith, nat_tests, t, e))) (h.right k i b))
    ]
  ];
  kept = λ k i a un none. elim (asked_cases done l low k i a) [
    | inl here ↦ asks i here.1
    | inr b ↦ elim (bool_cases (nat_eq j k)) [
      | inl t ↦
          let e : j ≡ k = grind (arith, nat_tests, t) in
          each_last _ done l un (subst (IsAnswerOf l.line) e answers_it)
      | inr t ↦
          let found : get nat_cmp slots' k ≡ get nat_cmp slots k = now k ∙ rw t refl in
          h.kept k i b (each_front _ done (l ∷ []) un) (sym found ∙ none)
    ]
  ];
  only = λ k s g. elim (cond_cases (nat_eq j k) None (get nat_cmp slots k) (Some s) (sym (now k) ∙ g)) [
    | inl here ↦ let e = here.1 in cc
    | inr there ↦ let o = h.only k s there.1 in (o.0, before done l low k o.0 o.1)
  ];
  apart = λ k i q g f. elim (cond_cases (nat_eq j k) None (get nat_cmp slots k) (Some (slot.Asked q)) (sym (now k) ∙ g)) [
    | inl here ↦ let e = here.1 in cc
    | inr there ↦ elim (cond_cases (nat_eq j i) None (get nat_cmp slots i) (Some (slot.Asked q)) (sym (now i) ∙ f)) [
      | inl here ↦ let e = here.1 in cc
      | inr also ↦ h.apart k i q there.1 also.1
    ]
  ];
  below = λ k q g. elim (cond_cases (nat_eq j k) None (get nat_cmp slots k) (Some (slot.Asked q)) (sym (now k) ∙ g)) [
    | inl here ↦ let e = here.1 in cc
    | inr there ↦ let b = h.below k q there.1 in omega (arith, b, grows)
  ];
}

-- the same of what is kept in another way
pub slots_as : (known : Known) (above : List Ran) (own : List Moment) (count : ℕ) (done : List Numbered) (slots slots' : Slots)
    → ((k : ℕ) → get nat_cmp slots' k ≡ get nat_cmp slots k) → HaveSlots known above own count done slots → HaveSlots known above own count done slots'
slots_as known above own count done slots slots' same h = record {
  right = λ k id a. subst (SlotRight known above own k) (sym (same k)) (h.right k id a);
  kept = λ k id a un none. h.kept k id a un (sym (same k) ∙ none);
  only = λ k s g. h.only k s (sym (same k) ∙ g);
  apart = λ k j q g f. h.apart k j q (sym (same k) ∙ g) (sym (same j) ∙ f);
  below = λ k q g. h.below k q (sym (same k) ∙ g);
}

-- an ask that was refused opened no query
pub full_shut : (w : Option What) → IsFullWhat w → HasQuery w → ⊥
full_shut (Some (ask u a pin generation floor)) f q = f
full_shut (Some (full u k)) f q = q
full_shut (Some (append u b vs e)) f q = f
full_shut (Some (delete u ms from to g e)) f q = f
full_shut (Some (no_tenant name)) f q = f
full_shut (Some (cancel k)) f q = f
full_shut (Some (answer k c x y)) f q = f
full_shut None f q = f

pub stranger_shut : (w : Option What) → IsNoTenantWhat w → HasQuery w → ⊥
stranger_shut (Some (ask u a pin generation floor)) f q = f
stranger_shut (Some (full u k)) f q = f
stranger_shut (Some (append u b vs e)) f q = f
stranger_shut (Some (delete u ms from to g e)) f q = f
stranger_shut (Some (no_tenant name)) f q = q
stranger_shut (Some (cancel k)) f q = f
stranger_shut (Some (answer k c x y)) f q = f
stranger_shut None f q = f

-- what was answered is no longer kept
pub slot_shut : (known : Known) (above above' : List Ran) (own : List Moment) (m : Machine) (client n j : ℕ) (entered : Option What) (s : Slot) → (n ≡ j → ⊥)
    → ((q : ℕ) → answers q entered ≡ is_query q (Some s)) → SlotRight known above own j (Some s)
    → SlotRight known above' (own_with own m client n entered) j None
slot_shut known above above' own m client n j None (slot.Asked q) apart closes h =
    let c = closes q in
    let t : nat_eq q q ≡ true = grind (arith, nat_tests) in
    let bad : false ≡ true = c ∙ t in
    cc
slot_shut known above above' own m client n j (Some what) (slot.Asked q) apart closes h = λ a e.
    let t : nat_eq q q ≡ true = grind (arith, nat_tests) in
    let it : is_answer_of q what ≡ true = closes q ∙ t in
    let there : moment_of j (own ++ moment_by m client n what ∷ []) ≡ Some h.asked = moment_other j own m client n (Some what) apart ∙ h.there in
    let found : answer_of (Some h.asked) (own ++ moment_by m client n what ∷ []) ≡ Some (moment_by m client n what) =
    last_with _ own (moment_by m client n what) h.unanswered (subst (λ (i : ℕ). is_answer_of i what ≡ true) (sym h.place) it) in
    let none : answer_of (Some h.asked) (own ++ moment_by m client n what ∷ []) ≡ None = subst (λ (x : Option Moment). answer_of x (own ++ moment_by m client n what ∷ []) ≡ None) there e in
    let bad : Some (moment_by m client n what) ≡ None = sym found ∙ none in
    cc
slot_shut known above above' own m client n j entered (slot.BadGrid e) apart closes h = λ a f.
    subst (λ (x : Option Moment). HasQuery (what_of x)) (moment_other j own m client n entered apart ∙ h.none) a
slot_shut known above above' own m client n j entered (slot.BadQuery e) apart closes h = λ a f.
    subst (λ (x : Option Moment). HasQuery (what_of x)) (moment_other j own m client n entered apart ∙ h.none) a
slot_shut known above above' own m client n j entered slot.Full apart closes h = λ a f.
    full_shut (what_of (moment_of j own)) h (subst (λ (x : Option Moment). HasQuery (what_of x)) (moment_other j own m client n entered apart) a)
slot_shut known above above' own m client n j entered slot.TooManyTenants apart closes h = λ a f.
    stranger_shut (what_of (moment_of j own)) h (subst (λ (x : Option Moment). HasQuery (what_of x)) (moment_other j own m client n entered apart) a)
slot_shut known above above' own m client n j entered slot.NoMemory apart closes h = λ a f.
    subst (λ (x : Option Moment). HasQuery (what_of x)) (moment_other j own m client n entered apart ∙ h.none) a
