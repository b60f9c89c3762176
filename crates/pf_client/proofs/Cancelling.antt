-- Lines that cancel and answer.
use Rattle.std.proofs.Common.{◌≡◌, ℕ, inl, inr, Bool, true, false, nat_eq, Option, Some, None, List, [], ◌∷◌, ◌++◌, refl, sym, ap, ◌∙◌, subst, append_assoc, slice_get, codes, decimal, arith}
use Rattle.std.proofs.lemmas.Slice.Eq.{bytes_eq-Decides}
use Rattle.std.specs.Str.{bytes_eq}
use Rattle.pf_base.specs.declared.plain.By.{By}
use Rattle.pf_base.specs.declared.plain.Limits.{Limits}
use Rattle.pf_core.specs.Cores.{AreCancelled, CoreData, Enters, HasQueue, HasRoomFor, IsOthers, IsOwned, Stands, machine_of, others_waiting, queue_at, ring_left}
use Rattle.pf_core.specs.Jobs.{QueueHeads}
use Rattle.pf_core.specs.declared.answers.CancelAnswer.TheVariants.{Done}
use Rattle.std.proofs.lemmas.Bool.Decides.{nat_tests}
use Rattle.pf_query.specs.declared.job.Hand.{Hand as JobHand}
use Rattle.pf_client.proofs.HandLines.{keeps_hands, keeps_same, tries_same}
use Rattle.pf_journal.proofs.Growing.{moments-snoc}
use Rattle.pf_journal.specs.Entered.{IsOfAsk, what_of}
use Rattle.pf_journal.specs.Legal.{IsLawful, Legal, Moment, machine_after, moments, moments_from}
use Rattle.pf_journal.specs.Machine.{Entry, HasRoom, Machine, Open, What, append, delete, ask, full, no_tenant, cancel, answer, next, open_at, started}
use Rattle.pf_journal.specs.Replies.{not_outstanding_words, reply_line, uncancelled_words, unfound_words, answered}
use Rattle.pf_journal.specs.Rest.{Known, nothing}
use Rattle.pf_journal.specs.Scripts as script
use Rattle.pf_journal.specs.Scripts.{Line, Numbered}
use Rattle.pf_journal.specs.Turns.{Hand, Ran, answer_of, asker_of, cancel_of, moment_of, place_of, ran_at}
use Rattle.pf_journal.specs.Unentered.{HasQuery}
use Rattle.pf_model.specs.Lists.{Each}
use Rattle.pf_client.proofs.Cases.{bool_cases}
use Rattle.pf_client.proofs.SlotLaws.{IsOpenIn, each_front, full_shut, open_in, stranger_shut}
use Rattle.pf_client.proofs.Steps.{grows_entered, name_known, step_entered, step_stayed}
use Rattle.pf_client.specs.Asks.{IsAskAt, IsNoQuery, SlotRight}
use Rattle.pf_client.specs.Clients.{Grows, IsKnown, IsStep, naming}
use Rattle.pf_client.specs.Going.{own_of}
use Rattle.pf_client.specs.declared.client.Client.{Client}
use Rattle.pf_client.specs.declared.client.LineRun.TheVariants as run
use Rattle.pf_client.specs.declared.slots.Slot.{Slot}
use Rattle.pf_client.specs.declared.slots.Slot.TheVariants as slot

-- ---- rooms

lawful_room : (l : Limits) (names : List (List ℕ)) (m : Machine) (es : List Entry) → HasRoom l m → Each (IsLawful l names) (moments_from m es) → HasRoom l (machine_after m es)
lawful_room l names m [] room h = room
lawful_room l names m (e ∷ es) room h = lawful_room l names (next m e.what) es h.0.room h.1

-- what stood before an entry was legal
pub legal_before : (old new : CoreData) (by : By) (what : What) → Enters old by what new → Stands new → Legal old.limits new.names old.journal
legal_before old new by what e s =
    let e' : Entry = record { client = by.client; line = by.line; what = what } in
    each_front _ (moments old.journal) (record { before = machine_of old; entry = e' } ∷ [])
    (subst (Each (IsLawful old.limits new.names)) (moments-snoc started old.journal e')
    (subst (λ (es : List Entry). Each (IsLawful old.limits new.names) (moments es)) e.journal
    (subst (λ (l : Limits). Legal l new.names new.journal) e.limits s.legal)))

-- and had room
pub room_before : (old new : CoreData) (by : By) (what : What) → Enters old by what new → Stands new → HasRoomFor old 0
room_before old new by what e s =
    let room : HasRoom old.limits (machine_of old) = lawful_room old.limits new.names started old.journal (omega arith) (legal_before old new by what e s) in
    omega (arith, room)

-- names that stand behind a later core's stand behind an earlier one's
pub known_before : (known : Known) (old new : CoreData) (more : List (List ℕ)) → new.limits ≡ old.limits → new.names ≡ old.names ++ more → IsKnown known new → IsKnown known old
known_before known old new more limits grown k = record {
  limits = k.limits ∙ limits;
  more = more ++ k.more;
  names = k.names ∙ ap (λ (ns : List (List ℕ)). ns ++ k.more) grown ∙ append_assoc old.names more k.more;
}

-- ---- cancels

-- a cancel leaves the jobs in hand
cancelled_hands : (old new : CoreData) (q : ℕ) (o : Open) → open_at q (machine_of old).queries ≡ Some o → AreCancelled old q Done new → (u : ℕ) → (queue_at new u).hands ≡ (queue_at old u).hands
cancelled_hands old new q o there left u = by (nat_eq u o.tenant) refl where
  one : HasQueue old o.tenant (record { waiting = others_waiting old o.tenant q; hands = (queue_at old o.tenant).hands }) (ring_left old.ring o.tenant (others_waiting old o.tenant q)) new
  one = left.0 o there

  by : (b : Bool) → nat_eq u o.tenant ≡ b → (queue_at new u).hands ≡ (queue_at old u).hands
  by true t =
      let e : u ≡ o.tenant = grind (arith, nat_tests, t) in
      subst (λ (v : ℕ). (queue_at new v).hands ≡ (queue_at old v).hands) (sym e) (ap (λ (x : QueueHeads). x.hands) one.here)
  by false t = ap (λ (x : QueueHeads). x.hands) (one.others u (λ e. grind (arith, nat_tests, t, e)))

pub grows_cancelled : (old new : CoreData) (by : By) (q : ℕ) (tenant : List ℕ) → IsOwned old q tenant None → Enters old by (cancel q) new → AreCancelled old q Done new → Grows 0 0 old new
grows_cancelled old new by q tenant owned e left =
    grows_entered old new by (cancel q) e (λ client below idle u. subst (Each (λ (x : JobHand). x.actor ≡ client → ⊥)) (sym (cancelled_hands old new q owned.opened owned.is_open left u)) (idle u)) left.1.0

unfound_open : (tenant owner : List ℕ) (m : Option Moment) (x : Moment) (w : What) (answered c : Option Moment) → m ≡ Some x → answered ≡ None → w ≡ x.entry.what → HasQuery (Some w)
    → unfound_words tenant owner (what_of m) answered c ≡ uncancelled_words tenant owner c
unfound_open tenant owner m x w answered c there none is q = rw there (rw none (rw (sym is) (by w q))) where
  by : (v : What) → HasQuery (Some v) → unfound_words tenant owner (Some v) None c ≡ uncancelled_words tenant owner c
  by (ask u a pin generation floor) q = refl
  by (append u b vs e) q = absurd q
  by (delete u ms from to g e) q = absurd q
  by (full u k) q = absurd q
  by (no_tenant name) q = absurd q
  by (cancel k) q = absurd q
  by (answer k code cached evaluated) q = absurd q

other_words : (tenant owner : List ℕ) (c : Option Moment) → (owner ≡ tenant → ⊥) → uncancelled_words tenant owner c ≡ codes "other" ∷ codes "tenant" ∷ owner ∷ []
other_words tenant owner None differ = refl
other_words tenant owner (Some y) differ = elim (bool_cases (bytes_eq tenant owner)) [
  | inl t ↦ absurd (differ (sym ((bytes_eq-Decides tenant owner).0 t)))
  | inr t ↦ rw t refl
]

already_words : (tenant owner : List ℕ) (c : Option Moment) (y : Moment) → c ≡ Some y → tenant ≡ owner → uncancelled_words tenant owner c ≡ codes "already" ∷ decimal (place_of y) ∷ []
already_words tenant owner c y e same = rw e (rw ((bytes_eq-Decides tenant owner).1 same) refl)

module _ (known : Known) (above : List Ran) (hands : List Hand) (old new : Client) (held : new.hands ≡ old.hands) (number : ℕ) (id : List ℕ) (k q : ℕ) (h : IsAskAt known above (own_of old.client old.core) k q) where
  abbrev asker : List ℕ
  asker = asker_of (ran_at k above)

  of_ask : IsOfAsk (moment_of k (own_of old.client old.core)) q
  of_ask = subst (λ (m : Option Moment). IsOfAsk m q) (sym h.there) (sym h.place)

  is_query : HasQuery (Some h.asked.entry.what)
  is_query = subst (λ (w : What). HasQuery (Some w)) (sym h.is) tt

  none_answered : answer_of (moment_of k (own_of old.client old.core)) (own_of old.client old.core) ≡ None
  none_answered = ap (λ (m : Option Moment). answer_of m (own_of old.client old.core)) h.there ∙ h.unanswered

  -- the name of the tenant of the open query is the one that the ask names
  owner_named : (o : Open) (name : List ℕ) → IsKnown known old.core → IsOpenIn old.core (own_of old.client old.core) h.asked h.tenant q
      → open_at q (machine_of old.core).queries ≡ Some o → slice_get old.core.names o.tenant ≡ Some name → name ≡ asker
  owner_named o name kn law found named =
      let is_open = law.is_open in
      let one : law.open_query ≡ o = cc in
      let owned : o.tenant ≡ h.tenant = sym (ap (λ (x : Open). x.tenant) one) ∙ law.owner in
      let there : slice_get known.names h.tenant ≡ Some name = subst (λ (u : ℕ). slice_get known.names u ≡ Some name) owned (name_known known old.core o.tenant name kn named) in
      let asked = h.named in
      let both : Some name ≡ Some asker = sym there ∙ asked in
      cc

  module _ (tenant : List ℕ) where
    pub step_cancelled : (by : By) → IsKnown known new.core → Each (λ (e : Entry). e.client ≡ old.client) old.core.journal → IsOwned old.core q tenant None → Enters old.core by (cancel q) new.core → Stands new.core
        → AreCancelled old.core q Done new.core → by.client ≡ old.client → by.line ≡ number
        → new.out.items ≡ old.out.items ++ reply_line number (codes "cancel") id (codes "done" ∷ [])
        → IsStep known (naming (own_of old.client old.core) above hands (script.cancel id k tenant)) old (record { number = number; line = script.cancel id k tenant }) run.On new
    step_cancelled by kn alone owned e stands left client line said =
        let before = known_before known old.core new.core e.more e.limits e.grown kn in
        let named : tenant ≡ asker = owner_named owned.opened tenant before (open_in old.client known above old.core k q old.core.limits new.core.names (legal_before old.core new.core by (cancel q) e stands) alone h) owned.is_open owned.named in
        step_entered known (naming (own_of old.client old.core) above hands (script.cancel id k tenant)) old new by (record { number = number; line = script.cancel id k tenant }) nothing (cancel q) kn e client line
        (of_ask, named) refl (room_before old.core new.core by (cancel q) e stands) refl
        (tries_same old.core new.core nothing left.1.0 refl) (keeps_hands old new (ap (λ v. v.items) held) (cancelled_hands old.core new.core q owned.opened owned.is_open left)) said

    -- a query of another tenant
    pub step_others : (owner : ℕ) → IsKnown known new.core → Each (λ (e : Entry). e.client ≡ old.client) old.core.journal → IsOthers old.core q tenant owner → new.core ≡ old.core → Stands new.core
        → ((name : List ℕ) → slice_get old.core.names owner ≡ Some name → new.out.items ≡ old.out.items ++ reply_line number (codes "cancel") id (codes "other" ∷ codes "tenant" ∷ name ∷ []))
        → IsStep known (naming (own_of old.client old.core) above hands (script.cancel id k tenant)) old (record { number = number; line = script.cancel id k tenant }) run.On new
    step_others owner kn alone others left stands said =
        let before : IsKnown known old.core = subst (IsKnown known) left kn in
        let stood : Stands old.core = subst Stands left stands in
        let law = open_in old.client known above old.core k q old.core.limits old.core.names stood.legal alone h in
        let named : others.name ≡ asker = owner_named others.opened others.name before law others.is_open
        (subst (λ (u : ℕ). slice_get old.core.names u ≡ Some others.name) (sym others.owned) others.named) in
        let differ : asker ≡ tenant → ⊥ = λ e. others.other (named ∙ e) in
        step_stayed known (naming (own_of old.client old.core) above hands (script.cancel id k tenant)) old new (record { number = number; line = script.cancel id k tenant }) nothing left refl refl
        (λ p. differ (sym p.1)) (keeps_same old new (ap (λ v. v.items) held) left)
        (said others.name others.named
        ∙ ap (λ (name : List ℕ). old.out.items ++ reply_line number (codes "cancel") id (codes "other" ∷ codes "tenant" ∷ name ∷ [])) named
        ∙ ap (λ (words : List (List ℕ)). old.out.items ++ reply_line number (codes "cancel") id words)
        (sym (unfound_open tenant asker (moment_of k (own_of old.client old.core)) h.asked h.asked.entry.what (answer_of (moment_of k (own_of old.client old.core)) (own_of old.client old.core))
        (cancel_of (moment_of k (own_of old.client old.core)) (own_of old.client old.core)) h.there none_answered refl is_query
        ∙ other_words tenant asker (cancel_of (moment_of k (own_of old.client old.core)) (own_of old.client old.core)) differ)))

    -- a query that was cancelled before
    pub step_again : (place : ℕ) → IsKnown known new.core → Each (λ (e : Entry). e.client ≡ old.client) old.core.journal → IsOwned old.core q tenant (Some place) → new.core ≡ old.core → Stands new.core
        → new.out.items ≡ old.out.items ++ reply_line number (codes "cancel") id (codes "already" ∷ decimal place ∷ [])
        → IsStep known (naming (own_of old.client old.core) above hands (script.cancel id k tenant)) old (record { number = number; line = script.cancel id k tenant }) run.On new
    step_again place kn alone owned left stands said = by (cancel_of (Some h.asked) (own_of old.client old.core)) refl where
      stood : Stands old.core
      stood = subst Stands left stands

      before : IsKnown known old.core
      before = subst (IsKnown known) left kn

      law : IsOpenIn old.core (own_of old.client old.core) h.asked h.tenant q
      law = open_in old.client known above old.core k q old.core.limits old.core.names stood.legal alone h

      named : tenant ≡ asker
      named = owner_named owned.opened tenant before law owned.is_open owned.named

      one : law.open_query ≡ owned.opened
      one = let a = law.is_open in let b = owned.is_open in cc

      by : (c : Option Moment) → cancel_of (Some h.asked) (own_of old.client old.core) ≡ c
          → IsStep known (naming (own_of old.client old.core) above hands (script.cancel id k tenant)) old (record { number = number; line = script.cancel id k tenant }) run.On new
      by None e =
          let none : owned.opened.cancelled ≡ None = subst (λ (o : Open). o.cancelled ≡ None) one (law.uncancelled e) in
          let some = owned.cancelled_at in
          let impossible : None ≡ Some place = sym none ∙ some in
          cc
      by (Some y) e =
          let at_y : owned.opened.cancelled ≡ Some (place_of y) = subst (λ (o : Open). o.cancelled ≡ Some (place_of y)) one (law.cancelled y e) in
          let some = owned.cancelled_at in
          let both : Some place ≡ Some (place_of y) = sym some ∙ at_y in
          let place_is : place ≡ place_of y = cc in
          let found : cancel_of (moment_of k (own_of old.client old.core)) (own_of old.client old.core) ≡ Some y = ap (λ (m : Option Moment). cancel_of m (own_of old.client old.core)) h.there ∙ e in
          step_stayed known (naming (own_of old.client old.core) above hands (script.cancel id k tenant)) old new (record { number = number; line = script.cancel id k tenant }) nothing left refl refl
          (λ p. let un = p.0.uncancelled in let bad : None ≡ Some y = sym un ∙ found in cc) (keeps_same old new (ap (λ v. v.items) held) left)
          (said
          ∙ ap (λ (i : ℕ). old.out.items ++ reply_line number (codes "cancel") id (codes "already" ∷ decimal i ∷ [])) place_is
          ∙ ap (λ (words : List (List ℕ)). old.out.items ++ reply_line number (codes "cancel") id words)
          (sym (unfound_open tenant asker (moment_of k (own_of old.client old.core)) h.asked h.asked.entry.what (answer_of (moment_of k (own_of old.client old.core)) (own_of old.client old.core))
          (cancel_of (moment_of k (own_of old.client old.core)) (own_of old.client old.core)) h.there none_answered refl is_query
          ∙ already_words tenant asker (cancel_of (moment_of k (own_of old.client old.core)) (own_of old.client old.core)) y found named)))

-- a query that no line answered is open
pub absent : (client : ℕ) (known : Known) (above : List Ran) (c : CoreData) (k q : ℕ) → IsAskAt known above (own_of client c) k q → Each (λ (e : Entry). e.client ≡ client) c.journal → Stands c
    → open_at q (machine_of c).queries ≡ None → ⊥
absent client known above c k q h alone s none =
    let law = open_in client known above c k q c.limits c.names s.legal alone h in
    let there = law.is_open in
    let bad : None ≡ Some law.open_query = sym none ∙ there in
    cc

-- ---- cancels of asks without an open query

shut_right : (known : Known) (above : List Ran) (own : List Moment) (k : ℕ) (s : Option Slot) → IsNoQuery s → SlotRight known above own k s
    → HasQuery (what_of (moment_of k own)) → answer_of (moment_of k own) own ≡ None → ⊥
shut_right known above own k None vacant h = h
shut_right known above own k (Some (slot.Asked q)) vacant h = absurd vacant
shut_right known above own k (Some (slot.BadGrid e)) vacant h = λ a f. subst (λ (x : Option Moment). HasQuery (what_of x)) h.none a
shut_right known above own k (Some (slot.BadQuery e)) vacant h = λ a f. subst (λ (x : Option Moment). HasQuery (what_of x)) h.none a
shut_right known above own k (Some slot.Full) vacant h = λ a f. full_shut (what_of (moment_of k own)) h a
shut_right known above own k (Some slot.TooManyTenants) vacant h = λ a f. stranger_shut (what_of (moment_of k own)) h a
shut_right known above own k (Some slot.NoMemory) vacant h = λ a f. subst (λ (x : Option Moment). HasQuery (what_of x)) h.none a

unfound_shut : (tenant owner : List ℕ) (w : Option What) (a c : Option Moment) → (HasQuery w → a ≡ None → ⊥) → unfound_words tenant owner w a c ≡ not_outstanding_words
unfound_shut tenant owner (Some (ask u b pin generation floor)) None c h = absurd (h tt refl)
unfound_shut tenant owner (Some (ask u b pin generation floor)) (Some y) c h = refl
unfound_shut tenant owner (Some (append u b vs e)) a c h = refl
unfound_shut tenant owner (Some (delete u ms from to g e)) a c h = refl
unfound_shut tenant owner (Some (full u k)) a c h = refl
unfound_shut tenant owner (Some (no_tenant name)) a c h = refl
unfound_shut tenant owner (Some (cancel k)) a c h = refl
unfound_shut tenant owner (Some (answer k d x y)) a c h = refl
unfound_shut tenant owner None a c h = refl

pub step_unfound : (known : Known) (above : List Ran) (hands : List Hand) (old new : Client) (number : ℕ) (id : List ℕ) (k : ℕ) (tenant : List ℕ) (s : Option Slot)
    → new.core ≡ old.core → new.hands ≡ old.hands → IsNoQuery s → SlotRight known above (own_of old.client old.core) k s
    → new.out.items ≡ old.out.items ++ reply_line number (codes "cancel") id not_outstanding_words
    → IsStep known (naming (own_of old.client old.core) above hands (script.cancel id k tenant)) old (record { number = number; line = script.cancel id k tenant }) run.On new
step_unfound known above hands old new number id k tenant s same held vacant right said =
    let own = own_of old.client old.core in
    let shut = shut_right known above own k s vacant right in
    step_stayed known (naming own above hands (script.cancel id k tenant)) old new (record { number = number; line = script.cancel id k tenant }) nothing same refl refl
    (λ p. shut p.0.query p.0.unanswered) (keeps_same old new (ap (λ v. v.items) held) same)
    (said ∙ ap (λ (words : List (List ℕ)). old.out.items ++ reply_line number (codes "cancel") id words)
    (sym (unfound_shut tenant (asker_of (ran_at k above)) (what_of (moment_of k own)) (answer_of (moment_of k own) own) (cancel_of (moment_of k own) own) shut)))
