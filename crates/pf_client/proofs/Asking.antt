-- Lines that ask, and what is kept of them.
use Rattle.std.proofs.Common.{◌≡◌, ℕ, ◌<◌, Option, Some, None, Result, Ok, Err, IfOk, OnOk, List, [], ◌∷◌, ◌++◌, refl, sym, ap, ◌∙◌, subst, cond, nat_eq, slice_get, codes, decimal, sum, true, arith}
use Rattle.std.specs.Prelude.{slice_index_or}
use Rattle.std.proofs.lemmas.Bool.Decides.{nat_tests}
use Rattle.std.specs.BTreeMap.{get}
use Rattle.std.specs.Fmt.{digits}
use Rattle.std.specs.Ordering.{nat_cmp}
use Rattle.pf_base.specs.declared.plain.By.{By}
use Rattle.pf_core.specs.Cores.{AreBegun, AreSameWork, CoreData, Enters, EntersFor, HasRoomFor, AsksAt, IsFull, IsSameHistory, Stands, machine_of}
use Rattle.pf_core.specs.Jobs.{QueueHeads, no_heads}
use Rattle.pf_front.specs.Works.{WorksOn}
use Rattle.pf_journal.proofs.Opened.{IsAmong, all_own, asked_at, found_among, opened, opened_by}
use Rattle.pf_journal.specs.Asking.{Asked}
use Rattle.pf_journal.specs.Entered.{Fits, IsAsked}
use Rattle.pf_journal.specs.Legal.{Moment, machine_after, moments}
use Rattle.pf_journal.specs.Machine.{Entry, Machine, Open, What, append, delete, ask, full, no_tenant, cancel, answer, open_at, started}
use Rattle.pf_journal.specs.Replies.{ask_reply, refused_words, reply_line, journal_words}
use Rattle.pf_journal.specs.Rest.{Known, Told, no_memory, nothing}
use Rattle.pf_journal.specs.Scripts as script
use Rattle.pf_journal.specs.Scripts.{Line, Numbered}
use Rattle.pf_journal.specs.Turns.{Ran, Turn, answer_of, asker_of, cancel_of, moment_of, own_moments, place_of, ran_at}
use Rattle.pf_journal.specs.Unentered.{IsNotAsked}
use Rattle.pf_journal.specs.Weave.{IsMatched}
use Rattle.pf_model.specs.Lists.{Each}
use Rattle.pf_store.specs.Standing.{PinData}
use Rattle.pf_client.proofs.Onward.{each_snoc, last_with, own_on, own_with, unmade}
use Rattle.pf_client.proofs.HandLines.{keeps_hands, keeps_same, tries_on}
use Rattle.pf_client.proofs.Steps.{grows_entered, grows_on, grows_with, grows_works, idle_same, name_known, queues_same, step_entered, step_full, step_stayed, works_keep, works_tries}
use Rattle.pf_client.specs.Asks.{AskRuns, AsksAs, IsAskStep, IsSlot, SlotRight, wanted_by}
use Rattle.pf_client.specs.Clients.{Grows, IsKnown, Naming, entries_by, entry_by, moment_by, moment_with, turn_by}
use Rattle.pf_client.specs.Going.{own_of}
use Rattle.pf_client.specs.Hands.{CountsTries, KeepsHands}
use Rattle.pf_client.specs.declared.client.Client.{Client}
use Rattle.pf_client.specs.declared.client.LineRun.{LineRun}
use Rattle.pf_client.specs.declared.client.LineRun.TheVariants as run
use Rattle.pf_client.specs.declared.slots.Slot.{Slot}
use Rattle.pf_client.specs.declared.slots.Slot.TheVariants as slot

-- ---- codes

pub code_400 : decimal 400 ≡ codes "400"
unfolding digits
code_400 = refl

pub code_429 : decimal 429 ≡ codes "429"
unfolding digits
code_429 = refl

pub code_503 : decimal 503 ≡ codes "503"
unfolding digits
code_503 = refl

pub code_507 : decimal 507 ≡ codes "507"
unfolding digits
code_507 = refl

-- ---- a line that asks

named_as : (known : Known) (t : Turn) (id tenant : List ℕ) (line : Line) (u : ℕ) (a : Asked) (pin generation : ℕ) (floor : Option ℕ)
    → AsksAs id tenant line → Fits known (asker_of t.asking) t.asked line (ask u a pin generation floor) → slice_get known.names u ≡ Some tenant
named_as known t id tenant (script.ask i n start end step query) u a pin generation floor own_it fits = fits.0 ∙ ap Some own_it.1
named_as known t id tenant (script.instant i n time query) u a pin generation floor own_it fits = fits.0 ∙ ap Some own_it.1
named_as known t id tenant (script.ingest n file time) u a pin generation floor own_it fits = absurd own_it
named_as known t id tenant (script.delete n from to selector) u a pin generation floor own_it fits = absurd own_it
named_as known t id tenant (script.cancel i k n) u a pin generation floor own_it fits = absurd own_it
named_as known t id tenant (script.answer i k) u a pin generation floor own_it fits = absurd own_it
named_as known t id tenant (script.plan i k) u a pin generation floor own_it fits = absurd own_it
named_as known t id tenant (script.keep i k) u a pin generation floor own_it fits = absurd own_it
named_as known t id tenant (script.take w) u a pin generation floor own_it fits = absurd own_it
named_as known t id tenant (script.done w) u a pin generation floor own_it fits = absurd own_it

asker_named : (id tenant : List ℕ) (n : ℕ) (line : Line) (told : Told) → AsksAs id tenant line
    → asker_of (Some (record { line = record { number = n; line = line }; told = told })) ≡ tenant
asker_named id tenant n (script.ask i t start end step query) told own_it = own_it.1
asker_named id tenant n (script.instant i t time query) told own_it = own_it.1
asker_named id tenant n (script.ingest t file time) told own_it = absurd own_it
asker_named id tenant n (script.delete t from to selector) told own_it = absurd own_it
asker_named id tenant n (script.cancel i k t) told own_it = absurd own_it
asker_named id tenant n (script.answer i k) told own_it = absurd own_it
asker_named id tenant n (script.plan i k) told own_it = absurd own_it
asker_named id tenant n (script.keep i k) told own_it = absurd own_it
asker_named id tenant n (script.take w) told own_it = absurd own_it
asker_named id tenant n (script.done w) told own_it = absurd own_it

-- what is said of lines, of a line that asks
pub ask_line : (P : Line → Type 0) (id tenant : List ℕ) (line : Line) → AsksAs id tenant line
    → ((start end step : ℕ) (query : List ℕ) → P (script.ask id tenant start end step query))
    → ((time : ℕ) (query : List ℕ) → P (script.instant id tenant time query)) → P line
ask_line P id tenant (script.ask i t start end step query) own_it over at =
    subst (λ (j : List ℕ). P (script.ask j t start end step query)) (sym own_it.0)
    (subst (λ (s : List ℕ). P (script.ask id s start end step query)) (sym own_it.1) (over start end step query))
ask_line P id tenant (script.instant i t time query) own_it over at =
    subst (λ (j : List ℕ). P (script.instant j t time query)) (sym own_it.0)
    (subst (λ (s : List ℕ). P (script.instant id s time query)) (sym own_it.1) (at time query))
ask_line P id tenant (script.ingest t file time) own_it over at = absurd own_it
ask_line P id tenant (script.delete t from to selector) own_it over at = absurd own_it
ask_line P id tenant (script.cancel i k t) own_it over at = absurd own_it
ask_line P id tenant (script.answer i k) own_it over at = absurd own_it
ask_line P id tenant (script.plan i k) own_it over at = absurd own_it
ask_line P id tenant (script.keep i k) own_it over at = absurd own_it
ask_line P id tenant (script.take w) own_it over at = absurd own_it
ask_line P id tenant (script.done w) own_it over at = absurd own_it

is_asked : (wanted : Option (Result Asked (List ℕ))) (a : Asked) → wanted ≡ Some (Ok a) → IsAsked wanted
is_asked wanted a e = subst IsAsked (sym e) tt

is_not_asked : (wanted : Option (Result Asked (List ℕ))) (text : List ℕ) → wanted ≡ Some (Err text) → IsNotAsked wanted
is_not_asked wanted text e = subst IsNotAsked (sym e) tt

-- ---- what is kept

ran_here : (n : ℕ) (above : List Ran) (r : Ran) → r.line.number ≡ n → ran_at n (r ∷ above) ≡ Some r
ran_here n above r e = let t : nat_eq r.line.number n ≡ true = grind (arith, nat_tests, e) in rw t refl

unanswered_by : (o p : Open) (c a : Option Moment) → opened_by o c a ≡ Some p → a ≡ None
unanswered_by o p c None e = refl
unanswered_by o p c (Some y) e = cc

here_of : (own : List Moment) (m : Machine) (client n : ℕ) (what : What) → Each (λ x. x.entry.line < n) own
    → moment_of n (own ++ moment_by m client n what ∷ []) ≡ Some (moment_by m client n what)
here_of own m client n what low = last_with _ own (moment_by m client n what) (unmade own n low) (grind (arith, nat_tests))

-- a query that was opened now has no answer
unanswered_now : (old new : CoreData) (client n u : ℕ) (a : Asked) (pin generation : ℕ) (floor : Option ℕ) (q : ℕ) (o : Open)
    → Stands new → new.journal ≡ old.journal ++ entry_by client n (ask u a pin generation floor) ∷ []
    → Each (λ (e : Entry). e.client ≡ client) old.journal → Each (λ x. x.entry.line < n) (own_of client old)
    → q ≡ (machine_of old).count → open_at q (machine_of new).queries ≡ Some o
    → answer_of (Some (moment_by (machine_of old) client n (ask u a pin generation floor))) (own_of client old ++ moment_by (machine_of old) client n (ask u a pin generation floor) ∷ []) ≡ None
unanswered_now old new client n u a pin generation floor q o s journal alone low place is_open =
    let what = ask u a pin generation floor in
    let x : Moment = moment_by (machine_of old) client n what in
    let own' : own_moments client (moments new.journal) ≡ own_of client old ++ x ∷ [] =
    ap (λ (es : List Entry). own_moments client (moments es)) journal ∙ own_on old.journal client n (Some what) in
    let alone' : Each (λ (e : Entry). e.client ≡ client) new.journal =
    subst (Each (λ (e : Entry). e.client ≡ client)) (sym journal) (each_snoc _ old.journal (entry_by client n what) alone refl) in
    let all : own_of client old ++ x ∷ [] ≡ moments new.journal = sym own' ∙ all_own client started new.journal alone' in
    let among : IsAmong x (moments new.journal) = subst (IsAmong x) all (found_among _ (own_of client old ++ x ∷ []) x (here_of (own_of client old) (machine_of old) client n what low)) in
    let law = opened new.limits new.names new.journal x s.legal among u a pin generation floor refl in
    let there : open_at (place_of x) (machine_of new).queries ≡ Some o = subst (λ (i : ℕ). open_at i (machine_of new).queries ≡ Some o) place is_open in
    ap (answer_of (Some x)) all ∙ unanswered_by (asked_at x u a) o (cancel_of (Some x) (moments new.journal)) (answer_of (Some x) (moments new.journal)) (sym law ∙ there)

-- what is kept of an ask is right
pub slot_new : (client : ℕ) (known : Known) (above : List Ran) (n : Told → Naming) (l : Numbered) (id tenant : List ℕ) (old new : CoreData) (told : Told) (entered : Option What) (kept : Slot)
    → AsksAs id tenant l.line → IsSlot known l.line old new told entered kept
    → new.journal ≡ old.journal ++ entries_by client l.number entered
    → Each (λ (e : Entry). e.client ≡ client) old.journal → Each (λ x. x.entry.line < l.number) (own_of client old)
    → IsMatched known (turn_by (n told) l told (moment_with (machine_of old) client l.number entered)) (moment_with (machine_of old) client l.number entered)
    → SlotRight known (record { line = l; told = told } ∷ above) (own_with (own_of client old) (machine_of old) client l.number entered) l.number (Some kept)
slot_new client known above n l id tenant old new told (Some (ask u a pin generation floor)) (slot.Asked q) own_it is journal alone low matched = record {
  asked = moment_by (machine_of old) client l.number (ask u a pin generation floor);
  there = here_of (own_of client old) (machine_of old) client l.number (ask u a pin generation floor) low;
  place = sym is.place;
  tenant = u;
  wanted = a;
  pin = pin;
  generation = generation;
  floor = floor;
  is = refl;
  named = named_as known (turn_by (n told) l told (Some (moment_by (machine_of old) client l.number (ask u a pin generation floor)))) id tenant l.line u a pin generation floor own_it matched.0
      ∙ ap Some (sym (ap asker_of (ran_here l.number above (record { line = l; told = told }) refl) ∙ asker_named id tenant l.number l.line told own_it));
  unanswered = unanswered_now old new client l.number u a pin generation floor q is.opened is.stands journal alone low is.place is.is_open;
}
slot_new client known above n l id tenant old new told (Some (append u b vs e)) (slot.Asked q) own_it is journal alone low matched = absurd is.by_ask
slot_new client known above n l id tenant old new told (Some (delete u ms from to g e)) (slot.Asked q) own_it is journal alone low matched = absurd is.by_ask
slot_new client known above n l id tenant old new told (Some (full u k)) (slot.Asked q) own_it is journal alone low matched = absurd is.by_ask
slot_new client known above n l id tenant old new told (Some (no_tenant name)) (slot.Asked q) own_it is journal alone low matched = absurd is.by_ask
slot_new client known above n l id tenant old new told (Some (cancel k)) (slot.Asked q) own_it is journal alone low matched = absurd is.by_ask
slot_new client known above n l id tenant old new told (Some (answer k code c e)) (slot.Asked q) own_it is journal alone low matched = absurd is.by_ask
slot_new client known above n l id tenant old new told None (slot.Asked q) own_it is journal alone low matched = absurd is.by_ask
slot_new client known above n l id tenant old new told None (slot.BadGrid e) own_it is journal alone low matched = record {
  none = unmade (own_of client old) l.number low;
  ran = record { line = l; told = told };
  there = ran_here l.number above (record { line = l; told = told }) refl;
  told = is.1.0;
  text = is.1.1;
}
slot_new client known above n l id tenant old new told (Some what) (slot.BadGrid e) own_it is journal alone low matched = let none = is.0 in cc
slot_new client known above n l id tenant old new told None (slot.BadQuery e) own_it is journal alone low matched = record {
  none = unmade (own_of client old) l.number low;
  ran = record { line = l; told = told };
  there = ran_here l.number above (record { line = l; told = told }) refl;
  told = is.1.0;
  text = is.1.1;
}
slot_new client known above n l id tenant old new told (Some what) (slot.BadQuery e) own_it is journal alone low matched = let none = is.0 in cc
slot_new client known above n l id tenant old new told None slot.Full own_it is journal alone low matched = absurd is
slot_new client known above n l id tenant old new told (Some what) slot.Full own_it is journal alone low matched =
    rw (here_of (own_of client old) (machine_of old) client l.number what low) is
slot_new client known above n l id tenant old new told None slot.TooManyTenants own_it is journal alone low matched = absurd is
slot_new client known above n l id tenant old new told (Some what) slot.TooManyTenants own_it is journal alone low matched =
    rw (here_of (own_of client old) (machine_of old) client l.number what low) is
slot_new client known above n l id tenant old new told None slot.NoMemory own_it is journal alone low matched = record {
  none = unmade (own_of client old) l.number low;
  ran = record { line = l; told = told };
  there = ran_here l.number above (record { line = l; told = told }) refl;
  told = is.1;
}
slot_new client known above n l id tenant old new told (Some what) slot.NoMemory own_it is journal alone low matched = let none = is.0 in cc

-- ---- steps

-- an entry, and work that entered nothing
entered_on : (old mid new : CoreData) (by : By) (what : What) → Enters old by what mid → IsSameHistory mid new → Enters old by what new
entered_on old mid new by what e h = record {
  journal = h.journal ∙ e.journal;
  limits = h.limits ∙ e.limits;
  more = e.more;
  grown = h.names ∙ e.grown;
}

module _ (known : Known) (n : Told → Naming) (old new : Client) (held : new.hands ≡ old.hands) (number : ℕ) (id tenant : List ℕ) (line : Line) (own_it : AsksAs id tenant line) where
  -- a query was opened, and maybe planned
  pub step_asked : (by : By) (a : Asked) (place : ℕ) (pin : PinData) (mid : CoreData) → IsKnown known new.core → AsksAt old.core by tenant a place pin mid → AreBegun old.core place mid
      → WorksOn 0 0 mid new.core → Stands new.core
      → by.client ≡ old.client → by.line ≡ number → wanted_by known line ≡ Some (Ok a)
      → new.out.items ≡ old.out.items ++ reply_line number (codes "ask") id (codes "pin" ∷ decimal pin.number ∷ codes "place" ∷ decimal place ∷ [])
      → ((k : ℕ) → get nat_cmp new.slots k ≡ cond (nat_eq number k) (Some (slot.Asked place)) (get nat_cmp old.slots k))
      → IsAskStep known n old (record { number = number; line = line }) run.On new
  step_asked by a place pin mid k e begun works stands client by_line wanted said kept =
      let u = e.entered.number in
      let what = ask u a pin.number pin.generation pin.floor in
      let entered : Enters old.core by what new.core = entered_on old.core mid new.core by what e.entered.entered works.history in
      let named : slice_get known.names u ≡ Some tenant =
      name_known known new.core u tenant k (subst (λ (ns : List (List ℕ)). slice_get ns u ≡ Some tenant) (sym works.history.names) e.entered.named) in
      let is_open : open_at place (machine_of new.core).queries ≡ Some e.opened =
      subst (λ (es : List Entry). open_at place (machine_after started es).queries ≡ Some e.opened) (sym works.history.journal) e.is_open in
      let keeps : KeepsHands old new = keeps_hands old new (ap (λ v. v.items) held) (λ v. works.hands v ∙ ap (λ (qs : List QueueHeads). (slice_index_or qs v no_heads).hands) begun.0.queues) in
      let more = works.failed in
      let begun_failed = ap (λ (fs : List ℕ). sum fs) begun.0.failed in
      let tried : CountsTries old.core nothing new.core = tries_on old.core new.core nothing (omega (arith, more, begun_failed)) refl in
      let said' : new.out.items ≡ old.out.items ++ ask_reply number id nothing (Some (moment_by (machine_of old.core) old.client number what)) =
      said ∙ ap (λ (p : ℕ). old.out.items ++ reply_line number (codes "ask") id (codes "pin" ∷ decimal pin.number ∷ codes "place" ∷ decimal p ∷ [])) e.here in
      ask_line (λ (x : Line). wanted_by known x ≡ Some (Ok a) → IsAskStep known n old (record { number = number; line = x }) run.On new) id tenant line own_it
      (λ start end step query w. record {
        step = step_entered known n old new by (record { number = number; line = script.ask id tenant start end step query }) nothing what k entered client by_line
            (named, w) refl e.room refl tried keeps said';
        keeps = record {
          kept = slot.Asked place;
          is = record { place = e.here; stands = stands; by_ask = tt; opened = e.opened; is_open = is_open };
          slots = kept;
        };
      })
      (λ time query w. record {
        step = step_entered known n old new by (record { number = number; line = script.instant id tenant time query }) nothing what k entered client by_line
            (named, w) refl e.room refl tried keeps said';
        keeps = record {
          kept = slot.Asked place;
          is = record { place = e.here; stands = stands; by_ask = tt; opened = e.opened; is_open = is_open };
          slots = kept;
        };
      }) wanted

  -- the tenant had as many open queries as it may
  pub step_filled : (by : By) (a : Asked) (outstanding : ℕ) → IsKnown known new.core → HasRoomFor old.core 3
      → EntersFor old.core by tenant (λ u. full u outstanding) new.core → AreSameWork old.core new.core
      → by.client ≡ old.client → by.line ≡ number → wanted_by known line ≡ Some (Ok a)
      → new.out.items ≡ old.out.items ++ reply_line number (codes "ask") id (refused_words (decimal 429))
      → ((k : ℕ) → get nat_cmp new.slots k ≡ cond (nat_eq number k) (Some slot.Full) (get nat_cmp old.slots k))
      → IsAskStep known n old (record { number = number; line = line }) run.On new
  step_filled by a outstanding k room e works client by_line wanted said0 kept =
      let said : new.out.items ≡ old.out.items ++ reply_line number (codes "ask") id (refused_words (codes "429")) = said0 ∙ ap (λ (t : List ℕ). old.out.items ++ reply_line number (codes "ask") id (refused_words t)) code_429 in
      let named : slice_get known.names e.number ≡ Some tenant = name_known known new.core e.number tenant k e.named in
      ask_line (λ (x : Line). wanted_by known x ≡ Some (Ok a) → IsAskStep known n old (record { number = number; line = x }) run.On new) id tenant line own_it
      (λ start end step query w. record {
        step = step_entered known n old new by (record { number = number; line = script.ask id tenant start end step query }) nothing (full e.number outstanding) k e.entered client by_line
            (named, is_asked _ a w) refl room refl (works_tries old.core new.core nothing works refl) (works_keep old new works held) said;
        keeps = record { kept = slot.Full; is = tt; slots = kept };
      })
      (λ time query w. record {
        step = step_entered known n old new by (record { number = number; line = script.instant id tenant time query }) nothing (full e.number outstanding) k e.entered client by_line
            (named, is_asked _ a w) refl room refl (works_tries old.core new.core nothing works refl) (works_keep old new works held) said;
        keeps = record { kept = slot.Full; is = tt; slots = kept };
      }) wanted

  -- as many tenants are known as may be
  pub step_stranger : (by : By) (a : Asked) → IsKnown known new.core → HasRoomFor old.core 3 → Enters old.core by (no_tenant tenant) new.core → AreSameWork old.core new.core
      → by.client ≡ old.client → by.line ≡ number → wanted_by known line ≡ Some (Ok a)
      → new.out.items ≡ old.out.items ++ reply_line number (codes "ask") id (refused_words (decimal 503))
      → ((k : ℕ) → get nat_cmp new.slots k ≡ cond (nat_eq number k) (Some slot.TooManyTenants) (get nat_cmp old.slots k))
      → IsAskStep known n old (record { number = number; line = line }) run.On new
  step_stranger by a k room e works client by_line wanted said0 kept =
      let said : new.out.items ≡ old.out.items ++ reply_line number (codes "ask") id (refused_words (codes "503")) = said0 ∙ ap (λ (t : List ℕ). old.out.items ++ reply_line number (codes "ask") id (refused_words t)) code_503 in
      ask_line (λ (x : Line). wanted_by known x ≡ Some (Ok a) → IsAskStep known n old (record { number = number; line = x }) run.On new) id tenant line own_it
      (λ start end step query w. record {
        step = step_entered known n old new by (record { number = number; line = script.ask id tenant start end step query }) nothing (no_tenant tenant) k e client by_line
            (refl, is_asked _ a w) refl room refl (works_tries old.core new.core nothing works refl) (works_keep old new works held) said;
        keeps = record { kept = slot.TooManyTenants; is = tt; slots = kept };
      })
      (λ time query w. record {
        step = step_entered known n old new by (record { number = number; line = script.instant id tenant time query }) nothing (no_tenant tenant) k e client by_line
            (refl, is_asked _ a w) refl room refl (works_tries old.core new.core nothing works refl) (works_keep old new works held) said;
        keeps = record { kept = slot.TooManyTenants; is = tt; slots = kept };
      }) wanted

  -- the journal is full
  pub step_unasked : (a : Asked) → new.core ≡ old.core → IsFull old.core 3 → wanted_by known line ≡ Some (Ok a)
      → new.out.items ≡ old.out.items ++ reply_line number (codes "ask") id journal_words
      → IsAskStep known n old (record { number = number; line = line }) run.Full new
  step_unasked a same over wanted said =
      ask_line (λ (x : Line). wanted_by known x ≡ Some (Ok a) → IsAskStep known n old (record { number = number; line = x }) run.Full new) id tenant line own_it
      (λ start end step query w. record {
        step = step_full known n old new (record { number = number; line = script.ask id tenant start end step query }) same over (is_asked _ a w) (keeps_same old new (ap (λ v. v.items) held) same) said;
        keeps = tt;
      })
      (λ time query w. record {
        step = step_full known n old new (record { number = number; line = script.instant id tenant time query }) same over (is_asked _ a w) (keeps_same old new (ap (λ v. v.items) held) same) said;
        keeps = tt;
      }) wanted

  -- there is no memory
  pub step_starved : (r : LineRun) → r ≡ run.On → new.core ≡ old.core
      → new.out.items ≡ old.out.items ++ reply_line number (codes "ask") id (refused_words (decimal 507))
      → ((k : ℕ) → get nat_cmp new.slots k ≡ cond (nat_eq number k) (Some slot.NoMemory) (get nat_cmp old.slots k))
      → IsAskStep known n old (record { number = number; line = line }) r new
  step_starved r on same said0 kept =
      let said : new.out.items ≡ old.out.items ++ reply_line number (codes "ask") id (refused_words (codes "507")) = said0 ∙ ap (λ (t : List ℕ). old.out.items ++ reply_line number (codes "ask") id (refused_words t)) code_507 in
      subst (λ (x : LineRun). IsAskStep known n old (record { number = number; line = line }) x new) (sym on)
      (ask_line (λ (x : Line). IsAskStep known n old (record { number = number; line = x }) run.On new) id tenant line own_it
      (λ start end step query. record {
        step = step_stayed known n old new (record { number = number; line = script.ask id tenant start end step query }) no_memory same refl refl tt (keeps_same old new (ap (λ v. v.items) held) same) said;
        keeps = record { kept = slot.NoMemory; is = (refl, refl); slots = kept };
      })
      (λ time query. record {
        step = step_stayed known n old new (record { number = number; line = script.instant id tenant time query }) no_memory same refl refl tt (keeps_same old new (ap (λ v. v.items) held) same) said;
        keeps = record { kept = slot.NoMemory; is = (refl, refl); slots = kept };
      }))

  -- what is asked for is refused
  pub step_refused : (text : List ℕ) (kept : Slot) → new.core ≡ old.core → wanted_by known line ≡ Some (Err text)
      → IsSlot known line old.core new.core nothing None kept
      → new.out.items ≡ old.out.items ++ reply_line number (codes "ask") id (refused_words (decimal 400))
      → ((k : ℕ) → get nat_cmp new.slots k ≡ cond (nat_eq number k) (Some kept) (get nat_cmp old.slots k))
      → IsAskStep known n old (record { number = number; line = line }) run.On new
  step_refused text kept same wanted is said0 now =
      let said : new.out.items ≡ old.out.items ++ reply_line number (codes "ask") id (refused_words (codes "400")) = said0 ∙ ap (λ (t : List ℕ). old.out.items ++ reply_line number (codes "ask") id (refused_words t)) code_400 in
      ask_line (λ (x : Line). wanted_by known x ≡ Some (Err text) → IsSlot known x old.core new.core nothing None kept → IsAskStep known n old (record { number = number; line = x }) run.On new) id tenant line own_it
      (λ start end step query w i. record {
        step = step_stayed known n old new (record { number = number; line = script.ask id tenant start end step query }) nothing same refl refl (is_not_asked _ text w) (keeps_same old new (ap (λ v. v.items) held) same) said;
        keeps = record { kept = kept; is = i; slots = now };
      })
      (λ time query w i. record {
        step = step_stayed known n old new (record { number = number; line = script.instant id tenant time query }) nothing same refl refl (is_not_asked _ text w) (keeps_same old new (ap (λ v. v.items) held) same) said;
        keeps = record { kept = kept; is = i; slots = now };
      }) wanted is

-- a call that refused an ask for want of memory
pub starved_ask : {E : Type 0} (old new : Client) (number : ℕ) (id tenant : List ℕ) (result : Result LineRun E) → IfOk result (λ r. r ≡ run.On)
    → OnOk result (new.out.items ≡ old.out.items ++ reply_line number (codes "ask") id (refused_words (decimal 507)))
    → OnOk result ((k : ℕ) → get nat_cmp new.slots k ≡ cond (nat_eq number k) (Some slot.NoMemory) (get nat_cmp old.slots k))
    → new.core ≡ old.core → new.hands ≡ old.hands
    → IfOk result (λ r. (known : Known) (line : Line) → AsksAs id tenant line → AskRuns known old (record { number = number; line = line }) r new)
starved_ask old new number id tenant (Ok r) on said kept same held = λ known line own_it n k. step_starved known n old new held number id tenant line own_it r on same said kept
starved_ask old new number id tenant (Err e) on said kept same held = tt

-- what asks add
pub grows_asked : (old mid new : CoreData) (by : By) (tenant : List ℕ) (a : Asked) (place : ℕ) (pin : PinData) → AsksAt old by tenant a place pin mid → AreBegun old place mid → WorksOn 0 0 mid new → Grows 0 0 old new
grows_asked old mid new by tenant a place pin e begun works =
    grows_on old mid new
    (grows_entered old mid by (ask e.entered.number a pin.number pin.generation pin.floor) e.entered.entered (idle_same old mid (queues_same old mid begun.0.queues)) begun.0.failed)
    (grows_works mid new works)

pub grows_filled : (old new : CoreData) (by : By) (tenant : List ℕ) (outstanding : ℕ) → EntersFor old by tenant (λ u. full u outstanding) new → AreSameWork old new → Grows 0 0 old new
grows_filled old new by tenant outstanding e same = grows_with old new by (full e.number outstanding) e.entered same
