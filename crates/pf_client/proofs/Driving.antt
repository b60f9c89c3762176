-- A client goes on by a line, and stops.
use Rattle.std.proofs.Common.{◌≡◌, ℕ, zero, suc, ◌+◌, ◌<◌, ◌≤◌, ◌⊎◌, inl, inr, Bool, true, false, Option, Some, None, Result, Ok, Err, IfOk, OnOk, List, [], ◌∷◌, ◌++◌, drop, length, slice_get, take, refl, sym, ap, ◌∙◌, subst, append-nil, append_assoc, arith, nat_eq, cond}
use Rattle.std.proofs.lemmas.Bool.Decides.{nat_tests}
use Rattle.std.proofs.lemmas.List.{length-append}
use Rattle.std.specs.BTreeMap.{get}
use Rattle.std.specs.Ordering.{nat_cmp}
use Rattle.pf_base.specs.declared.plain.Limits.{Limits}
use Rattle.pf_core.specs.Cores.{CoreData, machine_of}
use Rattle.pf_journal.proofs.Going.{going, ran-snoc, runs_to_stop}
use Rattle.pf_journal.proofs.Growing.{hands_behind, lines_behind}
use Rattle.pf_journal.specs.Entered.{Fits, room_of}
use Rattle.pf_journal.specs.Legal.{Moment, machine_after, moments}
use Rattle.pf_journal.specs.Machine.{Entry, Machine, Open, What, append, delete, ask, full, no_tenant, cancel, answer, open_at, reserved, started}
use Rattle.pf_journal.specs.Replies.{reply_of}
use Rattle.pf_journal.specs.Report.{client_text}
use Rattle.pf_journal.specs.Rest.{Known, Told, Why, at_end, at_full, at_memory}
use Rattle.pf_journal.specs.Scripts as script
use Rattle.pf_journal.specs.Scripts.{Line, Numbered}
use Rattle.pf_journal.specs.Turns.{Hand, Ran, Turn, asker_of, hands_after, is_answer_of, own_moments, ran_lines}
use Rattle.pf_journal.specs.Unentered.{HasQuery}
use Rattle.pf_journal.specs.Weave.{IsMatched, Lacks, LacksRoom, RunsTo, Woven, stops_at}
use Rattle.pf_model.specs.Lists.{Each}
use Rattle.pf_script.specs.Lines.{Follows, IsAnswerOf, IsAsk, line_at}
use Rattle.pf_client.proofs.Asking.{slot_new}
use Rattle.pf_client.proofs.Cancelling.{known_before}
use Rattle.pf_client.proofs.HandLines.{closes_it, hands_next, live_before, open_before, tried_next, WasOpen}
use Rattle.pf_client.proofs.Onward.{each_snoc, machine-snoc, own_below, own_on, own_with, text_on, woven_on}
use Rattle.pf_client.proofs.SlotLaws.{LeavesSlot, asked_below as ask_below, full_shut, slot_shut, slots_answered, slots_as, slots_asked, slots_same, stranger_shut}
use Rattle.pf_client.specs.Asks.{AreKept, AskRuns, AsksAs, HaveSlots, IsAnswerStep, IsAskStep, IsSlot, SlotRight, Slots, answers, is_query, left_of}
use Rattle.pf_client.specs.Clients.{Ends, Grows, IsKnown, IsStep, Naming, Runs, entries_by, entry_by, moment_with, naming, turn_by}
use Rattle.pf_client.specs.Going.{AreAsked, Goes, Going, GoesOn, GoesOnWith, HasRun, HasTold, IsGoing, hands_last, last_first, own_of}
use Rattle.pf_client.specs.Hands.{HaveHands}
use Rattle.pf_client.specs.Queries.{IsTold}
use Rattle.pf_client.specs.declared.client.Client.{Client}
use Rattle.pf_client.specs.declared.client.LineRun.{LineRun}
use Rattle.pf_client.specs.declared.client.LineRun.TheVariants as run
use Rattle.pf_client.specs.declared.loaded.Loaded.{Loaded}
use Rattle.pf_client.specs.declared.slots.Slot.{Slot}
use Rattle.pf_client.specs.declared.slots.Slot.TheVariants as slot

-- ---- lists

same_behind : (above rs : List Ran) → last_first above rs ≡ lines_behind above rs
same_behind above [] = refl
same_behind above (r ∷ rs) = same_behind (r ∷ above) rs

last_first-snoc : (above rs : List Ran) (r : Ran) → last_first above (rs ++ r ∷ []) ≡ r ∷ last_first above rs
last_first-snoc above [] r = refl
last_first-snoc above (x ∷ rs) r = last_first-snoc (x ∷ above) rs r

same_hands : (hands : List Hand) (rs : List Ran) → hands_last hands rs ≡ hands_behind hands rs
same_hands hands [] = refl
same_hands hands (r ∷ rs) = same_hands (hands_after r.line.line r.told hands) rs

hands_last-snoc : (hands : List Hand) (rs : List Ran) (r : Ran) → hands_last hands (rs ++ r ∷ []) ≡ hands_after r.line.line r.told (hands_last hands rs)
hands_last-snoc hands [] r = refl
hands_last-snoc hands (x ∷ rs) r = hands_last-snoc (hands_after x.line.line x.told hands) rs r

take_there : {X : Type 0} (xs : List X) (n : ℕ) (x : X) → slice_get xs n ≡ Some x → take (suc n) xs ≡ take n xs ++ x ∷ []
take_there [] n x h = cc
take_there (y ∷ xs) zero x h = let same : y ≡ x = cc in ap (λ z. z ∷ []) same
take_there (y ∷ xs) (suc n) x h = ap (λ zs. y ∷ zs) (take_there xs n x h)

take_all : {X : Type 0} (xs : List X) → take (length xs) xs ≡ xs
take_all [] = refl
take_all (x ∷ xs) = ap (λ ys. x ∷ ys) (take_all xs)

drop_all : {X : Type 0} (xs : List X) → drop (length xs) xs ≡ []
drop_all [] = refl
drop_all (x ∷ xs) = drop_all xs

each_by : (P : Entry → Type 0) (journal : List Entry) (client n : ℕ) (entered : Option What) → Each P journal
    → ((what : What) → entered ≡ Some what → P (entry_by client n what)) → Each P (journal ++ entries_by client n entered)
each_by P journal client n None h f = subst (Each P) (sym (append-nil journal)) h
each_by P journal client n (Some what) h f = each_snoc P journal (entry_by client n what) h (f what refl)

-- ---- the machine behind a line

count_on : (journal : List Entry) (client n : ℕ) (entered : Option What) → (machine_after started journal).count ≤ (machine_after started (journal ++ entries_by client n entered)).count
count_on journal client n None = let e = ap (λ (es : List Entry). (machine_after started es).count) (append-nil journal) in omega (arith, e)
count_on journal client n (Some what) = let e = ap (λ (m : Machine). m.count) (machine-snoc started journal (entry_by client n what)) in omega (arith, e)

count_entered : (journal : List Entry) (client n : ℕ) (what : What) → (machine_after started journal).count < (machine_after started (journal ++ entry_by client n what ∷ [])).count
count_entered journal client n what = let e = ap (λ (m : Machine). m.count) (machine-snoc started journal (entry_by client n what)) in omega (arith, e)

-- ---- one line

module _ (known : Known) (lines : List Numbered) (told : List Told) (sent : List ℕ) (l : Numbered) (old new : Client) (r : LineRun)
    (there : slice_get lines (length told) ≡ Some l) (follows : Follows (take (length told) lines) l) (h : HasTold known lines told at_end sent old)
    (step : IsStep known (naming (own_of old.client old.core) (last_first [] (ran_lines lines told)) (hands_last [] (ran_lines lines told)) l.line) old l r new)
    (same_client : new.client ≡ old.client) where
  own_new : own_of new.client new.core ≡ own_with (own_of old.client old.core) (machine_of old.core) old.client l.number step.entered
  own_new =
      ap (λ (i : ℕ). own_of i new.core) same_client ∙ ap (λ (es : List Entry). own_moments old.client (moments es)) step.journal
      ∙ own_on old.core.journal old.client l.number step.entered

  behind : last_first [] (ran_lines lines told) ≡ lines_behind [] (ran_lines lines told)
  behind = same_behind [] (ran_lines lines told)

  in_hand : hands_last [] (ran_lines lines told) ≡ hands_behind [] (ran_lines lines told)
  in_hand = same_hands [] (ran_lines lines told)

  -- what a line says comes behind what was sent
  behind_sent : (reply : List ℕ) → new.out.items ≡ old.out.items ++ reply → sent ++ new.out.items ≡ (sent ++ old.out.items) ++ reply
  behind_sent reply e = ap (λ (bytes : List ℕ). sent ++ bytes) e ∙ sym (append_assoc sent old.out.items reply)

  pub told_on : HasTold known lines (told ++ step.told ∷ []) at_end sent new
  told_on = record {
    woven = subst (λ (own : List Moment). Woven known own lines (going told step.told at_end)) (sym own_new)
        (woven_on known (own_of old.client old.core) (machine_of old.core) old.client lines told l step.told step.entered h.woven there follows.first follows.rising
        (subst (λ (hands : List Hand). IsMatched known (turn_by (naming (own_of old.client old.core) (lines_behind [] (ran_lines lines told)) hands l.line step.told) l step.told (moment_with (machine_of old.core) old.client l.number step.entered)) (moment_with (machine_of old.core) old.client l.number step.entered)) in_hand
        (subst (λ (above : List Ran). IsMatched known (turn_by (naming (own_of old.client old.core) above (hands_last [] (ran_lines lines told)) l.line step.told) l step.told (moment_with (machine_of old.core) old.client l.number step.entered)) (moment_with (machine_of old.core) old.client l.number step.entered)) behind step.matched))
        step.roomy);
    said = text_on known (own_of old.client old.core) (machine_of old.core) old.client lines told l step.told step.entered (sent ++ old.out.items) (sent ++ new.out.items) h.woven there follows.rising h.said
        (behind_sent _ (subst (λ (hands : List Hand). new.out.items ≡ old.out.items ++ reply_of known (turn_by (naming (own_of old.client old.core) (lines_behind [] (ran_lines lines told)) hands l.line step.told) l step.told (moment_with (machine_of old.core) old.client l.number step.entered))) in_hand
        (subst (λ (above : List Ran). new.out.items ≡ old.out.items ++ reply_of known (turn_by (naming (own_of old.client old.core) above (hands_last [] (ran_lines lines told)) l.line step.told) l step.told (moment_with (machine_of old.core) old.client l.number step.entered))) behind step.said)))
        ∙ ap (λ (own : List Moment). client_text known own old.client lines (going told step.told at_end)) (sym own_new)
        ∙ ap (λ (i : ℕ). client_text known (own_of new.client new.core) i lines (going told step.told at_end)) (sym same_client);
    alone = subst (λ (i : ℕ). Each (λ e. e.client ≡ i) new.core.journal) (sym same_client)
        (subst (Each (λ e. e.client ≡ old.client)) (sym step.journal) (each_by (λ e. e.client ≡ old.client) old.core.journal old.client l.number step.entered h.alone (λ what e. refl)));
    tried = tried_next old.core new.core told step.told step.tried h.tried;
  }

  own_low : Each (λ x. x.entry.line < l.number) (own_of old.client old.core)
  own_low = own_below (own_of old.client old.core) (take (length told) lines) l.number follows.rising h.woven.lined

  grown : (machine_of old.core).count ≤ (machine_of new.core).count
  grown =
      let more = count_on old.core.journal old.client l.number step.entered in
      let e = ap (λ (es : List Entry). (machine_after started es).count) step.journal in
      omega (arith, more, e)

  many_more : length (told ++ step.told ∷ []) ≡ length told + 1
  many_more = let e = length-append told (step.told ∷ []) in omega (arith, e)

  ran_on : ran_lines lines (told ++ step.told ∷ []) ≡ ran_lines lines told ++ record { line = l; told = step.told } ∷ []
  ran_on = ran-snoc lines told step.told l there

  hands_on : HaveHands old (hands_last [] (ran_lines lines told)) → HaveHands new (hands_last [] (ran_lines lines (told ++ step.told ∷ [])))
  hands_on have =
      subst (HaveHands new) (sym (ap (hands_last []) ran_on ∙ hands_last-snoc [] (ran_lines lines told) (record { line = l; told = step.told })))
      (hands_next l.line step.told old new (hands_last [] (ran_lines lines told)) (live_before old.core new.core old.client l.number step.entered step.journal) step.hands have)

  -- the client goes on
  pub goes_on : {limits : Limits} → r ≡ run.On → old.core.limits ≡ limits → Each (λ x. stops_at x.line.line x.told ≡ None) (ran_lines lines told)
      → HaveSlots known (record { line = l; told = step.told } ∷ last_first [] (ran_lines lines told)) (own_with (own_of old.client old.core) (machine_of old.core) old.client l.number step.entered)
      (machine_of new.core).count (take (length told) lines ++ l ∷ []) new.slots
      → AreKept new.core new.slots → HaveHands old (hands_last [] (ran_lines lines told))
      → Going known limits lines (length told + 1) sent new
  goes_on on limited goes slots kept hands =
      let ends : stops_at l.line step.told ≡ None = subst (Ends old.core l.line step.told step.entered) on step.ends in
      let lf : last_first [] (ran_lines lines (told ++ step.told ∷ [])) ≡ record { line = l; told = step.told } ∷ last_first [] (ran_lines lines told) =
      ap (last_first []) ran_on ∙ last_first-snoc [] (ran_lines lines told) (record { line = l; told = step.told }) in
      let more : take (length told + 1) lines ≡ take (length told) lines ++ l ∷ [] =
      subst (λ (i : ℕ). take i lines ≡ take (length told) lines ++ l ∷ []) (add_one (length told)) (take_there lines (length told) l there) in
      record {
        told = told ++ step.told ∷ [];
        limited = step.limits ∙ limited;
        many = many_more;
        has_told = told_on;
        goes = subst (Each (λ x. stops_at x.line.line x.told ≡ None)) (sym ran_on) (each_snoc _ (ran_lines lines told) (record { line = l; told = step.told }) goes ends);
        slots = subst (λ (above : List Ran). HaveSlots known above (own_of new.client new.core) (machine_of new.core).count (take (length told + 1) lines) new.slots) (sym lf)
            (subst (λ (own : List Moment). HaveSlots known (record { line = l; told = step.told } ∷ last_first [] (ran_lines lines told)) own (machine_of new.core).count (take (length told + 1) lines) new.slots) (sym own_new)
            (subst (λ (done : List Numbered). HaveSlots known (record { line = l; told = step.told } ∷ last_first [] (ran_lines lines told)) (own_with (own_of old.client old.core) (machine_of old.core) old.client l.number step.entered) (machine_of new.core).count done new.slots) (sym more) slots));
        kept = kept;
        hands = hands_on hands;
      } where
        add_one : (n : ℕ) → suc n ≡ n + 1
        add_one n = omega arith

  -- the line stops the client
  stops_by : {limits : Limits} (why : Why) → stops_at l.line step.told ≡ Some why → Lacks known.limits new.core.journal new.client l.line why
      → old.core.limits ≡ limits → Each (λ x. stops_at x.line.line x.told ≡ None) (ran_lines lines told) → HasRun known limits lines why sent new
  stops_by why stopped lacks limited goes =
      let on = told_on in
      let w = on.woven in
      record {
        limited = step.limits ∙ limited;
        told = told ++ step.told ∷ [];
        has_told = record {
          woven = record { few = w.few; rising = w.rising; lined = w.lined; each = w.each };
          said = on.said;
          alone = on.alone;
          tried = on.tried;
        };
        runs = subst (RunsTo known.limits new.core.journal new.client why (drop (length (told ++ step.told ∷ [])) lines)) (sym ran_on)
            (runs_to_stop known.limits new.core.journal new.client why (drop (length (told ++ step.told ∷ [])) lines) (ran_lines lines told) (record { line = l; told = step.told }) goes stopped lacks);
      }

  -- it met the full journal
  pub stops_here : {limits : Limits} → r ≡ run.Full → old.core.limits ≡ limits → IsKnown known new.core → Each (λ x. stops_at x.line.line x.told ≡ None) (ran_lines lines told) → HasRun known limits lines at_full sent new
  stops_here stopped limited kn goes =
      let ends : Ends old.core l.line step.told step.entered run.Full = subst (Ends old.core l.line step.told step.entered) stopped step.ends in
      let journal : new.core.journal ≡ old.core.journal =
      step.journal ∙ ap (λ (w : Option What). old.core.journal ++ entries_by old.client l.number w) ends.1.0 ∙ append-nil old.core.journal in
      let same : known.limits ≡ old.core.limits = kn.limits ∙ step.limits in
      let whole : take (length new.core.journal) new.core.journal ≡ old.core.journal = take_all new.core.journal ∙ journal in
      let lacks : LacksRoom known.limits new.core.journal new.client l.line = record {
        front = length new.core.journal;
        has_all = subst (Each (λ e. e.client ≡ new.client → ⊥)) (sym (drop_all new.core.journal)) tt;
        over = subst (λ (es : List Entry). known.limits.journal < (machine_after started es).count + reserved (machine_after started es).queries + room_of l.line) (sym whole)
            (subst (λ (m : Limits). m.journal < (machine_of old.core).count + reserved (machine_of old.core).queries + room_of l.line) (sym same) ends.1.1);
      } in
      stops_by at_full ends.0 lacks limited goes

  -- it lacked memory
  pub starves_here : {limits : Limits} → r ≡ run.Starved → old.core.limits ≡ limits → Each (λ x. stops_at x.line.line x.told ≡ None) (ran_lines lines told) → HasRun known limits lines at_memory sent new
  starves_here stopped limited goes =
      let ends : Ends old.core l.line step.told step.entered run.Starved = subst (Ends old.core l.line step.told step.entered) stopped step.ends in
      stops_by at_memory ends tt limited goes

-- ---- lines that answer nothing

abbrev pub IsNotAnswer : Line → Type 0
IsNotAnswer (script.answer id k) = ⊥
IsNotAnswer _ = Unit {0}

no_answer : (known : Known) (t : Turn) (line : Line) (q k code c e : ℕ) → IsNotAnswer line → Fits known (asker_of t.asking) t.asked line (answer k code c e) → is_answer_of q (answer k code c e) ≡ false
no_answer known t (script.ingest tenant file time) q k code c e n fits = absurd fits.0
no_answer known t (script.delete tenant from to selector) q k code c e n fits = absurd fits.0
no_answer known t (script.ask id tenant start end by query) q k code c e n fits = absurd fits.0
no_answer known t (script.instant id tenant time query) q k code c e n fits = absurd fits.0
no_answer known t (script.cancel id asked tenant) q k code c e n fits = absurd fits
no_answer known t (script.answer id asked) q k code c e n fits = absurd n
no_answer known t (script.plan id asked) q k code c e n fits = absurd fits
no_answer known t (script.keep id asked) q k code c e n fits = absurd fits
no_answer known t (script.take w) q k code c e n fits = absurd fits
no_answer known t (script.done w) q k code c e n fits = absurd fits

abbrev pub IsMatchedAs : Known → Turn → Line → Option What → Type 0
IsMatchedAs known t line None = Unit {0}
IsMatchedAs known t line (Some what) = Fits known (asker_of t.asking) t.asked line what

pub matched_as : (known : Known) (t : Turn) (m : Machine) (client n : ℕ) (entered : Option What) → IsMatched known t (moment_with m client n entered) → IsMatchedAs known t t.ran.line.line entered
matched_as known t m client n None h = tt
matched_as known t m client n (Some what) h = h.0

leaves_all : (known : Known) (t : Turn) (line : Line) (entered : Option What) → IsNotAnswer line → IsMatchedAs known t line entered → (s : Option Slot) → LeavesSlot s entered
leaves_all known t line None quiet h s = λ q e. refl
leaves_all known t line (Some (append u b vs e)) quiet h s = λ q e. refl
leaves_all known t line (Some (delete u ms from to g e)) quiet h s = λ q e. refl
leaves_all known t line (Some (ask u a p g f)) quiet h s = λ q e. refl
leaves_all known t line (Some (full u k)) quiet h s = λ q e. refl
leaves_all known t line (Some (no_tenant name)) quiet h s = λ q e. refl
leaves_all known t line (Some (cancel k)) quiet h s = λ q e. refl
leaves_all known t line (Some (answer k code c x)) quiet h s = λ q e. no_answer known t line q k code c x quiet h

-- what is kept of a query that was opened is new
fresh_slot : (known : Known) (l : Numbered) (old new : Client) (told : Told) (entered : Option What) (kept : Slot) → IsSlot known l.line old.core new.core told entered kept
    → new.core.journal ≡ old.core.journal ++ entries_by old.client l.number entered
    → (q : ℕ) → kept ≡ slot.Asked q → (q ≡ (machine_of old.core).count) × (q < (machine_of new.core).count)
fresh_slot known l old new told None kept is journal q e = absurd (subst (IsSlot known l.line old.core new.core told None) e is).by_ask
fresh_slot known l old new told (Some what) kept is journal q e =
    let opened = subst (IsSlot known l.line old.core new.core told (Some what)) e is in
    let place = opened.place in
    let more = count_entered old.core.journal old.client l.number what in
    let c = ap (λ (es : List Entry). (machine_after started es).count) journal in
    (place, omega (arith, place, more, c))

-- an answer of one query leaves the others
leaves_others : (known : Known) (above : List Ran) (own : List Moment) (count : ℕ) (done : List Numbered) (slots : Slots) (k : ℕ) (entered : Option What)
    → HaveSlots known above own count done slots → ((q : ℕ) → answers q entered ≡ is_query q (get nat_cmp slots k))
    → (j : ℕ) → (k ≡ j → ⊥) → LeavesSlot (get nat_cmp slots j) entered
leaves_others known above own count done slots k entered have closes j apart = λ q e. closes q ∙ by (get nat_cmp slots k) refl q e where
  by : (s : Option Slot) → get nat_cmp slots k ≡ s → (q : ℕ) → get nat_cmp slots j ≡ Some (slot.Asked q) → is_query q s ≡ false
  by None f q e = refl
  by (Some (slot.Asked p)) f q e = other (nat_eq p q) refl where
    other : (b : Bool) → nat_eq p q ≡ b → nat_eq p q ≡ false
    other false t = t
    other true t =
        let same : p ≡ q = grind (arith, nat_tests, t) in
        absurd (apart (have.apart k j q (subst (λ (i : ℕ). get nat_cmp slots k ≡ Some (slot.Asked i)) same f) e))
  by (Some (slot.BadGrid x)) f q e = refl
  by (Some (slot.BadQuery x)) f q e = refl
  by (Some slot.Full) f q e = refl
  by (Some slot.TooManyTenants) f q e = refl
  by (Some slot.NoMemory) f q e = refl

shut_by : (known : Known) (above above' : List Ran) (own : List Moment) (m : Machine) (client n j : ℕ) (entered : Option What) (s : Option Slot) → (n ≡ j → ⊥) → (s ≡ None → ⊥)
    → ((q : ℕ) → answers q entered ≡ is_query q s) → SlotRight known above own j s → SlotRight known above' (own_with own m client n entered) j None
shut_by known above above' own m client n j entered None apart kept closes right = absurd (kept refl)
shut_by known above above' own m client n j entered (Some s) apart kept closes right = slot_shut known above above' own m client n j entered s apart closes right

-- what is kept of asks behind a line that answers, or waits
slots_by : (known : Known) (above : List Ran) (r : Ran) (own : List Moment) (m : Machine) (client : ℕ) (done : List Numbered) (l : Numbered) (k : ℕ) (id : List ℕ) (entered : Option What) (count : ℕ) (slots slots' : Slots)
    → (answered : Bool) → Each (λ b. b.number < l.number) done → r.line.number ≡ l.number → m.count ≤ count → l.line ≡ script.answer id k
    → IsAsk id (line_at k done)
    → ((q : ℕ) → answers q entered ≡ cond answered (is_query q (get nat_cmp slots k)) false)
    → ((j : ℕ) → get nat_cmp slots' j ≡ cond (nat_eq k j) (left_of answered (get nat_cmp slots k)) (get nat_cmp slots j))
    → (get nat_cmp slots k ≡ None → ⊥) → SlotRight known above own k (get nat_cmp slots k)
    → HaveSlots known above own m.count done slots
    → HaveSlots known (r ∷ above) (own_with own m client l.number entered) count (done ++ l ∷ []) slots'
slots_by known above r own m client done l k id entered count slots slots' true low same grows is names closes left kept_it right have =
    let below = ask_below k l.number id done low names in
    slots_answered known above r own m client done l k entered count slots slots'
    low same grows (λ i a. subst (λ (x : Line). IsAsk i (Some x)) is a) (subst (λ (x : Line). IsAnswerOf x k) (sym is) refl)
    (leaves_others known above own m.count done slots k entered have closes) left
    (shut_by known above (r ∷ above) own m client l.number k entered (get nat_cmp slots k) (λ e. omega (arith, e, below)) kept_it closes right) have
slots_by known above r own m client done l k id entered count slots slots' false low same grows is names closes left kept_it right have =
    slots_as known (r ∷ above) (own_with own m client l.number entered) count (done ++ l ∷ []) slots slots' (λ j. left j ∙ unmoved j (nat_eq k j) refl)
    (slots_same known above r own m client done l entered count slots low same grows (λ i a. subst (λ (x : Line). IsAsk i (Some x)) is a) (λ j q e. closes q) have) where
      unmoved : (j : ℕ) (b : Bool) → nat_eq k j ≡ b → cond b (get nat_cmp slots k) (get nat_cmp slots j) ≡ get nat_cmp slots j
      unmoved j true t = let e : k ≡ j = grind (arith, nat_tests, t) in ap (get nat_cmp slots) e
      unmoved j false t = refl

-- ---- open queries that are kept

-- a line that asks nothing
no_ask : (known : Known) (t : Turn) (line : Line) (entered : Option What) → ((id : List ℕ) → IsAsk id (Some line) → ⊥) → IsMatchedAs known t line entered → HasQuery entered → ⊥
no_ask known t (script.ask id tenant start end by query) (Some (ask u a p g f)) asks h q = asks id refl
no_ask known t (script.instant id tenant time query) (Some (ask u a p g f)) asks h q = asks id refl
no_ask known t (script.ingest tenant file time) (Some (ask u a p g f)) asks h q = h.1
no_ask known t (script.delete tenant from to selector) (Some (ask u a p g f)) asks h q = h.1
no_ask known t (script.cancel id asked tenant) (Some (ask u a p g f)) asks h q = h
no_ask known t (script.answer id asked) (Some (ask u a p g f)) asks h q = h
no_ask known t (script.plan id asked) (Some (ask u a p g f)) asks h q = h
no_ask known t (script.keep id asked) (Some (ask u a p g f)) asks h q = h
no_ask known t (script.take w) (Some (ask u a p g f)) asks h q = h
no_ask known t (script.done w) (Some (ask u a p g f)) asks h q = h
no_ask known t line (Some (append u b vs e)) asks h q = q
no_ask known t line (Some (delete u ms from to g e)) asks h q = q
no_ask known t line (Some (full u k)) asks h q = q
no_ask known t line (Some (no_tenant name)) asks h q = q
no_ask known t line (Some (cancel k)) asks h q = q
no_ask known t line (Some (answer k code c x)) asks h q = q
no_ask known t line None asks h q = q

kept_on : (old new : CoreData) (slots slots' : Slots) (client n : ℕ) (entered : Option What) → new.journal ≡ old.journal ++ entries_by client n entered → (HasQuery entered → ⊥)
    → slots' ≡ slots → AreKept old slots → AreKept new slots'
kept_on old new slots slots' client n entered journal none same kept q o g = by (open_before old new client n entered journal q o g) where
  by : WasOpen q (machine_of old).queries o ⊎ (HasQuery entered × (q ≡ (machine_of old).count)) → (k : ℕ) × (get nat_cmp slots' k ≡ Some (slot.Asked q))
  by (inl w) = let k = kept q w.0 w.1.0 in (k.0, ap (λ (s : Slots). get nat_cmp s k.0) same ∙ k.1)
  by (inr e) = absurd (none e.0)

-- a line that asks
kept_asked : (known : Known) (l : Numbered) (old new : Client) (told : Told) (entered : Option What) (kept : Slot) → IsSlot known l.line old.core new.core told entered kept
    → new.core.journal ≡ old.core.journal ++ entries_by old.client l.number entered
    → ((k : ℕ) → get nat_cmp new.slots k ≡ cond (nat_eq l.number k) (Some kept) (get nat_cmp old.slots k))
    → ((k : ℕ) (s : Slot) → get nat_cmp old.slots k ≡ Some s → k < l.number)
    → AreKept old.core old.slots → AreKept new.core new.slots
kept_asked known l old new told entered kept is journal now low have q o g = by (open_before old.core new.core old.client l.number entered journal q o g) where
  self : nat_eq l.number l.number ≡ true
  self = grind (arith, nat_tests)

  here : (x : Slot) → IsSlot known l.line old.core new.core told entered x → HasQuery entered → q ≡ (machine_of old.core).count → x ≡ slot.Asked q
  here (slot.Asked p) i h e = ap (λ (y : ℕ). slot.Asked y) (i.place ∙ sym e)
  here (slot.BadGrid b) i h e = absurd (subst HasQuery i.0 h)
  here (slot.BadQuery b) i h e = absurd (subst HasQuery i.0 h)
  here slot.Full i h e = absurd (full_shut entered i h)
  here slot.TooManyTenants i h e = absurd (stranger_shut entered i h)
  here slot.NoMemory i h e = absurd (subst HasQuery i.0 h)

  by : WasOpen q (machine_of old.core).queries o ⊎ (HasQuery entered × (q ≡ (machine_of old.core).count)) → (k : ℕ) × (get nat_cmp new.slots k ≡ Some (slot.Asked q))
  by (inl w) =
      let k = have q w.0 w.1.0 in
      let under = low k.0 (slot.Asked q) k.1 in
      let off : nat_eq l.number k.0 ≡ false = grind (arith, nat_tests, under) in
      (k.0, now k.0 ∙ rw off k.1)
  by (inr e) = (l.number, now l.number ∙ rw self (ap (λ (x : Slot). Some x) (here kept is e.0 e.1)))

answered_shut : (old new : CoreData) (client n q : ℕ) (o : Open) (entered : Option What) → new.journal ≡ old.journal ++ entries_by client n entered → answers q entered ≡ true
    → open_at q (machine_of new).queries ≡ Some o → ⊥
answered_shut old new client n q o None journal a g = cc
answered_shut old new client n q o (Some (answer k code c x)) journal a g =
    let shut = closes_it (machine_of old) k code c x q o
    (subst (λ (m : Machine). open_at q m.queries ≡ Some o) (machine-snoc started old.journal (entry_by client n (answer k code c x)))
    (subst (λ (es : List Entry). open_at q (machine_after started es).queries ≡ Some o) journal g)) in
    let bad : true ≡ false = sym a ∙ shut in
    cc
answered_shut old new client n q o (Some (append u b vs e)) journal a g = cc
answered_shut old new client n q o (Some (delete u ms from to h e)) journal a g = cc
answered_shut old new client n q o (Some (ask u b p h f)) journal a g = cc
answered_shut old new client n q o (Some (full u k)) journal a g = cc
answered_shut old new client n q o (Some (no_tenant name)) journal a g = cc
answered_shut old new client n q o (Some (cancel k)) journal a g = cc

-- a line that answers
kept_answered : (old new : Client) (n line : ℕ) (entered : Option What) (answered : Bool) → new.core.journal ≡ old.core.journal ++ entries_by old.client n entered → (HasQuery entered → ⊥)
    → ((q : ℕ) → answers q entered ≡ cond answered (is_query q (get nat_cmp old.slots line)) false)
    → ((k : ℕ) → get nat_cmp new.slots k ≡ cond (nat_eq line k) (left_of answered (get nat_cmp old.slots line)) (get nat_cmp old.slots k))
    → AreKept old.core old.slots → AreKept new.core new.slots
kept_answered old new n line entered answered journal none closes now have q o g = by (open_before old.core new.core old.client n entered journal q o g) where
  left : (b : Bool) (k : ℕ) → answered ≡ b → get nat_cmp old.slots k ≡ Some (slot.Asked q) → line ≡ k → left_of b (get nat_cmp old.slots line) ≡ Some (slot.Asked q)
  left false k e there same = ap (get nat_cmp old.slots) same ∙ there
  left true k e there same =
      let at_line : get nat_cmp old.slots line ≡ Some (slot.Asked q) = ap (get nat_cmp old.slots) same ∙ there in
      let self : nat_eq q q ≡ true = grind (arith, nat_tests) in
      let it : answers q entered ≡ true = closes q ∙ ap (λ (b : Bool). cond b (is_query q (get nat_cmp old.slots line)) false) e ∙ ap (is_query q) at_line ∙ self in
      absurd (answered_shut old.core new.core old.client n q o entered journal it g)

  by : WasOpen q (machine_of old.core).queries o ⊎ (HasQuery entered × (q ≡ (machine_of old.core).count)) → (k : ℕ) × (get nat_cmp new.slots k ≡ Some (slot.Asked q))
  by (inr e) = absurd (none e.0)
  by (inl w) =
      let k = have q w.0 w.1.0 in
      (k.0, now k.0 ∙ at_it k.0 k.1 (nat_eq line k.0) refl) where
        at_it : (k : ℕ) → get nat_cmp old.slots k ≡ Some (slot.Asked q) → (b : Bool) → nat_eq line k ≡ b
            → cond b (left_of answered (get nat_cmp old.slots line)) (get nat_cmp old.slots k) ≡ Some (slot.Asked q)
        at_it k there true t = left answered k refl there (grind (arith, nat_tests, t))
        at_it k there false t = there

-- each open query was asked by a line above
pub asked_all : (client : ℕ) (known : Known) (above : List Ran) (c : CoreData) (count : ℕ) (done : List Numbered) (slots : Slots) → HaveSlots known above (own_of client c) count done slots → AreKept c slots
    → AreAsked client known above c
asked_all client known above c count done slots have kept q o g =
    let k = kept q o g in
    let a = have.only k.0 (slot.Asked q) k.1 in
    (k.0, subst (SlotRight known above (own_of client c) k.0) k.1 (have.right k.0 a.0 a.1))

-- ---- what running a line makes of its client

-- a line that names no query
pub plain_goes : (loaded : Loaded) (old new : Client) (l : Numbered) (r : LineRun) → new.client ≡ old.client → IsNotAnswer l.line → ((id : List ℕ) → IsAsk id (Some l.line) → ⊥)
    → ((known : Known) → IsTold known loaded → Runs known old l r new) → new.slots ≡ old.slots → GoesOn loaded old l r new
plain_goes loaded old new l r same_client quiet asks runs slots = λ limits lines n sent there follows going. by r refl limits lines n sent there follows going where
  empty : Told → Naming
  empty told = record { hands = []; asking = None; asked = None; cancelled = None; answered = None }

  before : (known : Known) → IsTold known loaded → IsKnown known new.core → IsKnown known old.core
  before known told kn = let s = runs known told empty kn in known_before known old.core new.core s.more s.limits s.grown kn

  by : (x : LineRun) → x ≡ r → (limits : Limits) (lines : List Numbered) (n : ℕ) (sent : List ℕ) → slice_get lines n ≡ Some l → Follows (take n lines) l → IsGoing loaded limits lines n sent old → Goes loaded limits lines n sent x new
  by run.On e limits lines n sent there follows going = λ known told kn.
      let g = going known told (before known told kn) in
      let above = last_first [] (ran_lines lines g.told) in
      let at : slice_get lines (length g.told) ≡ Some l = subst (λ (i : ℕ). slice_get lines i ≡ Some l) (sym g.many) there in
      let behind : Follows (take (length g.told) lines) l = subst (λ (i : ℕ). Follows (take i lines) l) (sym g.many) follows in
      let step = runs known told (naming (own_of old.client old.core) above (hands_last [] (ran_lines lines g.told)) l.line) kn in
      let turn = turn_by (naming (own_of old.client old.core) above (hands_last [] (ran_lines lines g.told)) l.line step.told) l step.told (moment_with (machine_of old.core) old.client l.number step.entered) in
      let matched = matched_as known turn (machine_of old.core) old.client l.number step.entered step.matched in
      let kept = slots_same known above (record { line = l; told = step.told }) (own_of old.client old.core) (machine_of old.core) old.client (take (length g.told) lines) l step.entered (machine_of new.core).count old.slots
      behind.rising refl (grown known lines g.told sent l old new r at behind g.has_told step same_client) asks
      (λ k. leaves_all known turn l.line step.entered quiet matched (get nat_cmp old.slots k))
      (subst (λ (i : ℕ). HaveSlots known above (own_of old.client old.core) (machine_of old.core).count (take i lines) old.slots) (sym g.many) g.slots) in
      subst (λ (i : ℕ). Going known limits lines (i + 1) sent new) g.many
      (goes_on known lines g.told sent l old new r at behind g.has_told step same_client (sym e) g.limited g.goes
      (subst (λ (s : Slots). HaveSlots known (record { line = l; told = step.told } ∷ above) (own_with (own_of old.client old.core) (machine_of old.core) old.client l.number step.entered) (machine_of new.core).count (take (length g.told) lines ++ l ∷ []) s) (sym slots) kept)
      (kept_on old.core new.core old.slots new.slots old.client l.number step.entered step.journal (no_ask known turn l.line step.entered asks matched) slots g.kept) g.hands)
  by run.Full e limits lines n sent there follows going = λ known told kn.
      let g = going known told (before known told kn) in
      let at : slice_get lines (length g.told) ≡ Some l = subst (λ (i : ℕ). slice_get lines i ≡ Some l) (sym g.many) there in
      let behind : Follows (take (length g.told) lines) l = subst (λ (i : ℕ). Follows (take i lines) l) (sym g.many) follows in
      let step = runs known told (naming (own_of old.client old.core) (last_first [] (ran_lines lines g.told)) (hands_last [] (ran_lines lines g.told)) l.line) kn in
      stops_here known lines g.told sent l old new r at behind g.has_told step same_client (sym e) g.limited kn g.goes
  by run.Starved e limits lines n sent there follows going = λ known told kn.
      let g = going known told (before known told kn) in
      let at : slice_get lines (length g.told) ≡ Some l = subst (λ (i : ℕ). slice_get lines i ≡ Some l) (sym g.many) there in
      let behind : Follows (take (length g.told) lines) l = subst (λ (i : ℕ). Follows (take i lines) l) (sym g.many) follows in
      let step = runs known told (naming (own_of old.client old.core) (last_first [] (ran_lines lines g.told)) (hands_last [] (ran_lines lines g.told)) l.line) kn in
      starves_here known lines g.told sent l old new r at behind g.has_told step same_client (sym e) g.limited g.goes

-- a line that asks
pub ask_goes : (loaded : Loaded) (old new : Client) (l : Numbered) (r : LineRun) (id tenant : List ℕ) → new.client ≡ old.client → AsksAs id tenant l.line → IsNotAnswer l.line → IsAsk id (Some l.line)
    → ((known : Known) → IsTold known loaded → AskRuns known old l r new) → GoesOn loaded old l r new
ask_goes loaded old new l r id tenant same_client own_it quiet asks runs = λ limits lines n sent there follows going. by r refl limits lines n sent there follows going where
  empty : Told → Naming
  empty told = record { hands = []; asking = None; asked = None; cancelled = None; answered = None }

  before : (known : Known) → IsTold known loaded → IsKnown known new.core → IsKnown known old.core
  before known told kn = let s = (runs known told empty kn).step in known_before known old.core new.core s.more s.limits s.grown kn

  by : (x : LineRun) → x ≡ r → (limits : Limits) (lines : List Numbered) (n : ℕ) (sent : List ℕ) → slice_get lines n ≡ Some l → Follows (take n lines) l → IsGoing loaded limits lines n sent old → Goes loaded limits lines n sent x new
  by run.On e limits lines n sent there follows going = λ known told kn.
      let g = going known told (before known told kn) in
      let above = last_first [] (ran_lines lines g.told) in
      let at : slice_get lines (length g.told) ≡ Some l = subst (λ (i : ℕ). slice_get lines i ≡ Some l) (sym g.many) there in
      let behind : Follows (take (length g.told) lines) l = subst (λ (i : ℕ). Follows (take i lines) l) (sym g.many) follows in
      let names = naming (own_of old.client old.core) above (hands_last [] (ran_lines lines g.told)) l.line in
      let asked : IsAskStep known names old l run.On new = subst (λ (y : LineRun). IsAskStep known names old l y new) (sym e) (runs known told names kn) in
      let step = asked.step in
      let turn = turn_by (names step.told) l step.told (moment_with (machine_of old.core) old.client l.number step.entered) in
      let low = own_low known lines g.told sent l old new run.On at behind g.has_told step same_client in
      let more = grown known lines g.told sent l old new run.On at behind g.has_told step same_client in
      let right = slot_new old.client known above names l id tenant old.core new.core step.told step.entered asked.keeps.kept own_it asked.keeps.is step.journal g.has_told.alone low step.matched in
      let have : HaveSlots known above (own_of old.client old.core) (machine_of old.core).count (take (length g.told) lines) old.slots =
      subst (λ (i : ℕ). HaveSlots known above (own_of old.client old.core) (machine_of old.core).count (take i lines) old.slots) (sym g.many) g.slots in
      let kept = slots_asked known above (record { line = l; told = step.told }) (own_of old.client old.core) (machine_of old.core) old.client (take (length g.told) lines) l step.entered (machine_of new.core).count old.slots new.slots asked.keeps.kept
      behind.rising refl more id asks
      (λ k. leaves_all known turn l.line step.entered quiet (matched_as known turn (machine_of old.core) old.client l.number step.entered step.matched) (get nat_cmp old.slots k))
      asked.keeps.slots right (fresh_slot known l old new step.told step.entered asked.keeps.kept asked.keeps.is step.journal) have in
      subst (λ (i : ℕ). Going known limits lines (i + 1) sent new) g.many
      (goes_on known lines g.told sent l old new run.On at behind g.has_told step same_client refl g.limited g.goes kept
      (kept_asked known l old new step.told step.entered asked.keeps.kept asked.keeps.is step.journal asked.keeps.slots
      (λ k s there. let o = have.only k s there in ask_below k l.number o.0 (take (length g.told) lines) behind.rising o.1) g.kept) g.hands)
  by run.Full e limits lines n sent there follows going = λ known told kn.
      let g = going known told (before known told kn) in
      let at : slice_get lines (length g.told) ≡ Some l = subst (λ (i : ℕ). slice_get lines i ≡ Some l) (sym g.many) there in
      let behind : Follows (take (length g.told) lines) l = subst (λ (i : ℕ). Follows (take i lines) l) (sym g.many) follows in
      let step = (runs known told (naming (own_of old.client old.core) (last_first [] (ran_lines lines g.told)) (hands_last [] (ran_lines lines g.told)) l.line) kn).step in
      stops_here known lines g.told sent l old new r at behind g.has_told step same_client (sym e) g.limited kn g.goes
  by run.Starved e limits lines n sent there follows going = λ known told kn.
      let g = going known told (before known told kn) in
      let at : slice_get lines (length g.told) ≡ Some l = subst (λ (i : ℕ). slice_get lines i ≡ Some l) (sym g.many) there in
      let behind : Follows (take (length g.told) lines) l = subst (λ (i : ℕ). Follows (take i lines) l) (sym g.many) follows in
      let step = (runs known told (naming (own_of old.client old.core) (last_first [] (ran_lines lines g.told)) (hands_last [] (ran_lines lines g.told)) l.line) kn).step in
      starves_here known lines g.told sent l old new r at behind g.has_told step same_client (sym e) g.limited g.goes

-- a line that leaves what is kept of asks
pub quiet_goes : {before after : ℕ} (loaded : Loaded) (old new : Client) (l : Numbered) → new.client ≡ old.client → Grows before after old.core new.core → IsNotAnswer l.line → ((id : List ℕ) → IsAsk id (Some l.line) → ⊥)
    → ((known : Known) (above : List Ran) (hands : List Hand) (done : List Numbered) → IsKnown known new.core → Each (λ e. e.client ≡ old.client) old.core.journal
    → HaveSlots known above (own_of old.client old.core) (machine_of old.core).count done old.slots → AreKept old.core old.slots → HaveHands old hands → Follows done l
    → IsStep known (naming (own_of old.client old.core) above hands l.line) old l run.On new)
    → new.slots ≡ old.slots → GoesOn loaded old l run.On new
quiet_goes loaded old new l same_client grows quiet asks runs slots = λ limits lines n sent there follows going known told kn.
    let g = going known told (known_before known old.core new.core grows.more grows.limits grows.names kn) in
    let above = last_first [] (ran_lines lines g.told) in
    let at : slice_get lines (length g.told) ≡ Some l = subst (λ (i : ℕ). slice_get lines i ≡ Some l) (sym g.many) there in
    let behind : Follows (take (length g.told) lines) l = subst (λ (i : ℕ). Follows (take i lines) l) (sym g.many) follows in
    let have : HaveSlots known above (own_of old.client old.core) (machine_of old.core).count (take (length g.told) lines) old.slots =
    subst (λ (i : ℕ). HaveSlots known above (own_of old.client old.core) (machine_of old.core).count (take i lines) old.slots) (sym g.many) g.slots in
    let step = runs known above (hands_last [] (ran_lines lines g.told)) (take (length g.told) lines) kn g.has_told.alone have g.kept g.hands behind in
    let turn = turn_by (naming (own_of old.client old.core) above (hands_last [] (ran_lines lines g.told)) l.line step.told) l step.told (moment_with (machine_of old.core) old.client l.number step.entered) in
    let matched = matched_as known turn (machine_of old.core) old.client l.number step.entered step.matched in
    let kept = slots_same known above (record { line = l; told = step.told }) (own_of old.client old.core) (machine_of old.core) old.client (take (length g.told) lines) l step.entered (machine_of new.core).count old.slots
    behind.rising refl (grown known lines g.told sent l old new run.On at behind g.has_told step same_client) asks
    (λ j. leaves_all known turn l.line step.entered quiet matched (get nat_cmp old.slots j)) have in
    subst (λ (i : ℕ). Going known limits lines (i + 1) sent new) g.many
    (goes_on known lines g.told sent l old new run.On at behind g.has_told step same_client refl g.limited g.goes
    (subst (λ (s : Slots). HaveSlots known (record { line = l; told = step.told } ∷ above) (own_with (own_of old.client old.core) (machine_of old.core) old.client l.number step.entered) (machine_of new.core).count (take (length g.told) lines ++ l ∷ []) s) (sym slots) kept)
    (kept_on old.core new.core old.slots new.slots old.client l.number step.entered step.journal (no_ask known turn l.line step.entered asks matched) slots g.kept) g.hands)

-- a line that answers
pub answer_goes : {before after : ℕ} (loaded : Loaded) (old new : Client) (number k : ℕ) (id : List ℕ) → new.client ≡ old.client → Grows before after old.core new.core
    → ((known : Known) (above : List Ran) (hands : List Hand) → IsKnown known new.core → Each (λ e. e.client ≡ old.client) old.core.journal → SlotRight known above (own_of old.client old.core) k (get nat_cmp old.slots k)
    → (get nat_cmp old.slots k ≡ None → ⊥) → HaveHands old hands
    → IsAnswerStep known (naming (own_of old.client old.core) above hands (script.answer id k)) old (record { number = number; line = script.answer id k }) k new)
    → GoesOn loaded old (record { number = number; line = script.answer id k }) run.On new
answer_goes loaded old new number k id same_client grows runs = λ limits lines n sent there follows going known told kn.
    let l : Numbered = record { number = number; line = script.answer id k } in
    let g = going known told (known_before known old.core new.core grows.more grows.limits grows.names kn) in
    let above = last_first [] (ran_lines lines g.told) in
    let hands = hands_last [] (ran_lines lines g.told) in
    let at : slice_get lines (length g.told) ≡ Some l = subst (λ (i : ℕ). slice_get lines i ≡ Some l) (sym g.many) there in
    let behind : Follows (take (length g.told) lines) l = subst (λ (i : ℕ). Follows (take i lines) l) (sym g.many) follows in
    let have : HaveSlots known above (own_of old.client old.core) (machine_of old.core).count (take (length g.told) lines) old.slots =
    subst (λ (i : ℕ). HaveSlots known above (own_of old.client old.core) (machine_of old.core).count (take i lines) old.slots) (sym g.many) g.slots in
    let right = have.right k id behind.names in
    let kept_it = have.kept k id behind.names behind.is_open in
    let answered = runs known above hands kn g.has_told.alone right kept_it g.hands in
    let step = answered.step in
    let turn = turn_by (naming (own_of old.client old.core) above hands l.line step.told) l step.told (moment_with (machine_of old.core) old.client l.number step.entered) in
    let matched = matched_as known turn (machine_of old.core) old.client l.number step.entered step.matched in
    let more = grown known lines g.told sent l old new run.On at behind g.has_told step same_client in
    let kept = slots_by known above (record { line = l; told = step.told }) (own_of old.client old.core) (machine_of old.core) old.client (take (length g.told) lines) l k id step.entered (machine_of new.core).count old.slots new.slots
    answered.answered behind.rising refl more refl behind.names answered.closes answered.slots kept_it right have in
    subst (λ (i : ℕ). Going known limits lines (i + 1) sent new) g.many
    (goes_on known lines g.told sent l old new run.On at behind g.has_told step same_client refl g.limited g.goes kept
    (kept_answered old new number k step.entered answered.answered step.journal (no_ask known turn l.line step.entered (λ i a. a) matched) answered.closes answered.slots g.kept) g.hands)

-- a call that ran such a line
pub plain_goes_if : {E : Type 0} (loaded : Loaded) (old new : Client) (l : Numbered) (result : Result LineRun E) → OnOk result (new.client ≡ old.client) → IsNotAnswer l.line → ((id : List ℕ) → IsAsk id (Some l.line) → ⊥)
    → IfOk result (λ r. (known : Known) → IsTold known loaded → Runs known old l r new) → OnOk result (new.slots ≡ old.slots) → IfOk result (λ r. GoesOnWith loaded old l r new)
plain_goes_if loaded old new l (Ok r) same_client quiet asks runs slots = λ first part. plain_goes first old new l r same_client quiet asks (λ known told. runs known (part known told)) slots
plain_goes_if loaded old new l (Err e) same_client quiet asks runs slots = tt
