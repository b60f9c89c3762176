-- A run of a script's first lines can be ended: the lines behind get replies that are allowed, with at most some cancels.
use Rattle.std.proofs.Common.{◌≡◌, ℕ, zero, suc, ◌+◌, ◌*◌, ◌<◌, ◌≤◌, ◌⊎◌, inl, inr, Bool, true, false, Option, Some, None, List, [], ◌∷◌, ◌++◌, drop, length, option_map, slice_get, take, nat_eq, refl, sym, ap, ◌∙◌, subst, append-nil, append_assoc, arith, sum}
use Rattle.std.proofs.lemmas.Bool.{le-ltb, ne_eqb}
use Rattle.std.proofs.lemmas.Bool.Decides.{nat_tests}
use Rattle.std.proofs.lemmas.List.Elements.{filter-append}
use Rattle.std.proofs.lemmas.Slice.Eq.{bytes_eq-Decides}
use Rattle.std.specs.Str.{bytes_eq}
use Rattle.pf_base.specs.declared.plain.Limits.{Limits}
use Rattle.pf_match.specs.Tables.{AreTooBig}
use Rattle.pf_model.specs.Lists.{Each, first_with}
use Rattle.pf_model.specs.Queries.{IsReading, Reading}
use Rattle.pf_journal.proofs.Going.{NeverStops, going, ran-snoc, runs_to_end, runs_to_stop, text_grows, text_stays, turn_behind, woven_enters, woven_stays, one_more}
use Rattle.pf_journal.proofs.Growing.{hands_behind, moments-snoc}
use Rattle.pf_journal.proofs.Named.{all_named}
use Rattle.pf_journal.proofs.Opened.{IsAmong, all_above, all_own, asked_at, cancelled_by, found_among, opened}
use Rattle.pf_journal.specs.Asking.{Asked}
use Rattle.pf_journal.specs.Entered.{Fits, IsOfAsk, room_of, what_of}
use Rattle.pf_journal.specs.Legal.{AreNames, IsLawful, Legal, Moment, machine_after, moments, moments_from}
use Rattle.pf_journal.specs.Machine.{AnswersOpen, CanBeUnplanned, CancelsOpen, Entry, HasRoom, IsCode, Machine, Open, What, append, delete, ask, full, no_tenant, cancel, answer, cancelled_at, closed, next, open_at, reserved, room_kept, started}
use Rattle.pf_journal.specs.Replies.{reply_of}
use Rattle.pf_journal.specs.Report.{actors_from, client_text, journal_text, report}
use Rattle.pf_journal.specs.Rest.{Client, Known, Told, nothing, no_memory, of_plan, of_take, of_done, of_keep, Why, at_end, at_full, at_memory}
use Rattle.pf_journal.specs.Scripts as script
use Rattle.pf_journal.specs.Scripts.{Line, Numbered}
use Rattle.pf_journal.specs.Steps.{plan_refused, planned_before, busy, none_waits, empty, lacked, keep_refused, unplanned}
use Rattle.pf_journal.specs.Turns.{Turn, answer_of, asker_of, cancel_of, entered_above, holds, moment_of, own_moments, place_of, ran_lines}
use Rattle.pf_journal.specs.Unentered.{HasNoQuery, HasNoneToAnswer, HasQuery, IsOpen, IsUncancelled, Unentered}
use Rattle.pf_journal.specs.Weave.{AreTried, FoundRoom, IsLineOf, IsMatched, RunsTo, ToldBeside, Weave, Woven, WovenClient, failed_answers, failed_in, failed_told, is_500, stops_at}

-- ---- lists

bool_cases : (b : Bool) → (b ≡ true) ⊎ (b ≡ false)
bool_cases true = inl refl
bool_cases false = inr refl

none_cases : {X : Type 0} (o : Option X) → (o ≡ None) ⊎ (o ≡ None → ⊥)
none_cases None = inl refl
none_cases (Some x) = inr (λ e. cc)

each_so : {X : Type 0} (P Q : X → Type 0) → ((x : X) → P x → Q x) → (xs : List X) → Each P xs → Each Q xs
each_so P Q f [] h = tt
each_so P Q f (x ∷ xs) h = (f x h.0, each_so P Q f xs h.1)

each_append : {X : Type 0} (P : X → Type 0) (xs ys : List X) → Each P xs → Each P ys → Each P (xs ++ ys)
each_append P [] ys h k = k
each_append P (x ∷ xs) ys h k = (h.0, each_append P xs ys h.1 k)

pub none_with : {X : Type 0} (p : X → Bool) (xs : List X) → Each (λ x. p x ≡ false) xs → first_with p xs ≡ None
none_with p [] h = refl
none_with p (x ∷ xs) h = rw h.0 (none_with p xs h.1)

last_with : {X : Type 0} (p : X → Bool) (xs : List X) (x : X) → Each (λ y. p y ≡ false) xs → p x ≡ true → first_with p (xs ++ x ∷ []) ≡ Some x
last_with p [] x h t = rw t refl
last_with p (y ∷ xs) x h t = rw h.0 (last_with p xs x h.1 t)

drop_there : {X : Type 0} (xs : List X) (n : ℕ) (x : X) (left : List X) → drop n xs ≡ x ∷ left → slice_get xs n ≡ Some x
drop_there [] zero x left h = cc
drop_there [] (suc n) x left h = cc
drop_there (y ∷ xs) zero x left h = let same : y ≡ x = cc in ap Some same
drop_there (y ∷ xs) (suc n) x left h = drop_there xs n x left h

drop_next : {X : Type 0} (xs : List X) (n : ℕ) (x : X) (left : List X) → drop n xs ≡ x ∷ left → drop (suc n) xs ≡ left
drop_next [] zero x left h = cc
drop_next [] (suc n) x left h = cc
drop_next (y ∷ xs) zero x left h = cc
drop_next (y ∷ xs) (suc n) x left h = drop_next xs n x left h

-- ---- lines below

pub line_below : (ls : List Numbered) (k n : ℕ) → Each (λ l. l.number < n) ls → IsLineOf ls k → k < n
line_below [] k n h there = absurd there
line_below (l ∷ ls) k n h (inl same) = let low = h.0 in omega (arith, low, same)
line_below (l ∷ ls) k n h (inr there) = line_below ls k n h.1 there

pub own_below : (own : List Moment) (ls : List Numbered) (n : ℕ) → Each (λ l. l.number < n) ls
    → Each (λ x. IsLineOf ls x.entry.line) own → Each (λ x. x.entry.line < n) own
own_below own ls n low lined = each_so _ _ (λ x h. line_below ls x.entry.line n low h) own lined

pub ran_below : (ls : List Numbered) (told : List Told) (n : ℕ) → Each (λ l. l.number < n) (take (length told) ls)
    → Each (λ r. r.line.number < n) (ran_lines ls told)
ran_below [] told n h = tt
ran_below (l ∷ ls) [] n h = tt
ran_below (l ∷ ls) (t ∷ told) n h = (h.0, ran_below ls told n h.1)

apart : (own : List Moment) (n : ℕ) → Each (λ x. x.entry.line < n) own → Each (λ x. nat_eq x.entry.line n ≡ false) own
apart own n low = each_so _ _ (λ x below. ne_eqb x.entry.line n (λ e. omega (arith, e, below))) own low

-- ---- a journal with a cancel behind it

-- a cancel leaves the room that its ask kept for it
reserved_cancelled : (at place : ℕ) (qs : List Open) (o : Open) → open_at place qs ≡ Some o → o.cancelled ≡ None
    → reserved (cancelled_at at place qs) + 1 ≡ reserved qs
reserved_cancelled at place [] o g n = cc
reserved_cancelled at place (q ∷ qs) o g n = elim (bool_cases (nat_eq q.place place)) [
  | inl t ↦
      let there : Some q ≡ Some o = rw t at g in
      let same : q ≡ o = cc in
      let free : q.cancelled ≡ None = subst (λ (x : Open). x.cancelled ≡ None) (sym same) n in
      rw t (rw free (omega arith))
  | inr t ↦
      let there : open_at place qs ≡ Some o = rw t at g in
      let more = reserved_cancelled at place qs o there n in
      rw t (omega (arith, more))
]

-- an answer leaves room that its ask kept for it
reserved_closed : (place : ℕ) (qs : List Open) (o : Open) → open_at place qs ≡ Some o → reserved (closed place qs) + 1 ≤ reserved qs
reserved_closed place [] o g = cc
reserved_closed place (q ∷ qs) o g = elim (bool_cases (nat_eq q.place place)) [
  | inl t ↦
      let some = some_kept q.cancelled in
      let fewer = reserved_others place qs in
      rw t (omega (arith, some, fewer))
  | inr t ↦
      let there : open_at place qs ≡ Some o = rw t at g in
      let more = reserved_closed place qs o there in
      rw t (omega (arith, more))
] where
  some_kept : (c : Option ℕ) → 1 ≤ room_kept c
  some_kept None = omega arith
  some_kept (Some at) = omega arith

  reserved_others : (place : ℕ) (qs : List Open) → reserved (closed place qs) ≤ reserved qs
  reserved_others place [] = omega arith
  reserved_others place (q ∷ qs) = elim (bool_cases (nat_eq q.place place)) [
    | inl t ↦
        let more = reserved_others place qs in
        rw t (omega (arith, more))
    | inr t ↦
        let more = reserved_others place qs in
        rw t (omega (arith, more))
  ]

room_after : (l : Limits) (names : List (List ℕ)) (m : Machine) (es : List Entry) → HasRoom l m → Each (IsLawful l names) (moments_from m es) → HasRoom l (machine_after m es)
room_after l names m [] r h = r
room_after l names m (e ∷ es) r h = room_after l names (next m e.what) es h.0.room h.1

legal_room : (l : Limits) (names : List (List ℕ)) (journal : List Entry) → Legal l names journal → HasRoom l (machine_after started journal)
legal_room l names journal h = room_after l names started journal (omega arith) h

pub machine-snoc : (m : Machine) (journal : List Entry) (e : Entry) → machine_after m (journal ++ e ∷ []) ≡ next (machine_after m journal) e.what
machine-snoc m [] e = refl
machine-snoc m (x ∷ journal) e = machine-snoc (next m x.what) journal e

own-snoc : (client : ℕ) (journal : List Entry) (n : ℕ) (what : What)
    → own_moments client (moments (journal ++ record { client = client; line = n; what = what } ∷ []))
    ≡ own_moments client (moments journal) ++ record { before = machine_after started journal; entry = record { client = client; line = n; what = what } } ∷ []
own-snoc client journal n what =
    let e : Entry = record { client = client; line = n; what = what } in
    let mine : nat_eq client client ≡ true = grind (arith, nat_tests) in
    ap (own_moments client) (moments-snoc started journal e)
    ∙ filter-append _ (moments journal) (record { before = machine_after started journal; entry = e } ∷ []) ∙ rw mine refl

answers-snoc : (journal : List Entry) (e : Entry) → is_500 e.what ≡ 0 → failed_answers (journal ++ e ∷ []) ≡ failed_answers journal
answers-snoc [] e h = rw h refl
answers-snoc (x ∷ journal) e h = ap (λ n. is_500 x.what + n) (answers-snoc journal e h)

told-snoc : (told : List Told) (t : Told) → failed_in t ≡ 0 → failed_told (told ++ t ∷ []) ≡ failed_told told
told-snoc [] t h = rw h refl
told-snoc (x ∷ told) t h = ap (λ n. failed_in x + n) (told-snoc told t h)

-- a query that was not answered is open, cancelled where its cancel stands
open_query : (l : Limits) (names : List (List ℕ)) (journal : List Entry) (a : Moment) → Legal l names journal → IsAmong a (moments journal)
    → HasQuery (what_of (Some a)) → answer_of (Some a) (moments journal) ≡ None
    → (o : Open) × (open_at (place_of a) (machine_after started journal).queries ≡ Some o) × (o.cancelled ≡ option_map place_of (cancel_of (Some a) (moments journal)))
open_query l names journal a legal among query unanswered = by a.entry.what refl query where
  cancelled_where : (u : ℕ) (asked : Asked) (c : Option Moment) → (cancelled_by (asked_at a u asked) None c).cancelled ≡ option_map place_of c
  cancelled_where u asked None = refl
  cancelled_where u asked (Some y) = refl

  by : (w : What) → a.entry.what ≡ w → HasQuery (Some w)
      → (o : Open) × (open_at (place_of a) (machine_after started journal).queries ≡ Some o) × (o.cancelled ≡ option_map place_of (cancel_of (Some a) (moments journal)))
  by (append u batch vs entry) is q = absurd q
  by (delete u ms from to generation entry) is q = absurd q
  by (ask u asked pin generation floor) is q = (
    cancelled_by (asked_at a u asked) None (cancel_of (Some a) (moments journal)),
    opened l names journal a legal among u asked pin generation floor is ∙ rw unanswered refl,
    cancelled_where u asked (cancel_of (Some a) (moments journal)),
  )
  by (full u outstanding) is q = absurd q
  by (no_tenant name) is q = absurd q
  by (cancel query) is q = absurd q
  by (answer query code cached evaluated) is q = absurd q

-- the code of an answer for which there was no memory: a cancelled query's is 503
abbrev code_without_memory : Option ℕ → ℕ
code_without_memory None = 507
code_without_memory (Some place) = 503

not_500 : (query : ℕ) (c : Option ℕ) → is_500 (answer query (code_without_memory c) 0 0) ≡ 0
not_500 query None = refl
not_500 query (Some place) = refl

not_500_told : (query : ℕ) (c : Option ℕ) → ToldBeside (answer query (code_without_memory c) 0 0) nothing
not_500_told query None = refl
not_500_told query (Some place) = refl

answers_open : (l : Limits) (o : Open) (s : Option Open) → s ≡ Some o → AnswersOpen l s (code_without_memory o.cancelled) 0 0
answers_open l o s e = subst (λ (x : Option Open). AnswersOpen l x (code_without_memory o.cancelled) 0 0) (sym e) (record {
  coded = coded o.cancelled;
  stepped = inr (refl, unplanned_by o.cancelled);
  reused = record { at_once = λ h. refl; frozen = omega arith };
}) where
  coded : (c : Option ℕ) → IsCode l o c (code_without_memory c)
  coded None = inr (inr refl)
  coded (Some place) = refl

  unplanned_by : (c : Option ℕ) → CanBeUnplanned (code_without_memory c)
  unplanned_by None = inr refl
  unplanned_by (Some place) = inl refl

legal_answer : (l : Limits) (names : List (List ℕ)) (journal : List Entry) (client n query : ℕ) (o : Open) → Legal l names journal
    → length (machine_after started journal).logs ≤ length names
    → open_at query (machine_after started journal).queries ≡ Some o
    → Legal l names (journal ++ record { client = client; line = n; what = answer query (code_without_memory o.cancelled) 0 0 } ∷ [])
legal_answer l names journal client n query o legal named there =
    let m = machine_after started journal in
    let room = legal_room l names journal legal in
    let fewer = reserved_closed query m.queries o there in
    subst (Each (IsLawful l names))
    (sym (moments-snoc started journal (record { client = client; line = n; what = answer query (code_without_memory o.cancelled) 0 0 })))
    (each_append (IsLawful l names) (moments journal) _ legal (
      record {
        allowed = answers_open l o (open_at query m.queries) there;
        room = omega (arith, room, fewer);
        named = named;
      },
      tt,
    ))

cancels_open : (o : Open) (s : Option Open) → s ≡ Some o → o.cancelled ≡ None → CancelsOpen s
cancels_open o s e n = subst CancelsOpen (sym e) n

legal_cancel : (l : Limits) (names : List (List ℕ)) (journal : List Entry) (client n query : ℕ) (o : Open) → Legal l names journal
    → length (machine_after started journal).logs ≤ length names
    → open_at query (machine_after started journal).queries ≡ Some o → o.cancelled ≡ None
    → Legal l names (journal ++ record { client = client; line = n; what = cancel query } ∷ [])
legal_cancel l names journal client n query o legal named there free =
    let m = machine_after started journal in
    let room = legal_room l names journal legal in
    let fewer = reserved_cancelled m.count query m.queries o there free in
    subst (Each (IsLawful l names)) (sym (moments-snoc started journal (record { client = client; line = n; what = cancel query })))
    (each_append (IsLawful l names) (moments journal) _ legal (
      record {
        allowed = cancels_open o (open_at query m.queries) there free;
        room = omega (arith, room, fewer);
        named = named;
      },
      tt,
    ))

-- ---- whether a query may be cancelled

query_cases : (w : Option What) → HasQuery w ⊎ HasNoQuery w
query_cases None = inr tt
query_cases (Some (append u batch vs entry)) = inr tt
query_cases (Some (delete u ms from to generation entry)) = inr tt
query_cases (Some (ask u asked pin generation floor)) = inl tt
query_cases (Some (full u outstanding)) = inr tt
query_cases (Some (no_tenant name)) = inr tt
query_cases (Some (cancel query)) = inr tt
query_cases (Some (answer query code cached evaluated)) = inr tt

not_both : (w : Option What) → HasNoQuery w → HasQuery w → ⊥
not_both None refused found = found
not_both (Some (append u batch vs entry)) refused found = found
not_both (Some (delete u ms from to generation entry)) refused found = found
not_both (Some (ask u asked pin generation floor)) refused found = refused
not_both (Some (full u outstanding)) refused found = found
not_both (Some (no_tenant name)) refused found = found
not_both (Some (cancel query)) refused found = found
not_both (Some (answer query code cached evaluated)) refused found = found

names_cases : (a b : List ℕ) → (a ≡ b) ⊎ (a ≡ b → ⊥)
names_cases a b = by (bytes_eq a b) refl where
  by : (t : Bool) → bytes_eq a b ≡ t → (a ≡ b) ⊎ (a ≡ b → ⊥)
  by true e = inl ((bytes_eq-Decides a b).0 e)
  by false e = inr (λ same. let equal = (bytes_eq-Decides a b).1 same in cc)

cancel_cases : (t : Turn) (tenant : List ℕ) → (IsOpen t × (tenant ≡ asker_of t.asking)) ⊎ IsUncancelled t tenant
cancel_cases t tenant = elim (query_cases (what_of t.asked)) [
  | inr refused ↦ inr (λ h. not_both (what_of t.asked) refused h.0.query)
  | inl query ↦ elim (none_cases t.answered) [
    | inr differs ↦ inr (λ h. differs h.0.unanswered)
    | inl unanswered ↦ elim (none_cases t.cancelled) [
      | inr differs ↦ inr (λ h. differs h.0.uncancelled)
      | inl uncancelled ↦ elim (names_cases tenant (asker_of t.asking)) [
        | inr differs ↦ inr (λ h. differs h.1)
        | inl same ↦ inl (record { query = query; unanswered = unanswered; uncancelled = uncancelled }, same)
      ]
    ]
  ]
]

answer_cases : (t : Turn) → (HasQuery (what_of t.asked) × (t.answered ≡ None)) ⊎ HasNoneToAnswer t
answer_cases t = elim (query_cases (what_of t.asked)) [
  | inr refused ↦ inr (inl refused)
  | inl query ↦ elim (none_cases t.answered) [
    | inr differs ↦ inr (inr differs)
    | inl unanswered ↦ inl (query, unanswered)
  ]
]

-- ---- one line

-- the numbers of lines rise, from above 0
abbrev pub NumbersRise : List Numbered → Type 0
NumbersRise lines = (i : ℕ) (l : Numbered) → slice_get lines i ≡ Some l → (0 < l.number) × Each (λ k. k.number < l.number) (take i lines)

-- a client that ran some lines, and goes on
record HasBegun (known : Known) (client : ℕ) (journal : List Entry) (lines : List Numbered) (told : List Told) : Type 0 where
  legal : Legal known.limits known.names journal
  named : length (machine_after started journal).logs ≤ length known.names
  alone : Each (λ e. e.client ≡ client) journal
  woven : Woven known (own_moments client (moments journal)) lines (record { told = told; why = at_end })
  goes : NeverStops (ran_lines lines told)

-- its next line, with a reply that is allowed
record HasStepped (known : Known) (client : ℕ) (journal : List Entry) (lines : List Numbered) (told : List Told) (l : Numbered) : Type 0 where
  last : List Entry
  entries : List Entry
  reply : Told
  grown : last ≡ journal ++ entries
  legal : Legal known.limits known.names last
  logs : length (machine_after started last).logs ≡ length (machine_after started journal).logs
  mine : Each (λ e. e.client ≡ client) entries
  woven : Woven known (own_moments client (moments last)) lines (going told reply at_end)
  answers : failed_answers last ≡ failed_answers journal
  tries : failed_in reply ≡ 0
  text : List ℕ
  said : client_text known (own_moments client (moments last)) client lines (going told reply at_end)
      ≡ client_text known (own_moments client (moments journal)) client lines (record { told = told; why = at_end }) ++ text
  ends : (stops_at l.line reply ≡ None) ⊎ (stops_at l.line reply ≡ Some at_memory)

module _ (known : Known) (client : ℕ) (journal : List Entry) (lines : List Numbered) (told : List Told)
    (begun : HasBegun known client journal lines told) (rise : NumbersRise lines) where
  abbrev own : List Moment
  own = own_moments client (moments journal)

  abbrev turn : Numbered → Told → Turn
  turn l reply = turn_behind own (ran_lines lines told) (record { line = l; told = reply })

  own_low : (l : Numbered) → slice_get lines (length told) ≡ Some l → Each (λ x. x.entry.line < l.number) own
  own_low l there = own_below own (take (length told) lines) l.number (rise (length told) l there).1 begun.woven.lined

  -- a line without an entry
  stays : (l : Numbered) (reply : Told) → slice_get lines (length told) ≡ Some l → Unentered known (turn l reply) l.line reply → failed_in reply ≡ 0
      → (stops_at l.line reply ≡ None) ⊎ (stops_at l.line reply ≡ Some at_memory) → HasStepped known client journal lines told l
  stays l reply there unentered tries ends =
      let none : moment_of l.number own ≡ None = none_with _ own (apart own l.number (own_low l there)) in
      record {
        last = journal;
        entries = [];
        reply = reply;
        grown = sym (append-nil journal);
        legal = begun.legal;
        logs = refl;
        mine = tt;
        woven = woven_stays known own lines told at_end l reply begun.woven there (record {
          matched = subst (IsMatched known (turn l reply)) (sym none) unentered;
          roomy = subst (FoundRoom known.limits l.line) (sym none) tt;
        });
        answers = refl;
        tries = tries;
        text = reply_of known (turn l reply);
        said = text_grows known own client lines told at_end l reply there;
        ends = ends;
      }

  -- a line with an entry
  module _ (l : Numbered) (what : What) (there : slice_get lines (length told) ≡ Some l) where
    abbrev entry : Entry
    entry = record { client = client; line = l.number; what = what }

    abbrev with_own : List Moment
    with_own = own ++ record { before = machine_after started journal; entry = entry } ∷ []

    abbrev turned : Turn
    turned = turn_behind with_own (ran_lines lines told) (record { line = l; told = nothing })

    -- an ask that stood above still does
    asked_still : (line : ℕ) (a : Moment) → moment_of line (entered_above l.number own) ≡ Some a → moment_of line (entered_above l.number with_own) ≡ Some a
    asked_still line a asked =
        let x : Moment = record { before = machine_after started journal; entry = entry } in
        let above_it : entered_above l.number with_own ≡ entered_above l.number own =
        filter-append _ own (x ∷ []) ∙ rw (le-ltb l.number l.number (omega arith)) (append-nil _) in
        ap (moment_of line) above_it ∙ asked

    enters : Legal known.limits known.names (journal ++ entry ∷ [])
        → length (next (machine_after started journal) what).logs ≡ length (machine_after started journal).logs
        → Fits known (asker_of turned.asking) turned.asked l.line what × ToldBeside what nothing → room_of l.line ≡ 0 → is_500 what ≡ 0 → stops_at l.line nothing ≡ None
        → HasStepped known client journal lines told l
    enters legal logs fits none_wanted not_500 goes =
        let x : Moment = record { before = machine_after started journal; entry = entry } in
        let low = own_low l there in
        let below = ran_below lines told l.number (rise (length told) l there).1 in
        let room = legal_room known.limits known.names journal begun.legal in
        let made : moment_of l.number with_own ≡ Some x = last_with _ own x (apart own l.number low) (grind (arith, nat_tests)) in
        let same_own = own-snoc client journal l.number what in
        record {
          last = journal ++ entry ∷ [];
          entries = entry ∷ [];
          reply = nothing;
          grown = refl;
          legal = legal;
          logs = ap (λ (z : Machine). length z.logs) (machine-snoc started journal entry) ∙ logs;
          mine = (refl, tt);
          woven = subst (λ (xs : List Moment). Woven known xs lines (going told nothing at_end)) (sym same_own)
              (woven_enters known own x lines told at_end l nothing begun.woven there (rise (length told) l there).0 refl low below (record {
                matched = subst (IsMatched known turned) (sym made) fits;
                roomy = subst (FoundRoom known.limits l.line) (sym made) (omega (arith, room, none_wanted));
              }));
          answers = answers-snoc journal entry not_500;
          tries = refl;
          text = reply_of known turned;
          said = ap (λ (xs : List Moment). client_text known xs client lines (going told nothing at_end)) same_own
              ∙ text_grows known with_own client lines told at_end l nothing there
              ∙ ap (λ (bytes : List ℕ). bytes ++ reply_of known turned) (text_stays known own x client lines (record { told = told; why = at_end }) below);
          ends = inl goes;
        }

  -- the ask of a line above is among the journal's moments, and no line above answers its query
  all_above_line : (l : Numbered) → slice_get lines (length told) ≡ Some l → entered_above l.number own ≡ moments journal
  all_above_line l there = all_above l.number own (own_low l there) ∙ all_own client started journal begun.alone

  among_all : (l : Numbered) → slice_get lines (length told) ≡ Some l → (line : ℕ) (a : Moment) → moment_of line (entered_above l.number own) ≡ Some a
      → IsAmong a (moments journal)
  among_all l there line a asked = found_among _ (moments journal) a (sym (ap (moment_of line) (all_above_line l there)) ∙ asked)

  unanswered_in : (l : Numbered) → slice_get lines (length told) ≡ Some l → (line : ℕ) (a : Moment) → moment_of line (entered_above l.number own) ≡ Some a
      → answer_of (moment_of line (entered_above l.number own)) (entered_above l.number own) ≡ None → answer_of (Some a) (moments journal) ≡ None
  unanswered_in l there line a asked none =
      subst (λ (xs : List Moment). answer_of (Some a) xs ≡ None) (all_above_line l there)
      (subst (λ (s : Option Moment). answer_of s (entered_above l.number own) ≡ None) asked none)

  uncancelled_in : (l : Numbered) → slice_get lines (length told) ≡ Some l → (line : ℕ) (a : Moment) → moment_of line (entered_above l.number own) ≡ Some a
      → cancel_of (moment_of line (entered_above l.number own)) (entered_above l.number own) ≡ None → cancel_of (Some a) (moments journal) ≡ None
  uncancelled_in l there line a asked none =
      subst (λ (xs : List Moment). cancel_of (Some a) xs ≡ None) (all_above_line l there)
      (subst (λ (s : Option Moment). cancel_of s (entered_above l.number own) ≡ None) asked none)

  -- a line that cancels a query
  cancels : (n : ℕ) (id : List ℕ) (line : ℕ) (tenant : List ℕ)
      → slice_get lines (length told) ≡ Some (record { number = n; line = script.cancel id line tenant })
      → IsOpen (turn (record { number = n; line = script.cancel id line tenant }) nothing)
      → tenant ≡ asker_of (turn (record { number = n; line = script.cancel id line tenant }) nothing).asking
      → HasStepped known client journal lines told (record { number = n; line = script.cancel id line tenant })
  cancels n id line tenant there is_open same = by (moment_of line (entered_above n own)) refl is_open.query where
    l : Numbered
    l = record { number = n; line = script.cancel id line tenant }

    by : (s : Option Moment) → moment_of line (entered_above n own) ≡ s → HasQuery (what_of s) → HasStepped known client journal lines told l
    by None e query = absurd query
    by (Some a) e query =
        let found = open_query known.limits known.names journal a begun.legal (among_all l there line a e) query
        (unanswered_in l there line a e is_open.unanswered) in
        let free : found.0.cancelled ≡ None = found.2 ∙ ap (option_map place_of) (uncancelled_in l there line a e is_open.uncancelled) in
        enters l (cancel (place_of a)) there
        (legal_cancel known.limits known.names journal client n (place_of a) found.0 begun.legal begun.named found.1 free) refl
        ((subst (λ (s : Option Moment). IsOfAsk s (place_of a)) (sym (asked_still l (cancel (place_of a)) there line a e)) refl, same), refl) refl refl refl

  -- a line that answers a query, for which there is no memory
  answers : (n : ℕ) (id : List ℕ) (line : ℕ) → slice_get lines (length told) ≡ Some (record { number = n; line = script.answer id line })
      → HasQuery (what_of (moment_of line (entered_above n own)))
      → answer_of (moment_of line (entered_above n own)) (entered_above n own) ≡ None
      → HasStepped known client journal lines told (record { number = n; line = script.answer id line })
  answers n id line there query unanswered = by (moment_of line (entered_above n own)) refl query where
    l : Numbered
    l = record { number = n; line = script.answer id line }

    by : (s : Option Moment) → moment_of line (entered_above n own) ≡ s → HasQuery (what_of s) → HasStepped known client journal lines told l
    by None e query = absurd query
    by (Some a) e query =
        let found = open_query known.limits known.names journal a begun.legal (among_all l there line a e) query
        (unanswered_in l there line a e unanswered) in
        let code = code_without_memory found.0.cancelled in
        let what = answer (place_of a) code 0 0 in
        enters l what there
        (legal_answer known.limits known.names journal client n (place_of a) found.0 begun.legal begun.named found.1) refl
        (subst (λ (s : Option Moment). IsOfAsk s (place_of a)) (sym (asked_still l what there line a e)) refl, not_500_told (place_of a) found.0.cancelled)
        refl (not_500 (place_of a) found.0.cancelled) refl

  -- any line
  steps : (n : ℕ) (line : Line) → slice_get lines (length told) ≡ Some (record { number = n; line = line })
      → HasStepped known client journal lines told (record { number = n; line = line })
  steps n (script.ingest tenant file time) there = stays _ no_memory there tt refl (inr refl)
  steps n (script.delete tenant from to selector) there = stays _ no_memory there tt refl (inr refl)
  steps n (script.ask id tenant start end step query) there = stays _ no_memory there tt refl (inl refl)
  steps n (script.instant id tenant time query) there = stays _ no_memory there tt refl (inl refl)
  steps n (script.cancel id line tenant) there = elim (cancel_cases (turn (record { number = n; line = script.cancel id line tenant }) nothing) tenant) [
    | inl h ↦ cancels n id line tenant there h.0 h.1
    | inr shut ↦ stays _ nothing there shut refl (inl refl)
  ]
  steps n (script.answer id line) there = elim (answer_cases (turn (record { number = n; line = script.answer id line }) nothing)) [
    | inl h ↦ answers n id line there h.0 h.1
    | inr shut ↦ stays _ no_memory there shut refl (inl refl)
  ]
  steps n (script.plan id line) there = elim (query_cases (what_of (moment_of line (entered_above n own)))) [
    | inl asked ↦ stays _ (of_plan planned_before) there asked refl (inl refl)
    | inr refused ↦ stays _ (of_plan plan_refused) there refused refl (inl refl)
  ]
  steps n (script.keep id line) there = elim (query_cases (what_of (moment_of line (entered_above n own)))) [
    | inl asked ↦ stays _ (of_keep unplanned) there asked refl (inl refl)
    | inr refused ↦ stays _ (of_keep keep_refused) there refused refl (inl refl)
  ]
  steps n (script.take worker) there = elim (bool_cases (holds worker (hands_behind [] (ran_lines lines told)))) [
    | inl t ↦ stays _ (of_take busy) there t refl (inl refl)
    | inr t ↦ stays _ (of_take none_waits) there t refl (inl refl)
  ]
  steps n (script.done worker) there = elim (bool_cases (holds worker (hands_behind [] (ran_lines lines told)))) [
    | inl t ↦ stays _ (of_done lacked) there t refl (inl refl)
    | inr t ↦ stays _ (of_done empty) there t refl (inl refl)
  ]

  next_line : (l : Numbered) → slice_get lines (length told) ≡ Some l → HasStepped known client journal lines told l
  next_line l there = steps l.number l.line there

-- ---- a run that ends

-- a run of some first lines, with the lines behind them
record HasEnded (known : Known) (client : ℕ) (journal : List Entry) (lines : List Numbered) (told : List Told) : Type 0 where
  last : List Entry
  entries : List Entry
  all : List Told
  more : List Told
  why : Why
  not_full : why ≡ at_full → ⊥
  grown : last ≡ journal ++ entries
  replied : all ≡ told ++ more
  legal : Legal known.limits known.names last
  logs : length (machine_after started last).logs ≡ length (machine_after started journal).logs
  mine : Each (λ e. e.client ≡ client) entries
  woven : Woven known (own_moments client (moments last)) lines (record { told = all; why = why })
  runs : RunsTo known.limits last client why (drop (length all) lines) (ran_lines lines all)
  answers : failed_answers last ≡ failed_answers journal
  tries : failed_told all ≡ failed_told told
  text : List ℕ
  said : client_text known (own_moments client (moments last)) client lines (record { told = all; why = why })
      ≡ client_text known (own_moments client (moments journal)) client lines (record { told = told; why = at_end }) ++ text

module _ (known : Known) (client : ℕ) (journal : List Entry) (lines : List Numbered) (told : List Told)
    (begun : HasBegun known client journal lines told) where
  -- no line is left
  ends_here : drop (length told) lines ≡ [] → HasEnded known client journal lines told
  ends_here left = record {
    last = journal;
    entries = [];
    all = told;
    more = [];
    why = at_end;
    not_full = λ e. cc;
    grown = sym (append-nil journal);
    replied = sym (append-nil told);
    legal = begun.legal;
    logs = refl;
    mine = tt;
    woven = begun.woven;
    runs = subst (λ (ls : List Numbered). RunsTo known.limits journal client at_end ls (ran_lines lines told)) (sym left)
        (runs_to_end known.limits journal client (ran_lines lines told) begun.goes);
    answers = refl;
    tries = refl;
    text = [];
    said = sym (append-nil (client_text known (own_moments client (moments journal)) client lines (record { told = told; why = at_end })));
  }

  module _ (l : Numbered) (there : slice_get lines (length told) ≡ Some l) (s : HasStepped known client journal lines told l) where
    -- the next line stops the client
    stops_here : stops_at l.line s.reply ≡ Some at_memory → HasEnded known client journal lines told
    stops_here stop =
        let w = s.woven in
        record {
          last = s.last;
          entries = s.entries;
          all = told ++ s.reply ∷ [];
          more = s.reply ∷ [];
          why = at_memory;
          not_full = λ e. cc;
          grown = s.grown;
          replied = refl;
          legal = s.legal;
          logs = s.logs;
          mine = s.mine;
          woven = record { few = w.few; rising = w.rising; lined = w.lined; each = w.each };
          runs = subst (RunsTo known.limits s.last client at_memory (drop (length (told ++ s.reply ∷ [])) lines)) (sym (ran-snoc lines told s.reply l there))
              (runs_to_stop known.limits s.last client at_memory (drop (length (told ++ s.reply ∷ [])) lines) (ran_lines lines told)
              (record { line = l; told = s.reply }) begun.goes stop tt);
          answers = s.answers;
          tries = told-snoc told s.reply s.tries;
          text = s.text;
          said = s.said;
        }

    -- or the client goes on behind it
    begun_on : stops_at l.line s.reply ≡ None → HasBegun known client s.last lines (told ++ s.reply ∷ [])
    begun_on goes = record {
      legal = s.legal;
      named = subst (λ n. n ≤ length known.names) (sym s.logs) begun.named;
      alone = subst (Each (λ e. e.client ≡ client)) (sym s.grown) (each_append (λ e. e.client ≡ client) journal s.entries begun.alone s.mine);
      woven = s.woven;
      goes = subst NeverStops (sym (ran-snoc lines told s.reply l there))
          (each_append (λ r. stops_at r.line.line r.told ≡ None) (ran_lines lines told) _ begun.goes (goes, tt));
    }

    ends_later : HasEnded known client s.last lines (told ++ s.reply ∷ []) → HasEnded known client journal lines told
    ends_later e = record {
      last = e.last;
      entries = s.entries ++ e.entries;
      all = e.all;
      more = s.reply ∷ e.more;
      why = e.why;
      not_full = e.not_full;
      grown = e.grown ∙ ap (λ (es : List Entry). es ++ e.entries) s.grown ∙ append_assoc journal s.entries e.entries;
      replied = e.replied ∙ append_assoc told (s.reply ∷ []) e.more;
      legal = e.legal;
      logs = e.logs ∙ s.logs;
      mine = each_append (λ x. x.client ≡ client) s.entries e.entries s.mine e.mine;
      woven = e.woven;
      runs = e.runs;
      answers = e.answers ∙ s.answers;
      tries = e.tries ∙ told-snoc told s.reply s.tries;
      text = s.text ++ e.text;
      said = e.said ∙ ap (λ (bytes : List ℕ). bytes ++ e.text) s.said
          ∙ append_assoc (client_text known (own_moments client (moments journal)) client lines (record { told = told; why = at_end })) s.text e.text;
    }

ended : (known : Known) (client : ℕ) (lines : List Numbered) → NumbersRise lines → (left : List Numbered) (journal : List Entry) (told : List Told)
    → drop (length told) lines ≡ left → HasBegun known client journal lines told → HasEnded known client journal lines told
ended known client lines rise [] journal told at begun = ends_here known client journal lines told begun at
ended known client lines rise (l ∷ left) journal told at begun =
    let there = drop_there lines (length told) l left at in
    let s = next_line known client journal lines told begun rise l there in
    let at_next : drop (length (told ++ s.reply ∷ [])) lines ≡ left =
    subst (λ n. drop n lines ≡ left) (sym (one_more told s.reply)) (drop_next lines (length told) l left at) in
    elim s.ends [
      | inl goes ↦ ends_later known client journal lines told begun l there s
          (ended known client lines rise left s.last (told ++ s.reply ∷ []) at_next (begun_on known client journal lines told begun l there s goes))
      | inr stop ↦ stops_here known client journal lines told begun l there s stop
    ]

-- the lines behind some first ones get replies that are allowed, and at most some of them cancel
pub record CanEnd (known : Known) (client : ℕ) (journal : List Entry) (lines : List Numbered) (told : List Told) : Type 0 where
  pub entries : List Entry
  pub more : List Told
  pub why : Why
  pub not_full : why ≡ at_full → ⊥
  pub legal : Legal known.limits known.names (journal ++ entries)
  pub logs : length (machine_after started (journal ++ entries)).logs ≡ length (machine_after started journal).logs
  pub mine : Each (λ e. e.client ≡ client) entries
  pub woven : Woven known (own_moments client (moments (journal ++ entries))) lines (record { told = told ++ more; why = why })
  pub runs : RunsTo known.limits (journal ++ entries) client why (drop (length (told ++ more)) lines) (ran_lines lines (told ++ more))
  pub answers : failed_answers (journal ++ entries) ≡ failed_answers journal
  pub tries : failed_told (told ++ more) ≡ failed_told told
  pub text : List ℕ
  pub said : client_text known (own_moments client (moments (journal ++ entries))) client lines (record { told = told ++ more; why = why })
      ≡ client_text known (own_moments client (moments journal)) client lines (record { told = told; why = at_end }) ++ text

pub can_end : (known : Known) (client : ℕ) (journal : List Entry) (lines : List Numbered) (told : List Told)
    → Legal known.limits known.names journal → Each (λ e. e.client ≡ client) journal
    → Woven known (own_moments client (moments journal)) lines (record { told = told; why = at_end }) → NeverStops (ran_lines lines told) → NumbersRise lines
    → CanEnd known client journal lines told
can_end known client journal lines told legal alone woven goes rise =
    let named = all_named known client journal lines (record { told = told; why = at_end }) alone woven in
    let begun : HasBegun known client journal lines told = record { legal = legal; named = named; alone = alone; woven = woven; goes = goes } in
    let e = ended known client lines rise (drop (length told) lines) journal told refl begun in
    record {
      entries = e.entries;
      more = e.more;
      why = e.why;
      not_full = e.not_full;
      legal = subst (Legal known.limits known.names) e.grown e.legal;
      logs = subst (λ (es : List Entry). length (machine_after started es).logs ≡ length (machine_after started journal).logs) e.grown e.logs;
      mine = e.mine;
      woven = subst (λ (es : List Entry). Woven known (own_moments client (moments es)) lines (record { told = told ++ e.more; why = e.why })) e.grown
          (subst (λ (ts : List Told). Woven known (own_moments client (moments e.last)) lines (record { told = ts; why = e.why })) e.replied e.woven);
      runs = subst (λ (es : List Entry). RunsTo known.limits es client e.why (drop (length (told ++ e.more)) lines) (ran_lines lines (told ++ e.more))) e.grown
          (subst (λ (ts : List Told). RunsTo known.limits e.last client e.why (drop (length ts) lines) (ran_lines lines ts)) e.replied e.runs);
      answers = subst (λ (es : List Entry). failed_answers es ≡ failed_answers journal) e.grown e.answers;
      tries = subst (λ (ts : List Told). failed_told ts ≡ failed_told told) e.replied e.tries;
      text = e.text;
      said = subst (λ (es : List Entry). client_text known (own_moments client (moments es)) client lines (record { told = told ++ e.more; why = e.why })
          ≡ client_text known (own_moments client (moments journal)) client lines (record { told = told; why = at_end }) ++ e.text) e.grown
          (subst (λ (ts : List Told). client_text known (own_moments client (moments e.last)) client lines (record { told = ts; why = e.why })
          ≡ client_text known (own_moments client (moments journal)) client lines (record { told = told; why = at_end }) ++ e.text) e.replied e.said);
    }

-- ---- the report

-- what was printed of some first lines of the only script begins the report of the whole script
pub record BeginsReport (known : Known) (journal : List Entry) (lines : List Numbered) (told : List Told) (failed : List ℕ) : Type 0 where
  pub whole : List Entry
  pub client : Client
  pub legal : Legal known.limits known.names whole
  pub named : AreNames known.names whole
  pub woven : Weave known whole (lines ∷ []) (record { clients = client ∷ []; failed = failed })
  pub not_full : client.why ≡ at_full → ⊥
  pub text : List ℕ
  pub said : report known whole (lines ∷ []) (record { clients = client ∷ []; failed = failed })
      ≡ client_text known (own_moments 0 (moments journal)) 0 lines (record { told = told; why = at_end }) ++ text

only_one : {X : Type 0} (x y : X) (n : ℕ) → slice_get (x ∷ []) n ≡ Some y → (n ≡ 0) × (x ≡ y)
only_one x y zero h = (refl, cc)
only_one x y (suc n) h = cc

pub begins_report : (known : Known) (journal : List Entry) (lines : List Numbered) (told : List Told) (failed : List ℕ)
    → Legal known.limits known.names journal → AreNames known.names journal → Each (λ e. e.client ≡ 0) journal
    → Woven known (own_moments 0 (moments journal)) lines (record { told = told; why = at_end }) → NeverStops (ran_lines lines told) → NumbersRise lines
    → AreTooBig known.refused
    → ((text : List ℕ) (r : Reading) → known.readings text ≡ Some r → IsReading known.refused text r)
    → AreTried journal (record { clients = record { told = told; why = at_end } ∷ []; failed = failed })
    → BeginsReport known journal lines told failed
begins_report known journal lines told failed legal names alone woven goes rise too_big read tried =
    let e = can_end known 0 journal lines told legal alone woven goes rise in
    let c : Client = record { told = told ++ e.more; why = e.why } in
    let all_mine : Each (λ x. x.client ≡ 0) (journal ++ e.entries) = each_append (λ x. x.client ≡ 0) journal e.entries alone e.mine in
    let begun = client_text known (own_moments 0 (moments journal)) 0 lines (record { told = told; why = at_end }) in
    let behind = journal_text known.names (journal ++ e.entries) ++ actors_from 0 failed in
    record {
      whole = journal ++ e.entries;
      client = c;
      legal = e.legal;
      named = record { many = names.many ∙ sym e.logs; different = names.different };
      woven = record {
        many = refl;
        each = λ client ls d at_ls at_d. each_one c (journal ++ e.entries) e.woven e.runs client ls d at_ls at_d;
        nobody_else = each_so _ _ (λ (x : Entry) h. omega (arith, h)) (journal ++ e.entries) all_mine;
        too_big = too_big;
        read = read;
        tried = record {
          actors = tried.actors;
          five = subst (λ n. (sum failed ≡ 18446744073709551615) ⊎ (5 * n ≤ sum failed)) (sym e.answers) tried.five;
          shown = subst (λ n. n + 0 ≤ sum failed) (sym e.tries) tried.shown;
        };
      };
      not_full = e.not_full;
      text = (e.text ++ []) ++ behind;
      said = ap (λ (bytes : List ℕ). (bytes ++ []) ++ behind) e.said ∙ ap (λ (bytes : List ℕ). bytes ++ behind) (append_assoc begun e.text [])
          ∙ append_assoc begun (e.text ++ []) behind;
    } where
      each_one : (c : Client) (es : List Entry) → Woven known (own_moments 0 (moments es)) lines c
          → RunsTo known.limits es 0 c.why (drop (length c.told) lines) (ran_lines lines c.told)
          → (client : ℕ) (ls : List Numbered) (d : Client) → slice_get (lines ∷ []) client ≡ Some ls → slice_get (c ∷ []) client ≡ Some d
          → WovenClient known es client (own_moments client (moments es)) ls d
      each_one c es w runs client ls d at_ls at_d =
          let one = only_one lines ls client at_ls in
          let other = only_one c d client at_d in
          subst (λ n. WovenClient known es n (own_moments n (moments es)) ls d) (sym one.0)
          (subst (λ (x : List Numbered). WovenClient known es 0 (own_moments 0 (moments es)) x d) one.1
          (subst (WovenClient known es 0 (own_moments 0 (moments es)) lines) other.1 (record { woven = w; runs = runs })))
