-- A client goes on by one line: what was told of its lines stays woven.
use Rattle.std.proofs.Common.{◌≡◌, ℕ, ◌<◌, Bool, true, false, Option, Some, None, List, [], ◌∷◌, ◌++◌, length, slice_get, take, refl, sym, ap, ◌∙◌, subst, append-nil, arith, inl, inr, nat_eq}
use Rattle.std.proofs.lemmas.Bool.{le-ltb, ne_eqb}
use Rattle.std.proofs.lemmas.Bool.Decides.{nat_tests}
use Rattle.std.proofs.lemmas.List.Elements.{filter-append}
use Rattle.pf_journal.proofs.Going.{going, text_grows, text_stays, turn_behind, woven_enters, woven_stays}
use Rattle.pf_journal.proofs.Growing.{hands_behind, lines_behind, moments-snoc}
use Rattle.pf_journal.proofs.Opened.{all_above}
use Rattle.pf_journal.specs.Legal.{Moment, machine_after, moments}
use Rattle.pf_journal.specs.Machine.{Entry, Machine, What, started}
use Rattle.pf_journal.specs.Replies.{reply_of}
use Rattle.pf_journal.specs.Report.{client_text}
use Rattle.pf_journal.specs.Rest.{Known, Told, at_end}
use Rattle.pf_journal.specs.Scripts.{Numbered}
use Rattle.pf_journal.specs.Turns.{Hand, Ran, Turn, entered_above, moment_of, own_moments, ran_lines, turn_of}
use Rattle.pf_journal.specs.Weave.{FoundRoom, IsMatched, IsWoven, Woven}
use Rattle.pf_model.specs.Lists.{Each, first_with}
use Rattle.pf_client.proofs.Cases.{bool_cases}
use Rattle.pf_client.specs.Clients.{entries_by, entry_by, moment_by, moment_with, naming, turn_by}
pub use Rattle.pf_journal.proofs.Ending.{own_below}
pub use Rattle.pf_journal.proofs.Ending.{ran_below}
pub use Rattle.pf_journal.proofs.Ending.{machine-snoc}
pub use Rattle.pf_journal.proofs.Ending.{none_with}

-- ---- lists

pub each_snoc : {X : Type 0} (P : X → Type 0) (xs : List X) (x : X) → Each P xs → P x → Each P (xs ++ x ∷ [])
each_snoc P [] x h p = (p, tt)
each_snoc P (y ∷ xs) x h p = (h.0, each_snoc P xs x h.1 p)

pub each_so : {X : Type 0} (P Q : X → Type 0) → ((x : X) → P x → Q x) → (xs : List X) → Each P xs → Each Q xs
each_so P Q f [] h = tt
each_so P Q f (x ∷ xs) h = (f x h.0, each_so P Q f xs h.1)

pub last_with : {X : Type 0} (p : X → Bool) (xs : List X) (x : X) → first_with p xs ≡ None → p x ≡ true → first_with p (xs ++ x ∷ []) ≡ Some x
last_with p [] x h t = rw t refl
last_with p (y ∷ xs) x h t = elim (bool_cases (p y)) [
  | inl e ↦ let g = rw e at h in cc
  | inr e ↦ let g = rw e at h in rw e (last_with p xs x g t)
]

pub first_stays : {X : Type 0} (p : X → Bool) (xs : List X) (x : X) → p x ≡ false → first_with p (xs ++ x ∷ []) ≡ first_with p xs
first_stays p [] x h = rw h refl
first_stays p (y ∷ xs) x h = rw (first_stays p xs x h) refl

pub first_kept : {X : Type 0} (p : X → Bool) (xs ys : List X) (x : X) → first_with p xs ≡ Some x → first_with p (xs ++ ys) ≡ Some x
first_kept p [] ys x h = cc
first_kept p (y ∷ xs) ys x h = elim (bool_cases (p y)) [
  | inl e ↦ let g = rw e at h in rw e g
  | inr e ↦ let g = rw e at h in rw e (first_kept p xs ys x g)
]

-- ---- lines below

-- ---- moments

-- a further entry of a client is the last of its own moments
pub own-snoc : (journal : List Entry) (client n : ℕ) (what : What)
    → own_moments client (moments (journal ++ entry_by client n what ∷ []))
    ≡ own_moments client (moments journal) ++ moment_by (machine_after started journal) client n what ∷ []
own-snoc journal client n what =
    let mine : nat_eq client client ≡ true = grind (arith, nat_tests) in
    ap (own_moments client) (moments-snoc started journal (entry_by client n what))
    ∙ filter-append _ (moments journal) (moment_by (machine_after started journal) client n what ∷ [])
    ∙ rw mine refl

-- ---- turns

pub unmade : (own : List Moment) (n : ℕ) → Each (λ x. x.entry.line < n) own → moment_of n own ≡ None
unmade own n h = none_with _ own (each_so _ _ (λ x low. ne_eqb x.entry.line n (λ e. omega (arith, e, low))) own h)

-- a turn without an entry
pub turn_stayed : (own : List Moment) (above : List Ran) (hands : List Hand) (l : Numbered) (told : Told)
    → Each (λ x. x.entry.line < l.number) own
    → turn_of own above hands (record { line = l; told = told }) ≡ turn_by (naming own above hands l.line told) l told None
turn_stayed own above hands l told low =
    rw (all_above l.number own low) (rw (unmade own l.number low) refl)

-- a turn with one
pub turn_entered : (own : List Moment) (x : Moment) (above : List Ran) (hands : List Hand) (l : Numbered) (told : Told)
    → Each (λ y. y.entry.line < l.number) own → x.entry.line ≡ l.number
    → turn_of (own ++ x ∷ []) above hands (record { line = l; told = told }) ≡ turn_by (naming own above hands l.line told) l told (Some x)
turn_entered own x above hands l told low here =
    let above_it : entered_above l.number (own ++ x ∷ []) ≡ own =
    filter-append _ own (x ∷ []) ∙ rw (le-ltb x.entry.line l.number (omega (arith, here))) (append-nil _ ∙ all_above l.number own low) in
    let made : moment_of l.number (own ++ x ∷ []) ≡ Some x =
    last_with _ own x (unmade own l.number low) (grind (arith, nat_tests, here)) in
    rw above_it (rw made refl)

-- ---- what was told

-- own entries with those of a line
abbrev pub own_with : List Moment → Machine → (client line : ℕ) → Option What → List Moment
own_with own m client n None = own
own_with own m client n (Some what) = own ++ moment_by m client n what ∷ []

pub own_on : (journal : List Entry) (client n : ℕ) (entered : Option What)
    → own_moments client (moments (journal ++ entries_by client n entered)) ≡ own_with (own_moments client (moments journal)) (machine_after started journal) client n entered
own_on journal client n None = ap (λ (es : List Entry). own_moments client (moments es)) (append-nil journal)
own_on journal client n (Some what) = own-snoc journal client n what

-- a woven client with its next line
pub woven_on : (known : Known) (own : List Moment) (m : Machine) (client : ℕ) (lines : List Numbered) (told : List Told) (l : Numbered) (t : Told) (entered : Option What)
    → Woven known own lines (record { told = told; why = at_end }) → slice_get lines (length told) ≡ Some l
    → 0 < l.number → Each (λ b. b.number < l.number) (take (length told) lines)
    → IsMatched known (turn_by (naming own (lines_behind [] (ran_lines lines told)) (hands_behind [] (ran_lines lines told)) l.line t) l t (moment_with m client l.number entered)) (moment_with m client l.number entered)
    → FoundRoom known.limits l.line (moment_with m client l.number entered)
    → Woven known (own_with own m client l.number entered) lines (going told t at_end)
woven_on known own m client lines told l t None w there first low matched roomy =
    woven_stays known own lines told at_end l t w there
    (subst (IsWoven known) (sym (turn_stayed own (lines_behind [] (ran_lines lines told)) (hands_behind [] (ran_lines lines told)) l t
    (own_below own (take (length told) lines) l.number low w.lined))) (record { matched = matched; roomy = roomy }))
woven_on known own m client lines told l t (Some what) w there first low matched roomy =
    woven_enters known own (moment_by m client l.number what) lines told at_end l t w there first refl
    (own_below own (take (length told) lines) l.number low w.lined) (ran_below lines told l.number low)
    (subst (IsWoven known) (sym (turn_entered own (moment_by m client l.number what) (lines_behind [] (ran_lines lines told)) (hands_behind [] (ran_lines lines told)) l t
    (own_below own (take (length told) lines) l.number low w.lined) refl)) (record { matched = matched; roomy = roomy }))

-- and its text
pub text_on : (known : Known) (own : List Moment) (m : Machine) (client : ℕ) (lines : List Numbered) (told : List Told) (l : Numbered) (t : Told) (entered : Option What) (out out' : List ℕ)
    → Woven known own lines (record { told = told; why = at_end }) → slice_get lines (length told) ≡ Some l
    → Each (λ b. b.number < l.number) (take (length told) lines)
    → out ≡ client_text known own client lines (record { told = told; why = at_end })
    → out' ≡ out ++ reply_of known (turn_by (naming own (lines_behind [] (ran_lines lines told)) (hands_behind [] (ran_lines lines told)) l.line t) l t (moment_with m client l.number entered))
    → out' ≡ client_text known (own_with own m client l.number entered) client lines (going told t at_end)
text_on known own m client lines told l t None out out' w there low said more =
    let turn = turn_stayed own (lines_behind [] (ran_lines lines told)) (hands_behind [] (ran_lines lines told)) l t
    (own_below own (take (length told) lines) l.number low w.lined) in
    more ∙ ap (λ (bytes : List ℕ). bytes ++ reply_of known (turn_by (naming own (lines_behind [] (ran_lines lines told)) (hands_behind [] (ran_lines lines told)) l.line t) l t None)) said
    ∙ ap (λ (turn : Turn). client_text known own client lines (record { told = told; why = at_end }) ++ reply_of known turn) (sym turn)
    ∙ sym (text_grows known own client lines told at_end l t there)
text_on known own m client lines told l t (Some what) out out' w there low said more =
    let x : Moment = moment_by m client l.number what in
    let turn = turn_entered own x (lines_behind [] (ran_lines lines told)) (hands_behind [] (ran_lines lines told)) l t
    (own_below own (take (length told) lines) l.number low w.lined) refl in
    more ∙ ap (λ (bytes : List ℕ). bytes ++ reply_of known (turn_by (naming own (lines_behind [] (ran_lines lines told)) (hands_behind [] (ran_lines lines told)) l.line t) l t (Some x))) said
    ∙ ap (λ (turn : Turn). client_text known own client lines (record { told = told; why = at_end }) ++ reply_of known turn) (sym turn)
    ∙ ap (λ (bytes : List ℕ). bytes ++ reply_of known (turn_behind (own ++ x ∷ []) (ran_lines lines told) (record { line = l; told = t })))
    (sym (text_stays known own x client lines (record { told = told; why = at_end }) (ran_below lines told l.number low)))
    ∙ sym (text_grows known (own ++ x ∷ []) client lines told at_end l t there)
