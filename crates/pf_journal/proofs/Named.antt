-- The tenants that a woven journal of one client makes known have names, those of its last entry too.
use Rattle.std.proofs.Common.{◌≡◌, ℕ, zero, suc, ◌<◌, ◌≤◌, inl, inr, true, false, Option, Some, List, [], ◌∷◌, length, nat_eq, take, refl, sym, ap, ◌∙◌, subst, arith}
use Rattle.std.proofs.lemmas.Bool.{ne_eqb}
use Rattle.std.proofs.lemmas.Bool.Decides.{nat_tests}
use Rattle.std.proofs.lemmas.Option.{slice_get_within}
use Rattle.pf_model.specs.Log.{Change}
use Rattle.pf_model.specs.Lists.{Each}
use Rattle.pf_journal.proofs.Opened.{IsAmong, all_own}
use Rattle.pf_journal.specs.Entered.{Fits, FitsAnswer, FitsCancel, IsNamed}
use Rattle.pf_journal.specs.Legal.{Moment, machine_after, moments, moments_from}
use Rattle.pf_journal.specs.Machine.{Entry, Machine, What, append, delete, ask, full, no_tenant, cancel, answer, next, started, with_log}
use Rattle.pf_journal.specs.Rest.{Client, Known, Told}
use Rattle.pf_journal.specs.Scripts as script
use Rattle.pf_journal.specs.Scripts.{Line, Numbered}
use Rattle.pf_journal.specs.Turns.{Hand, Ran, Turn, asker_of, hands_after, moment_of, own_moments, ran_lines, turn_of, turns_from}
use Rattle.pf_journal.specs.Weave.{IsLineOf, IsMatched, IsWoven, Rises, Woven}

-- ---- an entry's tenant

-- the tenant of whom an entry makes a log has a name
abbrev HasName : List (List ℕ) → What → Type 0
HasName names (append u batch vs entry) = u < length names
HasName names (delete u ms from to generation entry) = u < length names
HasName names (ask u asked pin generation floor) = u < length names
HasName names _ = Unit {0}

has_name : (names : List (List ℕ)) (tenant : List ℕ) (what : What) → IsNamed names tenant what → HasName names what
has_name names tenant (append u batch vs entry) h = slice_get_within names u tenant h
has_name names tenant (delete u ms from to generation entry) h = slice_get_within names u tenant h
has_name names tenant (ask u asked pin generation floor) h = slice_get_within names u tenant h
has_name names tenant (full u outstanding) h = tt
has_name names tenant (no_tenant name) h = tt
has_name names tenant (cancel query) h = tt
has_name names tenant (answer query code cached evaluated) h = tt

cancel_name : (names : List (List ℕ)) (tenant asker : List ℕ) (asked : Option Moment) (what : What) → FitsCancel tenant asker asked what → HasName names what
cancel_name names tenant asker asked (append u batch vs entry) h = absurd h
cancel_name names tenant asker asked (delete u ms from to generation entry) h = absurd h
cancel_name names tenant asker asked (ask u wanted pin generation floor) h = absurd h
cancel_name names tenant asker asked (full u outstanding) h = tt
cancel_name names tenant asker asked (no_tenant name) h = tt
cancel_name names tenant asker asked (cancel query) h = tt
cancel_name names tenant asker asked (answer query code cached evaluated) h = tt

answer_name : (names : List (List ℕ)) (asked : Option Moment) (what : What) → FitsAnswer asked what → HasName names what
answer_name names asked (append u batch vs entry) h = absurd h
answer_name names asked (delete u ms from to generation entry) h = absurd h
answer_name names asked (ask u wanted pin generation floor) h = absurd h
answer_name names asked (full u outstanding) h = tt
answer_name names asked (no_tenant name) h = tt
answer_name names asked (cancel query) h = tt
answer_name names asked (answer query code cached evaluated) h = tt

fits_name : (known : Known) (asker : List ℕ) (asked : Option Moment) (line : Line) (what : What) → Fits known asker asked line what → HasName known.names what
fits_name known asker asked (script.ingest tenant file time) what h = has_name known.names tenant what h.0
fits_name known asker asked (script.delete tenant from to selector) what h = has_name known.names tenant what h.0
fits_name known asker asked (script.ask id tenant start end step query) what h = has_name known.names tenant what h.0
fits_name known asker asked (script.instant id tenant time query) what h = has_name known.names tenant what h.0
fits_name known asker asked (script.cancel id line tenant) what h = cancel_name known.names tenant asker asked what h
fits_name known asker asked (script.answer id line) what h = answer_name known.names asked what h
fits_name known asker asked (script.plan id line) what h = absurd h
fits_name known asker asked (script.keep id line) what h = absurd h
fits_name known asker asked (script.take worker) what h = absurd h
fits_name known asker asked (script.done worker) what h = absurd h

-- ---- own entries and their turns

all_among : (P : Moment → Type 0) (xs : List Moment) → ((x : Moment) → IsAmong x xs → P x) → Each P xs
all_among P [] f = tt
all_among P (x ∷ xs) f = (f x (inl refl), all_among P xs (λ y h. f y (inr h)))

rises_above : (below : ℕ) (xs : List Moment) (x : Moment) → Rises below xs → IsAmong x xs → below < x.entry.line
rises_above below [] x r h = absurd h
rises_above below (y ∷ ys) x r (inl same) = subst (λ (z : Moment). below < z.entry.line) (sym same) r.0
rises_above below (y ∷ ys) x r (inr h) = let low = r.0 in let more = rises_above y.entry.line ys x r.1 h in omega (arith, low, more)

-- lines have one own entry at most
found_own : (below : ℕ) (xs : List Moment) (x : Moment) → Rises below xs → IsAmong x xs → moment_of x.entry.line xs ≡ Some x
found_own below [] x r h = absurd h
found_own below (y ∷ ys) x r (inl same) =
    let t : nat_eq y.entry.line x.entry.line ≡ true = subst (λ (z : Moment). nat_eq y.entry.line z.entry.line ≡ true) (sym same) (grind (arith, nat_tests)) in
    rw t (ap Some (sym same))
found_own below (y ∷ ys) x r (inr h) =
    let low = rises_above y.entry.line ys x r.1 h in
    let t : nat_eq y.entry.line x.entry.line ≡ false = ne_eqb _ _ (λ e. omega (arith, e, low)) in
    rw t (found_own y.entry.line ys x r.1 h)

-- the turn of a line that ran
record HasTurn (known : Known) (own : List Moment) (line : ℕ) : Type 0 where
  turn : Turn
  woven : IsWoven known turn
  mine : turn.mine ≡ moment_of line own

has_turn : (known : Known) (own : List Moment) (above : List Ran) (hands : List Hand) (lines : List Numbered) (told : List Told) (line : ℕ)
    → IsLineOf (take (length told) lines) line → Each (IsWoven known) (turns_from own above hands (ran_lines lines told)) → HasTurn known own line
has_turn known own above hands [] [] line there h = absurd there
has_turn known own above hands [] (t ∷ told) line there h = absurd there
has_turn known own above hands (l ∷ lines) [] line there h = absurd there
has_turn known own above hands (l ∷ lines) (t ∷ told) line (inl same) h =
    record { turn = turn_of own above hands (record { line = l; told = t }); woven = h.0; mine = ap (λ n. moment_of n own) same }
has_turn known own above hands (l ∷ lines) (t ∷ told) line (inr there) h =
    has_turn known own (record { line = l; told = t } ∷ above) (hands_after l.line t hands) lines told line there h.1

-- the entry of each turn is of a tenant with a name
own_name : (known : Known) (own : List Moment) (x : Moment) → HasTurn known own x.entry.line → moment_of x.entry.line own ≡ Some x → HasName known.names x.entry.what
own_name known own x h found =
    let matched : IsMatched known h.turn (Some x) = subst (IsMatched known h.turn) (h.mine ∙ found) h.woven.matched in
    fits_name known (asker_of h.turn.asking) h.turn.asked h.turn.ran.line.line x.entry.what matched.0

each_at : (P : Moment → Type 0) (xs : List Moment) (x : Moment) → Each P xs → IsAmong x xs → P x
each_at P [] x h among = absurd among
each_at P (y ∷ ys) x h (inl same) = subst P (sym same) h.0
each_at P (y ∷ ys) x h (inr among) = each_at P ys x h.1 among

own_names : (known : Known) (own : List Moment) (lines : List Numbered) (c : Client) → Woven known own lines c → Each (λ x. HasName known.names x.entry.what) own
own_names known own lines c w = all_among (λ x. HasName known.names x.entry.what) own (λ x among.
    own_name known own x (has_turn known own [] [] lines c.told x.entry.line (each_at _ own x w.lined among) w.each) (found_own 0 own x w.rising among))

-- ---- the machine's logs

few_logs : (logs : List (List Change)) (u : ℕ) (log : List Change) (n : ℕ) → length logs ≤ n → u < n → length (with_log logs u log) ≤ n
few_logs [] u log n h k = omega (arith, k)
few_logs (l ∷ ls) zero log n h k = h
few_logs (l ∷ ls) (suc u) log zero h k = absurd (omega (arith, h))
few_logs (l ∷ ls) (suc u) log (suc n) h k = let more = few_logs ls u log n (omega (arith, h)) (omega (arith, k)) in omega (arith, more)

few_next : (names : List (List ℕ)) (m : Machine) (what : What) → length m.logs ≤ length names → HasName names what → length (next m what).logs ≤ length names
few_next names m (append u batch vs entry) h k = few_logs m.logs u _ (length names) h k
few_next names m (delete u ms from to generation entry) h k = few_logs m.logs u _ (length names) h k
few_next names m (ask u asked pin generation floor) h k = few_logs m.logs u _ (length names) h k
few_next names m (full u outstanding) h k = h
few_next names m (no_tenant name) h k = h
few_next names m (cancel query) h k = h
few_next names m (answer query code cached evaluated) h k = h

few_after : (names : List (List ℕ)) (m : Machine) (es : List Entry) → length m.logs ≤ length names → Each (λ x. HasName names x.entry.what) (moments_from m es)
    → length (machine_after m es).logs ≤ length names
few_after names m [] h k = h
few_after names m (e ∷ es) h k = few_after names (next m e.what) es (few_next names m e.what h k.0) k.1

-- no more tenants are known than have names
pub all_named : (known : Known) (client : ℕ) (journal : List Entry) (lines : List Numbered) (c : Client) → Each (λ e. e.client ≡ client) journal
    → Woven known (own_moments client (moments journal)) lines c → length (machine_after started journal).logs ≤ length known.names
all_named known client journal lines c alone w =
    few_after known.names started journal (omega arith)
    (subst (Each (λ x. HasName known.names x.entry.what)) (all_own client started journal alone) (own_names known (own_moments client (moments journal)) lines c w))
