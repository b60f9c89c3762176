-- A journal grows at its end, and so do a client's own entries and its turns: what stands of them stays.
use Rattle.std.proofs.Common.{◌≡◌, ℕ, ◌<◌, Bool, false, List, [], ◌∷◌, ◌++◌, refl, ap, ◌∙◌, filter, nat_eq, nat_lt, append-nil, arith}
use Rattle.std.proofs.lemmas.Bool.{le-ltb, ne_eqb}
use Rattle.std.proofs.lemmas.List.Elements.{filter-append}
use Rattle.pf_model.specs.Lists.{Each, first_with}
use Rattle.pf_journal.specs.Legal.{Moment, machine_after, moments_from}
use Rattle.pf_journal.specs.Machine.{Entry, Machine, next}
use Rattle.pf_journal.specs.Turns.{Hand, Ran, hands_after, own_moments, turn_of, turns_from}

-- ---- lists

first_with-snoc : {X : Type 0} (p : X → Bool) (xs : List X) (x : X) → p x ≡ false → first_with p (xs ++ x ∷ []) ≡ first_with p xs
first_with-snoc p [] x h = rw h refl
first_with-snoc p (y ∷ ys) x h = rw (first_with-snoc p ys x h) refl

filter-snoc : {X : Type 0} (p : X → Bool) (xs : List X) (x : X) → p x ≡ false → filter p (xs ++ x ∷ []) ≡ filter p xs
filter-snoc p xs x h = filter-append p xs (x ∷ []) ∙ rw h (append-nil (filter p xs))

-- ---- moments

-- a further entry adds a moment, and changes none
pub moments-snoc : (m : Machine) (es : List Entry) (e : Entry) → moments_from m (es ++ e ∷ []) ≡
    moments_from m es ++ record { before = machine_after m es; entry = e } ∷ []
moments-snoc m [] e = refl
moments-snoc m (x ∷ es) e = ap (λ xs. record { before = m; entry = x } ∷ xs) (moments-snoc (next m x.what) es e)

-- another client's entry leaves a client's own
pub own-others : (client : ℕ) (xs : List Moment) (x : Moment) → (x.entry.client ≡ client → ⊥) →
    own_moments client (xs ++ x ∷ []) ≡ own_moments client xs
own-others client xs x h = filter-snoc _ xs x (ne_eqb x.entry.client client h)

-- ---- turns

-- an entry of a line below leaves a turn
turn_of-entered : (own : List Moment) (x : Moment) (above : List Ran) (hands : List Hand) (r : Ran) → r.line.number < x.entry.line →
    turn_of (own ++ x ∷ []) above hands r ≡ turn_of own above hands r
turn_of-entered own x above hands r h =
    rw (first_with-snoc (λ y. nat_eq y.entry.line r.line.number) own x (ne_eqb _ _ (λ e. omega (arith, e, h))))
    (rw (filter-snoc (λ y. nat_lt y.entry.line r.line.number) own x (le-ltb _ _ (omega (arith, h)))) refl)

pub turns-entered : (own : List Moment) (x : Moment) (above : List Ran) (hands : List Hand) (rs : List Ran) →
    Each (λ r. r.line.number < x.entry.line) rs → turns_from (own ++ x ∷ []) above hands rs ≡ turns_from own above hands rs
turns-entered own x above hands [] h = refl
turns-entered own x above hands (r ∷ rs) h =
    rw (turn_of-entered own x above hands r h.0) (rw (turns-entered own x (r ∷ above) (hands_after r.line.line r.told hands) rs h.1) refl)

-- the lines and the jobs in hand behind some lines
abbrev pub lines_behind : List Ran → List Ran → List Ran
lines_behind above [] = above
lines_behind above (r ∷ rs) = lines_behind (r ∷ above) rs

abbrev pub hands_behind : List Hand → List Ran → List Hand
hands_behind hands [] = hands
hands_behind hands (r ∷ rs) = hands_behind (hands_after r.line.line r.told hands) rs

-- a further line adds a turn, and changes none
pub turns-snoc : (own : List Moment) (above : List Ran) (hands : List Hand) (rs : List Ran) (r : Ran) →
    turns_from own above hands (rs ++ r ∷ []) ≡
    turns_from own above hands rs ++ turn_of own (lines_behind above rs) (hands_behind hands rs) r ∷ []
turns-snoc own above hands [] r = refl
turns-snoc own above hands (x ∷ rs) r =
    ap (λ ts. turn_of own above hands x ∷ ts) (turns-snoc own (x ∷ above) (hands_after x.line.line x.told hands) rs r)
