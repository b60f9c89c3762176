-- Histories and their journals: a history grows as its journal does, and its names stay where more names follow.
use Rattle.std.proofs.Common.{◌≡◌, ℕ, zero, suc, ◌<◌, ◌≤◌, List, [], ◌∷◌, ◌++◌, length, map, slice_get, refl, sym, ap, ◌∙◌, subst, arith}
use mathlib.Core.List.{IsPrefix}
use Rattle.pf_base.specs.declared.plain.Limits.{Limits}
use Rattle.pf_model.specs.Lists.{Each}
use Rattle.pf_model.specs.Log.{Change, log_with, log_without}
use Rattle.pf_journal.specs.Legal.{IsLawful, Legal, machine_after, moments_from}
use Rattle.pf_journal.specs.Machine.{Allowed, Entry, Machine, What, append, delete, ask, full, no_tenant, cancel, answer, log_of, next, started, with_log}
use Rattle.pf_journal.specs.Named.{AreNamedBy, Named, history, journal_of, name_in, named}

-- ---- lists

map_append : {X Y : Type 0} (f : X → Y) (xs ys : List X) → map f (xs ++ ys) ≡ map f xs ++ map f ys
map_append f [] ys = refl
map_append f (x ∷ xs) ys = ap (λ zs. f x ∷ zs) (map_append f xs ys)

length_map : {X Y : Type 0} (f : X → Y) (xs : List X) → length (map f xs) ≡ length xs
length_map f [] = refl
length_map f (x ∷ xs) = ap suc (length_map f xs)

each_front : {X : Type 0} (P : X → Type 0) (xs ys : List X) → Each P (xs ++ ys) → Each P xs
each_front P [] ys h = tt
each_front P (x ∷ xs) ys h = (h.0, each_front P xs ys h.1)

get_front : {X : Type 0} (xs ys : List X) (i : ℕ) → i < length xs → slice_get (xs ++ ys) i ≡ slice_get xs i
get_front [] ys i h = absurd (omega (arith, h))
get_front (x ∷ xs) ys zero h = refl
get_front (x ∷ xs) ys (suc i) h = get_front xs ys i (omega (arith, h))

-- ---- journals of histories

pub journal_append : (xs ys : List Named) → journal_of (xs ++ ys) ≡ journal_of xs ++ journal_of ys
journal_append xs ys = map_append (λ x. x.entry) xs ys

pub journal_length : (xs : List Named) → length (journal_of xs) ≡ length xs
journal_length xs = length_map (λ x. x.entry) xs

pub journal_prefix : (xs ys : List Named) → IsPrefix xs ys → IsPrefix (journal_of xs) (journal_of ys)
journal_prefix xs ys p = (journal_of p.0, sym (journal_append xs p.0) ∙ ap journal_of p.1)

-- ---- histories of journals

pub history_journal : (names : List (List ℕ)) (journal : List Entry) → journal_of (history names journal) ≡ journal
history_journal names [] = refl
history_journal names (e ∷ es) = ap (λ xs. e ∷ xs) (history_journal names es)

pub history_length : (names : List (List ℕ)) (journal : List Entry) → length (history names journal) ≡ length journal
history_length names journal = length_map (named names) journal

pub history_named : (names : List (List ℕ)) (journal : List Entry) → AreNamedBy names (history names journal)
history_named names [] = tt
history_named names (e ∷ es) = (refl, history_named names es)

-- what a longer history is named by names a shorter one
pub named_front : (names : List (List ℕ)) (seen found : List Named) → IsPrefix seen found → AreNamedBy names found → AreNamedBy names seen
named_front names seen found p h = each_front _ seen p.0 (subst (AreNamedBy names) (sym p.1) h)

-- ---- further names

-- an entry's tenant is one of the first n
abbrev pub IsNumbered : (n : ℕ) → What → Type 0
IsNumbered n (append u batch vs entry) = u < n
IsNumbered n (delete u ms from to generation entry) = u < n
IsNumbered n (ask u asked pin generation floor) = u < n
IsNumbered n (full u outstanding) = u < n
IsNumbered n _ = Unit {0}

name_stays : (names more : List (List ℕ)) (what : What) → IsNumbered (length names) what → name_in (names ++ more) what ≡ name_in names what
name_stays names more (append u batch vs entry) h = get_front names more u h
name_stays names more (delete u ms from to generation entry) h = get_front names more u h
name_stays names more (ask u asked pin generation floor) h = get_front names more u h
name_stays names more (full u outstanding) h = get_front names more u h
name_stays names more (no_tenant name) h = refl
name_stays names more (cancel query) h = refl
name_stays names more (answer query code cached evaluated) h = refl

-- more names leave a history
pub history_stays : (names more : List (List ℕ)) (journal : List Entry) → Each (λ e. IsNumbered (length names) e.what) journal
    → history (names ++ more) journal ≡ history names journal
history_stays names more [] h = refl
history_stays names more (e ∷ es) h =
    rw (name_stays names more e.what h.0) (ap (λ xs. named names e ∷ xs) (history_stays names more es h.1))

-- a further entry adds itself
pub history_enters : (names more : List (List ℕ)) (journal : List Entry) (e : Entry) → Each (λ x. IsNumbered (length names) x.what) journal
    → history (names ++ more) (journal ++ e ∷ []) ≡ history names journal ++ named (names ++ more) e ∷ []
history_enters names more journal e h =
    map_append (named (names ++ more)) journal (e ∷ [])
    ∙ ap (λ xs. xs ++ named (names ++ more) e ∷ []) (history_stays names more journal h)

-- ---- the tenants of a legal journal

with_more : (logs : List (List Change)) (u : ℕ) (log : List Change) → length logs ≤ length (with_log logs u log)
with_more [] u log = omega arith
with_more (l ∷ ls) zero log = omega arith
with_more (l ∷ ls) (suc u) log = let more = with_more ls u log in omega (arith, more)

with_known : (logs : List (List Change)) (u : ℕ) (log : List Change) → u ≤ length logs → u < length (with_log logs u log)
with_known [] u log h = omega (arith, h)
with_known (l ∷ ls) zero log h = omega arith
with_known (l ∷ ls) (suc u) log h = let more = with_known ls u log (omega (arith, h)) in omega (arith, more)

more_next : (m : Machine) (what : What) → length m.logs ≤ length (next m what).logs
more_next m (append u batch vs entry) = with_more m.logs u _
more_next m (delete u ms from to generation entry) = with_more m.logs u _
more_next m (ask u asked pin generation floor) = with_more m.logs u _
more_next m (full u outstanding) = omega arith
more_next m (no_tenant name) = omega arith
more_next m (cancel query) = omega arith
more_next m (answer query code cached evaluated) = omega arith

more_after : (m : Machine) (es : List Entry) → length m.logs ≤ length (machine_after m es).logs
more_after m [] = omega arith
more_after m (e ∷ es) = let one = more_next m e.what in let more = more_after (next m e.what) es in omega (arith, one, more)

numbered : (l : Limits) (names : List (List ℕ)) (m : Machine) (what : What) (n : ℕ) → Allowed l names m what → length (next m what).logs ≤ n → IsNumbered n what
numbered l names m (append u batch vs entry) n a h = let k = with_known m.logs u (log_with (log_of m.logs u) batch.rows vs) a.tenant.next in omega (arith, k, h)
numbered l names m (delete u ms from to generation entry) n a h = let k = with_known m.logs u (log_without (log_of m.logs u) ms from to) a.tenant.next in omega (arith, k, h)
numbered l names m (ask u asked pin generation floor) n a h = let k = with_known m.logs u (log_of m.logs u) a.tenant.next in omega (arith, k, h)
numbered l names m (full u outstanding) n a h = let k = a.known in omega (arith, k, h)
numbered l names m (no_tenant name) n a h = tt
numbered l names m (cancel query) n a h = tt
numbered l names m (answer query code cached evaluated) n a h = tt

numbered_from : (l : Limits) (names : List (List ℕ)) (m : Machine) (es : List Entry) (n : ℕ) → Each (IsLawful l names) (moments_from m es)
    → length (machine_after m es).logs ≤ n → Each (λ e. IsNumbered n e.what) es
numbered_from l names m [] n h k = tt
numbered_from l names m (e ∷ es) n h k = (
  numbered l names m e.what n h.0.allowed (let more = more_after (next m e.what) es in omega (arith, more, k)),
  numbered_from l names (next m e.what) es n h.1 k,
)

-- they are known behind it
pub all_numbered : (l : Limits) (names : List (List ℕ)) (journal : List Entry) (n : ℕ) → Legal l names journal
    → length (machine_after started journal).logs ≤ n → Each (λ e. IsNumbered n e.what) journal
all_numbered l names journal n h k = numbered_from l names started journal n h k
