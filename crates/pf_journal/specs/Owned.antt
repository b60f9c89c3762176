-- One client's share of a journal that several write: the places that are its own, and the moments there. This project's own.
use Rattle.std.specs.Prelude.{◌≡◌, ℕ, ◌<◌, Bool, true, false, Some, List, [], ◌∷◌, cond, filter, length, nat_eq, slice_get}
use Rattle.pf_model.specs.Lists.{Each}
use Rattle.pf_journal.specs.Legal.{Moment, moments}
use Rattle.pf_journal.specs.Named.{Named, closes_of, journal_of}
use Rattle.pf_journal.specs.Turns.{is_cancel_of, place_of}

-- ---- places

-- whether a place is an own one
abbrev pub owns : (own : List ℕ) → (place : ℕ) → Bool
owns [] place = false
owns (p ∷ own) place = cond (nat_eq p place) true (owns own place)

-- own places are below n
abbrev pub OwnsWithin : (n : ℕ) → (own : List ℕ) → Type 0
OwnsWithin n own = (place : ℕ) → owns own place ≡ true → place < n

-- each place below n is an own one
abbrev pub OwnsEach : (n : ℕ) → (own : List ℕ) → Type 0
OwnsEach n own = (place : ℕ) → place < n → owns own place ≡ true

-- what closes an own query stands at an own place
abbrev pub AreClosesOwn : (own : List ℕ) → List Named → Type 0
AreClosesOwn own xs =
    (place query : ℕ) (x : Named) → slice_get xs place ≡ Some x → closes_of x ≡ Some query → owns own query ≡ true → owns own place ≡ true

-- what cancels an own query stands at an own place
abbrev pub AreCancelsOwn : (own : List ℕ) → List Named → Type 0
AreCancelsOwn own xs =
    (place query : ℕ) (x : Named) → slice_get xs place ≡ Some x → is_cancel_of query x.entry.what ≡ true → owns own query ≡ true
    → owns own place ≡ true

-- ---- moments

-- the moments at own places, in the order of the journal
abbrev pub own_at : (own : List ℕ) → List Moment → List Moment
own_at own xs = filter (λ x. owns own (place_of x)) xs

-- those of a history
abbrev pub own_of : (own : List ℕ) → List Named → List Moment
own_of own xs = own_at own (moments (journal_of xs))

-- a moment is of no cancel, or of an own query's
abbrev pub CancelsOwn : (own : List ℕ) → Moment → Type 0
CancelsOwn own x = (query : ℕ) → is_cancel_of query x.entry.what ≡ true → owns own query ≡ true

-- ---- clients

-- what holds of a client's places in a history that it saw, whatever others enter: its own entries are there and bear its
-- number, and its cancels are of its own queries
pub record Holds (client : ℕ) (own : List ℕ) (seen : List Named) : Type 0 where
  pub within : OwnsWithin (length seen) own
  pub mine : Each (λ x. x.entry.client ≡ client) (own_of own seen)
  pub home : Each (CancelsOwn own) (own_of own seen)
