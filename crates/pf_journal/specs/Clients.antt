-- Several clients over one history: each has places of its own, saw a front of the history, and is woven into that front. This
-- project's own.
use Rattle.std.specs.Prelude.{◌≡◌, ℕ, Some, List, [], ◌∷◌, ◌++◌, length, slice_get}
use mathlib.Core.List.{IsPrefix}
use Rattle.pf_match.specs.Tables.{AreTooBig}
use Rattle.pf_model.specs.Queries.{IsReading, Reading}
use Rattle.pf_journal.specs.Named.{AreNamedBy, Named, journal_of}
use Rattle.pf_journal.specs.Owned.{AreCancelsOwn, Holds, OwnsEach, own_of}
use Rattle.pf_journal.specs.Rest.{Client, Known, Rest}
use Rattle.pf_journal.specs.Scripts.{Numbered}
use Rattle.pf_journal.specs.Weave.{AreTried, Weave, WovenClient}

-- what a client can say of its own weave, by its own places and the history that it saw: it holds by names that are those of the
-- history, and where no other client cancels its queries
abbrev pub WovenBy : Known → (client : ℕ) → (own : List ℕ) → (seen : List Named) → List Numbered → Client → Type 0
WovenBy known client own seen lines c =
    AreNamedBy known.names seen → AreCancelsOwn own seen → WovenClient known (journal_of seen) client (own_of own seen) lines c

-- the own places of several
abbrev pub all_own : {K : Type 0} → (own : K → List ℕ) → List K → List ℕ
all_own own [] = []
all_own own (k ∷ ks) = own k ++ all_own own ks

-- of clients by their numbers, of any type that has own places and a history seen
module _ {K : Type 0} (own : K → List ℕ) (seen : K → List Named) where
  -- each saw a front of a history, and each place of it is own to one
  pub record Share (ks : List K) (last : List Named) : Type 0 where
    pub all : OwnsEach (length last) (all_own own ks)
    pub fronts : (client : ℕ) (k : K) → slice_get ks client ≡ Some k → IsPrefix (seen k) last
    pub holds : (client : ℕ) (k : K) → slice_get ks client ≡ Some k → Holds client (own k) (seen k)

-- a client's own places, and the history that it saw
pub record Part : Type 0 where
  pub own : List ℕ
  pub seen : List Named

-- clients that share a history, each woven by what it saw, are woven into its journal: each into all of it, and nobody else is there
abbrev pub SharedWeave : Type 0
SharedWeave =
    (known : Known) (parts : List Part) (last : List Named) (scripts : List (List Numbered)) (rest : Rest)
    → Share (λ p. p.own) (λ p. p.seen) parts last → AreNamedBy known.names last
    → length parts ≡ length scripts → length rest.clients ≡ length scripts
    → ((client : ℕ) (p : Part) (lines : List Numbered) (c : Client) → slice_get parts client ≡ Some p → slice_get scripts client ≡ Some lines
    → slice_get rest.clients client ≡ Some c → WovenBy known client p.own p.seen lines c)
    → AreTooBig known.refused → ((text : List ℕ) (r : Reading) → known.readings text ≡ Some r → IsReading known.refused text r) → AreTried (journal_of last) rest
    → Weave known (journal_of last) scripts rest
