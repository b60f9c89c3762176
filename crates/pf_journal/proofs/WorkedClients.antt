-- Worked examples of two clients that share a journal: each is woven by its own places and by what it saw, and so into all of it.
-- Wrong weaves are refused.
use Rattle.std.proofs.Common.{◌≡◌, Bool, true, false, ℕ, zero, suc, Some, List, [], ◌∷◌, slice_get, refl, sym, subst, codes, nat_eq, length, take, drop, inl, inr, arith, lit≤, lit<}
use Rattle.std.proofs.lemmas.Option.{none-some}
use Rattle.std.specs.Fmt.{digits}
use mathlib.Core.List.{IsPrefix}
use Rattle.json.proofs.Found.{Some_inj}
use Rattle.pf_base.specs.Arithmetic.{clamp}
use Rattle.pf_model.specs.Queries.{IsReading, Reading}
use Rattle.pf_journal.proofs.Examples.{differ, is_name, line, usual}
use Rattle.pf_journal.proofs.Histories.{history_named}
use Rattle.pf_journal.proofs.Owning.{within_each}
use Rattle.pf_journal.proofs.Sessions.{ask_up, asked_up, ingest_up, ingested_up, two_journal, two_rest, two_scripts}
use Rattle.pf_journal.proofs.Whole.{shared_weave}
use Rattle.pf_journal.proofs.WorkedWeaves.{two_is_a_session}
use Rattle.pf_journal.specs.Clients.{Part, Share, WovenBy}
use Rattle.pf_journal.specs.Legal.{moments}
use Rattle.pf_journal.specs.Machine.{cancel}
use Rattle.pf_journal.specs.Named.{AreNamedBy, Named, history}
use Rattle.pf_journal.specs.Owned.{AreCancelsOwn, Holds, OwnsEach, own_at, own_of}
use Rattle.pf_journal.specs.Rest.{Client, Told, at_end, nothing, waiting}
use Rattle.pf_journal.specs.Scripts.{Numbered}
use Rattle.pf_journal.specs.Scripts as script
use Rattle.pf_journal.specs.Turns.{own_moments}
use Rattle.pf_journal.specs.Weave.{Weave, WovenClient}

-- ---- the two clients

-- of the five entries client 0 made the first, the third and the last, and client 1 the others; client 1 did not see the last
abbrev shared : List Named
shared = history usual.names two_journal

abbrev first : Part
first = record { own = 0 ∷ 2 ∷ 4 ∷ []; seen = shared }

abbrev second : Part
second = record { own = 1 ∷ 3 ∷ []; seen = take 4 shared }

abbrev two_parts : List Part
two_parts = first ∷ second ∷ []

abbrev first_lines : List Numbered
first_lines = ingest_up ∷ ask_up ∷ line 3 (script.answer (codes "q") 2) ∷ []

abbrev second_lines : List Numbered
second_lines =
    line 1 (script.ask (codes "q") (codes "acme") 60000 60000 60000 (codes "up{job=\"a\"}")) ∷ line 2 (script.answer (codes "q") 1) ∷ []

abbrev ran_to_end : List Told → Client
ran_to_end told = record { told = told; why = at_end }

-- what is at own places is what the client entered
first_own : own_of first.own first.seen ≡ own_moments 0 (moments two_journal)
first_own = refl

second_own : own_of second.own second.seen ≡ own_moments 1 (moments two_journal)
second_own = refl

-- each is woven by what it saw
first_woven : WovenBy usual 0 first.own first.seen first_lines (ran_to_end (nothing ∷ nothing ∷ nothing ∷ []))
first_woven names cancels = two_is_a_session.1.0.0

second_woven : WovenBy usual 1 second.own second.seen second_lines (ran_to_end (nothing ∷ nothing ∷ []))
unfolding clamp digits
second_woven names cancels = record {
  woven = record {
    few = lit≤ tt;
    rising = (lit< tt, (lit< tt, tt));
    lined = (inl refl, (inr (inl refl), tt));
    each = (record { matched = ((refl, refl), refl); roomy = lit≤ tt }, (record { matched = (refl, refl); roomy = lit≤ tt }, tt));
  };
  runs = (refl, refl);
}

-- ---- they share the history

all_shared : OwnsEach 5 (0 ∷ 2 ∷ 4 ∷ 1 ∷ 3 ∷ [])
all_shared zero h = refl
all_shared (suc zero) h = refl
all_shared (suc (suc zero)) h = refl
all_shared (suc (suc (suc zero))) h = refl
all_shared (suc (suc (suc (suc zero)))) h = refl
all_shared (suc (suc (suc (suc (suc n))))) h = absurd (omega (arith, h))

first_holds : Holds 0 first.own first.seen
first_holds = record { within = within_each 5 first.own (lit< tt, (lit< tt, (lit< tt, tt))); mine = (refl, (refl, (refl, tt))); home = ((λ q e. cc), ((λ q e. cc), ((λ q e. cc), tt))) }

second_holds : Holds 1 second.own second.seen
second_holds = record { within = within_each 4 second.own (lit< tt, (lit< tt, tt)); mine = (refl, (refl, tt)); home = ((λ q e. cc), ((λ q e. cc), tt)) }

-- what holds of the first and of the second holds of each
each_part : (P : ℕ → Part → Type 0) → P 0 first → P 1 second → (client : ℕ) (p : Part) → slice_get two_parts client ≡ Some p → P client p
each_part P a b zero p h = subst (P 0) (Some_inj _ _ h) a
each_part P a b (suc zero) p h = subst (P 1) (Some_inj _ _ h) b
each_part P a b (suc (suc n)) p h = absurd (none-some _ h)

two_share : Share (λ p. p.own) (λ p. p.seen) two_parts shared
two_share = record {
  all = all_shared;
  fronts = each_part (λ client p. IsPrefix p.seen shared) ([], refl) (drop 4 shared, refl);
  holds = each_part (λ client p. Holds client p.own p.seen) first_holds second_holds;
}

-- so both are woven into the journal, where queries are read as they are said to be
two_are_woven : ((text : List ℕ) (r : Reading) → usual.readings text ≡ Some r → IsReading [] text r) → Weave usual two_journal two_scripts two_rest
two_are_woven read =
    shared_weave usual two_parts shared two_scripts two_rest two_share (history_named usual.names two_journal) refl refl
    (λ client p lines c is_p is_lines is_c.
    each_part (λ n q. slice_get two_scripts n ≡ Some lines → slice_get two_rest.clients n ≡ Some c → WovenBy usual n q.own q.seen lines c)
    (λ a b. subst (λ ls. WovenBy usual 0 first.own first.seen ls c) (Some_inj _ _ a)
    (subst (WovenBy usual 0 first.own first.seen first_lines) (Some_inj _ _ b) first_woven))
    (λ a b. subst (λ ls. WovenBy usual 1 second.own second.seen ls c) (Some_inj _ _ a)
    (subst (WovenBy usual 1 second.own second.seen second_lines) (Some_inj _ _ b) second_woven))
    client p is_p is_lines is_c)
    refl read two_is_a_session.1.1

-- ---- wrong weaves

-- the other's ask is taken for an own entry: two own entries of one line
with_another's : WovenClient usual two_journal 1 (own_at (1 ∷ 2 ∷ 3 ∷ []) (moments two_journal)) second_lines (ran_to_end (nothing ∷ nothing ∷ [])) → ⊥
with_another's h = let same = h.woven.rising.1.1.0 in omega (arith, same)

-- an own answer is left out
without_its_answer : WovenClient usual two_journal 1 (own_at (1 ∷ []) (moments two_journal)) second_lines (ran_to_end (nothing ∷ nothing ∷ [])) → ⊥
without_its_answer h = h.woven.each.1.0.matched

-- an answer that is in the journal waits
waits_though_answered : WovenClient usual two_journal 1 (own_at (1 ∷ 3 ∷ []) (moments two_journal)) second_lines (ran_to_end (nothing ∷ waiting 1 ∷ [])) → ⊥
waits_though_answered h = differ is_nothing _ _ refl refl (sym h.woven.each.1.0.matched.1) where
  is_nothing : Told → Bool
  is_nothing nothing = true
  is_nothing _ = false

-- a job in another client's hands makes an answer wait
waits_for_anothers : WovenClient usual two_journal 1 (own_at (1 ∷ []) (moments two_journal)) second_lines (ran_to_end (nothing ∷ waiting 1 ∷ [])) → ⊥
waits_for_anothers h = differ (nat_eq 1) _ _ refl refl h.woven.each.1.0.matched.counted

-- a client stops before its script's end, and says that it ran to it
stops_early : WovenClient usual two_journal 1 (own_at (1 ∷ []) (moments two_journal)) second_lines (ran_to_end (nothing ∷ [])) → ⊥
stops_early h = differ (λ xs. nat_eq (length xs) 0) _ _ refl refl (sym h.runs.1)

-- ---- another's cancel

-- client 1 cancels a query of client 0
abbrev cut : List Named
cut = history usual.names (ingested_up ∷ asked_up ∷ record { client = 1; line = 1; what = cancel 1 } ∷ [])

cancelled_by_another : AreCancelsOwn (0 ∷ 1 ∷ []) cut → ⊥
cancelled_by_another h = differ (λ b. b) _ _ refl refl (sym (h 2 1 _ refl refl refl))

cancels_anothers : Holds 1 (2 ∷ []) cut → ⊥
cancels_anothers h = differ (λ b. b) _ _ refl refl (sym (h.home.0 1 refl))

-- ---- names

named_otherwise : AreNamedBy (codes "beta" ∷ []) shared → ⊥
named_otherwise h = differ (is_name (codes "acme")) _ _ refl refl h.0
