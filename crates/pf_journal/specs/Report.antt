-- The printed report: the replies to each client's lines, the journal, and the actors' failed tries. This project's own.
use Rattle.std.specs.Prelude.{ℕ, ◌+◌, Option, Some, None, List, [], ◌∷◌, ◌++◌, codes, cond, length, nat_eq, slice_get, unwrap_or}
use Rattle.std.specs.Fmt.{decimal}
use Rattle.pf_model.specs.Lists.{joined}
use Rattle.pf_journal.specs.Legal.{Moment, moments}
use Rattle.pf_journal.specs.Machine.{What, append, delete, ask, full, no_tenant, cancel, answer, Entry}
use Rattle.pf_journal.specs.Replies.{line_text, reply_of}
use Rattle.pf_journal.specs.Rest.{Known, Client, Rest}
use Rattle.pf_journal.specs.Scripts.{Numbered}
use Rattle.pf_journal.specs.Turns.{own_moments, ran_lines, turns}

-- ---- clients

abbrev pub client_text : Known → (own : List Moment) → ℕ → List Numbered → Client → List ℕ
client_text known own client lines c =
    line_text (codes "client" ∷ decimal client ∷ []) ++ joined (reply_of known) (turns own (ran_lines lines c.told))

abbrev pub clients_from : Known → List Moment → ℕ → List (List Numbered) → List Client → List ℕ
clients_from known xs client [] cs = []
clients_from known xs client (lines ∷ scripts) [] = []
clients_from known xs client (lines ∷ scripts) (c ∷ cs) =
    client_text known (own_moments client xs) client lines c ++ clients_from known xs (client + 1) scripts cs

-- ---- the journal

-- a tenant's name
abbrev pub name_of : List (List ℕ) → ℕ → List ℕ
name_of names u = unwrap_or (slice_get names u) []

abbrev pub floor_text : Option ℕ → List ℕ
floor_text None = codes "none"
floor_text (Some floor) = decimal floor

abbrev pub what_words : List (List ℕ) → What → List (List ℕ)
what_words names (append u batch vs entry) =
    codes "append" ∷ name_of names u ∷ codes "entry" ∷ decimal entry ∷ []
what_words names (delete u ms from to generation entry) =
    codes "delete" ∷ name_of names u ∷ codes "entry" ∷ decimal entry ∷ codes "generation" ∷ decimal generation ∷ []
what_words names (ask u asked pin generation floor) =
    codes "ask" ∷ name_of names u ∷ codes "pin" ∷ decimal pin ∷ codes "generation" ∷ decimal generation
    ∷ codes "floor" ∷ floor_text floor ∷ []
what_words names (full u outstanding) = codes "full" ∷ name_of names u ∷ codes "outstanding" ∷ decimal outstanding ∷ []
what_words names (no_tenant name) = codes "tenants" ∷ codes "full" ∷ name ∷ []
what_words names (cancel query) = codes "cancel" ∷ decimal query ∷ []
what_words names (answer query code cached evaluated) = codes "answer" ∷ decimal query ∷ decimal code ∷ []

abbrev pub entry_text : List (List ℕ) → ℕ → Entry → List ℕ
entry_text names place e =
    line_text (decimal place ∷ codes "client" ∷ decimal e.client ∷ codes "line" ∷ decimal e.line ∷ what_words names e.what)

abbrev pub entries_from : List (List ℕ) → ℕ → List Entry → List ℕ
entries_from names place [] = []
entries_from names place (e ∷ es) = entry_text names place e ++ entries_from names (place + 1) es

abbrev pub journal_text : List (List ℕ) → List Entry → List ℕ
journal_text names journal = line_text (codes "journal" ∷ decimal (length journal) ∷ []) ++ entries_from names 0 journal

-- ---- actors

-- a line for each actor with failed tries; actors are counted from 0
abbrev pub actor_text : ℕ → ℕ → List ℕ
actor_text actor failed =
    cond (nat_eq failed 0) [] (line_text (codes "actor" ∷ decimal actor ∷ codes "failed" ∷ decimal failed ∷ []))

abbrev pub actors_from : ℕ → List ℕ → List ℕ
actors_from actor [] = []
actors_from actor (n ∷ ns) = actor_text actor n ++ actors_from (actor + 1) ns

-- the whole report
abbrev pub report : Known → List Entry → List (List Numbered) → Rest → List ℕ
report known journal scripts rest =
    clients_from known (moments journal) 0 scripts rest.clients
    ++ (journal_text known.names journal ++ actors_from 0 rest.failed)
