-- The report of a client that stopped, and the beginning of one.
use Rattle.std.proofs.Common.{◌≡◌, ℕ, zero, suc, ◌<◌, Bool, Option, Some, None, List, [], ◌∷◌, ◌++◌, codes, decimal, drop, length, map, slice_get, take, refl, sym, ap, ◌∙◌, subst, append-nil, append_assoc, arith, ◌+◌, ◌*◌, ◌≤◌, ◌⊎◌, inl, inr, filter, option_map, replicate, sum, rules}
use Rattle.std.specs.BTreeMap.{IsEmpty, get, get_by_text}
use Rattle.std.specs.Option.{option_and_then}
use Rattle.std.specs.Prelude.{slice_index_or}
use Rattle.std.specs.Ordering.{nat_cmp}
use Rattle.pf_base.specs.declared.plain.Limits.{Limits}
use Rattle.pf_core.specs.Cores.{AreCovered, CoreData, Stands, machine_of, queue_at, started_core}
use Rattle.pf_core.specs.Jobs.{QueueHeads, by_tenant, no_heads, numbered}
use Rattle.pf_core.specs.Entries.{entry_of}
use Rattle.pf_core.specs.declared.entry.Entry as code
use Rattle.pf_journal.specs.Legal.{Moment, moments}
use Rattle.pf_journal.specs.Machine.{Entry, open_at}
use Rattle.pf_journal.specs.Replies.{line_text}
use Rattle.pf_journal.specs.Report.{actors_from, client_text, entries_from, journal_text, report}
use Rattle.pf_journal.specs.Rest.{Client as ToldClient, Known, Rest, Told, Why, nothing, refused_file, no_memory, journal_full, waiting, failed_five, of_plan, of_take, of_done, of_keep, at_end, at_full, at_memory}
use Rattle.pf_journal.specs.Scripts.{Numbered}
use Rattle.pf_journal.specs.Summaries.{Tally}
use Rattle.pf_journal.specs.Turns.{own_moments, ran_lines}
use Rattle.pf_journal.specs.Steps.{again, empty, exhausted, gone, lacked, not_held, stored}
use Rattle.pf_journal.specs.Weave.{AreTried, RunsTo, Weave, Woven, WovenClient, failed_answers, failed_in, failed_told}
use Rattle.pf_model.specs.Lists.{Each}
use Rattle.pf_model.specs.Queries.{IsReading, Reading, refused}
use Rattle.pf_script.specs.Lines.{lines_of}
use Rattle.pf_script.specs.declared.script.Script.{Script}
use Rattle.pf_client.proofs.Lines.{map_length}
use Rattle.pf_client.proofs.Lists.{some_is}
use Rattle.pf_client.proofs.Onward.{each_so}
use Rattle.pf_client.specs.Asks.{Slots}
use Rattle.pf_query.specs.Jobs.{hand_of}
use Rattle.pf_query.specs.declared.job.Hand.{Hand}
use Rattle.pf_query.specs.declared.job.Held.{Held as HeldJob}
use Rattle.pf_client.specs.Clients.{IsKnown}
use Rattle.pf_client.specs.Replays.{HaveStopped, Held, why_by}
use Rattle.pf_client.specs.Drives.{IsReport, left_text, why_of}
use Rattle.pf_client.specs.Files.{AreHeld}
use Rattle.pf_client.specs.Summaries.{IsSummary}
use Rattle.pf_client.specs.Tallies.{IsCounted}
use Rattle.pf_client.specs.Going.{AreCounted, HasRun, HasStopped, IsGoing, hands_last, own_of}
use Rattle.pf_client.specs.Hands.{HaveHands, HoldsJobs, held_by, is_job_of}
use Rattle.pf_client.specs.declared.client.LineRun.{LineRun}
use Rattle.pf_client.specs.Queries.{AreReadAs, IsQueryRead, IsTold, Queries, query_reading, reading_in, readings_in, AreReadBy}
use Rattle.pf_client.specs.declared.client.LineRun.TheVariants as run
use Rattle.pf_client.specs.declared.client.Client.{Client}
use Rattle.pf_client.specs.declared.loaded.Loaded.{Loaded}
use Rattle.pf_client.specs.declared.queries.QueryRead.{QueryRead}
use Rattle.pf_client.specs.declared.queries.QueryRead.TheVariants as query
use Rattle.pf_client.specs.declared.queries.TextRead.{TextRead}
use Rattle.pf_block.proofs.Walks.{map_length as length_map}

-- ---- the journal's text

pub journal_said : (names : List (List ℕ)) (entries : List code.Entry) (journal : List Entry) (out mid new : List ℕ)
    → mid ≡ out ++ line_text (codes "journal" ∷ decimal (length entries) ∷ []) → new ≡ mid ++ entries_from names 0 (map entry_of entries) → map entry_of entries ≡ journal
    → new ≡ out ++ journal_text names journal
journal_said names entries journal out mid new head body is =
    body ∙ ap (λ (bytes : List ℕ). bytes ++ entries_from names 0 (map entry_of entries)) head
    ∙ append_assoc out (line_text (codes "journal" ∷ decimal (length entries) ∷ [])) (entries_from names 0 (map entry_of entries))
    ∙ ap (λ (n : ℕ). out ++ (line_text (codes "journal" ∷ decimal n ∷ []) ++ entries_from names 0 (map entry_of entries))) (sym (length_map entry_of entries))
    ∙ ap (λ (es : List Entry). out ++ journal_text names es) is

-- ---- the beginning

ran_none : (ls : List Numbered) → ran_lines ls [] ≡ []
ran_none [] = refl
ran_none (l ∷ ls) = refl

-- no tenant has jobs
no_queues : (first n u : ℕ) → slice_index_or (numbered (λ _. no_heads) first n) u no_heads ≡ no_heads
no_queues first zero u = refl
no_queues first (suc n) zero = refl
no_queues first (suc n) (suc u) = no_queues (first + 1) n u

none_queued : (l : Limits) (u : ℕ) → queue_at (started_core l) u ≡ no_heads
unfolding by_tenant
none_queued l u = no_queues 0 1024 u

none_in_hand : (c : CoreData) (l : Limits) (u : ℕ) → c ≡ started_core l → (queue_at c u).hands ≡ []
none_in_hand c l u is = ap (λ (d : CoreData). (queue_at d u).hands) is ∙ ap (λ (q : QueueHeads). q.hands) (none_queued l u)

-- no worker has a job
none_held : (n w : ℕ) → held_by (replicate n None) w ≡ None
none_held zero w = refl
none_held (suc n) zero = refl
none_held (suc n) (suc w) = none_held n w

pub begins : (limits : Limits) (c : Client) → c.core ≡ started_core limits → IsEmpty c.slots → c.hands.items ≡ replicate 16 None
    → c.out.items ≡ [] ++ line_text (codes "client" ∷ decimal c.client ∷ []) → (loaded : Loaded) (lines : List Numbered) → IsGoing loaded limits lines 0 [] c
begins limits c is bare hands said = λ loaded lines known told kn.
    let own : own_of c.client c.core ≡ [] = ap (own_of c.client) is in
    let journal : c.core.journal ≡ [] = ap (λ (d : CoreData). d.journal) is in
    let nothing_there : (k : ℕ) → get nat_cmp c.slots k ≡ None = λ k. none_there k c.slots bare in
    let none_ran = ran_none lines in
    record {
      limited = ap (λ (d : CoreData). d.limits) is;
      told = [];
      many = refl;
      has_told = record {
        woven = subst (λ (own : List Moment). Woven known own lines (record { told = []; why = at_end })) (sym own) (record {
          few = omega arith;
          rising = tt;
          lined = tt;
          each = rw none_ran tt;
        });
        said = said ∙ sym (ap (λ (own : List Moment). client_text known own c.client lines (record { told = []; why = at_end })) own ∙ no_lines known c.client lines);
        alone = subst (Each (λ (e : Entry). e.client ≡ c.client)) (sym journal) tt;
        tried = inr (omega arith);
      };
      goes = rw none_ran tt;
      slots = record {
        right = λ k id a. absurd a;
        kept = λ k id a. absurd a;
        only = λ k s g. let n = nothing_there k in let bad : None ≡ Some s = sym n ∙ g in cc;
        apart = λ k j q g f. let n = nothing_there k in cc;
        below = λ k q g. let n = nothing_there k in cc;
      };
      kept = λ q o g. let bad : None ≡ Some o = sym (ap (λ (d : CoreData). open_at q (machine_of d).queries) is) ∙ g in cc;
      hands = subst (HaveHands c) (sym (ap (hands_last []) none_ran)) (record {
        order = [];
        in_order = record {
          found = λ w. sym (ap (option_map hand_of) (ap (λ (xs : List (Option HeldJob)). held_by xs w) hands ∙ none_held 16 w));
          workers = tt;
          apart = tt;
        };
        told_is = refl;
        in_hand = λ u q a. ap (filter (is_job_of q)) (none_in_hand c.core limits u is);
      });
    } where
      none_there : (k : ℕ) (m : Slots) → IsEmpty m → get nat_cmp m k ≡ None
      none_there k m e = search (rules, e)

      no_lines : (known : Known) (client : ℕ) (lines : List Numbered)
          → client_text known [] client lines (record { told = []; why = at_end }) ≡ line_text (codes "client" ∷ decimal client ∷ [])
      no_lines known client lines = rw (ran_none lines) (append-nil _)

pub begins_holds : (limits : Limits) (c : Client) → c.client < 16 → c.core ≡ started_core limits → c.hands.items ≡ replicate 16 None → HoldsJobs c
begins_holds limits c below is hands = record {
  many = ap length hands;
  stands = λ w h e. let bad : None ≡ Some h = sym (ap (λ (xs : List (Option HeldJob)). held_by xs w) hands ∙ none_held 16 w) ∙ e in cc;
  below = below;
  idle = λ u. subst (Each (λ (x : Hand). x.actor ≡ c.client → ⊥)) (sym (none_in_hand c.core limits u is)) tt;
}

-- ---- failed tries

-- there are no more than lines
failed_few : (told : List Told) → failed_told told ≤ length told
failed_few [] = omega arith
failed_few (t ∷ ts) = let one = failed_one t in let more = failed_few ts in omega (arith, one, more) where
  failed_one : (t : Told) → failed_in t ≤ 1
  failed_one nothing = omega arith
  failed_one (refused_file r) = omega arith
  failed_one no_memory = omega arith
  failed_one journal_full = omega arith
  failed_one (waiting jobs) = omega arith
  failed_one (failed_five job) = omega arith
  failed_one (of_plan p) = omega arith
  failed_one (of_take t) = omega arith
  failed_one (of_keep k) = omega arith
  failed_one (of_done stored) = omega arith
  failed_one (of_done (again tries)) = omega arith
  failed_one (of_done (exhausted job)) = omega arith
  failed_one (of_done lacked) = omega arith
  failed_one (of_done (gone why)) = omega arith
  failed_one (of_done not_held) = omega arith
  failed_one (of_done empty) = omega arith

all_shown : (c : CoreData) (told : List Told) (lines : List Numbered) → AreCounted c told → length told ≤ length lines → length lines ≤ 18446744073709551615 → failed_told told ≤ sum c.failed
all_shown c told lines (inr h) few short = h
all_shown c told lines (inl most) few short = let n = failed_few told in omega (arith, most, few, short, n)

five_each : (c : CoreData) → AreCovered c → (sum c.failed ≡ 18446744073709551615) ⊎ (5 * failed_answers c.journal ≤ sum c.failed)
five_each c (inl most) = inl most
five_each c (inr more) = inr (omega (arith, more))

pub tried_so_far : (c : Client) (lines : List Numbered) (told : List Told) (why : Why) → Stands c.core → AreCounted c.core told → length told ≤ length lines → length lines ≤ 18446744073709551615
    → AreTried c.core.journal (record { clients = record { told = told; why = why } ∷ []; failed = c.core.failed })
tried_so_far c lines told why stands counted few short = record {
  actors = let many = stands.actors in omega (arith, many);
  five = five_each c.core stands.covered;
  shown = let n = all_shown c.core told lines counted few short in omega (arith, n);
}

-- ---- readings

read_as : (refs : List (List ℕ)) (text : List ℕ) (q : QueryRead) (r : Reading) → IsQueryRead refs text q → query_reading q ≡ Some r → IsReading refs text r
read_as refs text (query.Lawful q) r h e = let same = some_is _ r e in subst (IsReading refs text) same h
read_as refs text (query.Refused x) r h e =
    let there = h.1.0 in
    let made : Some (refused h.0) ≡ Some r = sym (ap (option_map refused) there) ∙ e in
    subst (IsReading refs text) (some_is (refused h.0) r made) h.1.1

pub all_read : (refs : List (List ℕ)) (kept : Queries) → AreReadBy refs kept → (text : List ℕ) (r : Reading) → readings_in kept text ≡ Some r → IsReading refs text r
all_read refs kept right text r e = by (get_by_text kept text) refl e where
  by : (found : Option TextRead) → get_by_text kept text ≡ found → option_and_then reading_in found ≡ Some r → IsReading refs text r
  by None f e = cc
  by (Some q) f e = read_as refs text q.query r (right text q f).0 e

-- ---- the report

lacked_none : (why : Why) → why ≡ at_full → why ≡ at_memory → ⊥
lacked_none why full memory = cc

-- a client alone stopped for its own cause
pub stopped_as : (c : ToldClient) → HaveStopped c.why (c ∷ [])
stopped_as c = by c.why refl where
  by : (why : Why) → c.why ≡ why → HaveStopped why (c ∷ [])
  by at_end e = (e, tt)
  by at_full e = (λ h. h.0 e, (lacked_none c.why e, tt))
  by at_memory e = λ h. h.0 e

one_of : {X : Type 0} (x y : X) (n : ℕ) → slice_get (x ∷ []) n ≡ Some y → (n ≡ 0) × (x ≡ y)
one_of x y zero h = (refl, some_is x y h)
one_of x y (suc n) h = cc

-- a core is known by its own limits and names
pub itself : (c : CoreData) (held : Held) (refs : List (List ℕ)) (loaded : Loaded) → IsKnown (record { limits = c.limits; names = c.names; files = held; refused = refs; readings = readings_in loaded.queries }) c
itself c held refs loaded = record { limits = refl; more = []; names = sym (append-nil c.names) }

-- client 0, which stopped, is woven with its script into its journal
pub woven_alone : (limits : Limits) (loaded : Loaded) (lines : List Numbered) (why : Why) (sent : List ℕ) (c : Client) (held : Held)
    → c.client ≡ 0 → AreHeld held loaded.files → (right : AreReadAs loaded.queries) → length lines ≤ 18446744073709551615 → Stands c.core
    → (has : HasRun (record { limits = c.core.limits; names = c.core.names; files = held; refused = right.refs; readings = readings_in loaded.queries }) limits lines why sent c)
    → Weave (record { limits = c.core.limits; names = c.core.names; files = held; refused = right.refs; readings = readings_in loaded.queries }) c.core.journal (lines ∷ [])
    (record { clients = record { told = has.told; why = why } ∷ []; failed = c.core.failed })
woven_alone limits loaded lines why sent c held first are right short stands has =
    let known : Known = record { limits = c.core.limits; names = c.core.names; files = held; refused = right.refs; readings = readings_in loaded.queries } in
    let one : ToldClient = record { told = has.told; why = why } in
    record {
      many = refl;
      each = λ client ls d at_ls at_d.
          each_one known c lines one (subst (λ (i : ℕ). Woven known (own_of i c.core) lines one) first has.has_told.woven)
          (subst (λ (i : ℕ). RunsTo known.limits c.core.journal i why (drop (length has.told) lines) (ran_lines lines has.told)) first has.runs) client ls d at_ls at_d;
      nobody_else = each_so _ _ (λ (e : Entry) (h : e.client ≡ c.client). first_only e (h ∙ first)) c.core.journal has.has_told.alone;
      too_big = right.too_big;
      read = λ words r e. all_read right.refs loaded.queries right.right words r e;
      tried = tried_so_far c lines has.told why stands has.has_told.tried has.has_told.woven.few short;
    } where
      first_only : (e : Entry) → e.client ≡ 0 → e.client < 1
      first_only e h = omega (arith, h)

      each_one : (known : Known) (c : Client) (lines : List Numbered) (one : ToldClient) → Woven known (own_of 0 c.core) lines one
          → RunsTo known.limits c.core.journal 0 one.why (drop (length one.told) lines) (ran_lines lines one.told)
          → (client : ℕ) (ls : List Numbered) (d : ToldClient) → slice_get (lines ∷ []) client ≡ Some ls → slice_get (one ∷ []) client ≡ Some d
          → WovenClient known c.core.journal client (own_moments client (moments c.core.journal)) ls d
      each_one known c lines one woven runs zero ls d at_ls at_d =
          let same_ls : lines ≡ ls = some_is lines ls at_ls in
          let same_d : one ≡ d = some_is one d at_d in
          subst (λ (x : List Numbered). WovenClient known c.core.journal 0 (own_of 0 c.core) x d) same_ls
          (subst (WovenClient known c.core.journal 0 (own_of 0 c.core) lines) same_d (record { woven = woven; runs = runs }))
      each_one known c lines one woven runs (suc n) ls d at_ls at_d = cc

pub reported : (limits : Limits) (loaded : Loaded) (lines : List Numbered) (run : LineRun) (sent : List ℕ) (c : Client) (held : Held)
    → c.client ≡ 0 → AreHeld held loaded.files → (right : AreReadAs loaded.queries) → length lines ≤ 18446744073709551615 → Stands c.core → HasStopped loaded limits lines (why_of run) sent c
    → (AreTries : List ℕ → Type 0) → AreTries c.core.failed → IsReport limits held lines AreTries (why_of run) (sent ++ left_text c)
reported limits loaded lines run sent c held first are right short stands stopped AreTries tries =
    let known : Known = record { limits = c.core.limits; names = c.core.names; files = held; refused = right.refs; readings = readings_in loaded.queries } in
    let has = stopped known (record { held = are; readings = refl; right = right.right }) (itself c.core held right.refs loaded) in
    let rest : Rest = record { clients = record { told = has.told; why = why_of run } ∷ []; failed = c.core.failed } in
    let behind : List ℕ = journal_text c.core.names c.core.journal ++ actors_from 0 c.core.failed in
    let text_is : sent ++ left_text c ≡ report known c.core.journal (lines ∷ []) rest =
    sym (append_assoc sent c.out.items behind) ∙ ap (λ (bytes : List ℕ). bytes ++ behind) (said_first known lines has.told has.has_told.said ∙ sym (append-nil _)) in
    subst (λ (l : Limits). IsReport l held lines AreTries (why_of run) (sent ++ left_text c)) has.limited (record {
      journal = c.core.journal;
      names = c.core.names;
      refused = right.refs;
      readings = readings_in loaded.queries;
      rest = rest;
      legal = stands.legal;
      named = stands.names;
      woven = woven_alone limits loaded lines (why_of run) sent c held first are right short stands has;
      stopped = stopped_as (record { told = has.told; why = why_of run });
      tries = tries;
      whole = text_is;
    }) where
      said_first : (known : Known) (lines : List Numbered) (told : List Told)
          → sent ++ c.out.items ≡ client_text known (own_of c.client c.core) c.client lines (record { told = told; why = why_of run })
          → sent ++ c.out.items ≡ client_text known (own_of 0 c.core) 0 lines (record { told = told; why = why_of run })
      said_first known lines told said =
          subst (λ (i : ℕ). sent ++ c.out.items ≡ client_text known (own_of i c.core) i lines (record { told = told; why = why_of run })) first said

-- ---- the summary

pub summarized : (limits : Limits) (loaded : Loaded) (lines : List Numbered) (full : Bool) (t : Tally) (sent : List ℕ) (c : Client) (held : Held)
    → c.client ≡ 0 → AreHeld held loaded.files → (right : AreReadAs loaded.queries) → length lines ≤ 18446744073709551615 → Stands c.core → HasStopped loaded limits lines (why_by full) sent c
    → IsCounted loaded t c → (AreTries : List ℕ → Type 0) → AreTries c.core.failed → IsSummary limits held lines AreTries full t
summarized limits loaded lines full t sent c held first are right short stands stopped count AreTries tries =
    let known : Known = record { limits = c.core.limits; names = c.core.names; files = held; refused = right.refs; readings = readings_in loaded.queries } in
    let told : IsTold known loaded = record { held = are; readings = refl; right = right.right } in
    let has = stopped known told (itself c.core held right.refs loaded) in
    subst (λ (l : Limits). IsSummary l held lines AreTries full t) has.limited (record {
      journal = c.core.journal;
      names = c.core.names;
      refused = right.refs;
      readings = readings_in loaded.queries;
      rest = record { clients = record { told = has.told; why = why_by full } ∷ []; failed = c.core.failed };
      legal = stands.legal;
      named = stands.names;
      woven = woven_alone limits loaded lines (why_by full) sent c held first are right short stands has;
      ended = stopped_as (record { told = has.told; why = why_by full });
      tries = tries;
      whole = sym (count known told (itself c.core held right.refs loaded));
    })

pub short_script : (script : Script) → length script.lines.items ≤ 18446744073709551615 → length (lines_of script) ≤ 18446744073709551615
short_script script h = let e = map_length script.lines.items in omega (arith, e, h)

-- ---- the actors

pub take_next : (xs out : List ℕ) (n x : ℕ) → out ≡ take n xs → slice_get xs n ≡ Some x → out ++ x ∷ [] ≡ take (n + 1) xs
take_next xs out n x is there = ap (λ (ys : List ℕ). ys ++ x ∷ []) is ∙ by xs n there ∙ ap (λ (i : ℕ). take i xs) (add_one n) where
  add_one : (i : ℕ) → suc i ≡ i + 1
  add_one i = omega arith

  by : (ys : List ℕ) (i : ℕ) → slice_get ys i ≡ Some x → take i ys ++ x ∷ [] ≡ take (suc i) ys
  by [] i h = cc
  by (y ∷ ys) zero h = let e : y ≡ x = cc in ap (λ (z : ℕ). z ∷ []) (sym e)
  by (y ∷ ys) (suc i) h = ap (λ (zs : List ℕ). y ∷ zs) (by ys i h)

pub take_whole : (xs out : List ℕ) (n : ℕ) → out ≡ take n xs → length xs ≤ n → out ≡ xs
take_whole xs out n is long = is ∙ by xs n long where
  by : (ys : List ℕ) (i : ℕ) → length ys ≤ i → take i ys ≡ ys
  by [] zero h = refl
  by [] (suc i) h = refl
  by (y ∷ ys) zero h = absurd (omega (arith, h))
  by (y ∷ ys) (suc i) h = ap (λ (zs : List ℕ). y ∷ zs) (by ys i (omega (arith, h)))
