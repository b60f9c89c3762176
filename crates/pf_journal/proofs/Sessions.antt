-- The sessions of the worked examples: what is known, the journal, the scripts, and what was told.
use Rattle.std.proofs.Common.{false, List, [], ◌∷◌, Some, None, codes}
use Rattle.pf_model.specs.declared.expr.Kind.TheVariants as kind
use Rattle.pf_model.specs.Log.{taken}
use Rattle.pf_journal.proofs.Examples.{at_line, grid, known_of, limits_of, line, one_client, up_batch, up_over, usual, vector_1}
use Rattle.pf_journal.specs.Asking.{Asked}
use Rattle.pf_journal.specs.Machine.{Entry, append, ask, full, cancel, answer}
use Rattle.pf_journal.specs.Rest.{Known, Rest, at_end, at_full, at_memory, failed_five, journal_full, no_memory, nothing, of_done, of_keep, of_plan, of_take, waiting}
use Rattle.pf_journal.specs.Scripts.{Numbered}
use Rattle.pf_journal.specs.Scripts as script
use Rattle.pf_journal.specs.Steps.{again, busy, by_cancel, empty, gone, keep_refused, keep_stopped, keep_waits, none_waits, plan_refused, plan_stopped, planned, planned_before, stored, took}

-- the lines that most of these scripts begin with
abbrev pub ingest_up : Numbered
ingest_up = line 1 (script.ingest (codes "acme") (codes "up") 0)

abbrev pub ask_up : Numbered
ask_up = line 2 (script.ask (codes "q") (codes "acme") 60000 60000 60000 (codes "up{job=\"a\"}"))

abbrev pub ingested_up : Entry
ingested_up = at_line 1 (append 0 up_batch (taken ∷ []) 1)

abbrev pub asked_up : Entry
asked_up = at_line 2 (ask 0 (up_over (grid 60000 60000 1)) 1 0 (Some 0))

abbrev pub vector_over : Asked
vector_over = record { query = record { tree = vector_1; grid = grid 0 1000 1 }; kind = kind.Instant; instant = false; text = codes "vector(1)" }

-- ---- a tenant that has as many open queries as it may: one

abbrev pub limit_known : Known
limit_known = known_of (limits_of 1 4000000) (codes "acme" ∷ [])

abbrev pub limit_journal : List Entry
limit_journal =
    at_line 1 (ask 0 vector_over 0 0 None) ∷ at_line 2 (full 0 1) ∷ at_line 4 (answer 0 200 0 1) ∷ at_line 5 (ask 0 vector_over 0 0 None) ∷ []

abbrev pub limit_scripts : List (List Numbered)
limit_scripts =
    (line 1 (script.ask (codes "a") (codes "acme") 0 0 1000 (codes "vector(1)"))
    ∷ line 2 (script.ask (codes "b") (codes "acme") 0 0 1000 (codes "vector(1)"))
    ∷ line 3 (script.answer (codes "b") 2) ∷ line 4 (script.answer (codes "a") 1)
    ∷ line 5 (script.ask (codes "c") (codes "acme") 0 0 1000 (codes "vector(1)")) ∷ []) ∷ []

abbrev pub limit_rest : Rest
limit_rest =
    one_client (nothing ∷ nothing ∷ nothing ∷ nothing ∷ nothing ∷ [])

-- ---- a cancelled query

abbrev pub cancel_known : Known
cancel_known = usual

abbrev pub cancel_journal : List Entry
cancel_journal =
    ingested_up ∷ asked_up ∷ at_line 6 (cancel 1) ∷ at_line 10 (answer 1 503 0 1) ∷ []

abbrev pub cancel_scripts : List (List Numbered)
cancel_scripts =
    (ingest_up ∷ ask_up ∷ line 3 (script.plan (codes "q") 2) ∷ line 4 (script.take 0) ∷ line 5 (script.cancel (codes "q") 2 (codes "beta"))
    ∷ line 6 (script.cancel (codes "q") 2 (codes "acme")) ∷ line 7 (script.cancel (codes "q") 2 (codes "acme")) ∷ line 8 (script.done 0)
    ∷ line 9 (script.keep (codes "q") 2) ∷ line 10 (script.answer (codes "q") 2) ∷ line 11 (script.cancel (codes "q") 2 (codes "acme")) ∷ []) ∷ []

abbrev pub cancel_rest : Rest
cancel_rest =
    one_client (nothing ∷ nothing ∷ of_plan (planned 0 1) ∷ of_take (took 1 0 0 60000 60000) ∷ nothing ∷ nothing ∷ nothing
    ∷ of_done (gone (by_cancel 2)) ∷ of_keep keep_stopped ∷ nothing ∷ nothing ∷ [])

-- ---- a journal of three entries, which an ask would fill past its end

abbrev pub full_known : Known
full_known = known_of (limits_of 100 3) (codes "acme" ∷ [])

abbrev pub full_journal : List Entry
full_journal =
    ingested_up ∷ []

abbrev pub full_scripts : List (List Numbered)
full_scripts =
    (ingest_up ∷ ask_up ∷ line 3 (script.answer (codes "q") 2) ∷ []) ∷ []

abbrev pub full_rest : Rest
full_rest =
    record { clients = record { told = nothing ∷ journal_full ∷ []; why = at_full } ∷ []; failed = [] }

-- ---- step by step

abbrev pub steps_known : Known
steps_known = usual

abbrev pub steps_journal : List Entry
steps_journal =
    ingested_up ∷ asked_up ∷ []

abbrev pub steps_scripts : List (List Numbered)
steps_scripts =
    (ingest_up ∷ ask_up ∷ line 3 (script.ask (codes "r") (codes "acme") 60000 60000 60000 (codes "sum(")) ∷ line 4 (script.plan (codes "r") 3)
    ∷ line 5 (script.keep (codes "r") 3) ∷ line 6 (script.plan (codes "q") 2) ∷ line 7 (script.plan (codes "q") 2) ∷ line 8 (script.take 0)
    ∷ line 9 (script.take 0) ∷ line 10 (script.take 1) ∷ line 11 (script.done 1) ∷ line 12 (script.keep (codes "q") 2)
    ∷ line 13 (script.answer (codes "q") 2) ∷ line 14 (script.done 0) ∷ []) ∷ []

abbrev pub steps_rest : Rest
steps_rest =
    one_client (nothing ∷ nothing ∷ nothing ∷ of_plan plan_refused ∷ of_keep keep_refused ∷ of_plan (planned 0 1) ∷ of_plan planned_before
    ∷ of_take (took 1 0 0 60000 60000) ∷ of_take busy ∷ of_take none_waits ∷ of_done empty ∷ of_keep (keep_waits 1) ∷ waiting 1
    ∷ of_done stored ∷ [])

-- ---- a job that failed five times, once with worker 0 and four times with the client

abbrev pub failed_known : Known
failed_known = usual

abbrev pub failed_journal : List Entry
failed_journal =
    ingested_up ∷ asked_up ∷ at_line 6 (answer 1 500 0 1) ∷ []

abbrev pub failed_scripts : List (List Numbered)
failed_scripts =
    (ingest_up ∷ ask_up ∷ line 3 (script.plan (codes "q") 2) ∷ line 4 (script.take 0) ∷ line 5 (script.done 0)
    ∷ line 6 (script.answer (codes "q") 2) ∷ []) ∷ []

abbrev pub failed_rest : Rest
failed_rest =
    record {
      clients = record {
        told = nothing ∷ nothing ∷ of_plan (planned 0 1) ∷ of_take (took 1 0 0 60000 60000) ∷ of_done (again 1) ∷ failed_five 0 ∷ [];
        why = at_end;
      } ∷ [];
      failed = 4 ∷ 0 ∷ 0 ∷ 0 ∷ 0 ∷ 0 ∷ 0 ∷ 0 ∷ 0 ∷ 0 ∷ 0 ∷ 0 ∷ 0 ∷ 0 ∷ 0 ∷ 0 ∷ 1 ∷ [];
    }

-- ---- two clients, each with an ID of its own

abbrev pub two_known : Known
two_known = usual

abbrev pub two_journal : List Entry
two_journal =
    ingested_up ∷ record { client = 1; line = 1; what = ask 0 (up_over (grid 60000 60000 1)) 1 0 (Some 0) } ∷ asked_up
    ∷ record { client = 1; line = 2; what = answer 1 200 0 1 } ∷ at_line 3 (answer 2 200 0 1) ∷ []

abbrev pub two_scripts : List (List Numbered)
two_scripts =
    (ingest_up ∷ ask_up ∷ line 3 (script.answer (codes "q") 2) ∷ [])
    ∷ (line 1 (script.ask (codes "q") (codes "acme") 60000 60000 60000 (codes "up{job=\"a\"}")) ∷ line 2 (script.answer (codes "q") 1) ∷ []) ∷ []

abbrev pub two_rest : Rest
two_rest =
    record {
      clients = record { told = nothing ∷ nothing ∷ nothing ∷ []; why = at_end } ∷ record { told = nothing ∷ nothing ∷ []; why = at_end } ∷ [];
      failed = [];
    }

-- ---- want of memory: of a plan, of an ask, and of an ingest, where the client stops

abbrev pub want_known : Known
want_known = usual

abbrev pub want_journal : List Entry
want_journal =
    ingested_up ∷ asked_up ∷ at_line 4 (answer 1 507 0 0) ∷ []

abbrev pub want_scripts : List (List Numbered)
want_scripts =
    (ingest_up ∷ ask_up ∷ line 3 (script.plan (codes "q") 2) ∷ line 4 (script.answer (codes "q") 2)
    ∷ line 5 (script.instant (codes "r") (codes "acme") 0 (codes "1 / 0")) ∷ line 6 (script.answer (codes "r") 5)
    ∷ line 7 (script.ingest (codes "acme") (codes "up") 0) ∷ line 8 (script.take 0) ∷ []) ∷ []

abbrev pub want_rest : Rest
want_rest =
    record { clients = record { told = nothing ∷ nothing ∷ of_plan plan_stopped ∷ nothing ∷ no_memory ∷ nothing ∷ no_memory ∷ []; why = at_memory } ∷ []; failed = [] }
