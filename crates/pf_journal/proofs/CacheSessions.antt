-- The sessions of the worked examples that the results cache, limits and deletions show: what is known, the journal, the scripts, and
-- what was told.
use Rattle.std.proofs.Common.{ℕ, pos, false, List, [], ◌∷◌, Some, None, codes, cond}
use Rattle.std.specs.Str.{bytes_eq}
use Rattle.pf_base.specs.Batches.{BatchData}
use Rattle.pf_base.specs.GridLists.{GridData}
use Rattle.pf_base.specs.declared.plain.Limits.{Limits}
use Rattle.pf_model.specs.declared.expr.At.TheVariants as at
use Rattle.pf_model.specs.declared.expr.Function.TheVariants as called
use Rattle.pf_model.specs.declared.expr.Kind.TheVariants as kind
use Rattle.pf_model.specs.declared.functions.RangeFn.TheVariants as ranged
use Rattle.pf_model.specs.Log.{taken}
use Rattle.pf_model.specs.Queries.{Readings, lawful}
use Rattle.pf_model.specs.Trees.{Tree}
use Rattle.pf_model.specs.Trees as tree
use Rattle.pf_journal.proofs.Examples.{any_up, at_line, batch, equal, files_of, grid, line, named, one_client, row, vector_1}
use Rattle.pf_journal.proofs.Sessions.{vector_over}
use Rattle.pf_journal.specs.Asking.{Asked}
use Rattle.pf_journal.specs.Machine.{Entry, append, delete, ask, full, answer}
use Rattle.pf_journal.specs.Rest.{Known, Rest, nothing, of_plan}
use Rattle.pf_journal.specs.Scripts.{Numbered}
use Rattle.pf_journal.specs.Scripts as script
use Rattle.pf_journal.specs.Steps.{planned}

-- ---- files

abbrev pub x_page : List ℕ
x_page = codes "x 3 60000\nx 5 120000\n"

abbrev pub x_batch : BatchData
x_batch = batch (row (named (codes "x")) 60000 (pos 3000000) ∷ row (named (codes "x")) 120000 (pos 5000000) ∷ [])

abbrev pub a_page : List ℕ
a_page = codes "x 5 2700000\nx 1 3600000\n"

abbrev pub a_batch : BatchData
a_batch = batch (row (named (codes "x")) 2700000 (pos 5000000) ∷ row (named (codes "x")) 3600000 (pos 1000000) ∷ [])

abbrev pub b_page : List ℕ
b_page = codes "x 7 3100000\n"

abbrev pub b_batch : BatchData
b_batch = batch (row (named (codes "x")) 3100000 (pos 7000000) ∷ [])

abbrev pub c_page : List ℕ
c_page = codes "x 2 4000000\n"

abbrev pub c_batch : BatchData
c_batch = batch (row (named (codes "x")) 4000000 (pos 2000000) ∷ [])

abbrev pub newest_page : List ℕ
newest_page = codes "x 1 3600000\n"

abbrev pub newest_batch : BatchData
newest_batch = batch (row (named (codes "x")) 3600000 (pos 1000000) ∷ [])

abbrev pub older_page : List ℕ
older_page = codes "x 2 3100000\n"

abbrev pub older_batch : BatchData
older_batch = batch (row (named (codes "x")) 3100000 (pos 2000000) ∷ [])

abbrev pub d_page : List ℕ
d_page = codes "up 1 60000\nup 1 3600000\n"

abbrev pub d_batch : BatchData
d_batch = batch (row (named (codes "up")) 60000 (pos 1000000) ∷ row (named (codes "up")) 3600000 (pos 1000000) ∷ [])

-- ---- queries

-- `x`, `x @ end()`, `x @ 120`, `x[10m]` counted, and the same with their grids
abbrev x_now : Tree
x_now = tree.instant (equal (codes "__name__") (codes "x") ∷ [])

abbrev x_last : Tree
x_last = tree.select (equal (codes "__name__") (codes "x") ∷ []) None (record { at = Some at.End; offset = pos 0 })

abbrev x_at_120 : Tree
x_at_120 = tree.select (equal (codes "__name__") (codes "x") ∷ []) None (record { at = Some (at.Time 120000); offset = pos 0 })

abbrev counted : Tree
counted =
    tree.call (called.Range ranged.CountOverTime)
    (tree.more (tree.select (equal (codes "__name__") (codes "x") ∷ []) (Some 600000) (record { at = None; offset = pos 0 })) tree.none)

abbrev over : GridData → Tree → List ℕ → Asked
over grid query text = record { query = record { tree = query; grid = grid }; kind = kind.Instant; instant = false; text = text }

abbrev pub x_end : Asked
x_end = over (grid 0 60000 3) x_at_120 (codes "{__name__=\"x\"} @ 120")

abbrev pub x_hour : Asked
x_hour = over (grid 0 300000 13) x_now (codes "{__name__=\"x\"}")

abbrev pub x_count : Asked
x_count = over (grid 0 600000 7) counted (codes "count_over_time({__name__=\"x\"}[600000ms])")

abbrev pub up_once : Asked
up_once = over (grid 60000 60000 1) any_up (codes "{__name__=\"up\"}")

abbrev reads : Readings
reads text =
    cond (bytes_eq text (codes "x")) (Some (lawful x_now))
    (cond (bytes_eq text (codes "x @ end()")) (Some (lawful x_last))
    (cond (bytes_eq text (codes "count_over_time(x[10m])")) (Some (lawful counted))
    (cond (bytes_eq text (codes "up")) (Some (lawful any_up))
    (cond (bytes_eq text (codes "vector(1)")) (Some (lawful vector_1)) None))))

-- ---- limits

abbrev limits_with : (outstanding interval extents : ℕ) → Limits
limits_with outstanding interval extents =
    record { outstanding = outstanding; window = 600000; interval = interval; shards = 4; extents = extents; journal = 4000000 }

abbrev usual_limits : Limits
usual_limits = limits_with 100 86400000 256

-- ---- a query that reads the end of its grid at each step, over two intervals

abbrev pub at_the_end_known : Known
at_the_end_known = record {
  limits = limits_with 100 120000 256;
  names = codes "acme" ∷ [];
  files = files_of ((codes "x", x_page) ∷ []);
  refused = [];
  readings = reads;
}

abbrev pub at_the_end_journal : List Entry
at_the_end_journal =
    at_line 1 (append 0 x_batch (taken ∷ taken ∷ []) 1)
    ∷ at_line 2 (ask 0 x_end 1 0 (Some 0))
    ∷ at_line 4 (answer 1 200 0 3)
    ∷ []

abbrev pub at_the_end_scripts : List (List Numbered)
at_the_end_scripts =
    (line 1 (script.ingest (codes "acme") (codes "x") 0)
    ∷ line 2 (script.ask (codes "q") (codes "acme") 0 120000 60000 (codes "x @ end()"))
    ∷ line 3 (script.plan (codes "q") 2)
    ∷ line 4 (script.answer (codes "q") 2)
    ∷ []) ∷ []

abbrev pub at_the_end_rest : Rest
at_the_end_rest = one_client (nothing ∷ nothing ∷ of_plan (planned 0 2) ∷ nothing ∷ [])

-- ---- what a later asker keeps, and an earlier one takes as far as it may: ten of twelve steps

abbrev pub later_asker_known : Known
later_asker_known = record {
  limits = usual_limits;
  names = codes "acme" ∷ [];
  files = files_of ((codes "a", a_page) ∷ (codes "b", b_page) ∷ (codes "c", c_page) ∷ []);
  refused = [];
  readings = reads;
}

abbrev pub later_asker_journal : List Entry
later_asker_journal =
    at_line 1 (append 0 a_batch (taken ∷ taken ∷ []) 1)
    ∷ at_line 2 (ask 0 x_hour 1 0 (Some 3000000))
    ∷ at_line 3 (append 0 b_batch (taken ∷ []) 2)
    ∷ at_line 4 (append 0 c_batch (taken ∷ []) 3)
    ∷ at_line 5 (ask 0 x_hour 3 0 (Some 3400000))
    ∷ at_line 6 (answer 4 200 0 13)
    ∷ at_line 8 (answer 1 200 10 3)
    ∷ []

abbrev pub later_asker_scripts : List (List Numbered)
later_asker_scripts =
    (line 1 (script.ingest (codes "acme") (codes "a") 0)
    ∷ line 2 (script.ask (codes "q1") (codes "acme") 0 3600000 300000 (codes "x"))
    ∷ line 3 (script.ingest (codes "acme") (codes "b") 0)
    ∷ line 4 (script.ingest (codes "acme") (codes "c") 0)
    ∷ line 5 (script.ask (codes "q2") (codes "acme") 0 3600000 300000 (codes "x"))
    ∷ line 6 (script.answer (codes "q2") 5)
    ∷ line 7 (script.plan (codes "q1") 2)
    ∷ line 8 (script.answer (codes "q1") 2)
    ∷ []) ∷ []

abbrev pub later_asker_rest : Rest
later_asker_rest = one_client (nothing ∷ nothing ∷ nothing ∷ nothing ∷ nothing ∷ nothing ∷ of_plan (planned 10 1) ∷ nothing ∷ [])

-- ---- a window that reaches back: five of seven steps are kept

abbrev pub counted_known : Known
counted_known = record {
  limits = usual_limits;
  names = codes "acme" ∷ [];
  files = files_of ((codes "x", newest_page) ∷ (codes "y", older_page) ∷ []);
  refused = [];
  readings = reads;
}

abbrev pub counted_journal : List Entry
counted_journal =
    at_line 1 (append 0 newest_batch (taken ∷ []) 1)
    ∷ at_line 2 (ask 0 x_count 1 0 (Some 3000000))
    ∷ at_line 3 (answer 1 200 0 7)
    ∷ at_line 4 (append 0 older_batch (taken ∷ []) 2)
    ∷ at_line 5 (ask 0 x_count 2 0 (Some 3000000))
    ∷ at_line 6 (answer 4 200 5 2)
    ∷ []

abbrev pub counted_scripts : List (List Numbered)
counted_scripts =
    (line 1 (script.ingest (codes "acme") (codes "x") 0)
    ∷ line 2 (script.ask (codes "q") (codes "acme") 0 3600000 600000 (codes "count_over_time(x[10m])"))
    ∷ line 3 (script.answer (codes "q") 2)
    ∷ line 4 (script.ingest (codes "acme") (codes "y") 0)
    ∷ line 5 (script.ask (codes "r") (codes "acme") 0 3600000 600000 (codes "count_over_time(x[10m])"))
    ∷ line 6 (script.answer (codes "r") 5)
    ∷ []) ∷ []

abbrev pub counted_rest : Rest
counted_rest = one_client (nothing ∷ nothing ∷ nothing ∷ nothing ∷ nothing ∷ nothing ∷ [])

-- ---- what is kept serves a query that was asked before a deletion, and none behind it

abbrev pub deleted_known : Known
deleted_known = record {
  limits = usual_limits;
  names = codes "acme" ∷ [];
  files = files_of ((codes "d", d_page) ∷ []);
  refused = [];
  readings = reads;
}

abbrev pub deleted_journal : List Entry
deleted_journal =
    at_line 1 (append 0 d_batch (taken ∷ taken ∷ []) 1)
    ∷ at_line 2 (ask 0 up_once 1 0 (Some 3000000))
    ∷ at_line 3 (answer 1 200 0 1)
    ∷ at_line 4 (ask 0 up_once 1 0 (Some 3000000))
    ∷ at_line 5 (delete 0 (equal (codes "__name__") (codes "up") ∷ []) 0 60000 1 2)
    ∷ at_line 6 (answer 3 200 1 0)
    ∷ at_line 7 (ask 0 up_once 2 1 (Some 3000000))
    ∷ at_line 8 (answer 6 200 0 1)
    ∷ []

abbrev pub deleted_scripts : List (List Numbered)
deleted_scripts =
    (line 1 (script.ingest (codes "acme") (codes "d") 0)
    ∷ line 2 (script.ask (codes "p") (codes "acme") 60000 60000 60000 (codes "up"))
    ∷ line 3 (script.answer (codes "p") 2)
    ∷ line 4 (script.ask (codes "q") (codes "acme") 60000 60000 60000 (codes "up"))
    ∷ line 5 (script.delete (codes "acme") 0 60000 (codes "up"))
    ∷ line 6 (script.answer (codes "q") 4)
    ∷ line 7 (script.ask (codes "r") (codes "acme") 60000 60000 60000 (codes "up"))
    ∷ line 8 (script.answer (codes "r") 7)
    ∷ []) ∷ []

abbrev pub deleted_rest : Rest
deleted_rest = one_client (nothing ∷ nothing ∷ nothing ∷ nothing ∷ nothing ∷ nothing ∷ nothing ∷ nothing ∷ [])

-- ---- a tenant that may have two open queries, and another one

abbrev pub two_open_known : Known
two_open_known = record {
  limits = limits_with 2 86400000 256;
  names = codes "acme" ∷ codes "beta" ∷ [];
  files = files_of ([]);
  refused = [];
  readings = reads;
}

abbrev pub two_open_journal : List Entry
two_open_journal =
    at_line 1 (ask 0 vector_over 0 0 None)
    ∷ at_line 2 (ask 0 vector_over 0 0 None)
    ∷ at_line 3 (full 0 2)
    ∷ at_line 4 (ask 1 vector_over 0 0 None)
    ∷ at_line 6 (answer 0 200 0 1)
    ∷ at_line 7 (ask 0 vector_over 0 0 None)
    ∷ at_line 8 (answer 5 200 1 0)
    ∷ []

abbrev pub two_open_scripts : List (List Numbered)
two_open_scripts =
    (line 1 (script.ask (codes "a1") (codes "acme") 0 0 1000 (codes "vector(1)"))
    ∷ line 2 (script.ask (codes "a2") (codes "acme") 0 0 1000 (codes "vector(1)"))
    ∷ line 3 (script.ask (codes "a3") (codes "acme") 0 0 1000 (codes "vector(1)"))
    ∷ line 4 (script.ask (codes "b1") (codes "beta") 0 0 1000 (codes "vector(1)"))
    ∷ line 5 (script.answer (codes "a3") 3)
    ∷ line 6 (script.answer (codes "a1") 1)
    ∷ line 7 (script.ask (codes "a4") (codes "acme") 0 0 1000 (codes "vector(1)"))
    ∷ line 8 (script.answer (codes "a4") 7)
    ∷ []) ∷ []

abbrev pub two_open_rest : Rest
two_open_rest = one_client (nothing ∷ nothing ∷ nothing ∷ nothing ∷ nothing ∷ nothing ∷ nothing ∷ nothing ∷ [])

-- ---- a cache of one key, which two tenants use in turn

abbrev pub in_turn_known : Known
in_turn_known = record {
  limits = limits_with 100 86400000 1;
  names = codes "acme" ∷ codes "beta" ∷ [];
  files = files_of ((codes "x", newest_page) ∷ []);
  refused = [];
  readings = reads;
}

abbrev pub in_turn_journal : List Entry
in_turn_journal =
    at_line 1 (append 0 newest_batch (taken ∷ []) 1)
    ∷ at_line 2 (append 1 newest_batch (taken ∷ []) 1)
    ∷ at_line 3 (ask 0 x_count 1 0 (Some 3000000))
    ∷ at_line 4 (answer 2 200 0 7)
    ∷ at_line 5 (ask 1 x_count 1 0 (Some 3000000))
    ∷ at_line 6 (answer 4 200 0 7)
    ∷ at_line 7 (ask 0 x_count 1 0 (Some 3000000))
    ∷ at_line 8 (answer 6 200 0 7)
    ∷ at_line 9 (ask 1 x_count 1 0 (Some 3000000))
    ∷ at_line 10 (answer 8 200 0 7)
    ∷ []

abbrev pub in_turn_scripts : List (List Numbered)
in_turn_scripts =
    (line 1 (script.ingest (codes "acme") (codes "x") 0)
    ∷ line 2 (script.ingest (codes "beta") (codes "x") 0)
    ∷ line 3 (script.ask (codes "a") (codes "acme") 0 3600000 600000 (codes "count_over_time(x[10m])"))
    ∷ line 4 (script.answer (codes "a") 3)
    ∷ line 5 (script.ask (codes "b") (codes "beta") 0 3600000 600000 (codes "count_over_time(x[10m])"))
    ∷ line 6 (script.answer (codes "b") 5)
    ∷ line 7 (script.ask (codes "c") (codes "acme") 0 3600000 600000 (codes "count_over_time(x[10m])"))
    ∷ line 8 (script.answer (codes "c") 7)
    ∷ line 9 (script.ask (codes "d") (codes "beta") 0 3600000 600000 (codes "count_over_time(x[10m])"))
    ∷ line 10 (script.answer (codes "d") 9)
    ∷ []) ∷ []

abbrev pub in_turn_rest : Rest
in_turn_rest = one_client (nothing ∷ nothing ∷ nothing ∷ nothing ∷ nothing ∷ nothing ∷ nothing ∷ nothing ∷ nothing ∷ nothing ∷ [])
