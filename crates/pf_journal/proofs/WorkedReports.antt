-- Worked examples of small journals with their whole reports, computed.
use Rattle.std.proofs.Common.{◌≡◌, pos, true, false, [], ◌∷◌, refl, Some, codes}
use Rattle.json.specs.Print.{escape_byte}
use Rattle.pf_base.specs.Arithmetic.{clamp}
use Rattle.pf_model.specs.declared.expr.Kind.TheVariants as kind
use Rattle.pf_model.specs.Exposition.{bad_line, late_line}
use Rattle.pf_model.specs.Log.{taken, repeated, differs, too_old}
use Rattle.std.specs.Fmt.{digits}
use Rattle.pf_journal.proofs.Examples.{at_line, batch, by_zero, equal, grid, known_of, limits_of, line, named, on_nothing, one_client, row, scalar_up, up_a, up_at, up_over, usual}
use Rattle.pf_journal.proofs.Sessions.{ingest_up, ingested_up, limit_journal, limit_known, limit_rest, limit_scripts, cancel_journal, cancel_known, cancel_rest, cancel_scripts, full_journal, full_known, full_rest, full_scripts, steps_journal, steps_known, steps_rest, steps_scripts, failed_journal, failed_known, failed_rest, failed_scripts, two_journal, two_known, two_rest, two_scripts, want_journal, want_known, want_rest, want_scripts}
use Rattle.pf_journal.specs.Files as files
use Rattle.pf_journal.specs.Machine.{Entry, append, delete, ask, answer}
use Rattle.pf_journal.specs.Report.{report}
use Rattle.pf_journal.specs.Rest.{nothing, refused_file}
use Rattle.pf_journal.specs.Scripts as script

empty_report : report (known_of (limits_of 100 4000000) []) [] ([] ∷ []) (one_client []) ≡ codes "client 0\njournal 0\n"
unfolding digits
empty_report = refl

-- ---- a query over three steps

first_report : report usual
    (ingested_up ∷ at_line 2 (ask 0 (up_over (grid 60000 60000 3)) 1 0 (Some 0)) ∷ at_line 3 (answer 1 200 0 3) ∷ [])
    ((ingest_up ∷ line 2 (script.ask (codes "q") (codes "acme") 60000 180500 60000 (codes "up{job=\"a\"}"))
    ∷ line 3 (script.answer (codes "q") 2) ∷ []) ∷ [])
    (one_client (nothing ∷ nothing ∷ nothing ∷ [])) ≡
    codes "client 0\n1 ingest acme taken 1 repeated 0 refused 0 skipped 0 entry 1\n2 ask q pin 1 place 1\n3 answer q 200 cached 0 evaluated 3\n{\"status\":\"success\",\"data\":{\"resultType\":\"matrix\",\"result\":[{\"metric\":{\"__name__\":\"up\",\"job\":\"a\"},\"values\":[[60,\"1\"],[120,\"1\"],[180,\"1\"]]}]}}\njournal 3\n0 client 0 line 1 append acme entry 1\n1 client 0 line 2 ask acme pin 1 generation 0 floor 0\n2 client 0 line 3 answer 1 200\n"
unfolding digits escape_byte
first_report = refl

-- ---- refused files, refused rows, and deletions

abbrev x_batch : Entry
x_batch = at_line 3 (append 0 (batch (row (named (codes "x")) 3600000 (pos 1000000) ∷ [])) (taken ∷ []) 1)

abbrev late_batch : Entry
late_batch = at_line 4 (append 0 (batch
    (row (named (codes "x")) 3600000 (pos 1000000) ∷ row (named (codes "x")) 3600000 (pos 2000000)
    ∷ row (named (codes "x")) 2999999 (pos 9000000) ∷ row (named (codes "x")) 3000000 (pos 9000000) ∷ []))
    (repeated ∷ differs (pos 1000000) ∷ too_old 3000000 ∷ taken ∷ []) 2)

report_of_files : report usual
    (x_batch ∷ late_batch ∷ at_line 7 (delete 0 (equal (codes "__name__") (codes "x") ∷ []) 3000000 3600000 1 3) ∷ [])
    ((line 1 (script.ingest (codes "acme") (codes "bad") 0) ∷ line 2 (script.ingest (codes "acme") (codes "late") 0)
    ∷ line 3 (script.ingest (codes "acme") (codes "x") 0) ∷ line 4 (script.ingest (codes "acme") (codes "y") 0)
    ∷ line 5 (script.delete (codes "acme") 5 4 (codes "x")) ∷ line 6 (script.delete (codes "acme") 0 9 (codes "x offset 1m"))
    ∷ line 7 (script.delete (codes "acme") 3000000 3600000 (codes "x")) ∷ []) ∷ [])
    (one_client (refused_file (files.at_line bad_line 2) ∷ refused_file (files.at_line late_line 1)
    ∷ nothing ∷ nothing ∷ nothing ∷ nothing ∷ nothing ∷ [])) ≡
    codes "client 0\n1 ingest acme bad line 2\n2 ingest acme time too large line 1\n3 ingest acme taken 1 repeated 0 refused 0 skipped 0 entry 1\n4 ingest acme taken 1 repeated 1 refused 2 skipped 0 entry 2\n  sample 1 differs 1\n  sample 2 too_old 3000000\n5 delete acme bad range\n6 delete acme bad selector\n7 delete acme generation 1 entry 3\njournal 3\n0 client 0 line 3 append acme entry 1\n1 client 0 line 4 append acme entry 2\n2 client 0 line 7 delete acme entry 3 generation 1\n"
unfolding digits
report_of_files = refl

-- ---- a tenant that has as many open queries as it may: one

report_of_a_limit : report limit_known limit_journal limit_scripts limit_rest ≡
    codes "client 0\n1 ask a pin 0 place 0\n2 ask b refused 429\n3 answer b 429 cached 0 evaluated 0\n{\"status\":\"error\",\"errorType\":\"too_many_requests\",\"error\":\"too many outstanding requests\"}\n4 answer a 200 cached 0 evaluated 1\n{\"status\":\"success\",\"data\":{\"resultType\":\"matrix\",\"result\":[{\"metric\":{},\"values\":[[0,\"1\"]]}]}}\n5 ask c pin 0 place 3\njournal 4\n0 client 0 line 1 ask acme pin 0 generation 0 floor none\n1 client 0 line 2 full acme outstanding 1\n2 client 0 line 4 answer 0 200\n3 client 0 line 5 ask acme pin 0 generation 0 floor none\n"
unfolding digits escape_byte
report_of_a_limit = refl

-- ---- a cancelled query

report_of_a_cancel : report cancel_known cancel_journal cancel_scripts cancel_rest ≡
    codes "client 0\n1 ingest acme taken 1 repeated 0 refused 0 skipped 0 entry 1\n2 ask q pin 1 place 1\n3 plan q cached 0 jobs 1\n4 take 0 acme query 1 job 0 leg 0 first 60000 last 60000\n5 cancel q other tenant acme\n6 cancel q done\n7 cancel q already 2\n8 done 0 gone cancelled 2\n9 keep q stopped\n10 answer q 503 cached 0 evaluated 1\n{\"status\":\"error\",\"errorType\":\"canceled\",\"error\":\"query was cancelled\"}\n11 cancel q not outstanding\njournal 4\n0 client 0 line 1 append acme entry 1\n1 client 0 line 2 ask acme pin 1 generation 0 floor 0\n2 client 0 line 6 cancel 1\n3 client 0 line 10 answer 1 503\n"
unfolding digits escape_byte
report_of_a_cancel = refl

-- ---- a journal of three entries, which an ask would fill past its end

report_of_a_full_journal : report full_known full_journal full_scripts full_rest ≡
    codes "client 0\n1 ingest acme taken 1 repeated 0 refused 0 skipped 0 entry 1\n2 ask q journal full\njournal 1\n0 client 0 line 1 append acme entry 1\n"
unfolding digits
report_of_a_full_journal = refl

-- ---- step by step

report_of_steps : report steps_known steps_journal steps_scripts steps_rest ≡
    codes "client 0\n1 ingest acme taken 1 repeated 0 refused 0 skipped 0 entry 1\n2 ask q pin 1 place 1\n3 ask r refused 400\n4 plan r refused\n5 keep r refused\n6 plan q cached 0 jobs 1\n7 plan q planned\n8 take 0 acme query 1 job 0 leg 0 first 60000 last 60000\n9 take 0 busy\n10 take 1 none\n11 done 1 empty\n12 keep q waiting 1\n13 answer q waiting 1\n14 done 0 stored\njournal 2\n0 client 0 line 1 append acme entry 1\n1 client 0 line 2 ask acme pin 1 generation 0 floor 0\n"
unfolding digits
report_of_steps = refl

-- ---- instant queries: a vector, a scalar, a scalar without a value, and a time that is too large

report_of_instants : report usual
    (ingested_up ∷ at_line 2 (ask 0 (up_at 60001) 1 0 (Some 0)) ∷ at_line 3 (answer 1 200 0 1)
    ∷ at_line 4 (ask 0 (record { query = record { tree = scalar_up; grid = grid 60001 0 1 }; kind = kind.Scalar; instant = true; text = codes "scalar({__name__=\"up\",job=\"a\"})" }) 1 0 (Some 0))
    ∷ at_line 5 (answer 3 200 0 1)
    ∷ at_line 6 (ask 0 (record { query = record { tree = by_zero; grid = grid 60000 0 1 }; kind = kind.Scalar; instant = true; text = codes "(1) / (0)" }) 1 0 (Some 0))
    ∷ at_line 7 (answer 5 200 0 1) ∷ [])
    ((ingest_up ∷ line 2 (script.instant (codes "q") (codes "acme") 60001 (codes "up{job=\"a\"}")) ∷ line 3 (script.answer (codes "q") 2)
    ∷ line 4 (script.instant (codes "r") (codes "acme") 60001 (codes "scalar(up{job=\"a\"})")) ∷ line 5 (script.answer (codes "r") 4)
    ∷ line 6 (script.instant (codes "s") (codes "acme") 60000 (codes "1 / 0")) ∷ line 7 (script.answer (codes "s") 6)
    ∷ line 8 (script.instant (codes "t") (codes "acme") 4398046511104 (codes "1 / 0")) ∷ line 9 (script.answer (codes "t") 8) ∷ []) ∷ [])
    (one_client (nothing ∷ nothing ∷ nothing ∷ nothing ∷ nothing ∷ nothing ∷ nothing ∷ nothing ∷ nothing ∷ [])) ≡
    codes "client 0\n1 ingest acme taken 1 repeated 0 refused 0 skipped 0 entry 1\n2 ask q pin 1 place 1\n3 answer q 200 cached 0 evaluated 1\n{\"status\":\"success\",\"data\":{\"resultType\":\"vector\",\"result\":[{\"metric\":{\"__name__\":\"up\",\"job\":\"a\"},\"value\":[60.001,\"1\"]}]}}\n4 ask r pin 1 place 3\n5 answer r 200 cached 0 evaluated 1\n{\"status\":\"success\",\"data\":{\"resultType\":\"scalar\",\"result\":[60.001,\"1\"]}}\n6 ask s pin 1 place 5\n7 answer s 200 cached 0 evaluated 1\n{\"status\":\"success\",\"data\":{\"resultType\":\"scalar\",\"result\":[]}}\n8 ask t refused 400\n9 answer t 400 cached 0 evaluated 0\n{\"status\":\"error\",\"errorType\":\"bad_data\",\"error\":\"time too large\"}\njournal 7\n0 client 0 line 1 append acme entry 1\n1 client 0 line 2 ask acme pin 1 generation 0 floor 0\n2 client 0 line 3 answer 1 200\n3 client 0 line 4 ask acme pin 1 generation 0 floor 0\n4 client 0 line 5 answer 3 200\n5 client 0 line 6 ask acme pin 1 generation 0 floor 0\n6 client 0 line 7 answer 5 200\n"
unfolding digits escape_byte clamp
report_of_instants = refl

-- ---- a job that failed five times, once with worker 0 and four times with the client

report_of_failed_tries : report failed_known failed_journal failed_scripts failed_rest ≡
    codes "client 0\n1 ingest acme taken 1 repeated 0 refused 0 skipped 0 entry 1\n2 ask q pin 1 place 1\n3 plan q cached 0 jobs 1\n4 take 0 acme query 1 job 0 leg 0 first 60000 last 60000\n5 done 0 again 1\n6 answer q 500 cached 0 evaluated 1\n{\"status\":\"error\",\"errorType\":\"internal\",\"error\":\"job 0 failed 5 times\"}\njournal 3\n0 client 0 line 1 append acme entry 1\n1 client 0 line 2 ask acme pin 1 generation 0 floor 0\n2 client 0 line 6 answer 1 500\nactor 0 failed 4\nactor 16 failed 1\n"
unfolding digits escape_byte
report_of_failed_tries = refl

-- ---- want of memory: of a plan, of an ask, and of an ingest, where the client stops

report_of_want : report want_known want_journal want_scripts want_rest ≡
    codes "client 0\n1 ingest acme taken 1 repeated 0 refused 0 skipped 0 entry 1\n2 ask q pin 1 place 1\n3 plan q stopped\n4 answer q 507 cached 0 evaluated 0\n{\"status\":\"error\",\"errorType\":\"out_of_memory\",\"error\":\"out of memory\"}\n5 ask r refused 507\n6 answer r 507 cached 0 evaluated 0\n{\"status\":\"error\",\"errorType\":\"out_of_memory\",\"error\":\"out of memory\"}\n7 ingest acme out of memory\njournal 3\n0 client 0 line 1 append acme entry 1\n1 client 0 line 2 ask acme pin 1 generation 0 floor 0\n2 client 0 line 4 answer 1 507\n"
unfolding digits escape_byte
report_of_want = refl

-- ---- an error of evaluation

report_of_an_error : report usual
    (at_line 1 (append 0 (batch (row (named (codes "up")) 60000 (pos 1000000) ∷ row up_a 60000 (pos 1000000) ∷ [])) (taken ∷ taken ∷ []) 1)
    ∷ at_line 2 (ask 0 (record { query = record { tree = on_nothing; grid = grid 60000 60000 1 }; kind = kind.Instant; instant = false; text = codes "({__name__=\"up\"}) / on () ({__name__=\"up\"})" }) 1 0 (Some 0))
    ∷ at_line 3 (answer 1 422 0 1) ∷ [])
    ((ingest_up ∷ line 2 (script.ask (codes "q") (codes "acme") 60000 60000 60000 (codes "up / on () up")) ∷ line 3 (script.answer (codes "q") 2) ∷ []) ∷ [])
    (one_client (nothing ∷ nothing ∷ nothing ∷ [])) ≡
    codes "client 0\n1 ingest acme taken 2 repeated 0 refused 0 skipped 0 entry 1\n2 ask q pin 1 place 1\n3 answer q 422 cached 0 evaluated 1\n{\"status\":\"error\",\"errorType\":\"execution\",\"error\":\"step 60000: two elements of the one side match\"}\njournal 3\n0 client 0 line 1 append acme entry 1\n1 client 0 line 2 ask acme pin 1 generation 0 floor 0\n2 client 0 line 3 answer 1 422\n"
unfolding digits escape_byte clamp
report_of_an_error = refl

-- ---- two clients, each with an ID of its own

report_of_two : report two_known two_journal two_scripts two_rest ≡
    codes "client 0\n1 ingest acme taken 1 repeated 0 refused 0 skipped 0 entry 1\n2 ask q pin 1 place 2\n3 answer q 200 cached 0 evaluated 1\n{\"status\":\"success\",\"data\":{\"resultType\":\"matrix\",\"result\":[{\"metric\":{\"__name__\":\"up\",\"job\":\"a\"},\"values\":[[60,\"1\"]]}]}}\nclient 1\n1 ask q pin 1 place 1\n2 answer q 200 cached 0 evaluated 1\n{\"status\":\"success\",\"data\":{\"resultType\":\"matrix\",\"result\":[{\"metric\":{\"__name__\":\"up\",\"job\":\"a\"},\"values\":[[60,\"1\"]]}]}}\njournal 5\n0 client 0 line 1 append acme entry 1\n1 client 1 line 1 ask acme pin 1 generation 0 floor 0\n2 client 0 line 2 ask acme pin 1 generation 0 floor 0\n3 client 1 line 2 answer 1 200\n4 client 0 line 3 answer 2 200\n"
unfolding digits escape_byte
report_of_two = refl
