-- Worked examples of replies, entries and bodies that the small journals do not show, computed.
use Rattle.std.proofs.Common.{◌≡◌, ℕ, List, [], ◌∷◌, refl, Option, Some, None, Ok, Err, codes}
use Rattle.std.specs.Fmt.{digits}
use Rattle.json.specs.Print.{escape_byte}
use Rattle.pf_model.specs.Exposition.{too_many}
use Rattle.pf_journal.proofs.Examples.{at_line, grid, line, reads, up_over, usual}
use Rattle.pf_journal.specs.Asking.{ranged}
use Rattle.pf_journal.specs.Bodies.{journal_body}
use Rattle.pf_journal.specs.Files as files
use Rattle.pf_journal.specs.Legal.{Moment}
use Rattle.pf_journal.specs.Machine.{no_tenant, started}
use Rattle.pf_journal.specs.Replies.{reply_of}
use Rattle.pf_journal.specs.Report.{entry_text}
use Rattle.pf_journal.specs.Rest.{Told, journal_full, no_memory, nothing, of_done, of_keep, of_plan, refused_file}
use Rattle.pf_journal.specs.Scripts.{Line}
use Rattle.pf_journal.specs.Scripts as script
use Rattle.pf_journal.specs.Steps.{PlanReply, DoneReply, KeepReply, by_memory, by_tries, exhausted, gone, keep_failed, keep_lacked, kept, lacked, not_held, outdated, plan_stopped, unplanned}

-- the reply to line 9, of which something was told or which has an entry, and which names an ask of line 2
abbrev reply : Line → Told → Option Moment → (asking : Told) → (asked : Option Moment) → List ℕ
reply l told mine asking asked = reply_of usual (record {
  ran = record { line = line 9 l; told = told };
  mine = mine;
  hands = [];
  asking = Some (record { line = line 2 (script.ask (codes "q") (codes "acme") 0 0 1 (codes "sum(")); told = asking });
  asked = asked;
  cancelled = None;
  answered = None;
})

abbrev told_of : Line → Told → List ℕ
told_of l told = reply l told None nothing None

-- a tenant too many
abbrev stranger : Option Moment
stranger = Some (record { before = started; entry = at_line 9 (no_tenant (codes "beta")) })

abbrev entered : Line → List ℕ
entered l = reply l nothing stranger nothing None

-- ---- ingest and delete

abbrev ingest : Line
ingest = script.ingest (codes "beta") (codes "f") 0

too_many_samples : told_of ingest (refused_file (files.at_line too_many 2000001)) ≡ codes "9 ingest beta too many samples\n"
unfolding digits
too_many_samples = refl

file_too_long : told_of ingest (refused_file files.too_long) ≡ codes "9 ingest beta file too long\n"
unfolding digits
file_too_long = refl

ingest_too_many : entered ingest ≡ codes "9 ingest beta too many tenants\n"
unfolding digits
ingest_too_many = refl

ingest_full : told_of ingest journal_full ≡ codes "9 ingest beta journal full\n"
unfolding digits
ingest_full = refl

ingest_lacks : told_of ingest no_memory ≡ codes "9 ingest beta out of memory\n"
unfolding digits
ingest_lacks = refl

abbrev delete : Line
delete = script.delete (codes "beta") 0 1 (codes "up")

delete_too_many : entered delete ≡ codes "9 delete beta too many tenants\n"
unfolding digits
delete_too_many = refl

delete_full : told_of delete journal_full ≡ codes "9 delete beta journal full\n"
unfolding digits
delete_full = refl

delete_lacks : told_of delete no_memory ≡ codes "9 delete beta out of memory\n"
unfolding digits
delete_lacks = refl

-- ---- asks and their answers

ask_too_many : entered (script.ask (codes "r") (codes "beta") 0 0 1 (codes "up")) ≡ codes "9 ask r refused 503\n"
unfolding digits
ask_too_many = refl

instant_full : told_of (script.instant (codes "r") (codes "acme") 0 (codes "up")) journal_full ≡ codes "9 ask r journal full\n"
unfolding digits
instant_full = refl

abbrev answer : Line
answer = script.answer (codes "q") 2

answer_of_a_stranger : reply answer nothing None nothing stranger ≡
    codes "9 answer q 503 cached 0 evaluated 0\n{\"status\":\"error\",\"errorType\":\"unavailable\",\"error\":\"too many tenants\"}\n"
unfolding digits escape_byte
answer_of_a_stranger = refl

answer_of_a_refusal : reply answer nothing None nothing None ≡
    codes "9 answer q 400 cached 0 evaluated 0\n{\"status\":\"error\",\"errorType\":\"bad_data\",\"error\":\"unexpected at 4\"}\n"
unfolding digits escape_byte
answer_of_a_refusal = refl

-- an answer lacks memory where its ask did, and by itself
abbrev lacking : List ℕ
lacking = codes "9 answer q 507 cached 0 evaluated 0\n{\"status\":\"error\",\"errorType\":\"out_of_memory\",\"error\":\"out of memory\"}\n"

answer_of_a_lack : reply answer nothing None no_memory None ≡ lacking
unfolding digits escape_byte
answer_of_a_lack = refl

answer_lacks : told_of answer no_memory ≡ lacking
unfolding digits escape_byte
answer_lacks = refl

body_of_a_full_journal : journal_body ≡ codes "{\"status\":\"error\",\"errorType\":\"unavailable\",\"error\":\"journal full\"}"
unfolding escape_byte
body_of_a_full_journal = refl

-- ---- step lines

abbrev plans : PlanReply → List ℕ
plans r = told_of (script.plan (codes "q") 2) (of_plan r)

abbrev does : DoneReply → List ℕ
does r = told_of (script.done 15) (of_done r)

abbrev keeps : KeepReply → List ℕ
keeps r = told_of (script.keep (codes "q") 2) (of_keep r)

plan_is_stopped : plans plan_stopped ≡ codes "9 plan q stopped\n"
unfolding digits
plan_is_stopped = refl

done_exhausted : does (exhausted 3) ≡ codes "9 done 15 exhausted 3\n"
unfolding digits
done_exhausted = refl

done_lacked : does lacked ≡ codes "9 done 15 lacked\n"
unfolding digits
done_lacked = refl

done_after_tries : does (gone (by_tries 3)) ≡ codes "9 done 15 gone exhausted 3\n"
unfolding digits
done_after_tries = refl

done_after_want : does (gone by_memory) ≡ codes "9 done 15 gone starved\n"
unfolding digits
done_after_want = refl

done_unheld : does not_held ≡ codes "9 done 15 not held\n"
unfolding digits
done_unheld = refl

keeps_steps : keeps (kept 12) ≡ codes "9 keep q steps 12\n"
unfolding digits
keeps_steps = refl

keep_is_outdated : keeps (outdated 1) ≡ codes "9 keep q outdated 1\n"
unfolding digits
keep_is_outdated = refl

keep_lacks : keeps keep_lacked ≡ codes "9 keep q no memory\n"
unfolding digits
keep_lacks = refl

keep_of_an_error : keeps keep_failed ≡ codes "9 keep q failed\n"
unfolding digits
keep_of_an_error = refl

keep_is_unplanned : keeps unplanned ≡ codes "9 keep q unplanned\n"
unfolding digits
keep_is_unplanned = refl

-- ---- an entry

entry_of_a_stranger : entry_text (codes "acme" ∷ []) 1030 (at_line 9 (no_tenant (codes "beta"))) ≡ codes "1030 client 0 line 9 tenants full beta\n"
unfolding digits
entry_of_a_stranger = refl

-- ---- what is asked

query_is_asked : ranged reads 60000 180500 60000 (codes "up{job=\"a\"}") ≡ Some (Ok (up_over (grid 60000 60000 3)))
query_is_asked = refl

-- the grid's refusal comes before the query's
no_step_is_refused : ranged reads 0 0 0 (codes "sum(") ≡ Some (Err (codes "zero step"))
no_step_is_refused = refl

query_is_refused : ranged reads 0 0 1 (codes "sum(") ≡ Some (Err (codes "unexpected at 4"))
unfolding digits
query_is_refused = refl
