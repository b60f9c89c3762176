-- The replies to lines, told as this crate is told them. This project's own.
use Rattle.std.specs.Prelude.{ℕ, List, [], ◌∷◌, codes}
use Rattle.std.specs.Fmt.{decimal}
use Rattle.pf_model.specs.Exposition.{bad_line, late_line, too_many}
use Rattle.pf_model.specs.Log.{Verdict}
use Rattle.pf_journal.specs.Files as files
use Rattle.pf_journal.specs.Replies.{count_refused, count_repeated, count_taken, ingested, journal_words, memory_words, not_outstanding_words, refusal_words, refused_words, reply_line, tenants_words}
use Rattle.pf_report.specs.declared.ask.AskReply.{AskReply}
use Rattle.pf_report.specs.declared.ask.AskReply.TheVariants as asking
use Rattle.pf_report.specs.declared.cancel.CancelReply.{CancelReply}
use Rattle.pf_report.specs.declared.cancel.CancelReply.TheVariants as cancelling
use Rattle.pf_report.specs.declared.delete.DeleteReply.{DeleteReply}
use Rattle.pf_report.specs.declared.delete.DeleteReply.TheVariants as deleting
use Rattle.pf_report.specs.declared.ingest.FileFault.{FileFault}
use Rattle.pf_report.specs.declared.ingest.FileFault.TheVariants.{BadLine, TimeTooLarge, TooMany, TooLong}
use Rattle.pf_report.specs.declared.ingest.IngestReply.{IngestReply}
use Rattle.pf_report.specs.declared.ingest.IngestReply.TheVariants as ingesting

-- ---- ingest

-- why a file is refused, as the definitions say it
abbrev pub fault_of : FileFault → files.FileRefusal
fault_of (BadLine n) = files.at_line bad_line n
fault_of (TimeTooLarge n) = files.at_line late_line n
fault_of (TooMany n) = files.at_line too_many n
fault_of TooLong = files.too_long

-- the line of a batch that was taken in
abbrev pub ingest_line : ℕ → List ℕ → ℕ → List Verdict → ℕ → List ℕ
ingest_line n tenant skipped vs entry =
    reply_line n (codes "ingest") tenant
    (codes "taken" ∷ decimal (count_taken vs) ∷ codes "repeated" ∷ decimal (count_repeated vs)
    ∷ codes "refused" ∷ decimal (count_refused vs) ∷ codes "skipped" ∷ decimal skipped ∷ codes "entry" ∷ decimal entry ∷ [])

abbrev pub ingest_text : ℕ → List ℕ → IngestReply → List ℕ
ingest_text n tenant (ingesting.Taken skipped verdicts) = ingested n tenant skipped verdicts.now.list verdicts.now.entry
ingest_text n tenant (ingesting.Refused fault) = reply_line n (codes "ingest") tenant (refusal_words (fault_of fault))
ingest_text n tenant ingesting.JournalFull = reply_line n (codes "ingest") tenant journal_words
ingest_text n tenant ingesting.OutOfMemory = reply_line n (codes "ingest") tenant memory_words
ingest_text n tenant ingesting.TooManyTenants = reply_line n (codes "ingest") tenant tenants_words

-- ---- delete

abbrev pub delete_words : DeleteReply → List (List ℕ)
delete_words (deleting.Deleted generation entry) = codes "generation" ∷ decimal generation ∷ codes "entry" ∷ decimal entry ∷ []
delete_words deleting.BadRange = codes "bad" ∷ codes "range" ∷ []
delete_words deleting.BadSelector = codes "bad" ∷ codes "selector" ∷ []
delete_words deleting.JournalFull = journal_words
delete_words deleting.OutOfMemory = memory_words
delete_words deleting.TooManyTenants = tenants_words

abbrev pub delete_text : ℕ → List ℕ → DeleteReply → List ℕ
delete_text n tenant reply = reply_line n (codes "delete") tenant (delete_words reply)

-- ---- ask and instant

abbrev pub ask_words : AskReply → List (List ℕ)
ask_words (asking.Asked pin place) = codes "pin" ∷ decimal pin ∷ codes "place" ∷ decimal place ∷ []
ask_words (asking.Refused code) = refused_words (decimal code)
ask_words asking.JournalFull = journal_words

abbrev pub ask_text : ℕ → List ℕ → AskReply → List ℕ
ask_text n id reply = reply_line n (codes "ask") id (ask_words reply)

-- ---- cancel

abbrev pub cancel_words : CancelReply → List (List ℕ)
cancel_words cancelling.Done = codes "done" ∷ []
cancel_words cancelling.NotOutstanding = not_outstanding_words
cancel_words (cancelling.OtherTenant owner) = codes "other" ∷ codes "tenant" ∷ owner.now ∷ []
cancel_words (cancelling.Already place) = codes "already" ∷ decimal place ∷ []

abbrev pub cancel_text : ℕ → List ℕ → CancelReply → List ℕ
cancel_text n id reply = reply_line n (codes "cancel") id (cancel_words reply)

-- ---- answer

-- the line of an answer: its code, and the steps that were cached and evaluated
abbrev pub answer_line : ℕ → List ℕ → ℕ → ℕ → ℕ → List ℕ
answer_line n id code cached evaluated =
    reply_line n (codes "answer") id
    (decimal code ∷ codes "cached" ∷ decimal cached ∷ codes "evaluated" ∷ decimal evaluated ∷ [])
