-- The texts of replies are those that the definitions give of what was told and entered.
use Rattle.std.proofs.Common.{◌≡◌, ℕ, Bor, Option, Some, None, Bool, true, false, ◌||◌, List, [], ◌∷◌, codes, cond, nat_lt, refl, ap, sym, ◌∙◌}
use Rattle.std.specs.Fmt.{decimal, digits}
use Rattle.std.specs.Str.{bytes_eq}
use Rattle.pf_base.specs.Batches.{BatchData}
use Rattle.pf_base.specs.Limits.{greatest_time}
use Rattle.pf_model.specs.declared.expr.Matcher.{Matcher}
use Rattle.pf_store.specs.Verdicts.{VerdictsData}
use Rattle.pf_journal.specs.Asking.{Asked}
use Rattle.pf_journal.specs.Entered.{what_of}
use Rattle.pf_journal.specs.Legal.{Moment}
use Rattle.pf_journal.specs.Machine.{What, append, delete, ask, full, no_tenant}
use Rattle.pf_journal.specs.Replies.{ask_reply, cancel_words, delete_reply, ingest_reply, reply_line, take_words, uncancelled_words, unfound_words}
use Rattle.pf_journal.specs.Rest.{Told, nothing, refused_file, no_memory, journal_full, of_take}
use Rattle.pf_journal.specs.Turns.{Turn, asker_of, place_of}
use Rattle.pf_report.specs.Replies.{ask_text, cancel_text, delete_text, fault_of, ingest_text}
use Rattle.pf_report.specs.Steps.{take_of, take_text}
use Rattle.pf_report.specs.declared.ask.AskReply.TheVariants as asking
use Rattle.pf_report.specs.declared.cancel.CancelReply.TheVariants as cancelling
use Rattle.pf_report.specs.declared.delete.DeleteReply.TheVariants as deleting
use Rattle.pf_report.specs.declared.ingest.FileFault.{FileFault}
use Rattle.pf_report.specs.declared.ingest.IngestReply.TheVariants as ingesting
use Rattle.pf_report.specs.declared.steps.TakeReply.TheVariants as taking

-- ---- ingest

pub ingest_taken : (n : ℕ) (tenant : List ℕ) (told : Told) (u : ℕ) (batch : BatchData) (verdicts : Bor VerdictsData)
    → ingest_text n tenant (ingesting.Taken batch.skipped verdicts)
    ≡ ingest_reply n tenant told (Some (append u batch verdicts.now.list verdicts.now.entry))
ingest_taken n tenant told u batch verdicts = refl

pub ingest_refused : (n : ℕ) (tenant : List ℕ) (fault : FileFault)
    → ingest_text n tenant (ingesting.Refused fault) ≡ ingest_reply n tenant (refused_file (fault_of fault)) None
ingest_refused n tenant fault = refl

pub ingest_full : (n : ℕ) (tenant : List ℕ)
    → ingest_text n tenant ingesting.JournalFull ≡ ingest_reply n tenant journal_full None
ingest_full n tenant = refl

pub ingest_lacks : (n : ℕ) (tenant : List ℕ)
    → ingest_text n tenant ingesting.OutOfMemory ≡ ingest_reply n tenant no_memory None
ingest_lacks n tenant = refl

pub ingest_unknown : (n : ℕ) (tenant : List ℕ) (told : Told) (name : List ℕ)
    → ingest_text n tenant ingesting.TooManyTenants ≡ ingest_reply n tenant told (Some (no_tenant name))
ingest_unknown n tenant told name = refl

-- ---- delete

pub delete_entered : (n : ℕ) (tenant : List ℕ) (from to : ℕ) (told : Told) (u : ℕ) (ms : List Matcher) (from' to' generation entry : ℕ)
    → delete_text n tenant (deleting.Deleted generation entry)
    ≡ delete_reply n tenant from to told (Some (delete u ms from' to' generation entry))
delete_entered n tenant from to told u ms from' to' generation entry = refl

-- by whether the range is refused
abbrev unselected : ℕ → List ℕ → Bool → List ℕ
unselected n tenant refused =
    reply_line n (codes "delete") tenant (cond refused (codes "bad" ∷ codes "range" ∷ []) (codes "bad" ∷ codes "selector" ∷ []))

pub delete_bad_range : (n : ℕ) (tenant : List ℕ) (from to : ℕ) → (nat_lt to from || nat_lt greatest_time to) ≡ true
    → delete_text n tenant deleting.BadRange ≡ delete_reply n tenant from to nothing None
delete_bad_range n tenant from to h = ap (unselected n tenant) (sym h)

pub delete_bad_selector : (n : ℕ) (tenant : List ℕ) (from to : ℕ) → (nat_lt to from || nat_lt greatest_time to) ≡ false
    → delete_text n tenant deleting.BadSelector ≡ delete_reply n tenant from to nothing None
delete_bad_selector n tenant from to h = ap (unselected n tenant) (sym h)

pub delete_full : (n : ℕ) (tenant : List ℕ) (from to : ℕ)
    → delete_text n tenant deleting.JournalFull ≡ delete_reply n tenant from to journal_full None
delete_full n tenant from to = refl

pub delete_lacks : (n : ℕ) (tenant : List ℕ) (from to : ℕ)
    → delete_text n tenant deleting.OutOfMemory ≡ delete_reply n tenant from to no_memory None
delete_lacks n tenant from to = refl

pub delete_unknown : (n : ℕ) (tenant : List ℕ) (from to : ℕ) (told : Told) (name : List ℕ)
    → delete_text n tenant deleting.TooManyTenants ≡ delete_reply n tenant from to told (Some (no_tenant name))
delete_unknown n tenant from to told name = refl

-- ---- ask and instant

-- the reply to an ask, had its moment this entry
abbrev asked_as : ℕ → List ℕ → Told → Moment → What → List ℕ
asked_as n id told x what =
    ask_reply n id told (Some (record { before = x.before; entry = record { client = x.entry.client; line = x.entry.line; what = what } }))

pub ask_entered : (n : ℕ) (id : List ℕ) (told : Told) (x : Moment) (u : ℕ) (asked : Asked) (pin generation : ℕ) (floor : Option ℕ)
    → x.entry.what ≡ ask u asked pin generation floor
    → ask_text n id (asking.Asked pin (place_of x)) ≡ ask_reply n id told (Some x)
ask_entered n id told x u asked pin generation floor e = ap (asked_as n id told x) (sym e)

pub ask_filled : (n : ℕ) (id : List ℕ) (told : Told) (x : Moment) (u outstanding : ℕ) → x.entry.what ≡ full u outstanding
    → ask_text n id (asking.Refused 429) ≡ ask_reply n id told (Some x)
unfolding digits
ask_filled n id told x u outstanding e = ap (asked_as n id told x) (sym e)

pub ask_unknown : (n : ℕ) (id : List ℕ) (told : Told) (x : Moment) (name : List ℕ) → x.entry.what ≡ no_tenant name
    → ask_text n id (asking.Refused 503) ≡ ask_reply n id told (Some x)
unfolding digits
ask_unknown n id told x name e = ap (asked_as n id told x) (sym e)

pub ask_refused : (n : ℕ) (id : List ℕ) → ask_text n id (asking.Refused 400) ≡ ask_reply n id nothing None
unfolding digits
ask_refused n id = refl

pub ask_lacks : (n : ℕ) (id : List ℕ) → ask_text n id (asking.Refused 507) ≡ ask_reply n id no_memory None
unfolding digits
ask_lacks n id = refl

pub ask_full : (n : ℕ) (id : List ℕ) → ask_text n id asking.JournalFull ≡ ask_reply n id journal_full None
ask_full n id = refl

-- ---- cancel

-- the reply to a cancel that is not entered
abbrev pub uncancelled : ℕ → (id tenant : List ℕ) → Turn → List ℕ
uncancelled n id tenant t = reply_line n (codes "cancel") id (cancel_words tenant t None)

-- the same, by what the turn has of the query
abbrev unfound : ℕ → (id tenant owner : List ℕ) → Option What → (answered cancelled : Option Moment) → List ℕ
unfound n id tenant owner asked answered cancelled =
    reply_line n (codes "cancel") id (unfound_words tenant owner asked answered cancelled)

pub cancel_entered : (n : ℕ) (id tenant : List ℕ) (t : Turn) (x : Moment)
    → cancel_text n id cancelling.Done ≡ reply_line n (codes "cancel") id (cancel_words tenant t (Some x))
cancel_entered n id tenant t x = refl

pub cancel_unasked : (n : ℕ) (id tenant : List ℕ) (t : Turn) → what_of t.asked ≡ None
    → cancel_text n id cancelling.NotOutstanding ≡ uncancelled n id tenant t
cancel_unasked n id tenant t e = ap (λ w. unfound n id tenant (asker_of t.asking) w t.answered t.cancelled) (sym e)

pub cancel_filled : (n : ℕ) (id tenant : List ℕ) (t : Turn) (u outstanding : ℕ) → what_of t.asked ≡ Some (full u outstanding)
    → cancel_text n id cancelling.NotOutstanding ≡ uncancelled n id tenant t
cancel_filled n id tenant t u outstanding e = ap (λ w. unfound n id tenant (asker_of t.asking) w t.answered t.cancelled) (sym e)

pub cancel_unknown : (n : ℕ) (id tenant : List ℕ) (t : Turn) (name : List ℕ) → what_of t.asked ≡ Some (no_tenant name)
    → cancel_text n id cancelling.NotOutstanding ≡ uncancelled n id tenant t
cancel_unknown n id tenant t name e = ap (λ w. unfound n id tenant (asker_of t.asking) w t.answered t.cancelled) (sym e)

pub cancel_answered : (n : ℕ) (id tenant : List ℕ) (t : Turn) (u : ℕ) (asked : Asked) (pin generation : ℕ) (floor : Option ℕ) (x : Moment)
    → what_of t.asked ≡ Some (ask u asked pin generation floor) → t.answered ≡ Some x
    → cancel_text n id cancelling.NotOutstanding ≡ uncancelled n id tenant t
cancel_answered n id tenant t u asked pin generation floor x e a =
    ap (λ m. unfound n id tenant (asker_of t.asking) (Some (ask u asked pin generation floor)) m t.cancelled) (sym a)
    ∙ ap (λ w. unfound n id tenant (asker_of t.asking) w t.answered t.cancelled) (sym e)

-- of an open query
unfound_open : (n : ℕ) (id tenant : List ℕ) (t : Turn) (u : ℕ) (asked : Asked) (pin generation : ℕ) (floor : Option ℕ)
    → what_of t.asked ≡ Some (ask u asked pin generation floor) → t.answered ≡ None
    → reply_line n (codes "cancel") id (uncancelled_words tenant (asker_of t.asking) t.cancelled) ≡ uncancelled n id tenant t
unfound_open n id tenant t u asked pin generation floor e a =
    ap (λ m. unfound n id tenant (asker_of t.asking) (Some (ask u asked pin generation floor)) m t.cancelled) (sym a)
    ∙ ap (λ w. unfound n id tenant (asker_of t.asking) w t.answered t.cancelled) (sym e)

-- whether the tenants are the same
abbrev by_owner : (owner : List ℕ) → Moment → Bool → List (List ℕ)
by_owner owner x same = cond same (codes "already" ∷ decimal (place_of x) ∷ []) (codes "other" ∷ codes "tenant" ∷ owner ∷ [])

other_words : (tenant owner : List ℕ) (cancelled : Option Moment) → bytes_eq tenant owner ≡ false
    → codes "other" ∷ codes "tenant" ∷ owner ∷ [] ≡ uncancelled_words tenant owner cancelled
other_words tenant owner None h = refl
other_words tenant owner (Some x) h = ap (by_owner owner x) (sym h)

pub cancel_other : (n : ℕ) (id tenant : List ℕ) (owner : Bor (List ℕ)) (t : Turn) (u : ℕ) (asked : Asked) (pin generation : ℕ) (floor : Option ℕ)
    → what_of t.asked ≡ Some (ask u asked pin generation floor) → t.answered ≡ None → owner.now ≡ asker_of t.asking
    → bytes_eq tenant (asker_of t.asking) ≡ false
    → cancel_text n id (cancelling.OtherTenant owner) ≡ uncancelled n id tenant t
cancel_other n id tenant owner t u asked pin generation floor e a o h =
    ap (λ name. reply_line n (codes "cancel") id (codes "other" ∷ codes "tenant" ∷ name ∷ [])) o
    ∙ ap (λ ws. reply_line n (codes "cancel") id ws) (other_words tenant (asker_of t.asking) t.cancelled h)
    ∙ unfound_open n id tenant t u asked pin generation floor e a

pub cancel_again : (n : ℕ) (id tenant : List ℕ) (t : Turn) (u : ℕ) (asked : Asked) (pin generation : ℕ) (floor : Option ℕ) (x : Moment)
    → what_of t.asked ≡ Some (ask u asked pin generation floor) → t.answered ≡ None → t.cancelled ≡ Some x
    → bytes_eq tenant (asker_of t.asking) ≡ true
    → cancel_text n id (cancelling.Already (place_of x)) ≡ uncancelled n id tenant t
cancel_again n id tenant t u asked pin generation floor x e a k h =
    ap (λ b. reply_line n (codes "cancel") id (by_owner (asker_of t.asking) x b)) (sym h)
    ∙ ap (λ m. reply_line n (codes "cancel") id (uncancelled_words tenant (asker_of t.asking) m)) (sym k)
    ∙ unfound_open n id tenant t u asked pin generation floor e a

-- ---- take

pub take_job : (n worker : ℕ) (t : Turn) (tenant : Bor (List ℕ)) (query job leg first last : ℕ) → asker_of t.asking ≡ tenant.now
    → take_text n worker (taking.Took tenant query job leg first last)
    ≡ reply_line n (codes "take") (decimal worker) (take_words t (of_take (take_of (taking.Took tenant query job leg first last))))
take_job n worker t tenant query job leg first last h =
    ap (λ name. reply_line n (codes "take") (decimal worker)
    (name ∷ codes "query" ∷ decimal query ∷ codes "job" ∷ decimal job ∷ codes "leg" ∷ decimal leg
    ∷ codes "first" ∷ decimal first ∷ codes "last" ∷ decimal last ∷ [])) (sym h)

pub take_none : (n worker : ℕ) (t : Turn)
    → take_text n worker taking.NoneWaits
    ≡ reply_line n (codes "take") (decimal worker) (take_words t (of_take (take_of taking.NoneWaits)))
take_none n worker t = refl

pub take_busy : (n worker : ℕ) (t : Turn)
    → take_text n worker taking.Busy ≡ reply_line n (codes "take") (decimal worker) (take_words t (of_take (take_of taking.Busy)))
take_busy n worker t = refl
