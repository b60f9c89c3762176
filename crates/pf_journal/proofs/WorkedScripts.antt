-- Worked examples of scripts, computed.
use Rattle.std.proofs.Common.{◌≡◌, ℕ, ◌+◌, Bool, List, [], ◌∷◌, refl, length, nat_le, Option, Some, None, Result, Ok, Err, codes, true, false, option_and_then}
use Rattle.std.specs.Str.{is_utf8}
use Rattle.std.proofs.lemmas.Str.{is_utf8-from_IsUtf8}
use Rattle.json.proofs.Printed.Utf8.{IsUtf8-are_ascii, are_ascii}
use Rattle.pf_journal.specs.Scripts as script
use Rattle.pf_journal.specs.Scripts.{Issued, Line, Numbered, answer_of, ask_of, behind_word, cancel_of, delete_of, done_of, file_at, ingest_at, ingest_of, instant_of, is_passed, issued_after, keep_of, line_of, line_with, lines_from, most_bytes, next_word, number_of, plan_of, script_of, take_of, trimmed_text, unanswered_of, with_line, worker_of}

abbrev line : ℕ → Line → Numbered
line n l = record { number = n; line = l }

-- ---- steps of reading

is_text : (bytes : List ℕ) → are_ascii bytes ≡ true → is_utf8 bytes ≡ true
is_text bytes h = is_utf8-from_IsUtf8 _ (IsUtf8-are_ascii _ h)

abbrev worded : Bool → List Issued → List ℕ → Option Line
worded steps is l = option_and_then (λ verb. line_with steps is verb.front verb.behind) (next_word l)

-- a line that is passed over, and one that is read
passed : (steps : Bool) (n : ℕ) (is : List Issued) (l : List ℕ) (ls : List (List ℕ)) (r : Result (List Numbered) ℕ)
    → is_passed l ≡ true → lines_from steps (n + 1) is ls ≡ r → lines_from steps n is (l ∷ ls) ≡ r
unfolding lines_from
passed steps n is l ls r h k = rw h k

read : (steps : Bool) (n : ℕ) (is : List Issued) (l : List ℕ) (ls : List (List ℕ)) (x : Line) (r : Result (List Numbered) ℕ)
    → is_passed l ≡ false → are_ascii l ≡ true → worded steps is l ≡ Some x → lines_from steps (n + 1) (issued_after n x is) ls ≡ r
    → lines_from steps n is (l ∷ ls) ≡ with_line (line n x) r
unfolding lines_from line_of
read steps n is l ls x r h a w k = rw h (rw (is_text l a) (rw w (rw k refl)))

refused : (steps : Bool) (n : ℕ) (is : List Issued) (l : List ℕ) (ls : List (List ℕ))
    → is_passed l ≡ false → are_ascii l ≡ true → worded steps is l ≡ None → lines_from steps n is (l ∷ ls) ≡ Err n
unfolding lines_from line_of
refused steps n is l ls h a w = rw h (rw (is_text l a) (rw w refl))

ended : (steps : Bool) (n : ℕ) (is : List Issued) → lines_from steps n is [] ≡ Ok []
unfolding lines_from
ended steps n is = refl

-- a comment
comment : is_passed (codes "# all forms") ≡ true
comment = rw (is_text (codes "# all forms") refl) refl

-- files
up_from_zero : ingest_of (codes "acme up.prom") ≡ Some (script.ingest (codes "acme") (codes "up.prom") 0)
unfolding ingest_of
up_from_zero = rw (is_text (codes "up.prom") refl) refl

up_at_time : ingest_of (codes "acme up.prom \t at 60000") ≡ Some (script.ingest (codes "acme") (codes "up.prom") 60000)
unfolding ingest_of ingest_at file_at behind_word number_of
up_at_time = rw (is_text (codes "up.prom") refl) refl

late_time : ingest_of (codes "acme up.prom at 4398046511104") ≡ None
unfolding ingest_of ingest_at file_at behind_word number_of
late_time = rw (is_text (codes "up.prom") refl) refl

-- ---- all forms

abbrev whole_text : List ℕ
whole_text =
    codes "# all forms\ningest acme up.prom\ningest acme up.prom \t at 60000\n\ndelete beta 0 007 {a=\"b\"} \nask q acme 1 2 3  up \ninstant r acme 9 1 + 1\r\nplan q\ntake 0\ncancel q acme\ndone 0\nkeep q\nanswer q\ncancel q beta\nanswer r"

abbrev whole_lines : List Numbered
whole_lines =
    line 2 (script.ingest (codes "acme") (codes "up.prom") 0)
    ∷ line 3 (script.ingest (codes "acme") (codes "up.prom") 60000)
    ∷ line 5 (script.delete (codes "beta") 0 7 (codes "{a=\"b\"}"))
    ∷ line 6 (script.ask (codes "q") (codes "acme") 1 2 3 (codes "up"))
    ∷ line 7 (script.instant (codes "r") (codes "acme") 9 (codes "1 + 1"))
    ∷ line 8 (script.plan (codes "q") 6)
    ∷ line 9 (script.take 0)
    ∷ line 10 (script.cancel (codes "q") 6 (codes "acme"))
    ∷ line 11 (script.done 0)
    ∷ line 12 (script.keep (codes "q") 6)
    ∷ line 13 (script.answer (codes "q") 6)
    ∷ line 14 (script.cancel (codes "q") 6 (codes "beta"))
    ∷ line 15 (script.answer (codes "r") 7) ∷ []

whole_script_is_read : script_of true whole_text ≡ Ok whole_lines
unfolding script_of delete_of ask_of instant_of cancel_of unanswered_of answer_of plan_of keep_of worker_of take_of done_of number_of trimmed_text
whole_script_is_read = passed _ _ _ _ _ _ comment (read _ _ _ _ _ _ _ refl refl up_from_zero (read _ _ _ _ _ _ _ refl refl up_at_time (passed _ _ _ _ _ _ refl (read _ _ _ _ _ _ _ refl refl refl (read _ _ _ _ _ _ _ refl refl refl (read _ _ _ _ _ _ _ refl refl refl (read _ _ _ _ _ _ _ refl refl refl (read _ _ _ _ _ _ _ refl refl refl (read _ _ _ _ _ _ _ refl refl refl (read _ _ _ _ _ _ _ refl refl refl (read _ _ _ _ _ _ _ refl refl refl (read _ _ _ _ _ _ _ refl refl refl (read _ _ _ _ _ _ _ refl refl refl (read _ _ _ _ _ _ _ refl refl refl (ended _ _ _)))))))))))))))

-- step lines where they are not allowed
steps_are_refused : script_of false whole_text ≡ Err 8
unfolding script_of delete_of ask_of instant_of cancel_of unanswered_of answer_of plan_of keep_of worker_of take_of done_of number_of trimmed_text
steps_are_refused = passed _ _ _ _ _ _ comment (read _ _ _ _ _ _ _ refl refl up_from_zero (read _ _ _ _ _ _ _ refl refl up_at_time (passed _ _ _ _ _ _ refl (read _ _ _ _ _ _ _ refl refl refl (read _ _ _ _ _ _ _ refl refl refl (read _ _ _ _ _ _ _ refl refl refl (refused _ _ _ _ _ refl refl refl)))))))

empty_script_is_read : script_of false [] ≡ Ok []
unfolding script_of
empty_script_is_read = ended _ _ _

-- a script that is too long has no such line
long_script_is_refused : (steps : Bool) (bytes : List ℕ) → nat_le (length bytes) most_bytes ≡ false → script_of steps bytes ≡ Err 0
unfolding script_of
long_script_is_refused steps bytes h = rw h refl

-- ---- the first refused line

-- an ID that was not asked
unknown_id : script_of true (codes "ask q acme 1 2 3 up\nanswer r") ≡ Err 2
unfolding script_of delete_of ask_of instant_of cancel_of unanswered_of answer_of plan_of keep_of worker_of take_of done_of number_of trimmed_text
unknown_id = read _ _ _ _ _ _ _ refl refl refl (refused _ _ _ _ _ refl refl refl)

-- and of a cancel
unknown_of_cancel : script_of true (codes "cancel q acme") ≡ Err 1
unfolding script_of delete_of ask_of instant_of cancel_of unanswered_of answer_of plan_of keep_of worker_of take_of done_of number_of trimmed_text
unknown_of_cancel = refused _ _ _ _ _ refl refl refl

-- an ID that was asked before
used_id : script_of true (codes "ask q acme 1 2 3 up\ninstant q acme 1 up") ≡ Err 2
unfolding script_of delete_of ask_of instant_of cancel_of unanswered_of answer_of plan_of keep_of worker_of take_of done_of number_of trimmed_text
used_id = read _ _ _ _ _ _ _ refl refl refl (refused _ _ _ _ _ refl refl refl)

-- an ID that was answered before
answered_before : script_of true (codes "ask q acme 1 2 3 up\nanswer q\n\nanswer q") ≡ Err 4
unfolding script_of delete_of ask_of instant_of cancel_of unanswered_of answer_of plan_of keep_of worker_of take_of done_of number_of trimmed_text
answered_before = read _ _ _ _ _ _ _ refl refl refl (read _ _ _ _ _ _ _ refl refl refl (passed _ _ _ _ _ _ refl (refused _ _ _ _ _ refl refl refl)))

-- a plan behind the answer
planned_after : script_of true (codes "ask q acme 1 2 3 up\nanswer q\nplan q") ≡ Err 3
unfolding script_of delete_of ask_of instant_of cancel_of unanswered_of answer_of plan_of keep_of worker_of take_of done_of number_of trimmed_text
planned_after = read _ _ _ _ _ _ _ refl refl refl (read _ _ _ _ _ _ _ refl refl refl (refused _ _ _ _ _ refl refl refl))

-- and a keep
kept_after : script_of true (codes "ask q acme 1 2 3 up\nanswer q\nkeep q") ≡ Err 3
unfolding script_of delete_of ask_of instant_of cancel_of unanswered_of answer_of plan_of keep_of worker_of take_of done_of number_of trimmed_text
kept_after = read _ _ _ _ _ _ _ refl refl refl (read _ _ _ _ _ _ _ refl refl refl (refused _ _ _ _ _ refl refl refl))

-- a second keep
kept_twice : script_of true (codes "ask q acme 1 2 3 up\nkeep q\nkeep q") ≡ Err 3
unfolding script_of delete_of ask_of instant_of cancel_of unanswered_of answer_of plan_of keep_of worker_of take_of done_of number_of trimmed_text
kept_twice = read _ _ _ _ _ _ _ refl refl refl (read _ _ _ _ _ _ _ refl refl refl (refused _ _ _ _ _ refl refl refl))

-- a worker past 15
no_such_worker : script_of true (codes "take 15\ntake 16") ≡ Err 2
unfolding script_of delete_of ask_of instant_of cancel_of unanswered_of answer_of plan_of keep_of worker_of take_of done_of number_of trimmed_text
no_such_worker = read _ _ _ _ _ _ _ refl refl refl (refused _ _ _ _ _ refl refl refl)

-- a blank before the first word
blank_first : script_of true (codes " take 1") ≡ Err 1
unfolding script_of delete_of ask_of instant_of cancel_of unanswered_of answer_of plan_of keep_of worker_of take_of done_of number_of trimmed_text
blank_first = refused _ _ _ _ _ refl refl refl

-- a blank behind the last word
blank_last : script_of true (codes "take 1 ") ≡ Err 1
unfolding script_of delete_of ask_of instant_of cancel_of unanswered_of answer_of plan_of keep_of worker_of take_of done_of number_of trimmed_text
blank_last = refused _ _ _ _ _ refl refl refl

-- no query
no_query : script_of true (codes "instant q acme 1  ") ≡ Err 1
unfolding script_of delete_of ask_of instant_of cancel_of unanswered_of answer_of plan_of keep_of worker_of take_of done_of number_of trimmed_text
no_query = refused _ _ _ _ _ refl refl refl

-- another word
no_verb : script_of true (codes "limit acme 3") ≡ Err 1
unfolding script_of delete_of ask_of instant_of cancel_of unanswered_of answer_of plan_of keep_of worker_of take_of done_of number_of trimmed_text
no_verb = refused _ _ _ _ _ refl refl refl

-- no name of a tenant
no_tenant : script_of true (codes "ask q acme 1 2 3 up\ncancel q ..") ≡ Err 2
unfolding script_of delete_of ask_of instant_of cancel_of unanswered_of answer_of plan_of keep_of worker_of take_of done_of number_of trimmed_text
no_tenant = read _ _ _ _ _ _ _ refl refl refl (refused _ _ _ _ _ refl refl refl)

-- a time past the greatest
too_late : script_of true (codes "ingest acme up.prom at 4398046511104") ≡ Err 1
unfolding script_of delete_of ask_of instant_of cancel_of unanswered_of answer_of plan_of keep_of worker_of take_of done_of number_of trimmed_text
too_late = refused _ _ _ _ _ refl refl late_time
