-- Lists of IDs that say the same of each ID read the same lines.
use Rattle.std.proofs.Common.{◌≡◌, ◌∙◌, ℕ, ◌+◌, Bool, true, false, not, ◌&&◌, cond, Option, Some, None, Result, option_map, List, [], ◌∷◌, refl, sym, ap}
use Rattle.std.specs.Prelude.{option_and_then}
use Rattle.std.specs.Option.{is_some}
use Rattle.std.specs.Str.{bytes_eq, is_utf8}
use Rattle.pf_base.specs.Tenants.{is_tenant}
use Rattle.pf_model.specs.Cuts.{only_if}
use Rattle.pf_journal.specs.Scripts.{Issued, Line, Numbered, ingest, delete, ask, instant, cancel, answer, plan, keep, take, done, answer_of, ask_of, cancel_of, instant_of, is_id, is_new, is_passed, issued_after, issued_as, issued_at, keep_of, line_of, line_with, lines_from, next_word, only_word, plan_of, read_line, step_with, unanswered_of}
use Rattle.pf_script.specs.IdLists.{Alike}
use Rattle.pf_script.specs.LineCuts.{AskWords, InstantWords, ask_with, ask_words, instant_with, instant_words}
use Rattle.pf_script.proofs.IdLists.{answered_is, as_answered, as_kept, kept_is, marked_as, marked_at}
use Rattle.pf_script.proofs.LineTexts.{ask_is, instant_is}

then_alike : {A B : Type 0} (o : Option A) (f g : A → Option B) → ((x : A) → f x ≡ g x) → option_and_then f o ≡ option_and_then g o
then_alike None f g e = refl
then_alike (Some x) f g e = e x

-- ---- what is read of a line

new_by : (t : Bool) (i : Issued) (n : Bool) (o : Option Issued) → n ≡ not (is_some o) → (not t && n) ≡ not (is_some (cond t (Some i) o))
new_by true i n o e = refl
new_by false i n o e = e

new_is : (id : List ℕ) (is : List Issued) → is_new id is ≡ not (is_some (issued_as id is))
new_is id [] = refl
new_is id (i ∷ is) = new_by (bytes_eq i.id id) i (is_new id is) (issued_as id is) (new_is id is)

new_alike : (is js : List Issued) → Alike is js → (id : List ℕ) → is_new id is ≡ is_new id js
new_alike is js a id = new_is id is ∙ ap (λ o. not (is_some o)) (a id) ∙ sym (new_is id js)

ask_with_alike : (is js : List Issued) → Alike is js → (w : AskWords) → ask_with is w ≡ ask_with js w
ask_with_alike is js a w =
    ap (λ b. only_if (is_id w.id && b && is_tenant w.tenant) (ask w.id w.tenant w.start w.end w.step w.query)) (new_alike is js a w.id)

ask_alike : (is js : List Issued) → Alike is js → (words : List ℕ) → ask_of is words ≡ ask_of js words
ask_alike is js a words = sym (ask_is is words) ∙ then_alike (ask_words words) (ask_with is) (ask_with js) (ask_with_alike is js a) ∙ ask_is js words

instant_with_alike : (is js : List Issued) → Alike is js → (w : InstantWords) → instant_with is w ≡ instant_with js w
instant_with_alike is js a w =
    ap (λ b. only_if (is_id w.id && b && is_tenant w.tenant) (instant w.id w.tenant w.time w.query)) (new_alike is js a w.id)

instant_alike : (is js : List Issued) → Alike is js → (words : List ℕ) → instant_of is words ≡ instant_of js words
instant_alike is js a words =
    sym (instant_is is words) ∙ then_alike (instant_words words) (instant_with is) (instant_with js) (instant_with_alike is js a) ∙ instant_is js words

cancel_alike : (is js : List Issued) → Alike is js → (words : List ℕ) → cancel_of is words ≡ cancel_of js words
unfolding cancel_of
cancel_alike is js a words =
    then_alike (next_word words) _ _ (λ id. then_alike (only_word id.behind) _ _ (λ tenant. ap (option_and_then (λ i. only_if (is_tenant tenant) (cancel i.id i.line tenant))) (a id.front)))

unanswered_alike : (is js : List Issued) → Alike is js → (words : List ℕ) → unanswered_of is words ≡ unanswered_of js words
unfolding unanswered_of
unanswered_alike is js a words = then_alike (only_word words) _ _ (λ id. ap (option_and_then (λ i. only_if (not i.answered) i)) (a id))

answer_alike : (is js : List Issued) → Alike is js → (words : List ℕ) → answer_of is words ≡ answer_of js words
unfolding answer_of
answer_alike is js a words = ap (option_and_then _) (unanswered_alike is js a words)

plan_alike : (is js : List Issued) → Alike is js → (words : List ℕ) → plan_of is words ≡ plan_of js words
unfolding plan_of
plan_alike is js a words = ap (option_and_then _) (unanswered_alike is js a words)

keep_alike : (is js : List Issued) → Alike is js → (words : List ℕ) → keep_of is words ≡ keep_of js words
unfolding keep_of
keep_alike is js a words = ap (option_and_then _) (unanswered_alike is js a words)

step_alike : (is js : List Issued) → Alike is js → (verb words : List ℕ) → step_with is verb words ≡ step_with js verb words
step_alike is js a verb words = simp (plan_alike is js a words, keep_alike is js a words)

with_alike : (steps : Bool) (is js : List Issued) → Alike is js → (verb words : List ℕ) → line_with steps is verb words ≡ line_with steps js verb words
with_alike steps is js a verb words =
    simp (ask_alike is js a words, instant_alike is js a words, cancel_alike is js a words, answer_alike is js a words, plan_alike is js a words, keep_alike is js a words)

line_alike : (steps : Bool) (is js : List Issued) → Alike is js → (bytes : List ℕ) → line_of steps is bytes ≡ line_of steps js bytes
unfolding line_of
line_alike steps is js a bytes =
    then_alike (only_if (is_utf8 bytes) bytes) _ _ (λ text. then_alike (next_word text) _ _ (λ verb. with_alike steps is js a verb.front verb.behind))

-- ---- the IDs behind it

marked_both : (mark : Issued → Issued) → ((i : Issued) → (mark i).id ≡ i.id) → (id : List ℕ) (is js : List Issued) → Alike is js → Alike (marked_as mark id is) (marked_as mark id js)
marked_both mark k id is js a = λ q. marked_at mark k id q is ∙ ap (λ o. cond (bytes_eq id q) (option_map mark o) o) (a q) ∙ sym (marked_at mark k id q js)

asked_both : (id : List ℕ) (n : ℕ) (is js : List Issued) → Alike is js → Alike (issued_at id n ∷ is) (issued_at id n ∷ js)
asked_both id n is js a = λ q. ap (cond (bytes_eq id q) (Some (issued_at id n))) (a q)

after_alike : (n : ℕ) (line : Line) (is js : List Issued) → Alike is js → Alike (issued_after n line is) (issued_after n line js)
after_alike n (ingest tenant file time) is js a = a
after_alike n (delete tenant from to selector) is js a = a
after_alike n (ask id tenant start end step query) is js a = asked_both id n is js a
after_alike n (instant id tenant time query) is js a = asked_both id n is js a
after_alike n (cancel id asked tenant) is js a = a
after_alike n (answer id asked) is js a = λ q.
    ap (issued_as q) (answered_is id is) ∙ marked_both as_answered (λ i. refl) id is js a q ∙ sym (ap (issued_as q) (answered_is id js))
after_alike n (plan id asked) is js a = a
after_alike n (keep id asked) is js a = λ q.
    ap (issued_as q) (kept_is id is) ∙ marked_both as_kept (λ i. refl) id is js a q ∙ sym (ap (issued_as q) (kept_is id js))
after_alike n (take worker) is js a = a
after_alike n (done worker) is js a = a

-- ---- what is read of lines

read_alike : (n : ℕ) (o : Option Line) (f g : Line → Result (List Numbered) ℕ) → ((x : Line) → f x ≡ g x) → read_line n o f ≡ read_line n o g
read_alike n None f g e = refl
read_alike n (Some x) f g e = rw (e x) refl

from_step : (steps : Bool) (n : ℕ) (is js : List Issued) (ls : List (List ℕ)) (l : List ℕ) (b : Bool) → Alike is js
    → ((m : ℕ) (hs ks : List Issued) → Alike hs ks → lines_from steps m hs ls ≡ lines_from steps m ks ls)
    → cond b (lines_from steps (n + 1) is ls) (read_line n (line_of steps is l) (λ x. lines_from steps (n + 1) (issued_after n x is) ls))
    ≡ cond b (lines_from steps (n + 1) js ls) (read_line n (line_of steps js l) (λ x. lines_from steps (n + 1) (issued_after n x js) ls))
from_step steps n is js ls l true a rest = rest (n + 1) is js a
from_step steps n is js ls l false a rest =
    ap (λ o. read_line n o (λ x. lines_from steps (n + 1) (issued_after n x is) ls)) (line_alike steps is js a l)
    ∙ read_alike n (line_of steps js l) _ _ (λ x. rest (n + 1) (issued_after n x is) (issued_after n x js) (after_alike n x is js a))

pub lines_alike : (steps : Bool) (n : ℕ) (is js : List Issued) (ls : List (List ℕ)) → Alike is js → lines_from steps n is ls ≡ lines_from steps n js ls
unfolding lines_from
lines_alike steps n is js [] a = refl
lines_alike steps n is js (l ∷ ls) a = from_step steps n is js ls l (is_passed l) a (λ m hs ks b. lines_alike steps m hs ks ls b)
