-- The numbers of a script's lines rise, and each that names an ask names one above it under the same ID, that no line between
-- answers or keeps where it is to be open.
use Rattle.std.proofs.Common.{◌≡◌, ◌∙◌, ℕ, ◌+◌, ◌<◌, Bool, true, false, ◌&&◌, cond, Option, Some, None, Result, Ok, Err, List, [], ◌∷◌, ◌++◌, length, codes, nat_eq, nat_le, not, refl, sym, ap, subst, arith}
use Rattle.std.specs.Prelude.{IfSome, option_and_then}
use Rattle.std.proofs.lemmas.Bool.Decides.{nat_tests}
use Rattle.std.proofs.lemmas.Bool.{not-true}
use Rattle.std.proofs.lemmas.Option.{same_Some}
use Rattle.std.proofs.lemmas.Slice.Eq.{bytes_eq-Decides}
use Rattle.std.specs.Str.{bytes_eq, is_utf8}
use Rattle.pf_base.specs.Limits.{greatest_time}
use Rattle.pf_base.specs.Tenants.{is_tenant}
use Rattle.pf_model.specs.Cuts.{only_if}
use Rattle.pf_model.specs.Exposition.{file_lines}
use Rattle.pf_model.specs.Lists.{Each}
use Rattle.pf_journal.specs.Scripts.{Issued, Line, Numbered, ingest, delete, ask, instant, cancel, answer, plan, keep, take, done, answer_of, ask_of, behind_word, cancel_of, delete_of, done_of, file_at, ingest_at, ingest_of, ingest_with, instant_of, is_id, is_new, is_passed, issued_after, issued_as, issued_at, keep_of, line_of, line_with, lines_from, most_bytes, next_word, number_of, only_word, plan_of, read_line, script_of, step_with, take_of, trimmed_text, unanswered_of, with_line, worker_of}
use Rattle.pf_journal.specs.Turns.{asking_line}
use Rattle.pf_script.specs.LineCuts.{AskWords, InstantWords, ask_with, ask_words, instant_with, instant_words}
use Rattle.pf_script.specs.Lines.{AllFollow, Follows, IsAnswerOf, IsAsk, IsKeepOf, IsOpen, IsUnanswered, IsUnkept, NamesAsk, id_of, line_at}
use Rattle.pf_script.proofs.IdLists.{answered_is, as_answered, as_kept, kept_is, marked_as}
use Rattle.pf_script.proofs.LineTexts.{ask_is, instant_is}

-- ---- facts of each element

each_implied : {X : Type 0} (P Q : X → Type 0) → ((x : X) → P x → Q x) → (xs : List X) → Each P xs → Each Q xs
each_implied P Q f [] h = tt
each_implied P Q f (x ∷ xs) h = (f x h.0, each_implied P Q f xs h.1)

pub each_more : {X : Type 0} (P : X → Type 0) (xs : List X) (y : X) → Each P xs → P y → Each P (xs ++ y ∷ [])
each_more P [] y h p = (p, tt)
each_more P (x ∷ xs) y h p = (h.0, each_more P xs y h.1 p)

each_both : {X : Type 0} (P Q : X → Type 0) (xs : List X) → Each P xs → Each Q xs → Each (λ x. P x × Q x) xs
each_both P Q [] h k = tt
each_both P Q (x ∷ xs) h k = ((h.0, k.0), each_both P Q xs h.1 k.1)

-- ---- what a line is read as

-- what is named was asked under its ID
record Names (is : List Issued) (id : List ℕ) (asked : ℕ) (i : Issued) : Type 0 where
  at : issued_as id is ≡ Some i
  same : i.id ≡ id
  line : asked ≡ i.line

-- and is not answered, where a line answers, plans or keeps it, and not kept, where a line keeps it
abbrev Fair : List Issued → Line → Type 0
Fair is (cancel id asked tenant) = (i : Issued) × Names is id asked i
Fair is (answer id asked) = (i : Issued) × Names is id asked i × (i.answered ≡ false)
Fair is (plan id asked) = (i : Issued) × Names is id asked i × (i.answered ≡ false)
Fair is (keep id asked) = (i : Issued) × Names is id asked i × (i.answered ≡ false) × (i.kept ≡ false)
Fair is _ = Unit {0}

then_all : {A B : Type 0} (P : B → Type 0) (o : Option A) (f : A → Option B) → ((x : A) → IfSome (f x) P) → IfSome (option_and_then f o) P
then_all P None f h = tt
then_all P (Some x) f h = h x

then_from : {A B : Type 0} (P : A → Type 0) (Q : B → Type 0) (o : Option A) (f : A → Option B) → IfSome o P → ((x : A) → P x → IfSome (f x) Q) → IfSome (option_and_then f o) Q
then_from P Q None f h g = tt
then_from P Q (Some x) f h g = g x h

kept_all : {A : Type 0} (P : A → Type 0) (b : Bool) (x : A) → (b ≡ true → P x) → IfSome (only_if b x) P
kept_all P true x h = h refl
kept_all P false x h = tt

cond_all : {A : Type 0} (P : A → Type 0) (b : Bool) (o p : Option A) → IfSome o P → IfSome p P → IfSome (cond b o p) P
cond_all P true o p h k = h
cond_all P false o p h k = k

at_fair : (is : List Issued) (tenant bytes : List ℕ) → IfSome (ingest_at tenant bytes) (Fair is)
unfolding ingest_at
at_fair is tenant bytes =
    then_all (Fair is) (file_at bytes) _ (λ file. then_all (Fair is) (behind_word (codes "at") file.behind) _ (λ word. then_all (Fair is) (number_of word) _ (λ time.
    kept_all (Fair is) (nat_le time greatest_time) (ingest tenant file.front time) (λ h. tt))))

file_fair : (is : List Issued) (tenant bytes : List ℕ) (o : Option (List ℕ)) → IfSome (ingest_with tenant bytes o) (Fair is)
file_fair is tenant bytes None = at_fair is tenant bytes
file_fair is tenant bytes (Some file) = kept_all (Fair is) (is_utf8 file) (ingest tenant file 0) (λ h. tt)

ingest_fair : (is : List Issued) (words : List ℕ) → IfSome (ingest_of words) (Fair is)
unfolding ingest_of
ingest_fair is words =
    then_all (Fair is) (next_word words) _ (λ tenant. then_all (Fair is) (only_if (is_tenant tenant.front) tenant.behind) _ (λ named.
    file_fair is tenant.front named (only_word named)))

delete_fair : (is : List Issued) (words : List ℕ) → IfSome (delete_of words) (Fair is)
unfolding delete_of
delete_fair is words =
    then_all (Fair is) (next_word words) _ (λ tenant. then_all (Fair is) (next_word tenant.behind) _ (λ from. then_all (Fair is) (next_word from.behind) _ (λ to.
    then_all (Fair is) (number_of from.front) _ (λ first. then_all (Fair is) (number_of to.front) _ (λ last.
    then_all (Fair is) (trimmed_text to.behind) _ (λ selector.
    kept_all (Fair is) (is_tenant tenant.front) (delete tenant.front first last selector) (λ h. tt)))))))

ask_with_fair : (is : List Issued) (w : AskWords) → IfSome (ask_with is w) (Fair is)
ask_with_fair is w = kept_all (Fair is) (is_id w.id && is_new w.id is && is_tenant w.tenant) (ask w.id w.tenant w.start w.end w.step w.query) (λ h. tt)

ask_fair : (is : List Issued) (words : List ℕ) → IfSome (ask_of is words) (Fair is)
ask_fair is words = subst (λ (o : Option Line). IfSome o (Fair is)) (ask_is is words) (then_all (Fair is) (ask_words words) (ask_with is) (ask_with_fair is))

instant_with_fair : (is : List Issued) (w : InstantWords) → IfSome (instant_with is w) (Fair is)
instant_with_fair is w = kept_all (Fair is) (is_id w.id && is_new w.id is && is_tenant w.tenant) (instant w.id w.tenant w.time w.query) (λ h. tt)

instant_fair : (is : List Issued) (words : List ℕ) → IfSome (instant_of is words) (Fair is)
instant_fair is words =
    subst (λ (o : Option Line). IfSome o (Fair is)) (instant_is is words) (then_all (Fair is) (instant_words words) (instant_with is) (instant_with_fair is))

-- what stands under an ID has that ID
named_by : (id : List ℕ) (i j : Issued) (o : Option Issued) (b : Bool) → bytes_eq j.id id ≡ b → (o ≡ Some i → i.id ≡ id) → cond b (Some j) o ≡ Some i → i.id ≡ id
named_by id i j o true e f h = ap (λ k. k.id) (sym (same_Some _ _ h)) ∙ (bytes_eq-Decides j.id id).0 e
named_by id i j o false e f h = f h

issued_named : (id : List ℕ) (is : List Issued) (i : Issued) → issued_as id is ≡ Some i → i.id ≡ id
issued_named id [] i h = cc
issued_named id (j ∷ is) i h = named_by id i j (issued_as id is) (bytes_eq j.id id) refl (issued_named id is i) h

names_of : (is : List Issued) (id : List ℕ) (i : Issued) → issued_as id is ≡ Some i → Names is i.id i.line i
names_of is id i e = record {
  at = subst (λ (k : List ℕ). issued_as k is ≡ Some i) (sym (issued_named id is i e)) e;
  same = refl;
  line = refl;
}

cancel_by : (is : List Issued) (id tenant : List ℕ) (o : Option Issued) → issued_as id is ≡ o
    → IfSome (option_and_then (λ i. only_if (is_tenant tenant) (cancel i.id i.line tenant)) o) (Fair is)
cancel_by is id tenant None e = tt
cancel_by is id tenant (Some i) e = kept_all (Fair is) (is_tenant tenant) (cancel i.id i.line tenant) (λ h. (i, names_of is id i e))

cancel_fair : (is : List Issued) (words : List ℕ) → IfSome (cancel_of is words) (Fair is)
unfolding cancel_of
cancel_fair is words =
    then_all (Fair is) (next_word words) _ (λ id. then_all (Fair is) (only_word id.behind) _ (λ tenant. cancel_by is id.front tenant (issued_as id.front is) refl))

abbrev Unanswered : List Issued → Issued → Type 0
Unanswered is i = Names is i.id i.line i × (i.answered ≡ false)

unanswered_by : (is : List Issued) (id : List ℕ) (o : Option Issued) → issued_as id is ≡ o → IfSome (option_and_then (λ i. only_if (not i.answered) i) o) (Unanswered is)
unanswered_by is id None e = tt
unanswered_by is id (Some i) e = kept_all (Unanswered is) (not i.answered) i (λ h. (names_of is id i e, not-true _ h))

unanswered_fair : (is : List Issued) (words : List ℕ) → IfSome (unanswered_of is words) (Unanswered is)
unfolding unanswered_of
unanswered_fair is words = then_all (Unanswered is) (only_word words) _ (λ id. unanswered_by is id (issued_as id is) refl)

answer_fair : (is : List Issued) (words : List ℕ) → IfSome (answer_of is words) (Fair is)
unfolding answer_of
answer_fair is words = then_from (Unanswered is) (Fair is) (unanswered_of is words) _ (unanswered_fair is words) (λ i h. (i, h.0, h.1))

plan_fair : (is : List Issued) (words : List ℕ) → IfSome (plan_of is words) (Fair is)
unfolding plan_of
plan_fair is words = then_from (Unanswered is) (Fair is) (unanswered_of is words) _ (unanswered_fair is words) (λ i h. (i, h.0, h.1))

keep_fair : (is : List Issued) (words : List ℕ) → IfSome (keep_of is words) (Fair is)
unfolding keep_of
keep_fair is words =
    then_from (Unanswered is) (Fair is) (unanswered_of is words) _ (unanswered_fair is words)
    (λ i h. kept_all (Fair is) (not i.kept) (keep i.id i.line) (λ k. (i, h.0, h.1, not-true _ k)))

take_fair : (is : List Issued) (words : List ℕ) → IfSome (take_of words) (Fair is)
unfolding take_of
take_fair is words = then_all (Fair is) (worker_of words) _ (λ w. tt)

done_fair : (is : List Issued) (words : List ℕ) → IfSome (done_of words) (Fair is)
unfolding done_of
done_fair is words = then_all (Fair is) (worker_of words) _ (λ w. tt)

step_fair : (is : List Issued) (verb words : List ℕ) → IfSome (step_with is verb words) (Fair is)
step_fair is verb words =
    cond_all (Fair is) (bytes_eq verb (codes "plan")) (plan_of is words) _ (plan_fair is words)
    (cond_all (Fair is) (bytes_eq verb (codes "keep")) (keep_of is words) _ (keep_fair is words)
    (cond_all (Fair is) (bytes_eq verb (codes "take")) (take_of words) _ (take_fair is words)
    (cond_all (Fair is) (bytes_eq verb (codes "done")) (done_of words) None (done_fair is words) tt)))

verb_fair : (steps : Bool) (is : List Issued) (verb words : List ℕ) → IfSome (line_with steps is verb words) (Fair is)
verb_fair steps is verb words =
    cond_all (Fair is) (bytes_eq verb (codes "ingest")) (ingest_of words) _ (ingest_fair is words)
    (cond_all (Fair is) (bytes_eq verb (codes "delete")) (delete_of words) _ (delete_fair is words)
    (cond_all (Fair is) (bytes_eq verb (codes "ask")) (ask_of is words) _ (ask_fair is words)
    (cond_all (Fair is) (bytes_eq verb (codes "instant")) (instant_of is words) _ (instant_fair is words)
    (cond_all (Fair is) (bytes_eq verb (codes "cancel")) (cancel_of is words) _ (cancel_fair is words)
    (cond_all (Fair is) (bytes_eq verb (codes "answer")) (answer_of is words) _ (answer_fair is words)
    (cond_all (Fair is) steps (step_with is verb words) None (step_fair is verb words) tt))))))

line_fair : (steps : Bool) (is : List Issued) (bytes : List ℕ) → IfSome (line_of steps is bytes) (Fair is)
unfolding line_of
line_fair steps is bytes =
    then_all (Fair is) (only_if (is_utf8 bytes) bytes) _ (λ text. then_all (Fair is) (next_word text) _ (λ verb. verb_fair steps is verb.front verb.behind))

fair_at : (steps : Bool) (is : List Issued) (bytes : List ℕ) (line : Line) → line_of steps is bytes ≡ Some line → Fair is line
fair_at steps is bytes line e = subst (λ (o : Option Line). IfSome o (Fair is)) e (line_fair steps is bytes)

-- ---- what the IDs say of the lines before

record IsKnown (n : ℕ) (before : List Numbered) (i : Issued) : Type 0 where
  below : i.line < n
  asked : IsAsk i.id (line_at i.line before)
  unanswered : i.answered ≡ false → IsUnanswered before i.line
  unkept : i.kept ≡ false → IsUnkept before i.line

abbrev AreApart : List Issued → Type 0
AreApart [] = Unit {0}
AreApart (i ∷ is) = Each (λ j. j.line ≡ i.line → ⊥) is × AreApart is

record Known (n : ℕ) (before : List Numbered) (is : List Issued) : Type 0 where
  first : 0 < n
  rising : Each (λ b. b.number < n) before
  named : Each (λ b. IfSome (asking_line b.line) (λ m. m < n)) before
  known : Each (IsKnown n before) is
  apart : AreApart is

-- a line that answers or keeps names the line that asked
answer_names : (l : Line) (m : ℕ) → IsAnswerOf l m → asking_line l ≡ Some m
answer_names (ingest tenant file time) m h = absurd h
answer_names (delete tenant from to selector) m h = absurd h
answer_names (ask id tenant start end step query) m h = absurd h
answer_names (instant id tenant time query) m h = absurd h
answer_names (cancel id asked tenant) m h = absurd h
answer_names (answer id asked) m h = ap Some h
answer_names (plan id asked) m h = absurd h
answer_names (keep id asked) m h = absurd h
answer_names (take worker) m h = absurd h
answer_names (done worker) m h = absurd h

keep_names : (l : Line) (m : ℕ) → IsKeepOf l m → asking_line l ≡ Some m
keep_names (ingest tenant file time) m h = absurd h
keep_names (delete tenant from to selector) m h = absurd h
keep_names (ask id tenant start end step query) m h = absurd h
keep_names (instant id tenant time query) m h = absurd h
keep_names (cancel id asked tenant) m h = absurd h
keep_names (answer id asked) m h = absurd h
keep_names (plan id asked) m h = absurd h
keep_names (keep id asked) m h = ap Some h
keep_names (take worker) m h = absurd h
keep_names (done worker) m h = absurd h

-- a line that stands before stays where it is
still_by : (id : List ℕ) (b : Bool) (o : Option Line) (p q : Option Line) → (IsAsk id p → IsAsk id q) → IsAsk id (cond b o p) → IsAsk id (cond b o q)
still_by id true o p q f h = h
still_by id false o p q f h = f h

still_asked : (id : List ℕ) (m : ℕ) (before : List Numbered) (l : Numbered) → IsAsk id (line_at m before) → IsAsk id (line_at m (before ++ l ∷ []))
still_asked id m [] l h = absurd h
still_asked id m (b ∷ bs) l h = still_by id (nat_eq b.number m) (Some b.line) (line_at m bs) (line_at m (bs ++ l ∷ [])) (still_asked id m bs l) h

-- a line behind those of lower numbers is found by its own
here_asked : (id : List ℕ) (n : ℕ) (before : List Numbered) (line : Line) → Each (λ b. b.number < n) before → IsAsk id (Some line)
    → IsAsk id (line_at n (before ++ record { number = n; line = line } ∷ []))
here_asked id n [] line r h = let e : nat_eq n n ≡ true = grind (arith, nat_tests) in rw e h
here_asked id n (b ∷ bs) line r h = let l : b.number < n = r.0 in let e : nat_eq b.number n ≡ false = grind (arith, nat_tests) in rw e (here_asked id n bs line r.1 h)

below_more : (n : ℕ) (o : Option ℕ) → IfSome o (λ m. m < n) → IfSome o (λ m. m < n + 1)
below_more n None h = tt
below_more n (Some m) h = omega (arith, h)

-- a line that does not answer what is issued, and does not keep it
known_more : (n : ℕ) (before : List Numbered) (l : Numbered) (i : Issued) → (IsAnswerOf l.line i.line → ⊥) → (IsKeepOf l.line i.line → ⊥)
    → IsKnown n before i → IsKnown (n + 1) (before ++ l ∷ []) i
known_more n before l i f g k = record {
  below = let h = k.below in omega arith;
  asked = still_asked i.id i.line before l k.asked;
  unanswered = λ e. each_more (λ b. IsAnswerOf b.line i.line → ⊥) before l (k.unanswered e) f;
  unkept = λ e. each_more (λ b. IsKeepOf b.line i.line → ⊥) before l (k.unkept e) g;
}

known_passed : (n : ℕ) (before : List Numbered) (is : List Issued) → Known n before is → Known (n + 1) before is
known_passed n before is k = record {
  first = omega arith;
  rising = each_implied (λ (b : Numbered). b.number < n) (λ b. b.number < n + 1) (λ b h. omega (arith, h)) before k.rising;
  named = each_implied (λ (b : Numbered). IfSome (asking_line b.line) (λ m. m < n)) (λ b. IfSome (asking_line b.line) (λ m. m < n + 1)) (λ b h. below_more n (asking_line b.line) h) before k.named;
  known = each_implied (IsKnown n before) (IsKnown (n + 1) before)
      (λ i h. record { below = let b = h.below in omega arith; asked = h.asked; unanswered = h.unanswered; unkept = h.unkept }) is k.known;
  apart = k.apart;
}

-- ---- behind a line

numbers_more : (n : ℕ) (before : List Numbered) (line : Line) → Each (λ b. b.number < n) before → Each (λ b. b.number < n + 1) (before ++ record { number = n; line = line } ∷ [])
numbers_more n before line h =
    each_more (λ (b : Numbered). b.number < n + 1) before _ (each_implied (λ (b : Numbered). b.number < n) (λ b. b.number < n + 1) (λ b l. omega (arith, l)) before h) (omega arith)

names_more : (n : ℕ) (before : List Numbered) (line : Line) → Each (λ b. IfSome (asking_line b.line) (λ m. m < n)) before → IfSome (asking_line line) (λ m. m < n)
    → Each (λ b. IfSome (asking_line b.line) (λ m. m < n + 1)) (before ++ record { number = n; line = line } ∷ [])
names_more n before line h l =
    each_more (λ (b : Numbered). IfSome (asking_line b.line) (λ m. m < n + 1)) before _
    (each_implied (λ (b : Numbered). IfSome (asking_line b.line) (λ m. m < n)) (λ b. IfSome (asking_line b.line) (λ m. m < n + 1)) (λ b k. below_more n (asking_line b.line) k) before h)
    (below_more n (asking_line line) l)

-- behind one that answers nothing and keeps nothing
known_idle : (n : ℕ) (before : List Numbered) (is : List Issued) (line : Line) → Known n before is → IfSome (asking_line line) (λ m. m < n)
    → ((m : ℕ) → IsAnswerOf line m → ⊥) → ((m : ℕ) → IsKeepOf line m → ⊥) → Known (n + 1) (before ++ record { number = n; line = line } ∷ []) is
known_idle n before is line k e f g = record {
  first = omega arith;
  rising = numbers_more n before line k.rising;
  named = names_more n before line k.named e;
  known = each_implied (IsKnown n before) (IsKnown (n + 1) (before ++ record { number = n; line = line } ∷ []))
      (λ i h. known_more n before (record { number = n; line = line }) i (f i.line) (g i.line) h) is k.known;
  apart = k.apart;
}

not_itself : (n : ℕ) (o : Option ℕ) → IfSome o (λ m. m < n) → o ≡ Some n → ⊥
not_itself n None h e = cc
not_itself n (Some m) h e = let s : m ≡ n = same_Some _ _ e in omega (arith, h)

-- behind one that asks, which no line before it names
known_ask : (n : ℕ) (before : List Numbered) (is : List Issued) (id : List ℕ) (line : Line) → Known n before is → IsAsk id (Some line) → asking_line line ≡ None
    → ((m : ℕ) → IsAnswerOf line m → ⊥) → ((m : ℕ) → IsKeepOf line m → ⊥) → Known (n + 1) (before ++ record { number = n; line = line } ∷ []) (issued_at id n ∷ is)
known_ask n before is id line k a e f g =
    let l : Numbered = record { number = n; line = line } in
    let more = known_idle n before is line k (rw e tt) f g in
    record {
      first = omega arith;
      rising = more.rising;
      named = more.named;
      known = (
        record {
          below = omega arith;
          asked = here_asked id n before line k.rising a;
          unanswered = λ h. each_more (λ (b : Numbered). IsAnswerOf b.line n → ⊥) before l
              (each_implied (λ (b : Numbered). IfSome (asking_line b.line) (λ m. m < n)) (λ b. IsAnswerOf b.line n → ⊥)
              (λ b m x. not_itself n (asking_line b.line) m (answer_names b.line n x)) before k.named) (f n);
          unkept = λ h. each_more (λ (b : Numbered). IsKeepOf b.line n → ⊥) before l
              (each_implied (λ (b : Numbered). IfSome (asking_line b.line) (λ m. m < n)) (λ b. IsKeepOf b.line n → ⊥)
              (λ b m x. not_itself n (asking_line b.line) m (keep_names b.line n x)) before k.named) (g n);
        },
        more.known,
      );
      apart = (each_implied (IsKnown n before) (λ i. i.line ≡ n → ⊥) (λ i h b. let l = h.below in omega arith) is k.known, k.apart);
    }

-- ---- behind one that answers or keeps

found_by : (P : Issued → Type 0) (i j : Issued) (o : Option Issued) (b : Bool) → P j → (o ≡ Some i → P i) → cond b (Some j) o ≡ Some i → P i
found_by P i j o true h f e = subst P (same_Some _ _ e) h
found_by P i j o false h f e = f e

found_each : (P : Issued → Type 0) (id : List ℕ) (is : List Issued) (i : Issued) → Each P is → issued_as id is ≡ Some i → P i
found_each P id [] i h e = cc
found_each P id (j ∷ is) i h e = found_by P i j (issued_as id is) (bytes_eq j.id id) h.0 (found_each P id is i h.1) e

-- lines stay apart where a mark keeps them
lines_by : (mark : Issued → Issued) (P : ℕ → Type 0) (j : Issued) (is js : List Issued) (b : Bool) → (mark j).line ≡ j.line → P j.line → Each (λ k. P k.line) is → Each (λ k. P k.line) js
    → Each (λ k. P k.line) (cond b (mark j ∷ is) (j ∷ js))
lines_by mark P j is js true s h k l = (subst P (sym s) h, k)
lines_by mark P j is js false s h k l = (h, l)

lines_marked : (mark : Issued → Issued) → ((i : Issued) → (mark i).line ≡ i.line) → (P : ℕ → Type 0) (id : List ℕ) (is : List Issued) → Each (λ j. P j.line) is
    → Each (λ j. P j.line) (marked_as mark id is)
lines_marked mark s P id [] h = tt
lines_marked mark s P id (j ∷ is) h = lines_by mark P j is (marked_as mark id is) (bytes_eq j.id id) (s j) h.0 h.1 (lines_marked mark s P id is h.1)

apart_by : (mark : Issued → Issued) (j : Issued) (is js : List Issued) (b : Bool) → (mark j).line ≡ j.line → Each (λ k. k.line ≡ j.line → ⊥) is → Each (λ k. k.line ≡ j.line → ⊥) js
    → AreApart is → AreApart js → AreApart (cond b (mark j ∷ is) (j ∷ js))
apart_by mark j is js true s h k a b = (subst (λ (m : ℕ). Each (λ k. k.line ≡ m → ⊥) is) (sym s) h, a)
apart_by mark j is js false s h k a b = (k, b)

apart_marked : (mark : Issued → Issued) → ((i : Issued) → (mark i).line ≡ i.line) → (id : List ℕ) (is : List Issued) → AreApart is → AreApart (marked_as mark id is)
apart_marked mark s id [] h = tt
apart_marked mark s id (j ∷ is) h =
    apart_by mark j is (marked_as mark id is) (bytes_eq j.id id) (s j) h.0 (lines_marked mark s (λ m. m ≡ j.line → ⊥) id is h.0) h.1 (apart_marked mark s id is h.1)

-- a fact of the one that is marked, and of the others, which are of other lines
each_by : (mark : Issued → Issued) (P Q : Issued → Type 0) (i j : Issued) (id : List ℕ) (is js : List Issued) (b : Bool)
    → ((k : Issued) → (k.line ≡ i.line → ⊥) → P k → Q k) → (P i → Q (mark i))
    → P j → Each P is → Each (λ k. k.line ≡ j.line → ⊥) is
    → (issued_as id is ≡ Some i → i.line ≡ j.line → ⊥) → (issued_as id is ≡ Some i → Each Q js)
    → cond b (Some j) (issued_as id is) ≡ Some i → Each Q (cond b (mark j ∷ is) (j ∷ js))
each_by mark P Q i j id is js true f m h k a g q e =
    let s : j ≡ i = same_Some _ _ e in (
      subst (λ (x : Issued). Q (mark x)) (sym s) (m (subst P s h)),
      each_implied (λ (x : Issued). P x × (x.line ≡ j.line → ⊥)) Q (λ x p. f x (λ o. p.1 (o ∙ sym (ap (λ (y : Issued). y.line) s))) p.0) is (each_both P (λ x. x.line ≡ j.line → ⊥) is k a),
    )
each_by mark P Q i j id is js false f m h k a g q e = (f j (λ o. g e (sym o)) h, q e)

each_marked : (mark : Issued → Issued) (P Q : Issued → Type 0) (i : Issued) (id : List ℕ) (is : List Issued)
    → ((k : Issued) → (k.line ≡ i.line → ⊥) → P k → Q k) → (P i → Q (mark i))
    → Each P is → AreApart is → issued_as id is ≡ Some i → Each Q (marked_as mark id is)
each_marked mark P Q i id [] f m k a e = tt
each_marked mark P Q i id (j ∷ is) f m k a e =
    each_by mark P Q i j id is (marked_as mark id is) (bytes_eq j.id id) f m k.0 k.1 a.0
    (λ o. found_each (λ x. x.line ≡ j.line → ⊥) id is i a.0 o) (λ o. each_marked mark P Q i id is f m k.1 a.1 o) e

answered_known : (n : ℕ) (before : List Numbered) (id : List ℕ) (i : Issued) → IsKnown n before i
    → IsKnown (n + 1) (before ++ record { number = n; line = answer id i.line } ∷ []) (as_answered i)
answered_known n before id i h = record {
  below = let b = h.below in omega arith;
  asked = still_asked i.id i.line before (record { number = n; line = answer id i.line }) h.asked;
  unanswered = λ x. cc;
  unkept = λ e. each_more (λ b. IsKeepOf b.line i.line → ⊥) before (record { number = n; line = answer id i.line }) (h.unkept e) (λ x. x);
}

known_answer : (n : ℕ) (before : List Numbered) (is : List Issued) (id : List ℕ) (i : Issued) → Known n before is → issued_as id is ≡ Some i
    → Known (n + 1) (before ++ record { number = n; line = answer id i.line } ∷ []) (marked_as as_answered id is)
known_answer n before is id i k e = record {
  first = omega arith;
  rising = numbers_more n before (answer id i.line) k.rising;
  named = names_more n before (answer id i.line) k.named (found_each (IsKnown n before) id is i k.known e).below;
  known = each_marked as_answered (IsKnown n before) (IsKnown (n + 1) (before ++ record { number = n; line = answer id i.line } ∷ [])) i id is
      (λ j o h. known_more n before (record { number = n; line = answer id i.line }) j (λ x. o (sym x)) (λ x. x) h) (answered_known n before id i) k.known k.apart e;
  apart = apart_marked as_answered (λ j. refl) id is k.apart;
}

kept_known : (n : ℕ) (before : List Numbered) (id : List ℕ) (i : Issued) → IsKnown n before i
    → IsKnown (n + 1) (before ++ record { number = n; line = keep id i.line } ∷ []) (as_kept i)
kept_known n before id i h = record {
  below = let b = h.below in omega arith;
  asked = still_asked i.id i.line before (record { number = n; line = keep id i.line }) h.asked;
  unanswered = λ e. each_more (λ b. IsAnswerOf b.line i.line → ⊥) before (record { number = n; line = keep id i.line }) (h.unanswered e) (λ x. x);
  unkept = λ x. cc;
}

known_keep : (n : ℕ) (before : List Numbered) (is : List Issued) (id : List ℕ) (i : Issued) → Known n before is → issued_as id is ≡ Some i
    → Known (n + 1) (before ++ record { number = n; line = keep id i.line } ∷ []) (marked_as as_kept id is)
known_keep n before is id i k e = record {
  first = omega arith;
  rising = numbers_more n before (keep id i.line) k.rising;
  named = names_more n before (keep id i.line) k.named (found_each (IsKnown n before) id is i k.known e).below;
  known = each_marked as_kept (IsKnown n before) (IsKnown (n + 1) (before ++ record { number = n; line = keep id i.line } ∷ [])) i id is
      (λ j o h. known_more n before (record { number = n; line = keep id i.line }) j (λ x. x) (λ x. o (sym x)) h) (kept_known n before id i) k.known k.apart e;
  apart = apart_marked as_kept (λ j. refl) id is k.apart;
}

-- what a line names was asked on a line before it
named_below : (n : ℕ) (before : List Numbered) (is : List Issued) (id : List ℕ) (asked : ℕ) (i : Issued) → Known n before is → Names is id asked i → asked < n
named_below n before is id asked i k f = let e = f.line in let l = (found_each (IsKnown n before) id is i k.known f.at).below in omega arith

known_after : (n : ℕ) (before : List Numbered) (is : List Issued) (line : Line) → Known n before is → Fair is line → Known (n + 1) (before ++ record { number = n; line = line } ∷ []) (issued_after n line is)
known_after n before is (ingest tenant file time) k f = known_idle n before is (ingest tenant file time) k tt (λ m x. x) (λ m x. x)
known_after n before is (delete tenant from to selector) k f = known_idle n before is (delete tenant from to selector) k tt (λ m x. x) (λ m x. x)
known_after n before is (ask id tenant start end step query) k f = known_ask n before is id (ask id tenant start end step query) k refl refl (λ m x. x) (λ m x. x)
known_after n before is (instant id tenant time query) k f = known_ask n before is id (instant id tenant time query) k refl refl (λ m x. x) (λ m x. x)
known_after n before is (cancel id asked tenant) k f =
    known_idle n before is (cancel id asked tenant) k (named_below n before is id asked f.0 k f.1) (λ m x. x) (λ m x. x)
known_after n before is (answer id asked) k f =
    rw (f.1.line) (subst (Known (n + 1) (before ++ record { number = n; line = answer id f.0.line } ∷ [])) (sym (answered_is id is)) (known_answer n before is id f.0 k f.1.at))
known_after n before is (plan id asked) k f = known_idle n before is (plan id asked) k (named_below n before is id asked f.0 k f.1) (λ m x. x) (λ m x. x)
known_after n before is (keep id asked) k f =
    rw (f.1.line) (subst (Known (n + 1) (before ++ record { number = n; line = keep id f.0.line } ∷ [])) (sym (kept_is id is)) (known_keep n before is id f.0 k f.1.at))
known_after n before is (take worker) k f = known_idle n before is (take worker) k tt (λ m x. x) (λ m x. x)
known_after n before is (done worker) k f = known_idle n before is (done worker) k tt (λ m x. x) (λ m x. x)

-- ---- a line follows those before

known_named : (n : ℕ) (before : List Numbered) (is : List Issued) (id : List ℕ) (asked : ℕ) (i : Issued) → Known n before is → Names is id asked i → IsKnown n before i
known_named n before is id asked i k f = found_each (IsKnown n before) id is i k.known f.at

asked_before : (n : ℕ) (before : List Numbered) (is : List Issued) (id : List ℕ) (asked : ℕ) (i : Issued) → Known n before is → Names is id asked i
    → IsAsk id (line_at asked before)
asked_before n before is id asked i k f =
    rw (f.line) (subst (λ (x : List ℕ). IsAsk x (line_at i.line before)) f.same (known_named n before is id asked i k f).asked)

unanswered_before : (n : ℕ) (before : List Numbered) (is : List Issued) (id : List ℕ) (asked : ℕ) (i : Issued) → Known n before is → Names is id asked i → i.answered ≡ false
    → IsUnanswered before asked
unanswered_before n before is id asked i k f a = rw (f.line) ((known_named n before is id asked i k f).unanswered a)

unkept_before : (n : ℕ) (before : List Numbered) (is : List Issued) (id : List ℕ) (asked : ℕ) (i : Issued) → Known n before is → Names is id asked i → i.kept ≡ false
    → IsUnkept before asked
unkept_before n before is id asked i k f a = rw (f.line) ((known_named n before is id asked i k f).unkept a)

names_ask : (n : ℕ) (before : List Numbered) (is : List Issued) (line : Line) → Known n before is → Fair is line → NamesAsk before (id_of line) (asking_line line)
names_ask n before is (ingest tenant file time) k f = tt
names_ask n before is (delete tenant from to selector) k f = tt
names_ask n before is (ask id tenant start end step query) k f = tt
names_ask n before is (instant id tenant time query) k f = tt
names_ask n before is (cancel id asked tenant) k f = asked_before n before is id asked f.0 k f.1
names_ask n before is (answer id asked) k f = asked_before n before is id asked f.0 k f.1
names_ask n before is (plan id asked) k f = asked_before n before is id asked f.0 k f.1
names_ask n before is (keep id asked) k f = asked_before n before is id asked f.0 k f.1
names_ask n before is (take worker) k f = tt
names_ask n before is (done worker) k f = tt

open_before : (n : ℕ) (before : List Numbered) (is : List Issued) (line : Line) → Known n before is → Fair is line → IsOpen before line
open_before n before is (ingest tenant file time) k f = tt
open_before n before is (delete tenant from to selector) k f = tt
open_before n before is (ask id tenant start end step query) k f = tt
open_before n before is (instant id tenant time query) k f = tt
open_before n before is (cancel id asked tenant) k f = tt
open_before n before is (answer id asked) k f = unanswered_before n before is id asked f.0 k f.1 f.2
open_before n before is (plan id asked) k f = unanswered_before n before is id asked f.0 k f.1 f.2
open_before n before is (keep id asked) k f = (unanswered_before n before is id asked f.0 k f.1 f.2, unkept_before n before is id asked f.0 k f.1 f.3)
open_before n before is (take worker) k f = tt
open_before n before is (done worker) k f = tt

line_follows : (n : ℕ) (before : List Numbered) (is : List Issued) (line : Line) → Known n before is → Fair is line → Follows before (record { number = n; line = line })
line_follows n before is line k f = record {
  first = k.first;
  rising = k.rising;
  names = names_ask n before is line k f;
  is_open = open_before n before is line k f;
}

-- ---- all lines

same_Ok : {A E : Type 0} (x y : A) → ◌≡◌ {A = Result A E} (Ok x) (Ok y) → x ≡ y
same_Ok x y e = cc

with_some : (l : Numbered) (r : Result (List Numbered) ℕ) (ls : List Numbered) → with_line l r ≡ Ok ls → (ms : List Numbered) × (r ≡ Ok ms) × (l ∷ ms ≡ ls)
with_some l (Err n) ls e = cc
with_some l (Ok ms) ls e = (ms, refl, same_Ok _ _ e)

read_some : (n : ℕ) (o : Option Line) (f : Line → Result (List Numbered) ℕ) (ls : List Numbered) → read_line n o f ≡ Ok ls
    → (x : Line) × (o ≡ Some x) × (with_line (record { number = n; line = x }) (f x) ≡ Ok ls)
read_some n None f ls e = cc
read_some n (Some x) f ls e = (x, refl, e)

follows_by : (steps : Bool) (n : ℕ) (before ls : List Numbered) (is : List Issued) (l : List ℕ) (rest : List (List ℕ)) (b : Bool) → Known n before is
    → ((m : ℕ) (bs ms : List Numbered) (js : List Issued) → Known m bs js → lines_from steps m js rest ≡ Ok ms → AllFollow bs ms)
    → cond b (lines_from steps (n + 1) is rest) (read_line n (line_of steps is l) (λ x. lines_from steps (n + 1) (issued_after n x is) rest)) ≡ Ok ls
    → AllFollow before ls
follows_by steps n before ls is l rest true k ih e = ih (n + 1) before ls is (known_passed n before is k) e
follows_by steps n before ls is l rest false k ih e =
    let x = read_some n (line_of steps is l) _ ls e in
    let ms = with_some (record { number = n; line = x.0 }) (lines_from steps (n + 1) (issued_after n x.0 is) rest) ls x.2 in
    let f = fair_at steps is l x.0 x.1 in
    subst (AllFollow before) ms.2
    (line_follows n before is x.0 k f, ih (n + 1) (before ++ record { number = n; line = x.0 } ∷ []) ms.0 (issued_after n x.0 is) (known_after n before is x.0 k f) ms.1)

lines_follow : (steps : Bool) (n : ℕ) (before ls : List Numbered) (is : List Issued) (lines : List (List ℕ)) → Known n before is → lines_from steps n is lines ≡ Ok ls → AllFollow before ls
unfolding lines_from
lines_follow steps n before ls is [] k e = subst (AllFollow before) (same_Ok _ _ e) tt
lines_follow steps n before ls is (l ∷ rest) k e = follows_by steps n before ls is l rest (is_passed l) k (λ m bs ms js j f. lines_follow steps m bs ms js rest j f) e

short_by : (steps : Bool) (bytes : List ℕ) (ls : List Numbered) (b : Bool) → cond b (lines_from steps 1 [] (file_lines bytes)) (Err 0) ≡ Ok ls
    → lines_from steps 1 [] (file_lines bytes) ≡ Ok ls
short_by steps bytes ls true e = e
short_by steps bytes ls false e = cc

pub script_follows : (steps : Bool) (bytes : List ℕ) (ls : List Numbered) → script_of steps bytes ≡ Ok ls → AllFollow [] ls
unfolding script_of
script_follows steps bytes ls e =
    lines_follow steps 1 [] ls [] (file_lines bytes) (record { first = omega arith; rising = tt; named = tt; known = tt; apart = tt })
    (short_by steps bytes ls (nat_le (length bytes) most_bytes) e)
