-- What the lines of a generated script read as.
use Rattle.std.proofs.Common.{◌≡◌, ◌∙◌, ℕ, zero, suc, ◌+◌, ◌-◌, ◌*◌, ◌%◌, ◌^◌, ◌<◌, ◌≤◌, Bool, true, false, ◌&&◌, Option, Some, List, [], ◌∷◌, ◌++◌, length, codes, decimal, nat_eq, nat_le, nat_lt, refl, ap, arith, append_assoc, length-append}
use Rattle.std.proofs.lemmas.Bool.{and_parts}
use Rattle.std.proofs.lemmas.Bool.Decides.{nat_tests}
use Rattle.std.proofs.lemmas.Fmt.{decimal_is_IsNumeral, length-decimal-le}
use Rattle.std.proofs.lemmas.List.Folds.{list_all-append}
use Rattle.std.proofs.lemmas.Str.{digit_value_digit, is_utf8-from_IsUtf8, IsUtf8-from_ascii}
use Rattle.std.proofs.lemmas.Str.Parse.{digit_from_value}
use Rattle.std.specs.Prelude.{option_and_then}
use Rattle.std.specs.Char.{digit_value, is_ascii_digit}
use Rattle.std.specs.Int.{IsInRange}
use Rattle.std.specs.List.{list_all}
use Rattle.std.specs.Str.{bytes_eq, is_utf8, IsAscii}
use Rattle.std.specs.Str.Parse.{AllDigits, digits_value_after}
use Rattle.pf_gen.specs.Sessions.{answer_line, ask_line, ingest_line, query_lines, query_text}
use Rattle.pf_base.specs.LabelSets.{is_empty, goes_on}
use Rattle.pf_base.specs.Tenants.{is_tenant, is_tenant_byte}
use Rattle.pf_model.specs.Cuts.{Cut}
use Rattle.pf_model.specs.Exposition.{file_lines, is_blank, is_no_blank, is_word, onto_first}
use Rattle.pf_journal.specs.Scripts as script
use Rattle.pf_journal.specs.Scripts.{Issued, Line, Numbered, answer_of, answered_as, ask_of, digits_onto, is_id, is_new, ingest_of, is_passed, issued_after, issued_at, line_of, line_with, lines_from, next_word, number_of, past_blanks, trimmed_text, unanswered_of, with_line, word_cut}

-- ---- tests of each byte

nat_same : (n : ℕ) → nat_eq n n ≡ true
nat_same n = grind (arith, nat_tests)

both : (a b : Bool) → a ≡ true → b ≡ true → (a && b) ≡ true
both true b h k = k
both false b h k = h

all_also : (p q : ℕ → Bool) → ((b : ℕ) → p b ≡ true → q b ≡ true) → (bs : List ℕ) → list_all p bs ≡ true → list_all q bs ≡ true
all_also p q f [] h = refl
all_also p q f (b ∷ bs) h = let g = and_parts _ _ h in both (q b) (list_all q bs) (f b g.0) (all_also p q f bs g.1)

all_both : (p : ℕ → Bool) (xs ys : List ℕ) → list_all p xs ≡ true → list_all p ys ≡ true → list_all p (xs ++ ys) ≡ true
all_both p xs ys h k = list_all-append p xs ys ∙ both _ _ h k

-- a byte that ends no line, and one that is no blank either
abbrev is_printed : ℕ → Bool
is_printed b = nat_le 32 b && nat_le b 126

abbrev is_solid : ℕ → Bool
is_solid b = nat_le 33 b && nat_le b 126

solid_printed : (b : ℕ) → is_solid b ≡ true → is_printed b ≡ true
solid_printed b h = grind (arith, nat_tests)

no_feed : (b : ℕ) → is_printed b ≡ true → nat_eq b 10 ≡ false
no_feed b h = grind (arith, nat_tests)

no_return : (b : ℕ) → is_printed b ≡ true → nat_eq b 13 ≡ false
no_return b h = grind (arith, nat_tests)

not_blank : (b : ℕ) → is_solid b ≡ true → is_blank b ≡ false
not_blank b h = grind (arith, nat_tests)

solid_no_blank : (b : ℕ) → is_solid b ≡ true → is_no_blank b ≡ true
solid_no_blank b h = grind (arith, nat_tests)

printed_low : (b : ℕ) → is_printed b ≡ true → b < 128
printed_low b h = grind (arith, nat_tests)

digit_solid : (b : ℕ) → is_ascii_digit b ≡ true → is_solid b ≡ true
digit_solid b h = grind (arith, nat_tests)

digit_goes_on : (b : ℕ) → is_ascii_digit b ≡ true → goes_on b ≡ true
digit_goes_on b h = grind (arith, nat_tests)

digit_of_tenant : (b : ℕ) → is_ascii_digit b ≡ true → is_tenant_byte b ≡ true
digit_of_tenant b h = grind (arith, nat_tests)

ascii : (bs : List ℕ) → list_all is_printed bs ≡ true → IsAscii bs
ascii [] h i = omega arith
ascii (b ∷ bs) h zero = printed_low b (and_parts _ _ h).0
ascii (b ∷ bs) h (suc i) = ascii bs (and_parts _ _ h).1 i

printed_text : (bs : List ℕ) → list_all is_printed bs ≡ true → is_utf8 bs ≡ true
printed_text bs h = is_utf8-from_IsUtf8 bs (IsUtf8-from_ascii bs (ascii bs h))

-- ---- lines and words

line_cut : (l rest : List ℕ) → list_all is_printed l ≡ true → file_lines (l ++ 10 ∷ rest) ≡ l ∷ file_lines rest
line_cut [] rest h = refl
line_cut (b ∷ l) rest h =
    let g = and_parts _ _ h in
    rw (no_feed b g.0, no_return b g.0) (ap (onto_first b) (line_cut l rest g.1))

-- a word: one byte or more, none of them a blank
abbrev IsSolid : List ℕ → Type 0
IsSolid [] = ⊥
IsSolid (b ∷ bs) = list_all is_solid (b ∷ bs) ≡ true

-- a word, a blank, and what stands behind
abbrev spaced : (word behind : List ℕ) → List ℕ
spaced word behind = word ++ 32 ∷ behind

cut_at : (w rest : List ℕ) → list_all is_solid w ≡ true → word_cut (spaced w rest) ≡ record { front = w; behind = 32 ∷ rest }
cut_at [] rest h = refl
cut_at (b ∷ w) rest h =
    let g = and_parts _ _ h in
    let e : is_blank b ≡ false = not_blank b g.0 in
    rw e (ap (λ (c : Cut). record { front = b ∷ c.front; behind = c.behind }) (cut_at w rest g.1))

-- the next word, before what begins with no blank
next_is : (w rest : List ℕ) → IsSolid w → past_blanks rest ≡ rest → next_word (spaced w rest) ≡ Some (record { front = w; behind = rest })
next_is [] rest h k = absurd h
next_is (b ∷ w) rest h k = rw (cut_at (b ∷ w) rest h, k) refl

-- what begins with a word
begun : (w rest : List ℕ) → IsSolid w → past_blanks (w ++ rest) ≡ w ++ rest
begun [] rest h = absurd h
begun (b ∷ w) rest h = rw (not_blank b (and_parts _ _ h).0) refl

alone : (w : List ℕ) → IsSolid w → past_blanks w ≡ w
alone [] h = absurd h
alone (b ∷ w) h = rw (not_blank b (and_parts _ _ h).0) refl

solid_word : (w : List ℕ) → IsSolid w → is_word w ≡ true
solid_word [] h = absurd h
solid_word (b ∷ w) h = all_also is_solid is_no_blank solid_no_blank (b ∷ w) h

solid_printed_all : (w : List ℕ) → IsSolid w → list_all is_printed w ≡ true
solid_printed_all [] h = absurd h
solid_printed_all (b ∷ w) h = all_also is_solid is_printed solid_printed (b ∷ w) h

-- ---- numbers

tested : (c : ℕ) → IsInRange 48 57 c → is_ascii_digit c ≡ true
tested c h = grind (arith, nat_tests)

same : (n c : ℕ) → digit_value c + 48 ≡ c → n * 10 + (c - 48) ≡ n * 10 + digit_value c
same n c h = omega arith

full : (ds : List ℕ) → 0 < length ds → is_empty ds ≡ false
full [] h = absurd (omega arith)
full (d ∷ ds) h = refl

solid_digits : (ds : List ℕ) → 0 < length ds → list_all is_ascii_digit ds ≡ true → IsSolid ds
solid_digits [] h d = absurd (omega arith)
solid_digits (c ∷ cs) h d = all_also is_ascii_digit is_solid digit_solid (c ∷ cs) d

digits_test : (ds : List ℕ) → AllDigits 10 ds → list_all is_ascii_digit ds ≡ true
digits_test [] d = refl
digits_test (c ∷ cs) d = both _ _ (tested c (digit_from_value c d.0)) (digits_test cs d.1)

digits_read : (n : ℕ) (ds : List ℕ) → AllDigits 10 ds → digits_onto n ds ≡ digits_value_after 10 n ds
digits_read n [] d = refl
digits_read n (c ∷ cs) d =
    let k = digit_value_digit c (digit_from_value c d.0) in
    ap (λ m. digits_onto m cs) (same n c k) ∙ digits_read (n * 10 + digit_value c) cs d.1

decimal_digits : (n : ℕ) → n < 2 ^ 64 → list_all is_ascii_digit (decimal n) ≡ true
decimal_digits n h = digits_test (decimal n) (decimal_is_IsNumeral n h).0.1

decimal_solid : (n : ℕ) → n < 2 ^ 64 → IsSolid (decimal n)
decimal_solid n h = solid_digits (decimal n) (decimal_is_IsNumeral n h).0.0 (decimal_digits n h)

number_is : (n : ℕ) → n < 9223372036854775808 → number_of (decimal n) ≡ Some n
unfolding number_of
number_is n h =
    let small : n < 2 ^ 64 = omega arith in
    let k = decimal_is_IsNumeral n small in
    let e : digits_onto 0 (decimal n) ≡ n = digits_read 0 (decimal n) k.0.1 ∙ k.1 in
    let less : nat_lt n 9223372036854775808 ≡ true = grind (arith, nat_tests) in
    rw (e, less, full (decimal n) k.0.0, decimal_digits n small) refl

sixty : number_of (codes "60000") ≡ Some 60000
unfolding number_of
sixty = refl

-- ---- names

abbrev pub id_of : ℕ → List ℕ
id_of k = 113 ∷ decimal k

abbrev tenant_of : ℕ → List ℕ
tenant_of m = 116 ∷ decimal m

abbrev page_name : ℕ → List ℕ
page_name m = 103 ∷ decimal m

behind_letter : (c n : ℕ) → is_solid c ≡ true → n < 2 ^ 64 → IsSolid (c ∷ decimal n)
behind_letter c n h l = both (is_solid c) _ h (all_also is_ascii_digit is_solid digit_solid (decimal n) (decimal_digits n l))

short : (n : ℕ) → n < 2 ^ 64 → length (decimal n) ≤ 20
short n h = length-decimal-le 20 n (omega arith) (omega arith) h

pub within : (n m : ℕ) → n ≤ m → nat_le n m ≡ true
within n m h = grind (arith, nat_tests)

id_is : (k : ℕ) → k < 2 ^ 64 → is_id (id_of k) ≡ true
id_is k h =
    let l = short k h in
    let d = all_also is_ascii_digit goes_on digit_goes_on (decimal k) (decimal_digits k h) in
    rw (within 1 (suc (length (decimal k))) (omega arith), within (suc (length (decimal k))) 32 (omega arith), d) refl

tenant_is : (m : ℕ) → m < 2 ^ 64 → is_tenant (tenant_of m) ≡ true
tenant_is m h =
    let l = short m h in
    let d = all_also is_ascii_digit is_tenant_byte digit_of_tenant (decimal m) (decimal_digits m h) in
    rw (within 1 (suc (length (decimal m))) (omega arith), within (suc (length (decimal m))) 150 (omega arith), d) refl

-- ---- lines

-- a line by its words
abbrev worded : List Issued → List ℕ → Option Line
worded is l = option_and_then (λ verb. line_with false is verb.front verb.behind) (next_word l)

abbrev pub numbered : ℕ → Line → Numbered
numbered n x = record { number = n; line = x }

line_is : (n : ℕ) (is : List Issued) (l rest : List ℕ) (x : Line) → is_passed l ≡ false → list_all is_printed l ≡ true → worded is l ≡ Some x
    → lines_from false n is (file_lines (l ++ 10 ∷ rest)) ≡ with_line (numbered n x) (lines_from false (n + 1) (issued_after n x is) (file_lines rest))
unfolding lines_from line_of
line_is n is l rest x h p w = rw (line_cut l rest p) (rw h (rw (printed_text l p) (rw w refl)))

spaced_printed : (w behind : List ℕ) → list_all is_printed w ≡ true → list_all is_printed behind ≡ true → list_all is_printed (spaced w behind) ≡ true
spaced_printed w behind h k = all_both is_printed w (32 ∷ behind) h k

-- ---- a tenant's page is taken in

abbrev ingest_text : (m : ℕ) → List ℕ
ingest_text m = spaced (codes "ingest") (spaced (tenant_of m) (page_name m))

abbrev pub ingested : (m : ℕ) → Line
ingested m = script.ingest (tenant_of m) (page_name m) 0

ingest_by : (tenant file : List ℕ) → IsSolid tenant → IsSolid file → is_tenant tenant ≡ true → ingest_of (spaced tenant file) ≡ Some (script.ingest tenant file 0)
unfolding ingest_of
ingest_by tenant file t f h =
    rw (next_is tenant file t (alone file f)) (rw h (rw (solid_word file f) (rw (printed_text file (solid_printed_all file f)) refl)))

ingest_is : (m : ℕ) (is : List Issued) → m < 2 ^ 64 → worded is (ingest_text m) ≡ Some (ingested m)
ingest_is m is h = ingest_by (tenant_of m) (page_name m) (behind_letter 116 m refl h) (behind_letter 103 m refl h) (tenant_is m h)

letter_printed : (c n : ℕ) → is_solid c ≡ true → n < 2 ^ 64 → list_all is_printed (c ∷ decimal n) ≡ true
letter_printed c n h l = solid_printed_all (c ∷ decimal n) (behind_letter c n h l)

ingest_printed : (m : ℕ) → m < 2 ^ 64 → list_all is_printed (ingest_text m) ≡ true
ingest_printed m h =
    spaced_printed (codes "ingest") (spaced (tenant_of m) (page_name m)) refl (spaced_printed (tenant_of m) (page_name m) (letter_printed 116 m refl h) (letter_printed 103 m refl h))

ingest_cut : (m : ℕ) (rest : List ℕ) → ingest_line m ++ rest ≡ ingest_text m ++ 10 ∷ rest
ingest_cut m rest = simp append_assoc refl

pub ingest_read : (m n : ℕ) (is : List Issued) (rest : List ℕ) → m < 2 ^ 64
    → lines_from false n is (file_lines (ingest_line m ++ rest)) ≡ with_line (numbered n (ingested m)) (lines_from false (n + 1) is (file_lines rest))
ingest_read m n is rest h =
    ap (λ bs. lines_from false n is (file_lines bs)) (ingest_cut m rest) ∙ line_is n is (ingest_text m) rest (ingested m) refl (ingest_printed m h) (ingest_is m is h)

-- ---- a query is asked

record IsQuery (query : List ℕ) : Type 0 where
  pub begins : past_blanks query ≡ query
  pub trimmed : trimmed_text query ≡ Some query
  pub printed : list_all is_printed query ≡ true
  pub short : length query ≤ 28

query_is : (q : ℕ) → IsQuery (query_text q)
unfolding trimmed_text
query_is zero = record { begins = refl; trimmed = refl; printed = refl; short = omega arith }
query_is (suc zero) = record { begins = refl; trimmed = refl; printed = refl; short = omega arith }
query_is (suc (suc zero)) = record { begins = refl; trimmed = refl; printed = refl; short = omega arith }
query_is (suc (suc (suc zero))) = record { begins = refl; trimmed = refl; printed = refl; short = omega arith }
query_is (suc (suc (suc (suc n)))) = record { begins = refl; trimmed = refl; printed = refl; short = omega arith }

abbrev ask_words : (id tenant first last query : List ℕ) → List ℕ
ask_words id tenant first last query = spaced id (spaced tenant (spaced first (spaced last (spaced (codes "60000") query))))

ask_by : (is : List Issued) (id tenant first last query : List ℕ) (start end : ℕ) → IsSolid id → IsSolid tenant → IsSolid first → IsSolid last → IsQuery query
    → number_of first ≡ Some start → number_of last ≡ Some end → is_id id ≡ true → is_new id is ≡ true → is_tenant tenant ≡ true
    → ask_of is (ask_words id tenant first last query) ≡ Some (script.ask id tenant start end 60000 query)
unfolding ask_of
ask_by is id tenant first last query start end i t f l q s e a b c =
    rw (next_is id (spaced tenant (spaced first (spaced last (spaced (codes "60000") query)))) i (begun tenant _ t))
    (rw (next_is tenant (spaced first (spaced last (spaced (codes "60000") query))) t (begun first _ f))
    (rw (next_is first (spaced last (spaced (codes "60000") query)) f (begun last _ l))
    (rw (next_is last (spaced (codes "60000") query) l (begun (codes "60000") (32 ∷ query) refl))
    (rw q.begins (rw (s, e, sixty, q.trimmed, a, b, c) refl)))))

abbrev ask_text : (k m s e : ℕ) (query : List ℕ) → List ℕ
ask_text k m s e query = spaced (codes "ask") (ask_words (id_of k) (tenant_of m) (decimal s) (decimal e) query)

abbrev pub asked : (k m s e : ℕ) (query : List ℕ) → Line
asked k m s e query = script.ask (id_of k) (tenant_of m) s e 60000 query

ask_is : (k m s e : ℕ) (query : List ℕ) (is : List Issued) → k < 2 ^ 64 → m < 2 ^ 64 → s < 9223372036854775808 → e < 9223372036854775808
    → IsQuery query → is_new (id_of k) is ≡ true → worded is (ask_text k m s e query) ≡ Some (asked k m s e query)
ask_is k m s e query is h i j l q new =
    ask_by is (id_of k) (tenant_of m) (decimal s) (decimal e) query s e (behind_letter 113 k refl h) (behind_letter 116 m refl i)
    (decimal_solid s (omega arith)) (decimal_solid e (omega arith)) q (number_is s j) (number_is e l) (id_is k h) new (tenant_is m i)

decimal_printed : (n : ℕ) → n < 9223372036854775808 → list_all is_printed (decimal n) ≡ true
decimal_printed n h = solid_printed_all (decimal n) (decimal_solid n (omega arith))

words_printed : (id tenant first last query : List ℕ) → list_all is_printed id ≡ true → list_all is_printed tenant ≡ true → list_all is_printed first ≡ true
    → list_all is_printed last ≡ true → list_all is_printed query ≡ true → list_all is_printed (ask_words id tenant first last query) ≡ true
words_printed id tenant first last query i t f l q =
    spaced_printed id (spaced tenant (spaced first (spaced last (spaced (codes "60000") query)))) i
    (spaced_printed tenant (spaced first (spaced last (spaced (codes "60000") query))) t
    (spaced_printed first (spaced last (spaced (codes "60000") query)) f (spaced_printed last (spaced (codes "60000") query) l (spaced_printed (codes "60000") query refl q))))

ask_printed : (k m s e : ℕ) (query : List ℕ) → k < 2 ^ 64 → m < 2 ^ 64 → s < 9223372036854775808 → e < 9223372036854775808 → IsQuery query
    → list_all is_printed (ask_text k m s e query) ≡ true
ask_printed k m s e query h i j l q =
    words_printed (id_of k) (tenant_of m) (decimal s) (decimal e) query
    (letter_printed 113 k refl h) (letter_printed 116 m refl i) (decimal_printed s j) (decimal_printed e l) q.printed

ask_cut : (k q s : ℕ) (rest : List ℕ) → ask_line k q s ++ rest ≡ ask_text k (k % 4) s (s + 21600000) (query_text q) ++ 10 ∷ rest
ask_cut k q s rest = simp append_assoc refl

pub ask_read : (k q s n : ℕ) (is : List Issued) (rest : List ℕ) → k < 2 ^ 63 → s < 2 ^ 62 → is_new (id_of k) is ≡ true
    → lines_from false n is (file_lines (ask_line k q s ++ rest))
    ≡ with_line (numbered n (asked k (k % 4) s (s + 21600000) (query_text q))) (lines_from false (n + 1) (issued_at (id_of k) n ∷ is) (file_lines rest))
ask_read k q s n is rest h l new =
    ap (λ bs. lines_from false n is (file_lines bs)) (ask_cut k q s rest)
    ∙ line_is n is (ask_text k (k % 4) s (s + 21600000) (query_text q)) rest (asked k (k % 4) s (s + 21600000) (query_text q)) refl
    (ask_printed k (k % 4) s (s + 21600000) (query_text q) (omega arith) (omega arith) (omega arith) (omega arith) (query_is q))
    (ask_is k (k % 4) s (s + 21600000) (query_text q) is (omega arith) (omega arith) (omega arith) (omega arith) (query_is q) new)

-- ---- and answered

abbrev pub issued : (k n : ℕ) (answered : Bool) → Issued
issued k n answered = record { id = id_of k; line = n; answered = answered; kept = false }

abbrev answer_text : (k : ℕ) → List ℕ
answer_text k = spaced (codes "answer") (id_of k)

abbrev pub answered : (k n : ℕ) → Line
answered k n = script.answer (id_of k) n

bytes_same : (bs : List ℕ) → bytes_eq bs bs ≡ true
bytes_same [] = refl
bytes_same (b ∷ bs) = both (nat_eq b b) (bytes_eq bs bs) (nat_same b) (bytes_same bs)

answer_by : (k n : ℕ) (is : List Issued) → k < 2 ^ 64 → answer_of (issued k n false ∷ is) (id_of k) ≡ Some (answered k n)
unfolding answer_of unanswered_of
answer_by k n is h = rw (solid_word (id_of k) (behind_letter 113 k refl h)) (rw (bytes_same (id_of k)) refl)

answered_by : (k n : ℕ) (is : List Issued) → answered_as (id_of k) (issued k n false ∷ is) ≡ issued k n true ∷ is
answered_by k n is = rw (bytes_same (id_of k)) refl

answer_cut : (k : ℕ) (rest : List ℕ) → answer_line k ++ rest ≡ answer_text k ++ 10 ∷ rest
answer_cut k rest = simp append_assoc refl

pub answer_read : (k m n : ℕ) (is : List Issued) (rest : List ℕ) → k < 2 ^ 64
    → lines_from false n (issued k m false ∷ is) (file_lines (answer_line k ++ rest))
    ≡ with_line (numbered n (answered k m)) (lines_from false (n + 1) (issued k m true ∷ is) (file_lines rest))
answer_read k m n is rest h =
    ap (λ bs. lines_from false n (issued k m false ∷ is) (file_lines bs)) (answer_cut k rest)
    ∙ line_is n (issued k m false ∷ is) (answer_text k) rest (answered k m) refl (spaced_printed (codes "answer") (id_of k) refl (letter_printed 113 k refl h)) (answer_by k m is h)
    ∙ ap (λ js. with_line (numbered n (answered k m)) (lines_from false (n + 1) js (file_lines rest))) (answered_by k m is)

-- ---- lengths

pub ingest_short : (m : ℕ) → m < 2 ^ 64 → length (ingest_line m) ≤ 100
ingest_short m h =
    let l = short m h in
    omega (arith, length-append (decimal m) (codes " g" ++ (decimal m ++ codes "\n")), length-append (decimal m) (codes "\n"))

ask_long : (k m s e query : List ℕ) → length k ≤ 20 → length m ≤ 20 → length s ≤ 20 → length e ≤ 20 → length query ≤ 28
    → length ((codes "ask q" ++ (k ++ (codes " t" ++ (m ++ codes " ")))) ++ ((s ++ (codes " " ++ (e ++ codes " 60000 "))) ++ (query ++ codes "\n"))) ≤ 150
ask_long k m s e query a b c d f = simp length-append (omega (arith, a, b, c, d, f))

answer_long : (k : List ℕ) → length k ≤ 20 → length (codes "answer q" ++ (k ++ codes "\n")) ≤ 50
answer_long k h = simp length-append (omega (arith, h))

pub query_short : (k q s : ℕ) → k < 2 ^ 63 → s < 2 ^ 62 → length (query_lines k q s) ≤ 200
query_short k q s h l =
    let a = ask_long (decimal k) (decimal (k % 4)) (decimal s) (decimal (s + 21600000)) (query_text q)
    (short k (omega arith)) (short (k % 4) (omega arith)) (short s (omega arith)) (short (s + 21600000) (omega arith)) (query_is q).short in
    let b = answer_long (decimal k) (short k (omega arith)) in
    omega (arith, length-append (ask_line k q s) (answer_line k), a, b)
