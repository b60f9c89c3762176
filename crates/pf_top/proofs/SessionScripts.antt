-- The script of each seed's session is read, and asks a hundred queries.
use Rattle.std.proofs.Common.{◌≡◌, ◌∙◌, ℕ, zero, suc, ◌+◌, ◌*◌, ◌%◌, ◌^◌, ◌<◌, ◌≤◌, true, false, Result, Ok, Err, List, [], ◌∷◌, ◌++◌, length, drop, nat_le, refl, sym, ap, subst, arith, append-nil, append_assoc, length-append}
use Rattle.std.proofs.lemmas.Bool.{false_from_ne_true}
use Rattle.std.proofs.lemmas.Fmt.{decimal_injective}
use Rattle.std.proofs.lemmas.List.Sums.{sum_by-append}
use Rattle.std.proofs.lemmas.Slice.Eq.{bytes_eq-Decides}
use Rattle.std.specs.Str.{bytes_eq}
use Rattle.pf_gen.specs.Draws.{behind, drawn_behind}
use Rattle.pf_gen.specs.Sessions.{all_below, answer_line, ask_line, ingest_line, numbered_lines, query_lines, query_text, Session, script_text, session}
use Rattle.pf_model.specs.Exposition.{file_lines}
use Rattle.pf_journal.specs.Scripts.{Issued, Numbered, is_new, lines_from, most_bytes, script_of, with_line}
use Rattle.pf_journal.specs.Summaries.{asks}
use Rattle.pf_top.proofs.SessionLines.{answer_read, answered, ask_read, asked, id_of, ingest_read, ingest_short, ingested, issued, numbered, query_short, within}

-- ---- lines one after another

-- lines before what is read behind them
abbrev with_lines : List Numbered → Result (List Numbered) ℕ → Result (List Numbered) ℕ
with_lines [] r = r
with_lines (x ∷ xs) r = with_line x (with_lines xs r)

with_more : (xs ys : List Numbered) (r : Result (List Numbered) ℕ) → with_lines (xs ++ ys) r ≡ with_lines xs (with_lines ys r)
with_more [] ys r = refl
with_more (x ∷ xs) ys r = ap (with_line x) (with_more xs ys r)

with_none : (xs : List Numbered) → with_lines xs (Ok []) ≡ Ok xs
with_none [] = refl
with_none (x ∷ xs) = ap (with_line x) (with_none xs)

-- a text of whole lines reads as these, from a number and IDs to a number and IDs
abbrev Reads : List ℕ → List Numbered → ℕ → List Issued → ℕ → List Issued → Type 0
Reads text xs n is m js = (rest : List ℕ) → lines_from false n is (file_lines (text ++ rest)) ≡ with_lines xs (lines_from false m js (file_lines rest))

reads_both : (a b : List ℕ) (xs ys : List Numbered) (n m o : ℕ) (is js ks : List Issued) → Reads a xs n is m js → Reads b ys m js o ks → Reads (a ++ b) (xs ++ ys) n is o ks
reads_both a b xs ys n m o is js ks h k rest =
    ap (λ bs. lines_from false n is (file_lines bs)) (append_assoc a b rest) ∙ h (b ++ rest) ∙ ap (with_lines xs) (k rest) ∙ sym (with_more xs ys (lines_from false o ks (file_lines rest)))

asks_more : (xs ys : List Numbered) → asks (xs ++ ys) ≡ asks xs + asks ys
asks_more xs ys = sum_by-append _ xs ys

-- ---- the pages are taken in

record Ingests (m : ℕ) : Type 0 where
  pub lines : List Numbered
  pub reads : Reads (all_below ingest_line m) lines 1 [] (m + 1) []
  pub none : asks lines ≡ 0

next_ingest : (m : ℕ) → m + 1 + 1 ≡ suc m + 1
next_ingest m = omega arith

ingests : (m : ℕ) → m ≤ 4 → Ingests m
unfolding all_below
ingests zero h = record { lines = []; reads = λ rest. refl; none = refl }
ingests (suc m) h =
    let i = ingests m (omega arith) in
    record {
      lines = i.lines ++ numbered (m + 1) (ingested m) ∷ [];
      reads = reads_both (all_below ingest_line m) (ingest_line m) i.lines (numbered (m + 1) (ingested m) ∷ []) 1 (m + 1) (suc m + 1) [] [] [] i.reads
          (subst (λ n. Reads (ingest_line m) (numbered (m + 1) (ingested m) ∷ []) (m + 1) [] n []) (next_ingest m) (λ rest. ingest_read m (m + 1) [] rest (omega arith)));
      none = asks_more i.lines (numbered (m + 1) (ingested m) ∷ []) ∙ omega (arith, i.none);
    }

-- ---- the queries are asked and answered

query_read : (k q s n : ℕ) (is : List Issued) → k < 2 ^ 63 → s < 2 ^ 62 → is_new (id_of k) is ≡ true
    → Reads (query_lines k q s) (numbered n (asked k (k % 4) s (s + 21600000) (query_text q)) ∷ numbered (n + 1) (answered k n) ∷ []) n is (n + 1 + 1) (issued k n true ∷ is)
query_read k q s n is h l new rest =
    ap (λ bs. lines_from false n is (file_lines bs)) (append_assoc (ask_line k q s) (answer_line k) rest)
    ∙ ask_read k q s n is (answer_line k ++ rest) h l new
    ∙ ap (with_line (numbered n (asked k (k % 4) s (s + 21600000) (query_text q)))) (answer_read k n (n + 1) is rest (omega arith))

-- an ID of another query
other : (j k : ℕ) → j < k → k < 2 ^ 64 → bytes_eq (id_of j) (id_of k) ≡ false
other j k h l = false_from_ne_true _ (λ e. differ ((bytes_eq-Decides (id_of j) (id_of k)).0 e)) where
  differ : id_of j ≡ id_of k → ⊥
  differ e = omega (arith, decimal_injective j k (omega arith) l (ap (drop 1) e))

record Queries (state k : ℕ) : Type 0 where
  pub lines : List Numbered
  pub issued : List Issued
  pub reads : Reads (all_below (numbered_lines state) k) lines 5 [] (k * 2 + 5) issued
  pub new : (j : ℕ) → k ≤ j → j < 2 ^ 64 → is_new (id_of j) issued ≡ true
  pub many : asks lines ≡ k

start_small : (x : ℕ) → x % 360 * 60000 < 2 ^ 62
start_small x = omega arith

next_line : (k : ℕ) → k * 2 + 5 + 1 + 1 ≡ suc k * 2 + 5
next_line k = omega arith

new_too : (k j : ℕ) (is : List Issued) (n : ℕ) → k < j → j < 2 ^ 64 → is_new (id_of j) is ≡ true → is_new (id_of j) (issued k n true ∷ is) ≡ true
new_too k j is n h l new = rw (other k j h l, new) refl

one_query : (state k : ℕ) → k < 2 ^ 63 → Queries state k → Queries state (suc k)
unfolding all_below
one_query state k h a =
    let q : ℕ = drawn_behind 0 (behind (k * 2) state) % 5 in
    let s : ℕ = drawn_behind 1 (behind (k * 2) state) % 360 * 60000 in
    let n : ℕ = k * 2 + 5 in
    let ys : List Numbered = numbered n (asked k (k % 4) s (s + 21600000) (query_text q)) ∷ numbered (n + 1) (answered k n) ∷ [] in
    let js : List Issued = issued k n true ∷ a.issued in
    let b : Reads (numbered_lines state k) ys n a.issued (suc k * 2 + 5) js =
    subst (λ m. Reads (numbered_lines state k) ys n a.issued m js) (next_line k) (query_read k q s n a.issued h (start_small _) (a.new k (omega arith) (omega arith))) in
    record {
      lines = a.lines ++ ys;
      issued = js;
      reads = reads_both (all_below (numbered_lines state) k) (numbered_lines state k) a.lines ys 5 n (suc k * 2 + 5) [] a.issued js a.reads b;
      new = λ j l m. new_too k j a.issued n l m (a.new j (omega arith) m);
      many = asks_more a.lines ys ∙ omega (arith, a.many);
    }

no_query : (state : ℕ) → Queries state zero
unfolding all_below
no_query state = record { lines = []; issued = []; reads = λ rest. refl; new = λ j l m. refl; many = refl }

queries : (state k : ℕ) → k < 2 ^ 63 → Queries state k
queries state zero h = no_query state
queries state (suc k) h = one_query state k (omega arith) (queries state k (omega arith))

-- ---- lengths

ingests_short : (m : ℕ) → m ≤ 4 → length (all_below ingest_line m) ≤ m * 100
unfolding all_below
ingests_short zero h = omega arith
ingests_short (suc m) h = omega (arith, length-append (all_below ingest_line m) (ingest_line m), ingests_short m (omega arith), ingest_short m (omega arith))

queries_short : (state k : ℕ) → k < 2 ^ 63 → length (all_below (numbered_lines state) k) ≤ k * 200
unfolding all_below
queries_short state zero h = omega arith
queries_short state (suc k) h =
    let q : ℕ = drawn_behind 0 (behind (k * 2) state) % 5 in
    let s : ℕ = drawn_behind 1 (behind (k * 2) state) % 360 * 60000 in
    let l : length (numbered_lines state k) ≤ 200 = query_short k q s (omega arith) (start_small _) in
    omega (arith, length-append (all_below (numbered_lines state) k) (numbered_lines state k), queries_short state k (omega arith), l)

-- ---- the script

script_short : (state : ℕ) → nat_le (length (script_text state)) most_bytes ≡ true
script_short state =
    within _ _ (omega (arith, length-append (all_below ingest_line 4) (all_below (numbered_lines state) 100), ingests_short 4 (omega arith), queries_short state 100 (omega arith)))

script_lines : (state : ℕ) → (lines : List Numbered) × ((lines_from false 1 [] (file_lines (script_text state)) ≡ Ok lines) × (asks lines ≡ 100))
unfolding lines_from
script_lines state =
    let a = ingests 4 (omega arith) in
    let b = queries state 100 (omega arith) in
    let r = reads_both (all_below ingest_line 4) (all_below (numbered_lines state) 100) a.lines b.lines 1 5 205 [] [] b.issued a.reads b.reads [] in (
      a.lines ++ b.lines,
      (
        ap (λ bs. lines_from false 1 [] (file_lines bs)) (sym (append-nil (script_text state))) ∙ r ∙ with_none (a.lines ++ b.lines),
        asks_more a.lines b.lines ∙ omega (arith, a.none, b.many),
      ),
    )

script_read : (state : ℕ) → (lines : List Numbered) × ((script_of false (script_text state) ≡ Ok lines) × (asks lines ≡ 100))
unfolding script_of
script_read state = let s = script_lines state in (s.0, (rw (script_short state) s.1.0, s.1.1))

-- for every seed
pub session_read : (seed : ℕ) → (lines : List Numbered) × ((script_of false (session seed).script ≡ Ok lines) × (asks lines ≡ 100))
session_read seed = script_read (behind 288400 seed)

-- ---- no line is refused, and a hundred are asks

pub never_refused : (seed line : ℕ) → script_of false (session seed).script ≡ Err line → ⊥
never_refused seed line e = apart (session_read seed).0 line (sym (session_read seed).1.0 ∙ e) where
  apart : (lines : List Numbered) (line : ℕ) → ◌≡◌ {A = Result (List Numbered) ℕ} (Ok lines) (Err line) → ⊥
  apart lines line e = cc

pub hundred_asks : (seed : ℕ) (lines : List Numbered) → script_of false (session seed).script ≡ Ok lines → asks lines ≡ 100
hundred_asks seed lines e = ap asks (same lines (session_read seed).0 (sym e ∙ (session_read seed).1.0)) ∙ (session_read seed).1.1 where
  same : (xs ys : List Numbered) → ◌≡◌ {A = Result (List Numbered) ℕ} (Ok xs) (Ok ys) → xs ≡ ys
  same xs ys e = cc

-- ---- the same by what was generated

same_script : (seed : ℕ) (g : Session) (given : List ℕ) (r : Result (List Numbered) ℕ) → g ≡ session seed → given ≡ g.script → script_of false given ≡ r
    → script_of false (session seed).script ≡ r
same_script seed g given r is same read = sym (ap (script_of false) (same ∙ ap (λ (s : Session). s.script) is)) ∙ read

pub generated_refused : (seed : ℕ) (g : Session) (given : List ℕ) (line : ℕ) → g ≡ session seed → given ≡ g.script → script_of false given ≡ Err line → ⊥
generated_refused seed g given line is same bad = never_refused seed line (same_script seed g given (Err line) is same bad)

pub generated_asks : (seed : ℕ) (g : Session) (given : List ℕ) (lines : List Numbered) → g ≡ session seed → given ≡ g.script → script_of false given ≡ Ok lines
    → asks lines ≡ 100
generated_asks seed g given lines is same read = hundred_asks seed lines (same_script seed g given (Ok lines) is same read)
