-- Files, line by line.
use Rattle.std.proofs.Common.{◌≡◌, ◌∙◌, ℕ, ◌+◌, ◌<◌, ◌≤◌, min, Ok, List, [], ◌∷◌, ◌++◌, length, refl, sym, ap, subst, arith, append_assoc, append-nil, length-append}
use Rattle.pf_base.specs.Batches.{BatchData}
use Rattle.pf_model.specs.Exposition.{Fault, Given, Gives, IsAtFault, LineGives, LinesGive, Stops, file_lines, no_number, nothing, rows_of, sample, skipped_of}
use Rattle.pf_expo.specs.Answers.{Added}

-- what was taken of a file before its rest
pub record Going (default : ℕ) (bytes rest : List ℕ) (batch : BatchData) (line : ℕ) : Type 0 where
  pub front : List (List ℕ)
  pub split : file_lines bytes ≡ front ++ file_lines rest
  pub gives : Gives default front batch
  pub number : line ≡ min (length front) 4294967295

rows_append : (gs hs : List Given) → rows_of (gs ++ hs) ≡ rows_of gs ++ rows_of hs
rows_append [] hs = refl
rows_append (nothing ∷ gs) hs = rows_append gs hs
rows_append (no_number ∷ gs) hs = rows_append gs hs
rows_append (sample row ∷ gs) hs = ap (λ rs. row ∷ rs) (rows_append gs hs)

skipped_append : (gs hs : List Given) → skipped_of (gs ++ hs) ≡ skipped_of gs + skipped_of hs
skipped_append [] hs = omega arith
skipped_append (nothing ∷ gs) hs = skipped_append gs hs
skipped_append (no_number ∷ gs) hs = let h = skipped_append gs hs in omega arith
skipped_append (sample row ∷ gs) hs = skipped_append gs hs

lines_more : (d : ℕ) (ls : List (List ℕ)) (gs : List Given) (l : List ℕ) (g : Given) → LinesGive d ls gs → LineGives d l (Ok g) → LinesGive d (ls ++ (l ∷ [])) (gs ++ (g ∷ []))
lines_more d [] [] l g h k = (k, tt)
lines_more d [] (x ∷ gs) l g h k = absurd h
lines_more d (x ∷ ls) [] l g h k = absurd h
lines_more d (x ∷ ls) (y ∷ gs) l g h k = (h.0, lines_more d ls gs l g h.1 k)

pub going_first : (d : ℕ) (bytes : List ℕ) (batch : BatchData) → batch.rows ≡ [] → batch.skipped ≡ 0 → Going d bytes bytes batch 0
going_first d bytes batch e h = record {
  front = [];
  split = refl;
  gives = record { each = []; given = tt; rows = e; skipped = h; few = omega (arith, ap length e) };
  number = omega arith;
}

pub going_more : (d : ℕ) (bytes rest text behind : List ℕ) (batch after : BatchData) (line n : ℕ) → Going d bytes rest batch line → file_lines rest ≡ text ∷ file_lines behind
    → Added d text batch after → n ≡ min (line + 1) 4294967295 → Going d bytes behind after n
going_more d bytes rest text behind batch after line n g e a m =
    let h = g.number in
    let l = length-append g.front (text ∷ []) in
    record {
      front = g.front ++ (text ∷ []);
      split = g.split ∙ ap (λ ls. g.front ++ ls) e ∙ sym (append_assoc g.front (text ∷ []) (file_lines behind));
      gives = record {
        each = g.gives.each ++ (a.given ∷ []);
        given = lines_more d g.front g.gives.each text a.given g.gives.given a.gives;
        rows = a.rows ∙ ap (λ rs. rs ++ rows_of (a.given ∷ [])) g.gives.rows ∙ sym (rows_append g.gives.each (a.given ∷ []));
        skipped = a.skipped ∙ ap (λ k. k + skipped_of (a.given ∷ [])) g.gives.skipped ∙ sym (skipped_append g.gives.each (a.given ∷ []));
        few = a.few;
      };
      number = omega arith;
    }

pub going_stop : (d : ℕ) (bytes rest text behind : List ℕ) (batch : BatchData) (line n m : ℕ) (fault : Fault) → Going d bytes rest batch line → file_lines rest ≡ text ∷ file_lines behind
    → n ≡ min (line + 1) 4294967295 → (m ≡ n) × IsAtFault d batch.rows text fault → Stops d (file_lines bytes) m fault
going_stop d bytes rest text behind batch line n m fault g e number f =
    let h = g.number in
    let k = f.0 in
    record { front = g.front; line = text; behind = file_lines behind; split = g.split ∙ ap (λ ls. g.front ++ ls) e; batch = batch; before = g.gives; stopped = f.1; numbered = omega arith }

pub going_end : (d : ℕ) (bytes rest : List ℕ) (batch : BatchData) (line : ℕ) → Going d bytes rest batch line → file_lines rest ≡ [] → Gives d (file_lines bytes) batch
going_end d bytes rest batch line g e =
    let P = λ (ls : List (List ℕ)). Gives d ls batch in
    subst P (sym (g.split ∙ ap (λ ls. g.front ++ ls) e ∙ append-nil g.front)) g.gives

one_skipped : (g : Given) → skipped_of (g ∷ []) ≤ 1
one_skipped nothing = omega arith
one_skipped no_number = omega arith
one_skipped (sample row) = omega arith

pub room_more : (d : ℕ) (text : List ℕ) (batch after : BatchData) (rest behind n : ℕ) → Added d text batch after → batch.skipped + rest ≤ n → behind < rest → after.skipped + behind ≤ n
room_more d text batch after rest behind n a h s = let k = one_skipped a.given in let e = a.skipped in omega arith
