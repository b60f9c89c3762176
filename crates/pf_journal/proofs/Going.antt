-- A client that goes on by a line: with an entry or without, its lines and its own entries stay woven.
use Rattle.std.proofs.Common.{codes, decimal, None, append-nil, append_assoc, ◌≡◌, ℕ, ◌<◌, zero, suc, List, [], ◌∷◌, ◌++◌, length, slice_get, take, refl, ap, sym, subst, ◌∙◌, Some, inl, inr, arith}
use Rattle.std.proofs.lemmas.Option.{none-some, slice_get_within}
use Rattle.std.proofs.lemmas.List.{length-append}
use Rattle.json.proofs.Found.{Some_inj}
use Rattle.pf_base.specs.declared.plain.Limits.{Limits}
use Rattle.pf_model.specs.Lists.{Each, joined}
use Rattle.pf_journal.proofs.Growing.{hands_behind, lines_behind, turns-entered, turns-snoc}
use Rattle.pf_journal.specs.Legal.{Moment}
use Rattle.pf_journal.specs.Machine.{Entry}
use Rattle.pf_journal.specs.Replies.{line_text, reply_of}
use Rattle.pf_journal.specs.Report.{client_text}
use Rattle.pf_journal.specs.Rest.{at_end, Client, Known, Told, Why}
use Rattle.pf_journal.specs.Scripts.{Numbered}
use Rattle.pf_journal.specs.Turns.{Ran, Turn, ran_lines, turn_of, turns}
use Rattle.pf_journal.specs.Weave.{IsLineOf, IsWoven, Lacks, Rises, RunsTo, Woven, stops_at}

-- ---- lists

each-snoc : {X : Type 0} (P : X → Type 0) (xs : List X) (x : X) → Each P xs → P x → Each P (xs ++ x ∷ [])
each-snoc P [] x h p = (p, tt)
each-snoc P (y ∷ ys) x h p = (h.0, each-snoc P ys x h.1 p)

each-so : {X : Type 0} (P Q : X → Type 0) → ((x : X) → P x → Q x) → (xs : List X) → Each P xs → Each Q xs
each-so P Q f [] h = tt
each-so P Q f (x ∷ xs) h = (f x h.0, each-so P Q f xs h.1)

-- ---- lines that ran

ran-none : (ls : List Numbered) → ran_lines ls [] ≡ []
ran-none [] = refl
ran-none (l ∷ ls) = refl

-- a further line, with what was told of it
pub ran-snoc : (lines : List Numbered) (told : List Told) (t : Told) (l : Numbered) → slice_get lines (length told) ≡ Some l →
    ran_lines lines (told ++ t ∷ []) ≡ ran_lines lines told ++ record { line = l; told = t } ∷ []
ran-snoc [] told t l h = absurd (none-some _ h)
ran-snoc (x ∷ ls) [] t l h = rw (ran-none ls) (ap (λ y. record { line = y; told = t } ∷ []) (Some_inj _ _ h))
ran-snoc (x ∷ ls) (u ∷ us) t l h = ap (λ rs. record { line = x; told = u } ∷ rs) (ran-snoc ls us t l h)

-- more lines have those that fewer have, and the one behind them
line_more : (ls : List Numbered) (k n : ℕ) → IsLineOf (take k ls) n → IsLineOf (take (suc k) ls) n
line_more [] zero n h = absurd h
line_more [] (suc k) n h = absurd h
line_more (l ∷ ls) zero n h = absurd h
line_more (l ∷ ls) (suc k) n (inl h) = inl h
line_more (l ∷ ls) (suc k) n (inr h) = inr (line_more ls k n h)

line_there : (ls : List Numbered) (k : ℕ) (l : Numbered) → slice_get ls k ≡ Some l → IsLineOf (take (suc k) ls) l.number
line_there [] k l h = absurd (none-some _ h)
line_there (x ∷ ls) zero l h = inl (ap (λ y. y.number) (Some_inj _ _ h))
line_there (x ∷ ls) (suc k) l h = inr (line_there ls k l h)

rises-snoc : (below : ℕ) (own : List Moment) (x : Moment) → Rises below own → below < x.entry.line
    → Each (λ y. y.entry.line < x.entry.line) own → Rises below (own ++ x ∷ [])
rises-snoc below [] x r b h = (b, tt)
rises-snoc below (y ∷ own) x r b h = (r.0, rises-snoc y.entry.line own x r.1 h.0 h.1)

-- ---- going on

-- the turn of a further line
abbrev pub turn_behind : (own : List Moment) → List Ran → Ran → Turn
turn_behind own rs r = turn_of own (lines_behind [] rs) (hands_behind [] rs) r

-- a client's lines with one more
abbrev pub going : List Told → Told → Why → Client
going told t why = record { told = told ++ t ∷ []; why = why }

pub one_more : (told : List Told) (t : Told) → length (told ++ t ∷ []) ≡ suc (length told)
one_more told t = length-append told (t ∷ []) ∙ omega arith

-- a line without an entry
pub woven_stays : (known : Known) (own : List Moment) (lines : List Numbered) (told : List Told) (why : Why) (l : Numbered) (t : Told)
    → Woven known own lines (record { told = told; why = why }) → slice_get lines (length told) ≡ Some l
    → IsWoven known (turn_behind own (ran_lines lines told) (record { line = l; told = t }))
    → Woven known own lines (going told t why)
woven_stays known own lines told why l t w there turned = record {
  few = rw (one_more told t) (slice_get_within lines (length told) l there);
  rising = w.rising;
  lined = rw (one_more told t)
      (each-so _ _ (λ x h. line_more lines (length told) x.entry.line h) own w.lined);
  each = rw (ran-snoc lines told t l there) (rw (turns-snoc own [] [] (ran_lines lines told) (record { line = l; told = t }))
      (each-snoc (IsWoven known) _ _ w.each turned));
}

-- a line with an entry
pub woven_enters : (known : Known) (own : List Moment) (x : Moment) (lines : List Numbered) (told : List Told) (why : Why) (l : Numbered) (t : Told)
    → Woven known own lines (record { told = told; why = why }) → slice_get lines (length told) ≡ Some l
    → 0 < l.number → x.entry.line ≡ l.number → Each (λ y. y.entry.line < x.entry.line) own
    → Each (λ r. r.line.number < x.entry.line) (ran_lines lines told)
    → IsWoven known (turn_behind (own ++ x ∷ []) (ran_lines lines told) (record { line = l; told = t }))
    → Woven known (own ++ x ∷ []) lines (going told t why)
woven_enters known own x lines told why l t w there first same above below turned = record {
  few = rw (one_more told t) (slice_get_within lines (length told) l there);
  rising = rises-snoc 0 own x w.rising (rw same first) above;
  lined = rw (one_more told t) (each-snoc _ own x
      (each-so _ _ (λ y h. line_more lines (length told) y.entry.line h) own w.lined)
      (subst (IsLineOf (take (suc (length told)) lines)) (sym same) (line_there lines (length told) l there)));
  each = rw (ran-snoc lines told t l there) (rw (turns-snoc (own ++ x ∷ []) [] [] (ran_lines lines told) (record { line = l; told = t }))
      (each-snoc (IsWoven known) _ _ (rw (turns-entered own x [] [] (ran_lines lines told) below) w.each) turned));
}

-- ---- where a client stops

abbrev pub NeverStops : List Ran → Type 0
NeverStops rs = Each (λ r. stops_at r.line.line r.told ≡ None) rs

-- a client that nothing stops runs to its script's end
pub runs_to_end : (limits : Limits) (journal : List Entry) (client : ℕ) (rs : List Ran) → NeverStops rs
    → RunsTo limits journal client at_end [] rs
runs_to_end limits journal client [] h = (refl, refl)
runs_to_end limits journal client (r ∷ rs) h = rw h.0 (runs_to_end limits journal client rs h.1)

-- and another to the line that stops it
pub runs_to_stop : (limits : Limits) (journal : List Entry) (client : ℕ) (why : Why) (left : List Numbered) (rs : List Ran) (r : Ran)
    → NeverStops rs → stops_at r.line.line r.told ≡ Some why → Lacks limits journal client r.line.line why
    → RunsTo limits journal client why left (rs ++ r ∷ [])
runs_to_stop limits journal client why left [] r h stop lacks = rw stop (refl, refl, lacks)
runs_to_stop limits journal client why left (x ∷ rs) r h stop lacks = rw h.0 (runs_to_stop limits journal client why left rs r h.1 stop lacks)

-- ---- what is printed

joined-snoc : {X : Type 0} (f : X → List ℕ) (xs : List X) (x : X) → joined f (xs ++ x ∷ []) ≡ joined f xs ++ f x
joined-snoc f [] x = append-nil (f x)
joined-snoc f (y ∷ ys) x = ap (λ bytes. f y ++ bytes) (joined-snoc f ys x) ∙ sym (append_assoc (f y) (joined f ys) (f x))

-- a line adds its reply
pub text_grows : (known : Known) (own : List Moment) (client : ℕ) (lines : List Numbered) (told : List Told) (why : Why) (l : Numbered) (t : Told)
    → slice_get lines (length told) ≡ Some l
    → client_text known own client lines (going told t why)
    ≡ client_text known own client lines (record { told = told; why = why })
    ++ reply_of known (turn_behind own (ran_lines lines told) (record { line = l; told = t }))
text_grows known own client lines told why l t there =
    rw (ran-snoc lines told t l there) (rw (turns-snoc own [] [] (ran_lines lines told) (record { line = l; told = t }))
    (rw (joined-snoc (reply_of known) (turns own (ran_lines lines told)) (turn_behind own (ran_lines lines told) (record { line = l; told = t })))
    (sym (append_assoc (line_text (codes "client" ∷ decimal client ∷ [])) (joined (reply_of known) (turns own (ran_lines lines told)))
    (reply_of known (turn_behind own (ran_lines lines told) (record { line = l; told = t })))))))

-- an entry of a line below leaves what was printed
pub text_stays : (known : Known) (own : List Moment) (x : Moment) (client : ℕ) (lines : List Numbered) (c : Client)
    → Each (λ r. r.line.number < x.entry.line) (ran_lines lines c.told)
    → client_text known (own ++ x ∷ []) client lines c ≡ client_text known own client lines c
text_stays known own x client lines c below = rw (turns-entered own x [] [] (ran_lines lines c.told) below) refl
