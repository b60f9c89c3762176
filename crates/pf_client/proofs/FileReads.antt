-- What files give, and what was read of the texts of lines.
use Rattle.std.proofs.Common.{◌≡◌, ℕ, zero, suc, ◌+◌, ◌-◌, ◌*◌, ◌/◌, ◌<◌, ◌≤◌, ◌||◌, cond, nat_eq, Bool, true, false, Option, Some, None, Result, Ok, Err, List, [], ◌∷◌, length, ap, ◌∙◌, refl, sym, subst, arith, nat_le, nat_lt, codes, inl, inr}
use Rattle.std.specs.Arc.{arc_value}
use Rattle.std.specs.BTreeMap.{get_by_text}
use Rattle.std.specs.Option.{option_and_then, option_map, option_map_or}
use Rattle.std.specs.declared.sync.Arc.{Arc}
use Rattle.std.proofs.lemmas.Bool.Decides.{nat_tests}
use Rattle.pf_base.specs.Batches.{BatchData}
use Rattle.pf_block.specs.Snaps.{are_timed}
use Rattle.pf_journal.specs.Files.{Gives, IsRefusedAs, at_line}
use Rattle.pf_base.specs.GridLists.{GridData}
use Rattle.pf_base.specs.Grids.{grid_of}
use Rattle.pf_base.specs.Limits.{greatest_time}
use Rattle.pf_base.specs.declared.grid.GridError.{GridError}
use Rattle.pf_base.specs.declared.grid.GridError.TheVariants.{ZeroStep, TimeTooLarge, EndBeforeStart, TooManySteps}
use Rattle.pf_journal.specs.Asking.{Asked, asked_over, asked_with}
use Rattle.pf_journal.specs.Machine.{What}
use Rattle.pf_journal.specs.Replies.{refusal_of, undeleted_words}
use Rattle.pf_journal.specs.Rest.{Known}
use Rattle.pf_journal.specs.Rest as told
use Rattle.pf_journal.specs.Scripts.{Line, most_bytes}
use Rattle.pf_journal.specs.Unentered.{ToldOfDelete}
use Rattle.pf_model.specs.ErrorTexts.{QueryFault, grid_text, memory_text, query_text}
use Rattle.pf_model.specs.Queries.{IsNoSelector, IsSelector, Reading, Readings, lawful, refused}
use Rattle.pf_model.specs.declared.expr.Matcher.{Matcher}
use Rattle.pf_model.specs.declared.matchers.Matchers.{Matchers}
use Rattle.pf_types.specs.declared.bound.BoundQuery.{BoundQuery}
use Rattle.std.specs.declared.alloc.Global.{Global}
use Rattle.pf_client.specs.Asks.{wanted_by}
use Rattle.pf_client.specs.Clients.{IsFileRead}
use Rattle.pf_client.specs.Replays.{Held}
use Rattle.pf_client.specs.declared.client.FileRead.{FileRead}
use Rattle.pf_client.specs.Queries.{AreReadAs, AreReadBy, IsQueryRead, IsSelectorRead, Queries, query_reading, reading_in, readings_in}
use Rattle.pf_client.specs.declared.queries.QueryRead.TheVariants as query
use Rattle.pf_client.specs.declared.queries.SelectorRead.TheVariants as chosen
use Rattle.pf_client.specs.declared.queries.TextRead.{TextRead}
use Rattle.pf_types.specs.Errors.{words_of_error}
use Rattle.pf_types.specs.declared.query.QueryError.{QueryError}
use Rattle.pf_model.specs.Exposition as exposition
use Rattle.pf_model.specs.Exposition.{Given, nothing, no_number, sample, Fault, LinesGive, rows_of, file_lines, Stops}

rows_timed : (default : ℕ) (lines : List (List ℕ)) (gs : List Given) → LinesGive default lines gs → are_timed (rows_of gs) ≡ true
rows_timed default [] [] h = refl
rows_timed default [] (g ∷ gs) h = absurd h
rows_timed default (l ∷ ls) [] h = absurd h
rows_timed default (l ∷ ls) (nothing ∷ gs) h = rows_timed default ls gs h.1
rows_timed default (l ∷ ls) (no_number ∷ gs) h = rows_timed default ls gs h.1
rows_timed default (l ∷ ls) (sample row ∷ gs) h =
    let within : nat_le row.time 4398046511103 ≡ true = let t = h.0.1 in grind (arith, nat_tests, t) in
    rw within (rows_timed default ls gs h.1)

-- the rows of a file have times within the greatest
pub gives_timed : (default : ℕ) (lines : List (List ℕ)) (batch : BatchData) → exposition.Gives default lines batch → are_timed batch.rows ≡ true
gives_timed default lines batch h = ap are_timed h.rows ∙ rows_timed default lines h.each h.given

pub gives_held : (bytes : List ℕ) (time : ℕ) (batch : BatchData) → length bytes ≤ most_bytes
    → exposition.Gives time (file_lines bytes) batch → Gives bytes time batch
gives_held bytes time batch short g = record { short = short; gives = g }

pub stops_held : (bytes : List ℕ) (time line : ℕ) (fault : Fault) → length bytes ≤ most_bytes
    → Stops time (file_lines bytes) line fault → IsRefusedAs bytes time (at_line fault line)
stops_held bytes time line fault short g = (short, g)

-- what a file of the same name is read as
pub read_named : (files : Held) (name given : List ℕ) (time : ℕ) (r : FileRead) → given ≡ name → IsFileRead (files given) time r → IsFileRead (files name) time r
read_named files name given time r same h = subst (λ (n : List ℕ). IsFileRead (files n) time r) same h

-- ---- ranges and selectors

pub no_range : (refs : List (List ℕ)) (from to : ℕ) (selector : List ℕ) → (nat_lt to from || nat_lt greatest_time to) ≡ true → ToldOfDelete refs from to selector told.nothing
no_range refs from to selector h = by (nat_lt to from) (nat_lt greatest_time to) refl refl h where
  by : (a b : Bool) → nat_lt to from ≡ a → nat_lt greatest_time to ≡ b → (a || b) ≡ true → ToldOfDelete refs from to selector told.nothing
  by true b e f h = inl (grind (arith, nat_tests, e))
  by false true e f h = inr (inl (grind (arith, nat_tests, f)))
  by false false e f h = cc

pub range_words : (from to : ℕ) → (nat_lt to from || nat_lt greatest_time to) ≡ true → undeleted_words from to told.nothing ≡ codes "bad" ∷ codes "range" ∷ []
range_words from to h = rw h refl

pub selector_words : (from to : ℕ) → (nat_lt to from || nat_lt greatest_time to) ≡ false → undeleted_words from to told.nothing ≡ codes "bad" ∷ codes "selector" ∷ []
selector_words from to h = rw h refl

pub selects_found : (refs : List (List ℕ)) (kept : Queries) (text : List ℕ) (read : TextRead) (matchers : Arc Matchers Global) (ms : List Matcher) → AreReadBy refs kept → get_by_text kept text ≡ Some read
    → read.selector ≡ chosen.Built matchers → ms ≡ arc_value matchers → IsSelector refs text ms
selects_found refs kept text read matchers ms right there is same =
    subst (IsSelector refs text) (sym same) (subst (IsSelectorRead refs text) is (right text read there).1)

pub selects_refused : (refs : List (List ℕ)) (kept : Queries) (text : List ℕ) (read : TextRead) → AreReadBy refs kept → get_by_text kept text ≡ Some read
    → read.selector ≡ chosen.Refused → IsNoSelector refs text
selects_refused refs kept text read right there is = subst (IsSelectorRead refs text) is (right text read there).1

-- ---- queries

reading_there : (kept : Queries) (text : List ℕ) (read : TextRead) → get_by_text kept text ≡ Some read → readings_in kept text ≡ reading_in read
reading_there kept text read there = ap (option_and_then reading_in) there

-- what is asked for by a lawful query
pub asked_found : (kept : Queries) (text : List ℕ) (read : TextRead) (q : Arc BoundQuery Global) (known : Known) (line : Line) (instant : Bool) (grid : GridData) (asked : Asked)
    → get_by_text kept text ≡ Some read → read.query ≡ query.Lawful q → asked ≡ asked_over instant grid (arc_value q)
    → known.readings ≡ readings_in kept → wanted_by known line ≡ asked_with instant (Ok grid) (known.readings text)
    → wanted_by known line ≡ Some (Ok asked)
asked_found kept text read q known line instant grid asked there is made readings wanted =
    let reading : known.readings text ≡ Some (lawful (arc_value q)) =
    ap (λ (r : Readings). r text) readings ∙ reading_there kept text read there ∙ ap query_reading is in
    wanted ∙ ap (asked_with instant (Ok grid)) reading ∙ ap (λ (a : Asked). Some (Ok a)) (sym made)

-- and by one that is refused
pub asked_refused : (kept : Queries) (text : List ℕ) (read : TextRead) (e : QueryError) (known : Known) (line : Line) (instant : Bool) (grid : GridData)
    → AreReadAs kept → get_by_text kept text ≡ Some read → read.query ≡ query.Refused e
    → known.readings ≡ readings_in kept → wanted_by known line ≡ asked_with instant (Ok grid) (known.readings text)
    → wanted_by known line ≡ Some (Err (words_of_error e))
asked_refused kept text read e known line instant grid right there is readings wanted =
    let faulty = subst (IsQueryRead right.refs text) is (right.right text read there).0 in
    let reading : known.readings text ≡ Some (refused faulty.0) =
    ap (λ (r : Readings). r text) readings ∙ reading_there kept text read there ∙ ap query_reading is ∙ ap (option_map refused) faulty.1.0 in
    wanted ∙ ap (asked_with instant (Ok grid)) reading ∙ ap (λ (f : Option QueryFault). Some (Err (option_map_or query_text f memory_text))) (sym faulty.1.0)

abbrev no_what : Option What
no_what = None

pub refused_slot : (known : Known) (line : Line) (text : List ℕ) → wanted_by known line ≡ Some (Err text)
    → (no_what ≡ None) × ((told.nothing ≡ told.nothing) × (refusal_of (wanted_by known line) ≡ text))
refused_slot known line text h = (refl, (refl, ap refusal_of h))

pub bad_grid : (instant : Bool) (reading : Option Reading) (g : Result GridData GridError) (e : GridError) → g ≡ Err e
    → asked_with instant g reading ≡ Some (Err (grid_text e))
bad_grid instant reading g e h = ap (λ (x : Result GridData GridError). asked_with instant x reading) h

-- a grid of a range has a step
if_ok : (b : Bool) (e : GridError) (r : Result GridData GridError) (g : GridData) → cond b (Err e) r ≡ Ok g → r ≡ Ok g
if_ok true e r g h = cc
if_ok false e r g h = h

unless_zero : (step : ℕ) (e : GridError) (r : Result GridData GridError) (g : GridData) → cond (nat_eq step 0) (Err e) r ≡ Ok g → 0 < step
unless_zero zero e r g h = cc
unless_zero (suc n) e r g h = omega arith

abbrev grid_result : GridData → Result GridData GridError
grid_result g = Ok g

pub has_step : (start end step : ℕ) (g : GridData) → grid_of start end step ≡ Ok g → 0 < g.step
has_step start end step g h =
    let last : Result GridData GridError = grid_result (record { start = (start / step) * step; step = step; len = end / step - start / step + 1 }) in
    let third : Result GridData GridError = cond (nat_lt 11000 (end / step - start / step)) (Err TooManySteps) last in
    let second : Result GridData GridError = cond (nat_lt end start) (Err EndBeforeStart) third in
    let first : Result GridData GridError = cond (nat_lt greatest_time start || nat_lt greatest_time end || nat_lt greatest_time step) (Err TimeTooLarge) second in
    let made : last ≡ Ok g =
    if_ok (nat_lt 11000 (end / step - start / step)) TooManySteps last g
    (if_ok (nat_lt end start) EndBeforeStart third g
    (if_ok (nat_lt greatest_time start || nat_lt greatest_time end || nat_lt greatest_time step) TimeTooLarge second g (if_ok (nat_eq step 0) ZeroStep first g h))) in
    let same : record { start = (start / step) * step; step = step; len = end / step - start / step + 1 } ≡ g = cc in
    subst (λ (x : GridData). 0 < x.step) same (unless_zero step ZeroStep first g h)
