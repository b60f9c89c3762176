-- The words of lines: this project's own.
use Rattle.std.specs.Prelude.{◌≡◌, ℕ, Bool, ◌&&◌, cond, Option, Some, None, option_map, map, List, [], ◌∷◌, ◌++◌}
use Rattle.pf_base.specs.Tenants.{is_tenant}
use Rattle.pf_model.specs.Cuts.{only_if, ◌>>=◌}
use Rattle.pf_model.specs.Lists.{Each}
use Rattle.pf_journal.specs.Scripts.{Issued, Line, Numbered, ask, delete, instant, is_id, is_new, is_passed, issued_after, line_of, next_word, number_of, trimmed_text}
use Rattle.pf_script.specs.IdLists.{Alike}
use Rattle.pf_script.specs.Lines.{IsRead, numbered_of}
use Rattle.pf_script.specs.declared.lines.AskCut.{AskCut}
use Rattle.pf_script.specs.declared.lines.DeleteCut.{DeleteCut}
use Rattle.pf_script.specs.declared.lines.InstantCut.{InstantCut}
use Rattle.pf_script.specs.declared.script.NumberedLine.{NumberedLine}

-- ---- `delete TENANT FROM TO SELECTOR`

pub record DeleteWords : Type 0 where
  pub tenant : List ℕ
  pub from : ℕ
  pub to : ℕ
  pub selector : List ℕ

unfoldable pub delete_words : List ℕ → Option DeleteWords
delete_words words = do
  tenant ← next_word words
  from ← next_word tenant.behind
  to ← next_word from.behind
  first ← number_of from.front
  last ← number_of to.front
  selector ← trimmed_text to.behind
  Some (record { tenant = tenant.front; from = first; to = last; selector = selector })

abbrev pub delete_with : DeleteWords → Option Line
delete_with w = only_if (is_tenant w.tenant) (delete w.tenant w.from w.to w.selector)

abbrev pub delete_in : DeleteCut → DeleteWords
delete_in c = record { tenant = c.tenant.now; from = c.from; to = c.to; selector = c.selector.now }

-- ---- `ask ID TENANT START END STEP QUERY`

pub record AskWords : Type 0 where
  pub id : List ℕ
  pub tenant : List ℕ
  pub start : ℕ
  pub end : ℕ
  pub step : ℕ
  pub query : List ℕ

unfoldable pub ask_words : List ℕ → Option AskWords
ask_words words = do
  id ← next_word words
  tenant ← next_word id.behind
  first ← next_word tenant.behind
  last ← next_word first.behind
  by ← next_word last.behind
  start ← number_of first.front
  end ← number_of last.front
  step ← number_of by.front
  query ← trimmed_text by.behind
  Some (record { id = id.front; tenant = tenant.front; start = start; end = end; step = step; query = query })

abbrev pub ask_with : List Issued → AskWords → Option Line
ask_with is w = only_if (is_id w.id && is_new w.id is && is_tenant w.tenant) (ask w.id w.tenant w.start w.end w.step w.query)

abbrev pub ask_in : AskCut → AskWords
ask_in c = record { id = c.id.now; tenant = c.tenant.now; start = c.start; end = c.end; step = c.step; query = c.query.now }

-- ---- `instant ID TENANT TIME QUERY`

pub record InstantWords : Type 0 where
  pub id : List ℕ
  pub tenant : List ℕ
  pub time : ℕ
  pub query : List ℕ

unfoldable pub instant_words : List ℕ → Option InstantWords
instant_words words = do
  id ← next_word words
  tenant ← next_word id.behind
  at ← next_word tenant.behind
  time ← number_of at.front
  query ← trimmed_text at.behind
  Some (record { id = id.front; tenant = tenant.front; time = time; query = query })

abbrev pub instant_with : List Issued → InstantWords → Option Line
instant_with is w = only_if (is_id w.id && is_new w.id is && is_tenant w.tenant) (instant w.id w.tenant w.time w.query)

abbrev pub instant_in : InstantCut → InstantWords
instant_in c = record { id = c.id.now; tenant = c.tenant.now; time = c.time; query = c.query.now }

-- ---- any line

-- what is read of a line, if it is of a form: nothing of one that is passed over
abbrev pub read_of : (steps : Bool) → List Issued → List ℕ → Option (Option Line)
read_of steps is bytes = cond (is_passed bytes) (Some None) (option_map Some (line_of steps is bytes))

-- the IDs behind it
abbrev pub issued_with : ℕ → Option Line → List Issued → List Issued
issued_with n None is = is
issued_with n (Some line) is = issued_after n line is

abbrev pub numbered : ℕ → Option Line → List Numbered
numbered n None = []
numbered n (Some line) = record { number = n; line = line } ∷ []

-- a line with this number adds what is read of it
pub record Adds (steps : Bool) (n : ℕ) (text : List ℕ) (is js : List Issued) (old new : List NumberedLine) : Type 0 where
  pub given : Option Line
  pub is_read : read_of steps is text ≡ Some given
  pub alike : Alike (issued_with n given is) js
  pub lines : map numbered_of new ≡ map numbered_of old ++ numbered n given
  pub read : Each IsRead old → Each IsRead new
