-- The lines of a script, one by one.
use Rattle.std.proofs.Common.{◌≡◌, ◌∙◌, ℕ, ◌+◌, ◌<◌, ◌≤◌, Bool, true, false, cond, Option, Some, None, Result, Ok, Err, option_map, map, List, [], ◌∷◌, ◌++◌, length, refl, sym, ap, append_assoc, append-nil}
use Rattle.std.proofs.lemmas.Bool.{le-leb, lt-leb}
use Rattle.pf_model.specs.Exposition.{file_lines}
use Rattle.pf_model.specs.Lists.{Each}
use Rattle.pf_journal.specs.Scripts.{Issued, Line, Numbered, is_passed, issued_after, line_of, lines_from, read_line, script_of, with_line}
use Rattle.pf_script.specs.LineCuts.{Adds, issued_with, numbered, read_of}
use Rattle.pf_script.specs.Lines.{IsRead, Reads, at_line, numbered_of}
use Rattle.pf_script.specs.declared.fault.LineError.{LineError}
use Rattle.pf_script.specs.declared.fault.LineError.TheVariants.{Refused, OutOfMemory}
use Rattle.pf_script.specs.declared.script.NumberedLine.{NumberedLine}
use Rattle.pf_script.proofs.Alike.{lines_alike}

-- lines before those that are read of the rest
abbrev pub onto : List Numbered → Result (List Numbered) ℕ → Result (List Numbered) ℕ
onto ls (Ok ms) = Ok (ls ++ ms)
onto ls (Err n) = Err n

onto_nothing : (r : Result (List Numbered) ℕ) → r ≡ onto [] r
onto_nothing (Ok ls) = refl
onto_nothing (Err n) = refl

onto_one : (l : Numbered) (r : Result (List Numbered) ℕ) → with_line l r ≡ onto (l ∷ []) r
onto_one l (Ok ls) = refl
onto_one l (Err n) = refl

onto_onto : (ls ms : List Numbered) (r : Result (List Numbered) ℕ) → onto ls (onto ms r) ≡ onto (ls ++ ms) r
onto_onto ls ms (Ok ns) = ap Ok (sym (append_assoc ls ms ns))
onto_onto ls ms (Err n) = refl

-- a line is read, and then the rest
abbrev further : (steps : Bool) → ℕ → List Issued → List (List ℕ) → Option Line → Result (List Numbered) ℕ
further steps n is ls o = onto (numbered n o) (lines_from steps (n + 1) (issued_with n o is) ls)

abbrev read_then : (steps : Bool) → ℕ → List Issued → List (List ℕ) → Option (Option Line) → Result (List Numbered) ℕ
read_then steps n is ls None = Err n
read_then steps n is ls (Some o) = further steps n is ls o

line_then : (steps : Bool) (n : ℕ) (is : List Issued) (ls : List (List ℕ)) (o : Option Line)
    → read_line n o (λ x. lines_from steps (n + 1) (issued_after n x is) ls) ≡ read_then steps n is ls (option_map Some o)
line_then steps n is ls None = refl
line_then steps n is ls (Some x) = onto_one (record { number = n; line = x }) (lines_from steps (n + 1) (issued_after n x is) ls)

step_by : (steps : Bool) (n : ℕ) (is : List Issued) (ls : List (List ℕ)) (o : Option Line) (b : Bool)
    → cond b (lines_from steps (n + 1) is ls) (read_line n o (λ x. lines_from steps (n + 1) (issued_after n x is) ls))
    ≡ read_then steps n is ls (cond b (Some None) (option_map Some o))
step_by steps n is ls o true = onto_nothing (lines_from steps (n + 1) is ls)
step_by steps n is ls o false = line_then steps n is ls o

from_line : (steps : Bool) (n : ℕ) (is : List Issued) (l : List ℕ) (ls : List (List ℕ)) → lines_from steps n is (l ∷ ls) ≡ read_then steps n is ls (read_of steps is l)
unfolding lines_from
from_line steps n is l ls = step_by steps n is ls (line_of steps is l) (is_passed l)

from_none : (steps : Bool) (n : ℕ) (is : List Issued) → lines_from steps n is [] ≡ Ok []
unfolding lines_from
from_none steps n is = refl

-- what was read of a script before its rest
pub record Going (steps : Bool) (bytes rest : List ℕ) (number : ℕ) (is : List Issued) (lines : List NumberedLine) : Type 0 where
  pub exact : lines_from steps 1 [] (file_lines bytes) ≡ onto (map numbered_of lines) (lines_from steps (number + 1) is (file_lines rest))
  pub read : Each IsRead lines

pub going_first : (steps : Bool) (bytes : List ℕ) (is : List Issued) (lines : List NumberedLine) → is ≡ [] → lines ≡ [] → Going steps bytes bytes 0 is lines
going_first steps bytes is lines e h =
    rw (e, h) (record { exact = onto_nothing (lines_from steps 1 [] (file_lines bytes)); read = tt })

-- the next line and the rest
going_next : (steps : Bool) (bytes rest text behind : List ℕ) (number next : ℕ) (is : List Issued) (lines : List NumberedLine) (o : Option (Option Line))
    → Going steps bytes rest number is lines → file_lines rest ≡ text ∷ file_lines behind → next ≡ number + 1 → read_of steps is text ≡ o
    → lines_from steps 1 [] (file_lines bytes) ≡ onto (map numbered_of lines) (read_then steps next is (file_lines behind) o)
going_next steps bytes rest text behind number next is lines o g e m r =
    g.exact
    ∙ ap (λ n. onto (map numbered_of lines) (lines_from steps n is (file_lines rest))) (sym m)
    ∙ ap (λ ls. onto (map numbered_of lines) (lines_from steps next is ls)) e
    ∙ ap (onto (map numbered_of lines)) (from_line steps next is text (file_lines behind) ∙ ap (read_then steps next is (file_lines behind)) r)

pub going_more : (steps : Bool) (bytes rest text behind : List ℕ) (number next : ℕ) (is js : List Issued) (lines new : List NumberedLine)
    → Going steps bytes rest number is lines
    → file_lines rest ≡ text ∷ file_lines behind → next ≡ number + 1 → Adds steps next text is js lines new → Going steps bytes behind next js new
going_more steps bytes rest text behind number next is js lines new g e m a = record {
  exact =
      going_next steps bytes rest text behind number next is lines (Some a.given) g e m a.is_read
      ∙ onto_onto (map numbered_of lines) (numbered next a.given) (lines_from steps (next + 1) (issued_with next a.given is) (file_lines behind))
      ∙ ap (λ ls. onto ls (lines_from steps (next + 1) (issued_with next a.given is) (file_lines behind))) (sym a.lines)
      ∙ ap (onto (map numbered_of new)) (lines_alike steps (next + 1) (issued_with next a.given is) js (file_lines behind) a.alike);
  read = a.read g.read;
}

script_is : (steps : Bool) (bytes : List ℕ) → length bytes ≤ 67108864 → script_of steps bytes ≡ lines_from steps 1 [] (file_lines bytes)
unfolding script_of
script_is steps bytes l = rw (le-leb (length bytes) 67108864 l) refl

pub script_long : (steps : Bool) (bytes : List ℕ) → 67108864 < length bytes → script_of steps bytes ≡ Err 0
unfolding script_of
script_long steps bytes l = rw (lt-leb (length bytes) 67108864 l) refl

pub going_end : (steps : Bool) (bytes rest : List ℕ) (number : ℕ) (is : List Issued) (lines : List NumberedLine)
    → Going steps bytes rest number is lines → length bytes ≤ 67108864 → file_lines rest ≡ [] → script_of steps bytes ≡ Ok (map numbered_of lines)
going_end steps bytes rest number is lines g l e =
    script_is steps bytes l ∙ g.exact ∙ ap (λ ls. onto (map numbered_of lines) (lines_from steps (number + 1) is ls)) e
    ∙ ap (onto (map numbered_of lines)) (from_none steps (number + 1) is) ∙ ap Ok (append-nil (map numbered_of lines))

pub going_stop : (steps : Bool) (bytes rest text behind : List ℕ) (number next : ℕ) (is : List Issued) (lines : List NumberedLine)
    → Going steps bytes rest number is lines → length bytes ≤ 67108864
    → file_lines rest ≡ text ∷ file_lines behind → next ≡ number + 1 → read_of steps is text ≡ None → script_of steps bytes ≡ Err next
going_stop steps bytes rest text behind number next is lines g l e m none =
    script_is steps bytes l ∙ going_next steps bytes rest text behind number next is lines None g e m none

pub stopped : {X Y : Type 0} (view : X → Y) (n : ℕ) (e : LineError) (r : Result Y ℕ) → (e ≡ Refused → r ≡ Err n) → Reads view (Err (at_line n e)) r
stopped view n Refused r f = f refl
stopped view n OutOfMemory r f = tt
