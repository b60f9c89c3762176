-- A script is run line by line.
use Rattle.std.proofs.Common.{◌≡◌, ℕ, ◌+◌, ◌<◌, ◌≤◌, Option, Some, List, [], ◌∷◌, get_or, length, take, drop, slice_get, refl, sym, ap, ◌∙◌, subst}
use Rattle.pf_base.specs.declared.plain.Limits.{Limits}
use Rattle.pf_journal.proofs.Going.{runs_to_end}
use Rattle.pf_journal.specs.Rest.{at_end}
use Rattle.pf_journal.specs.Scripts.{Numbered}
use Rattle.pf_journal.specs.Turns.{ran_lines}
use Rattle.pf_journal.specs.Weave.{RunsTo}
use Rattle.pf_model.specs.Lists.{Each}
use Rattle.pf_script.specs.Lines.{Follows, IsRead, lines_of, numbered_of}
use Rattle.pf_script.specs.declared.script.NumberedLine.{NumberedLine}
use Rattle.pf_script.specs.declared.script.Script.{Script}
use Rattle.pf_client.specs.Drives.{CanRun}
use Rattle.pf_client.proofs.Gone.{left_there, part_kept}
use Rattle.pf_client.proofs.Lines.{each_drop, each_get, follows_at, found, inside_lines, last_behind, map_length, names_at, names_behind, numbered_is, rising_behind}
use Rattle.pf_client.specs.Replays.{file_of}
use Rattle.pf_client.specs.Files.{LetsGoOf, LineNames}
use Rattle.pf_client.specs.Going.{HasStopped, IsGoing, IsReady}
use Rattle.pf_client.specs.Queries.{AreReadAs, AreReadBy, IsKeptFor, IsPart, Queries, readings_in}
use Rattle.pf_client.specs.declared.client.Client.{Client}
use Rattle.pf_client.specs.declared.loaded.Loaded.{Loaded}

module _ (script : Script) (loaded : Loaded) (i : ℕ) (l : NumberedLine) (inside : i < length script.lines.items) (is : l ≡ get_or script.lines.items i l) (can : CanRun script i loaded) where
  line_is : get_or (lines_of script) i (numbered_of l) ≡ numbered_of l
  line_is = numbered_is script.lines.items i l inside is

  within : i < length (lines_of script)
  within = inside_lines script.lines.items i l inside is

  pub follows : Follows (take i (lines_of script)) (numbered_of l)
  follows = follows_at script.lines.items i l inside is can.following

  pub there : slice_get (lines_of script) i ≡ Some (numbered_of l)
  there = found (lines_of script) i (numbered_of l) within ∙ ap (λ (x : Numbered). Some x) line_is

  pub ready : IsReady loaded l
  ready = record {
    read = subst IsRead (sym is) (each_get IsRead script.lines.items i l inside can.read);
    files = λ name h. can.files name (names_at (lines_of script) i (numbered_of l) name within (subst (λ (x : Numbered). LineNames x.line name) (sym line_is) h));
    right = can.right;
    text = subst (λ (x : Numbered). IsKeptFor loaded.queries x.line) line_is
        (each_get (λ (x : Numbered). IsKeptFor loaded.queries x.line) (lines_of script) i (numbered_of l) within can.texts);
  }

  -- the lines behind it can run with what it leaves
  pub runs_on : (new : Loaded) → LetsGoOf loaded.files (file_of (numbered_of l).line) l.number new.files → new.queries ≡ loaded.queries → CanRun script (i + 1) new
  runs_on new go same = record {
    files = λ name named.
        let kept = can.files name (names_behind (lines_of script) i name named) in
        left_there loaded.files (file_of (numbered_of l).line) l.number new.files go name kept
        (last_behind (drop (i + 1) (lines_of script)) l.number kept.file.last name named (rising_behind script.lines.items i l inside is can.following)
        (each_drop (λ x. LineNames x.line name → x.number ≤ kept.file.last) (lines_of script) (i + 1) (can.lasts name kept.file kept.there)));
    lasts = λ name file g. can.lasts name file (part_kept loaded.files (file_of (numbered_of l).line) l.number new.files go name file g);
    right = subst AreReadAs (sym same) can.right;
    texts = subst (λ (q : Queries). Each (λ x. IsKeptFor q x.line) (lines_of script)) (sym same) can.texts;
    read = can.read;
    following = can.following;
  }

-- what is left is part of what was loaded first
pub part_on : (first old new : Loaded) (named : Option (List ℕ)) (number : ℕ) → LetsGoOf old.files named number new.files → new.queries ≡ old.queries
    → IsPart first old → IsPart first new
part_on first old new named number go same part known told =
    let t = part known told in record {
      held = λ name file g. t.held name file (part_kept old.files named number new.files go name file g);
      readings = t.readings ∙ ap readings_in (sym same);
      right = subst (AreReadBy known.refused) (sym same) t.right;
    }

drop_past : {X : Type 0} (xs : List X) → drop (length xs) xs ≡ []
drop_past [] = refl
drop_past (x ∷ xs) = drop_past xs

-- a client that ran all its lines
pub ends : (script : Script) (loaded : Loaded) (limits : Limits) (i : ℕ) (sent : List ℕ) (c : Client) → i ≡ length script.lines.items
    → IsGoing loaded limits (lines_of script) i sent c → HasStopped loaded limits (lines_of script) at_end sent c
ends script loaded limits i sent c e going known told kn =
    let g = going known told kn in
    let all : length g.told ≡ length (lines_of script) = g.many ∙ e ∙ sym (map_length script.lines.items) in
    let none : drop (length g.told) (lines_of script) ≡ [] = ap (λ (n : ℕ). drop n (lines_of script)) all ∙ drop_past (lines_of script) in
    record {
      limited = g.limited;
      told = g.told;
      has_told = g.has_told;
      runs = subst (λ (left : List Numbered). RunsTo known.limits c.core.journal c.client at_end left (ran_lines (lines_of script) g.told)) (sym none)
          (runs_to_end known.limits c.core.journal c.client (ran_lines (lines_of script) g.told) g.goes);
    }
