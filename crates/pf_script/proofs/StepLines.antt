-- Step lines of a script.
use Rattle.std.proofs.Common.{◌≡◌, Bool, true, false, ◌||◌, cond, map, List, [], ◌∷◌, refl, ap, ◌∙◌}
use Rattle.std.specs.List.{list_any}
use Rattle.pf_journal.specs.Scripts.{is_step, is_stepped}
use Rattle.pf_script.specs.Lines.{line_of, numbered_of}
use Rattle.pf_script.specs.declared.script.NumberedLine.{NumberedLine}

either : (a b : Bool) → (a || b) ≡ cond a true b
either true b = refl
either false b = refl

pub stepped_is : (ls : List NumberedLine) → list_any (λ l. is_step (line_of l.line)) ls ≡ is_stepped (map numbered_of ls)
stepped_is [] = refl
stepped_is (l ∷ ls) =
    either (is_step (line_of l.line)) (list_any (λ k. is_step (line_of k.line)) ls) ∙ ap (cond (is_step (line_of l.line)) true) (stepped_is ls)
