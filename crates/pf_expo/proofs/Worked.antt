-- Worked examples, computed.
use Rattle.std.proofs.Common.{◌≡◌, ◌∷◌, ◌++◌, [], Some, refl, codes}
use Rattle.pf_model.specs.Exposition.{Parts, escaped, file_lines, full, labelled, line_number, parts_pairs, parts_text}

-- line feeds end lines, a carriage return before one is dropped, and the last line may lack one
lines_worked : file_lines (codes "a" ++ (13 ∷ (10 ∷ (10 ∷ (codes "b" ++ (13 ∷ [])))))) ≡ codes "a" ∷ ([] ∷ ((codes "b" ++ (13 ∷ [])) ∷ []))
lines_worked = refl

lines_ended : file_lines (codes "a" ++ (10 ∷ [])) ≡ codes "a" ∷ []
lines_ended = refl

greatest_number : line_number 5000000000 ≡ 4294967295
greatest_number = refl

-- a backslash, a double quote and a line feed
escapes_worked : escaped (92 ∷ (34 ∷ (10 ∷ []))) ≡ codes "\\\\\\\"\\n"
escapes_worked = refl

the_parts : Parts
the_parts = record {
  before = [];
  name = codes "x";
  middle =
      labelled (codes " ")
      (full (record { before = []; name = codes "a"; before_sign = codes " "; behind_sign = []; value = codes "b"; behind = codes " " })
      (record { before = codes " "; name = codes "c"; before_sign = []; behind_sign = []; value = []; behind = [] } ∷ []) (Some (codes " ")))
      (codes " ");
  number = codes "1";
  stamp = Some (record { gap = codes " "; digits = codes "7" });
  behind = codes " ";
}

text_worked : parts_text the_parts ≡ codes "x {a =\"b\" , c=\"\", } 1 7 "
unfolding the_parts
text_worked = refl

pairs_worked : parts_pairs the_parts ≡ (codes "__name__", codes "x") ∷ ((codes "a", codes "b") ∷ ((codes "c", []) ∷ []))
unfolding the_parts
pairs_worked = refl
