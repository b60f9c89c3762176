-- Skipped lines.
use Rattle.std.proofs.Common.{◌≡◌, ◌∙◌, ℕ, true, false, Result, Err, List, [], ◌∷◌, ◌++◌, nat_eq, refl, sym, ap, arith, append-nil}
use Rattle.std.proofs.lemmas.Bool.Decides.{nat_tests}
use Rattle.pf_model.specs.Exposition.{IsSkipped, are_blanks, blank, comment, is_blank}
use Rattle.pf_expo.specs.Readings.{IsNoSample, LineAnswers}
use Rattle.pf_expo.specs.Scans.{front_of, past, skips}
use Rattle.pf_expo.specs.declared.fault.ReadFault.{ReadFault}
use Rattle.pf_expo.specs.declared.fault.ReadFault.TheVariants.{Bad, Late, OutOfMemory}
use Rattle.pf_expo.specs.declared.line.Timed.{Timed}
use Rattle.pf_expo.proofs.Fronts.{front_all}
use Rattle.pf_expo.proofs.Words.{front_split, front_spelled}

same_byte : (b c : ℕ) → nat_eq b c ≡ true → b ≡ c
same_byte b c h = grind (arith, nat_tests)

found_by : (line front rest : List ℕ) → line ≡ front ++ rest → are_blanks front ≡ true → skips rest ≡ true → IsSkipped line
found_by line front [] e h s = blank (ap are_blanks (e ∙ append-nil front) ∙ h)
found_by line front (b ∷ bs) e h s = comment front bs h (e ∙ ap (λ x. front ++ (x ∷ bs)) (same_byte b 35 s))

pub skipped_found : (line : List ℕ) → skips (past is_blank line) ≡ true → IsSkipped line
skipped_found line s = found_by line (front_of is_blank line) (past is_blank line) (front_split is_blank line) (front_all is_blank line) s

pub skipped_again : (line : List ℕ) → IsSkipped line → skips (past is_blank line) ≡ true
skipped_again line (blank h) = ap (λ xs. skips (past is_blank xs)) (sym (append-nil line)) ∙ ap skips (front_spelled is_blank line [] h tt).1
skipped_again line (comment before behind h e) = ap (λ xs. skips (past is_blank xs)) e ∙ ap skips (front_spelled is_blank before (35 ∷ behind) h refl).1

pub fault_answers : (d : ℕ) (line : List ℕ) (e : ReadFault) → skips (past is_blank line) ≡ false → (◌≡◌ {A = Result Timed ReadFault} (Err e) (Err Bad) → IsNoSample d line)
    → (◌≡◌ {A = Result Timed ReadFault} (Err e) (Err Late) → ⊥) → LineAnswers d line (Err e)
fault_answers d line Bad s f g = (λ k. let t = skipped_again line k in cc, (f refl).none)
fault_answers d line Late s f g = absurd (g refl)
fault_answers d line OutOfMemory s f g = tt
