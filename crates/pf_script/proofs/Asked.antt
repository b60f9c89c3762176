-- Lines that ask, and idle ones.
use Rattle.std.proofs.Common.{◌≡◌, ℕ, Bool, true, false, List, Some, Result, Ok, Err, IfOk, refl}
use Rattle.pf_journal.specs.Scripts.{Issued, issued_after}
use Rattle.pf_model.specs.Cuts.{only_if}
use Rattle.pf_script.specs.IdLists.{Alike, IsIdle}
use Rattle.pf_script.specs.Lines.{ReadsLine, line_of}
use Rattle.pf_script.specs.declared.script.Line.{Line}
use Rattle.pf_script.specs.declared.fault.LineError.{LineError}
use Rattle.pf_script.specs.declared.fault.LineError.TheVariants.{Refused, OutOfMemory}

-- what is made of what is found only if
pub asked_by : {X Y : Type 0} (b : Bool) (x made : X) (f : X → Y) → only_if b x ≡ Some made → only_if b (f x) ≡ Some (f made)
asked_by true x made f e = cc
asked_by false x made f e = cc

pub fault_by : {X Y V W : Type 0} (v : V → X) (w : W → Y) (e : LineError) (b : Bool) (x : X) (y : Y) → ReadsLine v (Err e) (only_if b x) → ReadsLine w (Err e) (only_if b y)
fault_by v w Refused true x y h = cc
fault_by v w Refused false x y h = refl
fault_by v w OutOfMemory b x y h = tt

-- idle lines
pub idle_after : (r : Result Line LineError) (n : ℕ) (is : List Issued) → IfOk r (λ l. IsIdle (line_of l)) → IfOk r (λ l. Alike (issued_after n (line_of l) is) is)
idle_after (Ok l) n is h = rw (h n is) (λ id. refl)
idle_after (Err e) n is h = tt

pub idle_each : (r : Result Line LineError) (is : List Issued) → IfOk r (λ l. IsIdle (line_of l)) → IfOk r (λ l. (n : ℕ) → Alike (issued_after n (line_of l) is) is)
idle_each (Ok l) is h = λ n. rw (h n is) (λ id. refl)
idle_each (Err e) is h = tt
