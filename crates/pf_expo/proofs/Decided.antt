-- Whether a line is a sample.
use Rattle.std.proofs.Common.{◌≡◌, ◌∙◌, ℕ, ◌≤◌, min, Option, Some, None, Result, Ok, Err, List, refl, sym, ap, subst, arith}
use Rattle.std.specs.Result.{result_ok}
use Rattle.pf_base.specs.LabelBuild.{build_of}
use Rattle.pf_base.specs.LabelSets.{Pairs}
use Rattle.pf_base.specs.NumberTexts.{Reads as ReadsNumber}
use Rattle.pf_base.specs.declared.labels.LabelsError.{LabelsError}
use Rattle.pf_base.specs.declared.number.Read.{Read}
use Rattle.pf_model.specs.Exposition.{IsSample, Stamp, parts_pairs, time_of}
use Rattle.pf_expo.specs.Readings.{IsCapped, IsNoSample, Reads}
use Rattle.pf_expo.specs.Scans.{Scanned, scan}
use Rattle.pf_expo.specs.declared.fault.ReadFault.{ReadFault}
use Rattle.pf_expo.specs.declared.fault.ReadFault.TheVariants.{Bad, Late, OutOfMemory}
use Rattle.pf_expo.specs.declared.line.Timed.{Timed}
use Rattle.pf_expo.proofs.FirstBytes.{reads_begins}
use Rattle.pf_expo.proofs.Samples.{scan_again, scan_found, seen_time}
use Rattle.pf_expo.proofs.Words.{some_is}

pub seen_is : (default : ℕ) (s : Option Stamp) → default ≤ 4398046511103 → seen_time default s ≡ min (time_of default s) 4398046511104
seen_is default None h = omega arith
seen_is default (Some s) h = refl

pub ok_of : (r : Result Pairs LabelsError) (ps : Pairs) → result_ok r ≡ Some ps → r ≡ Ok ps
ok_of (Ok x) ps e = ap Ok (some_is x ps e)
ok_of (Err x) ps e = cc

pub sample_made : (default : ℕ) (line : List ℕ) (s : Scanned) (r : Read) (labels : Pairs) → default ≤ 4398046511103 → scan default line ≡ Some s → ReadsNumber s.number r
    → result_ok (build_of s.pairs) ≡ Some labels → IsCapped default line labels r s.time
sample_made default line s r labels few e h b =
    let f = scan_found default line s e (reads_begins s.number r h) in
    let P = λ (xs : List ℕ). ReadsNumber xs r in
    record {
      time = time_of default f.parts.stamp;
      found = record {
        parts = f.parts;
        lawful = f.lawful;
        spelled = f.spelled;
        built = sym (ap build_of f.pairs) ∙ ok_of (build_of s.pairs) labels b;
        read = subst P f.number h;
        timed = refl;
      };
      capped = f.time ∙ seen_is default f.parts.stamp few;
    }

-- what is scanned of a sample line
of_sample : (default : ℕ) (line : List ℕ) (labels : Pairs) (value : Read) (time : ℕ) (h : IsSample default line labels value time)
    → ◌≡◌ {A = Option Scanned} (scan default line) (Some (record { pairs = parts_pairs h.parts; number = h.parts.number; time = seen_time default h.parts.stamp }))
of_sample default line labels value time h = ap (scan default) h.spelled ∙ scan_again default h.parts h.lawful (reads_begins h.parts.number value h.read)

none_scan : (default : ℕ) (line : List ℕ) → scan default line ≡ None → IsNoSample default line
none_scan default line e = record { none = λ labels value time h. let k = of_sample default line labels value time h in cc }

pub none_read : (default : ℕ) (line : List ℕ) (s : Scanned) → scan default line ≡ Some s → ((r : Read) → ReadsNumber s.number r → ⊥) → IsNoSample default line
none_read default line s e f = record {
  none = λ labels value time h.
      let k = some_is s _ (sym e ∙ of_sample default line labels value time h) in
      let P = λ (xs : List ℕ). ReadsNumber xs value in
      f value (subst P (sym (ap (λ (x : Scanned). x.number) k)) h.read);
}

none_build : (default : ℕ) (line : List ℕ) (s : Scanned) → scan default line ≡ Some s → result_ok (build_of s.pairs) ≡ None → IsNoSample default line
none_build default line s e b = record {
  none = λ labels value time h.
      let k = some_is s _ (sym e ∙ of_sample default line labels value time h) in
      let built : result_ok (build_of s.pairs) ≡ Some labels = ap (λ (x : Scanned). result_ok (build_of x.pairs)) k ∙ ap result_ok h.built in
      cc;
}

pub fault_scan : {X : Type 0} (view : X → Scanned) (default : ℕ) (line : List ℕ) (e : ReadFault) → Reads view (Err e) (scan default line)
    → ◌≡◌ {A = Result Timed ReadFault} (Err e) (Err Bad) → IsNoSample default line
fault_scan view default line Bad r k = none_scan default line r
fault_scan view default line Late r k = absurd r
fault_scan view default line OutOfMemory r k = cc

pub fault_build : {X : Type 0} (view : X → Pairs) (default : ℕ) (line : List ℕ) (s : Scanned) (e : ReadFault) → scan default line ≡ Some s → Reads view (Err e) (result_ok (build_of s.pairs))
    → ◌≡◌ {A = Result Timed ReadFault} (Err e) (Err Bad) → IsNoSample default line
fault_build view default line s Bad f r k = none_build default line s f r
fault_build view default line s Late f r k = absurd r
fault_build view default line s OutOfMemory f r k = cc
