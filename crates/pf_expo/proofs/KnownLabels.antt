-- Series, lines that begin with one, and the label sets that are kept for their bytes.
use Rattle.std.proofs.Common.{◌≡◌, ◌∙◌, ℕ, ◌≤◌, Bool, true, false, cond, Some, List, [], ◌∷◌, ◌++◌, append_assoc, append-nil, refl, sym, ap, subst}
use Rattle.std.specs.HashMap.{HashMap, Updates, get}
use Rattle.std.specs.Result.{result_ok}
use Rattle.std.specs.Str.{bytes_eq}
use Rattle.std.specs.Cmp.Lexicographic.{bytes_decides}
use Rattle.pf_base.specs.LabelBuild.{build_of}
use Rattle.pf_base.specs.LabelSets.{Pairs}
use Rattle.pf_base.specs.declared.number.Read.{Read}
use Rattle.pf_model.specs.Exposition.{is_blank, is_no_blank, middle_text, name_label, time_of}
use Rattle.pf_expo.specs.Readings.{IsCapped}
use Rattle.pf_expo.specs.Scans.{Cut, front_of, metric_name_at, middle_at, past, series_at, with_pairs}
use Rattle.pf_expo.specs.Series.{AreRead, IsSeries, IsTail}
use Rattle.pf_expo.proofs.Braces.{pairs_some}
use Rattle.pf_expo.proofs.Decided.{ok_of, seen_is}
use Rattle.pf_expo.proofs.FirstBytes.{reads_begins}
use Rattle.pf_expo.proofs.Fronts.{front_all}
use Rattle.pf_expo.proofs.Samples.{middle_found, stamp_found, word_of}
use Rattle.pf_expo.proofs.Shorter.{bind_some}
use Rattle.pf_expo.proofs.Words.{front_split, metric_name_found, past_halts}

pub series_found : (bytes : List ℕ) (ps : Pairs) (rest : List ℕ) (labels : Pairs) → series_at bytes ≡ Some (ps, rest) → rest ≡ [] → result_ok (build_of ps) ≡ Some labels → IsSeries bytes labels
unfolding series_at
series_found bytes ps rest labels e empty b =
    let n = bind_some (metric_name_at (past is_blank bytes)) _ (ps, rest) e in
    made n.0 n.1 n.2
  where
    made : (n : Cut) → metric_name_at (past is_blank bytes) ≡ Some n → with_pairs ((name_label, n.0) ∷ []) (middle_at n.1) ≡ Some (ps, rest) → IsSeries bytes labels
    made n en em =
        let name = metric_name_found (past is_blank bytes) n en in
        let q = pairs_some (name_label, n.0) (middle_at n.1) ps rest em in
        let mid = middle_found n.1 (q.0, rest) q.1 in
        record {
          before = front_of is_blank bytes;
          name = n.0;
          middle = mid.middle;
          blanks = front_all is_blank bytes;
          named = name.lawful;
          lawful = mid.lawful;
          spelled =
              front_split is_blank bytes ∙ ap (λ xs. front_of is_blank bytes ++ xs) (name.spelled ∙ ap (λ xs. n.0 ++ xs)
              (mid.spelled ∙ ap (λ xs. middle_text mid.middle ++ xs) empty ∙ append-nil (middle_text mid.middle)));
          built = ap build_of (ap (λ qs. (name_label, n.0) ∷ qs) (sym mid.pairs) ∙ sym q.2) ∙ ok_of (build_of ps) labels b;
        }

pub sample_found : (default : ℕ) (line series tail : List ℕ) (labels : Pairs) (r : Read) (t : ℕ) → default ≤ 4398046511103 → line ≡ series ++ tail → IsSeries series labels → IsTail default tail r t
    → IsCapped default line labels r t
sample_found default line series tail labels r t few e s h =
    let stamp = stamp_found default (past is_no_blank tail) t (past_halts is_no_blank tail) h.timed in
    record {
      time = time_of default stamp.stamp;
      found = record {
        parts = record { before = s.before; name = s.name; middle = s.middle; number = front_of is_no_blank tail; stamp = stamp.stamp; behind = stamp.behind };
        lawful = record {
          before = s.blanks;
          name = s.named;
          middle = s.lawful;
          number = word_of (front_of is_no_blank tail) (reads_begins (front_of is_no_blank tail) r h.number) (front_all is_no_blank tail);
          stamp = stamp.lawful;
          behind = stamp.blanks;
        };
        spelled =
            e ∙ ap (λ xs. xs ++ tail) s.spelled ∙ regroup s.before s.name (middle_text s.middle) tail
            ∙ ap (λ xs. s.before ++ (s.name ++ (middle_text s.middle ++ xs))) (front_split is_no_blank tail ∙ ap (λ xs. front_of is_no_blank tail ++ xs) stamp.spelled);
        built = s.built;
        read = h.number;
        timed = refl;
      };
      capped = stamp.time ∙ seen_is default stamp.stamp few;
    }
  where
    regroup : (a b m r : List ℕ) → (a ++ (b ++ m)) ++ r ≡ a ++ (b ++ (m ++ r))
    regroup a b m r = simp append_assoc

-- ---- the table

pub known_more : {S : Type 0} (m n : HashMap (List ℕ) Pairs S) (key : List ℕ) (labels : Pairs) → AreRead m → IsSeries key labels → Updates bytes_eq m n key (Some labels) → AreRead n
known_more m n key labels h s u = λ bytes found e. by bytes found (bytes_eq key bytes) refl (sym (u.0 bytes) ∙ e)
  where
    some_is : (x y : Pairs) → Some x ≡ Some y → x ≡ y
    some_is x y e = cc

    by : (bytes : List ℕ) (found : Pairs) (b : Bool) → bytes_eq key bytes ≡ b → cond (bytes_eq key bytes) (Some labels) (get bytes_eq m bytes) ≡ Some found → IsSeries bytes found
    by bytes found true k e =
        let g = rw k at e in
        let P = λ (xs : List ℕ). IsSeries xs found in
        let Q = λ (ps : Pairs). IsSeries key ps in
        subst P ((bytes_decides key bytes).0 k) (subst Q (some_is labels found g) s)
    by bytes found false k e = let g = rw k at e in h bytes found g
