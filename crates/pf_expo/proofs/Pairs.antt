-- Labels in braces, one by one.
use Rattle.std.proofs.Common.{◌≡◌, ◌∙◌, ℕ, zero, suc, ◌<◌, true, false, Option, Some, None, List, [], ◌∷◌, ◌++◌, length, refl, sym, ap, arith, append_assoc, append-nil}
use Rattle.pf_base.specs.LabelSets.{Pairs}
use Rattle.std.specs.Prelude.{option_and_then}
use Rattle.std.proofs.lemmas.Option.{cond_some}
use Rattle.pf_model.specs.Exposition.{begins_with, is_blank}
use Rattle.pf_expo.specs.Scans.{all_labels, begins_blank, behind_byte, braces_at, labels_from, label_at, middle_at, past, past_pairs, with_pairs, closed}

-- what is read of the rest behind some pairs is the whole
pub record Left (before : Pairs) (rest : List ℕ) (whole : Option (Pairs × List ℕ)) : Type 0 where
  pub fuel : ℕ
  pub enough : length rest < suc fuel
  pub same : with_pairs before (labels_from (suc fuel) rest) ≡ whole

pub left_first : (before : Pairs) (bytes : List ℕ) → Left before bytes (with_pairs before (all_labels bytes))
unfolding all_labels
left_first before bytes = record { fuel = length bytes; enough = omega arith; same = refl }

onto : (before : Pairs) (p : List ℕ × List ℕ) (o : Option (Pairs × List ℕ)) → with_pairs before (with_pairs (p ∷ []) o) ≡ with_pairs (before ++ (p ∷ [])) o
onto before p None = refl
onto before p (Some x) = ap (λ ps. Some (ps, x.1)) (sym (append_assoc before (p ∷ []) x.0))

-- fuel is left, as the rest is shorter than it
more_fuel : (before : Pairs) (rest : List ℕ) (whole : Option (Pairs × List ℕ)) (n : ℕ) → length rest < n → with_pairs before (labels_from n rest) ≡ whole → Left before rest whole
more_fuel before rest whole zero h e = absurd (omega arith)
more_fuel before rest whole (suc n) h e = record { fuel = n; enough = h; same = e }

pub left_more : (before new : Pairs) (rest behind : List ℕ) (p : List ℕ × List ℕ) (whole : Option (Pairs × List ℕ)) → Left before rest whole → begins_with 125 rest ≡ false
    → label_at rest ≡ Some (p, behind) → length behind < length rest → new ≡ before ++ (p ∷ []) → Left new behind whole
unfolding labels_from
left_more before new rest behind p whole l more found short made =
    let s = l.same in
    let g = rw (more, found) at s in
    let n = l.enough in
    more_fuel new behind whole l.fuel (omega arith) (ap (λ ps. with_pairs ps (labels_from l.fuel behind)) made ∙ sym (onto before p _) ∙ g)

pub left_none : (before : Pairs) (rest : List ℕ) (whole : Option (Pairs × List ℕ)) → Left before rest whole → begins_with 125 rest ≡ false → label_at rest ≡ None → whole ≡ None
unfolding labels_from
left_none before rest whole l more found =
    let s = l.same in let g = rw (more, found) at s in sym g

closed_from : (rest behind : List ℕ) → behind_byte 125 rest ≡ Some behind → closed rest ≡ Some ([], behind)
closed_from [] behind e = cc
closed_from (b ∷ bs) behind e = let k = cond_some _ _ behind e in ap (λ xs. Some ([], xs)) k.1

pub left_closed : (before : Pairs) (rest behind : List ℕ) (whole : Option (Pairs × List ℕ)) → Left before rest whole → begins_with 125 rest ≡ true
    → behind_byte 125 rest ≡ Some behind → whole ≡ Some (before, behind)
unfolding labels_from
left_closed before rest behind whole l shut found =
    let s = l.same in let k = closed_from rest behind found in let g = rw (shut, k) at s in sym g ∙ ap (λ ps. Some (ps, behind)) (append-nil before)

-- what is read of braces
onto_some : (ps qs : Pairs) (behind : List ℕ) (o : Option (Pairs × List ℕ)) → with_pairs ps o ≡ Some (qs, behind) → with_pairs ps (option_and_then past_pairs o) ≡ Some (qs, past is_blank behind)
onto_some ps qs behind None e = cc
onto_some ps qs behind (Some x) e = ap (option_map' behind_blanks) e
  where
    behind_blanks : Pairs × List ℕ → Pairs × List ℕ
    behind_blanks y = (y.0, past is_blank y.1)

    option_map' : (Pairs × List ℕ → Pairs × List ℕ) → Option (Pairs × List ℕ) → Option (Pairs × List ℕ)
    option_map' f None = None
    option_map' f (Some y) = Some (f y)

onto_none : (ps : Pairs) (o : Option (Pairs × List ℕ)) → with_pairs ps o ≡ None → with_pairs ps (option_and_then past_pairs o) ≡ None
onto_none ps None e = refl
onto_none ps (Some x) e = cc

pub braces_some : (ps qs : Pairs) (bytes behind inside : List ℕ) → behind_byte 123 bytes ≡ Some inside → with_pairs ps (all_labels (past is_blank inside)) ≡ Some (qs, behind) → with_pairs ps (braces_at bytes) ≡ Some (qs, past is_blank behind)
braces_some ps qs bytes behind inside e f = rw e (onto_some ps qs behind _ f)

pub braces_none : (ps : Pairs) (bytes inside : List ℕ) → behind_byte 123 bytes ≡ Some inside → with_pairs ps (all_labels (past is_blank inside)) ≡ None → with_pairs ps (braces_at bytes) ≡ None
braces_none ps bytes inside e f = rw e (onto_none ps _ f)

pub braces_bad : (ps : Pairs) (bytes : List ℕ) → behind_byte 123 bytes ≡ None → with_pairs ps (braces_at bytes) ≡ None
braces_bad ps bytes e = rw e refl

pub middle_braces : (ps : Pairs) (bytes : List ℕ) → begins_with 123 (past is_blank bytes) ≡ true → with_pairs ps (middle_at bytes) ≡ with_pairs ps (braces_at (past is_blank bytes))
unfolding middle_at
middle_braces ps bytes e = rw e refl

pub middle_bare : (ps : Pairs) (bytes : List ℕ) → begins_with 123 (past is_blank bytes) ≡ false → begins_blank bytes ≡ true → with_pairs ps (middle_at bytes) ≡ Some (ps, past is_blank bytes)
unfolding middle_at
middle_bare ps bytes e f = rw (e, f) (ap (λ qs. Some (qs, past is_blank bytes)) (append-nil ps))

pub middle_none : (ps : Pairs) (bytes : List ℕ) → begins_with 123 (past is_blank bytes) ≡ false → begins_blank bytes ≡ false → with_pairs ps (middle_at bytes) ≡ None
unfolding middle_at
middle_none ps bytes e f = rw (e, f) refl

pub ruleset brace_rules = (braces_some, braces_none, braces_bad)

pub ruleset middle_rules = (middle_braces, middle_bare, middle_none)
