-- Sample lines: what the scanner finds are a line's parts, and a line's parts are found.
use Rattle.std.proofs.Common.{◌≡◌, ◌∙◌, ℕ, suc, Bool, true, false, not, ◌&&◌, inl, inr, Option, Some, None, List, [], ◌∷◌, ◌++◌, length, nat_eq, append_assoc, refl, sym, ap, subst, arith}
use Rattle.std.specs.Prelude.{option_and_then, option_map, IfSome}
use Rattle.std.specs.List.{list_all}
use Rattle.std.specs.Char.{is_ascii_digit}
use Rattle.std.proofs.lemmas.Bool.{and_parts, and_from}
use Rattle.std.proofs.lemmas.Bool.Decides.{nat_tests}
use Rattle.std.proofs.lemmas.Option.{cond_some}
use Rattle.pf_base.specs.LabelSets.{Pairs, is_empty}
use Rattle.pf_base.specs.NumberTexts.{number_after}
use Rattle.pf_model.specs.Exposition.{AreLabels, AreParts, IsLabel, IsMiddle, IsStamp, Label, Middle, Parts, Stamp, are_blanks, are_digits, bare, begins_with, empty, full, goes_on_metric, is_blank, is_gap, is_metric_name, is_no_blank, is_word, labelled, label_text, middle_pairs, middle_text, more_text, name_label, pairs_of, parts_pairs, parts_text, stamp_text, starts_metric}
use Rattle.pf_expo.specs.Scans.{Cut, Scanned, all_labels, begins_blank, behind_byte, capped, capped_time, front_of, kept, labels_from, metric_name_at, middle_at, past, past_pairs, scan, series_at, time_at, with_pairs}
use Rattle.pf_expo.proofs.Braces.{BracesFound, core, core_is, labels_again, labels_found, name_no_blank, opened, pairs_some, shut, text_at, moved}
use Rattle.pf_expo.proofs.FirstBytes.{Begins}
use Rattle.pf_expo.proofs.Fronts.{front_all}
use Rattle.pf_expo.proofs.Shorter.{bind_some}
use Rattle.pf_expo.proofs.Words.{Halts, byte_found, cases, front_spelled, front_split, metric_name_again, metric_name_found, past_halts, some_is}

-- ---- between the name and the value

pub record MiddleFound (bytes : List ℕ) (x : Pairs × List ℕ) : Type 0 where
  pub middle : Middle
  pub lawful : IsMiddle middle
  pub pairs : x.0 ≡ middle_pairs middle
  pub spelled : bytes ≡ middle_text middle ++ x.1

gap_found : (bytes : List ℕ) → begins_blank bytes ≡ true → is_gap (front_of is_blank bytes) ≡ true
gap_found [] h = cc
gap_found (b ∷ bs) h = rw h (rw h (front_all is_blank bs))

braces_found : (bytes inside : List ℕ) (y : Pairs × List ℕ) → past is_blank bytes ≡ 123 ∷ inside → BracesFound (past is_blank inside) y.0 y.1 → MiddleFound bytes (y.0, past is_blank y.1)
unfolding moved
braces_found bytes inside y e (shut s q) = record {
  middle = labelled (front_of is_blank bytes) (empty (front_of is_blank inside)) (front_of is_blank y.1);
  lawful = (front_all is_blank bytes, (front_all is_blank inside, front_all is_blank y.1));
  pairs = q;
  spelled =
      front_split is_blank bytes ∙ ap (λ xs. front_of is_blank bytes ++ xs)
      (e ∙ ap (λ xs. 123 ∷ xs) (front_split is_blank inside ∙ ap (λ xs. front_of is_blank inside ++ xs) (s ∙ ap (λ xs. 125 ∷ xs) (front_split is_blank y.1))))
      ∙ regroup (front_of is_blank bytes) (front_of is_blank inside) (front_of is_blank y.1) (past is_blank y.1);
}
  where
    regroup : (a b c r : List ℕ) → a ++ (123 ∷ (b ++ (125 ∷ (c ++ r)))) ≡ (a ++ ((123 ∷ (b ++ (125 ∷ []))) ++ c)) ++ r
    regroup a b c r = simp append_assoc
braces_found bytes inside y e (opened l ls last h before hs hl q s) = record {
  middle = labelled (front_of is_blank bytes) (full (moved l (front_of is_blank inside)) ls last) (front_of is_blank y.1);
  lawful = (front_all is_blank bytes, ((record { before = front_all is_blank inside; name = h.name; before_sign = h.before_sign; behind_sign = h.behind_sign; value = h.value; behind = h.behind }, (hs, hl)), front_all is_blank y.1));
  pairs = q;
  spelled =
      front_split is_blank bytes ∙ ap (λ xs. front_of is_blank bytes ++ xs)
      (e ∙ ap (λ xs. 123 ∷ xs) (front_split is_blank inside ∙ ap (λ xs. front_of is_blank inside ++ xs)
      (s ∙ core_is l (more_text ls last ++ y.1) ∙ ap (λ xs. xs ++ core l.name l.before_sign l.behind_sign l.value l.behind (more_text ls last ++ y.1)) before)
      ∙ sym (core_is (moved l (front_of is_blank inside)) (more_text ls last ++ y.1)) ∙ ap (λ xs. label_text (moved l (front_of is_blank inside)) ++ (more_text ls last ++ xs)) (front_split is_blank y.1)))
      ∙ regroup (front_of is_blank bytes) (label_text (moved l (front_of is_blank inside))) (more_text ls last) (front_of is_blank y.1) (past is_blank y.1);
}
  where
    regroup : (a b m c r : List ℕ) → a ++ (123 ∷ (b ++ (m ++ (c ++ r)))) ≡ (a ++ ((123 ∷ (b ++ m)) ++ c)) ++ r
    regroup a b m c r = simp append_assoc

pub middle_found : (bytes : List ℕ) (x : Pairs × List ℕ) → middle_at bytes ≡ Some x → MiddleFound bytes x
unfolding middle_at all_labels
middle_found bytes x e = elim (cases (begins_with 123 (past is_blank bytes))) [
  | inl y ↦
      let g = rw y at e in
      let i = bind_some (behind_byte 123 (past is_blank bytes)) (λ (behind : List ℕ). option_and_then past_pairs (all_labels (past is_blank behind))) x g in
      let l = bind_some (all_labels (past is_blank i.0)) past_pairs x i.2 in
      let P = λ (z : Pairs × List ℕ). MiddleFound bytes z in
      subst P (some_is (l.0.0, past is_blank l.0.1) x l.2) (braces_found bytes i.0 l.0 (byte_found 123 (past is_blank bytes) i.0 i.1) (labels_found (suc (length (past is_blank i.0))) (past is_blank i.0) l.0.0 l.0.1 l.1))
  | inr m ↦
      let g = rw m at e in
      let k = cond_some (begins_blank bytes) _ x g in
      let P = λ (z : Pairs × List ℕ). MiddleFound bytes z in
      subst P k.1 (record { middle = bare (front_of is_blank bytes); lawful = gap_found bytes k.0; pairs = refl; spelled = front_split is_blank bytes })
]

-- the other way

gap_begins : (gap r : List ℕ) → is_gap gap ≡ true → begins_blank (gap ++ r) ≡ true
gap_begins [] r h = cc
gap_begins (b ∷ bs) r h = (and_parts (is_blank b) (list_all is_blank bs) h).0

gap_blanks : (gap : List ℕ) → is_gap gap ≡ true → list_all is_blank gap ≡ true
gap_blanks [] h = refl
gap_blanks (b ∷ bs) h = h

shut_read : (xs : List ℕ) → option_and_then past_pairs (all_labels (125 ∷ xs)) ≡ Some ([], past is_blank xs)
unfolding all_labels labels_from
shut_read xs = refl

opened_read : (l : Label) (ls : List Label) (last : Option (List ℕ)) (r : List ℕ) → IsLabel l → AreLabels ls → IfSome last (λ blanks. are_blanks blanks ≡ true)
    → option_and_then past_pairs (all_labels (text_at l (more_text ls last ++ r))) ≡ Some (pairs_of (l ∷ ls), past is_blank r)
unfolding all_labels
opened_read l ls last r h hs hl =
    let e = labels_again l ls last r h hs hl (suc (length (text_at l (more_text ls last ++ r)))) (omega arith) in
    rw e refl

middle_braced : (before inside r : List ℕ) (x : Option (Pairs × List ℕ)) → are_blanks before ≡ true → option_and_then past_pairs (all_labels (past is_blank inside)) ≡ x
    → middle_at (before ++ (123 ∷ inside)) ≡ x
unfolding middle_at
middle_braced before inside r x h e = let p = (front_spelled is_blank before (123 ∷ inside) h refl).1 in rw p e

pub middle_again : (m : Middle) (r : List ℕ) → IsMiddle m → Halts is_blank r → begins_with 123 r ≡ false → middle_at (middle_text m ++ r) ≡ Some (middle_pairs m, r)
unfolding middle_at
middle_again (bare gap) r h halts other =
    let p = (front_spelled is_blank gap r (gap_blanks gap h) halts).1 in
    let b = gap_begins gap r h in
    rw p (rw other (rw b refl))
middle_again (labelled before (empty blanks) behind) r h halts other =
    let q = (front_spelled is_blank blanks (125 ∷ (behind ++ r)) h.1.0 refl).1 in
    let s = (front_spelled is_blank behind r h.1.1 halts).1 in
    ap middle_at (regroup before blanks behind r)
    ∙ middle_braced before (blanks ++ (125 ∷ (behind ++ r))) r _ h.0 (ap (λ xs. option_and_then past_pairs (all_labels xs)) q ∙ shut_read (behind ++ r) ∙ ap (λ xs. Some ([], xs)) s)
  where
    regroup : (a b c r : List ℕ) → (a ++ ((123 ∷ (b ++ (125 ∷ []))) ++ c)) ++ r ≡ a ++ (123 ∷ (b ++ (125 ∷ (c ++ r))))
    regroup a b c r = simp append_assoc
middle_again (labelled before (full l ls last) behind) r h halts other =
    let q = (front_spelled is_blank l.before (text_at l (more_text ls last ++ (behind ++ r))) h.1.0.0.before (name_no_blank l.name _ h.1.0.0.name)).1 in
    let s = (front_spelled is_blank behind r h.1.1 halts).1 in
    ap middle_at (regroup before (label_text l) (more_text ls last) behind r ∙ ap (λ xs. before ++ (123 ∷ xs)) (core_is l (more_text ls last ++ (behind ++ r))))
    ∙ middle_braced before (l.before ++ text_at l (more_text ls last ++ (behind ++ r))) r _ h.0
    (ap (λ xs. option_and_then past_pairs (all_labels xs)) q ∙ opened_read l ls last (behind ++ r) h.1.0.0 h.1.0.1.0 h.1.0.1.1 ∙ ap (λ xs. Some (pairs_of (l ∷ ls), xs)) s)
  where
    regroup : (a b m c r : List ℕ) → (a ++ ((123 ∷ (b ++ m)) ++ c)) ++ r ≡ a ++ (123 ∷ (b ++ (m ++ (c ++ r))))
    regroup a b m c r = simp append_assoc

-- ---- timestamps

abbrev pub seen_time : ℕ → Option Stamp → ℕ
seen_time default None = default
seen_time default (Some s) = capped (number_after 0 s.digits)

pub record StampFound (default : ℕ) (bytes : List ℕ) (t : ℕ) : Type 0 where
  pub stamp : Option Stamp
  pub behind : List ℕ
  pub lawful : IfSome stamp IsStamp
  pub blanks : are_blanks behind ≡ true
  pub spelled : bytes ≡ stamp_text stamp ++ behind
  pub time : t ≡ seen_time default stamp

blanks_all : (xs : List ℕ) → is_empty (past is_blank xs) ≡ true → list_all is_blank xs ≡ true
blanks_all [] h = refl
blanks_all (b ∷ bs) h = elim (cases (is_blank b)) [
  | inl y ↦ let g = rw y at h in rw y (blanks_all bs g)
  | inr n ↦ absurd (let g = rw n at h in cc)
]

map_some : (f : Option (List ℕ) → ℕ) (b : Bool) (x : Option (List ℕ)) (t : ℕ) → option_map f (kept b x) ≡ Some t → (b ≡ true) × (f x ≡ t)
map_some f true x t e = (refl, some_is (f x) t e)
map_some f false x t e = cc

gap_of : (bytes : List ℕ) → Halts is_no_blank bytes → is_empty (past is_blank bytes) ≡ false → begins_blank bytes ≡ true
gap_of [] h e = cc
gap_of (b ∷ bs) h e = elim (cases (is_blank b)) [
  | inl y ↦ y
  | inr n ↦ absurd (let g = rw n at h in cc)
]

pub stamp_found : (default : ℕ) (bytes : List ℕ) (t : ℕ) → Halts is_no_blank bytes → time_at default bytes ≡ Some t → StampFound default bytes t
unfolding time_at
stamp_found default bytes t h e = elim (cases (is_empty (past is_blank bytes))) [
  | inl y ↦
      let g = rw y at e in
      record { stamp = None; behind = bytes; lawful = tt; blanks = blanks_all bytes y; spelled = refl; time = sym (some_is default t g) }
  | inr n ↦
      let g = rw n at e in
      let k = map_some (capped_time default) (not (is_empty (front_of is_ascii_digit (past is_blank bytes))) && is_empty (past is_blank (past is_ascii_digit (past is_blank bytes)))) (Some (front_of is_ascii_digit (past is_blank bytes))) t g in
      let a = and_parts (not (is_empty (front_of is_ascii_digit (past is_blank bytes)))) (is_empty (past is_blank (past is_ascii_digit (past is_blank bytes)))) k.0 in
      record {
        stamp = Some (record { gap = front_of is_blank bytes; digits = front_of is_ascii_digit (past is_blank bytes) });
        behind = past is_ascii_digit (past is_blank bytes);
        lawful = record { gap = gap_found bytes (gap_of bytes h n); digits = and_from _ _ a.0 (front_all is_ascii_digit (past is_blank bytes)) };
        blanks = blanks_all (past is_ascii_digit (past is_blank bytes)) a.1;
        spelled =
            front_split is_blank bytes ∙ ap (λ xs. front_of is_blank bytes ++ xs) (front_split is_ascii_digit (past is_blank bytes))
            ∙ sym (append_assoc (front_of is_blank bytes) (front_of is_ascii_digit (past is_blank bytes)) (past is_ascii_digit (past is_blank bytes)));
        time = sym k.1;
      }
]

-- the other way

all_past : (p : ℕ → Bool) (xs : List ℕ) → list_all p xs ≡ true → past p xs ≡ []
all_past p [] h = refl
all_past p (x ∷ xs) h = let k = and_parts (p x) (list_all p xs) h in let y = k.0 in rw y (all_past p xs k.1)

digit_no_blank : (b : ℕ) → is_ascii_digit b ≡ true → is_blank b ≡ false
digit_no_blank b h = grind (arith, nat_tests)

blank_no_digit : (b : ℕ) → is_blank b ≡ true → is_ascii_digit b ≡ false
blank_no_digit b h = grind (arith, nat_tests)

digits_first : (ds r : List ℕ) → are_digits ds ≡ true → (is_empty ds ≡ false) × (list_all is_ascii_digit ds ≡ true) × Halts is_blank (ds ++ r) × (is_empty (ds ++ r) ≡ false)
digits_first [] r h = cc
digits_first (d ∷ ds) r h = (refl, h, digit_no_blank d (and_parts (is_ascii_digit d) (list_all is_ascii_digit ds) h).0, refl)

digits_halt : (behind : List ℕ) → are_blanks behind ≡ true → Halts is_ascii_digit behind
digits_halt [] h = tt
digits_halt (b ∷ bs) h = blank_no_digit b (and_parts (is_blank b) (list_all is_blank bs) h).0

pub stamp_again : (default : ℕ) (s : Option Stamp) (behind : List ℕ) → IfSome s IsStamp → are_blanks behind ≡ true → time_at default (stamp_text s ++ behind) ≡ Some (seen_time default s)
unfolding time_at
stamp_again default None behind h b = let e = all_past is_blank behind b in rw e refl
stamp_again default (Some s) behind h b =
    let d = digits_first s.digits behind h.digits in
    let p = (front_spelled is_blank s.gap (s.digits ++ behind) (gap_blanks s.gap h.gap) d.2).1 in
    let f = front_spelled is_ascii_digit s.digits behind d.1 (digits_halt behind b) in
    let f0 = f.0 in let f1 = f.1 in
    let e = all_past is_blank behind b in
    let d0 = d.0 in let d3 = d.3 in
    ap (time_at default) (append_assoc s.gap s.digits behind) ∙ rw p (rw d3 (rw f0 (rw f1 (rw e (rw d0 refl)))))

blank_no_word : (b : ℕ) → is_blank b ≡ true → is_no_blank b ≡ false
blank_no_word b h = rw h refl

tail_halts : (s : Option Stamp) (behind : List ℕ) → IfSome s IsStamp → are_blanks behind ≡ true → Halts is_no_blank (stamp_text s ++ behind)
tail_halts None [] h b = tt
tail_halts None (x ∷ xs) h b = blank_no_word x (and_parts (is_blank x) (list_all is_blank xs) b).0
tail_halts (Some s) behind h b = by s.gap s.digits h.gap
  where
    by : (gap ds : List ℕ) → is_gap gap ≡ true → Halts is_no_blank ((gap ++ ds) ++ behind)
    by [] ds g = cc
    by (x ∷ xs) ds g = blank_no_word x (and_parts (is_blank x) (list_all is_blank xs) g).0

-- ---- sample lines

pub record ScanFound (default : ℕ) (line : List ℕ) (s : Scanned) : Type 0 where
  pub parts : Parts
  pub lawful : AreParts parts
  pub spelled : line ≡ parts_text parts
  pub pairs : s.pairs ≡ parts_pairs parts
  pub number : s.number ≡ parts.number
  pub time : s.time ≡ seen_time default parts.stamp

pub word_of : (xs : List ℕ) → Begins xs → list_all is_no_blank xs ≡ true → is_word xs ≡ true
word_of [] b h = absurd (let e = b.same in cc)
word_of (x ∷ xs) b h = h

pub scan_found : (default : ℕ) (line : List ℕ) (s : Scanned) → scan default line ≡ Some s → Begins s.number → ScanFound default line s
unfolding scan series_at
scan_found default line s e b =
    let m = bind_some (series_at line) _ s e in
    let n = bind_some (metric_name_at (past is_blank line)) _ m.0 m.1 in
    let t = bind_some (time_at default (past is_no_blank m.0.1)) _ s m.2 in
    made n.0 m.0 t.0 n.1 n.2 t.1 (some_is _ s t.2)
  where
    made : (n : Cut) (m : Pairs × List ℕ) (t : ℕ) → metric_name_at (past is_blank line) ≡ Some n → with_pairs ((name_label, n.0) ∷ []) (middle_at n.1) ≡ Some m
        → time_at default (past is_no_blank m.1) ≡ Some t → ◌≡◌ {A = Scanned} (record { pairs = m.0; number = front_of is_no_blank m.1; time = t }) s → ScanFound default line s
    made n m t en em et same =
        let name = metric_name_found (past is_blank line) n en in
        let q = pairs_some (name_label, n.0) (middle_at n.1) m.0 m.1 em in
        let mid = middle_found n.1 (q.0, m.1) q.1 in
        let stamp = stamp_found default (past is_no_blank m.1) t (past_halts is_no_blank m.1) et in
        let number : front_of is_no_blank m.1 ≡ s.number = ap (λ (x : Scanned). x.number) same in
        let P = λ (xs : List ℕ). Begins xs in
        record {
          parts = record { before = front_of is_blank line; name = n.0; middle = mid.middle; number = front_of is_no_blank m.1; stamp = stamp.stamp; behind = stamp.behind };
          lawful = record {
            before = front_all is_blank line;
            name = name.lawful;
            middle = mid.lawful;
            number = word_of (front_of is_no_blank m.1) (subst P (sym number) b) (front_all is_no_blank m.1);
            stamp = stamp.lawful;
            behind = stamp.blanks;
          };
          spelled =
              front_split is_blank line ∙ ap (λ xs. front_of is_blank line ++ xs) (name.spelled ∙ ap (λ xs. n.0 ++ xs) (mid.spelled ∙ ap (λ xs. middle_text mid.middle ++ xs)
              (front_split is_no_blank m.1 ∙ ap (λ xs. front_of is_no_blank m.1 ++ xs) stamp.spelled)));
          pairs = sym (ap (λ (x : Scanned). x.pairs) same) ∙ q.2 ∙ ap (λ ps. (name_label, n.0) ∷ ps) mid.pairs;
          number = sym number;
          time = sym (ap (λ (x : Scanned). x.time) same) ∙ stamp.time;
        }

-- the other way

metric_no_blank : (name r : List ℕ) → is_metric_name name ≡ true → Halts is_blank (name ++ r)
metric_no_blank [] r h = cc
metric_no_blank (b ∷ bs) r h = let k : starts_metric b ≡ true = (and_parts (starts_metric b) (list_all goes_on_metric bs) h).0 in grind (arith, nat_tests)

blank_no_metric : (b : ℕ) → is_blank b ≡ true → goes_on_metric b ≡ false
blank_no_metric b h = grind (arith, nat_tests)

middle_halts : (m : Middle) (r : List ℕ) → IsMiddle m → Halts goes_on_metric (middle_text m ++ r)
middle_halts (bare []) r h = cc
middle_halts (bare (b ∷ bs)) r h = blank_no_metric b (and_parts (is_blank b) (list_all is_blank bs) h).0
middle_halts (labelled [] (empty blanks) behind) r h = refl
middle_halts (labelled [] (full l ls last) behind) r h = refl
middle_halts (labelled (b ∷ bs) braces behind) r h = blank_no_metric b (and_parts (is_blank b) (list_all is_blank bs) h.0).0

word_first : (number r : List ℕ) → is_word number ≡ true → Begins number → (list_all is_no_blank number ≡ true) × Halts is_blank (number ++ r) × (begins_with 123 (number ++ r) ≡ false)
word_first [] r h b = cc
word_first (x ∷ xs) r h b =
    let k = (and_parts (is_no_blank x) (list_all is_no_blank xs) h).0 in
    (h, no_blank x k, other x b.first (heads x xs b.first b.rest b.same) b.other)
  where
    no_blank : (x : ℕ) → is_no_blank x ≡ true → is_blank x ≡ false
    no_blank x k = grind (arith, nat_tests)

    heads : (x : ℕ) (xs : List ℕ) (y : ℕ) (ys : List ℕ) → x ∷ xs ≡ y ∷ ys → x ≡ y
    heads x xs y ys e = cc

    other : (x y : ℕ) → x ≡ y → (y ≡ 123 → ⊥) → nat_eq x 123 ≡ false
    other x y e f = grind (arith, nat_tests)

pub scan_again : (default : ℕ) (p : Parts) → AreParts p → Begins p.number
    → ◌≡◌ {A = Option Scanned} (scan default (parts_text p)) (Some (record { pairs = parts_pairs p; number = p.number; time = seen_time default p.stamp }))
unfolding scan series_at
scan_again default p h b =
    let tail = stamp_text p.stamp ++ p.behind in
    let w = word_first p.number (stamp_text p.stamp ++ p.behind) h.number b in
    let e1 = (front_spelled is_blank p.before (p.name ++ (middle_text p.middle ++ (p.number ++ (stamp_text p.stamp ++ p.behind)))) h.before (metric_no_blank p.name _ h.name)).1 in
    let e2 = metric_name_again p.name (middle_text p.middle ++ (p.number ++ (stamp_text p.stamp ++ p.behind))) h.name (middle_halts p.middle _ h.middle) in
    let e3 = middle_again p.middle (p.number ++ (stamp_text p.stamp ++ p.behind)) h.middle w.1 w.2 in
    let f = front_spelled is_no_blank p.number (stamp_text p.stamp ++ p.behind) w.0 (tail_halts p.stamp p.behind h.stamp h.behind) in
    let f0 = f.0 in let f1 = f.1 in
    let e4 = stamp_again default p.stamp p.behind h.stamp h.behind in
    rw e1 (rw e2 (rw e3 (rw f1 (rw e4 (rw f0 refl)))))
