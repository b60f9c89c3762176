-- Labels in braces as the grammar spells them.
use Rattle.std.proofs.Common.{◌≡◌, ◌∙◌, ℕ, zero, suc, ◌<◌, true, false, inl, inr, Option, Some, None, List, [], ◌∷◌, ◌++◌, length, nat_eq, append_assoc, refl, sym, ap, subst, arith}
use Rattle.std.specs.Prelude.{IfSome}
use Rattle.std.specs.List.{list_all}
use Rattle.std.proofs.lemmas.Bool.{and_parts}
use Rattle.std.proofs.lemmas.Bool.Decides.{nat_tests}
use Rattle.std.proofs.lemmas.Option.{cond_some}
use Rattle.pf_base.specs.LabelSets.{Pairs, goes_on, starts_name, is_label_name}
use Rattle.pf_model.specs.Exposition.{AreLabels, IsLabel, Label, are_blanks, begins_with, escaped, is_blank, label_text, more_text, pairs_of}
use Rattle.pf_expo.specs.Scans.{Cut, behind_byte, behind_label, closed, front_of, label_at, label_name_at, labels_from, past, quoted_at, with_pairs}
use Rattle.pf_expo.proofs.Fronts.{front_all}
use Rattle.pf_expo.proofs.Shorter.{bind_some, label_shorter}
use Rattle.pf_expo.proofs.Words.{Halts, byte_found, cases, front_spelled, front_split, label_name_again, label_name_found, some_is, value_again, value_found}

same_byte : (b c : ℕ) → nat_eq b c ≡ true → b ≡ c
same_byte b c h = grind (arith, nat_tests)

-- ---- one label

-- a label's text without the blanks before it, and what stands behind
abbrev pub core : List ℕ → List ℕ → List ℕ → List ℕ → List ℕ → List ℕ → List ℕ
core name one two value three behind = name ++ (one ++ (61 ∷ (two ++ (34 ∷ (escaped value ++ (34 ∷ (three ++ behind)))))))

pub core_is : (l : Label) (behind : List ℕ) → label_text l ++ behind ≡ l.before ++ core l.name l.before_sign l.behind_sign l.value l.behind behind
core_is l behind = simp append_assoc

-- what may stand behind a label and its blanks: a comma with blanks behind it, or a brace
pub data Sep (seps rest : List ℕ) : Type 0 where
  comma : (blanks : List ℕ) → are_blanks blanks ≡ true → seps ≡ 44 ∷ (blanks ++ rest) → Sep seps rest
  brace : (behind : List ℕ) → rest ≡ 125 ∷ behind → seps ≡ rest → Sep seps rest

pub sep_found : (seps rest : List ℕ) → behind_label seps ≡ Some rest → Sep seps rest
unfolding behind_label
sep_found [] rest e = cc
sep_found (b ∷ bs) rest e = elim (cases (nat_eq b 44)) [
  | inl y ↦
      let g = rw y at e in
      let same : past is_blank bs ≡ rest = cc in
      comma (front_of is_blank bs) (front_all is_blank bs) (ap (λ x. x ∷ bs) (same_byte b 44 y) ∙ ap (λ xs. 44 ∷ xs) (front_split is_blank bs ∙ ap (λ xs. front_of is_blank bs ++ xs) same))
  | inr n ↦
      let g = rw n at e in
      let k = cond_some _ _ rest g in
      brace bs (sym k.1 ∙ ap (λ x. x ∷ bs) (same_byte b 125 k.0)) k.1
]

pub sep_comma : (blanks rest : List ℕ) → are_blanks blanks ≡ true → Halts is_blank rest → behind_label (44 ∷ (blanks ++ rest)) ≡ Some rest
unfolding behind_label
sep_comma blanks rest h s = ap Some (front_spelled is_blank blanks rest h s).1

pub record LabelFound (bytes : List ℕ) (p : List ℕ × List ℕ) (rest : List ℕ) : Type 0 where
  pub one : List ℕ
  pub two : List ℕ
  pub three : List ℕ
  pub seps : List ℕ
  pub lawful : IsLabel (record { before = []; name = p.0; before_sign = one; behind_sign = two; value = p.1; behind = three })
  pub spelled : bytes ≡ core p.0 one two p.1 three seps
  pub sep : Sep seps rest

pub label_found : (bytes : List ℕ) (p : List ℕ × List ℕ) (rest : List ℕ) → label_at bytes ≡ Some (p, rest) → LabelFound bytes p rest
unfolding label_at
label_found bytes p rest e =
    let n = bind_some (label_name_at bytes) _ (p, rest) e in
    let s = bind_some (behind_byte 61 (past is_blank n.0.1)) _ (p, rest) n.2 in
    let v = bind_some (quoted_at (past is_blank s.0)) _ (p, rest) s.2 in
    let b = bind_some (behind_label (past is_blank v.0.1)) _ (p, rest) v.2 in
    made n.0 s.0 v.0 b.0 n.1 s.1 v.1 b.1 b.2
  where
    made : (n : Cut) (s : List ℕ) (v : Cut) (b : List ℕ) → label_name_at bytes ≡ Some n → behind_byte 61 (past is_blank n.1) ≡ Some s → quoted_at (past is_blank s) ≡ Some v
        → behind_label (past is_blank v.1) ≡ Some b → ◌≡◌ {A = Option ((List ℕ × List ℕ) × List ℕ)} (Some ((n.0, v.0), b)) (Some (p, rest)) → LabelFound bytes p rest
    made n s v b en es ev eb same =
        let name = label_name_found bytes n en in
        let value = value_found (past is_blank s) v ev in
        let P = λ (x : (List ℕ × List ℕ) × List ℕ). LabelFound bytes x.0 x.1 in
        subst P (the_same ((n.0, v.0), b) (p, rest) same) (record {
          one = front_of is_blank n.1;
          two = front_of is_blank s;
          three = front_of is_blank v.1;
          seps = past is_blank v.1;
          lawful = record { before = refl; name = name.lawful; before_sign = front_all is_blank n.1; behind_sign = front_all is_blank s; value = value.1; behind = front_all is_blank v.1 };
          spelled =
              name.spelled ∙ ap (λ xs. n.0 ++ xs) (front_split is_blank n.1 ∙ ap (λ xs. front_of is_blank n.1 ++ xs) (byte_found 61 (past is_blank n.1) s es
              ∙ ap (λ xs. 61 ∷ xs) (front_split is_blank s ∙ ap (λ xs. front_of is_blank s ++ xs) (value.0
              ∙ ap (λ xs. 34 ∷ (escaped v.0 ++ (34 ∷ xs))) (front_split is_blank v.1)))));
          sep = sep_found (past is_blank v.1) b eb;
        })
      where
        the_same : (x y : (List ℕ × List ℕ) × List ℕ) → Some x ≡ Some y → x ≡ y
        the_same x y e = cc

blank_stops : (b : ℕ) → is_blank b ≡ true → goes_on b ≡ false
blank_stops b h = grind (arith, nat_tests)

name_halts : (one r : List ℕ) → are_blanks one ≡ true → Halts goes_on (one ++ (61 ∷ r))
name_halts [] r h = refl
name_halts (b ∷ bs) r h = blank_stops b (and_parts _ _ h).0

pub label_again : (l : Label) (seps rest : List ℕ) → IsLabel l → Halts is_blank seps → behind_label seps ≡ Some rest
    → label_at (core l.name l.before_sign l.behind_sign l.value l.behind seps) ≡ Some ((l.name, l.value), rest)
unfolding label_at
label_again l seps rest h halts sep =
    let a = label_name_again l.name (l.before_sign ++ (61 ∷ (l.behind_sign ++ (34 ∷ (escaped l.value ++ (34 ∷ (l.behind ++ seps))))))) h.name (name_halts l.before_sign _ h.before_sign) in
    let b = (front_spelled is_blank l.before_sign (61 ∷ (l.behind_sign ++ (34 ∷ (escaped l.value ++ (34 ∷ (l.behind ++ seps)))))) h.before_sign refl).1 in
    let c = (front_spelled is_blank l.behind_sign (34 ∷ (escaped l.value ++ (34 ∷ (l.behind ++ seps)))) h.behind_sign refl).1 in
    let d = value_again l.value (l.behind ++ seps) h.value in
    let f = (front_spelled is_blank l.behind seps h.behind halts).1 in
    rw a (rw b (rw c (rw d (rw f (rw sep refl)))))

-- ---- labels up to the brace

pub data BracesFound (bytes : List ℕ) (ps : Pairs) (rest : List ℕ) : Type 0 where
  shut : bytes ≡ 125 ∷ rest → ps ≡ [] → BracesFound bytes ps rest
  opened : (l : Label) (ls : List Label) (last : Option (List ℕ)) → IsLabel l → l.before ≡ [] → AreLabels ls → IfSome last (λ blanks. are_blanks blanks ≡ true)
      → ps ≡ pairs_of (l ∷ ls) → bytes ≡ label_text l ++ (more_text ls last ++ rest) → BracesFound bytes ps rest

pub pairs_some : (p : List ℕ × List ℕ) (o : Option (Pairs × List ℕ)) (ps : Pairs) (rest : List ℕ) → with_pairs (p ∷ []) o ≡ Some (ps, rest)
    → (qs : Pairs) × (o ≡ Some (qs, rest)) × (ps ≡ p ∷ qs)
pairs_some p None ps rest e = cc
pairs_some p (Some x) ps rest e =
    let s : ◌≡◌ {A = Pairs × List ℕ} (p ∷ x.0, x.1) (ps, rest) = some_is _ _ e in
    (x.0, ap (λ r. Some (x.0, r)) (ap (λ (d : Pairs × List ℕ). d.1) s), sym (ap (λ (d : Pairs × List ℕ). d.0) s))

shut_found : (bytes : List ℕ) (ps : Pairs) (rest : List ℕ) → begins_with 125 bytes ≡ true → closed bytes ≡ Some (ps, rest) → BracesFound bytes ps rest
shut_found [] ps rest y e = cc
shut_found (b ∷ bs) ps rest y e =
    let s : ◌≡◌ {A = Pairs × List ℕ} ([], bs) (ps, rest) = some_is _ _ e in
    shut (ap (λ x. x ∷ bs) (same_byte b 125 y) ∙ ap (λ xs. 125 ∷ xs) (ap (λ (d : Pairs × List ℕ). d.1) s)) (sym (ap (λ (d : Pairs × List ℕ). d.0) s))

head_name : (name r behind : List ℕ) → is_label_name name ≡ true → 125 ∷ behind ≡ name ++ r → ⊥
head_name [] r behind h e = cc
head_name (b ∷ bs) r behind h e = let q : 125 ≡ b = cc in let k : starts_name b ≡ true = (and_parts (starts_name b) (list_all goes_on bs) h).0 in grind (arith, nat_tests)

first_label : List ℕ → List ℕ → List ℕ → List ℕ × List ℕ → Label
first_label one two three p = record { before = []; name = p.0; before_sign = one; behind_sign = two; value = p.1; behind = three }

unfoldable pub moved : Label → List ℕ → Label
moved l blanks = record { before = blanks; name = l.name; before_sign = l.before_sign; behind_sign = l.behind_sign; value = l.value; behind = l.behind }

join_found : (bytes : List ℕ) (p : List ℕ × List ℕ) (b2 : List ℕ) (qs : Pairs) (rest : List ℕ) → LabelFound bytes p b2 → BracesFound b2 qs rest → BracesFound bytes (p ∷ qs) rest
unfolding first_label moved
join_found bytes p b2 qs rest f g = by f.sep g
  where
    l : Label
    l = first_label f.one f.two f.three p

    by : Sep f.seps b2 → BracesFound b2 qs rest → BracesFound bytes (p ∷ qs) rest
    by (comma blanks h e) (shut e2 q) =
        opened l [] (Some blanks) f.lawful refl tt h (ap (λ x. p ∷ x) q)
        (f.spelled ∙ ap (core p.0 f.one f.two p.1 f.three) (e ∙ ap (λ xs. 44 ∷ (blanks ++ xs)) e2 ∙ ap (λ xs. 44 ∷ xs) (sym (append_assoc blanks (125 ∷ []) rest)))
        ∙ sym (core_is l (more_text [] (Some blanks) ++ rest)))
    by (comma blanks h e) (opened m ls last hm bare hs hl q e2) =
        opened l (moved m blanks ∷ ls) last f.lawful refl
        (record { before = h; name = hm.name; before_sign = hm.before_sign; behind_sign = hm.behind_sign; value = hm.value; behind = hm.behind }, hs) hl (ap (λ x. p ∷ x) q)
        (f.spelled ∙ ap (core p.0 f.one f.two p.1 f.three)
        (e ∙ ap (λ xs. 44 ∷ (blanks ++ xs)) (e2 ∙ core_is m (more_text ls last ++ rest) ∙ ap (λ xs. xs ++ core m.name m.before_sign m.behind_sign m.value m.behind (more_text ls last ++ rest)) bare)
        ∙ ap (λ xs. 44 ∷ xs) (sym (core_is (moved m blanks) (more_text ls last ++ rest)) ∙ sym (append_assoc (label_text (moved m blanks)) (more_text ls last) rest)))
        ∙ sym (core_is l (more_text (moved m blanks ∷ ls) last ++ rest)))
    by (brace behind eb es) (shut e2 q) =
        opened l [] None f.lawful refl tt tt (ap (λ x. p ∷ x) q)
        (f.spelled ∙ ap (core p.0 f.one f.two p.1 f.three) (es ∙ e2) ∙ sym (core_is l (more_text [] None ++ rest)))
    by (brace behind eb es) (opened m ls last hm bare hs hl q e2) =
        absurd (head_name m.name _ behind hm.name (sym eb ∙ e2 ∙ core_is m (more_text ls last ++ rest) ∙ ap (λ xs. xs ++ core m.name m.before_sign m.behind_sign m.value m.behind (more_text ls last ++ rest)) bare))

pub labels_found : (n : ℕ) (bytes : List ℕ) (ps : Pairs) (rest : List ℕ) → labels_from n bytes ≡ Some (ps, rest) → BracesFound bytes ps rest
unfolding labels_from
labels_found zero bytes ps rest e = cc
labels_found (suc n) bytes ps rest e = elim (cases (begins_with 125 bytes)) [
  | inl y ↦ let g = rw y at e in shut_found bytes ps rest y g
  | inr m ↦
      let g = rw m at e in
      let b = bind_some (label_at bytes) (λ (l : (List ℕ × List ℕ) × List ℕ). with_pairs (l.0 ∷ []) (labels_from n l.1)) (ps, rest) g in
      let s = pairs_some b.0.0 (labels_from n b.0.1) ps rest b.2 in
      let P = λ (x : Pairs). BracesFound bytes x rest in
      subst P (sym s.2) (join_found bytes b.0.0 b.0.1 s.0 rest (label_found bytes b.0.0 b.0.1 b.1) (labels_found n b.0.1 s.0 rest s.1))
]

-- ---- the other way

begins_name : (name r : List ℕ) → is_label_name name ≡ true → begins_with 125 (name ++ r) ≡ false
begins_name [] r h = cc
begins_name (b ∷ bs) r h = let k : starts_name b ≡ true = (and_parts (starts_name b) (list_all goes_on bs) h).0 in grind (arith, nat_tests)

pub name_no_blank : (name r : List ℕ) → is_label_name name ≡ true → Halts is_blank (name ++ r)
name_no_blank [] r h = cc
name_no_blank (b ∷ bs) r h = let k : starts_name b ≡ true = (and_parts (starts_name b) (list_all goes_on bs) h).0 in grind (arith, nat_tests)

abbrev pub text_at : Label → List ℕ → List ℕ
text_at l seps = core l.name l.before_sign l.behind_sign l.value l.behind seps

shut_again : (rest : List ℕ) (m : ℕ) → length (125 ∷ rest) < m → labels_from m (125 ∷ rest) ≡ Some ([], rest)
unfolding labels_from
shut_again rest zero h = absurd (omega arith)
shut_again rest (suc m) h = refl

step_again : (l : Label) (seps next final : List ℕ) (qs : Pairs) → IsLabel l → Halts is_blank seps → behind_label seps ≡ Some next
    → ((m : ℕ) → length next < m → labels_from m next ≡ Some (qs, final)) → (n : ℕ) → length (text_at l seps) < n → labels_from n (text_at l seps) ≡ Some ((l.name, l.value) ∷ qs, final)
unfolding labels_from
step_again l seps next final qs h halts sep f zero short = absurd (omega (arith, short))
step_again l seps next final qs h halts sep f (suc m) short =
    let a = label_again l seps next h halts sep in
    let b = begins_name l.name (l.before_sign ++ (61 ∷ (l.behind_sign ++ (34 ∷ (escaped l.value ++ (34 ∷ (l.behind ++ seps))))))) h.name in
    let s = label_shorter (text_at l seps) next (l.name, l.value) a in
    rw b (rw a (ap (with_pairs ((l.name, l.value) ∷ [])) (f m (omega (arith, s, short)))))

brace_behind : (rest : List ℕ) → behind_label (125 ∷ rest) ≡ Some (125 ∷ rest)
unfolding behind_label
brace_behind rest = refl

pub labels_again : (l : Label) (ls : List Label) (last : Option (List ℕ)) (rest : List ℕ) → IsLabel l → AreLabels ls → IfSome last (λ blanks. are_blanks blanks ≡ true)
    → (n : ℕ) → length (text_at l (more_text ls last ++ rest)) < n → labels_from n (text_at l (more_text ls last ++ rest)) ≡ Some (pairs_of (l ∷ ls), rest)
labels_again l [] None rest h hs hl = step_again l (125 ∷ rest) (125 ∷ rest) rest [] h refl (brace_behind rest) (shut_again rest)
labels_again l [] (Some blanks) rest h hs hl =
    step_again l (more_text [] (Some blanks) ++ rest) (125 ∷ rest) rest [] h refl
    (ap (λ xs. behind_label (44 ∷ xs)) (append_assoc blanks (125 ∷ []) rest) ∙ sep_comma blanks (125 ∷ rest) hl refl) (shut_again rest)
labels_again l (m ∷ ls) last rest h hs hl =
    step_again l (more_text (m ∷ ls) last ++ rest) (text_at m (more_text ls last ++ rest)) rest (pairs_of (m ∷ ls)) h refl
    (ap (λ xs. behind_label (44 ∷ xs)) (append_assoc (label_text m) (more_text ls last) rest ∙ core_is m (more_text ls last ++ rest))
    ∙ sep_comma m.before (text_at m (more_text ls last ++ rest)) hs.0.before (name_no_blank m.name _ hs.0.name))
    (labels_again m ls last rest hs.0 hs.1 hl)
