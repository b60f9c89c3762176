-- What stands behind a part is shorter.
use Rattle.std.proofs.Common.{◌≡◌, ℕ, suc, ◌<◌, ◌≤◌, Bool, true, false, cond, Option, Some, None, List, [], ◌∷◌, length, refl, ap, arith, nat_eq}
use Rattle.std.specs.Prelude.{option_and_then}
use Rattle.std.specs.Str.{is_utf8}
use Rattle.std.proofs.lemmas.Option.{cond_some}
use Rattle.pf_base.specs.LabelSets.{goes_on}
use Rattle.pf_model.specs.Exposition.{is_blank}
use Rattle.pf_expo.specs.Scans.{Cut, kept, past, front_of, behind_byte, behind_label, label_at, label_name_at, quoted_at, quoted_from, step_of, stepped, with_byte}
use Rattle.pf_expo.specs.declared.labels.Step.{Step}
use Rattle.pf_expo.specs.declared.labels.Step.TheVariants.{Byte, Backslash, End, Refused}

pub bind_some : {A B : Type 0} (o : Option A) (f : A → Option B) (y : B) → option_and_then f o ≡ Some y → (x : A) × (o ≡ Some x) × (f x ≡ Some y)
bind_some None f y e = cc
bind_some (Some x) f y e = (x, refl, e)

pub past_short : (p : ℕ → Bool) (bs : List ℕ) → length (past p bs) ≤ length bs
past_short p [] = omega arith
past_short p (b ∷ bs) = by (p b) (past_short p bs)
  where
    by : (t : Bool) → length (past p bs) ≤ length bs → length (cond t (past p bs) (b ∷ bs)) ≤ suc (length bs)
    by true h = omega arith
    by false h = omega arith

pub byte_short : (b : ℕ) (bs behind : List ℕ) → behind_byte b bs ≡ Some behind → length behind < length bs
byte_short b [] behind e = cc
byte_short b (c ∷ cs) behind e = let k = cond_some _ _ behind e in omega (arith, ap length k.1)

byte_step : (n b : ℕ) (o : Option Cut) (c : Cut) → ((d : Cut) → o ≡ Some d → length d.1 < n) → with_byte b o ≡ Some c → length c.1 < n
byte_step n b None c f e = cc
byte_step n b (Some d) c f e = let s = f d refl in let same : d.1 ≡ c.1 = cc in omega (arith, ap length same)

step_short : (s : Step) (bs : List ℕ) (c : Cut) → ((t : Bool) (d : Cut) → quoted_from bs t ≡ Some d → length d.1 < length bs) → stepped s bs (quoted_from bs) ≡ Some c → length c.1 < suc (length bs)
step_short (Byte b) bs c f e = let h = byte_step (length bs) b (quoted_from bs false) c (f false) e in omega arith
step_short Backslash bs c f e = let h = f true c e in omega arith
step_short End bs c f e = let same : bs ≡ c.1 = cc in omega (arith, ap length same)
step_short Refused bs c f e = cc

pub quoted_short : (bs : List ℕ) (t : Bool) (c : Cut) → quoted_from bs t ≡ Some c → length c.1 < length bs
quoted_short [] t c e = cc
quoted_short (b ∷ bs) t c e = step_short (step_of t b) bs c (quoted_short bs) e

label_behind_short : (bs behind : List ℕ) → behind_label bs ≡ Some behind → length behind ≤ length bs
unfolding behind_label
label_behind_short [] behind e = cc
label_behind_short (b ∷ bs) behind e = by (nat_eq b 44) e
  where
    by : (t : Bool) → cond t (Some (past is_blank bs)) (kept (nat_eq b 125) (b ∷ bs)) ≡ Some behind → length behind ≤ suc (length bs)
    by true h = let same : past is_blank bs ≡ behind = cc in omega (arith, ap length same, past_short is_blank bs)
    by false h = let k = cond_some _ _ behind h in omega (arith, ap length k.1)

quoted_at_short : (bs : List ℕ) (c : Cut) → quoted_at bs ≡ Some c → length c.1 < length bs
unfolding quoted_at
quoted_at_short bs c e =
    let q = bind_some (behind_byte 34 bs) _ c e in
    let f = bind_some (quoted_from q.0 false) _ c q.2 in
    let v = bind_some (kept (is_utf8 f.0.0) f.0.0) _ c f.2 in
    let same : f.0.1 ≡ c.1 = ap (λ (o : Option Cut). last o) v.2 in
    let a = byte_short 34 bs q.0 q.1 in
    let b = quoted_short q.0 false f.0 f.1 in
    omega (arith, ap length same)
  where
    last : Option Cut → List ℕ
    last None = []
    last (Some d) = d.1

name_short : (bs : List ℕ) (c : Cut) → label_name_at bs ≡ Some c → length c.1 ≤ length bs
unfolding label_name_at
name_short bs c e =
    let n = bind_some (kept (is_utf8 (front_of goes_on bs)) (front_of goes_on bs)) _ c e in
    let k = cond_some _ _ c n.2 in
    let same : past goes_on bs ≡ c.1 = ap (λ (d : Cut). d.1) k.1 in
    omega (arith, ap length same, past_short goes_on bs)

pub label_shorter : (bs behind : List ℕ) (p : List ℕ × List ℕ) → label_at bs ≡ Some (p, behind) → length behind < length bs
unfolding label_at
label_shorter bs behind p e =
    let n = bind_some (label_name_at bs) _ (p, behind) e in
    let s = bind_some (behind_byte 61 (past is_blank n.0.1)) _ (p, behind) n.2 in
    let v = bind_some (quoted_at (past is_blank s.0)) _ (p, behind) s.2 in
    let b = bind_some (behind_label (past is_blank v.0.1)) _ (p, behind) v.2 in
    let same : b.0 ≡ behind = ap last b.2 in
    let h1 = name_short bs n.0 n.1 in
    let h2 = past_short is_blank n.0.1 in
    let h3 = byte_short 61 (past is_blank n.0.1) s.0 s.1 in
    let h4 = past_short is_blank s.0 in
    let h5 = quoted_at_short (past is_blank s.0) v.0 v.1 in
    let h6 = past_short is_blank v.0.1 in
    let h7 = label_behind_short (past is_blank v.0.1) b.0 b.1 in
    omega (arith, ap length same)
  where
    last : Option ((List ℕ × List ℕ) × List ℕ) → List ℕ
    last None = []
    last (Some d) = d.1
