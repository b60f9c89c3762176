-- Fronts, names and values as the grammar spells them.
use Rattle.std.proofs.Common.{◌≡◌, ◌∙◌, ℕ, zero, suc, ◌<◌, Bool, true, false, cond, ◌&&◌, ◌⊎◌, inl, inr, Option, Some, None, List, [], ◌∷◌, ◌++◌, nat_eq, nat_lt, get_or, lit<, append_assoc, refl, sym, ap, arith}
use Rattle.std.specs.List.{list_all}
use Rattle.std.specs.Str.{IsUtf8, is_utf8}
use Rattle.std.proofs.lemmas.Bool.{and_parts, and_from, ltb-true}
use Rattle.std.proofs.lemmas.Bool.Decides.{nat_tests}
use Rattle.std.proofs.lemmas.Option.{cond_some}
use Rattle.std.proofs.lemmas.Str.{IsUtf8-from_is_utf8, is_utf8-from_IsUtf8, IsUtf8-from_ascii}
use Rattle.pf_base.specs.LabelSets.{goes_on, starts_name, is_label_name}
use Rattle.pf_model.specs.Exposition.{escape, escaped, goes_on_metric, is_metric_name, starts_metric}
use Rattle.pf_expo.specs.Scans.{Cut, behind_byte, front_of, kept, label_name_at, metric_name_at, past, quoted_at, quoted_from, step_of, stepped, with_byte}
use Rattle.pf_expo.proofs.Fronts.{front_all}
use Rattle.pf_expo.proofs.Shorter.{bind_some}

pub cases : (b : Bool) → (b ≡ true) ⊎ (b ≡ false)
cases true = inl refl
cases false = inr refl

same_byte : (b c : ℕ) → nat_eq b c ≡ true → b ≡ c
same_byte b c h = grind (arith, nat_tests)

-- ---- fronts

-- the first byte, if there is one, doesn't pass
abbrev pub Halts : (ℕ → Bool) → List ℕ → Type 0
Halts p [] = Unit {0}
Halts p (b ∷ bs) = p b ≡ false

split_by : (p : ℕ → Bool) (b : ℕ) (bs : List ℕ) (t : Bool) → bs ≡ front_of p bs ++ past p bs → b ∷ bs ≡ cond t (b ∷ front_of p bs) [] ++ cond t (past p bs) (b ∷ bs)
split_by p b bs true e = ap (λ xs. b ∷ xs) e
split_by p b bs false e = refl

pub front_split : (p : ℕ → Bool) (bs : List ℕ) → bs ≡ front_of p bs ++ past p bs
front_split p [] = refl
front_split p (b ∷ bs) = split_by p b bs (p b) (front_split p bs)

halts_by : (p : ℕ → Bool) (b : ℕ) (bs : List ℕ) (t : Bool) → p b ≡ t → Halts p (past p bs) → Halts p (cond t (past p bs) (b ∷ bs))
halts_by p b bs true e h = h
halts_by p b bs false e h = e

pub past_halts : (p : ℕ → Bool) (bs : List ℕ) → Halts p (past p bs)
past_halts p [] = tt
past_halts p (b ∷ bs) = halts_by p b bs (p b) refl (past_halts p bs)

pub halted : (p : ℕ → Bool) (r : List ℕ) → Halts p r → (front_of p r ≡ []) × (past p r ≡ r)
halted p [] h = (refl, refl)
halted p (b ∷ bs) h = (rw h refl, rw h refl)

pub front_spelled : (p : ℕ → Bool) (xs r : List ℕ) → list_all p xs ≡ true → Halts p r → (front_of p (xs ++ r) ≡ xs) × (past p (xs ++ r) ≡ r)
front_spelled p [] r h s = halted p r s
front_spelled p (x ∷ xs) r h s =
    let parts = and_parts (p x) (list_all p xs) h in
    let e = parts.0 in
    let rest = front_spelled p xs r parts.1 s in
    (rw e (ap (λ ys. x ∷ ys) rest.0), rw e rest.1)

-- ---- names

abbrev is_low : ℕ → Bool
is_low b = nat_lt b 128

all_implied : (p q : ℕ → Bool) → ((b : ℕ) → p b ≡ true → q b ≡ true) → (bs : List ℕ) → list_all p bs ≡ true → list_all q bs ≡ true
all_implied p q f [] h = refl
all_implied p q f (b ∷ bs) h = let parts = and_parts _ _ h in and_from _ _ (f b parts.0) (all_implied p q f bs parts.1)

low_at : (bs : List ℕ) (i : ℕ) → list_all is_low bs ≡ true → get_or bs i 0 < 128
low_at [] i h = lit< tt
low_at (b ∷ bs) zero h = ltb-true b 128 (and_parts _ _ h).0
low_at (b ∷ bs) (suc i) h = low_at bs i (and_parts _ _ h).1

low_metric : (b : ℕ) → goes_on_metric b ≡ true → is_low b ≡ true
low_metric b h = grind (arith, nat_tests)

low_label : (b : ℕ) → goes_on b ≡ true → is_low b ≡ true
low_label b h = grind (arith, nat_tests)

start_metric : (b : ℕ) → starts_metric b ≡ true → goes_on_metric b ≡ true
start_metric b h = grind (arith, nat_tests)

start_label : (b : ℕ) → starts_name b ≡ true → goes_on b ≡ true
start_label b h = rw h refl

pub label_goes : (n : List ℕ) → is_label_name n ≡ true → list_all goes_on n ≡ true
label_goes [] h = refl
label_goes (b ∷ bs) h = let parts = and_parts _ _ h in and_from _ _ (start_label b parts.0) parts.1

pub metric_goes : (n : List ℕ) → is_metric_name n ≡ true → list_all goes_on_metric n ≡ true
metric_goes [] h = refl
metric_goes (b ∷ bs) h = let parts = and_parts _ _ h in and_from _ _ (start_metric b parts.0) parts.1

low_text : (n : List ℕ) → list_all is_low n ≡ true → is_utf8 n ≡ true
low_text n h = is_utf8-from_IsUtf8 n (IsUtf8-from_ascii n (λ i. low_at n i h))

pub record Named (test : List ℕ → Bool) (p : ℕ → Bool) (bytes : List ℕ) (c : Cut) : Type 0 where
  pub spelled : bytes ≡ c.0 ++ c.1
  pub lawful : test c.0 ≡ true
  pub halts : Halts p c.1

pub label_name_found : (bytes : List ℕ) (c : Cut) → label_name_at bytes ≡ Some c → Named is_label_name goes_on bytes c
unfolding label_name_at
label_name_found bytes c e =
    let t = bind_some (kept (is_utf8 (front_of goes_on bytes)) (front_of goes_on bytes)) _ c e in
    let k = cond_some _ _ t.0 t.1 in
    let j = cond_some _ _ c t.2 in
    let n : t.0 ≡ c.0 = ap (λ (d : Cut). d.0) j.1 in
    let r : past goes_on bytes ≡ c.1 = ap (λ (d : Cut). d.1) j.1 in
    record {
      spelled = front_split goes_on bytes ∙ ap (λ xs. xs ++ past goes_on bytes) (k.1 ∙ n) ∙ ap (λ xs. c.0 ++ xs) r;
      lawful = sym (ap is_label_name n) ∙ j.0;
      halts = rw (← r) (past_halts goes_on bytes);
    }

pub metric_name_found : (bytes : List ℕ) (c : Cut) → metric_name_at bytes ≡ Some c → Named is_metric_name goes_on_metric bytes c
unfolding metric_name_at
metric_name_found bytes c e =
    let t = bind_some (kept (is_utf8 (front_of goes_on_metric bytes)) (front_of goes_on_metric bytes)) _ c e in
    let k = cond_some _ _ t.0 t.1 in
    let j = cond_some _ _ c t.2 in
    let n : t.0 ≡ c.0 = ap (λ (d : Cut). d.0) j.1 in
    let r : past goes_on_metric bytes ≡ c.1 = ap (λ (d : Cut). d.1) j.1 in
    record {
      spelled = front_split goes_on_metric bytes ∙ ap (λ xs. xs ++ past goes_on_metric bytes) (k.1 ∙ n) ∙ ap (λ xs. c.0 ++ xs) r;
      lawful = sym (ap is_metric_name n) ∙ j.0;
      halts = rw (← r) (past_halts goes_on_metric bytes);
    }

-- the bytes of a name in front make one exactly where the first begins one

begun : (x y : Bool) → y ≡ true → (x && y) ≡ x
begun true y e = e
begun false y e = refl

pub metric_begun : (b : ℕ) (bs : List ℕ) → is_metric_name (front_of goes_on_metric (b ∷ bs)) ≡ starts_metric b
metric_begun b bs = elim (cases (goes_on_metric b)) [
  | inl y ↦ rw y (begun (starts_metric b) (list_all goes_on_metric (front_of goes_on_metric bs)) (front_all goes_on_metric bs))
  | inr n ↦ rw n (elim (cases (starts_metric b)) [
    | inl s ↦ absurd (let g = start_metric b s in cc)
    | inr m ↦ sym m
  ])
]

pub label_begun : (b : ℕ) (bs : List ℕ) → is_label_name (front_of goes_on (b ∷ bs)) ≡ starts_name b
label_begun b bs = elim (cases (goes_on b)) [
  | inl y ↦ rw y (begun (starts_name b) (list_all goes_on (front_of goes_on bs)) (front_all goes_on bs))
  | inr n ↦ rw n (elim (cases (starts_name b)) [
    | inl s ↦ absurd (let g = start_label b s in cc)
    | inr m ↦ sym m
  ])
]

pub metric_none : (bs : List ℕ) → is_metric_name (front_of goes_on_metric bs) ≡ false → metric_name_at bs ≡ None
unfolding metric_name_at
metric_none bs h = elim (cases (is_utf8 (front_of goes_on_metric bs))) [ inl u ↦ rw u (rw h refl) | inr v ↦ rw v refl ]

pub metric_some : (bs name : List ℕ) → is_metric_name (front_of goes_on_metric bs) ≡ true → kept (is_utf8 (front_of goes_on_metric bs)) (front_of goes_on_metric bs) ≡ Some name → metric_name_at bs ≡ Some (name, past goes_on_metric bs)
unfolding metric_name_at
metric_some bs name h e =
    let k = cond_some (is_utf8 (front_of goes_on_metric bs)) (front_of goes_on_metric bs) name e in
    let n : is_metric_name name ≡ true = ap is_metric_name (sym k.1) ∙ h in
    rw e (rw n refl)

pub metric_text : (bs : List ℕ) → kept (is_utf8 (front_of goes_on_metric bs)) (front_of goes_on_metric bs) ≡ None → metric_name_at bs ≡ None
unfolding metric_name_at
metric_text bs e = rw e refl

pub label_none : (bs : List ℕ) → is_label_name (front_of goes_on bs) ≡ false → label_name_at bs ≡ None
unfolding label_name_at
label_none bs h = elim (cases (is_utf8 (front_of goes_on bs))) [ inl u ↦ rw u (rw h refl) | inr v ↦ rw v refl ]

pub label_some : (bs name : List ℕ) → is_label_name (front_of goes_on bs) ≡ true → kept (is_utf8 (front_of goes_on bs)) (front_of goes_on bs) ≡ Some name → label_name_at bs ≡ Some (name, past goes_on bs)
unfolding label_name_at
label_some bs name h e =
    let k = cond_some (is_utf8 (front_of goes_on bs)) (front_of goes_on bs) name e in
    let n : is_label_name name ≡ true = ap is_label_name (sym k.1) ∙ h in
    rw e (rw n refl)

pub label_text : (bs : List ℕ) → kept (is_utf8 (front_of goes_on bs)) (front_of goes_on bs) ≡ None → label_name_at bs ≡ None
unfolding label_name_at
label_text bs e = rw e refl

pub ruleset metric_rules = (metric_none, metric_some, metric_text)

pub ruleset label_rules = (label_none, label_some, label_text)

pub label_name_again : (n r : List ℕ) → is_label_name n ≡ true → Halts goes_on r → label_name_at (n ++ r) ≡ Some (n, r)
unfolding label_name_at
label_name_again n r h s =
    let f = front_spelled goes_on n r (label_goes n h) s in
    let a = f.0 in let b = f.1 in
    let u = low_text n (all_implied goes_on is_low low_label n (label_goes n h)) in
    rw (a, b, u, h) refl

pub metric_name_again : (n r : List ℕ) → is_metric_name n ≡ true → Halts goes_on_metric r → metric_name_at (n ++ r) ≡ Some (n, r)
unfolding metric_name_at
metric_name_again n r h s =
    let f = front_spelled goes_on_metric n r (metric_goes n h) s in
    let a = f.0 in let b = f.1 in
    let u = low_text n (all_implied goes_on_metric is_low low_metric n (metric_goes n h)) in
    rw (a, b, u, h) refl

-- ---- one byte

pub byte_found : (b : ℕ) (bs behind : List ℕ) → behind_byte b bs ≡ Some behind → bs ≡ b ∷ behind
byte_found b [] behind e = cc
byte_found b (c ∷ cs) behind e = let k = cond_some _ _ behind e in let s = same_byte c b k.0 in ap (λ x. x ∷ cs) s ∙ ap (λ xs. b ∷ xs) k.1

-- ---- values

abbrev pub opened : Bool → List ℕ → List ℕ
opened false bs = bs
opened true bs = 92 ∷ bs

with_found : (b : ℕ) (o : Option Cut) (c : Cut) → with_byte b o ≡ Some c → (d : Cut) × (o ≡ Some d) × (b ∷ d.0 ≡ c.0) × (d.1 ≡ c.1)
with_found b None c e = cc
with_found b (Some d) c e = (d, refl, cc, cc)

pub some_is : {A : Type 0} (x y : A) → Some x ≡ Some y → x ≡ y
some_is x y e = cc

byte_kept : (b : ℕ) (bs : List ℕ) (c : Cut) (x : List ℕ) → ((d : Cut) → quoted_from bs false ≡ Some d → bs ≡ escaped d.0 ++ (34 ∷ d.1)) → x ≡ escape b ++ bs
    → with_byte b (quoted_from bs false) ≡ Some c → x ≡ escaped c.0 ++ (34 ∷ c.1)
byte_kept b bs c x f is e =
    let t = with_found b (quoted_from bs false) c e in
    is ∙ ap (λ xs. escape b ++ xs) (f t.0 t.1) ∙ sym (append_assoc (escape b) (escaped t.0.0) (34 ∷ t.0.1))
    ∙ ap (λ xs. escaped xs ++ (34 ∷ t.0.1)) t.2 ∙ ap (λ xs. escaped c.0 ++ (34 ∷ xs)) t.3

plain_found : (b : ℕ) (bs : List ℕ) (c : Cut) → ((t : Bool) (d : Cut) → quoted_from bs t ≡ Some d → opened t bs ≡ escaped d.0 ++ (34 ∷ d.1))
    → stepped (step_of false b) bs (quoted_from bs) ≡ Some c → b ∷ bs ≡ escaped c.0 ++ (34 ∷ c.1)
plain_found b bs c f e = elim (cases (nat_eq b 34)) [
  | inl y ↦ let g = rw y at e in ap (λ x. x ∷ bs) (same_byte b 34 y) ∙ ap (λ (d : Cut). escaped d.0 ++ (34 ∷ d.1)) (some_is ([], bs) c g)
  | inr n ↦ elim (cases (nat_eq b 92)) [
    | inl y ↦ let g = rw (n, y) at e in ap (λ x. x ∷ bs) (same_byte b 92 y) ∙ f true c g
    | inr m ↦ elim (cases (nat_eq b 10)) [
      | inl y ↦ absurd (let g = rw (n, m, y) at e in cc)
      | inr k ↦ let g = rw (n, m, k) at e in byte_kept b bs c (b ∷ bs) (f false) (rw (m, n, k) refl) g
    ]
  ]
]

behind_found : (b : ℕ) (bs : List ℕ) (c : Cut) → ((t : Bool) (d : Cut) → quoted_from bs t ≡ Some d → opened t bs ≡ escaped d.0 ++ (34 ∷ d.1))
    → stepped (step_of true b) bs (quoted_from bs) ≡ Some c → 92 ∷ (b ∷ bs) ≡ escaped c.0 ++ (34 ∷ c.1)
behind_found b bs c f e = elim (cases (nat_eq b 110)) [
  | inl y ↦ let g = rw y at e in byte_kept 10 bs c (92 ∷ (b ∷ bs)) (f false) (ap (λ x. 92 ∷ (x ∷ bs)) (same_byte b 110 y)) g
  | inr n ↦ elim (cases (nat_eq b 92)) [
    | inl y ↦ let g = rw (n, y) at e in byte_kept b bs c (92 ∷ (b ∷ bs)) (f false) (rw y (ap (λ x. 92 ∷ (x ∷ bs)) (same_byte b 92 y))) g
    | inr m ↦ elim (cases (nat_eq b 34)) [
      | inl y ↦ let g = rw (n, m, y) at e in byte_kept b bs c (92 ∷ (b ∷ bs)) (f false) (rw (m, y) (ap (λ x. 92 ∷ (x ∷ bs)) (same_byte b 34 y))) g
      | inr k ↦ absurd (let g = rw (n, m, k) at e in cc)
    ]
  ]
]

pub quoted_found : (bs : List ℕ) (t : Bool) (c : Cut) → quoted_from bs t ≡ Some c → opened t bs ≡ escaped c.0 ++ (34 ∷ c.1)
quoted_found [] t c e = cc
quoted_found (b ∷ bs) false c e = plain_found b bs c (quoted_found bs) e
quoted_found (b ∷ bs) true c e = behind_found b bs c (quoted_found bs) e

again_by : (b : ℕ) (xs : List ℕ) (c : Cut) → quoted_from xs false ≡ Some c → quoted_from (escape b ++ xs) false ≡ Some (b ∷ c.0, c.1)
again_by b xs c h = elim (cases (nat_eq b 92)) [
  | inl y ↦ rw y (ap (with_byte 92) h ∙ ap (λ x. Some (x ∷ c.0, c.1)) (sym (same_byte b 92 y)))
  | inr n ↦ elim (cases (nat_eq b 34)) [
    | inl y ↦ rw (n, y) (ap (with_byte 34) h ∙ ap (λ x. Some (x ∷ c.0, c.1)) (sym (same_byte b 34 y)))
    | inr m ↦ elim (cases (nat_eq b 10)) [
      | inl y ↦ rw (n, m, y) (ap (with_byte 10) h ∙ ap (λ x. Some (x ∷ c.0, c.1)) (sym (same_byte b 10 y)))
      | inr k ↦ rw (n, m, k) (rw (m, n, k) (ap (with_byte b) h))
    ]
  ]
]

quoted_again : (v r : List ℕ) → quoted_from (escaped v ++ (34 ∷ r)) false ≡ Some (v, r)
quoted_again [] r = refl
quoted_again (b ∷ bs) r = ap (λ xs. quoted_from xs false) (append_assoc (escape b) (escaped bs) (34 ∷ r)) ∙ again_by b (escaped bs ++ (34 ∷ r)) (bs, r) (quoted_again bs r)

pub value_found : (bytes : List ℕ) (c : Cut) → quoted_at bytes ≡ Some c → (bytes ≡ 34 ∷ (escaped c.0 ++ (34 ∷ c.1))) × IsUtf8 c.0
unfolding quoted_at
value_found bytes c e =
    let q = bind_some (behind_byte 34 bytes) _ c e in
    let f = bind_some (quoted_from q.0 false) _ c q.2 in
    let v = bind_some (kept (is_utf8 f.0.0) f.0.0) _ c f.2 in
    let k = cond_some _ _ v.0 v.1 in
    let s = some_is (v.0, f.0.1) c v.2 in
    let name : f.0.0 ≡ c.0 = k.1 ∙ ap (λ (d : Cut). d.0) s in
    let rest : f.0.1 ≡ c.1 = ap (λ (d : Cut). d.1) s in (
      byte_found 34 bytes q.0 q.1 ∙ ap (λ xs. 34 ∷ xs) (quoted_found q.0 false f.0 f.1 ∙ ap (λ xs. escaped xs ++ (34 ∷ f.0.1)) name ∙ ap (λ xs. escaped c.0 ++ (34 ∷ xs)) rest),
      IsUtf8-from_is_utf8 c.0 (sym (ap is_utf8 name) ∙ k.0),
    )

pub value_again : (v r : List ℕ) → IsUtf8 v → quoted_at (34 ∷ (escaped v ++ (34 ∷ r))) ≡ Some (v, r)
unfolding quoted_at
value_again v r u = let q = quoted_again v r in let t = is_utf8-from_IsUtf8 v u in rw q (rw t refl)
