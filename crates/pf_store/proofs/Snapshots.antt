-- What snapshots hold.
use Rattle.std.proofs.Common.{◌≡◌, ◌≢◌, ℕ, suc, ◌+◌, ◌-◌, ◌<◌, ℤ, pos, Bool, true, false, cond, ◌&&◌, not, List, [], ◌∷◌, ◌++◌, length, get_or, refl, sym, ap, ◌∙◌, subst, arith, Some, None, Option, nat_eq}
use Rattle.std.specs.Prelude.{is_some, slice_index_or, int_lt}
use Rattle.std.specs.Ordering.{int_eq}
use Rattle.std.specs.Cmp.{second_so}
use Rattle.std.specs.List.{position_from}
use Rattle.std.proofs.lemmas.Bool.Decides.{Decides-int_eq, Decides-eqb, same_from_decides}
use Rattle.std.proofs.lemmas.List.{get_or_append_left, get_or-append_right, get_or-set_same, get_or-set_other, length-set, length_push}
use Rattle.pf_base.specs.declared.plain.Row.{Row}
use Rattle.pf_base.specs.declared.plain.Sample.{Sample}
use Rattle.pf_base.specs.LabelSets.{Pairs}
use Rattle.pf_block.specs.Samples.{value_at, put_sample}
use Rattle.pf_block.specs.SeriesIds.{id_of}
use Rattle.pf_block.specs.Snaps.{SnapData, held_of, held_by, held_at, samples_of, sample_of, put_into, put_row, with_rows, are_new}
use Rattle.pf_model.specs.Log.{held_value}
use Rattle.pf_model.specs.Selection.{same_labels}
use Rattle.pf_store.proofs.Holding.{is_at, same_exact, same_own, either, either_none, either_assoc, held_value-append}
use Rattle.pf_store.specs.Standing.{IsAlike, StandsFor, IsFresh}

int_pos : (a b : ℕ) → int_eq (pos a) (pos b) ≡ nat_eq a b
int_pos a b =
    same_from_decides {P = a ≡ b} (int_eq (pos a) (pos b)) (nat_eq a b)
    ((λ h. let q : pos a ≡ pos b = (Decides-int_eq (pos a) (pos b)).0 h in cc), (λ q. (Decides-int_eq (pos a) (pos b)).1 (ap pos q)))
    (Decides-eqb a b)

-- ---- samples of one series

not_first : (b : Bool) (v : ℤ) (rest : Option ℤ) → cond b (Some v) rest ≡ None → rest ≡ None
not_first true v rest h = cc
not_first false v rest h = h

value_put_below : (s x : Sample) (xs : List Sample) (t : ℤ) → value_at (put_sample s xs) t ≡ either (value_at xs t) (cond (int_eq s.time t) (Some s.value) None) →
    value_at (x ∷ put_sample s xs) t ≡ either (value_at (x ∷ xs) t) (cond (int_eq s.time t) (Some s.value) None)
value_put_below s x xs t h =
    elim (int_eq x.time t) as (λ b. cond b (Some x.value) (value_at (put_sample s xs) t) ≡ either (cond b (Some x.value) (value_at xs t)) (cond (int_eq s.time t) (Some s.value) None)) [
      | true ↦ refl
      | false ↦ h
    ]

value_put_front : (s : Sample) (xs : List Sample) (t : ℤ) (b : Bool) → int_eq s.time t ≡ b → value_at xs s.time ≡ None → cond b (Some s.value) (value_at xs t) ≡ either (value_at xs t) (cond b (Some s.value) None)
value_put_front s xs t true e n = sym (ap (λ o. either o (Some s.value)) (ap (value_at xs) (sym ((Decides-int_eq s.time t).0 e)) ∙ n))
value_put_front s xs t false e n = sym (either_none (value_at xs t))

pub value_put : (s : Sample) (xs : List Sample) (t : ℤ) → value_at xs s.time ≡ None → value_at (put_sample s xs) t ≡ either (value_at xs t) (cond (int_eq s.time t) (Some s.value) None)
value_put s [] t n = refl
value_put s (x ∷ xs) t n =
    elim (int_lt x.time s.time) as (λ b. value_at (cond b (x ∷ put_sample s xs) (s ∷ x ∷ xs)) t ≡ either (value_at (x ∷ xs) t) (cond (int_eq s.time t) (Some s.value) None)) [
      | true ↦ value_put_below s x xs t (value_put s xs t (not_first (int_eq x.time s.time) x.value (value_at xs s.time) n))
      | false ↦ value_put_front s (x ∷ xs) t (int_eq s.time t) refl n
    ]

-- ---- ids

-- where a look-up finds labels
pub record IsFound (l : Pairs) (ls : List Pairs) (k : ℕ) : Type 0 where
  pub within : k < length ls
  pub same : slice_index_or ls k [] ≡ l

record FoundFrom (l : Pairs) (ls : List Pairs) (i n : ℕ) : Type 0 where
  k : ℕ
  far : n ≡ i + k
  it : IsFound l ls k

found_by : (l m : Pairs) (ms : List Pairs) (i n : ℕ) (b : Bool) → same_labels l m ≡ b → cond b (Some i) (position_from (λ m. same_labels l m) (i + 1) ms) ≡ Some n →
    (position_from (λ m. same_labels l m) (i + 1) ms ≡ Some n → FoundFrom l ms (i + 1) n) → FoundFrom l (m ∷ ms) i n
found_by l m ms i n true e h r = let q : i ≡ n = cc in record { k = 0; far = omega arith; it = record { within = omega arith; same = sym (same_exact l m e) } }
found_by l m ms i n false e h r =
    let f = r h in record { k = suc f.k; far = let q : n ≡ i + 1 + f.k = f.far in omega arith; it = record { within = let q : f.k < length ms = f.it.within in omega arith; same = f.it.same } }

found_from : (l : Pairs) (ls : List Pairs) (i n : ℕ) → position_from (λ m. same_labels l m) i ls ≡ Some n → FoundFrom l ls i n
found_from l [] i n h = cc
found_from l (m ∷ ms) i n h = found_by l m ms i n (same_labels l m) refl h (found_from l ms (i + 1) n)

pub found : (l : Pairs) (ls : List Pairs) (k : ℕ) → id_of l ls ≡ Some k → IsFound l ls k
found l ls k h = let f = found_from l ls 0 k h in let q : f.k ≡ k = (let p : k ≡ 0 + f.k = f.far in omega arith) in subst (IsFound l ls) q f.it

id_more : (test : Pairs → Bool) (m : Pairs) (ls : List Pairs) (i : ℕ) → position_from test i (ls ++ m ∷ []) ≡ either (position_from test i ls) (cond (test m) (Some (i + length ls)) None)
id_more test m [] i = ap (λ n. cond {A = Option ℕ} (test m) (Some n) None) (let q : i ≡ i + 0 = omega arith in q)
id_more test m (x ∷ xs) i =
    elim (test x) as (λ b. cond b (Some i) (position_from test (i + 1) (xs ++ m ∷ [])) ≡ either (cond b (Some i) (position_from test (i + 1) xs)) (cond (test m) (Some (i + suc (length xs))) None)) [
      | true ↦ refl
      | false ↦ id_more test m xs (i + 1) ∙ ap (λ n. either (position_from test (i + 1) xs) (cond (test m) (Some n) None)) (let q : i + 1 + length xs ≡ i + suc (length xs) = omega arith in q)
    ]

-- ---- a row put in

alike_put_by : (s : SnapData) (r : Row) (o : Option ℕ) → IsAlike s → IsAlike (put_into s r o)
alike_put_by s r None a = length_push s.samples (sample_of r ∷ []) ∙ ap (λ n. n + 1) a ∙ sym (length_push s.labels r.labels)
alike_put_by s r (Some id) a = length-set s.samples id (put_sample (sample_of r) (samples_of s id)) ∙ a

alike_put : (s : SnapData) (r : Row) → IsAlike s → IsAlike (put_row s r)
alike_put s r a = alike_put_by s r (id_of r.labels s.labels) a

own_by : (s : SnapData) (r : Row) (t : ℕ) (o : Option ℕ) → IsAlike s → id_of r.labels s.labels ≡ o → held_by s o r.time ≡ None →
    held_of (put_into s r o) r.labels t ≡ either (held_by s o t) (cond (nat_eq r.time t) (Some r.value) None)
own_by s r t None a e n =
    let m = put_into s r None in
    let i : id_of r.labels m.labels ≡ Some (length s.labels) =
    (id_more (λ l. same_labels r.labels l) r.labels s.labels 0 ∙ ap (λ o. either o (cond (same_labels r.labels r.labels) (Some (0 + length s.labels)) None)) e
    ∙ ap (λ b. cond {A = Option ℕ} b (Some (0 + length s.labels)) None) (same_own r.labels) ∙ ap Some (let q : 0 + length s.labels ≡ length s.labels = omega arith in q)) in
    let x : samples_of m (length s.labels) ≡ sample_of r ∷ [] =
    (ap (λ n. get_or m.samples n []) (sym a) ∙ get_or-append_right s.samples ((sample_of r ∷ []) ∷ []) (length s.samples) (length s.samples) [] refl (omega arith)
    ∙ ap (λ n. get_or ((sample_of r ∷ []) ∷ []) n []) (let q : length s.samples - length s.samples ≡ 0 = omega arith in q)) in
    ap (λ o. held_by m o t) i ∙ ap (λ xs. value_at xs (pos t)) x ∙ ap (λ b. cond {A = Option ℤ} b (Some r.value) None) (int_pos r.time t)
own_by s r t (Some id) a e n =
    let f = found r.labels s.labels id e in
    let l : id < length s.samples = omega (arith, f.within, a) in
    let p = put_sample (sample_of r) (samples_of s id) in
    ap (λ o. held_by (put_into s r (Some id)) o t) e ∙ ap (λ xs. value_at xs (pos t)) (get_or-set_same s.samples id p [] l) ∙ value_put (sample_of r) (samples_of s id) (pos t) n
    ∙ ap (λ b. either (held_at s id t) (cond b (Some r.value) None)) (int_pos r.time t)

apart : (l m : Pairs) → same_labels l m ≡ false → l ≡ m → ⊥
apart l m d e = let p : same_labels l m ≡ true = (ap (same_labels l) (sym e) ∙ same_own l) in let q : true ≡ false = (sym p ∙ d) in cc

others_by : (s : SnapData) (r : Row) (l : Pairs) (t : ℕ) (o p : Option ℕ) → IsAlike s → same_labels r.labels l ≡ false → id_of r.labels s.labels ≡ o → id_of l s.labels ≡ p →
    held_by (put_into s r o) p t ≡ held_by s p t
others_by s r l t o None a d e h = refl
others_by s r l t None (Some k) a d e h =
    let f = found l s.labels k h in let w : k < length s.samples = omega (arith, f.within, a) in
    ap (λ xs. value_at xs (pos t)) (get_or_append_left s.samples ((sample_of r ∷ []) ∷ []) [] k w)
others_by s r l t (Some id) (Some k) a d e h =
    let f = found l s.labels k h in let g = found r.labels s.labels id e in
    let ne : k ≢ id = (λ q. apart r.labels l d (sym g.same ∙ ap (λ n. slice_index_or s.labels n []) (sym q) ∙ f.same)) in
    ap (λ xs. value_at xs (pos t)) (get_or-set_other s.samples id k (put_sample (sample_of r) (samples_of s id)) [] ne)

others_id : (s : SnapData) (r : Row) (l : Pairs) (o : Option ℕ) → same_labels r.labels l ≡ false → id_of l (put_into s r o).labels ≡ id_of l s.labels
others_id s r l None d =
    let z : same_labels l r.labels ≡ false = elim (same_labels l r.labels) as (λ b. same_labels l r.labels ≡ b → b ≡ false) [ true ↦ (λ e. absurd (apart r.labels l d (sym (same_exact l r.labels e)))) | false ↦ (λ e. refl) ] refl in
    id_more (λ m. same_labels l m) r.labels s.labels 0 ∙ ap (λ b. either (id_of l s.labels) (cond b (Some (0 + length s.labels)) None)) z ∙ either_none (id_of l s.labels)
others_id s r l (Some id) d = refl

held_put_other : (s : SnapData) (r : Row) (l : Pairs) (t : ℕ) → IsAlike s → same_labels r.labels l ≡ false → held_of (put_row s r) l t ≡ held_of s l t
held_put_other s r l t a d =
    let o = id_of r.labels s.labels in
    ap (λ p. held_by (put_into s r o) p t) (others_id s r l o d) ∙ others_by s r l t o (id_of l s.labels) a d refl refl

held_put_by : (s : SnapData) (r : Row) (l : Pairs) (t : ℕ) (b : Bool) → IsAlike s → held_of s r.labels r.time ≡ None → same_labels r.labels l ≡ b →
    held_of (put_row s r) l t ≡ either (held_of s l t) (cond (b && nat_eq r.time t) (Some r.value) None)
held_put_by s r l t true a n e =
    subst (λ m. held_of (put_row s r) m t ≡ either (held_of s m t) (cond (nat_eq r.time t) (Some r.value) None)) (same_exact r.labels l e)
    (own_by s r t (id_of r.labels s.labels) a refl n)
held_put_by s r l t false a n e = held_put_other s r l t a e ∙ sym (either_none (held_of s l t))

pub held_put : (s : SnapData) (r : Row) (l : Pairs) (t : ℕ) → IsAlike s → held_of s r.labels r.time ≡ None → held_of (put_row s r) l t ≡ either (held_of s l t) (cond (is_at r l t) (Some r.value) None)
held_put s r l t a n = held_put_by s r l t (same_labels r.labels l) a n refl

-- ---- rows put in

unheld : (o : Option ℤ) (b : Bool) → (not (is_some o) && b) ≡ true → o ≡ None
unheld None b h = refl
unheld (Some v) b h = cc

pub held_with : (s : SnapData) (rows : List Row) (l : Pairs) (t : ℕ) → IsAlike s → are_new s rows ≡ true → held_of (with_rows s rows) l t ≡ either (held_of s l t) (held_value rows l t)
held_with s [] l t a n = sym (either_none (held_of s l t))
held_with s (r ∷ rs) l t a n =
    let o : held_of s r.labels r.time ≡ None = unheld (held_of s r.labels r.time) (are_new (put_row s r) rs) n in
    held_with (put_row s r) rs l t (alike_put s r a) (second_so (not (is_some (held_of s r.labels r.time))) (are_new (put_row s r) rs) n)
    ∙ ap (λ v. either v (held_value rs l t)) (held_put s r l t a o)
    ∙ either_assoc (held_of s l t) (cond (is_at r l t) (Some r.value) None) (held_value rs l t)
    ∙ ap (either (held_of s l t)) (elim (is_at r l t) as (λ b. either (cond b (Some r.value) None) (held_value rs l t) ≡ cond b (Some r.value) (held_value rs l t)) [ true ↦ refl | false ↦ refl ])

not_here : (b : Bool) (v : ℤ) (rest : Option ℤ) → cond b (Some v) rest ≡ None → b ≡ false
not_here true v rest h = cc
not_here false v rest h = refl

pub new_more : (s : SnapData) (xs : List Row) (r : Row) → IsAlike s → are_new s xs ≡ true → IsFresh s xs r → are_new s (xs ++ r ∷ []) ≡ true
new_more s [] r a n f = ap (λ o. not (is_some o) && true) f.unheld
new_more s (x ∷ xs) r a n f =
    let o : held_of s x.labels x.time ≡ None = unheld (held_of s x.labels x.time) (are_new (put_row s x) xs) n in
    let b : is_at x r.labels r.time ≡ false = not_here (is_at x r.labels r.time) x.value (held_value xs r.labels r.time) f.apart in
    let u : held_of (put_row s x) r.labels r.time ≡ None =
    (held_put s x r.labels r.time a o ∙ ap (λ v. either v (cond (is_at x r.labels r.time) (Some x.value) None)) f.unheld ∙ ap (λ v. cond {A = Option ℤ} v (Some x.value) None) b) in
    let t : are_new (put_row s x) (xs ++ r ∷ []) ≡ true =
    new_more (put_row s x) xs r (alike_put s x a) (second_so (not (is_some (held_of s x.labels x.time))) (are_new (put_row s x) xs) n)
    (record { unheld = u; apart = not_first (is_at x r.labels r.time) x.value (held_value xs r.labels r.time) f.apart }) in
    ap (λ v. not (is_some v) && are_new (put_row s x) (xs ++ r ∷ [])) o ∙ t

pub stands_with : (s : SnapData) (xs rows : List Row) → IsAlike s → are_new s rows ≡ true → StandsFor s xs → StandsFor (with_rows s rows) (xs ++ rows)
stands_with s xs rows a n f l t = held_with s rows l t a n ∙ ap (λ o. either o (held_value rows l t)) (f l t) ∙ sym (held_value-append xs rows l t)

pub alike_with : (s : SnapData) (rows : List Row) → IsAlike s → IsAlike (with_rows s rows)
alike_with s [] a = a
alike_with s (r ∷ rs) a = alike_with (put_row s r) rs (alike_put s r a)
