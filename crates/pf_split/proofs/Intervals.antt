-- The first piece of steps, found by arithmetic, and what all pieces are together.
use Rattle.std.proofs.Common.{◌≡◌, ◌≢◌, ◌∙◌, ℕ, zero, suc, ◌+◌, ◌-◌, ◌*◌, ◌/◌, ◌%◌, ◌≤◌, ◌<◌, Bool, true, false, cond, eqb, List, [], ◌∷◌, ◌++◌, refl, sym, ap, subst, arith}
use Rattle.std.proofs.lemmas.Bool.{eq-eqb, eqb-true, eqb-false}
use Rattle.std.proofs.lemmas.Nat.{div-add-mod', div-mul-add, le-div}
use Rattle.std.proofs.Math.Nat.{add-mul, div-mul-le_self, mod-lt, mul-le-mul_right, suc-mul}
use Rattle.std.specs.List.{AllByRecursion}
use Rattle.pf_base.specs.GridLists.{GridData, IsGrid, times_from}
use Rattle.pf_split.specs.declared.splitting.Piece.{Piece}
use Rattle.std.proofs.lemmas.Bool.{ltb-true, ltb-false}
use Rattle.std.specs.Prelude.{nat_eq, nat_lt}
use Rattle.pf_split.specs.Lefts.{run_data, steps_within}
use Rattle.pf_split.specs.Pieces.{AreIntervals, pieces_of, points_of, put_before, steps_of}

-- ---- quotients of later times

pub same_quotient : (d t i : ℕ) → 0 < d → i ≤ d - 1 - t % d → (t + i) / d ≡ t / d
same_quotient d t i h k =
    let rest : t % d < d = mod-lt t h in
    let sum : t + i ≡ (t / d) * d + (t % d + i) = omega (arith, div-add-mod' t d) in
    ap (λ u. u / d) sum ∙ div-mul-add (t / d) d (t % d + i) (omega (arith, rest, k))

pub later_quotient : (d t i : ℕ) → 0 < d → d - 1 - t % d < i → t / d < (t + i) / d
later_quotient d t i h k =
    let rest : t % d < d = mod-lt t h in
    let below : suc (t / d) * d ≤ t + i = omega (arith, div-add-mod' t d, suc-mul (t / d) d, rest, k) in
    let most = le-div (suc (t / d)) (t + i) d h below in
    omega (arith, most)

-- a later time lies in no lower interval
pub no_lower : (d t i : ℕ) → 0 < d → t / d ≤ (t + i) / d
no_lower d t i h = le-div (t / d) (t + i) d h (omega (arith, div-mul-le_self t d))

-- ---- a step put before pieces

abbrev part : ℕ → ℕ → ℕ → ℕ → Piece
part interval t step len = record { interval = interval; run = run_data t step len }

no_eqb : (a b : ℕ) (s : Bool) → eqb a b ≡ s → a ≢ b → eqb a b ≡ false
no_eqb a b true e h = absurd (h (eqb-true a b e))
no_eqb a b false e h = e

-- where the first one is of another interval
put_apart : (d step t q : ℕ) (p : Piece) (ps : List Piece) → t / d ≡ q → p.interval ≢ q → put_before d step t (p ∷ ps) ≡ part q t step 1 ∷ p ∷ ps
put_apart d step t q p ps h k =
    ap (λ b. cond b (part p.interval t step (p.run.len + 1) ∷ ps) (part (t / d) t step 1 ∷ p ∷ ps))
    (no_eqb p.interval (t / d) (eqb p.interval (t / d)) refl (λ e. k (e ∙ h)))
    ∙ ap (λ u. part u t step 1 ∷ p ∷ ps) h

-- and where it is of the same one
put_joined : (d step t : ℕ) (p : Piece) (ps : List Piece) → t / d ≡ p.interval → put_before d step t (p ∷ ps) ≡ part p.interval t step (p.run.len + 1) ∷ ps
put_joined d step t p ps h =
    ap (λ b. cond b (part p.interval t step (p.run.len + 1) ∷ ps) (part (t / d) t step 1 ∷ p ∷ ps))
    (eq-eqb p.interval (t / d) (sym h))

apart_by :
    (d step t q u : ℕ) (p : Piece) (ps : List Piece) (b : Bool) → eqb p.interval (u / d) ≡ b → t / d ≡ q → q < u / d
    → put_before d step t (cond b (part p.interval u step (p.run.len + 1) ∷ ps) (part (u / d) u step 1 ∷ p ∷ ps))
    ≡ part q t step 1 ∷ cond b (part p.interval u step (p.run.len + 1) ∷ ps) (part (u / d) u step 1 ∷ p ∷ ps)
apart_by d step t q u p ps true e h k =
    put_apart d step t q (part p.interval u step (p.run.len + 1)) ps h (λ z. let f = eqb-true p.interval (u / d) e in absurd (omega (arith, f, z, k)))
apart_by d step t q u p ps false e h k =
    put_apart d step t q (part (u / d) u step 1) (p ∷ ps) h (λ z. absurd (omega (arith, z, k)))

apart_from :
    (d step t q u : ℕ) (ps : List Piece) → t / d ≡ q → q < u / d
    → put_before d step t (put_before d step u ps) ≡ part q t step 1 ∷ put_before d step u ps
apart_from d step t q u [] h k = put_apart d step t q (part (u / d) u step 1) [] h (λ z. absurd (omega (arith, z, k)))
apart_from d step t q u (p ∷ ps) h k = apart_by d step t q u p ps (eqb p.interval (u / d)) refl h k

apart : (d step t q u m : ℕ) → t / d ≡ q → (0 < m → q < u / d)
    → put_before d step t (pieces_of d step (times_from u step m)) ≡ part q t step 1 ∷ pieces_of d step (times_from u step m)
apart d step t q u zero h k = ap (λ v. part v t step 1 ∷ []) h
apart d step t q u (suc m) h k = apart_from d step t q u (pieces_of d step (times_from (u + step) step m)) h (k (omega arith))

-- ---- the first piece

joined :
    (d step k t q m : ℕ) → ((i : ℕ) → i ≤ k → (t + i * step) / d ≡ q) → (0 < m → q < (t + suc k * step) / d)
    → pieces_of d step (times_from t step (suc (k + m))) ≡ part q t step (suc k) ∷ pieces_of d step (times_from (t + suc k * step) step m)
joined d step zero t q m h l =
    let none : zero + m ≡ m = omega arith in
    let here : t + 0 * step ≡ t = omega arith in
    let next : t + step ≡ t + 1 * step = omega arith in
    ap (λ n. pieces_of d step (times_from t step (suc n))) none
    ∙ apart d step t q (t + step) m (ap (λ u. u / d) (sym here) ∙ h 0 (omega arith)) (λ p. subst (λ u. q < u / d) (sym next) (l p))
    ∙ ap (λ u. part q t step 1 ∷ pieces_of d step (times_from u step m)) next
joined d step (suc k) t q m h l =
    let more : suc k + m ≡ suc (k + m) = omega arith in
    let here : t + 0 * step ≡ t = omega arith in
    let far : t + step + suc k * step ≡ t + suc (suc k) * step = omega (arith, suc-mul (suc k) step) in
    let each : (i : ℕ) → i ≤ k → (t + step + i * step) / d ≡ q = λ i b.
    let e : t + step + i * step ≡ t + suc i * step = omega (arith, suc-mul i step) in
    ap (λ u. u / d) e ∙ h (suc i) (omega (arith, b)) in
    let rest = joined d step k (t + step) q m each (λ p. subst (λ u. q < u / d) (sym far) (l p)) in
    let longer : suc k + 1 ≡ suc (suc k) = omega arith in
    ap (λ n. pieces_of d step (times_from t step (suc n))) more
    ∙ ap (put_before d step t) rest
    ∙ put_joined d step t (part q (t + step) step (suc k)) (pieces_of d step (times_from (t + step + suc k * step) step m))
    (ap (λ u. u / d) (sym here) ∙ h 0 (omega arith))
    ∙ ap (λ n. part q t step n ∷ pieces_of d step (times_from (t + step + suc k * step) step m)) longer
    ∙ ap (λ u. part q t step (suc (suc k)) ∷ pieces_of d step (times_from u step m)) far

pub first_of :
    (d t step n c : ℕ) → 1 ≤ c → c ≤ n → ((i : ℕ) → i < c → (t + i * step) / d ≡ t / d) → (c < n → t / d < (t + c * step) / d)
    → pieces_of d step (times_from t step n) ≡ part (t / d) t step c ∷ pieces_of d step (times_from (t + c * step) step (n - c))
first_of d t step n zero s b h l = absurd (omega (arith, s))
first_of d t step n (suc k) s b h l =
    let all : n ≡ suc (k + (n - suc k)) = omega (arith, b) in
    ap (λ m. pieces_of d step (times_from t step m)) all
    ∙ joined d step k t (t / d) (n - suc k) (λ i j. h i (omega (arith, j))) (λ p. l (omega (arith, p)))

-- ---- how many steps it has

within_by :
    (d t step n most : ℕ) (b : Bool) → 0 < d → 0 < step → most ≡ (d - 1 - t % d) / step → (b ≡ true → most < n) → (b ≡ false → n ≤ most) → 1 ≤ n
    → pieces_of d step (times_from t step n)
    ≡ part (t / d) t step (cond b (most + 1) n) ∷ pieces_of d step (times_from (t + cond b (most + 1) n * step) step (n - cond b (most + 1) n))
within_by d t step n most true h s e a z o =
    let below : most < n = a refl in
    let room : ℕ = d - 1 - t % d in
    let near : most * step ≤ d - 1 - t % d = omega (arith, ap (λ u. u * step) e, div-mul-le_self (d - 1 - t % d) step) in
    let part_of : (d - 1 - t % d) % step < step = mod-lt (d - 1 - t % d) s in
    let far : d - 1 - t % d < (most + 1) * step =
    omega (arith, ap (λ u. u * step) e, div-add-mod' (d - 1 - t % d) step, part_of, add-mul most 1 step) in
    first_of d t step n (most + 1) (omega arith) (omega (arith, below))
    (λ i j.
    let up : i * step ≤ most * step = mul-le-mul_right step (omega (arith, j)) in
    same_quotient d t (i * step) h (omega (arith, near, up)))
    (λ l. later_quotient d t ((most + 1) * step) h far)
within_by d t step n most false h s e a z o =
    let near : most * step ≤ d - 1 - t % d = omega (arith, ap (λ u. u * step) e, div-mul-le_self (d - 1 - t % d) step) in
    let all : n ≤ most = z refl in
    first_of d t step n n o (omega arith)
    (λ i j.
    let up : i * step ≤ most * step = mul-le-mul_right step (omega (arith, j, all)) in
    same_quotient d t (i * step) h (omega (arith, near, up)))
    (λ l. absurd (omega (arith, l)))

first_by :
    (d t step n : ℕ) (b : Bool) → 0 < d → IsGrid (run_data t step n) → eqb step 0 ≡ b
    → pieces_of d step (times_from t step n)
    ≡ part (t / d) t step (cond b n (cond (nat_lt ((d - 1 - t % d) / step) n) ((d - 1 - t % d) / step + 1) n))
    ∷ pieces_of d step (times_from (t + cond b n (cond (nat_lt ((d - 1 - t % d) / step) n) ((d - 1 - t % d) / step + 1) n) * step) step
    (n - cond b n (cond (nat_lt ((d - 1 - t % d) / step) n) ((d - 1 - t % d) / step + 1) n)))
first_by d t step n true h g e =
    let one : n ≡ 1 = g.alone (eqb-true step 0 e) in
    first_of d t step n n g.some (omega arith)
    (λ i j.
    let first : i ≡ 0 = omega (arith, j, one) in
    let here : t + 0 * step ≡ t = omega arith in
    ap (λ k. (t + k * step) / d) first ∙ ap (λ u. u / d) here)
    (λ l. absurd (omega (arith, l)))
first_by d t step n false h g e =
    let apart = eqb-false step 0 e in
    within_by d t step n ((d - 1 - t % d) / step) (nat_lt ((d - 1 - t % d) / step) n) h (omega (arith, apart)) refl
    (λ k. ltb-true ((d - 1 - t % d) / step) n k) (λ k. ltb-false ((d - 1 - t % d) / step) n k) g.some

-- the first piece, and the others
pub first_piece :
    (d t step n c : ℕ) → 0 < d → IsGrid (run_data t step n) → c ≡ steps_within d t step n
    → pieces_of d step (times_from t step n) ≡ part (t / d) t step c ∷ pieces_of d step (times_from (t + c * step) step (n - c))
first_piece d t step n c h g e =
    subst (λ k. pieces_of d step (times_from t step n) ≡ part (t / d) t step k ∷ pieces_of d step (times_from (t + k * step) step (n - k))) (sym e)
    (first_by d t step n (nat_eq step 0) h g refl)

abbrev with_it : ℕ → GridData → Piece
with_it q g = record { interval = q; run = g }

-- under an equal run
pub with_run : (q : ℕ) (g h : GridData) (ps : List Piece) → g ≡ h → with_it q h ∷ ps ≡ with_it q g ∷ ps
with_run q g h ps e = ap (λ r. with_it q r ∷ ps) (sym e)

-- ---- all pieces

-- the first one begins at this time
abbrev BeginAt : ℕ → ℕ → List Piece → Type 0
BeginAt t step [] = Unit {0}
BeginAt t step (p ∷ ps) = (p.run.start ≡ t) × (p.run.step ≡ step)

begin_by :
    (d t step : ℕ) (p : Piece) (ps : List Piece) (b : Bool)
    → BeginAt t step (cond b (part p.interval t step (p.run.len + 1) ∷ ps) (part (t / d) t step 1 ∷ p ∷ ps))
begin_by d t step p ps true = (refl, refl)
begin_by d t step p ps false = (refl, refl)

begin_put : (d t step : ℕ) (ps : List Piece) → BeginAt t step (put_before d step t ps)
begin_put d t step [] = (refl, refl)
begin_put d t step (p ∷ ps) = begin_by d t step p ps (eqb p.interval (t / d))

begin : (d t step n : ℕ) → BeginAt t step (pieces_of d step (times_from t step n))
begin d t step zero = tt
begin d t step (suc n) = begin_put d t step (pieces_of d step (times_from (t + step) step n))

-- what it has once it is longer
longer : (t step : ℕ) (p : Piece) → (p.run.start ≡ t + step) × (p.run.step ≡ step) → times_from t step (p.run.len + 1) ≡ t ∷ points_of p
longer t step p h =
    let next : p.run.len + 1 ≡ suc p.run.len = omega arith in
    ap (times_from t step) next
    ∙ ap (λ us. t ∷ us) (ap (λ u. times_from u step p.run.len) (sym h.0) ∙ ap (λ s. times_from p.run.start s p.run.len) (sym h.1))

steps_by :
    (d t step : ℕ) (p : Piece) (ps : List Piece) (b : Bool) → (p.run.start ≡ t + step) × (p.run.step ≡ step)
    → steps_of (cond b (part p.interval t step (p.run.len + 1) ∷ ps) (part (t / d) t step 1 ∷ p ∷ ps)) ≡ t ∷ steps_of (p ∷ ps)
steps_by d t step p ps true h = ap (λ us. us ++ steps_of ps) (longer t step p h)
steps_by d t step p ps false h = refl

steps_put : (d t step : ℕ) (ps : List Piece) → BeginAt (t + step) step ps → steps_of (put_before d step t ps) ≡ t ∷ steps_of ps
steps_put d t step [] h = refl
steps_put d t step (p ∷ ps) h = steps_by d t step p ps (eqb p.interval (t / d)) h

pub all_steps : (d t step n : ℕ) → steps_of (pieces_of d step (times_from t step n)) ≡ times_from t step n
all_steps d t step zero = refl
all_steps d t step (suc n) =
    steps_put d t step (pieces_of d step (times_from (t + step) step n)) (begin d (t + step) step n)
    ∙ ap (λ us. t ∷ us) (all_steps d (t + step) step n)

-- ---- each in its interval

module _ {X : Type 0} (P Q : X → Type 0) where
  implied : ((x : X) → P x → Q x) → (xs : List X) → AllByRecursion P xs → AllByRecursion Q xs
  implied f [] h = tt
  implied f (x ∷ xs) h = (f x h.0, implied f xs h.1)

  both_parts : (xs ys : List X) → AllByRecursion Q xs → AllByRecursion Q ys → AllByRecursion Q (xs ++ ys)
  both_parts [] ys h k = k
  both_parts (x ∷ xs) ys h k = (h.0, both_parts xs ys h.1 k)

  first_part : (xs ys : List X) → AllByRecursion Q (xs ++ ys) → AllByRecursion Q xs
  first_part [] ys h = tt
  first_part (x ∷ xs) ys h = (h.0, first_part xs ys h.1)

-- the steps of pieces lie above an interval below the first
above : (d q : ℕ) (p : Piece) (ps : List Piece) → q < p.interval → AreIntervals d (p ∷ ps) → AllByRecursion (λ t. q < t / d) (steps_of (p ∷ ps))
above d q p ps h a =
    both_parts (λ t. t / d ≡ p.interval) (λ t. q < t / d) (points_of p) (steps_of ps)
    (implied (λ t. t / d ≡ p.interval) (λ t. q < t / d) (λ t e. omega (arith, h, e)) (points_of p) a.0)
    (implied (λ t. p.interval < t / d) (λ t. q < t / d) (λ t e. omega (arith, h, e)) (steps_of ps) a.1)

-- the first is of no lower interval
abbrev HeadFrom : ℕ → List Piece → Type 0
HeadFrom q [] = Unit {0}
HeadFrom q (p ∷ ps) = q ≤ p.interval

head_interval : (d u step : ℕ) (p : Piece) (ps : List Piece) (b : Bool) → eqb p.interval (u / d) ≡ b
    → (q : ℕ) → q ≤ u / d → HeadFrom q (cond b (part p.interval u step (p.run.len + 1) ∷ ps) (part (u / d) u step 1 ∷ p ∷ ps))
head_interval d u step p ps true e q h = omega (arith, h, eqb-true p.interval (u / d) e)
head_interval d u step p ps false e q h = h

head_put : (d u step q : ℕ) (ps : List Piece) → q ≤ u / d → HeadFrom q (put_before d step u ps)
head_put d u step q [] h = h
head_put d u step q (p ∷ ps) h = head_interval d u step p ps (eqb p.interval (u / d)) refl q h

head_from : (d t step n : ℕ) → 0 < d → HeadFrom (t / d) (pieces_of d step (times_from (t + step) step n))
head_from d t step zero h = tt
head_from d t step (suc n) h =
    head_put d (t + step) step (t / d) (pieces_of d step (times_from (t + step + step) step n)) (no_lower d t step h)

own_by :
    (d t step : ℕ) (p : Piece) (ps : List Piece) (b : Bool) → eqb p.interval (t / d) ≡ b → t / d ≤ p.interval
    → (p.run.start ≡ t + step) × (p.run.step ≡ step) → AreIntervals d (p ∷ ps)
    → AreIntervals d (cond b (part p.interval t step (p.run.len + 1) ∷ ps) (part (t / d) t step 1 ∷ p ∷ ps))
own_by d t step p ps true e h k a = (
  subst (AllByRecursion (λ u. u / d ≡ p.interval)) (sym (longer t step p k)) (sym (eqb-true p.interval (t / d) e), a.0),
  a.1,
  a.2,
)
own_by d t step p ps false e h k a =
    let other = eqb-false p.interval (t / d) e in
    let below : t / d < p.interval = omega (arith, h, other) in
    ((refl, tt), above d (t / d) p ps below a, a)

own_put :
    (d t step : ℕ) (ps : List Piece) → HeadFrom (t / d) ps → BeginAt (t + step) step ps → AreIntervals d ps → AreIntervals d (put_before d step t ps)
own_put d t step [] h k a = ((refl, tt), tt, tt)
own_put d t step (p ∷ ps) h k a = own_by d t step p ps (eqb p.interval (t / d)) refl h k a

pub all_own : (d t step n : ℕ) → 0 < d → AreIntervals d (pieces_of d step (times_from t step n))
all_own d t step zero h = tt
all_own d t step (suc n) h =
    own_put d t step (pieces_of d step (times_from (t + step) step n)) (head_from d t step n h) (begin d (t + step) step n)
    (all_own d (t + step) step n h)

-- what `using` names
pub ruleset laws = (all_steps, all_own)
