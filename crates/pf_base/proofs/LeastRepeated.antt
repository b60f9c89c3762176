-- In pairs that ascend, the first name that the next pair has too is the least name that stands twice.
use Rattle.std.proofs.Common.{◌≡◌, ℕ, ◌+◌, ◌≤◌, Bool, true, false, cond, List, [], ◌∷◌, refl, sym, ap, ◌∙◌, arith, None, Some, Option, Ok, Ordering, filter, get_or, length, ltb, nat_lt}
use Rattle.std.specs.List.{All, find, count_by}
use Rattle.std.specs.Option.{option_map}
use Rattle.std.specs.Str.{bytes_eq}
use Rattle.std.specs.Cmp.{alike_right}
use Rattle.std.specs.Cmp.Lexicographic.{slice_cmp, nat_list_cmp_total, nat_list_eq_equiv}
use Rattle.std.specs.Ordering.{nat_cmp, is_gt, is_eq, ordering_then}
use Rattle.std.specs.declared.cmp.Ordering.TheVariants.{Less, Equal, Greater}
use Rattle.std.proofs.lemmas.Bool.Decides.{nat_tests}
use Rattle.std.proofs.lemmas.List.Elements.{All-head, All-tail, All-cons}
use Rattle.std.proofs.lemmas.List.Sums.{sum_by-cons}
use Rattle.std.proofs.lemmas.Map.Text.{is_eq-slice_cmp}
use Rattle.pf_base.specs.LabelSets.{Pairs, has_value}
use Rattle.pf_base.specs.LabelOrder.{pair_cmp, pair_total}
use Rattle.pf_base.specs.LabelBuild.{bad_name, build_of, stands_twice, least_repeated}
use Rattle.pf_base.specs.LabelWalk.{repeated_name, repeated_after}
use Rattle.pf_base.specs.Sorting.{ins, isort}
use Rattle.pf_base.proofs.Sorting.{Ascends, ascends_isort}

not_above : (o r : Ordering) → is_gt (ordering_then o r) ≡ false → is_gt o ≡ false
not_above Less r g = refl
not_above Equal r g = refl
not_above Greater r g = g

pub strictly : (o : Ordering) → is_gt o ≡ false → is_eq o ≡ false → o ≡ Less
strictly Less g e = refl
strictly Equal g e = cc
strictly Greater g e = cc

-- below one, and that at most another
below_upto_by : (a b c : List ℕ) (o : Ordering) → slice_cmp nat_cmp b c ≡ o → slice_cmp nat_cmp a b ≡ Less → is_gt o ≡ false → slice_cmp nat_cmp a c ≡ Less
below_upto_by a b c Less e l g = nat_list_cmp_total.trans a b c l e
below_upto_by a b c Equal e l g = sym (alike_right nat_list_cmp_total b c a e) ∙ l
below_upto_by a b c Greater e l g = cc

unlike : (a b : List ℕ) → slice_cmp nat_cmp a b ≡ Less → bytes_eq b a ≡ false
unlike a b l = nat_list_eq_equiv.symm b a ∙ sym (is_eq-slice_cmp a b) ∙ ap is_eq l

-- where the first two names differ, the first differs from all later ones
apart : (a p : List ℕ × List ℕ) (ps : Pairs) → Ascends pair_cmp (a ∷ p ∷ ps) → bytes_eq a.0 p.0 ≡ false → All (λ q. bytes_eq q.0 a.0 ≡ false) (p ∷ ps)
apart a p ps up e =
    let low : slice_cmp nat_cmp a.0 p.0 ≡ Less =
    strictly (slice_cmp nat_cmp a.0 p.0)
    (not_above (slice_cmp nat_cmp a.0 p.0) (slice_cmp nat_cmp a.1 p.1) (All-head (λ q. is_gt (pair_cmp a q) ≡ false) p ps up.0))
    (is_eq-slice_cmp a.0 p.0 ∙ e) in
    All-cons (λ q. bytes_eq q.0 a.0 ≡ false) p ps (unlike a.0 p.0 low)
    (λ k d h. unlike a.0 (get_or ps k d).0
    (below_upto_by a.0 p.0 (get_or ps k d).0 (slice_cmp nat_cmp p.0 (get_or ps k d).0) refl low
    (not_above (slice_cmp nat_cmp p.0 (get_or ps k d).0) (slice_cmp nat_cmp p.1 (get_or ps k d).1) (up.1.0 k d h))))

-- ---- counts of a name

abbrev uses : Pairs → List ℕ → ℕ
uses ps name = count_by (λ q. bytes_eq q.0 name) ps

uses_cons : (p : List ℕ × List ℕ) (ps : Pairs) (name : List ℕ) → uses (p ∷ ps) name ≡ cond (bytes_eq p.0 name) 1 0 + uses ps name
uses_cons p ps name = sum_by-cons (λ q. cond (bytes_eq q.0 name) 1 0) p ps

uses_other : (p : List ℕ × List ℕ) (ps : Pairs) (name : List ℕ) → bytes_eq p.0 name ≡ false → uses (p ∷ ps) name ≡ uses ps name
uses_other p ps name e =
    let n : ◌≡◌ {A = ℕ} (cond (bytes_eq p.0 name) 1 0) 0 = ap (λ b. cond b 1 0) e in
    let s = uses_cons p ps name in omega (arith, n, s)

uses_same : (p : List ℕ × List ℕ) (ps : Pairs) (name : List ℕ) → bytes_eq p.0 name ≡ true → uses (p ∷ ps) name ≡ 1 + uses ps name
uses_same p ps name e =
    let n : ◌≡◌ {A = ℕ} (cond (bytes_eq p.0 name) 1 0) 1 = ap (λ b. cond b 1 0) e in
    let s = uses_cons p ps name in omega (arith, n, s)

uses_none : (ps : Pairs) (name : List ℕ) → All (λ q. bytes_eq q.0 name ≡ false) ps → uses ps name ≡ 0
uses_none [] name a = refl
uses_none (p ∷ ps) name a =
    let P : List ℕ × List ℕ → Type 0 = λ q. bytes_eq q.0 name ≡ false in
    uses_other p ps name (All-head P p ps a) ∙ uses_none ps name (All-tail P p ps a)

-- ---- the first that stands twice

find_agree_by : (f g : List ℕ × List ℕ → Bool) (p : List ℕ × List ℕ) (ps : Pairs) → f p ≡ g p → find f ps ≡ find g ps → find f (p ∷ ps) ≡ find g (p ∷ ps)
find_agree_by f g p ps e t = λ i. cond (e i) (Some p) (t i)

find_agree : (f g : List ℕ × List ℕ → Bool) (ps : Pairs) → All (λ p. f p ≡ g p) ps → find f ps ≡ find g ps
find_agree f g [] a = refl
find_agree f g (p ∷ ps) a =
    let P : List ℕ × List ℕ → Type 0 = λ q. f q ≡ g q in
    find_agree_by f g p ps (All-head P p ps a) (find_agree f g ps (All-tail P p ps a))

abbrev first_twice : Pairs → Pairs → Option (List ℕ)
first_twice all ps = option_map (λ p. p.0) (find (stands_twice all) ps)

twice_yes : (all : Pairs) (p : List ℕ × List ℕ) (ps : Pairs) → stands_twice all p ≡ true → first_twice all (p ∷ ps) ≡ Some p.0
twice_yes all p ps e = ap (λ b. option_map (λ q. q.0) (cond b (Some p) (find (stands_twice all) ps))) e

twice_no : (all : Pairs) (p : List ℕ × List ℕ) (ps : Pairs) → stands_twice all p ≡ false → first_twice all (p ∷ ps) ≡ first_twice all ps
twice_no all p ps e = ap (λ b. option_map (λ q. q.0) (cond b (Some p) (find (stands_twice all) ps))) e

own : (p : List ℕ × List ℕ) → bytes_eq p.0 p.0 ≡ true
own p = nat_list_eq_equiv.refl p.0

lone : (a : List ℕ × List ℕ) (ps : Pairs) → All (λ q. bytes_eq q.0 a.0 ≡ false) ps → stands_twice (a ∷ ps) a ≡ false
lone a ps h = ap (λ n. ltb 1 n) (uses_same a ps a.0 (own a) ∙ ap (λ n. 1 + n) (uses_none ps a.0 h))

pair_of : (a p : List ℕ × List ℕ) (ps : Pairs) → bytes_eq a.0 p.0 ≡ true → stands_twice (a ∷ p ∷ ps) a ≡ true
pair_of a p ps e =
    let n : uses (a ∷ p ∷ ps) a.0 ≡ 1 + (1 + uses ps a.0) =
    uses_same a (p ∷ ps) a.0 (own a) ∙ ap (λ m. 1 + m) (uses_same p ps a.0 (nat_list_eq_equiv.symm p.0 a.0 ∙ e)) in
    grind (arith, n)

-- a pair whose name is its own takes no part
without : (a : List ℕ × List ℕ) (ps : Pairs) → All (λ q. bytes_eq q.0 a.0 ≡ false) ps → first_twice (a ∷ ps) (a ∷ ps) ≡ first_twice ps ps
without a ps h =
    twice_no (a ∷ ps) a ps (lone a ps h)
    ∙ ap (option_map (λ p. p.0)) (find_agree (stands_twice (a ∷ ps)) (stands_twice ps) ps
    (λ k d l. ap (λ n. ltb 1 n) (uses_other a ps (get_or ps k d).0 (nat_list_eq_equiv.symm a.0 (get_or ps k d).0 ∙ h k d l))))

walk_by : (a p : List ℕ × List ℕ) (ps : Pairs) (b : Bool) → bytes_eq a.0 p.0 ≡ b → Ascends pair_cmp (a ∷ p ∷ ps) → repeated_after p.0 ps ≡ first_twice (p ∷ ps) (p ∷ ps) → cond b (Some a.0) (repeated_after p.0 ps) ≡ first_twice (a ∷ p ∷ ps) (a ∷ p ∷ ps)
walk_by a p ps true e up t = sym (twice_yes (a ∷ p ∷ ps) a (p ∷ ps) (pair_of a p ps e))
walk_by a p ps false e up t = t ∙ sym (without a (p ∷ ps) (apart a p ps up e))

walk : (a : List ℕ × List ℕ) (ps : Pairs) → Ascends pair_cmp (a ∷ ps) → repeated_after a.0 ps ≡ first_twice (a ∷ ps) (a ∷ ps)
walk a [] up = sym (twice_no (a ∷ []) a [] (lone a [] (λ k d h. absurd (omega arith))))
walk a (p ∷ ps) up = walk_by a p ps (bytes_eq a.0 p.0) refl up (walk p ps up.1)

walked : (ps : Pairs) → Ascends pair_cmp ps → repeated_name ps ≡ first_twice ps ps
walked [] up = refl
walked (p ∷ ps) up = walk p ps up

-- ---- the same counts before and after the sort

uses_ins_by : (x p : List ℕ × List ℕ) (ps : Pairs) (name : List ℕ) (b : Bool) → uses (ins pair_cmp x ps) name ≡ uses (x ∷ ps) name → uses (cond b (p ∷ ins pair_cmp x ps) (x ∷ p ∷ ps)) name ≡ uses (x ∷ p ∷ ps) name
uses_ins_by x p ps name true e =
    let a = uses_cons p (ins pair_cmp x ps) name in
    let b = uses_cons x (p ∷ ps) name in
    let c = uses_cons p ps name in
    let d = uses_cons x ps name in omega (arith, a, b, c, d, e)
uses_ins_by x p ps name false e = refl

uses_ins : (x : List ℕ × List ℕ) (ps : Pairs) (name : List ℕ) → uses (ins pair_cmp x ps) name ≡ uses (x ∷ ps) name
uses_ins x [] name = refl
uses_ins x (p ∷ ps) name = uses_ins_by x p ps name (is_gt (pair_cmp x p)) (uses_ins x ps name)

uses_isort : (ps : Pairs) (name : List ℕ) → uses (isort pair_cmp ps) name ≡ uses ps name
uses_isort [] name = refl
uses_isort (p ∷ ps) name =
    let a = uses_ins p (isort pair_cmp ps) name in
    let b = uses_cons p (isort pair_cmp ps) name in
    let c = uses_cons p ps name in
    let d = uses_isort ps name in omega (arith, a, b, c, d)

-- what the walk finds
pub least_is : (ps ss : Pairs) → ss ≡ isort pair_cmp ps → repeated_name ss ≡ least_repeated ps
least_is ps ss e =
    ap repeated_name e ∙ walked (isort pair_cmp ps) (ascends_isort pair_cmp pair_total ps)
    ∙ ap (option_map (λ p. p.0)) (find_agree (stands_twice (isort pair_cmp ps)) (stands_twice ps) (isort pair_cmp ps)
    (λ k d l. ap (λ n. ltb 1 n) (uses_isort ps (get_or (isort pair_cmp ps) k d).0)))

-- what is built where nothing is refused
pub built : (ps ss ks ls : Pairs) → bad_name ps ≡ None → ss ≡ isort pair_cmp ps → repeated_name ss ≡ None → ks ≡ filter has_value ss → length ks ≤ 64 → ls ≡ ks → build_of ps ≡ Ok ls
built ps ss ks ls b e r k few l =
    let g = sym (least_is ps ss e) ∙ r in
    let m : filter has_value (isort pair_cmp ps) ≡ ls = ap (filter has_value) (sym e) ∙ sym k ∙ sym l in
    let n : nat_lt 64 (length ls) ≡ false = grind (arith, nat_tests, ap length l) in
    rw b (rw g (rw m (rw n refl)))
