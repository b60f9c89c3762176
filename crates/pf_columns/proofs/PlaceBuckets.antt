-- Places that are put into the buckets of their groups, one after another.
use Rattle.std.proofs.Common.{◌≡◌, ◌<◌, ◌≤◌, ◌+◌, ℕ, suc, Bool, true, false, cond, nat_eq, List, [], ◌∷◌, ◌++◌, length, take, get_or, sym, ap, ◌∙◌, arith}
use Rattle.std.specs.Prelude.{slice_set}
use Rattle.std.proofs.lemmas.Grind.{take_at_read}
use Rattle.std.proofs.lemmas.List.{length-take-le}
use Rattle.pf_columns.specs.Ranks.{buckets_by, places_of}
use Rattle.pf_columns.proofs.GroupColumns.{below_alike, put_is}

snoc_by : (g i : ℕ) (os : List ℕ) (o m n : ℕ) (b : Bool) → m ≡ n → places_of g (i + 1) (os ++ (o ∷ [])) ≡ places_of g (i + 1) os ++ cond (nat_eq o g) (m ∷ []) []
    → cond b (i ∷ places_of g (i + 1) (os ++ (o ∷ []))) (places_of g (i + 1) (os ++ (o ∷ []))) ≡ cond b (i ∷ places_of g (i + 1) os) (places_of g (i + 1) os) ++ cond (nat_eq o g) (n ∷ []) []
snoc_by g i os o m n true e h = ap (λ ps. i ∷ ps) (h ∙ ap (λ x. places_of g (i + 1) os ++ cond (nat_eq o g) (x ∷ []) []) e)
snoc_by g i os o m n false e h = h ∙ ap (λ x. places_of g (i + 1) os ++ cond (nat_eq o g) (x ∷ []) []) e

places_snoc : (g i : ℕ) (os : List ℕ) (o : ℕ) → places_of g i (os ++ (o ∷ [])) ≡ places_of g i os ++ cond (nat_eq o g) ((i + length os) ∷ []) []
places_snoc g i [] o = ap (λ x. cond (nat_eq o g) (x ∷ []) []) (omega arith)
places_snoc g i (p ∷ ps) o = snoc_by g i ps o ((i + 1) + length ps) (i + suc (length ps)) (nat_eq p g) (omega arith) (places_snoc g (i + 1) ps o)

-- the loop's step
pub place_more : (os : List ℕ) (n i : ℕ) (before after : List (List ℕ)) → i < length os → get_or os i 0 < n → before ≡ buckets_by (take i os) n
    → after ≡ slice_set before (get_or os i 0) (get_or before (get_or os i 0) [] ++ (i ∷ [])) → after ≡ buckets_by (take (i + 1) os) n
place_more os n i before after h w b a =
    let o = get_or os i 0 in
    let f : ℕ → List ℕ = λ g. places_of g 0 (take i os) in
    let more : take (i + 1) os ≡ take i os ++ (o ∷ []) = (take_at_read os i 0 h).1 in
    let most : i ≤ length os = omega (arith, h) in
    let many : 0 + length (take i os) ≡ i = let q = length-take-le i os most in omega (arith, q) in
    a ∙ ap (λ xs. slice_set xs o (get_or xs o [] ++ (i ∷ []))) b ∙ put_is f n o i w
    ∙ below_alike (λ g. f g ++ cond (nat_eq o g) (i ∷ []) []) (λ g. places_of g 0 (take (i + 1) os)) n
    (λ g. sym (ap (places_of g 0) more ∙ places_snoc g 0 (take i os) o ∙ ap (λ x. f g ++ cond (nat_eq o g) (x ∷ []) []) many))
