-- How many samples blocks have, and a snapshot, and how few blocks there are.
use Rattle.std.proofs.Common.{◌≡◌, ℕ, zero, suc, ◌+◌, ◌*◌, ◌^◌, ◌<◌, ◌≤◌, Bool, true, false, cond, List, [], ◌∷◌, length, map, get_or, refl, ap, arith}
use Rattle.std.specs.Prelude.{nat_eq, nat_le, nat_lt}
use Rattle.std.specs.Cmp.{first_so, second_so}
use Rattle.std.specs.List.{list_all}
use Rattle.std.proofs.Math.Nat.{pow-suc}
use Rattle.std.proofs.lemmas.Bool.Decides.{nat_tests}
use Rattle.pf_base.specs.declared.plain.Sample.{Sample}
use Rattle.pf_block.specs.Blocks.{Entries, samples_in}
use Rattle.pf_block.specs.Stacks.{doubles, series_from, series_in, total}
use Rattle.pf_block.proofs.MergedSamples.{merged_length}

-- the samples that a block has of some series
abbrev part : ℕ → ℕ → Entries → ℕ
part i zero es = 0
part i (suc n) es = length (samples_in i es) + part (i + 1) n es

none_part : (i n : ℕ) → part i n [] ≡ 0
none_part i zero = refl
none_part i (suc n) = let r = none_part (i + 1) n in omega (arith, r)

below_part : (i n : ℕ) (e : ℕ × Sample) (es : Entries) → e.0 < i → part i n (e ∷ es) ≡ part i n es
below_part i zero e es l = refl
below_part i (suc n) e es l =
    let f : nat_eq i e.0 ≡ false = grind (arith, nat_tests) in
    let g = ap (λ v. length (cond v (e.1 ∷ samples_in i es) (samples_in i es))) f in
    let r = below_part (i + 1) n e es (omega (arith, l)) in
    omega (arith, g, r)

one_by : (i n : ℕ) (e : ℕ × Sample) (es : Entries) (v : Bool) → nat_eq i e.0 ≡ v → part (i + 1) n (e ∷ es) ≤ suc (part (i + 1) n es) → part i (suc n) (e ∷ es) ≤ suc (part i (suc n) es)
one_by i n e es true h q =
    let g = ap (λ v. length (cond v (e.1 ∷ samples_in i es) (samples_in i es))) h in
    let l : e.0 < i + 1 = grind (arith, nat_tests) in
    let r = below_part (i + 1) n e es l in
    omega (arith, g, r)
one_by i n e es false h q = let g = ap (λ v. length (cond v (e.1 ∷ samples_in i es) (samples_in i es))) h in omega (arith, g, q)

one_part : (i n : ℕ) (e : ℕ × Sample) (es : Entries) → part i n (e ∷ es) ≤ suc (part i n es)
one_part i zero e es = omega arith
one_part i (suc n) e es = one_by i n e es (nat_eq i e.0) refl (one_part (i + 1) n e es)

part_most : (i n : ℕ) (es : Entries) → part i n es ≤ length es
part_most i n [] = let r = none_part i n in omega (arith, r)
part_most i n (e ∷ es) = let r = part_most i n es in let o = one_part i n e es in omega (arith, r, o)

none_total : (i n : ℕ) → total (map length (series_from i n [])) ≡ 0
none_total i zero = refl
none_total i (suc n) = let r = none_total (i + 1) n in omega (arith, r)

more_total : (i n : ℕ) (b : Entries) (bs : List Entries) → total (map length (series_from i n (b ∷ bs))) ≡ part i n b + total (map length (series_from i n bs))
more_total i zero b bs = omega arith
more_total i (suc n) b bs = let r = more_total (i + 1) n b bs in let a = merged_length (samples_in i b) (series_in i bs) in omega (arith, r, a)

pub total_most : (i n : ℕ) (bs : List Entries) → total (map length (series_from i n bs)) ≤ total (map length bs)
total_most i n [] = let r = none_total i n in omega (arith, r)
total_most i n (b ∷ bs) = let r = total_most i n bs in let m = more_total i n b bs in let p = part_most i n b in omega (arith, r, m, p)

-- numbers that double are few
few_by : (k n : ℕ) (ns : List ℕ) → n < 2 ^ k → list_all (nat_lt 0) (n ∷ ns) ≡ true → doubles (n ∷ ns) ≡ true → length (n ∷ ns) ≤ k
few_by zero n ns l f d = let p = first_so (nat_lt 0 n) (list_all (nat_lt 0) ns) f in grind (arith, nat_tests)
few_by (suc k) n [] l f d = omega arith
few_by (suc k) n (m ∷ ns) l f d =
    let p = pow-suc 2 k in
    let h = first_so (nat_le (2 * m) n) (doubles (m ∷ ns)) d in
    let q : 2 * m ≤ n = grind (arith, nat_tests) in
    let r = few_by k m ns (omega (arith, l, p, q)) (second_so (nat_lt 0 n) (list_all (nat_lt 0) (m ∷ ns)) f) (second_so (nat_le (2 * m) n) (doubles (m ∷ ns)) d) in
    omega (arith, r)

pub few : (ns : List ℕ) → get_or ns 0 0 < 2 ^ 64 → list_all (nat_lt 0) ns ≡ true → doubles ns ≡ true → length ns ≤ 64
few [] l f d = omega arith
few (n ∷ ns) l f d = few_by 64 n ns l f d
