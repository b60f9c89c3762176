-- The samples of a series in blocks: block by block, and by time.
use Rattle.std.proofs.Common.{◌≡◌, ℕ, zero, suc, ◌+◌, ◌<◌, ◌≤◌, true, List, [], ◌∷◌, ◌++◌, length, take, drop, get_or, refl, sym, ap, ◌∙◌, arith, append_assoc}
use Rattle.std.specs.Cmp.{first_so, second_so}
use Rattle.std.specs.List.{list_all}
use Rattle.pf_base.specs.declared.plain.Sample.{Sample}
use Rattle.pf_block.specs.Blocks.{Entries, ascends, samples_in, times_in}
use Rattle.pf_block.specs.Samples.{merged_samples, rises}
use Rattle.pf_block.specs.Stacks.{joined_in, series_in}
use Rattle.pf_block.proofs.Canonical.{goes, one_list, rises_back, rises_front, rises_goes, series_goes}
use Rattle.pf_block.proofs.MergedSamples.{merged_goes, merged_join, merged_times, parts_rise}
use Rattle.pf_block.proofs.Merging.{times_append}

pub joined_append : (id : ℕ) (bs cs : List Entries) → joined_in id (bs ++ cs) ≡ joined_in id bs ++ joined_in id cs
joined_append id [] cs = refl
joined_append id (b ∷ bs) cs = ap (λ l. samples_in id b ++ l) (joined_append id bs cs) ∙ sym (append_assoc (samples_in id b) (joined_in id bs) (joined_in id cs))

take_drop : {X : Type 0} (n : ℕ) (xs : List X) → take n xs ++ drop n xs ≡ xs
take_drop zero xs = refl
take_drop (suc n) [] = refl
take_drop (suc n) (x ∷ xs) = ap (λ l. x ∷ l) (take_drop n xs)

pub joined_split : (id n : ℕ) (bs : List Entries) → joined_in id (take n bs) ++ joined_in id (drop n bs) ≡ joined_in id bs
joined_split id n bs = sym (joined_append id (take n bs) (drop n bs)) ∙ ap (joined_in id) (take_drop n bs)

pub series_times : (id : ℕ) (x : Sample) (bs : List Entries) → times_in x (series_in id bs) ≡ times_in x (joined_in id bs)
series_times id x [] = refl
series_times id x (b ∷ bs) =
    let r = series_times id x bs in
    omega (arith, r, merged_times x (samples_in id b) (series_in id bs), times_append x (samples_in id b) (joined_in id bs))

pub all_go : (id : ℕ) (bs : List Entries) → list_all ascends bs ≡ true → goes (series_in id bs) ≡ true
all_go id [] h = refl
all_go id (b ∷ bs) h =
    merged_goes (samples_in id b) (series_in id bs) (series_goes id b (first_so (ascends b) (list_all ascends bs) h)) (all_go id bs (second_so (ascends b) (list_all ascends bs) h))

-- where samples rise from block to block they are so by time
pub joined_is : (id : ℕ) (bs : List Entries) → rises (joined_in id bs) ≡ true → joined_in id bs ≡ series_in id bs
joined_is id [] r = refl
joined_is id (b ∷ bs) r =
    sym (merged_join (samples_in id b) (joined_in id bs) r) ∙ ap (merged_samples (samples_in id b)) (joined_is id bs (rises_back (samples_in id b) (joined_in id bs) r))

pub first_part : (id : ℕ) (b : Entries) (bs : List Entries) → rises (series_in id (b ∷ bs)) ≡ true → rises (samples_in id b) ≡ true
first_part id b bs r = (parts_rise (samples_in id b) (series_in id bs) r).0

pub behind_part : (id : ℕ) (b : Entries) (bs : List Entries) → rises (series_in id (b ∷ bs)) ≡ true → rises (series_in id bs) ≡ true
behind_part id b bs r = (parts_rise (samples_in id b) (series_in id bs) r).1

pub drop_rises : (id n : ℕ) (bs : List Entries) → rises (series_in id bs) ≡ true → rises (series_in id (drop n bs)) ≡ true
drop_rises id zero bs r = r
drop_rises id (suc n) [] r = refl
drop_rises id (suc n) (b ∷ bs) r = drop_rises id n bs (behind_part id b bs r)

pub block_rises : (id : ℕ) (bs : List Entries) (n : ℕ) (b : Entries) → n < length bs → b ≡ get_or bs n [] → rises (series_in id bs) ≡ true → rises (samples_in id b) ≡ true
block_rises id [] n b l e r = absurd (omega arith)
block_rises id (c ∷ bs) zero b l e r = ap (λ x. rises (samples_in id x)) e ∙ first_part id c bs r
block_rises id (c ∷ bs) (suc n) b l e r = block_rises id bs n b (omega arith) e (behind_part id c bs r)

-- the first blocks and those behind them
pub parts_times : (id n : ℕ) (x : Sample) (bs : List Entries) → times_in x (joined_in id (take n bs)) + times_in x (joined_in id (drop n bs)) ≡ times_in x (joined_in id bs)
parts_times id n x bs = sym (times_append x (joined_in id (take n bs)) (joined_in id (drop n bs))) ∙ ap (times_in x) (joined_split id n bs)

pub series_parts : (id n : ℕ) (bs : List Entries) → rises (series_in id bs) ≡ true → rises (joined_in id (take n bs)) ≡ true → merged_samples (joined_in id (take n bs)) (series_in id (drop n bs)) ≡ series_in id bs
series_parts id n bs r f =
    one_list (series_in id bs) (merged_samples (joined_in id (take n bs)) (series_in id (drop n bs))) r
    (merged_goes (joined_in id (take n bs)) (series_in id (drop n bs)) (rises_goes (joined_in id (take n bs)) f) (rises_goes (series_in id (drop n bs)) (drop_rises id n bs r)))
    (λ x.
    let a = series_times id x bs in
    let b = parts_times id n x bs in
    let c = series_times id x (drop n bs) in
    let d = merged_times x (joined_in id (take n bs)) (series_in id (drop n bs)) in
    omega (arith, a, b, c, d))

-- fewer blocks have fewer samples
pub take_times : (k m n : ℕ) (x : Sample) (bs : List Entries) → m ≤ n → times_in x (joined_in k (take m bs)) ≤ times_in x (joined_in k (take n bs))
take_times k zero n x bs l = omega arith
take_times k (suc m) zero x bs l = absurd (omega arith)
take_times k (suc m) (suc n) x [] l = omega arith
take_times k (suc m) (suc n) x (b ∷ bs) l =
    let r = take_times k m n x bs (omega arith) in
    omega (arith, r, times_append x (samples_in k b) (joined_in k (take m bs)), times_append x (samples_in k b) (joined_in k (take n bs)))

pub take_front : {X : Type 0} (m n : ℕ) (xs ys : List X) → m ≤ n → n ≤ length xs → take m (take n xs ++ ys) ≡ take m xs
take_front zero n xs ys l h = refl
take_front (suc m) zero xs ys l h = absurd (omega arith)
take_front (suc m) (suc n) [] ys l h = absurd (omega arith)
take_front (suc m) (suc n) (x ∷ xs) ys l h = ap (λ z. x ∷ z) (take_front m n xs ys (omega arith) (omega (arith, h)))

pub take_less : {X : Type 0} (m n : ℕ) (xs : List X) → m ≤ n → take m (take n xs) ≡ take m xs
take_less zero n xs l = refl
take_less (suc m) zero xs l = absurd (omega arith)
take_less (suc m) (suc n) [] l = refl
take_less (suc m) (suc n) (x ∷ xs) l = ap (λ z. x ∷ z) (take_less m n xs (omega arith))

pub take_all : {X : Type 0} (xs : List X) → take (length xs) xs ≡ xs
take_all [] = refl
take_all (x ∷ xs) = ap (λ l. x ∷ l) (take_all xs)

pub drop_all : {X : Type 0} (xs : List X) → drop (length xs) xs ≡ []
drop_all [] = refl
drop_all (x ∷ xs) = drop_all xs

pub take_over : {X : Type 0} (n : ℕ) (xs : List X) → length xs ≤ n → take n xs ≡ xs
take_over zero [] l = refl
take_over zero (x ∷ xs) l = absurd (omega arith)
take_over (suc n) [] l = refl
take_over (suc n) (x ∷ xs) l = ap (λ z. x ∷ z) (take_over n xs (omega arith))

pub front_less : (id m n : ℕ) (bs : List Entries) → m ≤ n → rises (joined_in id (take n bs)) ≡ true → rises (joined_in id (take m bs)) ≡ true
front_less id m n bs l r =
    rises_front (joined_in id (take m bs)) (joined_in id (drop m (take n bs)))
    (ap (λ t. rises (joined_in id t ++ joined_in id (drop m (take n bs)))) (sym (take_less m n bs l)) ∙ ap rises (joined_split id m (take n bs)) ∙ r)
