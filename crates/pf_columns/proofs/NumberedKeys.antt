-- Keys that are given by numbers: their groups are those of the keys at these numbers.
use Rattle.std.proofs.Common.{◌≡◌, ◌<◌, ℕ, zero, suc, List, [], ◌∷◌, length, map, get_or, refl, sym, ap, ◌∙◌, arith}
use Rattle.std.specs.List.{All, list_any}
use Rattle.std.proofs.lemmas.List.Elements.{All-head, All-tail}
use Rattle.pf_base.specs.LabelSets.{Pairs}
use Rattle.pf_model.specs.Cells.{distinct}
use Rattle.pf_model.specs.Selection.{same_labels}
use Rattle.pf_model.proofs.KeySets.{alike, distinct_ascends, distinct_in}
use Rattle.pf_columns.specs.Groups.{GroupsData, place_in}

-- lists among which the same label sets stand have the same distinct ones
same_distinct : (keys all : List Pairs) → ((l : Pairs) → list_any (same_labels l) keys ≡ list_any (same_labels l) all) → distinct keys ≡ distinct all
same_distinct keys all h =
    alike (distinct keys) (distinct all) (distinct_ascends keys) (distinct_ascends all) (λ l. distinct_in l keys ∙ h l ∙ sym (distinct_in l all))

-- what stands at a place of a mapped list, and at several
at_map : (f : Pairs → ℕ) (keys : List Pairs) (n : ℕ) → n < length keys → get_or (map f keys) n 0 ≡ f (get_or keys n [])
at_map f [] n h = absurd (omega (arith, h))
at_map f (k ∷ keys) zero h = refl
at_map f (k ∷ keys) (suc n) h = at_map f keys n (omega (arith, h))

numbered_map : (f : Pairs → ℕ) (keys : List Pairs) (numbers : List ℕ) → All (λ n. n < length keys) numbers
    → map (λ n. get_or (map f keys) n 0) numbers ≡ map f (map (λ n. get_or keys n []) numbers)
numbered_map f keys [] a = refl
numbered_map f keys (n ∷ ns) a =
    let first = at_map f keys n (All-head (λ m. m < length keys) n ns a) in
    let rest = numbered_map f keys ns (All-tail (λ m. m < length keys) n ns a) in
    λ i. first i ∷ rest i

-- a mapped list is as long
pub length_map : (f : Pairs → ℕ) (keys : List Pairs) → length (map f keys) ≡ length keys
length_map f [] = refl
length_map f (k ∷ keys) = ap suc (length_map f keys)

abbrev given : List Pairs → List ℕ → GroupsData
given keys of = record { keys = keys; of = of }

-- the groups of the keys at numbers
pub numbered_groups : (keys all : List Pairs) (numbers places : List ℕ) (found : GroupsData) → All (λ n. n < length keys) numbers
    → found ≡ given (distinct keys) (map (place_in (distinct keys)) keys) → places ≡ map (λ n. get_or found.of n 0) numbers
    → map (λ n. get_or keys n []) numbers ≡ all → ((l : Pairs) → list_any (same_labels l) keys ≡ list_any (same_labels l) all)
    → given found.keys places ≡ given (distinct all) (map (place_in (distinct all)) all)
numbered_groups keys all numbers places found w f p e h =
    let same = same_distinct keys all h in
    let of : places ≡ map (place_in (distinct keys)) all =
    p ∙ ap (λ (g : GroupsData). map (λ n. get_or g.of n 0) numbers) f ∙ numbered_map (place_in (distinct keys)) keys numbers w
    ∙ ap (map (place_in (distinct keys))) e in
    let ks : found.keys ≡ distinct all = ap (λ (g : GroupsData). g.keys) f ∙ same in
    λ i. given (ks i) ((of ∙ ap (λ ds. map (place_in ds) all) same) i)
