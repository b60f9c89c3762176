-- The elements of the groups, which are found once, are those with the group's key.
use Rattle.std.proofs.Common.{◌≡◌, ◌<◌, ◌+◌, ℕ, suc, Bool, true, false, cond, nat_eq, List, [], ◌∷◌, ◌++◌, map, length, take, get_or, refl, sym, ap, ◌∙◌, subst, arith}
use Rattle.std.specs.List.{filter}
use Rattle.std.specs.Prelude.{slice_set}
use Rattle.std.proofs.lemmas.Grind.{take_at_read}
use Rattle.pf_base.specs.LabelSets.{Pairs}
use Rattle.pf_model.specs.declared.cell.Element.{Element}
use Rattle.pf_model.specs.Aggregation.{groups}
use Rattle.pf_model.specs.Cells.{distinct, labels_of}
use Rattle.pf_model.specs.Lists.{Each}
use Rattle.pf_model.specs.Merging.{below}
use Rattle.pf_model.specs.Selection.{same_labels}
use Rattle.pf_model.proofs.KeySets.{stands_in}
use Rattle.pf_columns.specs.Columns.{AreRising}
use Rattle.pf_columns.specs.Groups.{place_in}
use Rattle.pf_columns.proofs.Below.{first_below}
use Rattle.pf_columns.proofs.GroupColumns.{below_alike, id_is, length_take_alike, put_is}
use Rattle.pf_columns.proofs.GroupKeys.{distinct_rising, each_stands}
use Rattle.pf_agg.specs.Buckets.{grouped, those_of}

-- the elements that have a key
abbrev members : (Pairs → Pairs) → Pairs → List Element → List Element
members key k es = filter (λ e. same_labels (key e.labels) k) es

module _ (key : Pairs → Pairs) (ks : List Pairs) (r : AreRising ks) (g : ℕ) (h : g < length ks) where
  those_members : (es : List Element) → Each (λ l. stands_in l ks ≡ true) (map key (labels_of es))
      → those_of g (map (place_in ks) (map key (labels_of es))) es ≡ members key (get_or ks g []) es
  those_members [] a = refl
  those_members (e ∷ es) a =
      let t = those_members es a.1 in
      λ i. cond (id_is ks r (key e.labels) a.0 g h i) (e ∷ t i) (t i)

-- ---- buckets

those_snoc : (g : ℕ) (os : List ℕ) (cs : List Element) (o : ℕ) (c : Element) → length os ≡ length cs → those_of g (os ++ (o ∷ [])) (cs ++ (c ∷ [])) ≡ those_of g os cs ++ cond (nat_eq o g) (c ∷ []) []
those_snoc g [] [] o c e = refl
those_snoc g [] (d ∷ ds) o c e = absurd (omega (arith, e))
those_snoc g (p ∷ ps) [] o c e = absurd (omega (arith, e))
those_snoc g (p ∷ ps) (d ∷ ds) o c e = by (nat_eq p g) (those_snoc g ps ds o c (omega (arith, e))) where
  by : (b : Bool) → those_of g (ps ++ (o ∷ [])) (ds ++ (c ∷ [])) ≡ those_of g ps ds ++ cond (nat_eq o g) (c ∷ []) []
      → cond b (d ∷ those_of g (ps ++ (o ∷ [])) (ds ++ (c ∷ []))) (those_of g (ps ++ (o ∷ [])) (ds ++ (c ∷ []))) ≡ cond b (d ∷ those_of g ps ds) (those_of g ps ds) ++ cond (nat_eq o g) (c ∷ []) []
  by true r = ap (λ xs. d ∷ xs) r
  by false r = r

-- the loop's step
pub bucket_more : (os : List ℕ) (cs : List Element) (n i : ℕ) (c : Element) (before after : List (List Element)) → length os ≡ length cs → i < length cs → get_or os i 0 < n → c ≡ get_or cs i c
    → before ≡ below (λ g. those_of g (take i os) (take i cs)) n → after ≡ slice_set before (get_or os i 0) (get_or before (get_or os i 0) [] ++ (c ∷ []))
    → after ≡ below (λ g. those_of g (take (i + 1) os) (take (i + 1) cs)) n
bucket_more os cs n i c before after e h w q b a =
    let o = get_or os i 0 in
    let f : ℕ → List Element = λ g. those_of g (take i os) (take i cs) in
    let os' : take (i + 1) os ≡ take i os ++ (o ∷ []) = (take_at_read os i 0 (subst (λ m. i < m) (sym e) h)).1 in
    let cs' : take (i + 1) cs ≡ take i cs ++ (c ∷ []) = (take_at_read cs i c h).1 ∙ ap (λ x. take i cs ++ (x ∷ [])) (sym q) in
    let many : length (take i os) ≡ length (take i cs) = length_take_alike os cs i e in
    a ∙ ap (λ xs. slice_set xs o (get_or xs o [] ++ (c ∷ []))) b ∙ put_is f n o c w
    ∙ below_alike (λ k. f k ++ cond (nat_eq o k) (c ∷ []) []) (λ g. those_of g (take (i + 1) os) (take (i + 1) cs)) n
    (λ g. sym (those_snoc g (take i os) (take i cs) o c many) ∙ (λ j. those_of g (sym os' j) (sym cs' j)))

-- ---- the groups

module _ (key : Pairs → Pairs) (es : List Element) (os : List ℕ) where
  grouped_from : (g : ℕ) (ks : List Pairs) → ((j : ℕ) → j < length ks → those_of (g + j) os es ≡ members key (get_or ks j []) es)
      → grouped ks (below (λ j. those_of (g + j) os es) (length ks)) ≡ map (λ k. record { key = k; elements = members key k es }) ks
  grouped_from g [] e = refl
  grouped_from g (k ∷ ks) e =
      let here : those_of (g + 0) os es ≡ members key k es = e 0 (omega arith) in
      let rest = grouped_from (g + 1) ks (λ j h. ap (λ i. those_of i os es) (omega arith) ∙ e (suc j) (omega (arith, h))) in
      ap (grouped (k ∷ ks)) (first_below (λ j. those_of (g + j) os es) (length ks))
      ∙ ap (λ bs. record { key = k; elements = those_of (g + 0) os es } ∷ grouped ks bs)
      (below_alike (λ j. those_of (g + suc j) os es) (λ j. those_of ((g + 1) + j) os es) (length ks) (λ j. ap (λ i. those_of i os es) (omega arith)))
      ∙ λ i. record { key = k; elements = here i } ∷ rest i

pub groups_are : (key : Pairs → Pairs) (es : List Element) (labels keys : List Pairs) (places : List ℕ) (buckets : List (List Element)) → labels ≡ labels_of es
    → keys ≡ distinct (map key labels) → places ≡ map (place_in (distinct (map key labels))) (map key labels)
    → buckets ≡ below (λ g. those_of g places es) (length keys) → grouped keys buckets ≡ groups key es
groups_are key es labels keys places buckets l k p b =
    let ks = map key (labels_of es) in
    let keys' : keys ≡ distinct ks = k ∙ ap (λ ls. distinct (map key ls)) l in
    let places' : places ≡ map (place_in (distinct ks)) ks = p ∙ ap (λ ls. map (place_in (distinct (map key ls))) (map key ls)) l in
    let buckets' : buckets ≡ below (λ g. those_of (0 + g) (map (place_in (distinct ks)) ks) es) (length (distinct ks)) =
    b ∙ (λ i. below (λ g. those_of g (places' i) es) (length (keys' i)))
    ∙ below_alike (λ g. those_of g (map (place_in (distinct ks)) ks) es) (λ g. those_of (0 + g) (map (place_in (distinct ks)) ks) es) (length (distinct ks)) (λ g. ap (λ i. those_of i (map (place_in (distinct ks)) ks) es) (omega arith)) in
    (λ i. grouped (keys' i) (buckets' i))
    ∙ grouped_from key es (map (place_in (distinct ks)) ks) 0 (distinct ks)
    (λ j h. ap (λ i. those_of i (map (place_in (distinct ks)) ks) es) (omega arith) ∙ those_members key (distinct ks) (distinct_rising ks) j h es (each_stands ks))
