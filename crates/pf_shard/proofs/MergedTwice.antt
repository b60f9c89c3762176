-- Groups that are merged already are merged with further ones as if they weren't.
use Rattle.std.proofs.Common.{◌≡◌, ◌+◌, ℕ, ℤ, ◌+ℤ◌, Bool, true, false, cond, ◌||◌, List, [], ◌∷◌, ◌++◌, map, refl, sym, ap, ◌∙◌, arith}
use Rattle.std.specs.Int.{int_min, int_max}
use Rattle.std.proofs.lemmas.Int.{ints}
use Rattle.std.proofs.lemmas.List.{map-append}
use Rattle.pf_base.specs.declared.plain.Partial.{Partial}
use Rattle.pf_base.specs.LabelSets.{Pairs}
use Rattle.pf_model.specs.Cells.{distinct}
use Rattle.pf_model.specs.Legs.{GroupPart}
use Rattle.pf_model.specs.Merging.{added, merged, merged_groups}
use Rattle.pf_model.specs.Micros.{greatest, least, total}
use Rattle.pf_model.specs.Selection.{same_labels}
use Rattle.pf_model.proofs.KeySets.{alike, below_all, distinct_ascends, distinct_in, in_append, same_is, same_turned, stands_in}
use Rattle.pf_model.proofs.SelectorLabels.{Ascends}
use Rattle.pf_shard.proofs.MergedGroups.{keys, known, known_append, merged_at, those, partials_in}

-- ---- numbers

total_append : (vs ws : List ℤ) → total (vs ++ ws) ≡ total vs +ℤ total ws
total_append [] ws = let z = total ws in omega (arith, ints)
total_append (v ∷ vs) ws = ap (λ x. v +ℤ x) (total_append vs ws) ∙ (let a = total vs in let b = total ws in omega (arith, ints))

added_append : (ns ms : List ℕ) → added (ns ++ ms) ≡ added ns + added ms
added_append [] ms = omega arith
added_append (n ∷ ns) ms = ap (λ x. n + x) (added_append ns ms) ∙ omega arith

min_three : (a b c : ℤ) → int_min (int_min a b) c ≡ int_min a (int_min b c)
min_three a b c = grind (arith, ints)

max_three : (a b c : ℤ) → int_max (int_max a b) c ≡ int_max a (int_max b c)
max_three a b c = grind (arith, ints)

least_by : (v x : ℤ) (xs : List ℤ) (ws : List ℤ) → least (x ∷ ws) ≡ least xs → least (int_min v x ∷ ws) ≡ int_min v (least xs)
least_by v x xs [] h = ap (int_min v) h
least_by v x xs (w ∷ ws) h = min_three v x (least (w ∷ ws)) ∙ ap (int_min v) h

least_append : (v : ℤ) (vs ws : List ℤ) → least (least (v ∷ vs) ∷ ws) ≡ least ((v ∷ vs) ++ ws)
least_append v [] ws = refl
least_append v (w ∷ vs) ws = least_by v (least (w ∷ vs)) ((w ∷ vs) ++ ws) ws (least_append w vs ws)

greatest_by : (v x : ℤ) (xs : List ℤ) (ws : List ℤ) → greatest (x ∷ ws) ≡ greatest xs → greatest (int_max v x ∷ ws) ≡ int_max v (greatest xs)
greatest_by v x xs [] h = ap (int_max v) h
greatest_by v x xs (w ∷ ws) h = max_three v x (greatest (w ∷ ws)) ∙ ap (int_max v) h

greatest_append : (v : ℤ) (vs ws : List ℤ) → greatest (greatest (v ∷ vs) ∷ ws) ≡ greatest ((v ∷ vs) ++ ws)
greatest_append v [] ws = refl
greatest_append v (w ∷ vs) ws = greatest_by v (greatest (w ∷ vs)) ((w ∷ vs) ++ ws) ws (greatest_append w vs ws)

abbrev made : ℤ → ℕ → ℤ → ℤ → Partial
made a b c d = record { sum = a; count = b; least = c; greatest = d }

merged_front : (p : Partial) (ps qs : List Partial) → merged (merged (p ∷ ps) ∷ qs) ≡ merged ((p ∷ ps) ++ qs)
merged_front p ps qs =
    let sums : total (map (λ (x : Partial). x.sum) ((p ∷ ps) ++ qs)) ≡ total (map (λ (x : Partial). x.sum) (p ∷ ps)) +ℤ total (map (λ (x : Partial). x.sum) qs) =
    ap total (map-append (λ (x : Partial). x.sum) (p ∷ ps) qs) ∙ total_append (map (λ (x : Partial). x.sum) (p ∷ ps)) (map (λ (x : Partial). x.sum) qs) in
    let counts : added (map (λ (x : Partial). x.count) ((p ∷ ps) ++ qs)) ≡ added (map (λ (x : Partial). x.count) (p ∷ ps)) + added (map (λ (x : Partial). x.count) qs) =
    ap added (map-append (λ (x : Partial). x.count) (p ∷ ps) qs) ∙ added_append (map (λ (x : Partial). x.count) (p ∷ ps)) (map (λ (x : Partial). x.count) qs) in
    let lows = least_append p.least (map (λ (x : Partial). x.least) ps) (map (λ (x : Partial). x.least) qs) ∙ ap (λ xs. least (p.least ∷ xs)) (sym (map-append (λ (x : Partial). x.least) ps qs)) in
    let highs = greatest_append p.greatest (map (λ (x : Partial). x.greatest) ps) (map (λ (x : Partial). x.greatest) qs) ∙ ap (λ xs. greatest (p.greatest ∷ xs)) (sym (map-append (λ (x : Partial). x.greatest) ps qs)) in
    λ i. made (sym sums i) (sym counts i) (lows i) (highs i)

-- ---- what is known of a key

module _ (gs : List GroupPart) (k : Pairs) where
  merged_known_by : (l : Pairs) (ls : List Pairs) (b : Bool) → same_labels l k ≡ b → stands_in l ls ≡ false → known k (map (merged_at gs) ls) ≡ cond (stands_in k ls) (merged (known k gs) ∷ []) []
      → partials_in (cond b (merged_at gs l ∷ those k (map (merged_at gs) ls)) (those k (map (merged_at gs) ls))) ≡ cond (same_labels k l || stands_in k ls) (merged (known k gs) ∷ []) []
  merged_known_by l ls true e a h =
      let is = same_is l k e in
      let absent : stands_in k ls ≡ false = ap (λ x. stands_in x ls) (sym is) ∙ a in
      (λ i. merged (known (is i) gs) ∷ (h ∙ ap (λ b. cond b (merged (known k gs) ∷ []) []) absent) i)
      ∙ sym (ap (λ b. cond (b || stands_in k ls) (merged (known k gs) ∷ []) []) (same_turned k l ∙ e))
  merged_known_by l ls false e a h = h ∙ sym (ap (λ b. cond (b || stands_in k ls) (merged (known k gs) ∷ []) []) (same_turned k l ∙ e))

  merged_known : (ls : List Pairs) → Ascends ls → known k (map (merged_at gs) ls) ≡ cond (stands_in k ls) (merged (known k gs) ∷ []) []
  merged_known [] a = refl
  merged_known (l ∷ ls) a = merged_known_by l ls (same_labels l k) refl (below_all l ls a.0) (merged_known ls a.1)

stands_by : (k : Pairs) (g : GroupPart) (gs : List GroupPart) (b : Bool) → same_labels g.key k ≡ b → (partials_in (those k gs) ≡ [] → stands_in k (keys gs) ≡ false)
    → partials_in (cond b (g ∷ those k gs) (those k gs)) ≡ [] → (same_labels k g.key || stands_in k (keys gs)) ≡ false
stands_by k g gs true e f h = cc
stands_by k g gs false e f h = ap (λ b. b || stands_in k (keys gs)) (same_turned k g.key ∙ e) ∙ f h

stands_known : (k : Pairs) (gs : List GroupPart) → known k gs ≡ [] → stands_in k (keys gs) ≡ false
stands_known k [] h = refl
stands_known k (g ∷ gs) h = stands_by k g gs (same_labels g.key k) refl (stands_known k gs) h

absent_by : (k : Pairs) (g : GroupPart) (gs : List GroupPart) (b : Bool) → same_labels g.key k ≡ b → (stands_in k (keys gs) ≡ false → partials_in (those k gs) ≡ [])
    → (same_labels k g.key || stands_in k (keys gs)) ≡ false → partials_in (cond b (g ∷ those k gs) (those k gs)) ≡ []
absent_by k g gs true e f h = let no : true ≡ false = sym (ap (λ b. b || stands_in k (keys gs)) (same_turned k g.key ∙ e)) ∙ h in cc
absent_by k g gs false e f h = f (sym (ap (λ b. b || stands_in k (keys gs)) (same_turned k g.key ∙ e)) ∙ h)

absent_known : (k : Pairs) (gs : List GroupPart) → stands_in k (keys gs) ≡ false → known k gs ≡ []
absent_known k [] h = refl
absent_known k (g ∷ gs) h = absent_by k g gs (same_labels g.key k) refl (absent_known k gs) h

front_by : (ps qs : List Partial) (b : Bool) → (ps ≡ [] → b ≡ false) → (b ≡ false → ps ≡ []) → merged (cond b (merged ps ∷ []) [] ++ qs) ≡ merged (ps ++ qs)
front_by [] qs true f g = let no : true ≡ false = f refl in cc
front_by [] qs false f g = refl
front_by (p ∷ ps) qs true f g = merged_front p ps qs
front_by (p ∷ ps) qs false f g = let no : p ∷ ps ≡ [] = g refl in cc

keys_of_merged : (gs : List GroupPart) (ls : List Pairs) → keys (map (merged_at gs) ls) ≡ ls
keys_of_merged gs [] = refl
keys_of_merged gs (l ∷ ls) = ap (λ ms. l ∷ ms) (keys_of_merged gs ls)

module _ (gs hs : List GroupPart) where
  same_known : (k : Pairs) → merged (known k (merged_groups gs ++ hs)) ≡ merged (known k (gs ++ hs))
  same_known k =
      ap merged (known_append k (merged_groups gs) hs)
      ∙ ap (λ ps. merged (ps ++ known k hs)) (merged_known gs k (distinct (keys gs)) (distinct_ascends (keys gs)))
      ∙ front_by (known k gs) (known k hs) (stands_in k (distinct (keys gs)))
      (λ e. distinct_in k (keys gs) ∙ stands_known k gs e)
      (λ e. absent_known k gs (sym (distinct_in k (keys gs)) ∙ e))
      ∙ ap merged (sym (known_append k gs hs))

  same_groups : (ls : List Pairs) → map (merged_at (merged_groups gs ++ hs)) ls ≡ map (merged_at (gs ++ hs)) ls
  same_groups [] = refl
  same_groups (l ∷ ls) = λ i. record { key = l; partial = same_known l i } ∷ same_groups ls i

  keys_append : (xs ys : List GroupPart) → keys (xs ++ ys) ≡ keys xs ++ keys ys
  keys_append xs ys = map-append (λ (q : GroupPart). q.key) xs ys

  same_keys : distinct (keys (merged_groups gs ++ hs)) ≡ distinct (keys (gs ++ hs))
  same_keys =
      alike (distinct (keys (merged_groups gs ++ hs))) (distinct (keys (gs ++ hs))) (distinct_ascends (keys (merged_groups gs ++ hs))) (distinct_ascends (keys (gs ++ hs)))
      (λ x. distinct_in x (keys (merged_groups gs ++ hs))
      ∙ ap (stands_in x) (keys_append (merged_groups gs) hs)
      ∙ in_append x (keys (merged_groups gs)) (keys hs)
      ∙ ap (λ b. b || stands_in x (keys hs)) (ap (stands_in x) (keys_of_merged gs (distinct (keys gs))) ∙ distinct_in x (keys gs))
      ∙ sym (in_append x (keys gs) (keys hs))
      ∙ sym (ap (stands_in x) (keys_append gs hs))
      ∙ sym (distinct_in x (keys (gs ++ hs))))

  pub merged_twice : merged_groups (merged_groups gs ++ hs) ≡ merged_groups (gs ++ hs)
  merged_twice = ap (map (merged_at (merged_groups gs ++ hs))) same_keys ∙ same_groups (distinct (keys (gs ++ hs)))
