-- The lines of a script by their places, and the files that they name.
use Rattle.std.proofs.Common.{◌≡◌, ℕ, zero, suc, ◌+◌, ◌<◌, ◌≤◌, Some, List, [], ◌∷◌, ◌++◌, get_or, length, map, take, drop, slice_get, refl, sym, ap, ◌∙◌, arith, subst, append-nil, append_assoc, inl, inr}
use Rattle.std.proofs.lemmas.Option.{get_or_from_slice_get, slice_get_within}
use Rattle.pf_journal.proofs.Ending.{NumbersRise}
use Rattle.pf_journal.specs.Scripts.{Numbered}
use Rattle.pf_model.specs.Lists.{Each}
use Rattle.pf_script.specs.Lines.{AllFollow, Follows, numbered_of}
use Rattle.pf_script.specs.declared.script.NumberedLine.{NumberedLine}
use Rattle.pf_client.specs.Files.{LineNames, NamesFile}
use Rattle.pf_client.proofs.SlotLaws.{each_front}

-- ---- places

pub each_get : {X : Type 0} (P : X → Type 0) (xs : List X) (i : ℕ) (d : X) → i < length xs → Each P xs → P (get_or xs i d)
each_get P [] i d p h = absurd (omega (arith, p))
each_get P (x ∷ xs) zero d p h = h.0
each_get P (x ∷ xs) (suc i) d p h = each_get P xs i d (omega (arith, p)) h.1

pub each_drop : {X : Type 0} (P : X → Type 0) (xs : List X) (i : ℕ) → Each P xs → Each P (drop i xs)
each_drop P [] zero h = tt
each_drop P [] (suc i) h = tt
each_drop P (x ∷ xs) zero h = h
each_drop P (x ∷ xs) (suc i) h = each_drop P xs i h.1

each_last : {X : Type 0} (P : X → Type 0) (xs : List X) (y : X) → Each P (xs ++ y ∷ []) → P y
each_last P [] y h = h.0
each_last P (x ∷ xs) y h = each_last P xs y h.1

map_get : (ls : List NumberedLine) (i : ℕ) (d : NumberedLine) → i < length ls → get_or (map numbered_of ls) i (numbered_of d) ≡ numbered_of (get_or ls i d)
map_get [] i d p = absurd (omega (arith, p))
map_get (l ∷ ls) zero d p = refl
map_get (l ∷ ls) (suc i) d p = map_get ls i d (omega (arith, p))

pub map_length : (ls : List NumberedLine) → length (map numbered_of ls) ≡ length ls
map_length [] = refl
map_length (l ∷ ls) = ap suc (map_length ls)

pub map_take : (ls : List NumberedLine) (i : ℕ) → take i (map numbered_of ls) ≡ map numbered_of (take i ls)
map_take [] zero = refl
map_take [] (suc i) = refl
map_take (l ∷ ls) zero = refl
map_take (l ∷ ls) (suc i) = ap (λ xs. numbered_of l ∷ xs) (map_take ls i)

pub found : (ls : List Numbered) (j : ℕ) (d : Numbered) → j < length ls → slice_get ls j ≡ Some (get_or ls j d)
found [] j d p = absurd (omega (arith, p))
found (x ∷ ls) zero d p = refl
found (x ∷ ls) (suc j) d p = found ls j d (omega (arith, p))

pub add_one : (n : ℕ) → suc n ≡ n + 1
add_one n = omega arith

-- ---- numbers

follows_get : (before ls : List Numbered) (i : ℕ) (d : Numbered) → i < length ls → AllFollow before ls → Follows (before ++ take i ls) (get_or ls i d)
follows_get before [] i d p h = absurd (omega (arith, p))
follows_get before (l ∷ ls) zero d p h = subst (λ (b : List Numbered). Follows b l) (sym (append-nil before)) h.0
follows_get before (l ∷ ls) (suc i) d p h =
    subst (λ (b : List Numbered). Follows b (get_or ls i d)) (append_assoc before (l ∷ []) (take i ls))
    (follows_get (before ++ l ∷ []) ls i d (omega (arith, p)) h.1)

pub numbers_rise : (ls : List Numbered) → AllFollow [] ls → NumbersRise ls
numbers_rise ls h = λ i l there.
    let f = subst (λ (x : Numbered). Follows (take i ls) x) (get_or_from_slice_get ls i l l there) (follows_get [] ls i l (slice_get_within ls i l there) h) in
    (f.first, f.rising)

-- a number that is below every number above those before is below those of the lines behind
above_all : (n : ℕ) (before ls : List Numbered) → AllFollow before ls → ((m : ℕ) → Each (λ b. b.number < m) before → n < m) → Each (λ x. n < x.number) ls
above_all n before [] h low = tt
above_all n before (x ∷ ls) h low =
    (low x.number h.0.rising, above_all n (before ++ x ∷ []) ls h.1 (λ m e. low m (each_front (λ b. b.number < m) before (x ∷ []) e)))

pub all_first : (before ls : List Numbered) → AllFollow before ls → Each (λ x. 0 < x.number) ls
all_first before [] h = tt
all_first before (x ∷ ls) h = (h.0.first, all_first (before ++ x ∷ []) ls h.1)

rising_get : (before ls : List Numbered) (i : ℕ) (d : Numbered) → i < length ls → AllFollow before ls → Each (λ x. (get_or ls i d).number < x.number) (drop (suc i) ls)
rising_get before [] i d p h = absurd (omega (arith, p))
rising_get before (l ∷ ls) zero d p h = above_all l.number (before ++ l ∷ []) ls h.1 (λ m e. each_last (λ b. b.number < m) before l e)
rising_get before (l ∷ ls) (suc i) d p h = rising_get (before ++ l ∷ []) ls i d (omega (arith, p)) h.1

module _ (ls : List NumberedLine) (i : ℕ) (l : NumberedLine) (inside : i < length ls) (is : l ≡ get_or ls i l) where
  pub numbered_is : get_or (map numbered_of ls) i (numbered_of l) ≡ numbered_of l
  numbered_is = map_get ls i l inside ∙ ap numbered_of (sym is)

  pub inside_lines : i < length (map numbered_of ls)
  inside_lines = let long = map_length ls in omega (arith, inside, long)

  pub follows_at : AllFollow [] (map numbered_of ls) → Follows (take i (map numbered_of ls)) (numbered_of l)
  follows_at h = subst (λ (x : Numbered). Follows (take i (map numbered_of ls)) x) numbered_is (follows_get [] (map numbered_of ls) i (numbered_of l) inside_lines h)

  -- the lines before have lesser numbers, and those behind greater ones
  pub rising_at : AllFollow [] (map numbered_of ls) → Each (λ b. b.number < l.number) (map numbered_of (take i ls))
  rising_at h = subst (Each (λ b. b.number < l.number)) (map_take ls i) (follows_at h).rising

  pub rising_behind : AllFollow [] (map numbered_of ls) → Each (λ x. l.number < x.number) (drop (i + 1) (map numbered_of ls))
  rising_behind h =
      subst (λ (n : ℕ). Each (λ x. l.number < x.number) (drop n (map numbered_of ls))) (add_one i)
      (subst (λ (y : Numbered). Each (λ x. y.number < x.number) (drop (suc i) (map numbered_of ls))) numbered_is
      (rising_get [] (map numbered_of ls) i (numbered_of l) inside_lines h))

-- ---- the files that lines name

pub names_at : (ls : List Numbered) (i : ℕ) (d : Numbered) (name : List ℕ) → i < length ls → LineNames (get_or ls i d).line name → NamesFile (drop i ls) name
names_at [] i d name p h = absurd (omega (arith, p))
names_at (l ∷ ls) zero d name p h = inl h
names_at (l ∷ ls) (suc i) d name p h = names_at ls i d name (omega (arith, p)) h

names_more : (ls : List Numbered) (i : ℕ) (name : List ℕ) → NamesFile (drop (suc i) ls) name → NamesFile (drop i ls) name
names_more [] i name h = absurd h
names_more (l ∷ ls) zero name h = inr h
names_more (l ∷ ls) (suc i) name h = names_more ls i name h

pub names_behind : (ls : List Numbered) (i : ℕ) (name : List ℕ) → NamesFile (drop (i + 1) ls) name → NamesFile (drop i ls) name
names_behind ls i name h = names_more ls i name (subst (λ (n : ℕ). NamesFile (drop n ls) name) (sym (add_one i)) h)

-- the last line that names a file has a number above one that is below all
pub last_behind : (ls : List Numbered) (n last : ℕ) (name : List ℕ) → NamesFile ls name → Each (λ l. n < l.number) ls
    → Each (λ l. LineNames l.line name → l.number ≤ last) ls → n < last
last_behind [] n last name h low high = absurd h
last_behind (l ∷ ls) n last name (inl h) low high = let a = low.0 in let b = high.0 h in omega (arith, a, b)
last_behind (l ∷ ls) n last name (inr h) low high = last_behind ls n last name h low.1 high.1
