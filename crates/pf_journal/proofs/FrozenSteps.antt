-- A step that is frozen at a log's floor keeps its value while the generation is the same: no sample that is taken later is below
-- the floor, and none is deleted.
use Rattle.std.proofs.Common.{◌≡◌, ℕ, ℤ, ◌+◌, ◌-◌, ◌≤◌, Bool, true, false, cond, ◌||◌, List, [], ◌∷◌, ◌++◌, Option, Some, None, refl, sym, ap, ◌∙◌, subst, filter, take, drop, append-nil, arith}
use Rattle.std.proofs.Math.Seq.{take-add}
use Rattle.std.proofs.lemmas.Bool.{eqb-true, leb-true}
use Rattle.std.proofs.lemmas.Bool.Decides.{nat_tests}
use Rattle.std.proofs.lemmas.Int.{ints}
use Rattle.std.proofs.lemmas.List.Elements.{filter-append}
use Rattle.std.specs.Cmp.{first_so, second_so}
use Rattle.std.specs.Prelude.{max, nat_eq, nat_le, nat_lt, unwrap_or}
use Rattle.pf_base.specs.declared.plain.Row.{Row}
use Rattle.pf_journal.specs.Frozen.{FrozenSteps, KeptCells, KeptSteps}
use Rattle.pf_model.proofs.TimesRead.{frozen_same, is_before}
use Rattle.pf_model.specs.Evaluation.{eval}
use Rattle.pf_model.specs.Log.{Change, Rules, Store, append, changed, compared, delete, empty_store, floor_at, floor_below, floor_of, held_value, is_taken, newest_with, store_after, store_of, taken_rows, too_old, verdict_on, verdicts_on}
use Rattle.pf_model.specs.Reach.{is_below, is_frozen, reach}
use Rattle.pf_model.specs.Trees.{Tree}

-- the floor, or 0 where nothing was ever taken
abbrev level : Option ℕ → ℕ
level floor = unwrap_or floor 0

-- ---- what is taken is not below the floor

none_before_zero : (low time : ℕ) → low ≤ 0 → nat_lt time low ≡ false
none_before_zero low time h = grind (arith, nat_tests)

not_before : (low floor time : ℕ) → low ≤ floor → nat_lt time floor ≡ false → nat_lt time low ≡ false
not_before low floor time h e = grind (arith, nat_tests)

taken_late : (floor low : ℕ) (held : List Row) (r : Row) (b : Bool) → low ≤ floor → nat_lt r.time floor ≡ b
    → is_taken (cond b (too_old floor) (compared (held_value held r.labels r.time) r.value)) ≡ true → nat_lt r.time low ≡ false
taken_late floor low held r true h e k = cc
taken_late floor low held r false h e k = not_before low floor r.time h e

late : (floor : Option ℕ) (low : ℕ) (held : List Row) (r : Row) → low ≤ level floor → is_taken (verdict_on floor held r) ≡ true
    → is_before low r ≡ false
late None low held r h k = none_before_zero low r.time h
late (Some floor) low held r h k = taken_late floor low held r (nat_lt r.time floor) h refl k

none_with : (low : ℕ) (r : Row) (rows : List Row) (b : Bool) → (b ≡ true → is_before low r ≡ false) → filter (is_before low) rows ≡ []
    → filter (is_before low) (cond b (r ∷ rows) rows) ≡ []
none_with low r rows true f e = rw (f refl) e
none_with low r rows false f e = e

none_before : (floor : Option ℕ) (low : ℕ) (held rows : List Row) → low ≤ level floor
    → filter (is_before low) (taken_rows rows (verdicts_on floor held rows)) ≡ []
none_before floor low held [] h = refl
none_before floor low held (r ∷ rs) h =
    let b = is_taken (verdict_on floor held r) in
    let more = held ++ cond b (r ∷ []) [] in
    none_with low r (taken_rows rs (verdicts_on floor more rs)) b (late floor low held r h) (none_before floor low more rs h)

-- ---- floors and generations never fall

level_rises : (window : ℕ) (newest : Option ℕ) (rows : List Row)
    → level (floor_below window newest) ≤ level (floor_below window (newest_with newest rows))
level_rises window newest [] = omega arith
level_rises window None (r ∷ rs) = omega arith
level_rises window (Some newest) (r ∷ rs) =
    let h : newest - window ≤ max newest r.time - window = grind arith in
    omega (arith, h, level_rises window (Some (max newest r.time)) rs)

generation_rises : (s : Store) (cs : List Change) → s.generation ≤ (store_after s cs).generation
generation_rises s [] = omega arith
generation_rises s (append rows ∷ cs) = generation_rises (changed s (append rows)) cs
generation_rises s (delete ms from to ∷ cs) =
    omega (arith, generation_rises (changed s (delete ms from to)) cs)

-- ---- more changes

-- the samples below a level are the same after changes that leave the generation, if the floor is not below the level
same_below : (low : ℕ) (s : Store) (cs : List Change) → low ≤ level (floor_at s)
    → (store_after s cs).generation ≡ s.generation
    → filter (is_before low) s.samples ≡ filter (is_before low) (store_after s cs).samples
same_below low s [] h g = refl
same_below low s (append rows ∷ cs) h g =
    let rows' = taken_rows rows (verdicts_on (floor_at s) s.samples rows) in
    let still : low ≤ level (floor_below s.window (newest_with s.newest rows')) = omega (arith, h, level_rises s.window s.newest rows') in
    sym (filter-append (is_before low) s.samples rows'
    ∙ ap (λ xs. filter (is_before low) s.samples ++ xs) (none_before (floor_at s) low s.samples rows h)
    ∙ append-nil (filter (is_before low) s.samples))
    ∙ same_below low (changed s (append rows)) cs still g
same_below low s (delete ms from to ∷ cs) h g =
    absurd (omega (arith, g, generation_rises (changed s (delete ms from to)) cs))

after_both : (s : Store) (log more : List Change) → store_after s (log ++ more) ≡ store_after (store_after s log) more
after_both s [] more = refl
after_both s (c ∷ cs) more = after_both (changed s c) cs more

-- a step that is frozen where there is no floor reads nothing, and so is frozen at each
frozen_by : (reached : Option ℤ) (floor : Option ℕ) → is_below reached floor ≡ true → is_below reached (Some (level floor)) ≡ true
frozen_by None floor h = refl
frozen_by (Some latest) None h = cc
frozen_by (Some latest) (Some floor) h = h

pub frozen_steps : FrozenSteps
frozen_steps rules log more query t g h =
    let s = store_of rules log in
    let low = level (floor_of rules log) in
    let e : store_of rules (log ++ more) ≡ store_after s more = after_both (empty_store rules) log more in
    frozen_same low s.samples (store_after s more).samples
    (same_below low s more (let l : low ≤ low = omega arith in l) (sym (ap (λ x. x.generation) e) ∙ g))
    query t (frozen_by (reach query t) (floor_of rules log) h)
    ∙ ap (λ x. eval x.samples query t) (sym e)

-- ---- two fronts of one log

-- of two fronts, the longer is the shorter with more changes
longer : (log : List Change) (short long : ℕ) → short ≤ long → take long log ≡ take short log ++ take (long - short) (drop short log)
longer log short long h =
    let e : long ≡ short + (long - short) = omega (arith, h) in
    ap (λ n. take n log) e ∙ take-add short (long - short) log

fronts : (rules : Rules) (log : List Change) (short long : ℕ) (query : Tree) (t : ℤ) → short ≤ long
    → (store_of rules (take long log)).generation ≡ (store_of rules (take short log)).generation
    → is_frozen query t (floor_of rules (take short log)) ≡ true
    → eval (store_of rules (take short log)).samples query t ≡ eval (store_of rules (take long log)).samples query t
fronts rules log short long query t h g k =
    let e = longer log short long h in
    frozen_steps rules (take short log) (take (long - short) (drop short log)) query t (sym (ap (λ l. (store_of rules l).generation) e) ∙ g) k
    ∙ ap (λ l. eval (store_of rules l).samples query t) (sym e)

kept_by : (rules : Rules) (log : List Change) (pin asked : ℕ) (query : Tree) (t : ℤ) (b : Bool) → nat_le pin asked ≡ b
    → (store_of rules (take pin log)).generation ≡ (store_of rules (take asked log)).generation
    → is_frozen query t (floor_of rules (take pin log)) ≡ true
    → (b || is_frozen query t (floor_of rules (take asked log))) ≡ true
    → eval (store_of rules (take pin log)).samples query t ≡ eval (store_of rules (take asked log)).samples query t
kept_by rules log pin asked query t true e g h k = fronts rules log pin asked query t (leb-true pin asked e) (sym g) h
kept_by rules log pin asked query t false e g h k =
    let below : asked ≤ pin = grind (arith, nat_tests) in
    sym (fronts rules log asked pin query t below g k)

pub kept_cells : KeptCells
kept_cells rules log pin asked query t h k =
    let a = (store_of rules (take pin log)).generation in
    let b = (store_of rules (take asked log)).generation in
    let c = nat_le pin asked || is_frozen query t (floor_of rules (take asked log)) in
    kept_by rules log pin asked query t (nat_le pin asked) refl (eqb-true a b (first_so (nat_eq a b) c k)) h (second_so (nat_eq a b) c k)

-- ---- the floor of more changes

abbrev IsNotLower : Option ℕ → Option ℕ → Type 0
IsNotLower None high = Unit {0}
IsNotLower (Some low) None = ⊥
IsNotLower (Some low) (Some high) = low ≤ high

same_height : (floor : Option ℕ) → IsNotLower floor floor
same_height None = tt
same_height (Some floor) = omega arith

both_higher : (a b c : Option ℕ) → IsNotLower a b → IsNotLower b c → IsNotLower a c
both_higher None b c h k = tt
both_higher (Some a) None c h k = absurd h
both_higher (Some a) (Some b) None h k = absurd k
both_higher (Some a) (Some b) (Some c) h k = omega (arith, h, k)

floor_with : (window : ℕ) (newest : Option ℕ) (rows : List Row) → IsNotLower (floor_below window newest) (floor_below window (newest_with newest rows))
floor_with window newest [] = same_height (floor_below window newest)
floor_with window None (r ∷ rs) = tt
floor_with window (Some newest) (r ∷ rs) =
    let h : newest - window ≤ max newest r.time - window = grind arith in
    both_higher (Some (newest - window)) (Some (max newest r.time - window)) (floor_below window (newest_with (Some (max newest r.time)) rs)) h
    (floor_with window (Some (max newest r.time)) rs)

floor_after : (s : Store) (cs : List Change) → IsNotLower (floor_at s) (floor_at (store_after s cs))
floor_after s [] = same_height (floor_at s)
floor_after s (append rows ∷ cs) =
    let t = changed s (append rows) in
    both_higher (floor_at s) (floor_at t) (floor_at (store_after t cs))
    (floor_with s.window s.newest (taken_rows rows (verdicts_on (floor_at s) s.samples rows))) (floor_after t cs)
floor_after s (delete ms from to ∷ cs) = floor_after (changed s (delete ms from to)) cs

-- what is read below a floor is below a higher one
below_higher : (reached : Option ℤ) (low high : Option ℕ) → IsNotLower low high → is_below reached low ≡ true → is_below reached high ≡ true
below_higher None low high h k = refl
below_higher (Some latest) None high h k = cc
below_higher (Some latest) (Some low) None h k = absurd h
below_higher (Some latest) (Some low) (Some high) h k = grind (arith, ints)

front_floor : (rules : Rules) (log : List Change) (short long : ℕ) → short ≤ long
    → IsNotLower (floor_of rules (take short log)) (floor_of rules (take long log))
front_floor rules log short long h =
    let more = take (long - short) (drop short log) in
    subst (λ l. IsNotLower (floor_of rules (take short log)) (floor_of rules l)) (sym (longer log short long h))
    (subst (λ (s : Store). IsNotLower (floor_of rules (take short log)) (floor_at s)) (sym (after_both (empty_store rules) (take short log) more))
    (floor_after (store_of rules (take short log)) more))

frozen_for : (rules : Rules) (log : List Change) (pin asked : ℕ) (query : Tree) (t : ℤ) (b : Bool) → nat_le pin asked ≡ b
    → is_frozen query t (floor_of rules (take pin log)) ≡ true
    → (b || is_frozen query t (floor_of rules (take asked log))) ≡ true
    → is_frozen query t (floor_of rules (take asked log)) ≡ true
frozen_for rules log pin asked query t true e h k =
    below_higher (reach query t) (floor_of rules (take pin log)) (floor_of rules (take asked log))
    (front_floor rules log pin asked (leb-true pin asked e)) h
frozen_for rules log pin asked query t false e h k = k

pub kept_steps : KeptSteps
kept_steps rules log pin asked query t h k =
    let a = (store_of rules (take pin log)).generation in
    let b = (store_of rules (take asked log)).generation in
    let c = nat_le pin asked || is_frozen query t (floor_of rules (take asked log)) in
    frozen_for rules log pin asked query t (nat_le pin asked) refl h (second_so (nat_eq a b) c k)
