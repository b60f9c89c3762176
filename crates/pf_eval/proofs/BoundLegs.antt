-- The leg of a query that is evaluated whole.
use Rattle.std.proofs.Common.{◌≡◌, ◌<◌, ◌+◌, ◌*◌, ℕ, zero, suc, ℤ, pos, Bool, true, false, ◌||◌, Some, All, get_or, length, List, [], ◌∷◌, ◌++◌, refl, sym, ap, ◌∙◌, arith, subst, length-append}
use Rattle.std.specs.List.{list_any, slice_get}
use Rattle.std.specs.Str.{bytes_eq}
use Rattle.std.proofs.lemmas.Slice.Eq.{bytes_eq-Decides}
use Rattle.pf_base.specs.declared.plain.Row.{Row}
use Rattle.pf_base.specs.GridLists.{GridData}
use Rattle.pf_model.specs.declared.cell.StepCell.{StepCell}
use Rattle.pf_model.specs.declared.cell.StepCell.TheVariants.{Good, Bad}
use Rattle.pf_model.specs.Evaluation.{eval}
use Rattle.pf_model.specs.Legs.{LegsData, PartData, leg_part, whole, grouped, bad, whole_part}
use Rattle.pf_columns.specs.Steps.{StepsData, step_at}
use Rattle.pf_shard.specs.declared.parts.Part.{Part}
use Rattle.pf_shard.specs.declared.parts.Part.TheVariants.{Whole}
use Rattle.pf_shard.specs.Lawful.{ResolvedLegs, legs_data}
use Rattle.pf_shard.specs.LegParts.{part_at}

-- each of some texts is among them
among : (texts : List (List ℕ)) (k : ℕ) (d : List ℕ) → k < length texts → list_any (λ p. bytes_eq p (get_or texts k d)) texts ≡ true
among [] k d h = absurd (omega (arith, h))
among (x ∷ xs) zero d h = ap (λ b. b || list_any (λ p. bytes_eq p x) xs) ((bytes_eq-Decides x x).1 refl)
among (x ∷ xs) (suc k) d h = behind (bytes_eq x (get_or xs k d)) (among xs k d (omega (arith, h))) where
  behind : {b : Bool} (a : Bool) → b ≡ true → (a || b) ≡ true
  behind true p = refl
  behind false p = p

pub all_among : (texts wanted : List (List ℕ)) → texts ≡ wanted → All (λ text. list_any (λ p. bytes_eq p text) texts ≡ true) wanted
all_among texts wanted is = subst (All (λ text. list_any (λ p. bytes_eq p text) texts ≡ true)) is (among texts)

-- ---- a whole part

module _ (samples : List Row) (legs : LegsData) (whole_leg : legs.nodes ≡ []) where
  pub leg_is : (leg : ℕ) (t : ℤ) → leg_part samples legs leg t ≡ whole_part (eval samples legs.query t)
  leg_is leg t = ap (λ nodes. leg_part samples (record { query = legs.query; nodes = nodes; shards = legs.shards }) leg t) whole_leg

abbrev cell_in : PartData → StepCell
cell_in (whole es) = Good es
cell_in (grouped groups) = Good []
cell_in (bad kind) = Bad kind

cell_of : (c : StepCell) → cell_in (whole_part c) ≡ c
cell_of (Good es) = refl
cell_of (Bad kind) = refl

same_cell : (c d : StepCell) → whole_part c ≡ whole_part d → c ≡ d
same_cell c d h = sym (cell_of c) ∙ ap cell_in h ∙ cell_of d

pub merged_is : (samples : List Row) (legs : LegsData) → legs.nodes ≡ [] → (s : StepsData) (i k : ℕ) (t : ℤ)
    → whole_part (step_at s k) ≡ leg_part samples legs i t → step_at s k ≡ eval samples legs.query t
merged_is samples legs w s i k t h = same_cell (step_at s k) (eval samples legs.query t) (h ∙ leg_is samples legs w i t)

-- ---- the last of one

pub last_of : {X : Type 0} (xs rest : List X) (x : X) → length xs ≡ 1 → xs ≡ rest ++ (x ∷ []) → slice_get xs 0 ≡ Some x
last_of xs [] x n e = ap (λ zs. slice_get zs 0) e
last_of xs (y ∷ rest) x n e =
    let many : length ((y ∷ rest) ++ (x ∷ [])) ≡ 1 = ap length (sym e) ∙ n in
    let count = length-append (y ∷ rest) (x ∷ []) in
    absurd (omega (arith, many, count))

module _ (samples : List Row) (legs : ResolvedLegs) (parts : List Part) (run : GridData) where
  abbrev ArePartsOf : Type 0
  ArePartsOf =
      (i : ℕ) (p : Part) → slice_get parts i ≡ Some p → (k : ℕ) → k < run.len
      → part_at p k ≡ leg_part samples (legs_data legs) i (pos (run.start + k * run.step))

  pub merged_value : (rest : List Part) (s : StepsData) → legs.nodes ≡ [] → length parts ≡ 1 → parts ≡ rest ++ (Whole s ∷ []) → ArePartsOf → (k : ℕ) → k < run.len
      → step_at s k ≡ eval samples legs.resolved.query (pos (run.start + k * run.step))
  merged_value rest s w n e h k l =
      merged_is samples (legs_data legs) w s 0 k (pos (run.start + k * run.step)) (h 0 (Whole s) (last_of parts rest (Whole s) n e) k l)
