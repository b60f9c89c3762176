-- A node over the samples of each shard, and over all: a step that treats each element by itself keeps them together.
use Rattle.std.proofs.Common.{◌≡◌, ℕ, ◌<◌, ◌%◌, ℤ, Bool, true, false, cond, ◌||◌, List, [], ◌∷◌, ◌++◌, Option, None, Some, refl, sym, ap, ◌∙◌, subst, arith, mod-lt, nat_eq}
use Rattle.std.proofs.lemmas.List.Elements.{filter-append}
use Rattle.std.specs.List.{filter, list_any}
use Rattle.pf_base.specs.LabelSets.{Pairs}
use Rattle.pf_base.specs.LabelChanges.{metric_name, others, is_other}
use Rattle.pf_base.specs.ShardHash.{shard_of, labels_hash}
use Rattle.pf_model.specs.declared.cell.Element.{Element}
use Rattle.pf_model.specs.declared.cell.ErrorKind.{ErrorKind}
use Rattle.pf_model.specs.declared.cell.StepCell.TheVariants.{Good, Bad}
use Rattle.pf_model.specs.declared.cell.ErrorKind.TheVariants.{DoubleLabels}
use Rattle.pf_model.specs.Cells.{element, without_name, labels_of, has_equal, cell_of, in_label_order}
use Rattle.pf_model.specs.Lists.{joined}
use Rattle.pf_model.specs.Outcomes.{Outcome, scalar, elements, ranges, text, bad, of_cell}
use Rattle.pf_model.specs.Selection.{same_labels}
use Rattle.pf_model.proofs.KeySets.{same_is}
use Rattle.pf_model.proofs.Folds.{in_shard}
use Rattle.pf_model.proofs.ShardedCells.{cell_filtered}

-- ---- the metric name takes no part in the shard

twice_step : (p : List ℕ × List ℕ) (rest : Pairs) (b : Bool) → is_other metric_name p ≡ b → others metric_name rest ≡ rest
    → others metric_name (cond b (p ∷ rest) rest) ≡ cond b (p ∷ rest) rest
twice_step p rest true e h = ap (λ b. cond b (p ∷ others metric_name rest) (others metric_name rest)) e ∙ ap (λ zs. p ∷ zs) h
twice_step p rest false e h = h

others_twice : (ps : Pairs) → others metric_name (others metric_name ps) ≡ others metric_name ps
others_twice [] = refl
others_twice (p ∷ ps) = twice_step p (others metric_name ps) (is_other metric_name p) refl (others_twice ps)

pub shard_without_name : (l : Pairs) (n : ℕ) → shard_of (without_name l) n ≡ shard_of l n
shard_without_name l n = ap (λ ps. labels_hash ps % n) (others_twice l)

-- ---- a step of each element, before and after a test

kept_append : (Q : Element → Bool) (first rest more : List Element) (b : Bool) → filter Q first ≡ cond b first [] → filter Q rest ≡ more
    → filter Q (first ++ rest) ≡ cond b (first ++ more) more
kept_append Q first rest more true e h = filter-append Q first rest ∙ ap (λ zs. zs ++ filter Q rest) e ∙ ap (λ zs. first ++ zs) h
kept_append Q first rest more false e h = filter-append Q first rest ∙ ap (λ zs. zs ++ filter Q rest) e ∙ h

joined_cond : {X : Type 0} (step : X → List Element) (x : X) (rest : List X) (b : Bool) → cond b (step x ++ joined step rest) (joined step rest) ≡ joined step (cond b (x ∷ rest) rest)
joined_cond step x rest true = refl
joined_cond step x rest false = refl

-- what a step gives of an element passes where the element does
pub joined_kept : {X : Type 0} (step : X → List Element) (P : X → Bool) (Q : Element → Bool) → ((x : X) → filter Q (step x) ≡ cond (P x) (step x) [])
    → (xs : List X) → filter Q (joined step xs) ≡ joined step (filter P xs)
joined_kept step P Q h [] = refl
joined_kept step P Q h (x ∷ xs) =
    kept_append Q (step x) (joined step xs) (joined step (filter P xs)) (P x) (h x) (joined_kept step P Q h xs)
    ∙ joined_cond step x (filter P xs) (P x)

pub one_kept : (Q : Element → Bool) (labels : Pairs) (v : Option ℤ) (b : Bool) → ((w : ℤ) → Q (record { labels = labels; value = w }) ≡ b) → filter Q (element labels v) ≡ cond b (element labels v) []
one_kept Q labels None true h = refl
one_kept Q labels None false h = refl
one_kept Q labels (Some w) b h = ap (λ c. cond c (record { labels = labels; value = w } ∷ []) []) (h w) ∙ same b where
  same : (c : Bool) → cond c (record { labels = labels; value = w } ∷ []) [] ≡ cond c (element labels (Some w)) []
  same true = refl
  same false = refl

-- ---- two equal label sets stand in one shard

module _ (n : ℕ) (positive : 0 < n) where
  in_own : (e : Element) → in_shard n (shard_of e.labels n) e ≡ true
  in_own e = itself (shard_of e.labels n) where
    itself : (i : ℕ) → nat_eq i i ≡ true
    itself i = grind arith

  any_by : (l : Pairs) (e : Element) (rest : List Element) (b : Bool) → same_labels l e.labels ≡ b
      → (list_any (same_labels l) (labels_of rest) ≡ true → list_any (same_labels l) (labels_of (filter (in_shard n (shard_of l n)) rest)) ≡ true)
      → (same_labels l e.labels || list_any (same_labels l) (labels_of rest)) ≡ true
      → list_any (same_labels l) (labels_of (filter (in_shard n (shard_of l n)) (e ∷ rest))) ≡ true
  any_by l e rest true h go k =
      let is = same_is l e.labels h in
      let mine : in_shard n (shard_of l n) e ≡ true = ap (λ m. in_shard n (shard_of m n) e) is ∙ in_own e in
      ap (λ b. list_any (same_labels l) (labels_of (cond b (e ∷ filter (in_shard n (shard_of l n)) rest) (filter (in_shard n (shard_of l n)) rest)))) mine
      ∙ ap (λ b. b || list_any (same_labels l) (labels_of (filter (in_shard n (shard_of l n)) rest))) h
  any_by l e rest false h go k =
      more_any (in_shard n (shard_of l n) e) (go (sym (ap (λ b. b || list_any (same_labels l) (labels_of rest)) h) ∙ k)) where
        or_true : (b c : Bool) → c ≡ true → (b || c) ≡ true
        or_true true c e = refl
        or_true false c e = e

        more_any : (b : Bool) → list_any (same_labels l) (labels_of (filter (in_shard n (shard_of l n)) rest)) ≡ true
            → list_any (same_labels l) (labels_of (cond b (e ∷ filter (in_shard n (shard_of l n)) rest) (filter (in_shard n (shard_of l n)) rest))) ≡ true
        more_any true f = or_true (same_labels l e.labels) (list_any (same_labels l) (labels_of (filter (in_shard n (shard_of l n)) rest))) f
        more_any false f = f

  any_in_shard : (l : Pairs) (es : List Element) → list_any (same_labels l) (labels_of es) ≡ true
      → list_any (same_labels l) (labels_of (filter (in_shard n (shard_of l n)) es)) ≡ true
  any_in_shard l [] h = h
  any_in_shard l (e ∷ es) h = any_by l e es (same_labels l e.labels) refl (any_in_shard l es) h

  abbrev HasEqualShard : List Element → Type 0
  HasEqualShard es = (k : ℕ) × ((k < n) × (has_equal (labels_of (filter (in_shard n k) es)) ≡ true))

  or_right : (b c : Bool) → c ≡ true → (b || c) ≡ true
  or_right true c e = refl
  or_right false c e = e

  more_equal : (e : Element) (rest : List Element) (b : Bool) → has_equal (labels_of rest) ≡ true → has_equal (labels_of (cond b (e ∷ rest) rest)) ≡ true
  more_equal e rest true h = or_right (list_any (same_labels e.labels) (labels_of rest)) (has_equal (labels_of rest)) h
  more_equal e rest false h = h

  equal_by : (e : Element) (es : List Element) (b : Bool) → list_any (same_labels e.labels) (labels_of es) ≡ b
      → (list_any (same_labels e.labels) (labels_of es) || has_equal (labels_of es)) ≡ true
      → (has_equal (labels_of es) ≡ true → HasEqualShard es) → HasEqualShard (e ∷ es)
  equal_by e es true h k go =
      let own = shard_of e.labels n in (
        own,
        (
          mod-lt _ positive,
          ap (λ b. has_equal (labels_of (cond b (e ∷ filter (in_shard n own) es) (filter (in_shard n own) es)))) (in_own e)
              ∙ ap (λ b. b || has_equal (labels_of (filter (in_shard n own) es))) (any_in_shard e.labels es h),
        ),
      )
  equal_by e es false h k go =
      let found = go (sym (ap (λ b. b || has_equal (labels_of es)) h) ∙ k) in
      (found.0, (found.1.0, more_equal e (filter (in_shard n found.0) es) (in_shard n found.0 e) found.1.1))

  equal_shard : (es : List Element) → has_equal (labels_of es) ≡ true → HasEqualShard es
  equal_shard [] h = let no : false ≡ true = h in cc
  equal_shard (e ∷ es) h = equal_by e es (list_any (same_labels e.labels) (labels_of es)) refl h (equal_shard es)

  -- ---- a node over each shard

  -- a vector, or its one error
  abbrev pub IsPart : Outcome → Type 0
  IsPart (scalar v) = ⊥
  IsPart (elements es) = Unit {0}
  IsPart (ranges from to ss) = ⊥
  IsPart (text bytes) = ⊥
  IsPart (bad kind) = kind ≡ DoubleLabels

  -- over a shard's samples a node is the shard's part of what it is over all; where it is an error over all, it is the same
  -- error over some shard
  abbrev pub IsSharded : Outcome → (ℕ → Outcome) → Type 0
  IsSharded (scalar v) part = ⊥
  IsSharded (elements es) part = (i : ℕ) → part i ≡ elements (filter (in_shard n i) es)
  IsSharded (ranges from to ss) part = ⊥
  IsSharded (text bytes) part = ⊥
  IsSharded (bad kind) part = (kind ≡ DoubleLabels) × (((i : ℕ) → IsPart (part i)) × ((k : ℕ) × ((k < n) × (part k ≡ bad DoubleLabels))))

  moved_parts : (o : Outcome) (p q : ℕ → Outcome) → ((i : ℕ) → p i ≡ q i) → IsSharded o q → IsSharded o p
  moved_parts (elements es) p q e h = λ i. e i ∙ h i
  moved_parts (bad kind) p q e h = (h.0, (λ i. subst IsPart (sym (e i)) (h.1.0 i), (h.1.1.0, (h.1.1.1.0, e h.1.1.0 ∙ h.1.1.1.1))))
  moved_parts (scalar v) p q e h = h
  moved_parts (ranges from to ss) p q e h = h
  moved_parts (text bytes) p q e h = h

  pub moved : (o r : Outcome) (p q : ℕ → Outcome) → o ≡ r → ((i : ℕ) → p i ≡ q i) → IsSharded r q → IsSharded o p
  moved o r p q w e h = subst (λ x. IsSharded x p) (sym w) (moved_parts r p q e h)

  cell_part : (es : List Element) (b : Bool) → IsPart (of_cell (cond b (Bad DoubleLabels) (Good (in_label_order es))))
  cell_part es true = refl
  cell_part es false = tt

  cell_by : (es : List Element) (b : Bool) → has_equal (labels_of es) ≡ b
      → IsSharded (of_cell (cond b (Bad DoubleLabels) (Good (in_label_order es)))) (λ i. of_cell (cell_of (filter (in_shard n i) es)))
  cell_by es true h =
      let found = equal_shard es h in (
        refl,
        (
          λ i. cell_part (filter (in_shard n i) es) (has_equal (labels_of (filter (in_shard n i) es))),
          (
            found.0,
            (
              found.1.0,
              ap (λ b. of_cell (cond b (Bad DoubleLabels) (Good (in_label_order (filter (in_shard n found.0) es))))) found.1.1,
            ),
          ),
        ),
      )
  cell_by es false h = λ i. ap of_cell (cell_filtered (in_shard n i) es h)

  -- the cell of some elements
  pub cell_sharded : (es : List Element) → IsSharded (of_cell (cell_of es)) (λ i. of_cell (cell_of (filter (in_shard n i) es)))
  cell_sharded es = cell_by es (has_equal (labels_of es)) refl

  -- a step of each element by itself, within its shard
  abbrev pub StaysInShard : (Element → List Element) → Type 0
  StaysInShard step = (i : ℕ) (e : Element) → filter (in_shard n i) (step e) ≡ cond (in_shard n i e) (step e) []

  module _ (F : Outcome → Outcome) (step : Element → List Element) (stays : StaysInShard step)
      (of_vector : (es : List Element) → F (elements es) ≡ of_cell (cell_of (joined step es))) (of_error : (k : ErrorKind) → F (bad k) ≡ bad k) where
    step_part : (o : Outcome) → IsPart o → IsPart (F o)
    step_part (elements es) h =
        subst IsPart (sym (of_vector es)) (cell_part (joined step es) (has_equal (labels_of (joined step es))))
    step_part (bad kind) h = subst IsPart (sym (of_error kind)) h
    step_part (scalar v) h = absurd h
    step_part (ranges from to ss) h = absurd h
    step_part (text bytes) h = absurd h

    pub through : (o : Outcome) (part : ℕ → Outcome) → IsSharded o part → IsSharded (F o) (λ i. F (part i))
    through (elements es) part h =
        moved (F (elements es)) (of_cell (cell_of (joined step es))) (λ i. F (part i)) (λ i. of_cell (cell_of (filter (in_shard n i) (joined step es))))
        (of_vector es)
        (λ i. ap F (h i) ∙ of_vector (filter (in_shard n i) es) ∙ ap (λ zs. of_cell (cell_of zs)) (sym (joined_kept step (in_shard n i) (in_shard n i) (stays i) es)))
        (cell_sharded (joined step es))
    through (bad kind) part h =
        moved (F (bad kind)) (bad kind) (λ i. F (part i)) (λ i. F (part i)) (of_error kind) (λ i. refl)
        (h.0, (λ i. step_part (part i) (h.1.0 i), (h.1.1.0, (h.1.1.1.0, ap F h.1.1.1.1 ∙ of_error DoubleLabels))))
    through (scalar v) part h = absurd h
    through (ranges from to ss) part h = absurd h
    through (text bytes) part h = absurd h
