-- Elements that are changed by themselves, and what a node is of them.
use Rattle.std.proofs.Common.{◌≡◌, ◌<◌, ℕ, ℤ, Option, Some, None, List, [], ◌∷◌, ◌++◌, map, refl, sym, ap, ◌∙◌, append_assoc}
use Rattle.pf_base.specs.LabelSets.{Pairs}
use Rattle.pf_model.specs.declared.cell.Element.{Element}
use Rattle.pf_model.specs.declared.cell.ErrorKind.{ErrorKind}
use Rattle.pf_model.specs.declared.cell.StepCell.TheVariants.{Good}
use Rattle.pf_model.specs.declared.expr.BinaryOp.{BinaryOp}
use Rattle.pf_model.specs.Cells.{cell_of, element}
use Rattle.pf_model.specs.Clauses.{Matched}
use Rattle.pf_model.specs.Lists.{joined}
use Rattle.pf_model.specs.Matching.{of_scalars}
use Rattle.pf_model.specs.Outcomes.{negated, of_cell, operation}
use Rattle.pf_columns.specs.Columns.{ColumnData, cell_at, value_in}
use Rattle.pf_columns.specs.Steps.{unless_bad}
use Rattle.pf_eval.specs.Nodes.{altered, applied, changed, first_of, labelled, onto, scalar_unless}
use Rattle.pf_eval.specs.declared.change.Change.TheVariants as change
use Rattle.pf_columns.proofs.Below.{in_below}

module _ (g : Pairs → Pairs) (f : ℕ → ℤ → Option ℤ) (n k : ℕ) where
  pub one_cell : (l : Pairs) (o : Option ℤ) → element (g l) (onto o (f k)) ≡ joined (λ e. element (g e.labels) (f k e.value)) (element l o)
  one_cell l None = refl
  one_cell l (Some v) = some_cell (f k v) where
    some_cell : (o : Option ℤ) → element (g l) o ≡ element (g l) o ++ []
    some_cell None = refl
    some_cell (Some w) = refl

  pub spread : (xs ys : List Element) → joined (λ e. element (g e.labels) (f k e.value)) (xs ++ ys)
      ≡ joined (λ e. element (g e.labels) (f k e.value)) xs ++ joined (λ e. element (g e.labels) (f k e.value)) ys
  spread [] ys = refl
  spread (x ∷ xs) ys = ap (λ es. element (g x.labels) (f k x.value) ++ es) (spread xs ys)
      ∙ sym (append_assoc (element (g x.labels) (f k x.value)) (joined (λ e. element (g e.labels) (f k e.value)) xs) (joined (λ e. element (g e.labels) (f k e.value)) ys))

  pub changed_cell : (cs : List ColumnData) → k < n → cell_at (map (changed g f n) cs) k ≡ joined (λ e. element (g e.labels) (f k e.value)) (cell_at cs k)
  changed_cell [] h = refl
  changed_cell (c ∷ cs) h =
      (λ i. element (g c.labels) (in_below (λ j. onto (value_in c.values j) (f j)) n k None h i) ++ changed_cell cs h i)
      ∙ ap (λ es. es ++ joined (λ e. element (g e.labels) (f k e.value)) (cell_at cs k)) (one_cell c.labels (value_in c.values k))
      ∙ sym (spread (element c.labels (value_in c.values k)) (cell_at cs k))

none_joined : (g : Pairs → Pairs) (es : List Element) → joined (λ e. element (g e.labels) None) es ≡ []
none_joined g [] = refl
none_joined g (e ∷ es) = none_joined g es

pub negated_scalar : (b : Option ErrorKind) (o : Option ℤ) → scalar_unless b (onto o (applied change.Negation None)) ≡ negated (scalar_unless b o)
negated_scalar None None = refl
negated_scalar None (Some v) = refl
negated_scalar (Some kind) o = refl

pub scalar_step : (op : BinaryOp) (m : Matched) (b c : Option ErrorKind) (x y : Option ℤ)
    → scalar_unless (first_of b c) (of_scalars op x y) ≡ operation op m (scalar_unless b x) (scalar_unless c y)
scalar_step op m None None x y = refl
scalar_step op m None (Some kind) x y = refl
scalar_step op m (Some kind) c x y = refl

pub negated_step : (b : Option ErrorKind) (s : Option ℤ) (es : List Element) → of_cell (unless_bad b (cell_of (altered change.Negation s es))) ≡ negated (of_cell (unless_bad b (Good es)))
negated_step None s es = refl
negated_step (Some kind) s es = refl

pub left_step : (op : BinaryOp) (m : Matched) (b c : Option ErrorKind) (a : Option ℤ) (es : List Element)
    → of_cell (unless_bad (first_of b c) (cell_of (altered (change.Left op) a es))) ≡ operation op m (scalar_unless b a) (of_cell (unless_bad c (Good es)))
left_step op m (Some kind) c a es = refl
left_step op m None (Some kind) a es = refl
left_step op m None None None es = ap (λ xs. of_cell (cell_of xs)) (none_joined (labelled (change.Left op)) es)
left_step op m None None (Some a) es = refl

pub right_step : (op : BinaryOp) (m : Matched) (b c : Option ErrorKind) (a : Option ℤ) (es : List Element)
    → of_cell (unless_bad (first_of b c) (cell_of (altered (change.Right op) a es))) ≡ operation op m (of_cell (unless_bad b (Good es))) (scalar_unless c a)
right_step op m (Some kind) c a es = refl
right_step op m None (Some kind) a es = refl
right_step op m None None None es = ap (λ xs. of_cell (cell_of xs)) (none_joined (labelled (change.Right op)) es)
right_step op m None None (Some a) es = refl
