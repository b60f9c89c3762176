-- What the inner expression of a subquery is, as vectors, and what a function makes of it.
use Rattle.std.proofs.Common.{◌≡◌, ℕ, ℤ, pos, Option, Some, None, List, [], ◌∷◌, refl, sym, ap, ◌∙◌}
use Rattle.std.specs.Prelude.{◌-ℤ◌}
use Rattle.pf_base.specs.declared.plain.Row.{Row}
use Rattle.pf_model.specs.declared.cell.Element.{Element}
use Rattle.pf_model.specs.declared.cell.ErrorKind.{ErrorKind}
use Rattle.pf_model.specs.declared.cell.StepCell.TheVariants.{Good}
use Rattle.pf_model.specs.declared.expr.Function.TheVariants as called
use Rattle.pf_model.specs.declared.expr.Mods.{Mods}
use Rattle.pf_model.specs.declared.functions.RangeFn.{RangeFn}
use Rattle.pf_model.specs.Evaluation.{moments, multiples, read_time, resolution_or_minute, subquery_over}
use Rattle.pf_model.specs.Outcomes.{Outcome, of_cell, range_call}
use Rattle.pf_model.specs.Trees as tree
use Rattle.pf_model.specs.Trees.{Tree}
use Rattle.pf_columns.specs.Columns.{cell_at, value_in}
use Rattle.pf_columns.specs.Steps.{StepsData, bad_in, step_at, unless_bad}
use Rattle.pf_selectors.specs.Subqueries.{moment_cell}
use Rattle.pf_eval.specs.Nodes.{meant, node_at, scalar_unless}
use Rattle.pf_eval.specs.declared.node.Node.{Node}
use Rattle.pf_eval.specs.declared.node.Node.TheVariants as node
use Rattle.pf_eval.specs.declared.node.Scalars.{Scalars}

vector_by : (b : Option ErrorKind) (es : List Element) → unless_bad b (Good es) ≡ moment_cell (of_cell (unless_bad b (Good es)))
vector_by None es = refl
vector_by (Some kind) es = refl

pub vector_moment : (n : Node) (s : StepsData) (k : ℕ) → n ≡ node.Vector s → step_at s k ≡ moment_cell (node_at n k)
vector_moment n s k is = vector_by (bad_in s.bads k) (cell_at s.columns k) ∙ ap (λ m. moment_cell (node_at m k)) (sym is)

scalar_by : (b : Option ErrorKind) (v : Option ℤ) → unless_bad b (Good []) ≡ moment_cell (scalar_unless b v)
scalar_by None v = refl
scalar_by (Some kind) v = refl

pub scalar_moment : (n : Node) (s : Scalars) (t : StepsData) (k : ℕ) → n ≡ node.Scalar s → t.columns ≡ [] → t.bads ≡ s.bads.items → step_at t k ≡ moment_cell (node_at n k)
scalar_moment n s t k is c b =
    (λ i. unless_bad (bad_in (b i) k) (Good (cell_at (c i) k)))
    ∙ scalar_by (bad_in s.bads.items k) (value_in s.values.items k) ∙ ap (λ m. moment_cell (node_at m k)) (sym is)

-- ---- a function of a subquery, from its parts

pub subquery_meant : (samples : List Row) (f : RangeFn) (q inner : Tree) (range every : ℕ) (resolution : Option ℕ) (mods : Mods) (t r : ℤ) (o : Outcome)
    → q ≡ tree.subquery inner range resolution mods → every ≡ resolution_or_minute resolution → r ≡ read_time mods t
    → o ≡ range_call f [] (subquery_over (r -ℤ pos range) r (moments (λ u. meant samples inner u) (multiples every (r -ℤ pos range) r)) ∷ [])
    → o ≡ meant samples (tree.call (called.Range f) (tree.more q tree.none)) t
subquery_meant samples f q inner range every resolution mods t r o is each at e =
    e
    ∙ (λ i. range_call f [] (subquery_over (at i -ℤ pos range) (at i) (moments (λ u. meant samples inner u) (multiples (each i) (at i -ℤ pos range) (at i))) ∷ []))
    ∙ ap (λ x. meant samples (tree.call (called.Range f) (tree.more x tree.none)) t) (sym is)
