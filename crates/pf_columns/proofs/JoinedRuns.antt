-- Rows of runs, and of those behind them, joined.
use Rattle.std.proofs.Common.{◌≡◌, ◌+◌, ℕ, zero, suc, List, [], ◌∷◌, ◌++◌, get_or, length, drop, refl, sym, ap, ◌∙◌, subst, append-nil, append_assoc}
use Rattle.std.proofs.lemmas.List.{drop-drop}
use Rattle.pf_base.specs.GridLists.{GridData}
use Rattle.pf_base.specs.Grids.{points}
use Rattle.pf_base.specs.LabelSets.{Pairs}
use Rattle.pf_base.proofs.GridTimes.{length-times_from}
use Rattle.pf_model.specs.Direct.{MatrixRow, Step, gather, points_of}
use Rattle.pf_model.specs.Lists.{joined}
use Rattle.pf_columns.specs.Columns.{AreRising, ColumnData, cells_from, columns_labels, rows_in, timed}
use Rattle.pf_columns.specs.Steps.{StepsData}
use Rattle.pf_columns.specs.Runs.{AreRowsOver, full_rows, joined_rows, rows_of_columns, steps_over}
use Rattle.pf_columns.proofs.FullRows.{gather_by}
use Rattle.pf_columns.proofs.GatheredRows.{gather_is, rise_at, steps_at}
use Rattle.pf_columns.proofs.JoinedRows.{joined_points, joined_rise}

pub joined_append : {X Y : Type 0} (f : X → List Y) (xs ys : List X) → joined f (xs ++ ys) ≡ joined f xs ++ joined f ys
joined_append f [] ys = refl
joined_append f (x ∷ xs) ys = ap (λ zs. f x ++ zs) (joined_append f xs ys) ∙ sym (append_assoc (f x) (joined f xs) (joined f ys))

abbrev of_run : GridData → StepsData → List Step
of_run g s = timed (points g) (cells_from s.columns 0 g.len)

nothing_over : (gs : List GridData) → steps_over gs [] ≡ []
nothing_over [] = refl
nothing_over (g ∷ gs) = refl

drop_none : {X : Type 0} (n : ℕ) (xs : List X) → xs ≡ [] → drop n xs ≡ []
drop_none zero xs e = e
drop_none (suc n) [] e = refl
drop_none (suc n) (x ∷ xs) e = cc

steps_append : (gs hs : List GridData) (ss : List StepsData) → steps_over (gs ++ hs) ss ≡ steps_over gs ss ++ steps_over hs (drop (length gs) ss)
steps_append [] hs ss = refl
steps_append (g ∷ gs) hs [] = sym (ap (steps_over hs) (drop_none (length (g ∷ gs)) [] refl) ∙ nothing_over hs)
steps_append (g ∷ gs) hs (s ∷ ss) =
    ap (λ xs. of_run g s ++ xs) (steps_append gs hs ss)
    ∙ sym (append_assoc (of_run g s) (steps_over gs ss) (steps_over hs (drop (length gs) ss)))

points_append : (l : Pairs) (xs ys : List Step) → points_of l (xs ++ ys) ≡ points_of l xs ++ points_of l ys
points_append l xs ys = joined_append _ xs ys

-- ---- the rows of runs

pub no_rows : (runs : List GridData) (ss : List StepsData) → runs ≡ [] → AreRowsOver runs ss []
no_rows runs ss e = record { rising = tt; points = λ l. ap (λ gs. points_of l (steps_over gs ss)) (sym e) }

one_run : (g : GridData) (s : StepsData) (rest : List StepsData) → AreRising (columns_labels s.columns) → AreRowsOver (g ∷ []) (s ∷ rest) (rows_of_columns (points g) s.columns)
one_run g s rest r = record {
  rising = rise_at s.columns r (points g) 0;
  points = λ l.
      steps_at s.columns r l (points g) 0 g.len (length-times_from g.start g.step g.len)
      ∙ ap (points_of l) (sym (append-nil (of_run g s)));
}

single : (runs : List GridData) (g : GridData) → length runs ≡ 1 → g ≡ get_or runs 0 g → runs ≡ g ∷ []
single [] g h e = cc
single (g' ∷ []) g h e = ap (λ r. r ∷ []) (sym e)
single (g' ∷ g'' ∷ gs) g h e = cc

pub of_one_run : (runs : List GridData) (g : GridData) (ss rest : List StepsData) (s : StepsData) (cs : List ColumnData) (rows : List MatrixRow) → length runs ≡ 1 → g ≡ get_or runs 0 g → ss ≡ s ∷ rest
    → cs ≡ s.columns → AreRising (columns_labels cs) → rows ≡ rows_of_columns (points g) cs → AreRowsOver runs ss rows
of_one_run runs g ss rest s cs rows n p q c r e =
    subst (λ gs. AreRowsOver gs ss rows) (sym (single runs g n p))
    (subst (λ xs. AreRowsOver (g ∷ []) xs rows) (sym q)
    (subst (AreRowsOver (g ∷ []) (s ∷ rest)) (sym (e ∙ ap (rows_of_columns (points g)) c))
    (one_run g s rest (subst (λ ds. AreRising (columns_labels ds)) c r))))

both : (gs hs : List GridData) (ss rest : List StepsData) (xs ys : List MatrixRow) → rest ≡ drop (length gs) ss → AreRowsOver gs ss xs → AreRowsOver hs rest ys
    → AreRowsOver (gs ++ hs) ss (joined_rows xs ys)
both gs hs ss rest xs ys e a b = record {
  rising = joined_rise xs a.rising ys b.rising;
  points = λ l.
      joined_points l xs a.rising ys b.rising
      ∙ (λ i. a.points l i ++ (b.points l ∙ ap (λ xs. points_of l (steps_over hs xs)) e) i)
      ∙ sym (points_append l (steps_over gs ss) (steps_over hs (drop (length gs) ss)))
      ∙ ap (points_of l) (sym (steps_append gs hs ss));
}

pub of_both : (runs gs hs : List GridData) (ss rest : List StepsData) (xs ys rows : List MatrixRow) → runs ≡ gs ++ hs → rest ≡ drop (length gs) ss
    → AreRowsOver gs ss xs → AreRowsOver hs rest ys → rows ≡ joined_rows xs ys → AreRowsOver runs ss rows
of_both runs gs hs ss rest xs ys rows p q a b e =
    subst (λ gs'. AreRowsOver gs' ss rows) (sym p)
    (subst (AreRowsOver (gs ++ hs) ss) (sym e) (both gs hs ss rest xs ys q a b))

pub left_over : (k m n : ℕ) (ss rest last : List StepsData) → m + n ≡ k → rest ≡ drop m ss → last ≡ drop n rest → last ≡ drop k ss
left_over k m n ss rest last e p q = q ∙ ap (drop n) p ∙ drop-drop n m ss ∙ ap (λ i. drop i ss) e

pub gathered_one : (runs : List GridData) (g : GridData) (ss : List StepsData) (s : StepsData) (cs : List ColumnData) (rows : List MatrixRow) → length runs ≡ 1 → length ss ≡ length runs
    → g ≡ get_or runs 0 g → s ≡ get_or ss 0 s → cs ≡ s.columns → AreRising (columns_labels cs) → rows ≡ rows_in (points g) 0 cs → rows ≡ gather (steps_over runs ss)
gathered_one [] g ss s cs rows m n p q c r e = cc
gathered_one (g' ∷ g'' ∷ gs) g ss s cs rows m n p q c r e = cc
gathered_one (g' ∷ []) g [] s cs rows m n p q c r e = cc
gathered_one (g' ∷ []) g (s' ∷ s'' ∷ ss) s cs rows m n p q c r e = cc
gathered_one (g' ∷ []) g (s' ∷ []) s cs rows m n p q c r e =
    e ∙ sym (gather_is cs r (points g) 0 g.len (length-times_from g.start g.step g.len))
    ∙ (λ i. gather (timed (points (p i)) (cells_from ((c ∙ ap (λ d. d.columns) q) i) 0 (p i).len)))
    ∙ ap gather (sym (append-nil (of_run g' s')))

pub gathered_over : (runs : List GridData) (ss : List StepsData) (rows : List MatrixRow) → AreRowsOver runs ss rows → full_rows rows ≡ gather (steps_over runs ss)
gathered_over runs ss rows a = sym (gather_by (steps_over runs ss) rows a.rising a.points)
