-- What an instant function gives at a step of a run, from its columns and its scalars.
use Rattle.std.proofs.Common.{◌≡◌, ◌<◌, ◌≤◌, ◌≢◌, ℕ, ℤ, ◌+◌, true, Option, Some, None, List, [], ◌∷◌, ◌++◌, map, refl, sym, ap, ◌∙◌, append_assoc, length, get_or, set, get_or-set_other, get_or-set_same, below_more, subst, arith}
use Rattle.std.proofs.lemmas.List.{get_or_default}
use Rattle.std.proofs.Math.ListN.{get_or-append}
use Rattle.std.proofs.Math.Seq.{get_or-append_seam}
use Rattle.std.specs.Prelude.{IfOk, Result, Ok, Err}
use Rattle.pf_base.specs.LabelSets.{Pairs}
use Rattle.pf_model.specs.declared.cell.Element.{Element}
use Rattle.pf_model.specs.declared.cell.ErrorKind.{ErrorKind}
use Rattle.pf_model.specs.declared.cell.StepCell.{StepCell}
use Rattle.pf_model.specs.declared.cell.StepCell.TheVariants.{Good}
use Rattle.pf_model.specs.declared.functions.InstantFn.{InstantFn}
use Rattle.pf_model.specs.declared.functions.InstantFn.TheVariants as function
use Rattle.pf_model.specs.Cells.{cell_of, element, without_name}
use Rattle.pf_model.specs.Evaluation.{expansion_by}
use Rattle.pf_model.specs.InstantFunctions.{absent_of, each_value, instant_function, only_value}
use Rattle.pf_model.specs.Lists.{at}
use Rattle.pf_model.specs.Outcomes.{of_cell, of_elements, scalar}
use Rattle.pf_columns.specs.Columns.{ColumnData, cell_at, value_in}
use Rattle.pf_columns.specs.Steps.{StepsData, bad_in, step_at, unless_bad}
use Rattle.pf_math.specs.declared.values.Change.{Change}
use Rattle.pf_math.specs.declared.relabelling.Relabelling.{Relabelling}
use Rattle.pf_math.specs.EachValue.{changed, is_each_value, value_by}
use Rattle.pf_math.specs.Relabelling.{is_relabelling, labels_by, relabels}
use Rattle.pf_math.proofs.EachFunction.{each_value_is}
use Rattle.pf_math.proofs.EachLabels.{each_labels_is}
use Rattle.pf_eval.specs.declared.arguments.Arguments.{Arguments}
use Rattle.pf_eval.specs.declared.node.Node.{Node}
use Rattle.pf_eval.specs.Arguments.{outcome_unless}
use Rattle.pf_eval.specs.Calls.{absent_value, beside_read, given, scalars_at}
use Rattle.pf_eval.specs.Nodes.{node_at, onto, scalar_unless}
use Rattle.pf_eval.proofs.Changes.{one_cell, spread}

-- ---- a list that is written place by place

-- what is read at a place in range, at any default
pub read_in : (xs : List (Option ℤ)) (i : ℕ) (v : Option ℤ) → i < length xs → v ≡ get_or xs i v → v ≡ get_or xs i None
read_in xs i v h e = e ∙ get_or_default xs i v None h

pub written_done : (now : List (Option ℤ)) (g : ℕ → Option ℤ) (i : ℕ) (v : Option ℤ) → i < length now → v ≡ g i
    → ((k : ℕ) → k < i → get_or now k None ≡ g k) → (k : ℕ) → k < i + 1 → get_or (set now i v) k None ≡ g k
written_done now g i v h e all = below_more _ _
    (λ k l. let ne : k ≢ i = omega arith in get_or-set_other now i k v None ne ∙ all k l)
    (get_or-set_same now i v None h ∙ e)

pub written_left : (now old : List (Option ℤ)) (i : ℕ) (v : Option ℤ) → ((k : ℕ) → i ≤ k → get_or now k None ≡ get_or old k None)
    → (k : ℕ) → i + 1 ≤ k → get_or (set now i v) k None ≡ get_or old k None
written_left now old i v all k l =
    let ne : k ≢ i = omega arith in
    get_or-set_other now i k v None ne ∙ all k (omega arith)

-- what is said of each place of a list, with one element more
pub pushed : {X : Type 0} (P : ℕ → X → Type 0) (xs : List X) (x d : X) (n : ℕ) → length xs ≡ n → ((k : ℕ) → k < n → P k (get_or xs k d)) → P n x
    → (k : ℕ) → k < n + 1 → P k (get_or (xs ++ (x ∷ [])) k d)
pushed P xs x d n e all here = below_more _ _
    (λ k l. subst (P k) (sym (get_or-append xs (x ∷ []) d k (omega (arith, e, l)))) (all k l))
    (subst (λ m. P m (get_or (xs ++ (x ∷ [])) m d)) e
    (subst (P (length xs)) (sym (get_or-append_seam xs x [] d)) (subst (λ m. P m x) (sym e) here)))

-- ---- one column more

cell_push : (cs : List ColumnData) (d : ColumnData) (k : ℕ) → cell_at (cs ++ (d ∷ [])) k ≡ cell_at cs k ++ (element d.labels (value_in d.values k) ++ [])
cell_push [] d k = refl
cell_push (c ∷ cs) d k =
    ap (λ es. element c.labels (value_in c.values k) ++ es) (cell_push cs d k)
    ∙ sym (append_assoc (element c.labels (value_in c.values k)) (cell_at cs k) (element d.labels (value_in d.values k) ++ []))

-- a column whose elements are those that J makes of another's
more_by : (J : List Element → List Element) (found rest : List ColumnData) (c d : ColumnData) (k : ℕ) (all : List Element)
    → element d.labels (value_in d.values k) ++ J (cell_at rest k) ≡ J (cell_at (c ∷ rest) k)
    → cell_at found k ++ J (cell_at (c ∷ rest) k) ≡ all → cell_at (found ++ (d ∷ [])) k ++ J (cell_at rest k) ≡ all
more_by J found rest c d k all e h =
    ap (λ es. es ++ J (cell_at rest k)) (cell_push found d k)
    ∙ append_assoc (cell_at found k) (element d.labels (value_in d.values k) ++ []) (J (cell_at rest k))
    ∙ ap (λ es. cell_at found k ++ es) (append_assoc (element d.labels (value_in d.values k)) [] (J (cell_at rest k)) ∙ e)
    ∙ h

pub more_changed : (f : ℤ → Option ℤ) (found after items rest : List ColumnData) (c d : ColumnData) (k : ℕ) (all : List Element)
    → items ≡ c ∷ rest → after ≡ found ++ (d ∷ []) → d.labels ≡ without_name c.labels → value_in d.values k ≡ onto (value_in c.values k) f
    → cell_at found k ++ each_value f (cell_at items k) ≡ all → cell_at after k ++ each_value f (cell_at rest k) ≡ all
more_changed f found after items rest c d k all i a l v h =
    ap (λ cs. cell_at cs k ++ each_value f (cell_at rest k)) a
    ∙ more_by (each_value f) found rest c d k all
    ((λ j. element (l j) (v j) ++ each_value f (cell_at rest k))
    ∙ ap (λ es. es ++ each_value f (cell_at rest k)) (one_cell without_name (λ m. f) 0 k c.labels (value_in c.values k))
    ∙ sym (spread without_name (λ m. f) 0 k (element c.labels (value_in c.values k)) (cell_at rest k)))
    (ap (λ cs. cell_at found k ++ each_value f (cell_at cs k)) (sym i) ∙ h)

-- ---- functions of each element

of_cell_unless : (b : Option ErrorKind) (c : StepCell) → of_cell (unless_bad b c) ≡ outcome_unless b (of_cell c)
of_cell_unless None c = refl
of_cell_unless (Some kind) c = refl

each_elements : (f : InstantFn) (es : List Element) → is_each_value f ≡ true → of_cell (cell_of es) ≡ of_elements f es
each_elements function.Abs es h = refl
each_elements function.Ceil es h = refl
each_elements function.Floor es h = refl
each_elements function.Sgn es h = refl
each_elements function.Round es h = refl
each_elements function.Clamp es h = refl
each_elements function.ClampMin es h = refl
each_elements function.ClampMax es h = refl
each_elements function.Timestamp es h = refl
each_elements function.Absent es h = refl
each_elements function.Vector es h = refl
each_elements function.LabelReplace es h = refl
each_elements function.LabelJoin es h = refl
each_elements function.Scalar es h = cc
each_elements function.Time es h = cc

pub each_value_step : (f : InstantFn) (absent : Pairs) (t : ℤ) (a : Arguments) (k : ℕ) (s : StepsData) (c : Change) (cs : List ColumnData) → is_each_value f ≡ true
    → step_at s k ≡ unless_bad (bad_in a.bads.items k) (cell_of (cell_at cs k)) → cell_at cs k ≡ each_value (changed c) (cell_at a.columns.items k)
    → ((v : ℤ) → changed c v ≡ value_by f (scalars_at a.scalars.items k) t v) → of_cell (step_at s k) ≡ given f absent t a k
each_value_step f absent t a k s c cs h step cell value =
    let es = cell_at a.columns.items k in
    ap of_cell step
    ∙ of_cell_unless (bad_in a.bads.items k) (cell_of (cell_at cs k))
    ∙ ap (λ xs. outcome_unless (bad_in a.bads.items k) (of_cell (cell_of xs)))
    (cell ∙ (λ i. each_value (λ v. value v i) es) ∙ sym (each_value_is f h (beside_read absent t a k) es))
    ∙ ap (outcome_unless (bad_in a.bads.items k)) (each_elements f (instant_function f (beside_read absent t a k) es) h)

-- ---- `label_replace` and `label_join`

relabelled_elements : (f : InstantFn) (es : List Element) → is_relabelling f ≡ true → of_cell (cell_of es) ≡ of_elements f es
relabelled_elements function.LabelReplace es h = refl
relabelled_elements function.LabelJoin es h = refl
relabelled_elements function.Abs es h = refl
relabelled_elements function.Ceil es h = refl
relabelled_elements function.Floor es h = refl
relabelled_elements function.Sgn es h = refl
relabelled_elements function.Round es h = refl
relabelled_elements function.Clamp es h = refl
relabelled_elements function.ClampMin es h = refl
relabelled_elements function.ClampMax es h = refl
relabelled_elements function.Timestamp es h = refl
relabelled_elements function.Absent es h = refl
relabelled_elements function.Vector es h = refl
relabelled_elements function.Scalar es h = cc
relabelled_elements function.Time es h = cc

labels_alike : (f : InstantFn) (p : Option (List ℕ)) (texts : List (List ℕ)) (ls : Pairs) → (f ≡ function.LabelReplace → p ≡ at texts 3)
    → labels_by f (expansion_by p) texts ls ≡ labels_by f (expansion_by (at texts 3)) texts ls
labels_alike function.LabelReplace p texts ls h = ap (λ q. labels_by function.LabelReplace (expansion_by q) texts ls) (h refl)
labels_alike function.LabelJoin p texts ls h = refl
labels_alike f p texts ls h = refl

pub relabelled_step : (f : InstantFn) (absent : Pairs) (t : ℤ) (a : Arguments) (k : ℕ) (s : StepsData) (r : Relabelling) (p : Option (List ℕ)) (cs : List ColumnData)
    → is_relabelling f ≡ true → step_at s k ≡ unless_bad (bad_in a.bads.items k) (cell_of (cell_at cs k))
    → cell_at cs k ≡ map (λ e. record { labels = relabels r e.labels; value = e.value }) (cell_at a.columns.items k)
    → ((ls : Pairs) → relabels r ls ≡ labels_by f (expansion_by p) a.texts.items ls) → (f ≡ function.LabelReplace → p ≡ at a.texts.items 3)
    → of_cell (step_at s k) ≡ given f absent t a k
relabelled_step f absent t a k s r p cs h step cell labels pattern =
    let es = cell_at a.columns.items k in
    ap of_cell step
    ∙ of_cell_unless (bad_in a.bads.items k) (cell_of (cell_at cs k))
    ∙ ap (λ xs. outcome_unless (bad_in a.bads.items k) (of_cell (cell_of xs)))
    (cell ∙ (λ i. map (λ e. record { labels = (labels e.labels ∙ labels_alike f p a.texts.items e.labels pattern) i; value = e.value }) es)
    ∙ sym (each_labels_is f h (beside_read absent t a k) es))
    ∙ ap (outcome_unless (bad_in a.bads.items k)) (relabelled_elements f (instant_function f (beside_read absent t a k) es) h)

-- ---- `scalar`, `time` and `absent`

only_of : (o : Option ℤ) → o ≡ only_value (element [] o)
only_of None = refl
only_of (Some v) = refl

pub scalar_step : (b : Option ErrorKind) (o : Option ℤ) → scalar_unless b o ≡ outcome_unless b (scalar (only_value (element [] o)))
scalar_step None o = ap scalar (only_of o)
scalar_step (Some kind) o = refl

absent_element : (labels : Pairs) (es : List Element) → of_cell (Good (element labels (absent_value es))) ≡ of_cell (cell_of (absent_of labels es))
absent_element labels [] = refl
absent_element labels (e ∷ es) = refl

pub absent_step : (labels : Pairs) (b : Option ErrorKind) (es : List Element)
    → of_cell (unless_bad b (Good (element labels (absent_value es)))) ≡ outcome_unless b (of_cell (cell_of (absent_of labels es)))
absent_step labels None es = absent_element labels es
absent_step labels (Some kind) es = refl

-- ---- the function that a call has

pub scalar_given : {E : Type 0} (r : Result Node E) (f : InstantFn) (len : ℕ) (absent : Pairs) (t : ℕ → ℤ) (a : Arguments) → f ≡ function.Scalar
    → IfOk r (λ n. (b : Pairs) (u : ℤ) (k : ℕ) → k < len → node_at n k ≡ given function.Scalar b u a k)
    → IfOk r (λ n. (k : ℕ) → k < len → node_at n k ≡ given f absent (t k) a k)
scalar_given (Ok n) f len absent t a e h = λ k l. h absent (t k) k l ∙ ap (λ g. given g absent (t k) a k) (sym e)
scalar_given (Err x) f len absent t a e h = tt

pub time_given : {E : Type 0} (r : Result Node E) (f : InstantFn) (len : ℕ) (absent : Pairs) (t : ℕ → ℤ) (a : Arguments) → f ≡ function.Time
    → IfOk r (λ n. (b : Pairs) (k : ℕ) → k < len → node_at n k ≡ given function.Time b (t k) a k)
    → IfOk r (λ n. (k : ℕ) → k < len → node_at n k ≡ given f absent (t k) a k)
time_given (Ok n) f len absent t a e h = λ k l. h absent k l ∙ ap (λ g. given g absent (t k) a k) (sym e)
time_given (Err x) f len absent t a e h = tt

pub vector_given : {E : Type 0} (r : Result Node E) (f : InstantFn) (len : ℕ) (absent : Pairs) (t : ℕ → ℤ) (a : Arguments) → f ≡ function.Vector
    → IfOk r (λ n. (b : Pairs) (u : ℤ) (k : ℕ) → node_at n k ≡ given function.Vector b u a k)
    → IfOk r (λ n. (k : ℕ) → k < len → node_at n k ≡ given f absent (t k) a k)
vector_given (Ok n) f len absent t a e h = λ k l. h absent (t k) k ∙ ap (λ g. given g absent (t k) a k) (sym e)
vector_given (Err x) f len absent t a e h = tt

pub absent_given : {E : Type 0} (r : Result Node E) (f : InstantFn) (len : ℕ) (absent : Pairs) (t : ℕ → ℤ) (a : Arguments) → f ≡ function.Absent
    → IfOk r (λ n. (u : ℤ) (k : ℕ) → k < len → node_at n k ≡ given function.Absent absent u a k)
    → IfOk r (λ n. (k : ℕ) → k < len → node_at n k ≡ given f absent (t k) a k)
absent_given (Ok n) f len absent t a e h = λ k l. h (t k) k l ∙ ap (λ g. given g absent (t k) a k) (sym e)
absent_given (Err x) f len absent t a e h = tt
