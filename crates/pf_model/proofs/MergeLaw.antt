-- The merged parts of all shards of a shardable aggregation are its unsharded cell, errors included.
use Rattle.std.proofs.Common.{◌≡◌, ℕ, zero, suc, ◌<◌, ℤ, pos, ◌-ℤ◌, Bool, true, false, cond, ◌&&◌, ◌||◌, not, List, [], ◌∷◌, ◌++◌, map, Option, None, Some, refl, sym, ap, ◌∙◌, arith, nat_eq}
use Rattle.std.specs.Prelude.{neg_ℤ, unsigned_abs, is_none}
use Rattle.std.specs.Int.{int_min, int_max}
use Rattle.std.specs.List.{filter}
use Rattle.pf_base.specs.declared.plain.Row.{Row}
use Rattle.pf_base.specs.LabelSets.{Pairs}
use Rattle.pf_base.specs.ShardHash.{shard_of}
use Rattle.pf_model.specs.declared.cell.Element.{Element}
use Rattle.pf_model.specs.declared.cell.ErrorKind.{ErrorKind}
use Rattle.pf_model.specs.declared.cell.StepCell.TheVariants.{Bad}
use Rattle.pf_model.specs.declared.cell.ErrorKind.TheVariants.{DoubleLabels}
use Rattle.pf_model.specs.declared.expr.BinaryOp.{BinaryOp}
use Rattle.pf_model.specs.declared.expr.Function.TheVariants as function
use Rattle.pf_model.specs.declared.expr.Matcher.{Matcher}
use Rattle.pf_model.specs.declared.expr.Mods.{Mods}
use Rattle.pf_model.specs.declared.functions.AggOp.{AggOp}
use Rattle.pf_model.specs.declared.functions.InstantFn.{InstantFn}
use Rattle.pf_model.specs.declared.functions.InstantFn.TheVariants as instant
use Rattle.pf_model.specs.declared.functions.RangeFn.{RangeFn}
use Rattle.pf_model.specs.declared.functions.RangeFn.TheVariants as range_fn
use Rattle.pf_model.specs.Cells.{element, without_name, cell_of}
use Rattle.pf_model.specs.Clauses.{Grouped, Matched}
use Rattle.pf_model.specs.Evaluation.{eval, outcome, outcomes, beside, instant_outcome, selected, windows, read_time, timed}
use Rattle.pf_model.specs.InstantFunctions.{absent_labels, each_value, instant_function, floor, ceil, sign_of, round_by, clamp_by, with_scalar}
use Rattle.pf_model.specs.Legs.{of_shard, PartData, GroupPart, whole, grouped, bad, grouped_part, partials}
use Rattle.pf_model.specs.Merging.{below, all_groups, merged_groups, finished, first_error, cell_unless, merged_cell}
use Rattle.pf_model.specs.Lists.{joined}
use Rattle.pf_model.specs.Matching.{operated, result_labels, is_arithmetic}
use Rattle.pf_model.specs.Micros.{seconds}
use Rattle.pf_model.specs.Outcomes as node
use Rattle.pf_model.specs.Outcomes.{Outcome, Series, scalar, elements, ranges, text, of_cell, first_bad, scalars_of, signed, negated, operation, aggregation, step_cell, instant_call, of_series, of_elements, ranged_labels}
use Rattle.pf_model.specs.RangeFunctions.{range_function, keeps_name}
use Rattle.pf_model.specs.Sharding.{is_literal, are_literals, is_range_selector, is_elementwise, is_over_series, is_plain, is_mergeable}
use Rattle.pf_model.specs.Trees as tree
use Rattle.pf_model.specs.Trees.{Tree, Trees}
use Rattle.pf_model.specs.Words.{is_set_operator}
use Rattle.pf_model.proofs.Folds.{in_shard}
use Rattle.pf_model.proofs.LegParts.{shard_parts}
use Rattle.pf_model.proofs.ShardedSelectors.{selected_of_shard, windows_of_shard}
use Rattle.pf_model.proofs.MergedParts.{merged_values}
use Rattle.pf_model.proofs.ShardSteps.{IsPart, IsSharded, StaysInShard, cell_sharded, joined_kept, moved, one_kept, shard_without_name, through}

pub and_left : (a b : Bool) → (a && b) ≡ true → a ≡ true
and_left true b h = refl
and_left false b h = h

pub and_right : (a b : Bool) → (a && b) ≡ true → b ≡ true
and_right true b h = h
and_right false b h = let no : false ≡ true = h in cc

module _ (n : ℕ) (positive : 0 < n) where
  -- ---- steps that stay in the shard

  value_stays : (labels : Pairs → Pairs) (f : Element → Option ℤ) → ((l : Pairs) → shard_of (labels l) n ≡ shard_of l n)
      → StaysInShard n positive (λ e. element (labels e.labels) (f e))
  value_stays labels f same i e = one_kept (in_shard n i) (labels e.labels) (f e) (in_shard n i e) (λ w. ap (λ s. nat_eq s i) (same e.labels))

  nameless : (l : Pairs) → shard_of (without_name l) n ≡ shard_of l n
  nameless l = shard_without_name l n

  maybe_nameless : (b : Bool) (l : Pairs) → shard_of (cond b (without_name l) l) n ≡ shard_of l n
  maybe_nameless true l = nameless l
  maybe_nameless false l = refl

  module _ (rows : List Row) where
    abbrev over_all : Tree → ℤ → Outcome
    over_all = outcome rows

    abbrev over_shard : Tree → ℤ → ℕ → Outcome
    over_shard q t i = outcome (of_shard i n rows) q t

    abbrev Keeps : Tree → ℤ → Type 0
    Keeps q t = IsSharded n positive (over_all q t) (over_shard q t)

    -- ---- signs

    negated_keeps : (q : Tree) (t : ℤ) → Keeps q t → IsSharded n positive (negated (over_all q t)) (λ i. negated (over_shard q t i))
    negated_keeps q t h =
        through n positive negated (λ e. element (without_name e.labels) (Some (neg_ℤ e.value)))
        (value_stays without_name (λ e. Some (neg_ℤ e.value)) nameless) (λ es. refl) (λ k. refl) (over_all q t) (over_shard q t) h

    signed_keeps : (minus : Bool) (q : Tree) (t : ℤ) → Keeps q t → Keeps (tree.unary minus q) t
    signed_keeps true q t h = negated_keeps q t h
    signed_keeps false q t h = h

    -- ---- numbers

    abbrev literal_value : Tree → ℤ
    literal_value (tree.number v) = v
    literal_value (tree.unary minus (tree.number v)) = cond minus (neg_ℤ v) v
    literal_value _ = pos 0

    signed_number : (minus : Bool) (v : ℤ) → signed minus (scalar (Some v)) ≡ scalar (Some (cond minus (neg_ℤ v) v))
    signed_number true v = refl
    signed_number false v = refl

    literal_is : (samples : List Row) (q : Tree) (t : ℤ) → is_literal q ≡ true → outcome samples q t ≡ scalar (Some (literal_value q))
    literal_is samples (tree.number v) t h = refl
    literal_is samples (tree.unary minus (tree.number v)) t h = signed_number minus v
    literal_is samples (tree.text bytes) t h = cc
    literal_is samples (tree.unary minus (tree.text bytes)) t h = cc
    literal_is samples (tree.unary minus (tree.unary m q)) t h = cc
    literal_is samples (tree.unary minus (tree.binary op m l r)) t h = cc
    literal_is samples (tree.unary minus (tree.call f args)) t h = cc
    literal_is samples (tree.unary minus (tree.aggregate op g args)) t h = cc
    literal_is samples (tree.unary minus (tree.select ms range mods)) t h = cc
    literal_is samples (tree.unary minus (tree.subquery q range resolution mods)) t h = cc
    literal_is samples (tree.binary op m l r) t h = cc
    literal_is samples (tree.call f args) t h = cc
    literal_is samples (tree.aggregate op g args) t h = cc
    literal_is samples (tree.select ms range mods) t h = cc
    literal_is samples (tree.subquery q range resolution mods) t h = cc

    -- ---- operators beside a number

    right_keeps : (op : BinaryOp) (m : Matched) (q r : Tree) (t : ℤ) → is_literal r ≡ true → Keeps q t → Keeps (tree.binary op m q r) t
    right_keeps op m q r t lit h =
        let b : ℤ = literal_value r in
        let F : Outcome → Outcome = λ o. operation op m o (scalar (Some b)) in
        moved n positive (over_all (tree.binary op m q r) t) (F (over_all q t)) (over_shard (tree.binary op m q r) t) (λ i. F (over_shard q t i))
        (ap (operation op m (over_all q t)) (literal_is rows r t lit))
        (λ i. ap (operation op m (over_shard q t i)) (literal_is (of_shard i n rows) r t lit))
        (through n positive F (λ e. element (result_labels op e.labels) (operated op e.value e.value b))
        (value_stays (result_labels op) (λ e. operated op e.value e.value b) (maybe_nameless (is_arithmetic op.sign || op.with_bool)))
        (λ es. refl) (λ k. refl) (over_all q t) (over_shard q t) h)

    left_keeps : (op : BinaryOp) (m : Matched) (q r : Tree) (t : ℤ) → is_literal q ≡ true → Keeps r t → Keeps (tree.binary op m q r) t
    left_keeps op m q r t lit h =
        let a : ℤ = literal_value q in
        let F : Outcome → Outcome = λ o. operation op m (scalar (Some a)) o in
        moved n positive (over_all (tree.binary op m q r) t) (F (over_all r t)) (over_shard (tree.binary op m q r) t) (λ i. F (over_shard r t i))
        (ap (λ x. operation op m x (over_all r t)) (literal_is rows q t lit))
        (λ i. ap (λ x. operation op m x (over_shard r t i)) (literal_is (of_shard i n rows) q t lit))
        (through n positive F (λ e. element (result_labels op e.labels) (operated op e.value a e.value))
        (value_stays (result_labels op) (λ e. operated op e.value a e.value) (maybe_nameless (is_arithmetic op.sign || op.with_bool)))
        (λ es. refl) (λ k. refl) (over_all r t) (over_shard r t) h)

    binary_keeps : (op : BinaryOp) (m : Matched) (l r : Tree) (t : ℤ) (a b c d : Bool) → is_plain l ≡ a → is_literal r ≡ b → is_literal l ≡ c → is_plain r ≡ d
        → ((a && b) || (c && d)) ≡ true → (is_plain l ≡ true → Keeps l t) → (is_plain r ≡ true → Keeps r t) → Keeps (tree.binary op m l r) t
    binary_keeps op m l r t true true c d pl lr ll pr h hl hr = right_keeps op m l r t lr (hl pl)
    binary_keeps op m l r t true false true true pl lr ll pr h hl hr = left_keeps op m l r t ll (hr pr)
    binary_keeps op m l r t true false true false pl lr ll pr h hl hr = cc
    binary_keeps op m l r t true false false d pl lr ll pr h hl hr = cc
    binary_keeps op m l r t false b true true pl lr ll pr h hl hr = left_keeps op m l r t ll (hr pr)
    binary_keeps op m l r t false b true false pl lr ll pr h hl hr = cc
    binary_keeps op m l r t false b false d pl lr ll pr h hl hr = cc

    -- ---- selectors

    select_keeps : (ms : List Matcher) (range : Option ℕ) (mods : Mods) (t : ℤ) → is_none range ≡ true → Keeps (tree.select ms range mods) t
    select_keeps ms None mods t h = λ i. ap elements (selected_of_shard n i rows ms (read_time mods t))
    select_keeps ms (Some range) mods t h = let no : false ≡ true = h in cc

    -- ---- functions of range selectors

    of_series_is : (f : RangeFn) (absent : Pairs) (from to : ℤ) (ss : List Series) → is_over_series f ≡ true
        → of_series f absent from to ss ≡ joined (λ s. element (ranged_labels f s.labels) (range_function f s.samples from to)) ss
    of_series_is range_fn.Increase absent from to ss h = refl
    of_series_is range_fn.Rate absent from to ss h = refl
    of_series_is range_fn.Delta absent from to ss h = refl
    of_series_is range_fn.Irate absent from to ss h = refl
    of_series_is range_fn.Idelta absent from to ss h = refl
    of_series_is range_fn.Changes absent from to ss h = refl
    of_series_is range_fn.Resets absent from to ss h = refl
    of_series_is range_fn.AvgOverTime absent from to ss h = refl
    of_series_is range_fn.SumOverTime absent from to ss h = refl
    of_series_is range_fn.MinOverTime absent from to ss h = refl
    of_series_is range_fn.MaxOverTime absent from to ss h = refl
    of_series_is range_fn.CountOverTime absent from to ss h = refl
    of_series_is range_fn.LastOverTime absent from to ss h = refl
    of_series_is range_fn.PresentOverTime absent from to ss h = refl
    of_series_is range_fn.AbsentOverTime absent from to ss h = cc

    maybe_named : (b : Bool) (l : Pairs) → shard_of (cond b l (without_name l)) n ≡ shard_of l n
    maybe_named true l = refl
    maybe_named false l = nameless l

    window_keeps : (f : RangeFn) (ms : List Matcher) (range : ℕ) (mods : Mods) (t : ℤ) → is_over_series f ≡ true
        → Keeps (tree.call (function.Range f) (tree.more (tree.select ms (Some range) mods) tree.none)) t
    window_keeps f ms range mods t h =
        let to : ℤ = read_time mods t in
        let from : ℤ = to -ℤ pos range in
        let step : Series → List Element = λ s. element (ranged_labels f s.labels) (range_function f s.samples from to) in
        let found : List Series = windows rows ms from to in
        moved n positive (over_all (tree.call (function.Range f) (tree.more (tree.select ms (Some range) mods) tree.none)) t)
        (of_cell (cell_of (joined step found)))
        (over_shard (tree.call (function.Range f) (tree.more (tree.select ms (Some range) mods) tree.none)) t)
        (λ i. of_cell (cell_of (filter (in_shard n i) (joined step found))))
        (ap (λ zs. of_cell (cell_of zs)) (of_series_is f (absent_labels ms) from to found h))
        (λ i. ap (λ zs. of_cell (cell_of zs)) (of_series_is f (absent_labels ms) from to (windows (of_shard i n rows) ms from to) h
        ∙ ap (joined step) (windows_of_shard n i rows ms from to)
        ∙ sym (joined_kept step (λ s. nat_eq (shard_of s.labels n) i) (in_shard n i)
        (λ s. one_kept (in_shard n i) (ranged_labels f s.labels) (range_function f s.samples from to) (nat_eq (shard_of s.labels n) i)
        (λ w. ap (λ k. nat_eq k i) (maybe_named (keeps_name f) s.labels))) found)))
        (cell_sharded n positive (joined step found))

    range_keeps : (f : RangeFn) (arg : Tree) (rest : Trees) (t : ℤ) → is_over_series f ≡ true → is_range_selector (tree.more arg rest) ≡ true
        → Keeps (tree.call (function.Range f) (tree.more arg rest)) t
    range_keeps f (tree.select ms (Some range) mods) tree.none t o h = window_keeps f ms range mods t o
    range_keeps f (tree.select ms (Some range) mods) (tree.more x xs) t o h = cc
    range_keeps f (tree.select ms None mods) rest t o h = cc
    range_keeps f (tree.number v) rest t o h = cc
    range_keeps f (tree.text bytes) rest t o h = cc
    range_keeps f (tree.unary minus q) rest t o h = cc
    range_keeps f (tree.binary op m l r) rest t o h = cc
    range_keeps f (tree.call g args) rest t o h = cc
    range_keeps f (tree.aggregate op g args) rest t o h = cc
    range_keeps f (tree.subquery q range resolution mods) rest t o h = cc

    -- ---- functions of each element

    abbrev literal_outcomes : Trees → List Outcome
    literal_outcomes tree.none = []
    literal_outcomes (tree.more q qs) = scalar (Some (literal_value q)) ∷ literal_outcomes qs

    literals_are : (samples : List Row) (qs : Trees) (t : ℤ) → are_literals qs ≡ true → outcomes samples qs t ≡ literal_outcomes qs
    literals_are samples tree.none t h = refl
    literals_are samples (tree.more q qs) t h =
        ap (λ o. o ∷ outcomes samples qs t) (literal_is samples q t (and_left (is_literal q) (are_literals qs) h))
        ∙ ap (λ os. scalar (Some (literal_value q)) ∷ os) (literals_are samples qs t (and_right (is_literal q) (are_literals qs) h))

    no_bad : (qs : Trees) (o : Outcome) → first_bad (literal_outcomes qs) o ≡ o
    no_bad tree.none o = refl
    no_bad (tree.more q qs) o = no_bad qs o

    module _ (f : InstantFn) (arg : Tree) (rest : Trees) (t : ℤ) (lits : are_literals rest ≡ true) (V : ℤ → Option ℤ) where
      abbrev args : Trees
      args = tree.more arg rest

      abbrev of_first : Outcome → Outcome
      of_first o = instant_call f (beside rows args (o ∷ literal_outcomes rest) t) (o ∷ literal_outcomes rest)

      value_keeps : ((samples : List Row) (os : List Outcome) → instant_outcome samples f args os t ≡ instant_call f (beside rows args os t) os)
          → ((es : List Element) → of_elements f (instant_function f (beside rows args (elements es ∷ literal_outcomes rest) t) es) ≡ of_cell (cell_of (each_value V es)))
          → Keeps arg t → Keeps (tree.call (function.Instant f) args) t
      value_keeps runs gives h =
          moved n positive (over_all (tree.call (function.Instant f) args) t) (of_first (over_all arg t))
          (over_shard (tree.call (function.Instant f) args) t) (λ i. of_first (over_shard arg t i))
          (runs rows (outcomes rows args t)
          ∙ ap (λ os. instant_call f (beside rows args (over_all arg t ∷ os) t) (over_all arg t ∷ os)) (literals_are rows rest t lits))
          (λ i. runs (of_shard i n rows) (outcomes (of_shard i n rows) args t)
          ∙ ap (λ os. instant_call f (beside rows args (over_shard arg t i ∷ os) t) (over_shard arg t i ∷ os)) (literals_are (of_shard i n rows) rest t lits))
          (through n positive of_first (λ e. element (without_name e.labels) (V e.value)) (value_stays without_name (λ e. V e.value) nameless)
          (λ es. no_bad rest (of_elements f (instant_function f (beside rows args (elements es ∷ literal_outcomes rest) t) es)) ∙ gives es)
          (λ k. refl) (over_all arg t) (over_shard arg t) h)

    timed_step : (i : ℕ) (r : Row) (rest : List Row) (b : Bool) → map timed (cond b (r ∷ rest) rest) ≡ cond b (timed r ∷ map timed rest) (map timed rest)
    timed_step i r rest true = refl
    timed_step i r rest false = refl

    timed_shard : (i : ℕ) (rs : List Row) → map timed (of_shard i n rs) ≡ of_shard i n (map timed rs)
    timed_shard i [] = refl
    timed_shard i (r ∷ rs) =
        timed_step i r (of_shard i n rs) (nat_eq (shard_of r.labels n) i)
        ∙ ap (λ zs. cond (nat_eq (shard_of r.labels n) i) (timed r ∷ zs) zs) (timed_shard i rs)

    times_keep : (ms : List Matcher) (mods : Mods) (rest : Trees) (t : ℤ)
        → Keeps (tree.call (function.Instant instant.Timestamp) (tree.more (tree.select ms None mods) rest)) t
    times_keep ms mods rest t =
        let found : List Element = selected (map timed rows) ms (read_time mods t) in
        moved n positive (over_all (tree.call (function.Instant instant.Timestamp) (tree.more (tree.select ms None mods) rest)) t)
        (of_cell (cell_of (each_value Some found)))
        (over_shard (tree.call (function.Instant instant.Timestamp) (tree.more (tree.select ms None mods) rest)) t)
        (λ i. of_cell (cell_of (filter (in_shard n i) (each_value Some found)))) refl
        (λ i. ap (λ rs. of_cell (cell_of (each_value Some (selected rs ms (read_time mods t))))) (timed_shard i rows)
        ∙ ap (λ es. of_cell (cell_of (each_value Some es))) (selected_of_shard n i (map timed rows) ms (read_time mods t))
        ∙ ap (λ zs. of_cell (cell_of zs)) (sym (joined_kept (λ e. element (without_name e.labels) (Some e.value)) (in_shard n i) (in_shard n i)
        (value_stays without_name (λ e. Some e.value) nameless i) found)))
        (cell_sharded n positive (each_value Some found))

    timestamp_keeps : (arg : Tree) (rest : Trees) (t : ℤ) → is_plain arg ≡ true → are_literals rest ≡ true → Keeps arg t
        → Keeps (tree.call (function.Instant instant.Timestamp) (tree.more arg rest)) t
    timestamp_keeps (tree.select ms None mods) rest t p lits h = times_keep ms mods rest t
    timestamp_keeps (tree.select ms (Some range) mods) rest t p lits h = cc
    timestamp_keeps (tree.unary minus q) rest t p lits h =
        value_keeps instant.Timestamp (tree.unary minus q) rest t lits (λ v. Some (seconds t)) (λ samples os. refl) (λ es. refl) h
    timestamp_keeps (tree.binary op m l r) rest t p lits h =
        value_keeps instant.Timestamp (tree.binary op m l r) rest t lits (λ v. Some (seconds t)) (λ samples os. refl) (λ es. refl) h
    timestamp_keeps (tree.call f qs) rest t p lits h =
        value_keeps instant.Timestamp (tree.call f qs) rest t lits (λ v. Some (seconds t)) (λ samples os. refl) (λ es. refl) h
    timestamp_keeps (tree.number v) rest t p lits h = cc
    timestamp_keeps (tree.text bytes) rest t p lits h = cc
    timestamp_keeps (tree.aggregate op g qs) rest t p lits h = cc
    timestamp_keeps (tree.subquery q range resolution mods) rest t p lits h = cc

    instant_keeps : (f : InstantFn) (arg : Tree) (rest : Trees) (t : ℤ) → is_elementwise f ≡ true → is_plain arg ≡ true → are_literals rest ≡ true → Keeps arg t
        → Keeps (tree.call (function.Instant f) (tree.more arg rest)) t
    instant_keeps instant.Abs arg rest t e p lits h = value_keeps instant.Abs arg rest t lits (λ v. Some (pos (unsigned_abs v))) (λ samples os. refl) (λ es. refl) h
    instant_keeps instant.Ceil arg rest t e p lits h = value_keeps instant.Ceil arg rest t lits (λ v. Some (ceil v)) (λ samples os. refl) (λ es. refl) h
    instant_keeps instant.Floor arg rest t e p lits h = value_keeps instant.Floor arg rest t lits (λ v. Some (floor v)) (λ samples os. refl) (λ es. refl) h
    instant_keeps instant.Sgn arg rest t e p lits h = value_keeps instant.Sgn arg rest t lits (λ v. Some (sign_of v)) (λ samples os. refl) (λ es. refl) h
    instant_keeps instant.Round arg rest t e p lits h =
        value_keeps instant.Round arg rest t lits (round_by (scalars_of (literal_outcomes rest))) (λ samples os. refl) (λ es. refl) h
    instant_keeps instant.Clamp arg rest t e p lits h =
        value_keeps instant.Clamp arg rest t lits (clamp_by (scalars_of (literal_outcomes rest))) (λ samples os. refl) (λ es. refl) h
    instant_keeps instant.ClampMin arg rest t e p lits h =
        value_keeps instant.ClampMin arg rest t lits (with_scalar int_max (scalars_of (literal_outcomes rest))) (λ samples os. refl) (λ es. refl) h
    instant_keeps instant.ClampMax arg rest t e p lits h =
        value_keeps instant.ClampMax arg rest t lits (with_scalar int_min (scalars_of (literal_outcomes rest))) (λ samples os. refl) (λ es. refl) h
    instant_keeps instant.Timestamp arg rest t e p lits h = timestamp_keeps arg rest t p lits h
    instant_keeps instant.Absent arg rest t e p lits h = cc
    instant_keeps instant.Scalar arg rest t e p lits h = cc
    instant_keeps instant.Vector arg rest t e p lits h = cc
    instant_keeps instant.Time arg rest t e p lits h = cc
    instant_keeps instant.LabelReplace arg rest t e p lits h = cc
    instant_keeps instant.LabelJoin arg rest t e p lits h = cc

    -- ---- plain expressions

    pub plain_keeps : (q : Tree) (t : ℤ) → is_plain q ≡ true → Keeps q t
    plain_keeps (tree.number v) t h = cc
    plain_keeps (tree.text bytes) t h = cc
    plain_keeps (tree.unary minus q) t h = signed_keeps minus q t (plain_keeps q t h)
    plain_keeps (tree.binary op m l r) t h =
        binary_keeps op m l r t (is_plain l) (is_literal r) (is_literal l) (is_plain r) refl refl refl refl
        (and_right (not (is_set_operator op.sign)) ((is_plain l && is_literal r) || (is_literal l && is_plain r)) h) (plain_keeps l t) (plain_keeps r t)
    plain_keeps (tree.call (function.Range f) tree.none) t h =
        let no : false ≡ true = and_right (is_over_series f) false h in cc
    plain_keeps (tree.call (function.Instant f) tree.none) t h = cc
    plain_keeps (tree.call (function.Range f) (tree.more arg rest)) t h =
        range_keeps f arg rest t (and_left (is_over_series f) (is_range_selector (tree.more arg rest)) h) (and_right (is_over_series f) (is_range_selector (tree.more arg rest)) h)
    plain_keeps (tree.call (function.Instant f) (tree.more arg rest)) t h =
        let front : (is_elementwise f && is_plain arg) ≡ true = and_left (is_elementwise f && is_plain arg) (are_literals rest) h in
        let plain : is_plain arg ≡ true = and_right (is_elementwise f) (is_plain arg) front in
        instant_keeps f arg rest t (and_left (is_elementwise f) (is_plain arg) front) plain
        (and_right (is_elementwise f && is_plain arg) (are_literals rest) h) (plain_keeps arg t plain)
    plain_keeps (tree.aggregate op g args) t h = cc
    plain_keeps (tree.select ms range mods) t h = select_keeps ms range mods t h
    plain_keeps (tree.subquery q range resolution mods) t h = cc

-- ---- errors of parts

abbrev pub IsDouble : Option ErrorKind → Type 0
IsDouble None = Unit {0}
IsDouble (Some kind) = kind ≡ DoubleLabels

-- a part without an error, or with that of double labels
abbrev pub IsErrorPart : PartData → Type 0
IsErrorPart p = IsDouble (first_error (p ∷ []))

append_double : (ps : List PartData) (p : PartData) → IsDouble (first_error ps) → IsErrorPart p → IsDouble (first_error (ps ++ (p ∷ [])))
append_double [] p h k = k
append_double (whole es ∷ ps) p h k = append_double ps p h k
append_double (grouped gs ∷ ps) p h k = append_double ps p h k
append_double (bad kind ∷ ps) p h k = h

append_known : (ps : List PartData) (p : PartData) (kind : ErrorKind) → first_error ps ≡ Some kind → first_error (ps ++ (p ∷ [])) ≡ Some kind
append_known [] p kind h = cc
append_known (whole es ∷ ps) p kind h = append_known ps p kind h
append_known (grouped gs ∷ ps) p kind h = append_known ps p kind h
append_known (bad k ∷ ps) p kind h = h

append_last : (ps : List PartData) → IsDouble (first_error ps) → first_error (ps ++ (bad DoubleLabels ∷ [])) ≡ Some DoubleLabels
append_last [] h = refl
append_last (whole es ∷ ps) h = append_last ps h
append_last (grouped gs ∷ ps) h = append_last ps h
append_last (bad kind ∷ ps) h = ap Some h

module _ (f : ℕ → PartData) (errors : (i : ℕ) → IsErrorPart (f i)) where
  all_double : (n : ℕ) → IsDouble (first_error (below f n))
  all_double zero = tt
  all_double (suc n) = append_double (below f n) (f n) (all_double n) (errors n)

  one_error_by : (n k : ℕ) → k < suc n → f k ≡ bad DoubleLabels → (k < n → first_error (below f n) ≡ Some DoubleLabels) → (b : Bool) → nat_eq k n ≡ b
      → first_error (below f (suc n)) ≡ Some DoubleLabels
  one_error_by n k h e go true is =
      let same : k ≡ n = grind arith in
      ap (λ p. first_error (below f n ++ (p ∷ []))) (ap f (sym same) ∙ e) ∙ append_last (below f n) (all_double n)
  one_error_by n k h e go false is = append_known (below f n) (f n) DoubleLabels (go (grind arith))

  one_error : (n k : ℕ) → k < n → f k ≡ bad DoubleLabels → first_error (below f n) ≡ Some DoubleLabels
  one_error zero k h e = absurd (omega arith)
  one_error (suc n) k h e = one_error_by n k h e (λ l. one_error n k l e) (nat_eq k n) refl

below_alike : {X : Type 0} (f g : ℕ → X) → ((i : ℕ) → f i ≡ g i) → (n : ℕ) → below f n ≡ below g n
below_alike f g h zero = refl
below_alike f g h (suc n) = ap (λ zs. zs ++ (f n ∷ [])) (below_alike f g h n) ∙ ap (λ x. below g n ++ (x ∷ [])) (h n)

-- ---- the law

module _ (g : Grouped) (n : ℕ) (positive : 0 < n) where
  part_error : (o : Outcome) → IsPart n positive o → IsErrorPart (grouped_part g (step_cell o))
  part_error (elements es) h = tt
  part_error (node.bad kind) h = h
  part_error (scalar v) h = absurd h
  part_error (ranges from to ss) h = absurd h
  part_error (text bytes) h = absurd h

  law_by : (op : AggOp) → is_mergeable op ≡ true → (o : Outcome) (part : ℕ → Outcome) → IsSharded n positive o part
      → merged_cell op (below (λ i. grouped_part g (step_cell (part i))) n) ≡ step_cell (aggregation op g (o ∷ []))
  law_by op m (elements es) part h =
      ap (merged_cell op) (below_alike (λ i. grouped_part g (step_cell (part i))) (λ i. grouped (partials g (filter (in_shard n i) es)))
      (λ i. ap (λ o. grouped_part g (step_cell o)) (h i)) n)
      ∙ merged_values g n positive es op m
  law_by op m (node.bad kind) part h =
      let parts : ℕ → PartData = λ i. grouped_part g (step_cell (part i)) in
      ap (λ o. cell_unless o (map (λ (q : GroupPart). record { labels = q.key; value = finished op q.partial }) (merged_groups (all_groups (below parts n)))))
      (one_error parts (λ i. part_error (part i) (h.1.0 i)) n h.1.1.0 h.1.1.1.0 (ap (λ o. grouped_part g (step_cell o)) h.1.1.1.1))
      ∙ ap Bad (sym h.0)
  law_by op m (scalar v) part h = absurd h
  law_by op m (ranges from to ss) part h = absurd h
  law_by op m (text bytes) part h = absurd h

-- the parts of a shardable aggregation, merged, are its value over all samples, errors included
abbrev pub MergesToWhole : Type 0
MergesToWhole =
    (op : AggOp) (g : Grouped) (arg : Tree) (samples : List Row) (t : ℤ) (n : ℕ) → is_mergeable op ≡ true → 0 < n → is_plain arg ≡ true
    → merged_cell op (shard_parts op g arg samples n t) ≡ eval samples (tree.aggregate op g (tree.more arg tree.none)) t

pub merges : MergesToWhole
merges op g arg samples t n m positive h =
    law_by g n positive op m (outcome samples arg t) (λ i. outcome (of_shard i n samples) arg t)
    (plain_keeps n positive samples arg t h)
