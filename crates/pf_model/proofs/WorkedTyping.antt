-- Kinds of queries and the faults of their nodes, computed.
use Rattle.std.proofs.Common.{◌≡◌, pos, [], ◌∷◌, refl, codes, None, Ok, Err, true, false}
use Rattle.std.specs.Fmt.{digits}
use Rattle.pf_model.specs.declared.expr.Function.TheVariants as called
use Rattle.pf_model.specs.declared.expr.Kind.TheVariants as kind
use Rattle.pf_model.specs.declared.expr.MatchSign.TheVariants as match
use Rattle.pf_model.specs.declared.expr.Side.TheVariants as side
use Rattle.pf_model.specs.declared.functions.AggOp.TheVariants as aggregation
use Rattle.pf_model.specs.declared.functions.InstantFn.TheVariants as instant
use Rattle.pf_model.specs.declared.functions.RangeFn.TheVariants as ranged
use Rattle.pf_model.specs.declared.functions.Sign.TheVariants as operator
use Rattle.pf_model.specs.ErrorTexts.{fault_text}
use Rattle.pf_model.specs.Trees as tree
use Rattle.pf_model.specs.Typing.{typing, arg_count, wrong, bad_name, bool_needed, bad_matching, subquery_too_fine}

-- `clamp(up, 1)`
too_few_arguments : typing (tree.call (called.Instant instant.Clamp) (tree.more (tree.select ((record { label = codes "__name__"; sign = match.Equal; text = codes "up" }) ∷ []) None (record { at = None; offset = (pos 0) })) (tree.more (tree.number (pos 1000000)) tree.none))) ≡ Err (arg_count 0)
too_few_arguments = refl

-- `round(up, 5)`
round_takes_one_or_two : typing (tree.call (called.Instant instant.Round) (tree.more (tree.select ((record { label = codes "__name__"; sign = match.Equal; text = codes "up" }) ∷ []) None (record { at = None; offset = (pos 0) })) (tree.more (tree.number (pos 5000000)) tree.none))) ≡ Ok kind.Instant
round_takes_one_or_two = refl

-- `label_join(up, "dst", ",")`
no_sources : typing (tree.call (called.Instant instant.LabelJoin) (tree.more (tree.select ((record { label = codes "__name__"; sign = match.Equal; text = codes "up" }) ∷ []) None (record { at = None; offset = (pos 0) })) (tree.more (tree.text (codes "dst")) (tree.more (tree.text (codes ",")) tree.none)))) ≡ Err (arg_count 0)
no_sources = refl

-- `rate(up)`
range_wanted : typing (tree.call (called.Range ranged.Rate) (tree.more (tree.select ((record { label = codes "__name__"; sign = match.Equal; text = codes "up" }) ∷ []) None (record { at = None; offset = (pos 0) })) tree.none)) ≡ Err (wrong 0 kind.Range kind.Instant)
range_wanted = refl

-- `clamp(1, 2, up)`
first_from_the_left : typing (tree.call (called.Instant instant.Clamp) (tree.more (tree.number (pos 1000000)) (tree.more (tree.number (pos 2000000)) (tree.more (tree.select ((record { label = codes "__name__"; sign = match.Equal; text = codes "up" }) ∷ []) None (record { at = None; offset = (pos 0) })) tree.none)))) ≡ Err (wrong 0 kind.Instant kind.Scalar)
first_from_the_left = refl

-- `-"a"`
vector_wanted_by_a_sign : typing (tree.unary true (tree.text (codes "a"))) ≡ Err (wrong 0 kind.Instant kind.Text)
vector_wanted_by_a_sign = refl

-- `up and 1`
vector_wanted_by_and : typing (tree.binary (record { sign = operator.And; with_bool = false }) (record { on = false; labels = []; side = side.One; include = [] }) (tree.select ((record { label = codes "__name__"; sign = match.Equal; text = codes "up" }) ∷ []) None (record { at = None; offset = (pos 0) })) (tree.number (pos 1000000))) ≡ Err (wrong 0 kind.Instant kind.Scalar)
vector_wanted_by_and = refl

-- `label_replace(up, "a-b", "", "src", "")`
bad_target : typing (tree.call (called.Instant instant.LabelReplace) (tree.more (tree.select ((record { label = codes "__name__"; sign = match.Equal; text = codes "up" }) ∷ []) None (record { at = None; offset = (pos 0) })) (tree.more (tree.text (codes "a-b")) (tree.more (tree.text (codes "")) (tree.more (tree.text (codes "src")) (tree.more (tree.text (codes "")) tree.none)))))) ≡ Err (bad_name 0)
bad_target = refl

-- `label_join(up, "dst", ",", "a", "1a")`
bad_source : typing (tree.call (called.Instant instant.LabelJoin) (tree.more (tree.select ((record { label = codes "__name__"; sign = match.Equal; text = codes "up" }) ∷ []) None (record { at = None; offset = (pos 0) })) (tree.more (tree.text (codes "dst")) (tree.more (tree.text (codes ",")) (tree.more (tree.text (codes "a")) (tree.more (tree.text (codes "1a")) tree.none)))))) ≡ Err (bad_name 0)
bad_source = refl

-- `1 == 2`
two_scalars : typing (tree.binary (record { sign = operator.Equal; with_bool = false }) (record { on = false; labels = []; side = side.One; include = [] }) (tree.number (pos 1000000)) (tree.number (pos 2000000))) ≡ Err (bool_needed 0)
two_scalars = refl

-- `1 == bool 2`
two_scalars_with_bool : typing (tree.binary (record { sign = operator.Equal; with_bool = true }) (record { on = false; labels = []; side = side.One; include = [] }) (tree.number (pos 1000000)) (tree.number (pos 2000000))) ≡ Ok kind.Scalar
two_scalars_with_bool = refl

-- `up + on (job) 1`
labels_beside_a_scalar : typing (tree.binary (record { sign = operator.Add; with_bool = false }) (record { on = true; labels = (codes "job" ∷ []); side = side.One; include = [] }) (tree.select ((record { label = codes "__name__"; sign = match.Equal; text = codes "up" }) ∷ []) None (record { at = None; offset = (pos 0) })) (tree.number (pos 1000000))) ≡ Err (bad_matching 0)
labels_beside_a_scalar = refl

-- `up + on () 1`
empty_on_beside_a_scalar : typing (tree.binary (record { sign = operator.Add; with_bool = false }) (record { on = true; labels = ([]); side = side.One; include = [] }) (tree.select ((record { label = codes "__name__"; sign = match.Equal; text = codes "up" }) ∷ []) None (record { at = None; offset = (pos 0) })) (tree.number (pos 1000000))) ≡ Ok kind.Instant
empty_on_beside_a_scalar = refl

-- `up and on (job) group_left up`
grouping_on_and : typing (tree.binary (record { sign = operator.And; with_bool = false }) (record { on = true; labels = (codes "job" ∷ []); side = side.Left; include = [] }) (tree.select ((record { label = codes "__name__"; sign = match.Equal; text = codes "up" }) ∷ []) None (record { at = None; offset = (pos 0) })) (tree.select ((record { label = codes "__name__"; sign = match.Equal; text = codes "up" }) ∷ []) None (record { at = None; offset = (pos 0) }))) ≡ Err (bad_matching 0)
grouping_on_and = refl

-- `up + on (job) group_left (node, job) up`
label_on_both_lists : typing (tree.binary (record { sign = operator.Add; with_bool = false }) (record { on = true; labels = (codes "job" ∷ []); side = side.Left; include = (codes "node" ∷ codes "job" ∷ []) }) (tree.select ((record { label = codes "__name__"; sign = match.Equal; text = codes "up" }) ∷ []) None (record { at = None; offset = (pos 0) })) (tree.select ((record { label = codes "__name__"; sign = match.Equal; text = codes "up" }) ∷ []) None (record { at = None; offset = (pos 0) }))) ≡ Err (bad_matching 0)
label_on_both_lists = refl

-- `up + ignoring (job) group_left (job) up`
same_label_ignored : typing (tree.binary (record { sign = operator.Add; with_bool = false }) (record { on = false; labels = (codes "job" ∷ []); side = side.Left; include = (codes "job" ∷ []) }) (tree.select ((record { label = codes "__name__"; sign = match.Equal; text = codes "up" }) ∷ []) None (record { at = None; offset = (pos 0) })) (tree.select ((record { label = codes "__name__"; sign = match.Equal; text = codes "up" }) ∷ []) None (record { at = None; offset = (pos 0) }))) ≡ Ok kind.Instant
same_label_ignored = refl

-- `max_over_time(up[11001m:])`
too_fine : typing (tree.call (called.Range ranged.MaxOverTime) (tree.more (tree.subquery (tree.select ((record { label = codes "__name__"; sign = match.Equal; text = codes "up" }) ∷ []) None (record { at = None; offset = (pos 0) })) 660060000 None (record { at = None; offset = (pos 0) })) tree.none)) ≡ Err (subquery_too_fine 1)
too_fine = refl

-- `max_over_time(up[11000m:])`
not_too_fine : typing (tree.call (called.Range ranged.MaxOverTime) (tree.more (tree.subquery (tree.select ((record { label = codes "__name__"; sign = match.Equal; text = codes "up" }) ∷ []) None (record { at = None; offset = (pos 0) })) 660000000 None (record { at = None; offset = (pos 0) })) tree.none)) ≡ Ok kind.Instant
not_too_fine = refl

-- `sum(-"a") + (1 == 2)`
first_in_post_order : typing (tree.binary (record { sign = operator.Add; with_bool = false }) (record { on = false; labels = []; side = side.One; include = [] }) (tree.aggregate aggregation.Sum (record { without = false; labels = [] }) (tree.more (tree.unary true (tree.text (codes "a"))) tree.none)) (tree.binary (record { sign = operator.Equal; with_bool = false }) (record { on = false; labels = []; side = side.One; include = [] }) (tree.number (pos 1000000)) (tree.number (pos 2000000)))) ≡ Err (wrong 2 kind.Instant kind.Text)
first_in_post_order = refl

-- `rate(1 == 2)`
children_first : typing (tree.call (called.Range ranged.Rate) (tree.more (tree.binary (record { sign = operator.Equal; with_bool = false }) (record { on = false; labels = []; side = side.One; include = [] }) (tree.number (pos 1000000)) (tree.number (pos 2000000))) tree.none)) ≡ Err (bool_needed 1)
children_first = refl

text_of_kinds : fault_text (wrong 13 kind.Scalar kind.Instant) ≡ codes "node 13: wanted scalar, found instant vector"
unfolding digits
text_of_kinds = refl

text_of_other_kinds : fault_text (wrong 0 kind.Range kind.Text) ≡ codes "node 0: wanted range vector, found string"
unfolding digits
text_of_other_kinds = refl

text_of_a_fault : fault_text (subquery_too_fine 2) ≡ codes "node 2: subquery too fine"
unfolding digits
text_of_a_fault = refl
