-- Elements with the keys that they are matched by, in the order of the keys. Prometheus, Operators: Vector matching.
use Rattle.std.specs.Prelude.{Bool, not, ◌&&◌, cond, List, map, filter}
use Rattle.std.specs.List.{list_any}
use Rattle.std.specs.declared.cmp.Ordering.{Ordering}
use Rattle.pf_base.specs.LabelSets.{Pairs}
use Rattle.pf_base.specs.LabelOrder.{labels_cmp}
use Rattle.pf_model.specs.declared.cell.Element.{Element}
use Rattle.pf_model.specs.declared.cell.StepCell.{StepCell}
use Rattle.pf_model.specs.declared.cell.StepCell.TheVariants.{Bad}
use Rattle.pf_model.specs.declared.cell.ErrorKind.TheVariants.{DoubleOnOneSide, ManyToMany}
use Rattle.pf_model.specs.declared.expr.BinaryOp.{BinaryOp}
use Rattle.pf_model.specs.declared.expr.Side.{Side}
use Rattle.pf_model.specs.declared.expr.Side.TheVariants as side
use Rattle.pf_model.specs.Cells.{has_equal}
use Rattle.pf_model.specs.Clauses.{Matched}
use Rattle.pf_model.specs.Lists.{joined}
use Rattle.pf_model.specs.Matching.{is_grouping, matching_key}
use Rattle.pf_model.specs.Selection.{same_labels}
use Rattle.pf_join.specs.declared.keys.Keyed.{Keyed}
use Rattle.pf_join.specs.declared.matching.Joined.{Joined}
use Rattle.pf_join.specs.Results.{cell_of_results, result_of}

abbrev pub keyed_of : Matched → Element → Keyed
keyed_of m e = record { key = matching_key m e.labels; element = e }

abbrev pub keyed : Matched → List Element → List Keyed
keyed m es = map (keyed_of m) es

abbrev pub key_of : Keyed → Pairs
key_of x = x.key

abbrev pub keyed_cmp : Keyed → Keyed → Ordering
keyed_cmp x y = labels_cmp x.key y.key

-- those whose key is this one, in their order
abbrev pub with_key : Pairs → List Keyed → List Keyed
with_key k xs = filter (λ x. same_labels k x.key) xs

abbrev pub has_key : Pairs → List Keyed → Bool
has_key k xs = list_any (λ x. same_labels k x.key) xs

-- the elements whose key is one of some
abbrev pub those_with : Matched → List Keyed → List Element → List Element
those_with m others es = filter (λ e. has_key (matching_key m e.labels) others) es

abbrev pub those_without : Matched → List Keyed → List Element → List Element
those_without m others es = filter (λ e. not (has_key (matching_key m e.labels) others)) es

-- two of the one side have equal keys
abbrev pub has_double : Side → List Keyed → List Keyed → Bool
has_double side.One lefts rights = has_equal (map key_of rights)
has_double side.Left lefts rights = has_equal (map key_of rights)
has_double side.Right lefts rights = has_equal (map key_of lefts)

-- the keys that the others have, each as often as it stands
abbrev pub shared_keys : List Keyed → List Keyed → List Pairs
shared_keys lefts rights = map key_of (filter (λ x. has_key x.key rights) lefts)

-- what a left element gives with the right ones of its key
abbrev pub keyed_results : BinaryOp → Matched → List Keyed → Keyed → List Joined
keyed_results op m rights l = map (λ r. result_of op m l.element r.element) (with_key l.key rights)

abbrev pub joined_keyed : BinaryOp → Matched → List Keyed → List Keyed → StepCell
joined_keyed op m lefts rights =
    cond (has_double m.side lefts rights) (Bad DoubleOnOneSide)
    (cond (not (is_grouping m.side) && has_equal (shared_keys lefts rights)) (Bad ManyToMany)
    (cell_of_results m.side (joined (keyed_results op m rights) lefts)))
