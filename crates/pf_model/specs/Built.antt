-- The queries that are evaluated node by node over a run of steps: this project's own.
use Rattle.std.specs.Prelude.{ℕ, zero, suc, nat_le, unsigned_abs, Bool, true, false, ◌&&◌, ◌||◌, not, Option, Some, is_none, List}
use Rattle.std.specs.List.{list_all}
use Rattle.pf_base.specs.LabelSets.{is_label_name}
use Rattle.pf_base.specs.Limits.{greatest_time}
use Rattle.pf_model.specs.declared.expr.At.{At}
use Rattle.pf_model.specs.declared.expr.At.TheVariants as at
use Rattle.pf_model.specs.declared.expr.Function.TheVariants as called
use Rattle.pf_model.specs.declared.expr.Matcher.{Matcher}
use Rattle.pf_model.specs.declared.expr.Mods.{Mods}
use Rattle.pf_model.specs.declared.functions.InstantFn.{InstantFn}
use Rattle.pf_model.specs.declared.functions.InstantFn.TheVariants as function
use Rattle.pf_model.specs.Evaluation.{resolution_or_minute}
use Rattle.pf_model.specs.Trees as tree
use Rattle.pf_model.specs.Trees.{Tree, Trees}

-- a distance, or a time, of at most the greatest time that a query has, in milliseconds
abbrev pub is_distance : ℕ → Bool
is_distance millis = nat_le millis greatest_time

abbrev pub is_time : Option At → Bool
is_time (Some (at.Time millis)) = is_distance millis
is_time _ = true

abbrev pub are_near : Mods → Bool
are_near mods = is_time mods.at && is_distance (unsigned_abs mods.offset)

-- the resolution of a subquery
abbrev pub is_resolution : ℕ → Bool
is_resolution zero = false
is_resolution (suc millis) = is_distance (suc millis)

-- each matcher names a label
abbrev pub name_labels : List Matcher → Bool
name_labels ms = list_all (λ m. is_label_name m.label) ms

abbrev pub is_string : Tree → Bool
is_string (tree.text bytes) = true
is_string _ = false

-- a call whose strings stand where the definitions read them, and whose target names a label
abbrev pub is_replacing : Trees → Bool
is_replacing (tree.more vector (tree.more (tree.text target) (tree.more (tree.text replacement) (tree.more (tree.text source) (tree.more (tree.text pattern) tree.none))))) =
    not (is_string vector) && is_label_name target
is_replacing args = false

abbrev pub is_joining : Trees → Bool
is_joining (tree.more vector (tree.more (tree.text target) args)) = not (is_string vector) && is_label_name target
is_joining args = false

-- the labels of `absent` are those of a selector
abbrev pub is_absent_call : Trees → Bool
is_absent_call (tree.more (tree.select ms range mods) args) = name_labels ms
is_absent_call args = true

abbrev pub is_one : Trees → Bool
is_one (tree.more arg tree.none) = true
is_one args = false

abbrev pub is_lawful_call : InstantFn → Trees → Bool
is_lawful_call function.LabelReplace args = is_replacing args
is_lawful_call function.LabelJoin args = is_joining args
is_lawful_call function.Absent args = is_absent_call args
is_lawful_call function.Timestamp args = is_one args
is_lawful_call f args = true

abbrev mutual
  pub is_evaluated : Tree → Bool
  is_evaluated (tree.number v) = true
  is_evaluated (tree.text bytes) = false
  is_evaluated (tree.unary minus arg) = is_evaluated arg
  is_evaluated (tree.binary op m left right) = list_all is_label_name m.include && (is_evaluated left && is_evaluated right)
  is_evaluated (tree.call (called.Range f) args) = is_range_argument args
  is_evaluated (tree.call (called.Instant f) args) = is_lawful_call f args && are_arguments args
  is_evaluated (tree.aggregate op g args) = are_evaluated args
  is_evaluated (tree.select ms range mods) = is_none range && are_near mods
  is_evaluated (tree.subquery arg range resolution mods) = false

  pub are_evaluated : Trees → Bool
  are_evaluated tree.none = true
  are_evaluated (tree.more arg args) = is_evaluated arg && are_evaluated args

  -- strings, and queries that are evaluated
  pub are_arguments : Trees → Bool
  are_arguments tree.none = true
  are_arguments (tree.more arg args) = (is_string arg || is_evaluated arg) && are_arguments args

  -- exactly one range
  pub is_range_argument : Trees → Bool
  is_range_argument (tree.more arg tree.none) = is_range arg
  is_range_argument args = false

  pub is_range : Tree → Bool
  is_range (tree.select ms (Some range) mods) = name_labels ms && (is_distance range && are_near mods)
  is_range (tree.subquery arg range resolution mods) =
      is_evaluated arg && (is_distance range && (is_resolution (resolution_or_minute resolution) && are_near mods))
  is_range t = false
