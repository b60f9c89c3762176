-- What stands among a call's arguments: this project's own.
use Rattle.std.specs.Prelude.{ℕ, Bool, true, false, None, List, [], ◌∷◌}
use Rattle.pf_base.specs.LabelSets.{is_label_name}
use Rattle.pf_model.specs.Trees as tree
use Rattle.pf_model.specs.Trees.{Tree, Trees}

-- a string that names a label
abbrev pub names_label : Tree → Bool
names_label (tree.text bytes) = is_label_name bytes
names_label t = false

-- the strings among trees
abbrev pub strings_in : Trees → List (List ℕ)
strings_in tree.none = []
strings_in (tree.more (tree.text bytes) args) = bytes ∷ strings_in args
strings_in (tree.more arg args) = strings_in args

abbrev pub is_instant_selector : Tree → Bool
is_instant_selector (tree.select ms None mods) = true
is_instant_selector t = false
