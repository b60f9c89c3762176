-- The trees that a reader of queries holds: none where a tree is of more than 64 levels, where a called name is no function's,
-- and where a time is past the greatest. This project's own.
use Rattle.std.specs.Prelude.{ℕ, ℤ, pos, neg_ℤ, Bool, cond, List, [], ◌∷◌, ◌++◌, nat_le, Option, Some, None, option_map}
use Rattle.std.specs.Option.{option_and_then}
use Rattle.pf_model.specs.Clauses.{Grouped, Matched}
use Rattle.pf_model.specs.declared.expr.At.{At}
use Rattle.pf_model.specs.declared.expr.BinaryOp.{BinaryOp}
use Rattle.pf_model.specs.declared.expr.Function.{Function}
use Rattle.pf_model.specs.declared.expr.Matcher.{Matcher}
use Rattle.pf_model.specs.declared.expr.Mods.{Mods}
use Rattle.pf_model.specs.declared.functions.AggOp.{AggOp}
use Rattle.pf_model.specs.Grammar.{both}
use Rattle.pf_model.specs.Trees.{Tree, height, trees_of}
use Rattle.pf_model.specs.Trees as tree
pub use Rattle.pf_parse.specs.declared.held.ModifiersRead.{ModifiersRead as Read}
pub use Rattle.pf_parse.specs.declared.held.Target.{Target}
pub use Rattle.pf_parse.specs.declared.held.Target.TheVariants.{Selector as selector, Subquery as subquery}

abbrev pub most_levels : ℕ
most_levels = 64

abbrev pub Held : Type 0
Held = Option Tree

-- a tree that isn't too tall
abbrev pub low : Tree → Held
low t = cond (nat_le (height t) most_levels) (Some t) None

abbrev pub held_unary : Bool → Held → Held
held_unary minus e = option_and_then (λ t. low (tree.unary minus t)) e

abbrev pub held_binary : BinaryOp → Matched → Held → Held → Held
held_binary op m a b = option_and_then (λ s. option_and_then (λ t. low (tree.binary op m s t)) b) a

-- arguments, none where one is none
abbrev pub with_argument : Option (List Tree) → Held → Option (List Tree)
with_argument args e = both (λ ts t. ts ++ (t ∷ [])) args e

abbrev pub held_call : Option Function → Option (List Tree) → Held
held_call f args = option_and_then (λ g. option_and_then (λ ts. low (tree.call g (trees_of ts))) args) f

abbrev pub held_aggregate : AggOp → Grouped → Option (List Tree) → Held
held_aggregate op g args = option_and_then (λ ts. low (tree.aggregate op g (trees_of ts))) args

-- ---- what modifiers stand behind

abbrev pub nothing_read : Read
nothing_read = record { offset = None; at = None }

abbrev pub offset_read : Option (Option ℤ) → Option ℤ
offset_read None = Some (pos 0)
offset_read (Some o) = o

abbrev pub at_read : Option (Option At) → Option (Option At)
at_read None = Some None
at_read (Some a) = option_map Some a

abbrev pub mods_read : Read → Option Mods
mods_read r = both (λ o a. record { at = a; offset = o }) (offset_read r.offset) (at_read r.at)

abbrev pub with_mods : Mods → Target → Held
with_mods mods (selector ms range) = Some (tree.select ms range mods)
with_mods mods (subquery e range resolution) = low (tree.subquery e range resolution mods)

abbrev pub held_target : Option Target → Read → Held
held_target target r = option_and_then (λ mods. option_and_then (with_mods mods) target) (mods_read r)

-- an offset with its sign
abbrev pub offset_of : (minus : Bool) → Option ℕ → Option ℤ
offset_of minus d = option_map (λ n. cond minus (neg_ℤ (pos n)) (pos n)) d

abbrev pub ranged : List Matcher → Option ℕ → Option Target
ranged ms range = option_map (λ d. selector ms (Some d)) range

-- a subquery without a resolution, and with one
abbrev pub over : Held → Option ℕ → Option Target
over e range = both (λ t d. subquery t d None) e range

abbrev pub over_by : Held → Option ℕ → Option ℕ → Option Target
over_by e range resolution = option_and_then (λ r. both (λ t d. subquery t d (Some r)) e range) resolution
