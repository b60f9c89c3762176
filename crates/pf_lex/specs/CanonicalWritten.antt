-- How the grammar writes a query's canonical text: this project's own.
use Rattle.std.specs.Prelude.{ℕ, ℤ, pos, negsuc, zero, suc, ◌*◌, ◌&&◌, true, false, not, cond, List, Option, Some, None, option_map}
use Rattle.pf_base.specs.NumberTexts.{bare}
use Rattle.pf_model.specs.declared.expr.At.{At}
use Rattle.pf_model.specs.declared.expr.At.TheVariants.{Time, Start, End}
use Rattle.pf_model.specs.declared.expr.Mods.{Mods}
use Rattle.pf_model.specs.declared.expr.Side.{Side}
use Rattle.pf_model.specs.declared.expr.Side.TheVariants as side
use Rattle.pf_model.specs.Canonical.{is_one}
use Rattle.pf_model.specs.Clauses.{Matched}
use Rattle.pf_model.specs.Grammar as written
use Rattle.pf_model.specs.Grammar.{Arguments, FitAll, Group, Keys, Labels, Modifiers, AtModifier, Offset, Written, is_nil, terminals_of}
use Rattle.pf_model.specs.Trees as tree
use Rattle.pf_model.specs.Trees.{Tree, Trees}
use Rattle.pf_model.specs.Words.{function_name}
use Rattle.pf_lex.specs.CanonicalTokens.{IsPrintable, sorts_of}

abbrev pub labels_written : List (List ℕ) → Labels
labels_written labels = record { labels = labels; comma = false }

abbrev pub moment_written : At → AtModifier
moment_written (Time millis) = written.time bare (pos (millis * 1000))
moment_written Start = written.start
moment_written End = written.end

abbrev pub offset_written : ℤ → Option Offset
offset_written (pos zero) = None
offset_written (pos (suc n)) = Some (record { minus = false; millis = suc n })
offset_written (negsuc n) = Some (record { minus = true; millis = suc n })

abbrev pub mods_written : Mods → Modifiers
mods_written mods = record { offset = offset_written mods.offset; at = option_map moment_written mods.at; at_first = true }

abbrev pub group_written : Side → List (List ℕ) → Option Group
group_written side.One include = None
group_written side.Left include = Some (record { left = true; include = Some (labels_written include) })
group_written side.Right include = Some (record { left = false; include = Some (labels_written include) })

abbrev pub keys_written : Matched → Option Keys
keys_written m =
    cond (is_nil m.labels && not m.on && is_one m.side) None
    (Some (record { on = m.on; labels = labels_written m.labels; group = group_written m.side m.include }))

abbrev mutual
  pub written_of : Tree → Written
  written_of (tree.number micros) = written.number micros
  written_of (tree.text bytes) = written.text bytes
  written_of (tree.unary minus e) = written.unary minus (written.brackets (written_of e))
  written_of (tree.binary op m a b) =
      written.binary op (keys_written m) (written.brackets (written_of a)) (written.brackets (written_of b))
  written_of (tree.call f args) = written.call (function_name f) (all_written args)
  written_of (tree.aggregate op g args) = written.aggregate op (written.before g.without (labels_written g.labels)) (all_written args)
  written_of (tree.select ms range mods) =
      written.select (record { metric = None; braces = Some (record { matchers = ms; comma = false }) }) range (mods_written mods)
  written_of (tree.subquery e range resolution mods) =
      written.subquery (written.brackets (written_of e)) range resolution (mods_written mods)

  pub all_written : Trees → Arguments
  all_written tree.none = written.none
  all_written (tree.more e es) = written.more (written_of e) (all_written es)

-- the law: the tokens of the canonical text are those that the grammar wants
abbrev pub AreFit : Type 0
AreFit = (t : Tree) → IsPrintable t → FitAll (terminals_of (written_of t)) (sorts_of t)
